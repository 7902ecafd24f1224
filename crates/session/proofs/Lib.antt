pub mod Ending
pub mod Fields
pub mod Reading
pub mod Sessions
pub mod Turns
