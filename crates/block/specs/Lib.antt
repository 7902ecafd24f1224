pub mod Block
pub mod Events
pub mod Steps
pub mod Tells
