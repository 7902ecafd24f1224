pub mod Fields
pub mod Outcomes
pub mod Plays
pub mod Rows
pub mod Speaks
pub mod Texts
