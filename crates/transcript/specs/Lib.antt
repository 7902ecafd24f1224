pub mod Rows
pub mod Session
pub mod Steps
pub mod Text
