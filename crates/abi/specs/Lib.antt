pub mod Calls
pub mod InSteps
pub mod Layouts
pub mod Machines
pub mod Places
pub mod Readings
pub mod Stepping
pub mod Unread
