pub mod Chain
pub mod Ends
pub mod Inspection
pub mod Run
pub mod Steps
pub mod World
