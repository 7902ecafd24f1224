pub mod Chains
pub mod Elsewhere
pub mod Legs
pub mod Outcomes
pub mod Parts
pub mod Runs
