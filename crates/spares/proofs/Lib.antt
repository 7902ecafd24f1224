pub mod Adding
pub mod Alike
pub mod Decided
pub mod Laws
pub mod Outcomes
