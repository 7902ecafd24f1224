pub mod Answers
pub mod Attributes
pub mod Bits
pub mod Locality
pub mod Outcomes
