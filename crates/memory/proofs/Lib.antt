pub mod Decided
pub mod Lists
pub mod Locality
pub mod Outcomes
pub mod Slots
