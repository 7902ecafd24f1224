pub mod Decided
pub mod Laws
pub mod Memory
pub mod Numbers
pub mod Outcomes
pub mod Promises
