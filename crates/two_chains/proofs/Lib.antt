pub mod EitherOrder
pub mod Orders
pub mod Outcomes
