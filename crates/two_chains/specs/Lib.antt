pub mod EitherOrder
pub mod Orders
