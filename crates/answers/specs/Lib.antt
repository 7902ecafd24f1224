pub mod Numbers
pub mod RunNumbers
