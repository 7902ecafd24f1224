pub mod Ask
pub mod Errors
pub mod Identity
pub mod Layout
