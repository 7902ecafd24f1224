pub mod Among
pub mod Copy
pub mod Memory
pub mod Promise
pub mod Storing
pub mod Words
