pub mod Drive
pub mod Memory
pub mod Spared
pub mod Starred
