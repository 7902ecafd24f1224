pub mod Answers
pub mod Default
pub mod Drive
pub mod Following
pub mod Limits
pub mod Orders
pub mod SectorBytes
pub mod Sectors
