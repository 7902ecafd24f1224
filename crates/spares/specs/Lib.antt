pub mod Lands
pub mod Table
pub mod Tracks
