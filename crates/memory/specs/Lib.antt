pub mod Lists
pub mod Pieces
pub mod Readable
pub mod Scan
