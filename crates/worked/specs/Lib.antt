pub mod SmallDrive
