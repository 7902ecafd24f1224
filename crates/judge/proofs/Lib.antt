pub mod Buffers
pub mod EachTask
pub mod First
pub mod Known
pub mod LetThrough
pub mod LongEnough
pub mod Locality
pub mod Outcomes
mod Passing
pub mod Read
pub mod Sectors
pub mod Table
pub mod Tasks
