pub mod Answers
pub mod Bytes
pub mod HolderNumbers
pub mod Holding
pub mod Landing
pub mod Made
pub mod RecordNumbers
pub mod Standing
