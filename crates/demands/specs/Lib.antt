pub mod Footprint
pub mod PastMarks
pub mod Tables
pub mod Visits
