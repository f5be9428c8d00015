pub mod Samples
pub mod List
