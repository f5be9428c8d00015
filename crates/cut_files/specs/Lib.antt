pub mod File
pub mod Part
