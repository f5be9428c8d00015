pub mod RowScans
pub mod Within
pub mod Readings
