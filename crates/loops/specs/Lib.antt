pub mod Upto
pub mod Entries
