pub mod Entries
pub mod Marks
