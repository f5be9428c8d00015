pub mod Blocks
pub mod Tables
pub mod Scanning
pub mod Finding
