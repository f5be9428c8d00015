pub mod Reporting
pub mod Walks
