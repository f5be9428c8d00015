pub mod Steps
pub mod Along
