pub mod Turns
pub mod Answering
