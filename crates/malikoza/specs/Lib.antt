pub mod Recover
pub mod Steps
pub mod Stations
