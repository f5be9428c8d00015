pub mod Chains
pub mod Outcomes
pub mod Refused
