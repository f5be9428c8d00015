pub mod Most
pub mod Refusals
pub mod Outcome
pub mod Refusal
