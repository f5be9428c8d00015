-- The laws, in reading order.
pub mod WholeFloats
pub mod UpperSums
pub mod Tested
