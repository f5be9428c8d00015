-- What is right, and what the steps to it compute.
pub mod MultiplyAdd
pub mod TwoLimbs
