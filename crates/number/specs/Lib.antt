-- What document 01 says of the number leaves, and the short names of its doubles and rounded operations.
pub mod Units
pub mod Leaves
pub mod Doubles
