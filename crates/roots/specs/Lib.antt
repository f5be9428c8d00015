-- What document 01 says of the square root and of hypot: crate exact_roots says it.
pub mod Root
pub mod Hypot
