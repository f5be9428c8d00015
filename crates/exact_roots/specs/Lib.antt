-- What document 01 says of the square root and of hypot.
pub mod Root
pub mod CutRoot
pub mod NearRoot
pub mod Hypot
