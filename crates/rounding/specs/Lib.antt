pub mod Stick
pub mod Packing
