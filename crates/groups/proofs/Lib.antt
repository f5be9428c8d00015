pub mod Values
pub mod Numbers
