pub mod Grid
pub mod Ending
