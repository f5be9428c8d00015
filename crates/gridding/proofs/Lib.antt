pub mod Griddings
