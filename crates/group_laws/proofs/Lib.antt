pub mod Sizes
pub mod OneForm
pub mod EachHasOne
