-- The laws: the order of values and of rounded operations; what a pattern stands for; then what the code's tests and steps mean.
pub mod Fractions
pub mod Order
pub mod Rounded
pub mod Monotone
pub mod Folds
pub mod Extremes
pub mod Patterns
pub mod Neighbour
pub mod Sizes
pub mod Picks
pub mod Downward
pub mod ReadBack
