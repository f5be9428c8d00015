-- The laws, in reading order.
pub mod Rounds
pub mod Shifts
pub mod Squares
