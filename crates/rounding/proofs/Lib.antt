-- The laws, in reading order.
pub mod Compare
pub mod Powers
pub mod Sticks
pub mod StickyLaw
pub mod Halves
pub mod Leading
pub mod Pack
pub mod Scaled
pub mod Unpack
