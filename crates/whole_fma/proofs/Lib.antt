-- The laws, in reading order.
pub mod Cuts
pub mod Borrows
pub mod Sums
pub mod Windowed
pub mod InWindows
pub mod Specials
