-- The laws, in reading order.
pub mod Kept
pub mod RoundNearest
pub mod OneNearest
