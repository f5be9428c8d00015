-- The laws, in reading order.
pub mod NearestSum
pub mod Settled
