-- Document 01, "Recovery": bounds and projection, in its order.
pub mod Bounds
pub mod Projection
