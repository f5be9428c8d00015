-- Document 02, request 1: "Walk a whole strap."
pub mod Walking
