-- Document 01, "Recovery", from the cap on, in its order; then what inner functions alone promise, by the table.
pub mod Answer
pub mod Search
pub mod Cap
pub mod OnTable
