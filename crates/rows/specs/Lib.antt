-- Document 01, "Recovery": rows. `Reading` and `Judging` say the same of a row in two steps, what depends on no speed first.
pub mod Rows
pub mod Row
pub mod Reading
pub mod Judging
