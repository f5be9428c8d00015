-- Document 01, "Recovery": the tolerant comparison, the refusals in order, the whole.
pub mod Tolerant
pub mod Recovery
