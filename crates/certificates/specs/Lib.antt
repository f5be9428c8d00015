-- Document 01, "Recovery": the certificate. `RowByRow` is cited by inner functions alone.
pub mod Certificate
pub mod RowByRow
