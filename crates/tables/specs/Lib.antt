-- How a row is worked out once for all candidates: a block for each row, and certificate and projection by them.
pub mod Table
pub mod Findings
pub mod ByBlocks
