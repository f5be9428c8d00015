-- Demand 3, in its order: no gap, joined lists, the same rows.
pub mod NoGap
pub mod Join
pub mod Gathered
pub mod Brought
pub mod RowLaw
-- What holds of every answer, by the ways to it.
pub mod Reports
pub mod Ways
pub mod Soundness
-- The greatest passing double: numbers of p digits, the middle, the halvings, the whole search.
pub mod Digits
pub mod Mean
pub mod Middle
pub mod Gaps
pub mod Bracket
pub mod Start
pub mod Greatest
-- All four sentences.
pub mod Whole
