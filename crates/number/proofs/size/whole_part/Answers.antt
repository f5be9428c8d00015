use Rattle.number.proofs.size.whole_part.Goals as goal

-- the kit's function is named, so that no other value is taken for its own
pub returns : goal.returns
returns c = c.saturating_f64_to_u64.ensures
