use mathlib.Core.Path.{refl}
use Rattle.rounding.proofs.packing.fields.Goals as goal

pub returns : goal.returns
returns c = (refl, refl)
