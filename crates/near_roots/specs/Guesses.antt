-- What is said of a guess at v: where there is one, it is v; where there is none, nothing is known.
use Rattle.std.specs.Prelude.{◌≡◌, true, T, Option, Some, None, Float}

abbrev pub OnlyRight : Float → Option Float → Type 0
OnlyRight v (Some x) = x ≡ v
OnlyRight v None = T true
