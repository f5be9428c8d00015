-- What holds of each entry of a list of doubles, and of each entry with the next.
use Rattle.std.specs.Prelude.{◌+◌, ◌-◌, Bool, List, length, Float}
use Rattle.loops.specs.Upto.{every, at}

-- every entry has p
unfoldable pub every_entry : (Float → Bool) → List Float → Bool
every_entry p x = every (λ k. p (at x k)) (length x)

-- every two neighbours have p
unfoldable pub every_pair : (Float → Float → Bool) → List Float → Bool
every_pair p x = every (λ k. p (at x k) (at x (k + 1))) (length x - 1)
