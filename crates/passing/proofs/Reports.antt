-- What a call reports of recovery's answer: the number 0, then the speed's pattern and the count. Assumes nothing.
use Rattle.std.proofs.Common.{ℕ, ◌≡◌, Ok, List}
use lib.Ieee.{Float, binary64, of_bits}
use Rattle.limits.specs.declared.request.Request.{Request}
use Rattle.search.specs.Answer.{certified}
use Rattle.topp2_ra.specs.Recovery.{recovered}

abbrev pub Reported : Request → List Float → ℕ → ℕ → ℕ → Type 0
Reported q l number speed tried = number ≡ 0 → (n : Float) × (r : Float) × (recovered q l ≡ Ok (certified (of_bits binary64 speed) n r tried))
