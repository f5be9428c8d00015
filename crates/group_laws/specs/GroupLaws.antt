-- What holds of every whole number in groups: ten groups and 2^64 are the exact edge, and within it each number has one form.
use Rattle.std.specs.Prelude.{ℕ, ◌-◌, ◌^◌, ◌<◌, ◌≤◌, ◌≡◌, true, List, length, Ok}
use Rattle.std.proofs.Math.Pow.{are_bytes}
use Rattle.groups.specs.Groups.{read_at, number}

-- a byte string reads, as a whole, as the number n
abbrev pub ReadsAs : ℕ → List ℕ → Type 0
ReadsAs n l = read_at l 0 (length l) ≡ Ok (number n (length l))

-- "shortest form only": two byte strings that read as one number are equal
abbrev pub OneForm : Type 0
OneForm = (n : ℕ) (l m : List ℕ) → are_bytes l ≡ true → are_bytes m ≡ true → ReadsAs n l → ReadsAs n m → l ≡ m

-- "below 2^64": each number below has a form
abbrev pub EachHasOne : Type 0
EachHasOne = (n : ℕ) → n < 2 ^ 64 → (l : List ℕ) × (are_bytes l ≡ true) × ReadsAs n l

-- no number from 2^64 on has one, wherever it would stand
abbrev pub NoneAbove : Type 0
NoneAbove = (l : List ℕ) (at end n next : ℕ) → read_at l at end ≡ Ok (number n next) → n < 2 ^ 64

-- "at most ten groups": as many as the number needs, since 128^9 is 2^63
abbrev pub AsManyAsNeeded : Type 0
AsManyAsNeeded = (n : ℕ) (l : List ℕ) → ReadsAs n l → (length l ≤ 10) × (n < 128 ^ length l) × (1 < length l → 128 ^ (length l - 1) ≤ n)
