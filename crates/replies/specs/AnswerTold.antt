-- Recovery as a C caller has it: rows from bytes, 01's number for each case of the answer, and what the four lent numbers then hold.
use Rattle.std.specs.Prelude.{ℕ, ◌≡◌, cond, Ok, Err, List}
use Rattle.std.specs.Float.{binary64}
use Rattle.std.specs.Float.Ieee.{to_bits}
use Rattle.limits.specs.declared.request.Request.{Request}
use Rattle.search.specs.Answer.{Answer}
use Rattle.topp2_ra.specs.Recovery.{recovered}
use Rattle.byte_lists.specs.Bytes.{in_eights, doubles_of}

-- ---- 10: "a byte list of a length not divisible by eight; before all others"
unfoldable pub recovered_bytes : Request → List ℕ → Answer
recovered_bytes q rows = cond (in_eights rows) (recovered q (doubles_of rows)) (Err 10)

-- ---- the number of each case: 0 where it is certified
abbrev pub number_of : Answer → ℕ
number_of (Ok c) = 0
number_of (Err k) = k

-- the values of each case, as patterns: a refusal leaves what there was
abbrev pub speed_left : Answer → ℕ → ℕ
speed_left (Ok c) old = to_bits binary64 c.speed
speed_left (Err k) old = old

abbrev pub normalized_left : Answer → ℕ → ℕ
normalized_left (Ok c) old = to_bits binary64 c.worst_normalized
normalized_left (Err k) old = old

abbrev pub raw_left : Answer → ℕ → ℕ
raw_left (Ok c) old = to_bits binary64 c.worst_raw
raw_left (Err k) old = old

abbrev pub tried_left : Answer → ℕ → ℕ
tried_left (Ok c) old = c.tried
tried_left (Err k) old = old

-- the reply to an answer: the number, and each lent number before and after
pub record Told (a : Answer) (number speed₀ speed normalized₀ normalized raw₀ raw tried₀ tried : ℕ) : Type 0 where
  pub number_is : number ≡ number_of a
  pub speed_is : speed ≡ speed_left a speed₀
  pub normalized_is : normalized ≡ normalized_left a normalized₀
  pub raw_is : raw ≡ raw_left a raw₀
  pub tried_is : tried ≡ tried_left a tried₀
