-- What `malikoza_recover` leaves, and what is promised of that.
use Rattle.std.specs.Prelude.{ℕ, List}
use Rattle.limits.specs.declared.request.Request.{Request}
use Rattle.passing.specs.Demand.{Demanded, Sound}
use Rattle.byte_lists.specs.Bytes.{doubles_of}
use Rattle.replies.specs.AnswerTold.{recovered_bytes, Told}

pub record Recovering (q : Request) (rows : List ℕ) (number speed₀ speed normalized₀ normalized raw₀ raw tried₀ tried : ℕ) : Type 0 where
  pub told : Told (recovered_bytes q rows) number speed₀ speed normalized₀ normalized raw₀ raw tried₀ tried
  pub demanded : Demanded q (doubles_of rows) number speed
  pub sound : Sound q (doubles_of rows) number speed tried
