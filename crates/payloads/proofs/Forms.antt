-- What holds of the four answers on a kind holds of every kind's.
use Rattle.std.proofs.Common.{ℕ, Bool, true, false, cond, ◌&&◌, Result, Ok, Err, leb, eqb}
use Rattle.refusals.specs.Most.{most_stations, most_samples}
use Rattle.payloads.specs.Payload.{form_of}
use Rattle.payloads.specs.declared.form.Form.{Form}
use Rattle.payloads.specs.declared.form.Form.TheVariants.{Listed, Grid}

pub each_form : (P : Result Form ℕ → Type 0) → P (Ok (Listed most_stations)) → P (Ok Grid) → P (Ok (Listed most_samples)) → P (Err 42)
    → (kind : ℕ) → P (form_of kind)
unfolding form_of
each_form P stations even samples none kind = listed (leb 1 kind && leb kind 3)
  where
    other : (t : Bool) → P (cond t (Ok (Listed most_samples)) (Err 42))
    other true = samples
    other false = none

    grid : (t : Bool) → P (cond t (Ok Grid) (cond (eqb kind 5) (Ok (Listed most_samples)) (Err 42)))
    grid true = even
    grid false = other (eqb kind 5)

    listed : (t : Bool) → P (cond t (Ok (Listed most_stations)) (cond (eqb kind 4) (Ok Grid) (cond (eqb kind 5) (Ok (Listed most_samples)) (Err 42))))
    listed true = stations
    listed false = grid (eqb kind 4)
