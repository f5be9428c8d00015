-- "1 stations, 2 squared speeds, 3 times, 4 even grid (t0 pattern, dt pattern, 0 or 1 for the final), 5 samples.
-- Kinds 1, 2, 3 and 5 hold a count and that many double patterns."
use Rattle.std.specs.Prelude.{ℕ, ◌+◌, ◌*◌, ◌-◌, cond, ◌&&◌, List, leb, eqb, get_or, Result, Ok, Err}
use Rattle.refusals.specs.Most.{most_stations, most_samples}
use Rattle.refusals.specs.Refusals.{unless, ◌or◌}
use Rattle.groups.specs.Groups.{read_at}
use Rattle.groups.specs.declared.Number.{Number}
use Rattle.groups.specs.declared.Fault.{Fault}
use Rattle.groups.specs.declared.Fault.TheVariants.{Cut, Faulty}
use Rattle.payloads.specs.declared.form.Form.{Form}
use Rattle.payloads.specs.declared.form.Form.TheVariants.{Listed, Grid}

-- "Lists keep 01's upper limits"; 42 "unknown kind"
unfoldable pub form_of : ℕ → Result Form ℕ
form_of kind =
    cond (leb 1 kind && leb kind 3) (Ok (Listed most_stations))
    (cond (eqb kind 4) (Ok Grid)
    (cond (eqb kind 5) (Ok (Listed most_samples)) (Err 42)))

abbrev pub form_number : Result Form ℕ → ℕ
form_number (Ok form) = 0
form_number (Err n) = n

-- the count of a list whose payload ends at a place: 45 for "a count over its limit (before its patterns) .. or bytes wanting or left over,
-- which comes before 41 at the payload's end"
unfoldable pub count_number : ℕ → ℕ → Result Number Fault → ℕ
count_number limit end (Ok n) = unless (leb n.value limit) 45 or unless (eqb (end - n.next) (8 * n.value)) 45
count_number limit end (Err Cut) = 45
count_number limit end (Err Faulty) = 41

-- "A pattern is eight bytes .. the final's flag is one byte": 45 for "a flag above 1, or bytes wanting or left over"
unfoldable pub grid_number : List ℕ → ℕ → ℕ → ℕ
grid_number l start end = unless (eqb (end - start) 17) 45 or unless (leb (get_or l (start + 16) 0) 1) 45

-- the first fault of a payload, from one place of a file to another; 0 for none
unfoldable pub payload_number : List ℕ → Result Form ℕ → ℕ → ℕ → ℕ
payload_number l (Ok (Listed limit)) start end = count_number limit end (read_at l start end)
payload_number l (Ok Grid) start end = grid_number l start end
payload_number l (Err n) start end = n
