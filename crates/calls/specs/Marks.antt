-- What the output holds before a call.
use Rattle.std.specs.Prelude.{ℕ, ◌*◌, ◌/◌, ◌%◌, ◌^◌}

-- place i: the low bytes of multiples of one large number, so that neighbours differ
unfoldable pub mark_at : ℕ → ℕ
mark_at i = i * 2654435769 % 2 ^ 64 / 128 % 256
