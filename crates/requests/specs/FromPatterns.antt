-- The request that a C caller's patterns make.
use Rattle.std.specs.Prelude.{ℕ}
use Rattle.std.specs.Float.{binary64}
use Rattle.std.specs.Float.Ieee.{of_bits}
use Rattle.limits.specs.declared.request.Station.{Station}
use Rattle.limits.specs.declared.request.Tolerances.{Tolerances}
use Rattle.limits.specs.declared.request.Request.{Request}

abbrev pub station_of : ℕ → ℕ → ℕ → Station
station_of lower upper cap = record { interval = record { lower = of_bits binary64 lower; upper = of_bits binary64 upper }; cap = of_bits binary64 cap }

abbrev pub tolerances_of : ℕ → ℕ → ℕ → Tolerances
tolerances_of feas abs rel = record { feas = of_bits binary64 feas; abs = of_bits binary64 abs; rel = of_bits binary64 rel }

abbrev pub request_of : ℕ → Station → Station → Tolerances → Request
request_of a prev curr tolerances = record { a_prev = of_bits binary64 a; prev = prev; curr = curr; tolerances = tolerances }
