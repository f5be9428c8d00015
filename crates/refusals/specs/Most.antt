-- The limits of document 01, named once. 1: "256 rows is the most", three doubles to a row. 11: "fewer than 2 stations or more than 4,096". 28: "more than 65,536 samples".
use Rattle.std.specs.Prelude.{ℕ}

abbrev pub most_rows : ℕ
most_rows = 256

abbrev pub most_stations : ℕ
most_stations = 4096

abbrev pub most_samples : ℕ
most_samples = 65536
