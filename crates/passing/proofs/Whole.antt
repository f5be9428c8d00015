-- Demand 3, whole: each field is its sentence's law. Assumes nothing.
use Prim.Native.Nat.{ℕ}
use mathlib.Core.List.{List}
use lib.Ieee.{Float, binary64, of_bits}
use Rattle.rows.specs.Rows.{rows_of}
use Rattle.limits.specs.declared.request.Request.{Request}
use Rattle.passing.specs.Demand.{Doubles, Demanded}
use Rattle.passing.proofs.Reports.{Reported}
use Rattle.passing.proofs.NoGap as gaps
use Rattle.passing.proofs.Join as joins
use Rattle.passing.proofs.RowLaw as laws
use Rattle.passing.proofs.Greatest as greatests

pub demanded : (q : Request) (l : List Float) (number speed tried : ℕ) → Doubles q → Reported q l number speed tried → Demanded q l number speed
demanded q l number speed tried D R = record {
  no_gap = gaps.no_gap q (rows_of l);
  join = joins.join q l;
  row_law = λ m. laws.row_law q l m D;
  greatest = λ z. greatests.greatest q l (of_bits binary64 speed) (R z).0 (R z).1 tried D (R z).2;
}
