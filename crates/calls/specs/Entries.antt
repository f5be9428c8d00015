-- The numbers that stand for the entries in a case.
use Rattle.std.specs.Prelude.{ℕ}
use Rattle.calls.specs.declared.entry.Entry.{Entry}
use Rattle.calls.specs.declared.entry.Entry.TheVariants.{Sqrt, Fma, Hypot, NextDown, Minimum, Maximum, Absolute, WholePart}
use Rattle.calls.specs.declared.entry.Entry.TheVariants.{Recover, AToB, SToT, TToSList, TToSGrid, WalkStart, WalkStep, CutFileSection}

abbrev pub entry_number : Entry → ℕ
entry_number Sqrt = 0
entry_number Fma = 1
entry_number Hypot = 2
entry_number NextDown = 3
entry_number Minimum = 4
entry_number Maximum = 5
entry_number Absolute = 6
entry_number WholePart = 7
entry_number Recover = 8
entry_number AToB = 9
entry_number SToT = 10
entry_number TToSList = 11
entry_number TToSGrid = 12
entry_number WalkStart = 13
entry_number WalkStep = 14
entry_number CutFileSection = 15
