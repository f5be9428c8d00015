use Rattle.std.proofs.Common.{◌≡◌}
use Rattle.cut_files.specs.File.{sections_left, sections_of, fault_in}
use Rattle.cut_files.proofs.judging.file_number.Given as goal

abbrev pub invariant-loop-section : goal.invariant-loop-section
invariant-loop-section l =
    let s = l.section-iterator in
    fault_in (sections_left s.file.now s.at s.previous) ≡ fault_in (sections_of l.file)
