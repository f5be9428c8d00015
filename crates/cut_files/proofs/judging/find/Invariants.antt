use Rattle.std.proofs.Common.{◌≡◌}
use Rattle.cut_files.specs.File.{sections_left, sections_of, among}
use Rattle.cut_files.proofs.judging.find.Given as goal

abbrev pub invariant-loop-section : goal.invariant-loop-section
invariant-loop-section l =
    let s = l.section-iterator in
    among l.asked (sections_left s.file.now s.at s.previous) ≡ among l.asked (sections_of l.file)
