use Rattle.vf_link.specs.Marks.{Marks, IsContradicted}
use Rattle.vf_link.proofs.repeats.mark_contradictions.Given as goal

abbrev pub invariant-loop-at : goal.invariant-loop-at
invariant-loop-at l = Marks l.at l.marks.items (IsContradicted l.subjects l.contents)
