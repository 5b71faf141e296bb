use Rattle.vf_link.specs.Marks.{Marks, IsNoneOf}
use Rattle.vf_link.proofs.requirements.Requirements.mark_unmet.Given as goal

abbrev pub invariant-loop-at : goal.invariant-loop-at
invariant-loop-at l = Marks l.at l.marks.items (IsNoneOf l.self.provided l.self.statements.subjects)
