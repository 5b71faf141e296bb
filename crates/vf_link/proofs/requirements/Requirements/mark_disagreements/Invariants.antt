use Rattle.vf_link.specs.Marks.{Marks, DisagreesWith}
use Rattle.vf_link.proofs.requirements.Requirements.mark_disagreements.Given as goal

abbrev pub invariant-loop-at : goal.invariant-loop-at
invariant-loop-at l = Marks l.at l.marks.items (DisagreesWith l.self.provided l.self.statements.subjects l.self.statements.contents)
