use Rattle.std.proofs.Common.{◌≡◌, ◌+◌, drop}
use Rattle.vf_question.specs.Numbered.{place}
use Rattle.vf_interning.proofs.numbering.place.Given as goal

abbrev pub invariant-loop-i : goal.invariant-loop-i
invariant-loop-i l = place l.term l.terms ≡ l.i + place l.term (drop l.i l.terms)
