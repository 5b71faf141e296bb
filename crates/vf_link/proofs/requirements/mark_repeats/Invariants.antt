use Rattle.std.proofs.Common.{◌≢◌, get_or}
use Rattle.vf_link.specs.Marks.{Marks}
use Rattle.vf_link.proofs.requirements.mark_repeats.Given as goal

abbrev pub invariant-loop-at : goal.invariant-loop-at
invariant-loop-at l = Marks l.at l.marks.items (λ k. get_or l.firsts k 0 ≢ k)
