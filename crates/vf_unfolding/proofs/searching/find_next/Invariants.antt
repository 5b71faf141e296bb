use Rattle.std.proofs.Common.{ℕ, ◌<◌}
use Rattle.std.specs.Prelude.{slice_index}
use Rattle.vf_question.specs.Questions.{at}
use Rattle.vf_unfolding.specs.Searched.{IsUnfolded}
use Rattle.vf_unfolding.proofs.searching.find_next.Given as goal

abbrev pub invariant-loop-i : goal.invariant-loop-i
invariant-loop-i g l = (k : ℕ) → k < l.i → IsUnfolded (g.U.Unfolder.unfoldings l.unfolder) l.made l.interning.literals l.terms l.depths (at l.terms k) (slice_index l.depths k)
