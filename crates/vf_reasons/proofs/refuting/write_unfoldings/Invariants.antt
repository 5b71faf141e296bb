use Rattle.std.proofs.Common.{List, [], take}
use Rattle.vf_closure.specs.Literals.{Literal}
use Rattle.vf_unfolding.specs.Rounds.{AreInTurn}
use Rattle.vf_reasons.specs.Drafts.{IsDraft}
use Rattle.vf_reasons.proofs.refuting.write_unfoldings.Given as goal

abbrev pub invariant-loop-unfolding : goal.invariant-loop-unfolding
invariant-loop-unfolding g l = (ls : List Literal) → IsDraft (g.U.Unfolder.unfoldings l.unfolder) ls [] l.initial.basis l.initial.draft → AreInTurn (g.U.Unfolder.unfoldings l.unfolder) ls l.made → IsDraft (g.U.Unfolder.unfoldings l.unfolder) ls (take l.unfolding-index l.made) l.basis l.draft
