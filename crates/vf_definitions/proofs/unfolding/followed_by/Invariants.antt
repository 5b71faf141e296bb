use Rattle.std.proofs.Common.{◌≡◌, ◌++◌, take}
use Rattle.vf_definitions.proofs.unfolding.followed_by.Given as goal

abbrev pub invariant-loop-other : goal.invariant-loop-other
invariant-loop-other l = l.all ≡ l.terms ++ take l.other-index l.other-items
