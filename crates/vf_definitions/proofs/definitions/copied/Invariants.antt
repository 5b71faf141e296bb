use Rattle.std.proofs.Common.{◌≡◌, take}
use Rattle.vf_definitions.proofs.definitions.copied.Given as goal

abbrev pub invariant-loop-fixpoint : goal.invariant-loop-fixpoint
invariant-loop-fixpoint l = l.copies ≡ take l.fixpoint-index l.fixpoint-items
