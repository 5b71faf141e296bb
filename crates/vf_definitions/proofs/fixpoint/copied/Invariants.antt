use Rattle.std.proofs.Common.{◌≡◌, take}
use Rattle.vf_definitions.proofs.fixpoint.copied.Given as goal

abbrev pub invariant-loop-case : goal.invariant-loop-case
invariant-loop-case l = l.copies ≡ take l.case-index l.case-items
