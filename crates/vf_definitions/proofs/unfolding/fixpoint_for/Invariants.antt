use Rattle.std.proofs.Common.{◌≡◌, drop}
use Rattle.vf_formula.specs.Heads.{shown_kind}
use Rattle.vf_definitions.specs.Unfolded.{fixpoint_for}
use Rattle.vf_definitions.proofs.unfolding.fixpoint_for.Given as goal

abbrev pub invariant-loop-fixpoint : goal.invariant-loop-fixpoint
invariant-loop-fixpoint l = fixpoint_for (drop l.fixpoint-index l.fixpoints) (shown_kind l.kind) l.identity ≡ fixpoint_for l.fixpoints (shown_kind l.kind) l.identity
