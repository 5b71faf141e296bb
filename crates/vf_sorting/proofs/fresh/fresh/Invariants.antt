use Rattle.std.proofs.Common.{◌≡◌}
use Rattle.vf_sorting.specs.Kinds.{with_fresh}
use Rattle.vf_sorting.proofs.fresh.fresh.Given as goal

abbrev pub invariant-loop-made : goal.invariant-loop-made
invariant-loop-made l = l.unknowns ≡ with_fresh l.fn.unknowns l._made
