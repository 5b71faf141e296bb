use Rattle.std.proofs.Common.{◌≡◌, ◌<◌, ℕ, Some, slice_get}
use Rattle.std.specs.Prelude.{slice_index}
use Rattle.vf_arith.specs.declared.bounds.Edge.{Edge}
use Rattle.vf_refute.specs.declared.steps.Derived.TheVariants.{AreWithin}
use Rattle.vf_refute.specs.Refutations.{HasDerived}
use Rattle.vf_explain.proofs.checking.are_reasons.Given as goal

abbrev pub invariant-loop-i : goal.invariant-loop-i
invariant-loop-i l = record {
  each : (k : ℕ) (e : Edge) → k < l.i → slice_get l.edges k ≡ Some e → HasDerived l.known (slice_index l.reasons k) (AreWithin e.from e.to e.most);
}
