use Rattle.std.proofs.Common.{◌≡◌, ℕ, ◌<◌, length, slice_index}
use Rattle.vf_refute.specs.declared.steps.Derived.TheVariants.{AreEqual}
use Rattle.vf_refute.specs.Refutations.{HasDerived}
use Rattle.vf_log.specs.Derivations.{IsContinued}
use Rattle.vf_congruence.proofs.explaining.derive_parts.Given as goal

abbrev pub invariant-loop-i : goal.invariant-loop-i
invariant-loop-i l = record {
  continued : IsContinued l.fn.log l.log;
  long : length l.out.items ≡ l.i;
  derived : (k : ℕ) → k < l.i → HasDerived l.log.known (slice_index l.out.items k) (AreEqual (slice_index l.xs k) (slice_index l.ys k));
}
