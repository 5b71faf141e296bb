use Rattle.std.proofs.Common.{◌≡◌, ◌<◌, ℕ, length, Some, slice_get}
use Rattle.vf_explain.proofs.bound.begun.Given as goal

abbrev pub invariant-loop-i : goal.invariant-loop-i
invariant-loop-i l = record {
  long : length l.steps.items ≡ l.i;
  first : l.x < l.i → slice_get l.steps.items l.x ≡ Some (Some l.step);
  others : (k s : ℕ) → slice_get l.steps.items k ≡ Some (Some s) → (k ≡ l.x) × (s ≡ l.step);
}
