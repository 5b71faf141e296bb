use Rattle.std.proofs.Common.{◌≡◌, ℕ, ◌<◌, ◌≤◌, slice_index}
use Rattle.vf_congruence.proofs.joining.rename_class.Given as goal

abbrev pub invariant-loop-class : goal.invariant-loop-class
invariant-loop-class l = record {
  moved : (k : ℕ) → k < l.class-index → slice_index l.initial.classes k ≡ l.from → slice_index l.classes k ≡ l.to;
  kept : (k : ℕ) → (slice_index l.initial.classes k ≡ l.from → ⊥) → slice_index l.classes k ≡ slice_index l.initial.classes k;
  later : (k : ℕ) → l.class-index ≤ k → slice_index l.classes k ≡ slice_index l.initial.classes k;
}
