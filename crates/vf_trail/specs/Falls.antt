-- The order of a trail's nodes.
use Rattle.std.specs.Prelude.{◌≡◌, ℕ, ◌≤◌, List, Some, slice_get}

-- every fact hangs on a node that was there before: the parent's number is smaller than the fact's own, which is one more than its index
abbrev pub ParentsFall : {L : Type 0} → List (ℕ × L) → Type 0
ParentsFall {L} facts = (k parent : ℕ) (fact : L) → slice_get facts k ≡ Some (parent, fact) → parent ≤ k
