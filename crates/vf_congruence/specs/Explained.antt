-- Labels of terms with steps that derive them, and pairs of terms that are left to join.
use Rattle.std.specs.Prelude.{◌≡◌, ℕ, ◌<◌, List, length, Some, slice_get, slice_index}
use Rattle.vf_table.specs.declared.node.Node.{Node}
use Rattle.vf_table.specs.Tables.{IsInjective}
use Rattle.vf_refute.specs.declared.steps.Derived.{Derived}
use Rattle.vf_refute.specs.declared.steps.Derived.TheVariants.{AreEqual}
use Rattle.vf_refute.specs.Refutations.{HasDerived}
use Rattle.vf_congruence.specs.Congruence.{WereMerged}
use Rattle.vf_congruence.specs.Meeting.{PartsAreTogether, IsSettled}
use Rattle.vf_congruence.specs.declared.explaining.Gap.{Gap}
use Rattle.vf_congruence.specs.declared.explaining.Gap.TheVariants.{Whole, Part}

-- each term was derived to be equal to its label, by the step that stands at its place
pub record AreExplained (known : List Derived) (labels steps : List ℕ) : Type 0 where
  pub long : length steps ≡ length labels
  pub each : (k : ℕ) → k < length labels → HasDerived known (slice_index steps k) (AreEqual k (slice_index labels k))

-- each pair that was merged was derived to be equal, by the step that stands at its place
pub record AreReasons (known : List Derived) (merged : List (ℕ × ℕ)) (reasons : List ℕ) : Type 0 where
  pub long : length reasons ≡ length merged
  pub each : (i x y : ℕ) → slice_get merged i ≡ Some (x, y) → HasDerived known (slice_index reasons i) (AreEqual x y)

-- terms of one head whose parts have one label each, but they have two
pub record IsOfWhole (nodes : List Node) (labels : List ℕ) (a b : ℕ) : Type 0 where
  pub left : Node
  pub right : Node
  pub found_left : slice_get nodes a ≡ Some left
  pub found_right : slice_get nodes b ≡ Some right
  pub head : left.head ≡ right.head
  pub parts : PartsAreTogether labels left.parts.items right.parts.items
  pub apart : slice_index labels a ≡ slice_index labels b → ⊥

-- terms of one constructor and one label, whose parts at place i have two
pub record IsOfPlace (nodes : List Node) (labels : List ℕ) (a b i : ℕ) : Type 0 where
  pub left : Node
  pub right : Node
  pub found_left : slice_get nodes a ≡ Some left
  pub found_right : slice_get nodes b ≡ Some right
  pub injective : IsInjective left.head
  pub head : left.head ≡ right.head
  pub long : length left.parts.items ≡ length right.parts.items
  pub within : i < length left.parts.items
  pub one : slice_index labels a ≡ slice_index labels b
  pub apart : slice_index labels (slice_index left.parts.items i) ≡ slice_index labels (slice_index right.parts.items i) → ⊥

-- what two terms leave to join
abbrev pub IsGap : List Node → List ℕ → ℕ → ℕ → Gap → Type 0
IsGap nodes labels a b Whole = IsOfWhole nodes labels a b
IsGap nodes labels a b (Part i) = IsOfPlace nodes labels a b i

-- the pair at place i was merged, and its terms have two labels
pub record IsParted (labels : List ℕ) (merged : List (ℕ × ℕ)) (i : ℕ) : Type 0 where
  pub x : ℕ
  pub y : ℕ
  pub found : slice_get merged i ≡ Some (x, y)
  pub within : i < length merged
  pub apart : slice_index labels x ≡ slice_index labels y → ⊥

-- nothing is left to join, and all that was merged has one label, pair by pair
pub record IsClosed (nodes : List Node) (merged : List (ℕ × ℕ)) (labels : List ℕ) : Type 0 where
  pub settled : IsSettled nodes labels
  pub joined : (x y : ℕ) → WereMerged merged x y → slice_index labels x ≡ slice_index labels y
