-- Terms that stand in one class of a list that gives each term the number of its class.
use Rattle.std.specs.Prelude.{◌≡◌, ℕ, ◌<◌, ◌^◌, ◌⊎◌, List, [], length, Some, slice_get, slice_index}
use Rattle.vf_table.specs.declared.node.Node.{Node}
use Rattle.vf_table.specs.Tables.{IsInjective, PartsAreBelow}
use Rattle.vf_congruence.specs.Congruence.{Congruent, WereMerged}

-- two terms of the list are in one class
pub record AreTogether (classes : List ℕ) (a b : ℕ) : Type 0 where
  pub left : a < length classes
  pub right : b < length classes
  pub one : slice_index classes a ≡ slice_index classes b

-- the parts are in one class, place by place
abbrev pub PartsAreTogether : List ℕ → List ℕ → List ℕ → Type 0
PartsAreTogether classes xs ys = (length xs ≡ length ys) × ((i : ℕ) → i < length xs → slice_index classes (slice_index xs i) ≡ slice_index classes (slice_index ys i))

-- terms that were together still are
abbrev pub StayTogether : List ℕ → List ℕ → Type 0
StayTogether before after = (x y : ℕ) → AreTogether before x y → AreTogether after x y

-- what was above the number of each class still is
abbrev pub AreNumbersBounded : List ℕ → List ℕ → Type 0
AreNumbersBounded before after = (m : ℕ) → ((k : ℕ) → k < length before → slice_index before k < m) → (k : ℕ) → k < length before → slice_index after k < m

-- two terms that stand at one place of two lists
pub record IsPaired (xs ys : List ℕ) (a b : ℕ) : Type 0 where
  pub place : ℕ
  pub within : place < length xs
  pub left : slice_index xs place ≡ a
  pub right : slice_index ys place ≡ b

-- two terms that are together, or paired
abbrev pub AreTogetherOrPaired : List ℕ → List ℕ → List ℕ → ℕ → ℕ → Type 0
AreTogetherOrPaired classes xs ys a b = AreTogether classes a b ⊎ IsPaired xs ys a b

-- terms that come together are equal by what was together and the pairs
abbrev pub OnlyPairedMeet : List ℕ → List ℕ → List ℕ → List ℕ → Type 0
OnlyPairedMeet before xs ys after = (x y : ℕ) → AreTogether after x y → Congruent [] (AreTogetherOrPaired before xs ys) x y

-- terms that come together are congruent by what was together
abbrev pub OnlyCongruentMeet : List Node → List ℕ → List ℕ → Type 0
OnlyCongruentMeet nodes before after = (x y : ℕ) → AreTogether after x y → Congruent nodes (AreTogether before) x y

-- at two terms nothing is left to join
pub record IsSettledAt (nodes : List Node) (classes : List ℕ) (a b : ℕ) : Type 0 where
  pub whole : (m n : Node) → slice_get nodes a ≡ Some m → slice_get nodes b ≡ Some n → m.head ≡ n.head → PartsAreTogether classes m.parts.items n.parts.items → slice_index classes a ≡ slice_index classes b
  pub part : (m n : Node) → slice_get nodes a ≡ Some m → slice_get nodes b ≡ Some n → IsInjective m.head → m.head ≡ n.head → length m.parts.items ≡ length n.parts.items → slice_index classes a ≡ slice_index classes b → PartsAreTogether classes m.parts.items n.parts.items

-- at no two terms anything is left to join
abbrev pub IsSettled : List Node → List ℕ → Type 0
IsSettled nodes classes = (a b : ℕ) → a < length classes → b < length classes → IsSettledAt nodes classes a b

-- a term is in the class in which it was
pub record IsStill (before classes : List ℕ) (x : ℕ) : Type 0 where
  pub within : x < length before
  pub same : slice_index before x ≡ slice_index classes x

-- a term and its parts are in the classes in which they were
pub record IsStillAt (nodes : List Node) (before classes : List ℕ) (a : ℕ) : Type 0 where
  pub own : IsStill before classes a
  pub parts : (m : Node) → slice_get nodes a ≡ Some m → (i : ℕ) → i < length m.parts.items → IsStill before classes (slice_index m.parts.items i)

-- the classes are those of the least congruence of the merged pairs
pub record IsLeast (nodes : List Node) (merged : List (ℕ × ℕ)) (classes : List ℕ) : Type 0 where
  pub long : length nodes ≡ length classes
  pub few : length nodes < 2 ^ 32
  pub parts : PartsAreBelow nodes (length classes)
  pub terms : (x y : ℕ) → WereMerged merged x y → (x < length classes) × (y < length classes)
  pub sound : (x y : ℕ) → AreTogether classes x y → Congruent nodes (WereMerged merged) x y
  pub complete : (x y : ℕ) → Congruent nodes (WereMerged merged) x y → slice_index classes x ≡ slice_index classes y
