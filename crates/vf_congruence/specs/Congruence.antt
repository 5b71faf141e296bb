-- The least congruence of a table of terms over some pairs of them, as equality of first-order terms with constructors is closed.
use Rattle.std.specs.Prelude.{◌≡◌, ℕ, ◌<◌, List, length, Contains, Some, slice_get, slice_index}
use Rattle.vf_table.specs.declared.node.Node.{Node}
use Rattle.vf_table.specs.Tables.{IsInjective}

-- The least equivalence of terms that has the pairs of `base`, in which terms of one head with equal parts are equal, and equal terms of one constructor have equal parts
pub data Congruent (nodes : List Node) (base : ℕ → ℕ → Type 0) : ℕ → ℕ → Type 0 where
  based : {a b : ℕ} → base a b → Congruent nodes base a b
  congruent_self : {a : ℕ} → Congruent nodes base a a
  congruent_back : {a b : ℕ} → Congruent nodes base a b → Congruent nodes base b a
  congruent_through : {a b c : ℕ} → Congruent nodes base a b → Congruent nodes base b c → Congruent nodes base a c
  by_parts : {a b : ℕ} {m n : Node} → slice_get nodes a ≡ Some m → slice_get nodes b ≡ Some n → m.head ≡ n.head → length m.parts.items ≡ length n.parts.items → ((i : ℕ) → i < length m.parts.items → Congruent nodes base (slice_index m.parts.items i) (slice_index n.parts.items i)) → Congruent nodes base a b
  of_parts : {a b : ℕ} {m n : Node} {i : ℕ} → slice_get nodes a ≡ Some m → slice_get nodes b ≡ Some n → IsInjective m.head → m.head ≡ n.head → length m.parts.items ≡ length n.parts.items → i < length m.parts.items → Congruent nodes base a b → Congruent nodes base (slice_index m.parts.items i) (slice_index n.parts.items i)

-- the pair was merged
abbrev pub WereMerged : List (ℕ × ℕ) → ℕ → ℕ → Type 0
WereMerged merged a b = Contains merged (a, b)

-- What a contract sees of classes: the table of terms, the pairs that were merged in order, and a number that falls wherever two classes become one
pub record Merges : Type 0 where
  pub nodes : List Node
  pub merged : List (ℕ × ℕ)
  pub weight : ℕ
