-- What no step derives.
use Rattle.std.proofs.Common.{◌≡◌, ℕ, ◌<◌, inl, inr, List, length, Some, Option, None, subst}
use Rattle.std.specs.Prelude.{ℤ, pos, slice_get, MatchOption}
use Rattle.vf_table.specs.declared.node.Node.{Node}
use Rattle.vf_table.specs.declared.node.Shift.{Shift}
use Rattle.vf_table.specs.Tables.{IsInteger, IsNumber, IsPlus}
use Rattle.vf_refute.specs.declared.steps.Derived.{Derived}
use Rattle.vf_refute.specs.declared.steps.Derived.TheVariants.{AreEqual, AreWithin}
use Rattle.vf_refute.specs.Refutations.{HasDerived, AreParts, IsOffset, IsLevel}

pub not_level_left : (nodes : List Node) (known : List Derived) (a p q x y : ℕ) (c : ℤ) → HasDerived known a (AreEqual p q) → (IsInteger nodes p → ⊥) → IsLevel nodes known a x y c → ⊥
not_level_left nodes known a p q x y c has none h = elim h [
  | inl h ↦ none (let e : x ≡ p = cc in subst (IsInteger nodes) e h.1)
  | inr h ↦ cc
]

pub not_level_right : (nodes : List Node) (known : List Derived) (a p q x y : ℕ) (c : ℤ) → HasDerived known a (AreEqual p q) → (IsInteger nodes q → ⊥) → IsLevel nodes known a x y c → ⊥
not_level_right nodes known a p q x y c has none h = elim h [
  | inl h ↦ none (let e : y ≡ q = cc in subst (IsInteger nodes) e h.2)
  | inr h ↦ cc
]

pub not_level_bound : (nodes : List Node) (known : List Derived) (a p q x y : ℕ) (e c : ℤ) → HasDerived known a (AreWithin p q e) → IsLevel nodes known a x y c → ⊥
not_level_bound nodes known a p q x y e c has h = elim h [
  | inl h ↦ cc
  | inr h ↦ cc
]

pub not_parts_past : (nodes : List Node) (x y i p q : ℕ) (m : Node) → slice_get nodes x ≡ Some m → (i < length m.parts.items → ⊥) → AreParts nodes x y i p q → ⊥
not_parts_past nodes x y i p q m found past h = past (let e : h.left ≡ m = let f = h.found_left in cc in subst (λ (n : Node). i < length n.parts.items) e h.within)

pub offset_of_number : (nodes : List Node) (a o : ℕ) (r : Option Shift) → ((q : ℕ) (c : ℤ) → IsPlus nodes a q c → ⊥) →
    MatchOption r ((c : ℤ) → IsNumber nodes a c → IsNumber nodes o (pos 0) → ⊥) (λ s. (s.part ≡ o) × IsNumber nodes a s.number × IsNumber nodes o (pos 0)) →
    MatchOption r ((q : ℕ) (c : ℤ) → IsOffset nodes a o q c → ⊥) (λ s. IsOffset nodes a o s.part s.number)
offset_of_number nodes a o None none h = λ q c k. elim k [
  | inl k ↦ none q c k
  | inr k ↦ h c k.1 k.2
]
offset_of_number nodes a o (Some s) none h = inr h
