-- What steps derive of facts and terms.
use Rattle.std.proofs.Common.{◌≡◌, ℕ, inl, List, Some, refl, sym, subst, arith, slice_get}
use Rattle.std.specs.Prelude.{ℤ, pos, neg_ℤ, ◌^◌, ◌+ℤ◌, ◌≤ℤ◌}
use Rattle.std.proofs.lemmas.Int.{ints, by_lt_z}
use Rattle.vf_table.specs.declared.node.Node.{Node}
use Rattle.vf_table.specs.Tables.{IsInteger, IsNumber}
use Rattle.vf_arith.specs.declared.bounds.Edge.{Edge}
use Rattle.vf_arith.specs.Paths.{IsLeast, HasNegativeCycle, IsSmall}
use Rattle.vf_arith.proofs.Distances.{join}
use Rattle.vf_refute.specs.declared.steps.Fact.{Fact}
use Rattle.vf_refute.specs.declared.steps.Fact.TheVariants as fs
use Rattle.vf_refute.specs.declared.steps.Derived.{Derived}
use Rattle.vf_refute.specs.declared.steps.Derived.TheVariants.{AreEqual, AreWithin, HaveDifference}
use Rattle.vf_refute.specs.Refutations.{HasDerived, IsOfFact, IsWithin, IsOffset, IsSqueezed, IsLevel}
use Rattle.vf_log.specs.Derivations.{Derivation, HasAdded, IsContinued}
use Rattle.vf_log.proofs.Continued.{added_has, added_continues}
use Rattle.vf_ground.specs.Held.{IsNear}
use Rattle.vf_refuting.specs.Runs.{HaveDerivedBoth}

pub within_small : (z : ℤ) → IsSmall (2 ^ 100) z → IsWithin (2 ^ 126) z
within_small z s = let l = s.low in let h = s.high in record { low = omega (arith, ints, l, h); high = omega (arith, ints, l, h) }

pub within_negative : (z : ℤ) → IsSmall (2 ^ 100) z → IsWithin (2 ^ 126) (neg_ℤ z)
within_negative z s = let l = s.low in let h = s.high in record { low = omega (arith, ints, l, h); high = omega (arith, ints, l, h) }

pub of_equal : (facts : List Fact) (i a b : ℕ) → slice_get facts i ≡ Some (fs.Equal a b) → IsOfFact facts i (AreEqual a b)
of_equal facts i a b h = record { fact = fs.Equal a b; found = h; gives = refl }

pub of_most : (facts : List Fact) (i x y : ℕ) (c : ℤ) → slice_get facts i ≡ Some (fs.AtMost x y c) → IsOfFact facts i (AreWithin x y c)
of_most facts i x y c h = record { fact = fs.AtMost x y c; found = h; gives = refl }

pub of_difference : (facts : List Fact) (i x y : ℕ) (c : ℤ) → slice_get facts i ≡ Some (fs.Difference x y c) → IsOfFact facts i (HaveDifference x y c)
of_difference facts i x y c h = record { fact = fs.Difference x y c; found = h; gives = refl }

-- what an earlier step derived it still has
pub still_has : {l m : Derivation} {s : ℕ} {d : Derived} (t : ℕ) (e : Derived) → HasAdded l m s d → HasDerived l.known t e → HasDerived m.known t e
still_has t e a h = (added_continues a).kept t e h

pub two_derived : {l m n : Derivation} {x y s t : ℕ} {c : ℤ} → HasAdded l m s (AreWithin x y c) → HasAdded m n t (AreWithin y x (neg_ℤ c)) → HaveDerivedBoth n.known x y c s t
two_derived {x = x} {y = y} {s = s} {c = c} a b = record { up = still_has s (AreWithin x y c) b (added_has a); down = added_has b }

pub integer_later : {l m : Derivation} (x : ℕ) → IsContinued l m → IsInteger l.nodes x → IsInteger m.nodes x
integer_later x h i = subst (λ (ns : List Node). IsInteger ns x) (sym h.nodes) i

pub offset_later : {l m : Derivation} (a o q : ℕ) (c : ℤ) → IsContinued l m → IsOffset l.nodes a o q c → IsOffset m.nodes a o q c
offset_later a o q c h i = subst (λ (ns : List Node). IsOffset ns a o q c) (sym h.nodes) i

pub number_later : {l m : Derivation} (a : ℕ) (c : ℤ) → IsContinued l m → IsNumber l.nodes a c → IsNumber m.nodes a c
number_later a c h p = subst (λ (ns : List Node). IsNumber ns a c) (sym h.nodes) p

-- terms that steps bound to be 0 apart are squeezed
pub squeezed_by : {nodes : List Node} {known : List Derived} {x y a b : ℕ} → HaveDerivedBoth known x y (pos 0) a b → IsInteger nodes x → IsInteger nodes y → IsSqueezed nodes known a b (AreEqual x y)
squeezed_by {x = x} {y = y} h i j = record { x = x; y = y; first = h.up; second = h.down; left = i; right = j; is = refl }

pub level_by : (nodes : List Node) (known : List Derived) (a x y : ℕ) → HasDerived known a (AreEqual x y) → IsInteger nodes x → IsInteger nodes y → IsLevel nodes known a x y (pos 0)
level_by nodes known a x y h i j = inl (h, i, j, refl)

-- a difference that bounds say both ways is the least bound from above, and its negative the one from below
pub both_least : {edges : List Edge} {x y : ℕ} {c t u : ℤ} → (HasNegativeCycle edges → ⊥) → IsNear edges x y c → IsNear edges y x (neg_ℤ c) → IsLeast edges x y t → IsLeast edges y x u → (t ≡ c) × (u ≡ neg_ℤ c)
both_least {edges} {x} {y} {c} {t} {u} fine p q h k =
    let a : t ≤ℤ p.total = h.least p.total p.path in
    let b : u ≤ℤ q.total = k.least q.total q.path in
    let v = p.under in
    let w = q.under in
    by_lt_z (t +ℤ u) (pos 0)
    (λ l. absurd (fine (record { point = x; total = t +ℤ u; cycle = join h.reached k.reached (t +ℤ u) refl; below = l })))
    (λ g. (omega (arith, ints, a, b, v, w, g), omega (arith, ints, a, b, v, w, g)))
