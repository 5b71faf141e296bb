-- A chain that visits no point twice: with no cycle below 0 there is one below each chain, so least sums are small.
use Rattle.std.proofs.Common.{◌≡◌, ℕ, ◌*◌, ◌<◌, ◌≤◌, ◌⊎◌, inl, inr, List, [], ◌∷◌, length, Some, refl, sym, subst, arith, Bool, true, false, eqb}
use Rattle.std.specs.Prelude.{ℤ, pos, ◌+ℤ◌, ◌≤ℤ◌, Contains, Option}
use Rattle.std.specs.List.{list_any}
use Rattle.std.specs.Prelude.{◌||◌}
use Rattle.std.proofs.Math.Nat.{mul-le-mul_right}
use borrow.Author.Tests.{eqb-true}
use Rattle.std.specs.List.{IsDistinct, AllByRecursion}
use Rattle.std.proofs.lemmas.Map.Steps.{length-le_from_distinct_below}
use Rattle.std.proofs.lemmas.Int.{ints}
use Rattle.vf_arith.specs.declared.bounds.Edge.{Edge}
use Rattle.vf_arith.specs.Paths.{Path, path_none, path_edge, IsSmall}
use Rattle.vf_arith.specs.Matrices.{AreDistances, IsUnder}
use Rattle.vf_arith.proofs.Distances.{at_most, no_cycle}

same_or : (p x : ℕ) → (p ≡ x) ⊎ (eqb p x ≡ false)
same_or p x = go (eqb p x) refl
  where
    go : (t : Bool) → eqb p x ≡ t → (p ≡ x) ⊎ (eqb p x ≡ false)
    go true e = inl (eqb-true p x e)
    go false e = inr e

or_cases : (a b : Bool) → (a || b) ≡ true → (a ≡ true) ⊎ (b ≡ true)
or_cases true b h = inl refl
or_cases false b h = inr h

-- a chain that visits the points of a list, each once
pub data SimplePath (edges : List Edge) : List ℕ → ℕ → ℕ → ℤ → Type 0 where
  simple_none : {x : ℕ} → SimplePath edges (x ∷ []) x x (pos 0)
  simple_edge : {ps : List ℕ} {z : ℕ} {d : ℤ} (e : Edge) → Contains edges e → SimplePath edges ps e.to z d → AllByRecursion (λ q. eqb e.from q ≡ false) ps → SimplePath edges (e.from ∷ ps) e.from z (e.most +ℤ d)

pub simple_path : {edges : List Edge} {ps : List ℕ} {x y : ℕ} {c : ℤ} → SimplePath edges ps x y c → Path edges x y c
simple_path simple_none = path_none
simple_path (simple_edge e m h a) = path_edge e m (simple_path h)

simple_distinct : {edges : List Edge} {ps : List ℕ} {x y : ℕ} {c : ℤ} → SimplePath edges ps x y c → IsDistinct eqb ps
unfolding IsDistinct
simple_distinct simple_none = (tt, tt)
simple_distinct (simple_edge e m h a) = (a, simple_distinct h)

-- the part of a chain from a point that it visits
record Visited (edges : List Edge) (p x z : ℕ) (d : ℤ) : Type 0 where
  points : List ℕ
  way_over : ℤ
  rest : ℤ
  before : Path edges x p way_over
  after : SimplePath edges points p z rest
  total : way_over +ℤ rest ≡ d

visited : {edges : List Edge} {ps : List ℕ} {x z : ℕ} {d : ℤ} (p : ℕ) → SimplePath edges ps x z d → Visited edges p x z d ⊎ AllByRecursion (λ q. eqb p q ≡ false) ps
visited {edges} p (simple_none {x = x}) = elim (same_or p x) [
  | inl e ↦ inl (subst (λ q. Visited edges q x x (pos 0)) (sym e) (record { points = x ∷ []; way_over = pos 0; rest = pos 0; before = path_none; after = simple_none; total = refl }))
  | inr n ↦ inr (n, tt)
]
visited {edges} p (simple_edge {ps = ps} {z = z} {d = d} e m h a) = elim (same_or p e.from) [
  | inl i ↦ inl (subst (λ q. Visited edges q e.from z (e.most +ℤ d)) (sym i) (record { points = e.from ∷ ps; way_over = pos 0; rest = e.most +ℤ d; before = path_none; after = simple_edge e m h a; total = omega (arith, ints) }))
  | inr n ↦ later n (visited p h)
]
  where
    later : eqb p e.from ≡ false → Visited edges p e.to z d ⊎ AllByRecursion (λ q. eqb p q ≡ false) ps → Visited edges p e.from z (e.most +ℤ d) ⊎ AllByRecursion (λ q. eqb p q ≡ false) (e.from ∷ ps)
    later n (inl f) = inl (record { points = f.points; way_over = e.most +ℤ f.way_over; rest = f.rest; before = path_edge e m f.before; after = f.after; total = let t = f.total in omega (arith, ints) })
    later n (inr all) = inr (n, all)

-- a chain that visits no point twice, below a chain
pub record Simplified (edges : List Edge) (x y : ℕ) (c : ℤ) : Type 0 where
  pub points : List ℕ
  pub total : ℤ
  pub simple : SimplePath edges points x y total
  pub under : total ≤ℤ c

pub simplify : {edges : List Edge} {x y : ℕ} {c : ℤ} → ((e : Edge) (d : ℤ) → Contains edges e → Path edges e.from e.from d → pos 0 ≤ℤ d) → Path edges x y c → Simplified edges x y c
simplify fine (path_none {x = x}) = record { points = x ∷ []; total = pos 0; simple = simple_none; under = omega (arith, ints) }
simplify {edges} fine (path_edge {z = z} {d = d} e m h) = one (simplify fine h)
  where
    one : Simplified edges e.to z d → Simplified edges e.from z (e.most +ℤ d)
    one s = elim (visited e.from s.simple) [
      | inl f ↦ (let r = fine e (e.most +ℤ f.way_over) m (path_edge e m f.before) in let t = f.total in let u = s.under in record { points = f.points; total = f.rest; simple = f.after; under = omega (arith, ints) })
      | inr all ↦ record { points = e.from ∷ s.points; total = e.most +ℤ s.total; simple = simple_edge e m s.simple all; under = let u = s.under in omega (arith, ints) }
    ]

-- its sum is small
weight_small : {edges : List Edge} {ps : List ℕ} {x y : ℕ} {c : ℤ} (m : ℕ) → ((e : Edge) → Contains edges e → IsSmall m e.most) → SimplePath edges ps x y c → IsSmall (length ps * m) c
weight_small m small simple_none = record { low = omega (arith, ints); high = omega (arith, ints) }
weight_small m small (simple_edge {ps = ps} {d = d} e i h a) =
    let s = weight_small m small h in let t = small e i in
    record { low = let l = s.low in let k = t.low in omega (arith, ints); high = let l = s.high in let k = t.high in omega (arith, ints) }

below : {edges : List Edge} {ps : List ℕ} {x y : ℕ} {c : ℤ} (size : ℕ) → ((e : Edge) → Contains edges e → (e.from < size) × (e.to < size)) → x < size → SimplePath edges ps x y c → (q : ℕ) → list_any (eqb q) ps ≡ true → q < size
below size points inx (simple_none {x = x}) q h = elim (or_cases (eqb q x) false h) [ inl e ↦ (let f = eqb-true q x e in omega arith) | inr e ↦ absurd (cc) ]
below size points inx (simple_edge {ps = ps} e m k a) q h = elim (or_cases (eqb q e.from) (list_any (eqb q) ps) h) [
  | inl i ↦ (let f = eqb-true q e.from i in omega arith)
  | inr i ↦ below size points ((points e m).1) k q i
]

wider : (n n' m : ℕ) (z : ℤ) → n ≤ n' → IsSmall (n * m) z → IsSmall (n' * m) z
wider n n' m z l s = let p : n * m ≤ n' * m = mul-le-mul_right m l in record { low = let h = s.low in omega (arith, ints); high = let h = s.high in omega (arith, ints) }

pub distances_small : (size m : ℕ) (edges : List Edge) (d : ℕ → ℕ → Option ℤ) → AreDistances size edges d → ((e : Edge) → Contains edges e → IsSmall m e.most) → (x y : ℕ) (v : ℤ) → x < size → y < size → d x y ≡ Some v → IsSmall (size * m) v
distances_small size m edges d is small x y v inx iny e =
    let s = simplify (λ f w i h. no_cycle size edges d is ((is.points f i).0) h) (is.sound x y v inx iny e) in
    let least : v ≤ℤ s.total = subst (λ o. IsUnder o s.total) e (at_most size edges d is inx iny (simple_path s.simple)) in
    let same : s.total ≡ v = (let u = s.under in omega (arith, ints)) in
    wider (length s.points) size m v (length-le_from_distinct_below s.points size (simple_distinct s.simple) (below size is.points inx s.simple)) (subst (IsSmall (length s.points * m)) same (weight_small m small s.simple))
