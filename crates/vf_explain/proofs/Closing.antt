-- Bounds that are added one after the other, up to the first that closes a cycle below 0.
use Rattle.std.proofs.Common.{◌≡◌, ℕ, zero, suc, ◌+◌, ◌<◌, ◌≤◌, ◌⊎◌, inl, inr, List, [], ◌∷◌, ◌++◌, length, Option, Some, refl, sym, ◌∙◌, ap, subst, arith, take_all, Bool, true, false}
use Rattle.std.specs.Prelude.{ℤ, pos, ◌+ℤ◌, ◌≤ℤ◌, ◌<ℤ◌, Contains, slice_get, slice_index, take, MatchOption, MatchBool}
use Rattle.std.proofs.lemmas.Int.{ints, by_lt_z}
use Rattle.std.proofs.lemmas.List.{take_more}
use Rattle.std.proofs.lemmas.List.Elements.{Contains-push_cases}
use Rattle.std.proofs.lemmas.Option.{get_or_from_slice_get, slice_get_within}
use Rattle.vf_arith.specs.declared.bounds.Edge.{Edge}
use Rattle.vf_arith.specs.Paths.{Path, path_none, path_edge, IsLeast, HasNegativeCycle}
use Rattle.vf_arith.proofs.Distances.{join}
use Rattle.vf_refute.specs.declared.steps.Derived.{Derived}
use Rattle.vf_refute.specs.declared.steps.Derived.TheVariants.{AreWithin}
use Rattle.vf_refute.specs.Refutations.{HasDerived}
use Rattle.vf_explain.specs.Reached.{AreReasons, DoesClose, StaysOpen}

-- a path with one edge more is at least one without it, or at least one that goes over it once
pub record Once (edges : List Edge) (e : Edge) (x y : ℕ) (c : ℤ) : Type 0 where
  pub first : ℤ
  pub last : ℤ
  pub before : Path edges x e.from first
  pub after : Path edges e.to y last
  pub under : (first +ℤ e.most +ℤ last) ≤ℤ c

pub record Without (edges : List Edge) (x y : ℕ) (c : ℤ) : Type 0 where
  pub total : ℤ
  pub path : Path edges x y total
  pub under : total ≤ℤ c

through : {edges : List Edge} (e : Edge) {y : ℕ} {d : ℤ} → StaysOpen edges e → Without edges e.to y d ⊎ Once edges e e.to y d → Once edges e e.from y (e.most +ℤ d)
through e {d = d} stays (inl w) = record { first = pos 0; last = w.total; before = path_none; after = w.path; under = let u = w.under in omega (arith, ints) }
through e {d = d} stays (inr o) = record { first = pos 0; last = o.last; before = path_none; after = o.after; under = let u = o.under in let s = stays o.first o.before in omega (arith, ints) }

longer : {edges : List Edge} (e f : Edge) {y : ℕ} {d : ℤ} → Contains edges f → Without edges f.to y d ⊎ Once edges e f.to y d → Without edges f.from y (f.most +ℤ d) ⊎ Once edges e f.from y (f.most +ℤ d)
longer e f {d = d} m (inl w) = inl (record { total = f.most +ℤ w.total; path = path_edge f m w.path; under = let u = w.under in omega (arith, ints) })
longer e f {d = d} m (inr o) = inr (record { first = f.most +ℤ o.first; last = o.last; before = path_edge f m o.before; after = o.after; under = let u = o.under in omega (arith, ints) })

parted : {edges : List Edge} (e : Edge) {x y : ℕ} {c : ℤ} → StaysOpen edges e → Path (edges ++ e ∷ []) x y c → Without edges x y c ⊎ Once edges e x y c
parted e stays path_none = inl (record { total = pos 0; path = path_none; under = omega (arith, ints) })
parted {edges} e {y = y} stays (path_edge {d = d} f m rest) = by_edge (Contains-push_cases edges e f m) (parted e stays rest)
  where
    by_edge : Contains edges f ⊎ (e ≡ f) → Without edges f.to y d ⊎ Once edges e f.to y d → Without edges f.from y (f.most +ℤ d) ⊎ Once edges e f.from y (f.most +ℤ d)
    by_edge (inl k) h = longer e f k h
    by_edge (inr g) h = inr (subst (λ (w : Edge). Once edges e w.from y (w.most +ℤ d)) g (through e stays (subst (λ (w : Edge). Without edges w.to y d ⊎ Once edges e w.to y d) (sym g) h)))

-- an edge that closes no cycle below 0 makes none
pub open_more : (edges : List Edge) (e : Edge) → (HasNegativeCycle edges → ⊥) → StaysOpen edges e → HasNegativeCycle (edges ++ e ∷ []) → ⊥
open_more edges e fine stays h = elim (parted e stays h.cycle) [
  | inl w ↦ fine (record { point = h.point; total = w.total; cycle = w.path; below = let u = w.under in let b = h.below in omega (arith, ints) })
  | inr o ↦ (let s = stays (o.last +ℤ o.first) (join o.after o.before (o.last +ℤ o.first) refl) in let u = o.under in let b = h.below in omega (arith, ints))
]

-- where bounds were added up to an index, one more is those up to the next
pub added_more : (all edges after : List Edge) (i : ℕ) (e : Edge) → slice_get all i ≡ Some e → edges ≡ take i all → after ≡ edges ++ e ∷ [] → after ≡ take (i + 1) all
added_more all edges after i e there is more =
    let l = slice_get_within all i e there in
    more ∙ ap (λ (es : List Edge). es ++ e ∷ []) is ∙ sym (take_more all i e l ∙ ap (λ w. take i all ++ w ∷ []) (get_or_from_slice_get all i e e there))

-- what stands among the first items stands there in the list
take_get : {A : Type 0} (xs : List A) (i j : ℕ) (x : A) → slice_get (take i xs) j ≡ Some x → (j < i) × (slice_get xs j ≡ Some x)
take_get xs zero j x h = absurd cc
take_get [] (suc i) j x h = absurd cc
take_get (y ∷ ys) (suc i) zero x h = (omega arith, h)
take_get (y ∷ ys) (suc i) (suc j) x h = let r = take_get ys i j x h in let l = r.0 in (omega (arith, l), r.1)

take_index : (xs : List ℕ) (i j : ℕ) → j < i → slice_index (take i xs) j ≡ slice_index xs j
take_index xs zero j l = absurd (omega (arith, l))
take_index [] (suc i) j l = refl
take_index (y ∷ ys) (suc i) zero l = refl
take_index (y ∷ ys) (suc i) (suc j) l = take_index ys i j (omega (arith, l))

length_take : {A : Type 0} (xs : List A) (i : ℕ) → i ≤ length xs → length (take i xs) ≡ i
length_take xs zero l = refl
length_take [] (suc i) l = absurd (omega (arith, l))
length_take (y ∷ ys) (suc i) l = ap suc (length_take ys i (omega (arith, l)))

-- the reasons of the first bounds
pub first_reasons : (known : List Derived) (all edges : List Edge) (reasons : List ℕ) (i : ℕ) → i ≤ length reasons → edges ≡ take i all → AreReasons known all reasons → AreReasons known edges (take i reasons)
first_reasons known all edges reasons i l is h = record {
  long = length_take reasons i l ∙ sym (ap length is ∙ length_take all i (let e = h.long in omega (arith, l, e)));
  each = λ j e there.
      let r = take_get all i j e (ap (λ es. slice_get es j) (sym is) ∙ there) in
      subst (λ s. HasDerived known s (AreWithin e.from e.to e.most)) (sym (take_index reasons i j r.0)) (h.each j e r.1);
}

-- at the end all bounds were added
pub all_added : (all edges : List Edge) (i n : ℕ) → n ≤ i → n ≡ length all → edges ≡ take i all → edges ≡ all
all_added all edges i n l e is = is ∙ take_all i all (omega (arith, l, e))

-- an edge closes a cycle below 0 by the least path back, or none
pub by_least : {edges : List Edge} (e : Edge) (b : Bool) (back : ℤ) → IsLeast edges e.to e.from back → (b ≡ true → (back +ℤ e.most) <ℤ pos 0) → ((back +ℤ e.most) <ℤ pos 0 → b ≡ true) → MatchBool b (DoesClose edges e) (StaysOpen edges e)
by_least e true back least f g = record { back = back; least = least; below = f refl }
by_least e false back least f g = λ c p. by_lt_z (c +ℤ e.most) (pos 0)
    (λ l. let m : back ≤ℤ c = least.least c p in let h : false ≡ true = g (omega (arith, ints, l, m)) in absurd cc)
    (λ k. k)

-- what an option that has something says of it
pub told_some : {A : Type 0} (o : Option A) (x : A) (N : Type 0) (S : A → Type 0) → o ≡ Some x → MatchOption o N S → S x
told_some o x N S e h = subst (λ z. MatchOption z N S) e h

pub told_false : (b : Bool) (P Q : Type 0) → b ≡ false → MatchBool b P Q → Q
told_false b P Q e h = subst (λ z. MatchBool z P Q) e h

pub told_true : (b : Bool) (P Q : Type 0) → b ≡ true → MatchBool b P Q → P
told_true b P Q e h = subst (λ z. MatchBool z P Q) e h

none_sums : {x y : ℕ} {c : ℤ} → Path [] x y c → pos 0 ≤ℤ c
none_sums path_none = omega (arith, ints)
none_sums (path_edge e m h) = absurd (let l = m.1 in omega arith)

-- where there are no bounds none leads back below 0
pub open_none : (edges : List Edge) → edges ≡ [] → HasNegativeCycle edges → ⊥
open_none edges e h = let k : HasNegativeCycle [] = subst HasNegativeCycle e h in let z = none_sums k.cycle in let b = k.below in omega (arith, ints)
