-- Distances that are kept aside, and matrices that are written to one place at a time.
use Rattle.std.proofs.Common.{◌≡◌, ℕ, ◌+◌, ◌*◌, ◌/◌, ◌%◌, ◌<◌, ◌⊎◌, inl, inr, List, length, get_or, set, get_or-set_other, get_or-set_same, Option, Some, None, refl, sym, ◌∙◌, ap, subst, arith, Bool, true, false, eqb}
use Rattle.std.specs.Prelude.{ℤ, pos, ◌+ℤ◌, ◌≤ℤ◌, Contains, slice_index_or}
use Rattle.std.proofs.lemmas.Nat.{div-mul-add, mod-mul-add, mul-add-lt}
use Rattle.std.proofs.lemmas.List.{get_or_default}
use Rattle.std.proofs.lemmas.Bool.{eqb-true, eqb-false, cases_lt}
use Rattle.vf_arith.specs.declared.journal.Saved.{Saved}
use Rattle.std.proofs.lemmas.Int.{ints, clamps}
use Rattle.std.specs.Int.{int_min}
use Rattle.vf_arith.specs.Matrices.{IsUnder, ObeyTriangles, distance, entry, lesser, over_edge}
use Rattle.vf_arith.specs.Histories.{IsSaved, IsShortened}

-- what a list has at a place is an element of it
pub found_at : (saved : List Saved) (i : ℕ) (d : Saved) → i < length saved → Contains saved (slice_index_or saved i d)
found_at saved i d l = (i, l, get_or_default saved i (get_or saved i d) d l)

-- a matrix after a write to one place, at any other
pub at_write : (size : ℕ) (m : List (Option ℤ)) (p q x y : ℕ) (v : Option ℤ) → p < size → q < size → x < size → y < size → length m ≡ size * size →
    ((p ≡ x) × (q ≡ y) × (distance size (set m (p * size + q) v) x y ≡ v)) ⊎ (distance size (set m (p * size + q) v) x y ≡ distance size m x y)
at_write size m p q x y v inp inq inx iny long = go (eqb (x * size + y) (p * size + q)) refl
  where
    go : (t : Bool) → eqb (x * size + y) (p * size + q) ≡ t → ((p ≡ x) × (q ≡ y) × (distance size (set m (p * size + q) v) x y ≡ v)) ⊎ (distance size (set m (p * size + q) v) x y ≡ distance size m x y)
    go true e =
        let same : x * size + y ≡ p * size + q = eqb-true (x * size + y) (p * size + q) e in
        let within : p * size + q < length m = (let l = mul-add-lt p size q size inp inq in omega arith) in
        inl (
          sym (div-mul-add p size q inq) ∙ ap (λ k. k / size) (sym same) ∙ div-mul-add x size y iny,
          sym (mod-mul-add p size q inq) ∙ ap (λ k. k % size) (sym same) ∙ mod-mul-add x size y iny,
          subst (λ k. get_or (set m (p * size + q) v) k None ≡ v) (sym same) (rw get_or-set_same refl),
        )
    go false e =
        let other : x * size + y ≡ p * size + q → ⊥ = eqb-false (x * size + y) (p * size + q) e in
        inr (rw get_or-set_other refl)

-- one more distance is put in its place
module _ (size : ℕ) (m before : List (Option ℤ)) (saved : List Saved) (i : ℕ) (d : Saved) (value : Saved → Option ℤ) (v : Option ℤ)
    (long : length m ≡ size * size) (within : i < length saved)
    (points : (s : Saved) → Contains saved s → (s.x < size) × (s.y < size))
    (one : (s t : Saved) → Contains saved s → Contains saved t → s.x ≡ t.x → s.y ≡ t.y → value s ≡ value t)
    (is : v ≡ value (slice_index_or saved i d))
    (put : (k : ℕ) (s : Saved) → k < i → slice_index_or saved k s ≡ s → distance size m s.x s.y ≡ value s)
    (each : (x y : ℕ) → x < size → y < size → IsSaved saved x y ⊎ (distance size m x y ≡ distance size before x y)) where
  abbrev here : Saved
  here = slice_index_or saved i d

  pub put_more : (k : ℕ) (s : Saved) → k < i + 1 → slice_index_or saved k s ≡ s → distance size (set m ((slice_index_or saved i d).x * size + (slice_index_or saved i d).y) v) s.x s.y ≡ value s
  put_more k s l e = elim (cases_lt k i) [
    | inl b ↦ elim (at_write size m here.x here.y s.x s.y v ((points here at_here).0) ((points here at_here).1) ((points s (k, below b, e)).0) ((points s (k, below b, e)).1) long) [
      | inl w ↦ w.2 ∙ is ∙ one here s at_here (k, below b, e) w.0 w.1
      | inr u ↦ u ∙ put k s b e
    ]
    | inr b ↦ (let q : k ≡ i = omega arith in at_place s (sym (get_or_default saved i s d within) ∙ subst (λ j. slice_index_or saved j s ≡ s) q e))
  ]
    where
      at_here : Contains saved here
      at_here = found_at saved i d within

      below : k < i → k < length saved
      below b = omega arith

      at_place : (t : Saved) → here ≡ t → distance size (set m (here.x * size + here.y) v) t.x t.y ≡ value t
      at_place t e = subst (λ (u : Saved). distance size (set m (here.x * size + here.y) v) u.x u.y ≡ value u) e (let l : here.x * size + here.y < length m = omega (arith, mul-add-lt here.x size here.y size ((points here at_here).0) ((points here at_here).1)) in rw get_or-set_same is)

  pub each_more : (x y : ℕ) → x < size → y < size → IsSaved saved x y ⊎ (distance size (set m ((slice_index_or saved i d).x * size + (slice_index_or saved i d).y) v) x y ≡ distance size before x y)
  each_more x y inx iny = elim (at_write size m here.x here.y x y v ((points here at_here).0) ((points here at_here).1) inx iny long) [
    | inl w ↦ inl (record { kept = here; found = at_here; left = w.0; right = w.1 })
    | inr u ↦ elim (each x y inx iny) [ inl k ↦ inl k | inr k ↦ inr (u ∙ k) ]
  ]
    where
      at_here : Contains saved here
      at_here = found_at saved i d within

-- the ways over an edge between the same two points
pub one_way : (before : List (Option ℤ)) (most : ℤ) (after : List (Option ℤ)) (s t : Saved) → s.x ≡ t.x → s.y ≡ t.y → over_edge (entry before s.x) most (entry after s.y) ≡ over_edge (entry before t.x) most (entry after t.y)
one_way before most after s t e f = ap (λ k. over_edge (entry before k) most (entry after s.y)) e ∙ ap (λ k. over_edge (entry before t.x) most (entry after k)) f

-- what was kept stays so where no distance is given up
pub saved_more : (xs ys : List Saved) (x y : ℕ) → ((s : Saved) → Contains xs s → Contains ys s) → IsSaved xs x y → IsSaved ys x y
saved_more xs ys x y kept h = record { kept = h.kept; found = kept h.kept h.found; left = h.left; right = h.right }

-- a distance from a point, with what the way over an edge is
pub is_shortened : (matrix before : List (Option ℤ)) (most : ℤ) (after : List (Option ℤ)) (x y : ℕ) (way : Option ℤ) (s : Saved) → x < length before → y < length before → way ≡ over_edge (entry before x) most (entry after y) →
    s.x ≡ x → s.y ≡ y → s.distance ≡ distance (length before) matrix x y → lesser (distance (length before) matrix x y) way ≡ way → IsShortened (length before) matrix before most after s
is_shortened matrix before most after x y way s inx iny is ex ey old shorter = record {
  left = omega arith;
  right = omega arith;
  old = old ∙ sym places;
  shorter = ap (λ o. lesser s.distance o) (ways ∙ sym is) ∙ ap (λ o. lesser o way) old ∙ shorter ∙ is ∙ sym ways;
}
  where
    places : distance (length before) matrix s.x s.y ≡ distance (length before) matrix x y
    places = ap (λ k. distance (length before) matrix k s.y) ex ∙ ap (λ k. distance (length before) matrix x k) ey

    ways : over_edge (entry before s.x) most (entry after s.y) ≡ over_edge (entry before x) most (entry after y)
    ways = ap (λ k. over_edge (entry before k) most (entry after s.y)) ex ∙ ap (λ k. over_edge (entry before x) most (entry after k)) ey

-- ---- points that a way over an edge brings nothing

lesser_none : (o : Option ℤ) → lesser o None ≡ o
lesser_none None = refl
lesser_none (Some v) = refl

-- a distance that is at most a way's sum is the lesser
lesser_under : (o : Option ℤ) (s : ℤ) → IsUnder o s → lesser o (Some s) ≡ o
lesser_under None s h = absurd h
lesser_under (Some v) s h = ap Some (omega (arith, ints, clamps))

-- and the other way round
under_lesser : (o : Option ℤ) (s : ℤ) → lesser o (Some s) ≡ o → IsUnder o s
under_lesser None s h = cc
under_lesser (Some v) s h = let e : int_min v s ≡ v = cc in omega (arith, ints, clamps)

-- where the way over an edge does not shorten the distance to its end, it shortens none
pub no_shorter : (size : ℕ) (d : ℕ → ℕ → Option ℤ) (b : Option ℤ) (most : ℤ) (x to y : ℕ) (o : Option ℤ) → ObeyTriangles size d → x < size → to < size → y < size → o ≡ d to y → lesser (d x to) (over_edge b most (Some (pos 0))) ≡ d x to → lesser (d x y) (over_edge b most o) ≡ d x y
no_shorter size d None most x to y o triangles inx int iny is h = lesser_none (d x y)
no_shorter size d (Some v) most x to y None triangles inx int iny is h = lesser_none (d x y)
no_shorter size d (Some v) most x to y (Some w) triangles inx int iny is h =
    let first : IsUnder (d x to) (v +ℤ most) = subst (IsUnder (d x to)) (let e : (v +ℤ most +ℤ pos 0) ≡ v +ℤ most = omega (arith, ints) in e) (under_lesser (d x to) (v +ℤ most +ℤ pos 0) h) in
    let last : IsUnder (d to y) w = subst (λ o. IsUnder o w) is (let l : w ≤ℤ w = omega (arith, ints) in l) in
    lesser_under (d x y) (v +ℤ most +ℤ w) (triangles x to y (v +ℤ most) w inx int iny first last)

-- where it does not shorten the distance from its beginning, it shortens none either
pub no_shorter_end : (size : ℕ) (d : ℕ → ℕ → Option ℤ) (b : Option ℤ) (most : ℤ) (x from y : ℕ) (o : Option ℤ) → ObeyTriangles size d → x < size → from < size → y < size → b ≡ d x from → lesser (d from y) (over_edge (Some (pos 0)) most o) ≡ d from y → lesser (d x y) (over_edge b most o) ≡ d x y
no_shorter_end size d None most x from y o triangles inx inf iny is h = lesser_none (d x y)
no_shorter_end size d (Some v) most x from y None triangles inx inf iny is h = lesser_none (d x y)
no_shorter_end size d (Some v) most x from y (Some w) triangles inx inf iny is h =
    let first : IsUnder (d x from) v = subst (λ o. IsUnder o v) is (let l : v ≤ℤ v = omega (arith, ints) in l) in
    let last : IsUnder (d from y) (most +ℤ w) = subst (IsUnder (d from y)) (let e : (pos 0 +ℤ most +ℤ w) ≡ most +ℤ w = omega (arith, ints) in e) (under_lesser (d from y) (pos 0 +ℤ most +ℤ w) h) in
    lesser_under (d x y) (v +ℤ most +ℤ w) (subst (IsUnder (d x y)) (let e : (v +ℤ (most +ℤ w)) ≡ v +ℤ most +ℤ w = omega (arith, ints) in e) (triangles x from y v (most +ℤ w) inx inf iny first last))

-- what a list of numbers has at a place is an element of it
pub number_at : (ends : List ℕ) (i : ℕ) (d : ℕ) → i < length ends → Contains ends (slice_index_or ends i d)
number_at ends i d l = (i, l, get_or_default ends i (get_or ends i d) d l)
