-- The matrix's invariant, at each way_over that a bound is added.
use Rattle.std.proofs.Common.{◌≡◌, ℕ, zero, suc, ◌+◌, ◌*◌, ◌/◌, ◌%◌, ◌<◌, ◌≤◌, ◌^◌, ◌⊎◌, inl, inr, List, [], ◌∷◌, ◌++◌, length, get_or, Some, None, refl, sym, ◌∙◌, ap, subst, arith, Bool, true, false, eqb}
use Rattle.std.specs.Prelude.{ℤ, pos, ◌+ℤ◌, ◌≤ℤ◌, ◌<ℤ◌, Contains, Option, if◌then◌else◌, MatchOption, IfSome, ◌==◌}
use Rattle.std.proofs.lemmas.Int.{ints, clamps, by_lt_z}
use Rattle.std.proofs.lemmas.List.Sums.{sum_by-cons}
use Rattle.std.specs.Prelude.{count_by, cond}
use Rattle.std.proofs.lemmas.Nat.{div-mul-add, mod-mul-add, mul-add-lt, div_below, mod_below, div-add-mod'}
use Rattle.std.proofs.lemmas.List.Elements.{Contains-push, Contains-push_cases}
use Rattle.std.proofs.lemmas.Bool.{cases_lt}
use Rattle.std.proofs.lemmas.Option.{none-some}
use Rattle.std.proofs.lemmas.List.{get_or_default}
use Rattle.std.proofs.Math.Seq.{take-append_seam, get_or-append_seam}
use Rattle.std.proofs.Common.{take}
use Rattle.std.proofs.Math.ListN.{get_or-append, get_or-eq_default}
use borrow.Author.Tests.{eqb-true, eq-eqb}
use Rattle.vf_arith.specs.declared.bounds.Edge.{Edge}
use Rattle.vf_arith.specs.Paths.{Path, path_none, path_edge, IsLeast, HasNegativeCycle, IsSmall}
use Rattle.vf_arith.specs.Matrices.{IsUnder, lesser, over_edge, entry, distance, is_above, AreDistances, IsMatrix, AreSmall}
use Rattle.vf_arith.proofs.Distances.{more, is_under, at_most, no_cycle, distances_more}
use Rattle.vf_arith.proofs.Simplified.{distances_small}

-- what is in a row of a matrix of distances is small
pub row_small : (size : ℕ) (edges : List Edge) (d : ℕ → ℕ → Option ℤ) (row : List (Option ℤ)) (x y : ℕ → ℕ) → size ≤ 2 ^ 24 → AreDistances size edges d → ((e : Edge) → Contains edges e → IsSmall (2 ^ 100) e.most) →
    length row ≡ size → ((k : ℕ) → k < size → (x k < size) × (y k < size)) → ((k : ℕ) → k < size → entry row k ≡ d (x k) (y k)) → AreSmall row
row_small size edges d row x y few is small long points at k v e = elim (cases_lt k size) [
  | inl l ↦ (let s = distances_small size (2 ^ 100) edges d is small (x k) (y k) v ((points k l).0) ((points k l).1) (sym (at k l) ∙ e) in
      record { low = let h = s.low in omega (arith, ints); high = let h = s.high in omega (arith, ints) })
  | inr l ↦ absurd (let n : entry row k ≡ None = get_or-eq_default row None (omega arith) in none-some v (sym n ∙ e))
]

pub small_more : (edges : List Edge) (e : Edge) → ((f : Edge) → Contains edges f → IsSmall (2 ^ 100) f.most) → IsSmall (2 ^ 100) e.most → (f : Edge) → Contains (edges ++ e ∷ []) f → IsSmall (2 ^ 100) f.most
small_more edges e small new f m = elim (Contains-push_cases edges e f m) [ inl k ↦ small f k | inr g ↦ subst (λ (w : Edge). IsSmall (2 ^ 100) w.most) g new ]

pub cycle_more : (edges : List Edge) (e : Edge) → HasNegativeCycle edges → HasNegativeCycle (edges ++ e ∷ [])
cycle_more edges e h = record { point = h.point; total = h.total; cycle = more e h.cycle; below = h.below }

-- the points of one edge more
points_more : (size : ℕ) (edges : List Edge) (e : Edge) → ((f : Edge) → Contains edges f → (f.from < size) × (f.to < size)) → e.from < size → e.to < size → (f : Edge) → Contains (edges ++ e ∷ []) f → (f.from < size) × (f.to < size)
points_more size edges e points inx iny f m = elim (Contains-push_cases edges e f m) [ inl k ↦ points f k | inr g ↦ (subst (λ (w : Edge). w.from < size) g inx, subst (λ (w : Edge). w.to < size) g iny) ]

pub matrix_cyclic : (size : ℕ) (edges : List Edge) (c : Bool) (matrix : List (Option ℤ)) (e : Edge) → IsMatrix size edges c matrix → c ≡ true → IsSmall (2 ^ 100) e.most → e.from < size → e.to < size → IsMatrix size (edges ++ e ∷ []) c matrix
matrix_cyclic size edges c matrix e is set new inx iny = record {
  few = is.few;
  long = is.long;
  points = points_more size edges e is.points inx iny;
  small = small_more edges e is.small new;
  exact = λ no. absurd (cc);
  bad = λ t. cycle_more edges e (is.bad set);
}

pub matrix_closes : (size : ℕ) (edges : List Edge) (c : Bool) (matrix : List (Option ℤ)) (e : Edge) (t : ℤ) → IsMatrix size edges c matrix → c ≡ false → IsSmall (2 ^ 100) e.most → e.from < size → e.to < size → distance size matrix e.to e.from ≡ Some t → (t +ℤ e.most) <ℤ pos 0 → IsMatrix size (edges ++ e ∷ []) true matrix
matrix_closes size edges c matrix e t is unset new inx iny back below = record {
  few = is.few;
  long = is.long;
  points = points_more size edges e is.points inx iny;
  small = small_more edges e is.small new;
  exact = λ f. absurd (cc);
  bad = λ y. record { point = e.from; total = e.most +ℤ t; cycle = path_edge e (Contains-push edges e) (more e ((is.exact unset).sound e.to e.from t iny inx back)); below = omega (arith, ints) };
}

pub matrix_relaxed : (size : ℕ) (edges : List Edge) (c : Bool) (matrix after : List (Option ℤ)) (e : Edge) (row column : List (Option ℤ)) (most : ℤ) → most ≡ e.most → IsMatrix size edges c matrix → c ≡ false → IsSmall (2 ^ 100) e.most → e.from < size → e.to < size →
    ((t : ℤ) → distance size matrix e.to e.from ≡ Some t → (t +ℤ e.most) <ℤ pos 0 → ⊥) → length after ≡ length matrix →
    ((k : ℕ) → k < size → entry column k ≡ distance size matrix k e.from) → ((k : ℕ) → k < size → entry row k ≡ distance size matrix e.to k) →
    ((x y : ℕ) → x < size → y < size → distance size after x y ≡ lesser (distance size matrix x y) (over_edge (entry column x) most (entry row y))) →
    IsMatrix size (edges ++ e ∷ []) c after
matrix_relaxed size edges c matrix after e row column most mis is unset new inx iny fine long columns rows entries = record {
  few = is.few;
  long = long ∙ is.long;
  points = points_more size edges e is.points inx iny;
  small = small_more edges e is.small new;
  exact = λ f. distances_more size edges (distance size matrix) (distance size after) e (is.exact unset) inx iny
      (λ t h. by_lt_z (t +ℤ e.most) (pos 0) (λ k. absurd (fine t h k)) (λ k. k))
      (λ x y i j. entries x y i j
      ∙ ap (λ (m : ℤ). lesser (distance size matrix x y) (over_edge (entry column x) m (entry row y))) mis
      ∙ ap (λ (o : Option ℤ). lesser (distance size matrix x y) (over_edge o e.most (entry row y))) (columns x i)
      ∙ ap (λ (o : Option ℤ). lesser (distance size matrix x y) (over_edge (distance size matrix x e.from) e.most o)) (rows y j));
  bad = λ t. absurd (cc);
}

-- the distances where there is no edge
pub matrix_none : (size : ℕ) (matrix : List (Option ℤ)) → size ≤ 2 ^ 24 → length matrix ≡ size * size → ((k : ℕ) → k < size * size → entry matrix k ≡ (if k / size == k % size then Some (pos 0) else None)) → IsMatrix size [] false matrix
matrix_none size matrix few long entries = record {
  few = few;
  long = long;
  points = λ e m. absurd (let l = m.1 in omega arith);
  small = λ e m. absurd (let l = m.1 in omega arith);
  exact = λ f. record {
    sound = λ x y v i j h. from_zero x y v i j (is_under (distance size matrix x y) v h) h;
    own = λ x i. at x x i i ∙ same x;
    points = λ e m. absurd (let l = m.1 in omega arith);
    edge = λ e m. absurd (let l = m.1 in omega arith);
    triangle = λ x y z a b i j k h l. three x y z a b i j k h l;
  };
  bad = λ t. absurd (cc);
}
  where
    at : (x y : ℕ) → x < size → y < size → distance size matrix x y ≡ (if x == y then Some (pos 0) else None)
    at x y i j = entries (x * size + y) (mul-add-lt x size y size i j) ∙ ap (λ (t : Bool). if t then Some (pos 0) else None) (ap (λ k. eqb k ((x * size + y) % size)) (div-mul-add x size y j) ∙ ap (λ k. eqb x k) (mod-mul-add x size y j))

    same : (x : ℕ) → (if x == x then Some (pos 0) else None) ≡ Some (pos 0)
    same x = ap (λ (t : Bool). if t then Some (pos 0) else None) (eq-eqb x x refl)

    point : (x y : ℕ) (a : ℤ) → x < size → y < size → IsUnder (distance size matrix x y) a → (x ≡ y) × (pos 0 ≤ℤ a)
    point x y a i j h = go (eqb x y) refl (subst (λ o. IsUnder o a) (at x y i j) h)
      where
        go : (t : Bool) → eqb x y ≡ t → IsUnder (if t then Some (pos 0) else None) a → (x ≡ y) × (pos 0 ≤ℤ a)
        go true e k = (eqb-true x y e, k)
        go false e k = absurd k

    from_zero : (x y : ℕ) (v : ℤ) → x < size → y < size → IsUnder (distance size matrix x y) v → distance size matrix x y ≡ Some v → Path [] x y v
    from_zero x y v i j w h = let p = point x y v i j w in
        let e : Some (pos 0) ≡ Some v = sym (same y) ∙ sym (at y y j j) ∙ subst (λ z. distance size matrix z y ≡ Some v) p.0 h in
        let f : pos 0 ≡ v = cc in
        subst (λ z. Path [] z y v) (sym p.0) (subst (Path [] y y) f path_none)

    three : (x y z : ℕ) (a b : ℤ) → x < size → y < size → z < size → IsUnder (distance size matrix x y) a → IsUnder (distance size matrix y z) b → IsUnder (distance size matrix x z) (a +ℤ b)
    three x y z a b i j k h l = let p = point x y a i j h in let q = point y z b j k l in
        subst (λ w. IsUnder (distance size matrix x w) (a +ℤ b)) (p.0 ∙ q.0) (subst (λ o. IsUnder o (a +ℤ b)) (sym (at x x i i ∙ same x)) (let g = p.1 in let g' = q.1 in let r : pos 0 ≤ℤ (a +ℤ b) = omega (arith, ints) in r))

-- a chain that is not empty starts at a point
inside : {edges : List Edge} {x y : ℕ} {c : ℤ} (size : ℕ) → ((e : Edge) → Contains edges e → e.from < size) → Path edges x y c → (c ≡ pos 0) ⊎ (x < size)
inside size from path_none = inl refl
inside size from (path_edge e m h) = inr (from e m)

pub cycle_iff : (size : ℕ) (edges : List Edge) (c : Bool) (matrix : List (Option ℤ)) → IsMatrix size edges c matrix → (c ≡ true → HasNegativeCycle edges) × (HasNegativeCycle edges → c ≡ true)
cycle_iff size edges true matrix is = (λ t. is.bad refl, λ h. refl)
cycle_iff size edges false matrix is = (λ t. absurd (cc), λ h. absurd (clash h))
  where
    clash : HasNegativeCycle edges → ⊥
    clash h = elim (inside size (λ e m. ((is.exact refl).points e m).0) h.cycle) [
      | inl e ↦ (let b = h.below in omega (arith, ints))
      | inr i ↦ (let b = h.below in let g = no_cycle size edges (distance size matrix) (is.exact refl) i h.cycle in omega (arith, ints))
    ]

pub bound_is : (size : ℕ) (edges : List Edge) (d : ℕ → ℕ → Option ℤ) → AreDistances size edges d → (x y : ℕ) → x < size → y < size → (o : Option ℤ) → d x y ≡ o → MatchOption o ((c : ℤ) → Path edges x y c → ⊥) (λ c. IsLeast edges x y c)
bound_is size edges d is x y i j None e = λ c h. subst (λ o. IsUnder o c) e (at_most size edges d is i j h)
bound_is size edges d is x y i j (Some v) e = record { reached = is.sound x y v i j e; least = λ c h. subst (λ o. IsUnder o c) e (at_most size edges d is i j h) }

-- a least bound is small
pub bound_small : (size : ℕ) (edges : List Edge) (c : Bool) (matrix : List (Option ℤ)) → IsMatrix size edges c matrix → c ≡ false → (x y : ℕ) → x < size → y < size → (o : Option ℤ) → distance size matrix x y ≡ o → IfSome o (λ v. IsSmall (2 ^ 125) v)
bound_small size edges c matrix is unset x y i j None e = tt
bound_small size edges c matrix is unset x y i j (Some v) e =
    let s = distances_small size (2 ^ 100) edges (distance size matrix) (is.exact unset) is.small x y v i j e in
    let f = is.few in
    record { low = let h = s.low in omega (arith, ints); high = let h = s.high in omega (arith, ints) }

-- ---- the parts of `add`

pub at_entry : (row : List (Option ℤ)) (k : ℕ) (o : Option ℤ) → k < length row → o ≡ get_or row k o → entry row k ≡ o
at_entry row k o l e = get_or_default row k None o l ∙ sym e

pub column_small : (size : ℕ) (edges : List Edge) (c : Bool) (matrix now column : List (Option ℤ)) (p : ℕ) → IsMatrix size edges c matrix → c ≡ false → now ≡ matrix → p < size →
    (length column ≡ size) × ((k : ℕ) → k < size → entry column k ≡ distance size now k p) → AreSmall column
column_small size edges c matrix now column p is unset same inp made =
    row_small size edges (distance size matrix) column (λ k. k) (λ k. p) is.few (is.exact unset) is.small made.0 (λ k l. (l, inp)) (λ k l. made.1 k l ∙ ap (λ (t : List (Option ℤ)). distance size t k p) same)

pub rows_small : (size : ℕ) (edges : List Edge) (c : Bool) (matrix now row : List (Option ℤ)) (p : ℕ) → IsMatrix size edges c matrix → c ≡ false → now ≡ matrix → p < size →
    (length row ≡ size) × ((k : ℕ) → k < size → entry row k ≡ distance size now p k) → AreSmall row
rows_small size edges c matrix now row p is unset same inp made =
    row_small size edges (distance size matrix) row (λ k. p) (λ k. k) is.few (is.exact unset) is.small made.0 (λ k l. (inp, l)) (λ k l. made.1 k l ∙ ap (λ (t : List (Option ℤ)). distance size t p k) same)

pub written : (n : ℕ) (new rest : List (Option ℤ)) → length new ≡ n → take n (new ++ rest) ≡ new
written n new rest e = rw (← e) (take-append_seam new rest)

-- what holds of each entry holds of each when one more has it
pub entries_push : (P : ℕ → Option ℤ → Type 0) (k : ℕ) (xs ys : List (Option ℤ)) (v : Option ℤ) → length xs ≡ k → ys ≡ xs ++ v ∷ [] → ((j : ℕ) → j < k → P j (entry xs j)) → P k v → (j : ℕ) → j < k + 1 → P j (entry ys j)
entries_push P k xs ys v long made each last j l = elim (cases_lt j k) [
  | inl i ↦ subst (P j) (sym (ap (λ zs. entry zs j) made ∙ get_or-append xs (v ∷ []) None j (omega arith))) (each j i)
  | inr i ↦ (let e : k ≡ j = omega arith in subst (λ n. P n (entry ys n)) e (subst (P k) (sym (ap (λ zs. entry zs k) made ∙ subst (λ n. entry (xs ++ v ∷ []) n ≡ v) long (get_or-append_seam xs v [] None))) last))
]

-- ---- the weight

lesser_above : (a b : Option ℤ) → is_above a ≡ false → is_above (lesser a b) ≡ false
lesser_above None b h = cc
lesser_above (Some v) None h = h
lesser_above (Some v) (Some w) h = grind (arith, ints, clamps)

under_above : (o : Option ℤ) → IsUnder o (pos 0) → is_above o ≡ false
under_above None h = absurd h
under_above (Some v) h = grind (arith, ints)

above_under : (o : Option ℤ) → is_above o ≡ false → IsUnder o (pos 0)
above_under None h = cc
above_under (Some v) h = grind (arith, ints)

count_le : (xs ys : List (Option ℤ)) → length ys ≡ length xs → ((k : ℕ) → k < length xs → is_above (entry xs k) ≡ false → is_above (entry ys k) ≡ false) → count_by is_above ys ≤ count_by is_above xs
count_le [] [] e h = omega arith
count_le [] (y ∷ ys) e h = absurd (omega arith)
count_le (x ∷ xs) [] e h = absurd (omega arith)
count_le (x ∷ xs) (y ∷ ys) e h = simp sum_by-cons (one (is_above x) (is_above y) (λ k. h 0 (omega arith) k) (count_le xs ys (omega arith) (λ k l. h (suc k) (omega arith))))
  where
    one : (a b : Bool) → (a ≡ false → b ≡ false) → count_by is_above ys ≤ count_by is_above xs → cond b 1 0 + count_by is_above ys ≤ cond a 1 0 + count_by is_above xs
    one true true f l = omega arith
    one true false f l = omega arith
    one false b f l = rw (f refl) (omega arith)

count_falls : (xs ys : List (Option ℤ)) (j : ℕ) → length ys ≡ length xs → ((k : ℕ) → k < length xs → is_above (entry xs k) ≡ false → is_above (entry ys k) ≡ false) → j < length xs → is_above (entry xs j) ≡ true → is_above (entry ys j) ≡ false → count_by is_above ys < count_by is_above xs
count_falls [] ys j e h l a b = absurd (omega arith)
count_falls (x ∷ xs) [] j e h l a b = absurd (omega arith)
count_falls (x ∷ xs) (y ∷ ys) zero e h l a b = simp sum_by-cons (rw (a, b) (let c = count_le xs ys (omega arith) (λ k l. h (suc k) (omega arith)) in omega arith))
count_falls (x ∷ xs) (y ∷ ys) (suc j) e h l a b = simp sum_by-cons (one (is_above x) (is_above y) (λ k. h 0 (omega arith) k) (count_falls xs ys j (omega arith) (λ k l. h (suc k) (omega arith)) (omega arith) a b))
  where
    one : (a b : Bool) → (a ≡ false → b ≡ false) → count_by is_above ys < count_by is_above xs → cond b 1 0 + count_by is_above ys < cond a 1 0 + count_by is_above xs
    one true true f l = omega arith
    one true false f l = omega arith
    one false b f l = rw (f refl) (omega arith)

-- where the matrix is relaxed by an edge of at most 0 between two points that were not within 0
pub weight_falls : (size : ℕ) (edges : List Edge) (c : Bool) (matrix after : List (Option ℤ)) (e : Edge) → IsMatrix size edges c matrix → c ≡ false → IsMatrix size (edges ++ e ∷ []) c after →
    ((x y : ℕ) → x < size → y < size → (o : Option ℤ) × (distance size after x y ≡ lesser (distance size matrix x y) o)) → e.most ≤ℤ pos 0 → ((v : ℤ) → v ≤ℤ pos 0 → Path edges e.from e.to v → ⊥) → count_by is_above after < count_by is_above matrix
weight_falls size edges c matrix after e is unset next entries below without_edges =
    count_falls matrix after (e.from * size + e.to) (next.long ∙ sym is.long)
    falls
    (let l = mul-add-lt e.from size e.to size inx iny in let g = is.long in omega arith)
    (was_above (is_above (distance size matrix e.from e.to)) refl)
    (under_above (distance size after e.from e.to) (weaken (distance size after e.from e.to) e.most below ((next.exact unset).edge e (Contains-push edges e))))
  where
    inx : e.from < size
    inx = ((next.exact unset).points e (Contains-push edges e)).0

    iny : e.to < size
    iny = ((next.exact unset).points e (Contains-push edges e)).1

    falls : (k : ℕ) → k < length matrix → is_above (entry matrix k) ≡ false → is_above (entry after k) ≡ false
    falls k l h =
        let some : 0 < size = omega (arith, inx) in
        let d = entries (k / size) (k % size) (div_below k size size some (let g = is.long in omega arith)) (mod_below k size some) in
        let place : k / size * size + k % size ≡ k = div-add-mod' k size in
        subst (λ j. is_above (entry after j) ≡ false) place (rw d.1 (lesser_above (distance size matrix (k / size) (k % size)) d.0 (subst (λ j. is_above (entry matrix j) ≡ false) (sym place) h)))

    weaken : (o : Option ℤ) (m : ℤ) → m ≤ℤ pos 0 → IsUnder o m → IsUnder o (pos 0)
    weaken None m l h = h
    weaken (Some v) m l h = omega (arith, ints)

    chained : (o : Option ℤ) → distance size matrix e.from e.to ≡ o → IsUnder o (pos 0) → ⊥
    chained None q h = h
    chained (Some v) q h = without_edges v h ((is.exact unset).sound e.from e.to v inx iny q)

    was_above : (b : Bool) → is_above (distance size matrix e.from e.to) ≡ b → is_above (distance size matrix e.from e.to) ≡ true
    was_above true q = q
    was_above false q = absurd (chained (distance size matrix e.from e.to) refl (above_under (distance size matrix e.from e.to) q))
