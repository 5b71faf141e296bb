-- Sums by the signs of their factors, and the factors of differences.
use Rattle.std.proofs.Common.{◌≡◌, ℕ, zero, suc, ◌<◌, ◌≤◌, ◌+◌, List, ◌∷◌, [], ◌++◌, Bool, true, false, cond, drop, length, refl, sym, ◌∙◌, ap, ap₂, subst, arith}
use Rattle.std.proofs.Math.ListN.{get_or}
use Rattle.std.proofs.lemmas.List.{append_assoc, append-nil}
use Rattle.std.specs.Prelude.{ℤ, pos, ◌+ℤ◌, ◌-ℤ◌, neg_ℤ, int_lt}
use Rattle.std.specs.declared.cmp.Ordering.{Ordering}
use Rattle.std.specs.declared.cmp.Ordering.TheVariants as order
use Rattle.std.specs.Ordering.{int_eq}
use Rattle.std.proofs.lemmas.Bool.{and_parts}
use Rattle.std.proofs.lemmas.Int.{ints}
use Rattle.vf_closure.specs.Terms.{Term}
use Rattle.vf_normal.specs.Order.{compare}
use Rattle.vf_normal.specs.Sums.{Weighted, Linear, is_small, are_small, put, together, times_each}
use Rattle.vf_normal.specs.NormalForms.{AreAtoms}
use Rattle.vf_normal.specs.Comparisons.{difference, above, below}
use Rattle.vf_normal.proofs.Numbers.{less_is}
use Rattle.vf_formula.specs.Linears.{IsSum, IsWide, AreWide}
use Rattle.vf_formula.proofs.Calculating.{negated_sum}
use Rattle.vf_formula.proofs.Merging.{at_index, first_less, first_equal, first_greater, none_behind, small_bounds}

above_by : (w : Weighted) (us : List Weighted) (b : Bool) → cond b (w ∷ us) us ≡ cond b (w ∷ []) [] ++ us
above_by w us true = refl
above_by w us false = refl

above_first : (w : Weighted) (ws : List Weighted) → above (w ∷ ws) ≡ above (w ∷ []) ++ above ws
above_first w ws = above_by w (above ws) (int_lt (pos 0) w.factor)

below_first : (w : Weighted) (ws : List Weighted) → below (w ∷ ws) ≡ below (w ∷ []) ++ below ws
below_first w ws = above_by (record { factor = neg_ℤ w.factor; atom = w.atom }) (below ws) (int_lt w.factor (pos 0))

-- one more atom with a factor above 0, or below
pub one_above : (all new ws : List Weighted) (i : ℕ) (w : Weighted) → i < length ws → w ≡ get_or ws i w → new ≡ all ++ above (w ∷ []) → all ++ above (drop i ws) ≡ above ws → new ++ above (drop (i + 1) ws) ≡ above ws
one_above all new ws i w h e d f =
    ap (λ xs. xs ++ above (drop (i + 1) ws)) d
    ∙ append_assoc all (above (w ∷ [])) (above (drop (i + 1) ws))
    ∙ ap (λ xs. all ++ xs) (sym (above_first w (drop (i + 1) ws)) ∙ sym (ap above (at_index ws i w h e)))
    ∙ f

pub one_below : (all new ws : List Weighted) (i : ℕ) (w : Weighted) → i < length ws → w ≡ get_or ws i w → new ≡ all ++ below (w ∷ []) → all ++ below (drop i ws) ≡ below ws → new ++ below (drop (i + 1) ws) ≡ below ws
one_below all new ws i w h e d f =
    ap (λ xs. xs ++ below (drop (i + 1) ws)) d
    ∙ append_assoc all (below (w ∷ [])) (below (drop (i + 1) ws))
    ∙ ap (λ xs. all ++ xs) (sym (below_first w (drop (i + 1) ws)) ∙ sym (ap below (at_index ws i w h e)))
    ∙ f

none_left : (i : ℕ) (ws : List Weighted) → length ws ≤ i → drop i ws ≡ []
none_left zero [] h = refl
none_left (suc i) [] h = refl
none_left zero (w ∷ ws) h = absurd (omega (arith, h))
none_left (suc i) (w ∷ ws) h = none_left i ws (omega (arith, h))

pub all_above : (all ws : List Weighted) (i : ℕ) → length ws ≤ i → all ++ above (drop i ws) ≡ above ws → all ≡ above ws
all_above all ws i h e = sym (append-nil all) ∙ ap (λ xs. all ++ above xs) (sym (none_left i ws h)) ∙ e

pub all_below : (all ws : List Weighted) (i : ℕ) → length ws ≤ i → all ++ below (drop i ws) ≡ below ws → all ≡ below ws
all_below all ws i h e = sym (append-nil all) ∙ ap (λ xs. all ++ below xs) (sym (none_left i ws h)) ∙ e

pub wide_at : (ws : List Weighted) (i : ℕ) (w : Weighted) → AreWide ws → i < length ws → w ≡ get_or ws i w → IsWide w.factor
wide_at [] i w s h e = absurd (omega arith)
wide_at (v ∷ ws) zero w s h e = subst (λ u. IsWide u.factor) (sym e) s.0
wide_at (v ∷ ws) (suc i) w s h e = wide_at ws i w s.1 (omega arith) e

-- ---- the factors of two sums together
small_wide : (z : ℤ) → is_small z ≡ true → IsWide z
small_wide z e =
    let a = (small_bounds z e).0 in
    let b = (small_bounds z e).1 in
    (omega (arith, ints, a), omega (arith, ints, b))

pub sum_wide : (y z : ℤ) → is_small y ≡ true → is_small z ≡ true → IsWide (y +ℤ z)
sum_wide y z e d =
    let a = (small_bounds y e).0 in
    let b = (small_bounds y e).1 in
    let m = (small_bounds z d).0 in
    let n = (small_bounds z d).1 in
    (omega (arith, ints, a, m), omega (arith, ints, b, n))

are_small_wide : (ws : List Weighted) → are_small ws ≡ true → AreWide ws
are_small_wide [] e = tt
are_small_wide (w ∷ ws) e = let p = and_parts (is_small w.factor) (are_small ws) e in (small_wide w.factor p.0, are_small_wide ws p.1)

put_wide_by : (k : ℤ) (a : Term) (ws : List Weighted) (b : Bool) → IsWide k → AreWide ws → AreWide (cond b ws (record { factor = k; atom = a } ∷ ws))
put_wide_by k a ws true h g = g
put_wide_by k a ws false h g = (h, g)

put_wide : (k : ℤ) (a : Term) (ws : List Weighted) → IsWide k → AreWide ws → AreWide (put k a ws)
put_wide k a ws h g = put_wide_by k a ws (int_eq k (pos 0)) h g

wide_by : (n : ℕ) → ((vs ws : List Weighted) → length vs + length ws ≤ n → AreAtoms vs → AreAtoms ws → are_small vs ≡ true → are_small ws ≡ true → AreWide (together vs ws)) → (v w : Weighted) (vs ws : List Weighted) → length (v ∷ vs) + length (w ∷ ws) ≤ suc n → AreAtoms (v ∷ vs) → AreAtoms (w ∷ ws) → are_small (v ∷ vs) ≡ true → are_small (w ∷ ws) ≡ true → (o : Ordering) → compare v.atom w.atom ≡ o → AreWide (together (v ∷ vs) (w ∷ ws))
wide_by n rest v w vs ws h p q s t order.Less e =
    let a = and_parts (is_small v.factor) (are_small vs) s in
    subst AreWide (sym (first_less v w vs ws p q e)) (small_wide v.factor a.0, rest vs (w ∷ ws) (omega (arith, h)) p.3 q a.1 t)
wide_by n rest v w vs ws h p q s t order.Equal e =
    let a = and_parts (is_small v.factor) (are_small vs) s in
    let b = and_parts (is_small w.factor) (are_small ws) t in
    subst AreWide (sym (first_equal v w vs ws p q e)) (put_wide (v.factor +ℤ w.factor) v.atom (together vs ws) (sum_wide v.factor w.factor a.0 b.0) (rest vs ws (omega (arith, h)) p.3 q.3 a.1 b.1))
wide_by n rest v w vs ws h p q s t order.Greater e =
    let b = and_parts (is_small w.factor) (are_small ws) t in
    subst AreWide (sym (first_greater v w vs ws p q e)) (small_wide w.factor b.0, rest (v ∷ vs) ws (omega (arith, h)) p q.3 s b.1)

wide_within : (n : ℕ) (vs ws : List Weighted) → length vs + length ws ≤ n → AreAtoms vs → AreAtoms ws → are_small vs ≡ true → are_small ws ≡ true → AreWide (together vs ws)
wide_within n [] ws h p q s t = are_small_wide ws t
wide_within n (v ∷ vs) [] h p q s t = subst AreWide (sym (none_behind (v ∷ vs) p)) (are_small_wide (v ∷ vs) s)
wide_within zero (v ∷ vs) (w ∷ ws) h p q s t = absurd (omega (arith, h))
wide_within (suc n) (v ∷ vs) (w ∷ ws) h p q s t = wide_by n (wide_within n) v w vs ws h p q s t (compare v.atom w.atom) refl

-- two sums with small factors together have factors within twice these bounds
pub together_wide : (vs ws : List Weighted) → AreAtoms vs → AreAtoms ws → are_small vs ≡ true → are_small ws ≡ true → AreWide (together vs ws)
together_wide vs ws p q s t = wide_within (length vs + length ws) vs ws (omega arith) p q s t

-- ---- differences
pub difference_is : (f g : Linear) (h : List Weighted) (z : ℤ) → h ≡ together f.atoms (times_each (neg_ℤ (pos 1)) g.atoms) → z ≡ f.number -ℤ g.number → record { atoms = h; number = z } ≡ difference f g
difference_is f g h z e d = ap₂ (λ ws y. record { atoms = ws; number = y }) e (d ∙ sym (less_is f.number g.number))

pub difference_wide : (f g : Linear) (h : List Weighted) → IsSum f.atoms → IsSum g.atoms → h ≡ together f.atoms (times_each (neg_ℤ (pos 1)) g.atoms) → AreWide h
difference_wide f g h p q e =
    let n = negated_sum g.atoms q in
    subst AreWide (sym e) (together_wide f.atoms (times_each (neg_ℤ (pos 1)) g.atoms) p.atoms n.atoms p.small n.small)
