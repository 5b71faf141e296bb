-- Linear sums, atom by atom.
use Rattle.std.proofs.Common.{◌≡◌, ℕ, zero, suc, ◌<◌, ◌≤◌, ◌+◌, List, ◌∷◌, [], ◌++◌, map, min, length-drop, Bool, true, false, cond, drop, take, length, refl, sym, ◌∙◌, ap, ap₂, subst, arith}
use Rattle.std.proofs.Math.Seq.{drop-cons}
use Rattle.std.proofs.Math.ListN.{get_or}
use Rattle.std.proofs.lemmas.List.{append_assoc}
use Rattle.std.proofs.Math.Numerals.{add-one}
use Rattle.std.specs.Prelude.{ℤ, pos, ◌+ℤ◌, int_le, neg_ℤ, ◌^◌, ◌≤ℤ◌, FitsSigned}
use Rattle.std.specs.declared.cmp.Ordering.{Ordering}
use Rattle.std.specs.declared.cmp.Ordering.TheVariants as order
use Rattle.std.specs.Ordering.{int_eq}
use Rattle.std.proofs.lemmas.Bool.{and_parts}
use Rattle.std.proofs.lemmas.Int.{ints}
use mir.Syntax.{w128}
use mir.Val.{to_z, of_z}
use Rattle.vf_closure.specs.Terms.{Head, Sum, Plus, Term, Terms, term, and_term, number, plus}
use Rattle.vf_normal.specs.Order.{compare}
use Rattle.vf_normal.specs.Sums.{Weighted, is_small, are_small, put, placed, with_atom, together, paired, one_atom, form_of, factors_of, row_of, sum_of, total_of}
use Rattle.vf_normal.specs.NormalForms.{IsBefore, AreAtoms}
use Rattle.vf_normal.proofs.Order.{order_total}
use Rattle.vf_normal.proofs.Stay.{with_first, together_none}
use Rattle.vf_normal.proofs.Reached.{greater, before_with}
use Rattle.vf_formula.specs.Rows.{row}

-- ---- two sums together
before_together : (a : Term) (vs ws : List Weighted) → IsBefore a vs → IsBefore a ws → IsBefore a (together vs ws)
before_together a [] ws h g = g
before_together a (v ∷ vs) ws h g = before_with a v.factor v.atom (together vs ws) h.0 (before_together a vs ws h.1 g)

before_through : (a b : Term) (ws : List Weighted) → compare a b ≡ order.Less → IsBefore b ws → IsBefore a ws
before_through a b [] e h = tt
before_through a b (w ∷ ws) e h = (order_total.0.trans a b w.atom e h.0, before_through a b ws e h.1)

skipped : (w : Weighted) (vs ws : List Weighted) → IsBefore w.atom vs → together vs (w ∷ ws) ≡ w ∷ together vs ws
skipped w [] ws h = refl
skipped w (v ∷ vs) ws h =
    ap (with_atom v.factor v.atom) (skipped w vs ws h.1)
    ∙ ap (placed v.factor v.atom w (together vs ws) (with_atom v.factor v.atom (together vs ws))) (order_total.0.antisymm v.atom w.atom ∙ ap turned h.0)
  where
    turned : Ordering → Ordering
    turned order.Less = order.Greater
    turned order.Equal = order.Equal
    turned order.Greater = order.Less

pub first_less : (v w : Weighted) (vs ws : List Weighted) → AreAtoms (v ∷ vs) → AreAtoms (w ∷ ws) → compare v.atom w.atom ≡ order.Less → together (v ∷ vs) (w ∷ ws) ≡ v ∷ together vs (w ∷ ws)
first_less v w vs ws h g e =
    with_first v (together vs (w ∷ ws)) h.0 (before_together v.atom vs (w ∷ ws) h.2 (e, before_through v.atom w.atom ws e g.2))

pub first_equal : (v w : Weighted) (vs ws : List Weighted) → AreAtoms (v ∷ vs) → AreAtoms (w ∷ ws) → compare v.atom w.atom ≡ order.Equal → together (v ∷ vs) (w ∷ ws) ≡ put (v.factor +ℤ w.factor) v.atom (together vs ws)
first_equal v w vs ws h g e =
    ap (with_atom v.factor v.atom) (skipped w vs ws (subst (λ t. IsBefore t vs) ((order_total.1 v.atom w.atom).0 e) h.2))
    ∙ ap (placed v.factor v.atom w (together vs ws) (with_atom v.factor v.atom (together vs ws))) e

pub first_greater : (v w : Weighted) (vs ws : List Weighted) → AreAtoms (v ∷ vs) → AreAtoms (w ∷ ws) → compare v.atom w.atom ≡ order.Greater → together (v ∷ vs) (w ∷ ws) ≡ w ∷ together (v ∷ vs) ws
first_greater v w vs ws h g e =
    let d = greater v.atom w.atom e in
    skipped w (v ∷ vs) ws (d, before_through w.atom v.atom vs d h.2)

pub none_behind : (ws : List Weighted) → AreAtoms ws → together ws [] ≡ ws
none_behind ws h = together_none ws h

-- ---- parts of sums
pub atoms_drop : (i : ℕ) (ws : List Weighted) → AreAtoms ws → AreAtoms (drop i ws)
atoms_drop zero ws h = h
atoms_drop (suc i) [] h = tt
atoms_drop (suc i) (w ∷ ws) h = atoms_drop i ws h.3

put_more_by : (b : Bool) (w : Weighted) (ws : List Weighted) → cond b ws (w ∷ ws) ≡ cond b [] (w ∷ []) ++ ws
put_more_by true w ws = refl
put_more_by false w ws = refl

pub put_more : (k : ℤ) (a : Term) (ws : List Weighted) → put k a ws ≡ put k a [] ++ ws
put_more k a ws = put_more_by (int_eq k (pos 0)) (record { factor = k; atom = a }) ws

-- ---- factors and atoms apart
pub factors_map : (ws : List Weighted) → map (λ w. w.factor) ws ≡ factors_of ws
factors_map [] = refl
factors_map (w ∷ ws) = ap (λ ks. w.factor ∷ ks) (factors_map ws)

pub row_map : (ws : List Weighted) → row (map (λ w. w.atom) ws) ≡ row_of ws
row_map [] = refl
row_map (w ∷ ws) = ap (and_term w.atom) (row_map ws)

-- ---- where two sums are gone through
pub at_index : {A : Type 0} (xs : List A) (i : ℕ) (x : A) → i < length xs → x ≡ get_or xs i x → drop i xs ≡ x ∷ drop (i + 1) xs
at_index xs i x h e = drop-cons xs i x h ∙ ap₂ (λ y j. y ∷ drop j xs) (sym e) (sym (add-one i))

module _ (all vs ws : List Weighted) (i j : ℕ) (v w : Weighted) (p : AreAtoms vs) (q : AreAtoms ws) (h : i < length vs) (g : j < length ws) (e : v ≡ get_or vs i v) (f : w ≡ get_or ws j w) where
  left_rest : AreAtoms (v ∷ drop (i + 1) vs)
  left_rest = subst AreAtoms (at_index vs i v h e) (atoms_drop i vs p)

  right_rest : AreAtoms (w ∷ drop (j + 1) ws)
  right_rest = subst AreAtoms (at_index ws j w g f) (atoms_drop j ws q)

  both_rests : together (drop i vs) (drop j ws) ≡ together (v ∷ drop (i + 1) vs) (w ∷ drop (j + 1) ws)
  both_rests = ap₂ together (at_index vs i v h e) (at_index ws j w g f)

  pub merged_less : compare v.atom w.atom ≡ order.Less → (all ++ v ∷ []) ++ together (drop (i + 1) vs) (drop j ws) ≡ all ++ together (drop i vs) (drop j ws)
  merged_less c =
      append_assoc all (v ∷ []) (together (drop (i + 1) vs) (drop j ws))
      ∙ ap (λ xs. all ++ xs)
      (ap (λ xs. v ∷ together (drop (i + 1) vs) xs) (at_index ws j w g f)
      ∙ sym (first_less v w (drop (i + 1) vs) (drop (j + 1) ws) left_rest right_rest c)
      ∙ sym both_rests)

  pub merged_equal : compare v.atom w.atom ≡ order.Equal → (all ++ put (v.factor +ℤ w.factor) v.atom []) ++ together (drop (i + 1) vs) (drop (j + 1) ws) ≡ all ++ together (drop i vs) (drop j ws)
  merged_equal c =
      append_assoc all (put (v.factor +ℤ w.factor) v.atom []) (together (drop (i + 1) vs) (drop (j + 1) ws))
      ∙ ap (λ xs. all ++ xs)
      (sym (put_more (v.factor +ℤ w.factor) v.atom (together (drop (i + 1) vs) (drop (j + 1) ws)))
      ∙ sym (first_equal v w (drop (i + 1) vs) (drop (j + 1) ws) left_rest right_rest c)
      ∙ sym both_rests)

  pub merged_greater : compare v.atom w.atom ≡ order.Greater → (all ++ w ∷ []) ++ together (drop i vs) (drop (j + 1) ws) ≡ all ++ together (drop i vs) (drop j ws)
  merged_greater c =
      append_assoc all (w ∷ []) (together (drop i vs) (drop (j + 1) ws))
      ∙ ap (λ xs. all ++ xs)
      (ap (λ xs. w ∷ together xs (drop (j + 1) ws)) (at_index vs i v h e)
      ∙ sym (first_greater v w (drop (i + 1) vs) (drop (j + 1) ws) left_rest right_rest c)
      ∙ sym both_rests)

nothing_more : {A : Type 0} (xs : List A) → xs ++ [] ≡ xs
nothing_more [] = refl
nothing_more (x ∷ xs) = ap (λ ys. x ∷ ys) (nothing_more xs)

is_within : {A : Type 0} (i : ℕ) (xs ys : List A) (y : A) → drop i xs ≡ y ∷ ys → i < length xs
is_within i xs ys y e = omega (arith, ap length e, length-drop i xs)

-- where one of two sums has ended what is left of both is together
pub merged_end : (i j : ℕ) (vs ws : List Weighted) → AreAtoms vs → (i < length vs → j < length ws → ⊥) → together (drop i vs) (drop j ws) ≡ drop i vs ++ drop j ws
merged_end i j vs ws h k = by (drop i vs) (drop j ws) refl refl
  where
    by : (xs ys : List Weighted) → drop i vs ≡ xs → drop j ws ≡ ys → together xs ys ≡ xs ++ ys
    by [] ys e d = refl
    by (x ∷ xs) [] e d = none_behind (x ∷ xs) (subst AreAtoms e (atoms_drop i vs h)) ∙ sym (nothing_more (x ∷ xs))
    by (x ∷ xs) (y ∷ ys) e d = absurd (k (is_within i vs xs x e) (is_within j ws ys y d))

pub small_at : (ws : List Weighted) (i : ℕ) (w : Weighted) → are_small ws ≡ true → i < length ws → w ≡ get_or ws i w → is_small w.factor ≡ true
small_at [] i w s h e = absurd (omega arith)
small_at (v ∷ ws) zero w s h e = ap (λ u. is_small u.factor) e ∙ (and_parts (is_small v.factor) (are_small ws) s).0
small_at (v ∷ ws) (suc i) w s h e = small_at ws i w (and_parts (is_small v.factor) (are_small ws) s).1 (omega arith) e

-- the sum of two small numbers is within 128 bits
pub sum_fits : (a b : ℤ) → is_small a ≡ true → is_small b ≡ true → FitsSigned w128 (to_z w128 (of_z w128 a) +ℤ to_z w128 (of_z w128 b))
sum_fits a b e h =
    let p = (and_parts (int_le (neg_ℤ (pos (2 ^ 90))) a) (int_le a (pos (2 ^ 90))) e).0 in
    let q = (and_parts (int_le (neg_ℤ (pos (2 ^ 90))) a) (int_le a (pos (2 ^ 90))) e).1 in
    let r = (and_parts (int_le (neg_ℤ (pos (2 ^ 90))) b) (int_le b (pos (2 ^ 90))) h).0 in
    let s = (and_parts (int_le (neg_ℤ (pos (2 ^ 90))) b) (int_le b (pos (2 ^ 90))) h).1 in
    grind (arith, ints)

-- ---- terms as sums, and sums as terms
pub paired_ended : (i : ℕ) (ks : List ℤ) (ts : List Term) → i ≡ min (length ks) (length ts) → paired (drop i ks) (row (drop i ts)) ≡ []
paired_ended zero [] ts h = refl
paired_ended zero (k ∷ ks) [] h = refl
paired_ended zero (k ∷ ks) (t ∷ ts) h = absurd (omega arith)
paired_ended (suc i) [] ts h = absurd (omega arith)
paired_ended (suc i) (k ∷ ks) [] h = absurd (omega arith)
paired_ended (suc i) (k ∷ ks) (t ∷ ts) h = paired_ended i ks ts (omega arith)

pub all_paired : (all : List Weighted) (i : ℕ) (ks : List ℤ) (ts : List Term) → i ≡ min (length ks) (length ts) → all ++ paired (drop i ks) (row (drop i ts)) ≡ paired ks (row ts) → all ≡ paired ks (row ts)
all_paired all i ks ts h e = sym (nothing_more all) ∙ ap (λ xs. all ++ xs) (sym (paired_ended i ks ts h)) ∙ e

-- a sum and a number that does not have two parts is one atom
pub plus_apart : (t : Term) (h : Head) (ts : List Term) (us : Terms) → t ≡ term Plus us → term h (row ts) ≡ t → (length ts ≡ 2 → ⊥) → form_of t ≡ record { atoms = one_atom t; number = pos 0 }
plus_apart t h ts us e d n =
    let same : us ≡ row ts = cc in
    let whole : t ≡ term Plus (row ts) = e ∙ ap (term Plus) same in
    subst (λ x. form_of x ≡ record { atoms = one_atom x; number = pos 0 }) (sym whole) (by ts n)
  where
    by : (ts : List Term) → (length ts ≡ 2 → ⊥) → form_of (term Plus (row ts)) ≡ record { atoms = one_atom (term Plus (row ts)); number = pos 0 }
    by [] n = refl
    by (a ∷ []) n = refl
    by (a ∷ b ∷ []) n = absurd (n refl)
    by (a ∷ b ∷ c ∷ ts) n = refl

pub one_is : (ws : List Weighted) (w : Weighted) → length ws ≡ 1 → w ≡ get_or ws 0 w → ws ≡ w ∷ []
one_is [] w h e = absurd (omega (arith, h))
one_is (v ∷ []) w h e = ap (λ u. u ∷ []) (sym e)
one_is (v ∷ u ∷ ws) w h e = absurd (omega (arith, h))

pub many_are : (ws : List Weighted) → (length ws ≡ 0 → ⊥) → (length ws ≡ 1 → ⊥) → sum_of ws ≡ term (Sum (factors_of ws)) (row_of ws)
many_are [] n m = absurd (n refl)
many_are (w ∷ []) n m = absurd (m refl)
many_are (w ∷ v ∷ ws) n m = refl

pub total_none : (ws : List Weighted) (z : ℤ) → length ws ≡ 0 → total_of ws z ≡ number z
total_none [] z h = refl
total_none (w ∷ ws) z h = absurd (omega (arith, h))

pub total_more : (ws : List Weighted) (z : ℤ) → (length ws ≡ 0 → ⊥) → total_of ws z ≡ cond (int_eq z (pos 0)) (sum_of ws) (plus (sum_of ws) z)
total_more [] z n = absurd (n refl)
total_more (w ∷ ws) z n = refl

pub take_whole : {A : Type 0} (i : ℕ) (xs : List A) → length xs ≤ i → take i xs ≡ xs
take_whole zero [] h = refl
take_whole (suc i) [] h = refl
take_whole zero (x ∷ xs) h = absurd (omega (arith, h))
take_whole (suc i) (x ∷ xs) h = ap (λ ys. x ∷ ys) (take_whole i xs (omega (arith, h)))

-- all terms of atoms are in a row
pub all_rows : (all : List Term) (i : ℕ) (ws : List Weighted) → length ws ≤ i → all ≡ map (λ w. w.atom) (take i ws) → row all ≡ row_of ws
all_rows all i ws h e = ap row (e ∙ ap (map (λ w. w.atom)) (take_whole i ws h)) ∙ row_map ws

-- a small number is within its bounds
pub small_bounds : (z : ℤ) → is_small z ≡ true → (neg_ℤ (pos (2 ^ 90)) ≤ℤ z) × (z ≤ℤ pos (2 ^ 90))
small_bounds z e =
    let a = (and_parts (int_le (neg_ℤ (pos (2 ^ 90))) z) (int_le z (pos (2 ^ 90))) e).0 in
    let b = (and_parts (int_le (neg_ℤ (pos (2 ^ 90))) z) (int_le z (pos (2 ^ 90))) e).1 in
    (grind (arith, ints), grind (arith, ints))

-- the end of a sum with an atom that both have
pub merged_both : (all new vs ws : List Weighted) (i j : ℕ) (v w : Weighted) (k : ℤ) (a : Term) → AreAtoms vs → AreAtoms ws → i < length vs → j < length ws → v ≡ get_or vs i v → w ≡ get_or ws j w → compare v.atom w.atom ≡ order.Equal → new ≡ all ++ put k a [] → a ≡ v.atom → k ≡ v.factor +ℤ w.factor → new ++ together (drop (i + 1) vs) (drop (j + 1) ws) ≡ all ++ together (drop i vs) (drop j ws)
merged_both all new vs ws i j v w k a p q h g e f c m n o =
    ap (λ xs. xs ++ together (drop (i + 1) vs) (drop (j + 1) ws)) (m ∙ ap₂ (λ x b. all ++ put x b []) o n)
    ∙ merged_equal all vs ws i j v w p q h g e f c
