-- The literals of comparisons mean what the comparisons do.
use Rattle.std.proofs.Common.{◌≡◌, ◌↔◌, List, ◌∷◌, [], Bool, true, false, cond, refl, sym, ◌∙◌, ap, ap₂, arith}
use Rattle.std.specs.Prelude.{ℤ, pos, ◌+ℤ◌, ◌-ℤ◌, ◌*ℤ◌, neg_ℤ, ◌≤ℤ◌, ◌&&◌, not, int_lt, int_le}
use Rattle.std.specs.Ordering.{int_eq}
use Rattle.std.proofs.lemmas.Int.{ints}
use Rattle.std.proofs.lemmas.Bool.Decides.{Decides-int_eq}
use Rattle.vf_tree.specs.Core.{Comparison, Equal, NotEqual, Less, LessEqual, Greater, GreaterEqual, Subtract}
use Rattle.vf_model.specs.Values.{Value, number_of}
use Rattle.vf_model.specs.Values as values
use Rattle.vf_meaning.specs.Valuations.{Valuation, is_same, is_true}
use Rattle.vf_meaning.specs.GhostValues.{Interpretation, compared}
use Rattle.vf_closure.specs.Terms.{Term, term, kind_of}
use Rattle.vf_closure.specs.Values.{applied, value, all_values}
use Rattle.vf_closure.specs.Literals.{IsInteger, Holds}
use Rattle.vf_normal.specs.Sums.{Weighted, is_small, form_of, number_in, sum_of}
use Rattle.vf_normal.specs.Normal.{comparison}
use Rattle.vf_normal.specs.Comparisons.{difference, above, below, difference_literal, is_true_literal}
use Rattle.vf_normal.specs.Laws.{ComparisonLiteralsMeanIt}
use Rattle.vf_normal.proofs.Numbers.{distributed, nothing_more}
use Rattle.vf_normal.proofs.Worth.{num, worth, form_total, of_integer, sum_value, combined_gives}
use Rattle.vf_normal.proofs.Kept.{number_known, comparison_value}

opposite : (k n : ℤ) → neg_ℤ k *ℤ n ≡ neg_ℤ (k *ℤ n)
opposite k n =
    let none : k +ℤ neg_ℤ k ≡ pos 0 = omega (arith, ints) in
    let e : (k *ℤ n) +ℤ (neg_ℤ k *ℤ n) ≡ pos 0 *ℤ n = sym (distributed k (neg_ℤ k) n) ∙ ap (λ z. z *ℤ n) none in
    let d : (pos 0 *ℤ n) +ℤ pos 0 ≡ pos 0 = nothing_more n (pos 0) in
    omega (arith, ints, e, d)

module _ (i : Interpretation) (v : Valuation) where
  worth_by : (w : Weighted) (us vs : List Weighted) (z : ℤ) (b c : Bool) → int_lt (pos 0) w.factor ≡ b → int_lt w.factor (pos 0) ≡ c → z ≡ worth i v us -ℤ worth i v vs → (w.factor *ℤ num i v w.atom) +ℤ z ≡ worth i v (cond b (w ∷ us) us) -ℤ worth i v (cond c (record { factor = neg_ℤ w.factor; atom = w.atom } ∷ vs) vs)
  worth_by w us vs z true true e d h = absurd (grind (arith, ints))
  worth_by w us vs z true false e d h = let p = w.factor *ℤ num i v w.atom in omega (arith, ints, h)
  worth_by w us vs z false true e d h = let q = opposite w.factor (num i v w.atom) in omega (arith, ints, h, q)
  worth_by w us vs z false false e d h =
      let none : w.factor ≡ pos 0 = grind (arith, ints) in
      let q : (w.factor *ℤ num i v w.atom) +ℤ z ≡ z = ap (λ k. (k *ℤ num i v w.atom) +ℤ z) none ∙ nothing_more (num i v w.atom) z in
      q ∙ h

  -- atoms are worth those with positive factors less those with negative ones
  pub worth_apart : (ws : List Weighted) → worth i v ws ≡ worth i v (above ws) -ℤ worth i v (below ws)
  worth_apart [] = refl
  worth_apart (w ∷ ws) = worth_by w (above ws) (below ws) (worth i v ws) (int_lt (pos 0) w.factor) (int_lt w.factor (pos 0)) refl refl (worth_apart ws)

  -- the sums of both sides of a difference
  apart : (a b : Term) → (worth i v (above (difference (form_of a) (form_of b)).atoms) -ℤ worth i v (below (difference (form_of a) (form_of b)).atoms)) +ℤ (difference (form_of a) (form_of b)).number ≡ num i v a -ℤ num i v b
  apart a b =
      ap (λ z. z +ℤ (difference (form_of a) (form_of b)).number) (sym (worth_apart (difference (form_of a) (form_of b)).atoms))
      ∙ combined_gives i v Subtract (form_of a) (form_of b)
      ∙ ap₂ (λ x y. x -ℤ y) (form_total i v a) (form_total i v b)

  left_is : (a b : Term) → number_of (value i v (sum_of (above (difference (form_of a) (form_of b)).atoms))) ≡ worth i v (above (difference (form_of a) (form_of b)).atoms)
  left_is a b = ap number_of (sum_value i v (above (difference (form_of a) (form_of b)).atoms))

  right_is : (a b : Term) → number_of (value i v (sum_of (below (difference (form_of a) (form_of b)).atoms))) ≡ worth i v (below (difference (form_of a) (form_of b)).atoms)
  right_is a b = ap number_of (sum_value i v (below (difference (form_of a) (form_of b)).atoms))

  integer_is : (t : Term) → IsInteger t → value i v t ≡ values.Number (num i v t)
  integer_is (term h ts) e = of_integer i v (kind_of h) (applied i v h (all_values i v ts)) e

at_most_decided : (a b : ℤ) → (int_le a b ≡ true) ↔ (a ≤ℤ b)
at_most_decided a b = (λ h. grind (arith, ints, h), λ h. grind (arith, ints, h))

less_decided : (a b : ℤ) → (int_lt a b ≡ true) ↔ ((a +ℤ pos 1) ≤ℤ b)
less_decided a b = (λ h. grind (arith, ints, h), λ h. grind (arith, ints, h))

at_most : (p n x y a b k : ℤ) → p ≡ x → n ≡ y → (x -ℤ y) +ℤ k ≡ a -ℤ b → (p ≤ℤ (n +ℤ neg_ℤ k)) ↔ (int_le a b ≡ true)
at_most p n x y a b k e d h =
    (λ l. (at_most_decided a b).1 (omega (arith, ints, e, d, h, l)), λ l. let m = (at_most_decided a b).0 l in omega (arith, ints, e, d, h, m))

less : (p n x y a b k : ℤ) → p ≡ x → n ≡ y → (x -ℤ y) +ℤ k ≡ a -ℤ b → (p ≤ℤ (n +ℤ (neg_ℤ k -ℤ pos 1))) ↔ (int_lt a b ≡ true)
less p n x y a b k e d h =
    (λ l. (less_decided a b).1 (omega (arith, ints, e, d, h, l)), λ l. let m = (less_decided a b).0 l in omega (arith, ints, e, d, h, m))

same : (p n x y a b k : ℤ) → p ≡ x → n ≡ y → (x -ℤ y) +ℤ k ≡ a -ℤ b → (p ≡ n +ℤ neg_ℤ k) ↔ (a ≡ b)
same p n x y a b k e d h = (λ l. omega (arith, ints, e, d, h, l), λ l. omega (arith, ints, e, d, h, l))

told : (a b : ℤ) (v w : Value) → v ≡ values.Number a → w ≡ values.Number b → (is_same v w ≡ true) ↔ (a ≡ b)
told a b v w e d =
    let s : is_same v w ≡ int_eq a b = ap₂ is_same e d in
    (λ h. (Decides-int_eq a b).0 (sym s ∙ h), λ h. s ∙ (Decides-int_eq a b).1 h)

not_told : (b : Bool) (A B : Type 0) → A ↔ B → (b ≡ true) ↔ B → (A → ⊥) ↔ (not b ≡ true)
not_told true A B e d = (λ h. absurd (h (e.1 (d.0 refl))), λ h. cc)
not_told false A B e d = (λ h. refl, λ h x. let f = d.1 (e.0 x) in cc)

through : (A B C : Type 0) → A ↔ B → C ↔ B → A ↔ C
through A B C e d = (λ a. d.1 (e.0 a), λ c. e.1 (d.0 c))

module _ (i : Interpretation) (v : Valuation) where
  by_difference : (op : Comparison) (a b : Term) → IsInteger a → IsInteger b → Holds i v (difference_literal op (form_of a) (form_of b)) ↔ (compared op (value i v a) (value i v b) ≡ true)
  by_difference Equal a b m n =
      through _ _ _ (same _ _ _ _ (num i v a) (num i v b) _ (left_is i v a b) (right_is i v a b) (apart i v a b)) (told (num i v a) (num i v b) (value i v a) (value i v b) (integer_is i v a m) (integer_is i v b n))
  by_difference NotEqual a b m n =
      not_told (is_same (value i v a) (value i v b)) _ _ (same _ _ _ _ (num i v a) (num i v b) _ (left_is i v a b) (right_is i v a b) (apart i v a b)) (told (num i v a) (num i v b) (value i v a) (value i v b) (integer_is i v a m) (integer_is i v b n))
  by_difference Less a b m n = less _ _ _ _ (num i v a) (num i v b) _ (left_is i v a b) (right_is i v a b) (apart i v a b)
  by_difference LessEqual a b m n = at_most _ _ _ _ (num i v a) (num i v b) _ (left_is i v a b) (right_is i v a b) (apart i v a b)
  by_difference Greater a b m n = less _ _ _ _ (num i v b) (num i v a) _ (left_is i v b a) (right_is i v b a) (apart i v b a)
  by_difference GreaterEqual a b m n = at_most _ _ _ _ (num i v b) (num i v a) _ (left_is i v b a) (right_is i v b a) (apart i v b a)

  by_term : (op : Comparison) (a b : Term) → Holds i v (is_true_literal (comparison op a b (number_in a) (number_in b))) ↔ (compared op (value i v a) (value i v b) ≡ true)
  by_term op a b =
      let e = comparison_value i v op a b (number_in a) (number_in b) (number_known i v a (number_in a) refl) (number_known i v b (number_in b) refl) in
      (λ h. ap is_true (sym e ∙ h), λ h. e ∙ ap values.Truth h)

  by_either : (op : Comparison) (a b : Term) (c : Bool) → IsInteger a → IsInteger b → Holds i v (cond c (difference_literal op (form_of a) (form_of b)) (is_true_literal (comparison op a b (number_in a) (number_in b)))) ↔ (compared op (value i v a) (value i v b) ≡ true)
  by_either op a b true m n = by_difference op a b m n
  by_either op a b false m n = by_term op a b

pub comparisons_meant : ComparisonLiteralsMeanIt
comparisons_meant i v op a b m n = by_either i v op a b (is_small (form_of a).number && is_small (form_of b).number) m n
