-- What linear sums are worth in a valuation.
use Rattle.std.proofs.Common.{◌≡◌, List, ◌∷◌, [], Bool, true, false, cond, Option, Some, None, refl, sym, ◌∙◌, ap, ap₂, subst}
use Rattle.std.specs.Prelude.{ℤ, pos, ◌+ℤ◌, ◌*ℤ◌, neg_ℤ}
use Rattle.std.specs.declared.cmp.Ordering.{Ordering}
use Rattle.std.specs.declared.cmp.Ordering.TheVariants as order
use Rattle.std.specs.Ordering.{int_eq}
use Rattle.std.proofs.lemmas.Bool.Decides.{Decides-int_eq}
use Rattle.std.proofs.Math.IntN.{*ℤ_comm}
use Rattle.vf_tree.specs.Core.{ArithmeticOperator, Add, Subtract, Multiply, Divide, Remainder}
use Rattle.vf_model.specs.Values.{Value, Values, none, more, number_of}
use Rattle.vf_model.specs.Values as values
use Rattle.vf_meaning.specs.Valuations.{Valuation}
use Rattle.vf_meaning.specs.GhostValues.{Interpretation, computed}
use Rattle.vf_closure.specs.Terms.{Kind, Integer, Other, Number, Sum, Plus, Term, Terms, term, no_terms, and_term, plus, kind_of}
use Rattle.vf_closure.specs.Values.{weighed, of_kind, applied, value, all_values}
use Rattle.vf_normal.specs.Order.{compare}
use Rattle.vf_normal.specs.Sums.{Weighted, Linear, put, placed, with_atom, together, times_each, added, scaled, product_of, quotient_of, combined, paired, number_in, atoms_of, plus_form, form_of, factors_of, row_of, integer_by, as_integer, sum_of, total_of, term_of, fits, operation, folded, calculated}
use Rattle.vf_normal.proofs.Order.{told}
use Rattle.vf_normal.proofs.Numbers.{distributed, grouped, out_of, less_is, nothing_more, once, once_alone, nothing_behind, nothing_before, sum_grouped, exchanged, sums_together}

-- what an answer gives, if it gives one
abbrev pub Gives : Option ℤ → ℤ → Type 0
Gives None z = Unit {0}
Gives (Some y) z = y ≡ z

module _ (i : Interpretation) (v : Valuation) where
  -- the number that a term stands for
  abbrev pub num : Term → ℤ
  num t = number_of (value i v t)

  -- what atoms with their factors add up to
  abbrev pub worth : List Weighted → ℤ
  worth [] = pos 0
  worth (w ∷ ws) = (w.factor *ℤ num w.atom) +ℤ worth ws

  -- what a linear sum adds up to
  abbrev pub total : Linear → ℤ
  total f = worth f.atoms +ℤ f.number

  put_by : (k : ℤ) (a : Term) (ws : List Weighted) (b : Bool) → int_eq k (pos 0) ≡ b → worth (cond b ws (record { factor = k; atom = a } ∷ ws)) ≡ (k *ℤ num a) +ℤ worth ws
  put_by k a ws true e = sym (ap (λ z. (z *ℤ num a) +ℤ worth ws) ((Decides-int_eq k (pos 0)).0 e) ∙ nothing_more (num a) (worth ws))
  put_by k a ws false e = refl

  pub put_worth : (k : ℤ) (a : Term) (ws : List Weighted) → worth (put k a ws) ≡ (k *ℤ num a) +ℤ worth ws
  put_worth k a ws = put_by k a ws (int_eq k (pos 0)) refl

  placed_worth : (k : ℤ) (a : Term) (w : Weighted) (ws behind : List Weighted) (o : Ordering) → compare a w.atom ≡ o → worth behind ≡ (k *ℤ num a) +ℤ worth ws → worth (placed k a w ws behind o) ≡ (k *ℤ num a) +ℤ worth (w ∷ ws)
  placed_worth k a w ws behind order.Less e h = put_worth k a (w ∷ ws)
  placed_worth k a w ws behind order.Equal e h =
      put_worth (k +ℤ w.factor) a ws
      ∙ ap (λ z. z +ℤ worth ws) (distributed k w.factor (num a))
      ∙ sum_grouped (k *ℤ num a) (w.factor *ℤ num a) (worth ws)
      ∙ ap (λ t. (k *ℤ num a) +ℤ ((w.factor *ℤ num t) +ℤ worth ws)) (told a w.atom e)
  placed_worth k a w ws behind order.Greater e h = ap (λ z. (w.factor *ℤ num w.atom) +ℤ z) h ∙ exchanged (w.factor *ℤ num w.atom) (k *ℤ num a) (worth ws)

  pub with_worth : (k : ℤ) (a : Term) (ws : List Weighted) → worth (with_atom k a ws) ≡ (k *ℤ num a) +ℤ worth ws
  with_worth k a [] = put_worth k a []
  with_worth k a (w ∷ ws) = placed_worth k a w ws (with_atom k a ws) (compare a w.atom) refl (with_worth k a ws)

  pub together_worth : (vs ws : List Weighted) → worth (together vs ws) ≡ worth vs +ℤ worth ws
  together_worth [] ws = sym (nothing_before (worth ws))
  together_worth (w ∷ vs) ws =
      with_worth w.factor w.atom (together vs ws) ∙ ap (λ z. (w.factor *ℤ num w.atom) +ℤ z) (together_worth vs ws)
      ∙ sym (sum_grouped (w.factor *ℤ num w.atom) (worth vs) (worth ws))

  pub times_worth : (k : ℤ) (ws : List Weighted) → worth (times_each k ws) ≡ k *ℤ worth ws
  times_worth k [] = sym (*ℤ_comm k (pos 0) ∙ zero_times k)
    where
      zero_times : (k : ℤ) → pos 0 *ℤ k ≡ pos 0
      zero_times k = sym (nothing_behind (pos 0 *ℤ k)) ∙ nothing_more k (pos 0)
  times_worth k (w ∷ ws) =
      put_worth (k *ℤ w.factor) w.atom (times_each k ws)
      ∙ ap₂ (λ y z. y +ℤ z) (grouped k w.factor (num w.atom)) (times_worth k ws)
      ∙ sym (out_of k (w.factor *ℤ num w.atom) (worth ws))

  pub added_total : (f g : Linear) → total (added f g) ≡ total f +ℤ total g
  added_total f g =
      ap (λ z. z +ℤ (f.number +ℤ g.number)) (together_worth f.atoms g.atoms)
      ∙ sums_together (worth f.atoms) (worth g.atoms) f.number g.number

  pub scaled_total : (k : ℤ) (f : Linear) → total (scaled k f) ≡ k *ℤ total f
  scaled_total k f = ap (λ z. z +ℤ (k *ℤ f.number)) (times_worth k f.atoms) ∙ sym (out_of k (worth f.atoms) f.number)

  -- what a linear sum adds up to, if there is one
  abbrev pub total_in : Option Linear → Option ℤ
  total_in None = None
  total_in (Some f) = Some (total f)

  number_alone : (f : Linear) → [] ≡ f.atoms → f.number ≡ total f
  number_alone f e = sym (nothing_before f.number) ∙ ap (λ ws. worth ws +ℤ f.number) e

  product_gives : (ws vs : List Weighted) (f g : Linear) → ws ≡ f.atoms → vs ≡ g.atoms → Gives (total_in (product_of ws vs f g)) (total f *ℤ total g)
  product_gives [] vs f g e d = scaled_total f.number g ∙ ap (λ z. z *ℤ total g) (number_alone f e)
  product_gives (w ∷ ws) [] f g e d = scaled_total g.number f ∙ *ℤ_comm g.number (total f) ∙ ap (λ z. total f *ℤ z) (number_alone g d)
  product_gives (w ∷ ws) (u ∷ vs) f g e d = tt

  quotient_gives : (op : ArithmeticOperator) (ws vs : List Weighted) (f g : Linear) → ws ≡ f.atoms → vs ≡ g.atoms → Gives (total_in (quotient_of op ws vs f g)) (computed op (total f) (total g))
  quotient_gives op [] [] f g e d = nothing_before (computed op f.number g.number) ∙ ap₂ (computed op) (number_alone f e) (number_alone g d)
  quotient_gives op [] (u ∷ vs) f g e d = tt
  quotient_gives op (w ∷ ws) vs f g e d = tt

  -- what an operator makes of two sums adds up to what it makes of what they add up to
  pub combined_gives : (op : ArithmeticOperator) (f g : Linear) → Gives (total_in (combined op f g)) (computed op (total f) (total g))
  combined_gives Add f g = added_total f g
  combined_gives Subtract f g =
      added_total f (scaled (neg_ℤ (pos 1)) g) ∙ ap (λ z. total f +ℤ z) (scaled_total (neg_ℤ (pos 1)) g) ∙ less_is (total f) (total g)
  combined_gives Multiply f g = product_gives f.atoms g.atoms f g refl refl
  combined_gives Divide f g = quotient_gives Divide f.atoms g.atoms f g refl refl
  combined_gives Remainder f g = quotient_gives Remainder f.atoms g.atoms f g refl refl

  -- ---- terms as sums
  pub paired_worth : (ks : List ℤ) (ts : Terms) → worth (paired ks ts) ≡ weighed ks (all_values i v ts)
  paired_worth (k ∷ ks) (and_term t ts) = ap (λ z. (k *ℤ num t) +ℤ z) (paired_worth ks ts)
  paired_worth [] ts = refl
  paired_worth (k ∷ ks) no_terms = refl

  atoms_worth : (t : Term) → worth (atoms_of t) ≡ num t
  atoms_worth (term (Sum ks) ts) = paired_worth ks ts
  atoms_worth t = once_alone (num t)

  number_told : (c : Term) (o : Option ℤ) → number_in c ≡ o → Gives o (num c)
  number_told (term (Number z) ts) None e = cc
  number_told (term (Number z) ts) (Some y) e = cc
  number_told c None e = tt
  number_told c (Some y) e = cc

  plus_total : (q c : Term) (o : Option ℤ) → Gives o (num c) → total (plus_form q c o) ≡ num q +ℤ num c
  plus_total q c (Some z) e = ap₂ (λ x y. x +ℤ y) (atoms_worth q) e
  plus_total q c None e = once (num (term Plus (and_term q (and_term c no_terms))))

  -- a term as a linear sum adds up to the term's number
  pub form_total : (t : Term) → total (form_of t) ≡ num t
  form_total (term (Number z) ts) = nothing_before z
  form_total (term (Sum ks) ts) = nothing_behind (worth (paired ks ts)) ∙ paired_worth ks ts
  form_total (term Plus (and_term q (and_term c no_terms))) = plus_total q c (number_in c) (number_told c (number_in c) refl)
  form_total t = once (num t)

  -- ---- sums as terms
  integer_by_value : (k : Kind) (t : Term) → (k ≡ Integer → value i v t ≡ values.Number (num t)) → value i v (integer_by k t) ≡ values.Number (num t)
  integer_by_value Integer t h = h refl
  integer_by_value Other t h = ap values.Number (once_alone (num t))

  pub of_integer : (k : Kind) (w : Value) → k ≡ Integer → of_kind k w ≡ values.Number (number_of (of_kind k w))
  of_integer Integer w e = refl
  of_integer Other w e = cc

  -- a term as an integer term is its number
  pub as_integer_value : (t : Term) → value i v (as_integer t) ≡ values.Number (num t)
  as_integer_value (term h ts) = integer_by_value (kind_of h) (term h ts) (of_integer (kind_of h) (applied i v h (all_values i v ts)))

  row_worth : (ws : List Weighted) → weighed (factors_of ws) (all_values i v (row_of ws)) ≡ worth ws
  row_worth [] = refl
  row_worth (w ∷ ws) = ap (λ z. (w.factor *ℤ num w.atom) +ℤ z) (row_worth ws)

  one_value : (w : Weighted) (b : Bool) → int_eq w.factor (pos 1) ≡ b → value i v (cond b (as_integer w.atom) (term (Sum (w.factor ∷ [])) (and_term w.atom no_terms))) ≡ values.Number (worth (w ∷ []))
  one_value w true e = as_integer_value w.atom ∙ ap values.Number (sym (once_alone (num w.atom)) ∙ ap (λ k. (k *ℤ num w.atom) +ℤ pos 0) (sym ((Decides-int_eq w.factor (pos 1)).0 e)))
  one_value w false e = refl

  pub sum_value : (ws : List Weighted) → value i v (sum_of ws) ≡ values.Number (worth ws)
  sum_value [] = refl
  sum_value (w ∷ []) = one_value w (int_eq w.factor (pos 1)) refl
  sum_value (w ∷ u ∷ ws) = ap values.Number (row_worth (w ∷ u ∷ ws))

  total_by : (w : Weighted) (ws : List Weighted) (z : ℤ) (b : Bool) → int_eq z (pos 0) ≡ b → value i v (cond b (sum_of (w ∷ ws)) (plus (sum_of (w ∷ ws)) z)) ≡ values.Number (worth (w ∷ ws) +ℤ z)
  total_by w ws z true e = sum_value (w ∷ ws) ∙ ap values.Number (sym (nothing_behind (worth (w ∷ ws))) ∙ ap (λ y. worth (w ∷ ws) +ℤ y) (sym ((Decides-int_eq z (pos 0)).0 e)))
  total_by w ws z false e = ap (λ y. values.Number (number_of y +ℤ z)) (sum_value (w ∷ ws))

  pub total_value : (ws : List Weighted) (z : ℤ) → value i v (total_of ws z) ≡ values.Number (worth ws +ℤ z)
  total_value [] z = ap values.Number (sym (nothing_before z))
  total_value (w ∷ ws) z = total_by w ws z (int_eq z (pos 0)) refl

  -- ---- operations
  folded_by : (op : ArithmeticOperator) (a b : Term) (f : Linear) (c : Bool) → total f ≡ computed op (num a) (num b) → value i v (cond c (term_of f) (operation op a b)) ≡ values.Number (computed op (num a) (num b))
  folded_by op a b f true e = total_value f.atoms f.number ∙ ap values.Number e
  folded_by op a b f false e = refl

  folded_value : (op : ArithmeticOperator) (a b : Term) (o : Option Linear) → Gives (total_in o) (computed op (num a) (num b)) → value i v (folded op a b o) ≡ values.Number (computed op (num a) (num b))
  folded_value op a b (Some f) e = folded_by op a b f (fits f) e
  folded_value op a b None e = refl

  -- the normal form of an operation on two terms has its value
  pub calculated_value : (op : ArithmeticOperator) (a b : Term) → value i v (calculated op a b) ≡ values.Number (computed op (num a) (num b))
  calculated_value op a b =
      folded_value op a b (combined op (form_of a) (form_of b))
      (subst (λ z. Gives (total_in (combined op (form_of a) (form_of b))) z) (ap₂ (computed op) (form_total a) (form_total b)) (combined_gives op (form_of a) (form_of b)))
