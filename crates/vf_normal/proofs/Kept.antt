-- A term and its normal form have one value.
use Rattle.std.proofs.Common.{◌≡◌, ℕ, zero, suc, List, ◌∷◌, [], Bool, true, false, cond, Option, Some, None, refl, sym, ◌∙◌, ap, ap₂}
use Rattle.std.specs.Prelude.{ℤ, pos, ◌+ℤ◌}
use Rattle.std.specs.Ordering.{int_eq, is_gt}
use Rattle.std.proofs.lemmas.Bool.Decides.{Decides-int_eq}
use Rattle.vf_tree.specs.Core.{ArithmeticOperator, Add, Multiply, Comparison}
use Rattle.vf_model.specs.Values.{Dyadic, Value, Values, none, more, number_of}
use Rattle.vf_model.specs.Values as values
use Rattle.vf_meaning.specs.Fractions.{product}
use Rattle.vf_meaning.specs.Chunks.{product_if}
use Rattle.vf_meaning.specs.Valuations.{Valuation, value_at, is_true, fraction_in, further}
use Rattle.vf_meaning.specs.GhostValues.{Interpretation, computed, compared}
use Rattle.vf_meaning.proofs.Fractions.{product_commutes, product_associates}
use Rattle.vf_closure.specs.Terms.{Kind, Integer, Other, Head, Number, Truth, Share, Sum, Plus, Arithmetic, Compare, Choose, PointerSum, Term, Terms, term, no_terms, and_term, number, kind_of}
use Rattle.vf_closure.specs.Values.{weighed, times, share_value, of_kind, applied, value, all_values}
use Rattle.vf_normal.specs.Order.{compare}
use Rattle.vf_normal.specs.Sums.{number_in, calculated}
use Rattle.vf_normal.specs.Normal.{part_at, added_up, comparison, as_kind, choice, moved, pointer_sum, Product, with_factor, with_factors, multiplied, product_with, normal_over, normal, all_normal}
use Rattle.vf_normal.specs.Laws.{NormalFormsKeepValues}
use Rattle.vf_normal.proofs.Numbers.{sum_grouped, nothing_behind}
use Rattle.vf_normal.proofs.Worth.{num, as_integer_value, calculated_value}

-- what a term is, where it is known to be a number
abbrev Is : Option ℤ → Value → Type 0
Is None w = Unit {0}
Is (Some y) w = values.Number y ≡ w

further_none : (w : Value) → further w (pos 0) ≡ w
further_none (values.Pointer b o) = ap (values.Pointer b) (nothing_behind o)
further_none w = refl

further_twice : (w : Value) (a b : ℤ) → further w (a +ℤ b) ≡ further (further w a) b
further_twice (values.Pointer c o) a b = ap (values.Pointer c) (sym (sum_grouped o a b))
further_twice w a b = refl

-- ---- products of fractions
fraction_back : (o : Option Dyadic) → fraction_in (share_value o) ≡ o
fraction_back (Some x) = refl
fraction_back None = refl

turned : (a b c : Dyadic) → product (product a b) c ≡ product (product a c) b
turned a b c = product_associates a b c ∙ ap (product a) (product_commutes b c) ∙ sym (product_associates a c b)

turned_if : (a b c : Option Dyadic) → product_if (product_if a b) c ≡ product_if (product_if a c) b
turned_if (Some a) (Some b) (Some c) = ap Some (turned a b c)
turned_if None (Some b) (Some c) = refl
turned_if None None (Some c) = refl
turned_if None (Some b) None = refl
turned_if None None None = refl
turned_if (Some a) None (Some c) = refl
turned_if (Some a) None None = refl
turned_if (Some a) (Some b) None = refl

grouped_if : (a b c : Option Dyadic) → product_if (product_if a b) c ≡ product_if a (product_if b c)
grouped_if (Some a) (Some b) (Some c) = ap Some (product_associates a b c)
grouped_if None (Some b) (Some c) = refl
grouped_if None None (Some c) = refl
grouped_if None (Some b) None = refl
grouped_if None None None = refl
grouped_if (Some a) None (Some c) = refl
grouped_if (Some a) None None = refl
grouped_if (Some a) (Some b) None = refl

coefficient_out : (c y : Dyadic) (ws : Values) → times (product c y) ws ≡ product_if (times c ws) (Some y)
coefficient_out c y none = refl
coefficient_out c y (more w ws) = ap (λ o. product_if o (fraction_in w)) (coefficient_out c y ws) ∙ turned_if (times c ws) (Some y) (fraction_in w)

module _ (i : Interpretation) (v : Valuation) where
  -- what a product is
  abbrev worth_of : Dyadic → Terms → Option Dyadic
  worth_of x ts = times x (all_values i v ts)

  factor_by : (x : Dyadic) (t u : Term) (us : Terms) (b : Bool) → worth_of x (with_factor t us) ≡ product_if (worth_of x us) (fraction_in (value i v t)) → worth_of x (cond b (and_term u (with_factor t us)) (and_term t (and_term u us))) ≡ product_if (worth_of x (and_term u us)) (fraction_in (value i v t))
  factor_by x t u us true h = ap (λ o. product_if o (fraction_in (value i v u))) h ∙ turned_if (worth_of x us) (fraction_in (value i v t)) (fraction_in (value i v u))
  factor_by x t u us false h = refl

  factor_value : (x : Dyadic) (t : Term) (us : Terms) → worth_of x (with_factor t us) ≡ product_if (worth_of x us) (fraction_in (value i v t))
  factor_value x t no_terms = refl
  factor_value x t (and_term u us) = factor_by x t u us (is_gt (compare t u)) (factor_value x t us)

  factors_value : (c y : Dyadic) (ts us : Terms) → worth_of (product c y) (with_factors ts us) ≡ product_if (worth_of c us) (worth_of y ts)
  factors_value c y no_terms us = coefficient_out c y (all_values i v us)
  factors_value c y (and_term t ts) us =
      factor_value (product c y) t (with_factors ts us) ∙ ap (λ o. product_if o (fraction_in (value i v t))) (factors_value c y ts us)
      ∙ grouped_if (worth_of c us) (worth_of y ts) (fraction_in (value i v t))

  multiplied_value : (t : Term) (p : Product) → worth_of ((multiplied t p).coefficient) ((multiplied t p).factors) ≡ product_if (worth_of p.coefficient p.factors) (fraction_in (value i v t))
  multiplied_value (term (Share x) ts) p = factors_value p.coefficient x ts p.factors ∙ ap (product_if (worth_of p.coefficient p.factors)) (sym (fraction_back (worth_of x ts)))
  multiplied_value t p = factor_value p.coefficient t p.factors

  product_value : (x : Dyadic) (ts : Terms) → worth_of ((product_with x ts).coefficient) ((product_with x ts).factors) ≡ worth_of x ts
  product_value x no_terms = refl
  product_value x (and_term t ts) = multiplied_value t (product_with x ts) ∙ ap (λ o. product_if o (fraction_in (value i v t))) (product_value x ts)

  -- ---- the other heads
  part_value : (ts : Terms) (k : ℕ) → value i v (part_at ts k) ≡ value_at (all_values i v ts) k
  part_value no_terms k = refl
  part_value (and_term t ts) zero = refl
  part_value (and_term t ts) (suc k) = part_value ts k

  added_up_value : (ks : List ℤ) (ts : Terms) → value i v (added_up ks ts) ≡ values.Number (weighed ks (all_values i v ts))
  added_up_value [] ts = refl
  added_up_value (k ∷ ks) no_terms = refl
  added_up_value (k ∷ ks) (and_term t ts) =
      calculated_value i v Add (calculated Multiply (number k) t) (added_up ks ts)
      ∙ ap₂ (λ x y. values.Number (number_of x +ℤ number_of y)) (calculated_value i v Multiply (number k) t) (added_up_value ks ts)

  pub number_known : (t : Term) (o : Option ℤ) → number_in t ≡ o → Is o (value i v t)
  number_known (term (Number z) ts) None e = cc
  number_known (term (Number z) ts) (Some y) e = cc
  number_known t None e = tt
  number_known t (Some y) e = cc

  pub comparison_value : (op : Comparison) (a b : Term) (o p : Option ℤ) → Is o (value i v a) → Is p (value i v b) → value i v (comparison op a b o p) ≡ values.Truth (compared op (value i v a) (value i v b))
  comparison_value op a b (Some y) (Some z) e d = ap₂ (λ x w. values.Truth (compared op x w)) e d
  comparison_value op a b (Some y) None e d = refl
  comparison_value op a b None p e d = refl

  as_kind_value : (k : Kind) (t : Term) → value i v (as_kind k t) ≡ of_kind k (value i v t)
  as_kind_value Integer t = as_integer_value i v t
  as_kind_value Other t = refl

  branch_value : (k : Kind) (b : Bool) (t u : Term) → value i v (as_kind k (cond b t u)) ≡ of_kind k (cond b (value i v t) (value i v u))
  branch_value k true t u = as_kind_value k t
  branch_value k false t u = as_kind_value k u

  choice_value : (k : Kind) (c t u : Term) → value i v (choice k c t u) ≡ of_kind k (cond (is_true (value i v c)) (value i v t) (value i v u))
  choice_value k (term (Truth b) ts) t u = branch_value k b t u
  choice_value k c t u = refl

  moved_by : (p j : Term) (z : ℤ) (b : Bool) → int_eq z (pos 0) ≡ b → values.Number z ≡ value i v j → value i v (cond b p (term PointerSum (and_term p (and_term j no_terms)))) ≡ further (value i v p) (num i v j)
  moved_by p j z true e d = sym (ap (λ w. further (value i v p) (number_of w)) (sym d) ∙ ap (further (value i v p)) ((Decides-int_eq z (pos 0)).0 e) ∙ further_none (value i v p))
  moved_by p j z false e d = refl

  moved_value : (p j : Term) (o : Option ℤ) → Is o (value i v j) → value i v (moved p j o) ≡ further (value i v p) (num i v j)
  moved_value p j (Some z) d = moved_by p j z (int_eq z (pos 0)) refl d
  moved_value p j None d = refl

  pointer_sum_value : (p j : Term) → value i v (pointer_sum p j) ≡ further (value i v p) (num i v j)
  pointer_sum_value (term PointerSum (and_term q (and_term k no_terms))) j =
      moved_value q (calculated Add k j) (number_in (calculated Add k j)) (number_known (calculated Add k j) (number_in (calculated Add k j)) refl)
      ∙ ap (λ w. further (value i v q) (number_of w)) (calculated_value i v Add k j)
      ∙ further_twice (value i v q) (num i v k) (num i v j)
  pointer_sum_value p j = moved_value p j (number_in j) (number_known j (number_in j) refl)

  operation_value : (op : ArithmeticOperator) (ts : Terms) → value i v (calculated op (part_at ts 0) (part_at ts 1)) ≡ values.Number (computed op (number_of (value_at (all_values i v ts) 0)) (number_of (value_at (all_values i v ts) 1)))
  operation_value op ts =
      calculated_value i v op (part_at ts 0) (part_at ts 1)
      ∙ ap₂ (λ x y. values.Number (computed op (number_of x) (number_of y))) (part_value ts 0) (part_value ts 1)

  -- the normal form of a head over parts has its value
  over_value : (h : Head) (ts : Terms) → value i v (normal_over h ts) ≡ of_kind (kind_of h) (applied i v h (all_values i v ts))
  over_value (Sum ks) ts = added_up_value ks ts
  over_value Plus ts = operation_value Add ts
  over_value (Arithmetic op) ts = operation_value op ts
  over_value (Compare op) ts =
      comparison_value op (part_at ts 0) (part_at ts 1) (number_in (part_at ts 0)) (number_in (part_at ts 1)) (number_known (part_at ts 0) (number_in (part_at ts 0)) refl) (number_known (part_at ts 1) (number_in (part_at ts 1)) refl)
      ∙ ap₂ (λ x y. values.Truth (compared op x y)) (part_value ts 0) (part_value ts 1)
  over_value (Choose k) ts =
      choice_value k (part_at ts 0) (part_at ts 1) (part_at ts 2)
      ∙ ap (λ w. of_kind k (cond (is_true w) (value i v (part_at ts 1)) (value i v (part_at ts 2)))) (part_value ts 0)
      ∙ ap₂ (λ x y. of_kind k (cond (is_true (value_at (all_values i v ts) 0)) x y)) (part_value ts 1) (part_value ts 2)
  over_value PointerSum ts =
      pointer_sum_value (part_at ts 0) (part_at ts 1)
      ∙ ap₂ (λ x y. further x (number_of y)) (part_value ts 0) (part_value ts 1)
  over_value (Share x) ts = ap share_value (product_value x ts)
  over_value h ts = refl

  mutual
    kept : (t : Term) → value i v (normal t) ≡ value i v t
    kept (term h ts) = over_value h (all_normal ts) ∙ ap (λ ws. of_kind (kind_of h) (applied i v h ws)) (all_kept ts)

    all_kept : (ts : Terms) → all_values i v (all_normal ts) ≡ all_values i v ts
    all_kept no_terms = refl
    all_kept (and_term t ts) = ap₂ more (kept t) (all_kept ts)

pub normal_forms_kept : NormalFormsKeepValues
normal_forms_kept i v t = kept i v t
