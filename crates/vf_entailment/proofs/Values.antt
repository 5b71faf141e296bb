-- A term has the value of the expression that it means.
use Rattle.std.proofs.Common.{◌≡◌, ℕ, zero, suc, List, ◌∷◌, [], Option, Some, None, refl, sym, ap, ap₂, ◌∙◌}
use Rattle.std.specs.Prelude.{ℤ, not, ◌&&◌, ◌||◌, cond}
use Rattle.vf_tree.specs.Core.{Add, Multiply}
use Rattle.vf_model.specs.Values.{Dyadic, Value, more, number_of}
use Rattle.vf_model.specs.Values as values
use Rattle.vf_meaning.specs.Ghost.{GhostExpression, GhostExpressions, no_expressions, and_expression}
use Rattle.vf_meaning.specs.Valuations.{Valuation, value_at, is_true, fraction_in, further}
use Rattle.vf_meaning.specs.GhostValues.{Interpretation, value_of, values_of, computed, compared, claimed, shared}
use Rattle.vf_meaning.specs.Chunks.{product_if}
use Rattle.vf_closure.specs.Terms.{Kind, Integer, Other, Head, Symbol, Number, Truth, Null, Function, Constructor, Fixpoint, Claims, Predicate, Share, Sum, Plus, Arithmetic, Compare, Not, And, Or, Choose, PointerSum, Term, Terms, term, no_terms, and_term, kind_of}
use Rattle.vf_closure.specs.Values.{weighed, times, share_value, applied, value, all_values}
use Rattle.vf_closure.specs.Values as closed
use Rattle.vf_normal.proofs.Numbers.{nothing_behind}
use Rattle.vf_entailment.specs.Meant.{of_kind, expression_at, shared_with, summed, meant_over, meant, all_meant}
use Rattle.vf_entailment.specs.Laws.{TermsHaveTheirMeaning, WholeNumbersStay}

-- a fraction with one factor more
one_shared : (o : Option Dyadic) (w : Value) → share_value (product_if o (fraction_in w)) ≡ shared (share_value o) w
one_shared (Some d) (values.Fraction c) = refl
one_shared (Some d) (values.Number z) = refl
one_shared (Some d) (values.Truth b) = refl
one_shared (Some d) values.Null = refl
one_shared (Some d) (values.Pointer b o) = refl
one_shared (Some d) (values.Function g) = refl
one_shared (Some d) (values.Constructed c vs) = refl
one_shared (Some d) (values.Predicate p vs) = refl
one_shared None w = refl

module _ (i : Interpretation) (v : Valuation) where
  at_place : (xs : GhostExpressions) (k : ℕ) → value_of i v (expression_at xs k) ≡ value_at (values_of i v xs) k
  at_place no_expressions k = refl
  at_place (and_expression x xs) zero = refl
  at_place (and_expression x xs) (suc k) = at_place xs k

  shares : (d : Dyadic) (xs : GhostExpressions) → share_value (times d (values_of i v xs)) ≡ value_of i v (shared_with d xs)
  shares d no_expressions = refl
  shares d (and_expression x xs) = one_shared (times d (values_of i v xs)) (value_of i v x) ∙ ap (λ w. shared w (value_of i v x)) (shares d xs)

  sums : (ks : List ℤ) (xs : GhostExpressions) → value_of i v (summed ks xs) ≡ values.Number (weighed ks (values_of i v xs))
  sums [] xs = refl
  sums (k ∷ ks) no_expressions = refl
  sums (k ∷ ks) (and_expression x xs) = ap (λ w. values.Number (computed Add (computed Multiply k (number_of (value_of i v x))) (number_of w))) (sums ks xs)

  -- an expression as a kind has it
  kinded : (k : Kind) (x : GhostExpression) → value_of i v (of_kind k x) ≡ closed.of_kind k (value_of i v x)
  kinded Integer x = ap values.Number (nothing_behind (number_of (value_of i v x)))
  kinded Other x = refl

  over : (h : Head) (xs : GhostExpressions) → value_of i v (meant_over h xs) ≡ closed.of_kind (kind_of h) (applied i v h (values_of i v xs))
  over (Symbol k x) xs = kinded k (meant_over (Symbol Other x) xs)
  over (Number z) xs = refl
  over (Truth b) xs = refl
  over Null xs = refl
  over (Function g) xs = refl
  over (Constructor c) xs = refl
  over (Fixpoint k f) xs = kinded k (meant_over (Fixpoint Other f) xs)
  over (Claims t) xs = ap (λ w. values.Truth (claimed i t w)) (at_place xs 0)
  over (Predicate p) xs = refl
  over (Share d) xs = sym (shares d xs)
  over (Sum factors) xs = sums factors xs
  over Plus xs = ap₂ (λ w u. values.Number (computed Add (number_of w) (number_of u))) (at_place xs 0) (at_place xs 1)
  over (Arithmetic op) xs = ap₂ (λ w u. values.Number (computed op (number_of w) (number_of u))) (at_place xs 0) (at_place xs 1)
  over (Compare op) xs = ap₂ (λ w u. values.Truth (compared op w u)) (at_place xs 0) (at_place xs 1)
  over Not xs = ap (λ w. values.Truth (not (is_true w))) (at_place xs 0)
  over And xs = ap₂ (λ w u. values.Truth (is_true w && is_true u)) (at_place xs 0) (at_place xs 1)
  over Or xs = ap₂ (λ w u. values.Truth (is_true w || is_true u)) (at_place xs 0) (at_place xs 1)
  over (Choose k) xs =
      kinded k (meant_over (Choose Other) xs)
      ∙ ap (closed.of_kind k) (ap (λ w. cond (is_true w) (value_of i v (expression_at xs 1)) (value_of i v (expression_at xs 2))) (at_place xs 0) ∙ ap₂ (cond (is_true (value_at (values_of i v xs) 0))) (at_place xs 1) (at_place xs 2))
  over PointerSum xs = ap₂ (λ w u. further w (number_of u)) (at_place xs 0) (at_place xs 1)

  mutual
    value_is : (t : Term) → value_of i v (meant t) ≡ value i v t
    value_is (term h ts) = over h (all_meant ts) ∙ ap (λ ws. closed.of_kind (kind_of h) (applied i v h ws)) (values_are ts)

    values_are : (ts : Terms) → values_of i v (all_meant ts) ≡ all_values i v ts
    values_are no_terms = refl
    values_are (and_term t ts) = ap₂ more (value_is t) (values_are ts)

pub terms_meant : TermsHaveTheirMeaning
terms_meant i v t = value_is i v t

pub whole_numbers_stay : WholeNumbersStay
whole_numbers_stay i v Integer x z e = kinded i v Integer x ∙ ap (λ w. values.Number (number_of w)) e
whole_numbers_stay i v Other x z e = e
