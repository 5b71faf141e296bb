-- The normal form of a term.
use Rattle.std.specs.Prelude.{ℕ, zero, suc, ℤ, pos, List, ◌∷◌, cond, Option, Some, None}
use Rattle.std.specs.Ordering.{int_eq, is_gt}
use Rattle.vf_tree.specs.Core.{Add, Multiply, Comparison}
use Rattle.vf_model.specs.Values.{Dyadic}
use Rattle.vf_model.specs.Values as values
use Rattle.vf_meaning.specs.Fractions.{product}
use Rattle.vf_meaning.specs.GhostValues.{compared}
use Rattle.vf_closure.specs.Terms.{Kind, Integer, Other, Head, Number, Truth, Share, Sum, Plus, Arithmetic, Compare, Choose, PointerSum, Term, Terms, term, no_terms, and_term, number}
use Rattle.vf_normal.specs.Order.{compare}
use Rattle.vf_normal.specs.Sums.{number_in, as_integer, calculated}

-- the part at a place, counted from 0; where there is none, the number 0
abbrev pub part_at : Terms → ℕ → Term
part_at no_terms k = number (pos 0)
part_at (and_term t ts) zero = t
part_at (and_term t ts) (suc k) = part_at ts k

-- terms times their factors added up, one after the other
abbrev pub added_up : List ℤ → Terms → Term
added_up (k ∷ ks) (and_term t ts) = calculated Add (calculated Multiply (number k) t) (added_up ks ts)
added_up _ _ = number (pos 0)

-- a comparison of two terms, with the numbers that they are: of two numbers its truth value
abbrev pub comparison : Comparison → Term → Term → Option ℤ → Option ℤ → Term
comparison op a b (Some y) (Some z) = term (Truth (compared op (values.Number y) (values.Number z))) no_terms
comparison op a b _ _ = term (Compare op) (and_term a (and_term b no_terms))

-- a term as a term of a kind
abbrev pub as_kind : Kind → Term → Term
as_kind Integer t = as_integer t
as_kind Other t = t

-- a conditional: on a truth value the branch that this chooses
abbrev pub choice : Kind → Term → Term → Term → Term
choice k (term (Truth b) ts) t u = as_kind k (cond b t u)
choice k c t u = term (Choose k) (and_term c (and_term t (and_term u no_terms)))

-- a pointer and an offset: with offset 0 it is the pointer
abbrev pub moved : Term → Term → Option ℤ → Term
moved p i (Some z) = cond (int_eq z (pos 0)) p (term PointerSum (and_term p (and_term i no_terms)))
moved p i None = term PointerSum (and_term p (and_term i no_terms))

-- a pointer's sum: of a pointer's sum it adds the offsets
abbrev pub pointer_sum : Term → Term → Term
pointer_sum (term PointerSum (and_term p (and_term i no_terms))) j = moved p (calculated Add i j) (number_in (calculated Add i j))
pointer_sum p i = moved p i (number_in i)

-- a fraction, and the terms that it is multiplied with
pub record Product : Type 0 where
  pub coefficient : Dyadic
  pub factors : Terms

-- terms in their order with one more
abbrev pub with_factor : Term → Terms → Terms
with_factor t no_terms = and_term t no_terms
with_factor t (and_term u us) = cond (is_gt (compare t u)) (and_term u (with_factor t us)) (and_term t (and_term u us))

-- terms in their order with several more
abbrev pub with_factors : Terms → Terms → Terms
with_factors no_terms us = us
with_factors (and_term t ts) us = with_factor t (with_factors ts us)

-- a product times a term: a share's fraction is multiplied and its factors are taken in, any other term is one factor
abbrev pub multiplied : Term → Product → Product
multiplied (term (Share x) ts) p = record { coefficient = product p.coefficient x; factors = with_factors ts p.factors }
multiplied t p = record { coefficient = p.coefficient; factors = with_factor t p.factors }

-- a fraction times terms
abbrev pub product_with : Dyadic → Terms → Product
product_with x no_terms = record { coefficient = x; factors = no_terms }
product_with x (and_term t ts) = multiplied t (product_with x ts)

-- a share: its fraction stands in its head, and its factors stand in their order, no share among them
abbrev pub share : Product → Term
share p = term (Share p.coefficient) p.factors

-- the normal form of a head over parts in normal form
abbrev pub normal_over : Head → Terms → Term
normal_over (Number z) ts = number z
normal_over (Sum factors) ts = added_up factors ts
normal_over Plus ts = calculated Add (part_at ts 0) (part_at ts 1)
normal_over (Arithmetic op) ts = calculated op (part_at ts 0) (part_at ts 1)
normal_over (Compare op) ts = comparison op (part_at ts 0) (part_at ts 1) (number_in (part_at ts 0)) (number_in (part_at ts 1))
normal_over (Choose k) ts = choice k (part_at ts 0) (part_at ts 1) (part_at ts 2)
normal_over PointerSum ts = pointer_sum (part_at ts 0) (part_at ts 1)
normal_over (Share x) ts = share (product_with x ts)
normal_over h ts = term h ts

-- the normal form of a term, by recursion
abbrev mutual
  pub normal : Term → Term
  normal (term h ts) = normal_over h (all_normal ts)

  -- the normal forms of terms in a row
  pub all_normal : Terms → Terms
  all_normal no_terms = no_terms
  all_normal (and_term t ts) = and_term (normal t) (all_normal ts)
