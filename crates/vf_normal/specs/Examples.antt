-- Worked examples of normal forms and of the literals of comparisons.
use Rattle.std.specs.Prelude.{◌≡◌, ◌+◌, ◌^◌, pos, neg_ℤ, true, [], ◌∷◌}
use Rattle.vf_tree.specs.Core.{Add, Subtract, Multiply, Divide, Remainder, Equal, NotEqual, Less, LessEqual, Greater, GreaterEqual}
use Rattle.vf_model.specs.Values.{Odd}
use Rattle.vf_meaning.specs.Ghost.{Numbered}
use Rattle.vf_closure.specs.Terms.{Integer, Other, Symbol, Truth, Share, Sum, Plus, Compare, Choose, PointerSum, Term, Terms, term, no_terms, and_term, number, plus}
use Rattle.vf_closure.specs.Literals.{AtMost, Difference, NotDifference}
use Rattle.vf_normal.specs.Sums.{operation}
use Rattle.vf_normal.specs.Normal.{normal}
use Rattle.vf_normal.specs.Comparisons.{is_true_literal, literal_of}

-- two integer symbols
abbrev pub x : Term
x = term (Symbol Integer (Numbered 0)) no_terms

abbrev pub y : Term
y = term (Symbol Integer (Numbered 1)) no_terms

-- two symbols of other sorts
abbrev pub p : Term
p = term (Symbol Other (Numbered 2)) no_terms

abbrev pub q : Term
q = term (Symbol Other (Numbered 3)) no_terms

-- one and two terms in a row
abbrev pub one : Term → Terms
one t = and_term t no_terms

abbrev pub two : Term → Term → Terms
two t u = and_term t (and_term u no_terms)

-- the greatest number that is folded
abbrev pub great : Term
great = number (pos (2 ^ 90))

-- what is less than 4, as a condition
abbrev pub below_four : Term → Term
below_four t = term (Compare Less) (two t (number (pos 4)))

-- a conditional between x and y
abbrev pub choose : Term → Term
choose c = term (Choose Integer) (and_term c (two x y))

-- terms on the left with their normal forms on the right
pub record WorkedExamples : Type 0 where
  pub in_order : normal (operation Add y x) ≡ term (Sum (pos 1 ∷ pos 1 ∷ [])) (two x y)
  pub cancels : normal (operation Subtract (operation Add x y) x) ≡ y
  pub vanishes : normal (operation Subtract x x) ≡ number (pos 0)
  pub factors : normal (operation Multiply (operation Add x (number (pos 3))) (number (pos 2))) ≡ plus (term (Sum (pos 2 ∷ [])) (one x)) (pos 6)
  pub number_last : normal (operation Add (number (pos 1)) x) ≡ plus x (pos 1)
  pub unknowns : normal (operation Multiply y x) ≡ operation Multiply y x
  pub quotient : normal (operation Divide (number (neg_ℤ (pos 7))) (number (pos 2))) ≡ number (neg_ℤ (pos 3))
  pub remainder : normal (operation Remainder (number (neg_ℤ (pos 7))) (number (pos 2))) ≡ number (neg_ℤ (pos 1))
  pub by_nought : normal (operation Divide (number (pos 7)) (number (pos 0))) ≡ number (pos 0)
  pub too_large : normal (operation Add great (number (pos 1))) ≡ operation Add great (number (pos 1))
  pub as_atom : normal (operation Add (operation Add great (number (pos 1))) x) ≡ term (Sum (pos 1 ∷ pos 1 ∷ [])) (two x (operation Add great (number (pos 1))))
  pub compared : normal (below_four (number (pos 3))) ≡ term (Truth true) no_terms
  pub not_compared : normal (below_four (operation Add x (number (pos 0)))) ≡ below_four x
  pub chosen : normal (choose (below_four (number (pos 3)))) ≡ x
  pub not_chosen : normal (choose (below_four x)) ≡ choose (below_four x)
  pub offsets : normal (term PointerSum (two (term PointerSum (two p (number (pos 1)))) (number (pos 2)))) ≡ term PointerSum (two p (number (pos 3)))
  pub no_offset : normal (term PointerSum (two p (operation Subtract x x))) ≡ p
  pub shares : normal (term (Share (Odd 0 0)) (two q (term (Share (Odd 0 0)) (one p)))) ≡ term (Share (Odd 0 1)) (two p q)

-- comparisons on the left with their literals on the right
pub record ComparisonExamples : Type 0 where
  pub less : literal_of Less x (number (pos 4)) ≡ AtMost x (number (pos 0)) (pos 3)
  pub greater : literal_of Greater x (number (pos 4)) ≡ AtMost (number (pos 0)) x (neg_ℤ (pos 5))
  pub at_most : literal_of LessEqual (plus x (pos 3)) y ≡ AtMost x y (neg_ℤ (pos 3))
  pub at_least : literal_of GreaterEqual x y ≡ AtMost y x (pos 0)
  pub equal : literal_of Equal (term (Sum (pos 1 ∷ pos 2 ∷ [])) (two x y)) (plus x (pos 6)) ≡ Difference (term (Sum (pos 2 ∷ [])) (one y)) (number (pos 0)) (pos 6)
  pub not_equal : literal_of NotEqual x (term (Sum (pos 1 ∷ pos 2 ∷ [])) (two x y)) ≡ NotDifference (number (pos 0)) (term (Sum (pos 2 ∷ [])) (one y)) (pos 0)
  pub farthest : literal_of Less great (term Plus (two x (number (neg_ℤ (pos (2 ^ 90)))))) ≡ AtMost (number (pos 0)) x (neg_ℤ (pos (2 ^ 91 + 1)))
  pub past : literal_of Less x (number (pos (2 ^ 91))) ≡ is_true_literal (term (Compare Less) (two x (number (pos (2 ^ 91)))))
