-- Worked examples of the literals of truth values.
use Rattle.std.specs.Prelude.{◌≡◌, Bool, true, false, pos, neg_ℤ}
use Rattle.vf_tree.specs.Core.{Comparison, Equal, NotEqual, Less}
use Rattle.vf_meaning.specs.Ghost.{Numbered}
use Rattle.vf_closure.specs.Terms.{Integer, Other, Symbol, Truth, Compare, Not, Term, term, no_terms, and_term}
use Rattle.vf_closure.specs.Literals.{AtMost}
use Rattle.vf_closure.specs.Literals as literals
use Rattle.vf_truths.specs.Truths.{has_truth, truth_literal}

-- two integer symbols
abbrev pub x : Term
x = term (Symbol Integer (Numbered 0)) no_terms

abbrev pub y : Term
y = term (Symbol Integer (Numbered 1)) no_terms

-- two symbols of other sorts, as pointers
abbrev pub p : Term
p = term (Symbol Other (Numbered 2)) no_terms

abbrev pub q : Term
q = term (Symbol Other (Numbered 3)) no_terms

-- a symbol that is a truth value
abbrev pub t : Term
t = term (Symbol Other (Numbered 4)) no_terms

-- a truth value
abbrev pub truth : Bool → Term
truth b = term (Truth b) no_terms

-- a negation
abbrev pub negated : Term → Term
negated u = term Not (and_term u no_terms)

-- a comparison
abbrev pub compared : Comparison → Term → Term → Term
compared op a b = term (Compare op) (and_term a (and_term b no_terms))

-- terms on the left with the literals that they are true on the right
pub record WorkedExamples : Type 0 where
  pub alone : truth_literal t true ≡ has_truth t true
  pub denied : truth_literal (negated t) true ≡ has_truth t false
  pub denied_twice : truth_literal (negated (negated t)) true ≡ has_truth t true
  pub asked_denied : truth_literal t false ≡ has_truth t false
  pub is_true : truth_literal (compared Equal t (truth true)) true ≡ has_truth t true
  pub is_false : truth_literal (compared Equal t (truth false)) true ≡ has_truth t false
  pub is_not_true : truth_literal (compared NotEqual t (truth true)) true ≡ has_truth t false
  pub is_not_false : truth_literal (compared NotEqual t (truth false)) true ≡ has_truth t true
  pub true_is : truth_literal (compared Equal (truth true) t) true ≡ has_truth t true
  pub denied_is_false : truth_literal (compared Equal (negated t) (truth false)) true ≡ has_truth t true
  pub clash : truth_literal (compared Equal (truth true) (truth false)) true ≡ has_truth (truth true) false
  pub less : truth_literal (compared Less x y) true ≡ AtMost x y (neg_ℤ (pos 1))
  pub not_less : truth_literal (negated (compared Less x y)) true ≡ AtMost y x (pos 0)
  pub less_is_false : truth_literal (compared Equal (compared Less x y) (truth false)) true ≡ AtMost y x (pos 0)
  pub less_asked_denied : truth_literal (compared Less x y) false ≡ AtMost y x (pos 0)
  pub same_numbers : truth_literal (compared Equal x y) true ≡ literals.Difference x y (pos 0)
  pub same_pointers : truth_literal (compared Equal p q) true ≡ literals.Equal p q
  pub other_pointers : truth_literal (negated (compared Equal p q)) true ≡ literals.NotEqual p q
  pub not_other_pointers : truth_literal (negated (compared NotEqual p q)) true ≡ literals.Equal p q
  pub same_truths : truth_literal (compared Equal t (compared Equal p q)) true ≡ literals.Equal t (compared Equal p q)
