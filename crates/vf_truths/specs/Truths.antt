-- The literals of truth values.
use Rattle.std.specs.Prelude.{Bool, true, false, cond, not, ◌&&◌, Option, Some, None}
use Rattle.vf_tree.specs.Core.{Comparison, Equal, NotEqual, Less, LessEqual, Greater, GreaterEqual}
use Rattle.vf_model.specs.Values.{same_truth}
use Rattle.vf_closure.specs.Terms.{Kind, Integer, Other, Truth, Compare, Not, Term, term, no_terms, and_term, kind_of}
use Rattle.vf_closure.specs.Literals.{Literal}
use Rattle.vf_closure.specs.Literals as literals
use Rattle.vf_normal.specs.Comparisons.{literal_of}
use Rattle.vf_formula.specs.Rows.{truth_in}

-- a term that is to be true, or is denied
pub record Statement : Type 0 where
  pub subject : Term
  pub is_denied : Bool

-- a statement, or its denial
abbrev pub turned : Bool → Statement → Statement
turned true s = record { subject = s.subject; is_denied = not s.is_denied }
turned false s = s

-- The statement that two terms are equal, or that they are not: beside a truth value it is the statement of the other term or its denial, and else it stays as it is
abbrev pub beside : Bool → Option Bool → Option Bool → Statement → Statement → Statement → Statement
beside is_different o (Some c) whole a b = turned (same_truth is_different c) a
beside is_different (Some c) None whole a b = turned (same_truth is_different c) b
beside is_different None None whole a b = whole

-- the statement of a term without the negations and the truth values that it is compared with
abbrev pub bare : Term → Statement
bare (term Not (and_term t no_terms)) = turned true (bare t)
bare (term (Compare Equal) (and_term a (and_term b no_terms))) = beside false (truth_in a) (truth_in b) (record { subject = term (Compare Equal) (and_term a (and_term b no_terms)); is_denied = false }) (bare a) (bare b)
bare (term (Compare NotEqual) (and_term a (and_term b no_terms))) = beside true (truth_in a) (truth_in b) (record { subject = term (Compare NotEqual) (and_term a (and_term b no_terms)); is_denied = false }) (bare a) (bare b)
bare t = record { subject = t; is_denied = false }

-- the comparison that holds where another does not
abbrev pub opposite : Comparison → Comparison
opposite Equal = NotEqual
opposite NotEqual = Equal
opposite Less = GreaterEqual
opposite LessEqual = Greater
opposite Greater = LessEqual
opposite GreaterEqual = Less

-- whether the terms of a kind are integer terms
abbrev pub is_integer_kind : Kind → Bool
is_integer_kind Integer = true
is_integer_kind Other = false

-- whether a term is an integer term
abbrev pub is_integer : Term → Bool
is_integer (term h ts) = is_integer_kind (kind_of h)

-- a term has a truth value
abbrev pub has_truth : Term → Bool → Literal
has_truth t w = literals.Equal t (term (Truth w) no_terms)

-- two terms are equal, or are not
abbrev pub equality : Term → Term → Bool → Literal
equality a b true = literals.Equal a b
equality a b false = literals.NotEqual a b

-- a comparison of terms that are no integer terms has a truth value
abbrev pub other_literal : Comparison → Term → Term → Bool → Literal
other_literal Equal a b w = equality a b w
other_literal NotEqual a b w = equality a b (not w)
other_literal op a b w = has_truth (term (Compare op) (and_term a (and_term b no_terms))) w

-- a comparison has a truth value: of integer terms it is the comparison or its opposite
abbrev pub compared_literal : Comparison → Term → Term → Bool → Literal
compared_literal op a b w = cond (is_integer a && is_integer b) (literal_of (cond w op (opposite op)) a b) (other_literal op a b w)

-- a term that is no negation and is not compared with a truth value has a truth value
abbrev pub bare_literal : Term → Bool → Literal
bare_literal (term (Compare op) (and_term a (and_term b no_terms))) w = compared_literal op a b w
bare_literal t w = has_truth t w

-- the literal that a term in normal form has a truth value
abbrev pub truth_literal : Term → Bool → Literal
truth_literal t w = bare_literal (bare t).subject (cond (bare t).is_denied (not w) w)
