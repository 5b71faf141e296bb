-- The literals that are asked for in this form, whose integer terms are numbers.
use Rattle.std.specs.Prelude.{ℤ, Bool, true}
use Rattle.vf_tree.specs.Core.{Equal, LessEqual}
use Rattle.vf_closure.specs.Terms.{Truth, term, no_terms, number}
use Rattle.vf_closure.specs.Literals.{Literal}
use Rattle.vf_normal.specs.Comparisons.{literal_of}
use Rattle.vf_truths.specs.Truths.{truth_literal}

-- a <= b, as the literal of a comparison of terms
abbrev pub at_most_of : ℤ → ℤ → Literal
at_most_of a b = literal_of LessEqual (number a) (number b)

-- a == b, as the literal of a comparison of terms
abbrev pub equal_of : ℤ → ℤ → Literal
equal_of a b = literal_of Equal (number a) (number b)

-- that a truth value is true
abbrev pub truth_of : Bool → Literal
truth_of b = truth_literal (term (Truth b) no_terms) true
