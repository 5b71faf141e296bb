-- The literals of comparisons.
use Rattle.std.specs.Prelude.{pos, ◌-ℤ◌, neg_ℤ, ◌&&◌, int_lt, true, cond, List, [], ◌∷◌}
use Rattle.vf_tree.specs.Core.{Comparison, Equal, NotEqual, Less, LessEqual, Greater, GreaterEqual}
use Rattle.vf_closure.specs.Terms.{Truth, Term, term, no_terms}
use Rattle.vf_closure.specs.Literals.{Literal, AtMost, Difference, NotDifference}
use Rattle.vf_closure.specs.Literals as literals
use Rattle.vf_normal.specs.Sums.{Weighted, Linear, is_small, added, scaled, form_of, number_in, sum_of}
use Rattle.vf_normal.specs.Normal.{comparison}

-- the first of two linear sums less the second
abbrev pub difference : Linear → Linear → Linear
difference f g = added f (scaled (neg_ℤ (pos 1)) g)

-- the atoms whose factors are above 0
abbrev pub above : List Weighted → List Weighted
above [] = []
above (w ∷ ws) = cond (int_lt (pos 0) w.factor) (w ∷ above ws) (above ws)

-- the atoms whose factors are below 0, each with its factor without the sign
abbrev pub below : List Weighted → List Weighted
below [] = []
below (w ∷ ws) = cond (int_lt w.factor (pos 0)) (record { factor = neg_ℤ w.factor; atom = w.atom } ∷ below ws) (below ws)

-- a linear sum is less than 0, or at most 0: the sum of its atoms with positive factors less the sum of those with negative ones is at most a number
abbrev pub below_nought : Linear → Literal
below_nought f = AtMost (sum_of (above f.atoms)) (sum_of (below f.atoms)) (neg_ℤ f.number -ℤ pos 1)

abbrev pub at_most_nought : Linear → Literal
at_most_nought f = AtMost (sum_of (above f.atoms)) (sum_of (below f.atoms)) (neg_ℤ f.number)

-- a linear sum is 0, or is not: that difference is a number, or is not
abbrev pub is_nought : Linear → Literal
is_nought f = Difference (sum_of (above f.atoms)) (sum_of (below f.atoms)) (neg_ℤ f.number)

abbrev pub is_not_nought : Linear → Literal
is_not_nought f = NotDifference (sum_of (above f.atoms)) (sum_of (below f.atoms)) (neg_ℤ f.number)

-- the literal of a comparison of two linear sums, by their difference
abbrev pub difference_literal : Comparison → Linear → Linear → Literal
difference_literal Equal f g = is_nought (difference f g)
difference_literal NotEqual f g = is_not_nought (difference f g)
difference_literal Less f g = below_nought (difference f g)
difference_literal LessEqual f g = at_most_nought (difference f g)
difference_literal Greater f g = below_nought (difference g f)
difference_literal GreaterEqual f g = at_most_nought (difference g f)

-- a truth value is true
abbrev pub is_true_literal : Term → Literal
is_true_literal t = literals.Equal t (term (Truth true) no_terms)

-- The literal of a comparison of two integer terms in normal form. Where a side is a number past plus or minus 2^90, it says of the comparison as a term that it is true
abbrev pub literal_of : Comparison → Term → Term → Literal
literal_of op a b = cond (is_small (form_of a).number && is_small (form_of b).number) (difference_literal op (form_of a) (form_of b)) (is_true_literal (comparison op a b (number_in a) (number_in b)))
