-- The term that a truth value is whose connectives and comparisons are told apart.
use Rattle.vf_core.specs.Shown.{comparison_of}
use Rattle.vf_closure.specs.Terms.{Other, Compare, Not, And, Or, Choose, Head, Term, term, no_terms, and_term}
use Rattle.vf_resolved.specs.TruthTree.{TruthTree, value, comparison, not_, and_, or_, choice}

-- a head over two parts
abbrev pub over_two : Head → Term → Term → Term
over_two h a b = term h (and_term a (and_term b no_terms))

-- the term that a truth value is
abbrev pub as_term : TruthTree → Term
as_term (value t) = t
as_term (comparison c both x y) = over_two (Compare (comparison_of c)) (as_term x) (as_term y)
as_term (not_ x) = term Not (and_term (as_term x) no_terms)
as_term (and_ x y) = over_two And (as_term x) (as_term y)
as_term (or_ x y) = over_two Or (as_term x) (as_term y)
as_term (choice c x y) = term (Choose Other) (and_term (as_term c) (and_term (as_term x) (and_term (as_term y) no_terms)))
