-- Which literals may be facts and goals, tested.
use Rattle.std.specs.Prelude.{pos, ◌+ℤ◌, ◌≤ℤ◌, ◌^◌, Bool, true, false, ◌&&◌}
use Rattle.vf_closure.specs.Terms.{Kind, Integer, Other, Term, term, kind_of}
use Rattle.vf_closure.specs.Literals.{Literal, Equal, NotEqual, AtMost, Difference, NotDifference, False}
use Rattle.vf_question.specs.Plain.{IsPlainLiteral}
use Rattle.vf_definitions.specs.Kept.{is_within, is_plain}

-- whether a kind is that of integer terms
abbrev pub is_integer_kind : Kind → Bool
is_integer_kind Integer = true
is_integer_kind Other = false

-- whether a term is an integer term
abbrev pub is_integer : Term → Bool
is_integer (term h ts) = is_integer_kind (kind_of h)

-- whether two sides are plain integer terms
abbrev pub are_sides : Term → Term → Bool
are_sides p n = (is_plain p && is_plain n) && (is_integer p && is_integer n)

-- whether a literal is between plain terms; a bound or a difference between integer terms, with a number within 2^100
abbrev pub is_plain_literal : Literal → Bool
is_plain_literal (Equal a b) = is_plain a && is_plain b
is_plain_literal (NotEqual a b) = is_plain a && is_plain b
is_plain_literal (AtMost p n c) = are_sides p n && is_within c
is_plain_literal (Difference p n c) = are_sides p n && is_within c
is_plain_literal (NotDifference p n c) = are_sides p n && is_within c
is_plain_literal False = true

-- the number of a bound is less than 2^100
abbrev pub HasRoom : Literal → Type 0
HasRoom (AtMost p n c) = (c +ℤ pos 1) ≤ℤ pos (2 ^ 100)
HasRoom l = Unit {0}

-- a literal may be asked: it is between plain terms, and so is its negation
abbrev pub CanBeAsked : Literal → Type 0
CanBeAsked goal = IsPlainLiteral goal × HasRoom goal
