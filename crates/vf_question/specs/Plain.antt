-- Terms and literals whose numbers are small.
use Rattle.std.specs.Prelude.{◌≡◌, ◌^◌}
use Rattle.vf_arith.specs.Paths.{IsSmall}
use Rattle.vf_closure.specs.Terms.{Head, Number, Term, Terms, term, no_terms, and_term}
use Rattle.vf_closure.specs.Literals.{Literal, Equal, NotEqual, AtMost, Difference, NotDifference, False, IsInteger}

-- a number has no parts and is within 2^100
abbrev pub IsPlainOver : Head → Terms → Type 0
IsPlainOver (Number z) ps = (ps ≡ no_terms) × IsSmall (2 ^ 100) z
IsPlainOver h ps = Unit {0}

-- each number that stands in a term has no parts and is within 2^100
abbrev mutual
  pub IsPlain : Term → Type 0
  IsPlain (term h ps) = IsPlainOver h ps × ArePlain ps

  -- the same of terms in a row
  pub ArePlain : Terms → Type 0
  ArePlain no_terms = Unit {0}
  ArePlain (and_term p ps) = IsPlain p × ArePlain ps

-- a literal is between plain terms; a bound or a difference is between integer terms, and its number within 2^100
abbrev pub IsPlainLiteral : Literal → Type 0
IsPlainLiteral (Equal a b) = IsPlain a × IsPlain b
IsPlainLiteral (NotEqual a b) = IsPlain a × IsPlain b
IsPlainLiteral (AtMost p n c) = IsPlain p × IsPlain n × IsInteger p × IsInteger n × IsSmall (2 ^ 100) c
IsPlainLiteral (Difference p n c) = IsPlain p × IsPlain n × IsInteger p × IsInteger n × IsSmall (2 ^ 100) c
IsPlainLiteral (NotDifference p n c) = IsPlain p × IsPlain n × IsInteger p × IsInteger n × IsSmall (2 ^ 100) c
IsPlainLiteral False = Unit {0}
