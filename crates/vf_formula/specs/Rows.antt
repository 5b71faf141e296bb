-- Terms in a row as a list, and how large terms are.
use Rattle.std.specs.Prelude.{ℕ, ◌+◌, ◌≤◌, Bool, List, [], ◌∷◌, Option, Some, None}
use Rattle.std.proofs.Common.{arith}
use denote.Param.Weighed.{most}
use Rattle.vf_closure.specs.Terms.{Truth, Term, Terms, term, no_terms, and_term}

-- the terms of a list in a row
abbrev pub row : List Term → Terms
row [] = no_terms
row (t ∷ ts) = and_term t (row ts)

-- how many heads stand in a term
abbrev mutual
  pub size_of : Term → ℕ
  size_of (term h ts) = size_of_row ts + 1

  -- the sizes of terms in a row, and one more for each of them
  pub size_of_row : Terms → ℕ
  size_of_row no_terms = 0
  size_of_row (and_term t ts) = size_of t + size_of_row ts + 1

-- each term of a list is smaller than the list
pub most_le-size_of_row : (ts : List Term) → most (λ t. size_of t + 1) ts ≤ size_of_row (row ts)
most_le-size_of_row [] = omega arith
most_le-size_of_row (t ∷ ts) = omega (arith, most_le-size_of_row ts)

-- the truth value that a term is, if it is one
abbrev pub truth_in : Term → Option Bool
truth_in (term (Truth b) ts) = Some b
truth_in _ = None
