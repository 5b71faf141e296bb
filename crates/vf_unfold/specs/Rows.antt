-- Unfoldings by a list of equations.
use Rattle.std.specs.Prelude.{List, [], ◌∷◌, All, cond, Option, Some, None}
use Rattle.std.specs.Ordering.{is_eq}
use Rattle.vf_closure.specs.Terms.{Term, term, no_terms, and_term}
use Rattle.vf_closure.specs.Closure.{Unfoldings}
use Rattle.vf_normal.specs.Order.{compare}
use Rattle.vf_question.specs.Plain.{IsPlain}

-- the right side of the first equation whose left side is a term
abbrev pub row_for : List (Term × Term) → Term → Option Term
row_for [] t = None
row_for (r ∷ rs) t = cond (is_eq (compare r.0 t)) (Some r.1) (row_for rs t)

-- each right side is plain
abbrev pub HavePlainBodies : List (Term × Term) → Type 0
HavePlainBodies rows = All (λ (r : Term × Term). IsPlain r.1) rows

-- the first part of a term
abbrev pub first_part : Term → Option Term
first_part (term h no_terms) = None
first_part (term h (and_term p ps)) = Some p

-- the head of a term over another part alone
abbrev pub over_part : Term → Term → Term
over_part (term h ps) k = term h (and_term k no_terms)

-- Unfoldings by equations: an application is what its equation says; and it goes by its first argument, where it is what the equation of its fixpoint at that constructor's term says
abbrev pub by_rows : List (Term × Term) → Unfoldings
by_rows rows = record { body = row_for rows; switched = first_part; case = λ t k. row_for rows (over_part t k) }
