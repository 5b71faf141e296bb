-- The terms of some literals, numbered from 0.
use Rattle.std.specs.Prelude.{◌≡◌, ℕ, ◌+◌, ◌<◌, ◌≤◌, pos, Bool, true, false, cond, List, [], ◌∷◌, ◌++◌, length, map, nat_lt}
use Rattle.std.specs.Borrow.{Bor}
use Rattle.std.specs.Ordering.{is_eq}
use Rattle.vf_closure.specs.Terms.{Term, Terms, term, no_terms, and_term, number}
use Rattle.vf_closure.specs.Literals.{Literal, compares}
use Rattle.vf_normal.specs.Order.{compare}

-- the place of a term in a list, counted from 0; where it is not there, how long the list is
abbrev pub place : Term → List Term → ℕ
place t [] = 0
place t (u ∷ us) = cond (is_eq (compare u t)) 0 (place t us + 1)

-- a list with a term at its end, where it is not there yet
abbrev pub with_one : Term → List Term → List Term
with_one t ts = cond (nat_lt (place t ts) (length ts)) ts (ts ++ t ∷ [])

-- a list with the parts of a term and then the term itself, each where it is not there yet
abbrev mutual
  pub with_term : Term → List Term → List Term
  with_term (term h ps) ts = with_one (term h ps) (with_row ps ts)

  -- a list with the terms of a row, one after the other
  pub with_row : Terms → List Term → List Term
  with_row no_terms ts = ts
  with_row (and_term p ps) ts = with_row ps (with_term p ts)

-- a list with several terms, one after the other
abbrev pub with_all : List Term → List Term → List Term
with_all [] ts = ts
with_all (u ∷ us) ts = with_all us (with_term u ts)

-- a list with the terms of some literals
abbrev pub with_literals : List Literal → List Term → List Term
with_literals [] ts = ts
with_literals (l ∷ ls) ts = with_literals ls (with_all (compares l) ts)

-- the terms of some literals: the subterms of what they compare, from left to right, parts before wholes, each once
abbrev pub terms_of : List Literal → List Term
terms_of ls = with_literals ls []

-- the terms of some literals and the number 0, which always arises
abbrev pub all_terms : List Literal → List Term
all_terms ls = with_term (number (pos 0)) (terms_of ls)

-- the terms that references point to
abbrev pub pointed : List (Bor Term) → List Term
pointed rs = map (λ r. r.now) rs

-- the wanted list was gathered, which is no longer than a limit, or the wanted one is longer
abbrev pub IsGathered : ℕ → Bool → List Term → List Term → Type 0
IsGathered most true wanted found = (found ≡ wanted) × (length wanted ≤ most)
IsGathered most false wanted found = most < length wanted
