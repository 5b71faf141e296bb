-- Facts and goals, and what they mean.
use Rattle.std.specs.Prelude.{◌≡◌, ◌≢◌, ℤ, pos, ◌+ℤ◌, ◌-ℤ◌, neg_ℤ, ◌≤ℤ◌, List, [], ◌∷◌, Contains}
use Rattle.vf_model.specs.Values.{number_of}
use Rattle.vf_meaning.specs.Valuations.{Valuation}
use Rattle.vf_meaning.specs.GhostValues.{Interpretation}
use Rattle.vf_closure.specs.Terms.{Integer, Term, term, kind_of}
use Rattle.vf_closure.specs.Values.{value}

-- two terms are equal, or not; the first less the second is at most a number, is it, or is not it; and what nothing meets
pub data Literal : Type 0 where
  Equal NotEqual : Term → Term → Literal
  AtMost Difference NotDifference : Term → Term → ℤ → Literal
  False : Literal

-- the negation of a goal, as the facts that it adds: P - N <= c fails where N - P <= -c - 1, and `false` always fails
abbrev pub denied : Literal → List Literal
denied (Equal a b) = NotEqual a b ∷ []
denied (NotEqual a b) = Equal a b ∷ []
denied (AtMost p n c) = AtMost n p (neg_ℤ c -ℤ pos 1) ∷ []
denied (Difference p n c) = NotDifference p n c ∷ []
denied (NotDifference p n c) = Difference p n c ∷ []
denied False = []

-- the terms that a literal compares
abbrev pub compares : Literal → List Term
compares (Equal a b) = a ∷ b ∷ []
compares (NotEqual a b) = a ∷ b ∷ []
compares (AtMost p n c) = p ∷ n ∷ []
compares (Difference p n c) = p ∷ n ∷ []
compares (NotDifference p n c) = p ∷ n ∷ []
compares False = []

-- a term is an integer term
abbrev pub IsInteger : Term → Type 0
IsInteger (term h ts) = kind_of h ≡ Integer

-- a valuation meets a literal, where the declarations give this to the terms
abbrev pub Holds : Interpretation → Valuation → Literal → Type 0
Holds i v (Equal a b) = value i v a ≡ value i v b
Holds i v (NotEqual a b) = value i v a ≢ value i v b
Holds i v (AtMost p n c) = number_of (value i v p) ≤ℤ (number_of (value i v n) +ℤ c)
Holds i v (Difference p n c) = number_of (value i v p) ≡ number_of (value i v n) +ℤ c
Holds i v (NotDifference p n c) = number_of (value i v p) ≢ number_of (value i v n) +ℤ c
Holds i v False = ⊥

-- a valuation meets each fact of a path
abbrev pub Meets : Interpretation → Valuation → List Literal → Type 0
Meets i v path = (l : Literal) → Contains path l → Holds i v l
