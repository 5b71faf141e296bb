-- Worked examples of refutations.
use Rattle.std.specs.Prelude.{pos, [], ◌∷◌, Some, None, codes}
use Rattle.vf_meaning.specs.Ghost.{Numbered}
use Rattle.vf_closure.specs.Terms.{Integer, Symbol, Constructor, Fixpoint, Term, term, no_terms, and_term, number, plus}
use Rattle.vf_closure.specs.Literals.{Equal, AtMost}
use Rattle.vf_closure.specs.Closure.{Unfoldings, no_unfoldings, IsRefuted}

-- two integer symbols
abbrev pub x : Term
x = term (Symbol Integer (Numbered 0)) no_terms

abbrev pub y : Term
y = term (Symbol Integer (Numbered 1)) no_terms

-- a fixpoint at an argument, and a constructor's term
abbrev pub f : Term → Term
f t = term (Fixpoint Integer (codes "list.h#f")) (and_term t no_terms)

abbrev pub cons : Term → Term
cons t = term (Constructor (codes "list.h#cons")) (and_term t no_terms)

-- unfoldings by which every application is 1
abbrev pub all_one : Unfoldings
all_one = record { body = λ t. Some (number (pos 1)); switched = λ t. None; case = λ t k. None }

-- equal arguments give equal applications
abbrev pub ByCongruence : Type 0
ByCongruence = IsRefuted no_unfoldings (Equal x y ∷ []) (Equal (f x) (f y))

-- equal terms of one constructor have equal arguments
abbrev pub ByInjectivity : Type 0
ByInjectivity = IsRefuted no_unfoldings (Equal (cons x) (cons y) ∷ []) (Equal x y)

-- x <= y gives x + 1 <= y + 1
abbrev pub ByChain : Type 0
ByChain = IsRefuted no_unfoldings (AtMost x y (pos 0) ∷ []) (AtMost (plus x (pos 1)) (plus y (pos 1)) (pos 0))

-- x <= y and y <= x give f(x) == f(y)
abbrev pub BySqueeze : Type 0
BySqueeze = IsRefuted no_unfoldings (AtMost x y (pos 0) ∷ AtMost y x (pos 0) ∷ []) (Equal (f x) (f y))

-- an application is what it is unfolded to
abbrev pub ByUnfolding : Type 0
ByUnfolding = IsRefuted all_one [] (Equal (f x) (number (pos 1)))

-- nothing says that two symbols are equal
abbrev pub NotBySymbols : Type 0
NotBySymbols = IsRefuted no_unfoldings [] (Equal x y) → ⊥
