-- What the answers to questions say.
use Rattle.std.specs.Prelude.{◌≡◌, ◌<◌, ◌≤◌, ◌^◌, List, [], ◌∷◌, ◌++◌, length}
use Rattle.vf_arith.specs.Paths.{IsSmall}
use Rattle.vf_closure.specs.Terms.{Term}
use Rattle.vf_closure.specs.Literals.{Literal, AtMost, denied}
use Rattle.vf_closure.specs.Closure.{Unfoldings, IsRefuted}
use Rattle.vf_question.specs.Numbered.{terms_of}
use Rattle.vf_question.specs.declared.numbering.TheConstants.{MOST_TERMS}
use Rattle.vf_answer.specs.declared.answer.Answer.{Answer}
use Rattle.vf_answer.specs.declared.answer.Answer.TheVariants as answers

-- the terms of a question: what its facts and its goal compare, with all that stands in it, each once
abbrev pub asked_terms : List Literal → Literal → List Term
asked_terms facts goal = terms_of (facts ++ goal ∷ [])

-- an answer to a question is right: there is a plain refutation, or none, or the question has too many terms
abbrev pub IsAnswer : Unfoldings → List Literal → Literal → Answer → Type 0
IsAnswer u facts goal answers.Proved = (length (asked_terms facts goal) ≤ MOST_TERMS) × IsRefuted u facts goal
IsAnswer u facts goal answers.Unknown = (length (asked_terms facts goal) ≤ MOST_TERMS) × (IsRefuted u facts goal → ⊥)
IsAnswer u facts goal answers.Terms = MOST_TERMS < length (asked_terms facts goal)

-- a goal can be denied: the number of a bound stays within what is kept
abbrev pub CanBeDenied : Literal → Type 0
CanBeDenied (AtMost p n c) = IsSmall (2 ^ 101) c
CanBeDenied l = Unit {0}

-- a question has as many terms as its facts and its goal's negation
abbrev pub GoalsAreCounted : Type 0
GoalsAreCounted = (facts : List Literal) (goal : Literal) → length (terms_of (facts ++ denied goal)) ≡ length (asked_terms facts goal)
