-- What each step of a refutation derives over the terms that are numbered so far, and which lists of steps are refutations.
use Rattle.std.specs.Prelude.{◌≡◌, ℕ, List, [], ◌∷◌, ◌++◌, map, Option, Some, None, slice_get}
use Rattle.vf_table.specs.declared.node.Node.{Node}
use Rattle.vf_refute.specs.declared.steps.Fact.{Fact}
use Rattle.vf_refute.specs.declared.steps.Derived.{Derived}
use Rattle.vf_refute.specs.declared.steps.Derived.TheVariants.{AreEqual}
use Rattle.vf_refute.specs.declared.steps.Step as refute
use Rattle.vf_refute.specs.Refutations.{HasDerived, Derives, IsWithinLimit, IsConflict}
use Rattle.vf_closure.specs.Terms.{Head, Constructor, Term, term}
use Rattle.vf_closure.specs.Literals.{Literal}
use Rattle.vf_closure.specs.Closure.{Unfoldings}
use Rattle.vf_question.specs.Numbered.{place, with_term, all_terms}
use Rattle.vf_question.specs.Tabled.{entries, tabled, tabled_fact}
use Rattle.vf_question.specs.Plain.{IsPlain}
use Rattle.vf_recheck.specs.declared.steps.Step.{Step}
use Rattle.vf_recheck.specs.declared.steps.Step.TheVariants as steps_

-- the literals as facts over the numbers of their terms
abbrev pub facts_over : List Literal → List Fact
facts_over literals = map (tabled_fact (all_terms literals)) literals

-- a table is that of some terms, place by place
abbrev pub IsTableOf : List Node → List Term → Type 0
IsTableOf nodes terms = map entries nodes ≡ map (tabled terms) terms

-- what a step that unfolds nothing derives over the table of the terms
pub record DerivesOver (facts : List Fact) (terms : List Term) (known : List Derived) (step : refute.Step) (d : Derived) : Type 0 where
  pub nodes : List Node
  pub table : IsTableOf nodes terms
  pub derives : Derives nodes facts known step d

-- the step is a last one and names a conflict over the table of the terms
pub record IsConflictOver (facts : List Fact) (terms : List Term) (known : List Derived) (step : refute.Step) : Type 0 where
  pub nodes : List Node
  pub table : IsTableOf nodes terms
  pub conflict : IsConflict nodes facts known step

-- the term with a number is an application without a switch, and b is its body
pub record IsBodyAt (u : Unfoldings) (terms : List Term) (t : ℕ) (b : Term) : Type 0 where
  pub application : Term
  pub stands : slice_get terms t ≡ Some application
  pub is : u.body application ≡ Some b

-- a head is a constructor
abbrev pub IsConstructor : Head → Type 0
IsConstructor (Constructor c) = Unit {0}
IsConstructor _ = ⊥

-- a term is one of a constructor
abbrev pub IsOfConstructor : Term → Type 0
IsOfConstructor (term h ps) = IsConstructor h

-- an application with a switch goes by the term with a number
pub record GoesBy (u : Unfoldings) (terms : List Term) (application : Term) (n : ℕ) : Type 0 where
  pub argument : Term
  pub switched : u.switched application ≡ Some argument
  pub stands : slice_get terms n ≡ Some argument

-- the term with a number is one of a constructor, and b is the case of an application for it
pub record IsCaseBy (u : Unfoldings) (terms : List Term) (application : Term) (n : ℕ) (b : Term) : Type 0 where
  pub by : Term
  pub stands : slice_get terms n ≡ Some by
  pub constructor : IsOfConstructor by
  pub is : u.case application by ≡ Some b

-- the term with a number is an application with a switch, and b is its case for the constructor's term to which step a says that the argument that it goes by is equal
pub record IsCaseAt (u : Unfoldings) (terms : List Term) (known : List Derived) (t a : ℕ) (b : Term) : Type 0 where
  pub application : Term
  pub left : ℕ
  pub right : ℕ
  pub stands : slice_get terms t ≡ Some application
  pub equal : HasDerived known a (AreEqual left right)
  pub goes_by : GoesBy u terms application left
  pub case : IsCaseBy u terms application right b

-- an unfolding: the term with a number is equal to what it is unfolded to, a plain term, whose terms are numbered behind the others, parts before wholes, each once
pub record Unfolds (unfolded : Term → Type 0) (terms : List Term) (t : ℕ) (d : Derived) (now : List Term) : Type 0 where
  pub body : Term
  pub is : unfolded body
  pub plain : IsPlain body
  pub numbered : now ≡ with_term body terms
  pub derives : d ≡ AreEqual t (place body now)

-- what a step derives, and which terms are numbered then
abbrev pub GoesOn : Unfoldings → List Fact → List Term → List Derived → Step → Derived → List Term → Type 0
GoesOn u facts terms known (steps_.Plain step) d now = DerivesOver facts terms known step d × (now ≡ terms)
GoesOn u facts terms known (steps_.ToBody t) d now = Unfolds (IsBodyAt u terms t) terms t d now
GoesOn u facts terms known (steps_.ByCase t a) d now = Unfolds (IsCaseAt u terms known t a) terms t d now

-- the step is a last one and names a conflict
abbrev pub Ends : List Fact → List Term → List Derived → Step → Type 0
Ends facts terms known (steps_.Plain step) = IsConflictOver facts terms known step
Ends facts terms known (steps_.ToBody t) = ⊥
Ends facts terms known (steps_.ByCase t a) = ⊥

-- steps that go on from the terms that are numbered and from what is known: each but the last derives something within the limit, which is known from then on, and the last names a conflict
abbrev pub Refute : Unfoldings → List Fact → List Term → List Derived → List Step → Type 0
Refute u facts terms known [] = ⊥
Refute u facts terms known (last ∷ []) = Ends facts terms known last
Refute u facts terms known (step ∷ next ∷ more) = (d : Derived) × (now : List Term) × GoesOn u facts terms known step d now × IsWithinLimit d × Refute u facts now (known ++ d ∷ []) (next ∷ more)

-- steps that go on from nothing but the terms of the literals, and 0 behind them, to a conflict
abbrev pub IsRefutation : Unfoldings → List Literal → List Step → Type 0
IsRefutation u literals steps = Refute u (facts_over literals) (all_terms literals) [] steps

-- what a check of one step tells: what it derives within the limit with the terms that are numbered then, and none exactly where there is no such thing
abbrev pub IsTold : (Derived → List Term → Type 0) → List Term → Option Derived → Type 0
IsTold goes now None = (d : Derived) (ts : List Term) → goes d ts → IsWithinLimit d → ⊥
IsTold goes now (Some d) = goes d now × IsWithinLimit d
