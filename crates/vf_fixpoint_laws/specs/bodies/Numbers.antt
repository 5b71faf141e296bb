-- Fixpoints whose results are integers, as numbers: an interpretation tells only the number of their values, and there is one with the same values of terms in which these are numbers.
use Rattle.std.specs.Prelude.{◌≡◌, ℕ, Bool, true, not, ◌&&◌, cond, List, Contains, Some, is_some}
use Rattle.vf_tree.specs.Core.{Identity}
use Rattle.vf_meaning.specs.Valuations.{Valuation}
use Rattle.vf_meaning.specs.GhostValues.{Interpretation}
use Rattle.vf_closure.specs.Terms.{Integer, Other, Head, Fixpoint, Term, Terms, term, no_terms, and_term}
use Rattle.vf_closure.specs.Values.{of_kind, value}
use Rattle.vf_syntax.specs.declared.item.Item.{Item}
use Rattle.vf_declared.specs.declared.scope.Scope.{Scope}
use Rattle.vf_definitions.specs.Laws.{MeetsDefinitions}
use Rattle.vf_definitions.specs.Unfolded.{case_for, fixpoint_for}
use Rattle.vf_definitions.specs.declared.fixpoint.Case.{Case}
use Rattle.vf_definitions.specs.declared.fixpoint.Body.{Body}
use Rattle.vf_definitions.specs.declared.fixpoint.Body.TheVariants.{Returns, Switches}
use Rattle.vf_definitions.specs.declared.fixpoint.Fixpoint as definitions
use Rattle.vf_defining.specs.Units.{HaveDefinitions}
use Rattle.vf_fixpoint_laws.specs.values.Given.{FixpointsKeepSorts}
use Rattle.vf_fixpoint_laws.specs.values.Worth.{Sets, Tests, passing}
use Rattle.vf_fixpoint_laws.specs.bodies.Bodies.{IsWellDeclared, declared_at}
use Rattle.vf_fixpoint_laws.specs.bodies.Recursion.{Ranks}
use Rattle.vf_fixpoint_laws.specs.bodies.Units.{EachIsCovered, EachIsWritten, GoDown, HaveEachCase}

-- a fixpoint has definitions for integers, and for nothing else
abbrev pub gives_integers : List definitions.Fixpoint → Identity → Bool
gives_integers fs c = is_some (fixpoint_for fs Integer c) && not (is_some (fixpoint_for fs Other c))

-- an interpretation in which such fixpoints give numbers
abbrev pub with_numbers : List definitions.Fixpoint → Interpretation → Interpretation
with_numbers fs i = record { claims = i.claims; fixpoint = λ c vs. cond (gives_integers fs c) (of_kind Integer (i.fixpoint c vs)) (i.fixpoint c vs) }

-- where a head is that of such a fixpoint, it is one of integers
abbrev pub HeadIsKinded : List definitions.Fixpoint → Head → Type 0
HeadIsKinded fs (Fixpoint k c) = gives_integers fs c ≡ true → k ≡ Integer
HeadIsKinded fs h = Unit {0}

abbrev mutual
  -- each application of such a fixpoint in a term is one of integers
  pub TermIsKinded : List definitions.Fixpoint → Term → Type 0
  TermIsKinded fs (term h ts) = HeadIsKinded fs h × TermsAreKinded fs ts

  -- the same of terms in a row
  pub TermsAreKinded : List definitions.Fixpoint → Terms → Type 0
  TermsAreKinded fs no_terms = Unit {0}
  TermsAreKinded fs (and_term t ts) = TermIsKinded fs t × TermsAreKinded fs ts

-- the same of what a body returns
abbrev pub BodyIsKinded : List definitions.Fixpoint → Body → Type 0
BodyIsKinded fs (Returns t) = TermIsKinded fs t
BodyIsKinded fs (Switches p cases) = (g : Identity) (y : Case) → case_for cases g ≡ Some y → TermIsKinded fs y.result

-- the same of the bodies of definitions
abbrev pub AreKinded : List definitions.Fixpoint → Type 0
AreKinded fs = (k : definitions.Fixpoint) → Contains fs k → BodyIsKinded fs k.body

-- such terms have the same values with numbers
abbrev pub NumbersKeepValues : Type 0
NumbersKeepValues = (fs : List definitions.Fixpoint) (i : Interpretation) (v : Valuation) (t : Term) → TermIsKinded fs t → value (with_numbers fs i) v t ≡ value i v t

-- and definitions with such bodies are met with numbers
abbrev pub NumbersMeetDefinitions : Type 0
NumbersMeetDefinitions = (fs : List definitions.Fixpoint) (i : Interpretation) → AreKinded fs → MeetsDefinitions i fs → MeetsDefinitions (with_numbers fs i) fs

-- where an interpretation gives the definitions of items the values of their bodies, the fixpoints that these declare keep sorts with numbers
abbrev pub NumbersKeepIn : Sets → Type 0
NumbersKeepIn sets =
    (s : Scope) (paths : List (List ℕ)) (items : List Item) (fs : List definitions.Fixpoint) (i : Interpretation) (r : Ranks)
    → HaveDefinitions s paths items fs → MeetsDefinitions i fs → IsWellDeclared (declared_at s paths) → EachIsWritten s paths items → EachIsCovered s paths items → HaveEachCase (declared_at s paths) fs → GoDown r fs → AreKinded fs
    → FixpointsKeepSorts (declared_at s paths) (with_numbers fs i) sets

-- so it is for all sets that are told by tests
abbrev pub NumbersKeepSorts : Type 0
NumbersKeepSorts = (tests : Tests) → NumbersKeepIn (passing tests)
