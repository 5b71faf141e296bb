-- Fixpoints whose bodies apply earlier ones, and themselves to components of what they switch over.
use Rattle.std.specs.Prelude.{◌≡◌, ◌⊎◌, ℕ, ◌<◌, ◌≤◌, List, length, map, Option, Some, None}
use Rattle.vf_tree.specs.Core.{Identity}
use Rattle.vf_model.specs.Values.{Values}
use Rattle.vf_meaning.specs.Ghost.{Name, Numbered}
use Rattle.vf_meaning.specs.GhostValues.{Interpretation}
use Rattle.vf_closure.specs.Terms.{Head, Symbol, Fixpoint, Term, Terms, term, no_terms, and_term}
use Rattle.vf_closure.specs.Values.{of_kind}
use Rattle.vf_declared.specs.declared.declaration.Fixpoint as declaration
use Rattle.vf_declared.specs.declared.declaration.GhostDeclaration.TheVariants as ghosts
use Rattle.vf_declared.specs.declared.scope.Scope.{Scope}
use Rattle.vf_terms.specs.Settings.{kind_of_sort}
use Rattle.vf_definitions.specs.Laws.{MeetsBody}
use Rattle.vf_definitions.specs.Unfolded.{case_for, term_at}
use Rattle.vf_definitions.specs.declared.fixpoint.Case.{Case}
use Rattle.vf_definitions.specs.declared.fixpoint.Body.{Body}
use Rattle.vf_definitions.specs.declared.fixpoint.Body.TheVariants.{Returns, Switches}
use Rattle.vf_definitions.specs.declared.fixpoint.Fixpoint as definitions
use Rattle.vf_fixpoint_laws.specs.values.Instances.{Instance, placed}
use Rattle.vf_fixpoint_laws.specs.values.Declares.{Declared, Declares}
use Rattle.vf_fixpoint_laws.specs.values.Worth.{HaveValues, Sets, Tests, passing}
use Rattle.vf_fixpoint_laws.specs.values.Given.{FixpointsKeepSorts}
use Rattle.vf_sorts.specs.Unknowns.{Filling}
use Rattle.vf_fixpoint_laws.specs.bodies.Bodies.{IsDefinedBy, IsWellDeclared, declared_at}

-- an order of fixpoints: a number for each identity
abbrev pub Ranks : Type 0
Ranks = Identity → ℕ

-- a name is one of those that stand behind so many parameters
abbrev pub IsBehind : ℕ → Name → Type 0
IsBehind n (Numbered j) = n ≤ j
IsBehind n x = ⊥

-- a head is the symbol of such a name
abbrev pub IsSymbolBehind : ℕ → Head → Type 0
IsSymbolBehind n (Symbol k x) = IsBehind n x
IsSymbolBehind n h = ⊥

-- an argument is a component: the symbol of a name of the case, which stands behind the parameters
abbrev pub IsComponent : ℕ → Option Term → Type 0
IsComponent n (Some (term h ts)) = IsSymbolBehind n h
IsComponent n None = ⊥

-- arguments have a component at the place of the parameter that is switched over, if one is
abbrev pub PassesComponent : ℕ → Option ℕ → Terms → Type 0
PassesComponent n None ts = ⊥
PassesComponent n (Some p) ts = IsComponent n (term_at ts p)

-- a head over arguments goes down in the body of a fixpoint: where it is that of a fixpoint, this is an earlier one, or it is the same and is passed a component
abbrev pub GoesDownBy : Ranks → Identity → ℕ → Option ℕ → Head → Terms → Type 0
GoesDownBy r c n o (Fixpoint k f) ts = (r f < r c) ⊎ ((f ≡ c) × PassesComponent n o ts)
GoesDownBy r c n o h ts = Unit {0}

abbrev mutual
  -- each application in a term goes down
  pub TermGoesDown : Ranks → Identity → ℕ → Option ℕ → Term → Type 0
  TermGoesDown r c n o (term h ts) = GoesDownBy r c n o h ts × TermsGoDown r c n o ts

  -- the same of terms in a row
  pub TermsGoDown : Ranks → Identity → ℕ → Option ℕ → Terms → Type 0
  TermsGoDown r c n o no_terms = Unit {0}
  TermsGoDown r c n o (and_term t ts) = TermGoesDown r c n o t × TermsGoDown r c n o ts

-- each application in the body of a fixpoint with so many parameters goes down
abbrev pub BodyGoesDown : Ranks → Identity → ℕ → Body → Type 0
BodyGoesDown r c n (Returns t) = TermGoesDown r c n None t
BodyGoesDown r c n (Switches p cases) = (g : Identity) (y : Case) → case_for cases g ≡ Some y → TermGoesDown r c n (Some p) y.result

-- a declared fixpoint has a body whose values it has, and whose applications go down
pub record IsKept (s : Scope) (paths : List (List ℕ)) (i : Interpretation) (r : Ranks) (c : Identity) (x : declaration.Fixpoint) : Type 0 where
  pub body : Body
  pub definition : definitions.Fixpoint
  pub identity : definition.identity ≡ c
  pub defined : IsDefinedBy s paths x body definition
  pub meets : MeetsBody i definition body
  pub goes_down : BodyGoesDown r c (length x.arguments) body

-- each declared fixpoint has one
abbrev pub EachIsKept : Scope → List (List ℕ) → Interpretation → Ranks → Type 0
EachIsKept s paths i r = (c : Identity) (x : declaration.Fixpoint) → Declares (declared_at s paths) c (ghosts.Fixpoint x) → IsKept s paths i r c x

-- at values of its arguments' sorts a declared fixpoint has a value that is one of its result's kind: a number where that is an integer
abbrev pub GivesKinds : Declared → Interpretation → Sets → Type 0
GivesKinds d i sets =
    (c : Identity) (x : declaration.Fixpoint) → Declares d c (ghosts.Fixpoint x) → (vs : Values) (g : Instance) (f : Filling) → HaveValues d sets vs (map (placed g f) x.arguments) → of_kind (kind_of_sort x.result) (i.fixpoint c vs) ≡ i.fixpoint c vs

-- fixpoints that have the values of their bodies, whose applications go down in some order, keep sorts
abbrev pub KeptIn : Sets → Type 0
KeptIn sets =
    (s : Scope) (paths : List (List ℕ)) (i : Interpretation) (r : Ranks) → IsWellDeclared (declared_at s paths) → EachIsKept s paths i r → GivesKinds (declared_at s paths) i sets → FixpointsKeepSorts (declared_at s paths) i sets

-- so they do for all sets that are told by tests
abbrev pub BodiesKeepSorts : Type 0
BodiesKeepSorts = (tests : Tests) → KeptIn (passing tests)
