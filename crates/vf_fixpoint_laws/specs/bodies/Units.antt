-- The fixpoints of a unit: what its text says of those that are declared, and when they keep sorts.
use Rattle.std.specs.Prelude.{◌≡◌, ℕ, List, length, Contains, Some}
use Rattle.vf_tree.specs.Core.{Identity}
use Rattle.vf_meaning.specs.GhostValues.{Interpretation}
use Rattle.vf_sorts.specs.Unknowns.{IsBelow}
use Rattle.vf_syntax.specs.declared.item.Item.{Item}
use Rattle.vf_declared.specs.declared.declaration.Fixpoint as declaration
use Rattle.vf_declared.specs.declared.declaration.GhostDeclaration.TheVariants as ghosts
use Rattle.vf_declared.specs.declared.scope.Scope.{Scope}
use Rattle.vf_definitions.specs.Laws.{MeetsDefinitions}
use Rattle.vf_definitions.specs.declared.fixpoint.Fixpoint as definitions
use Rattle.vf_defining.specs.UpTo.{up_to}
use Rattle.vf_defining.specs.Bodies.{identity_at}
use Rattle.vf_defining.specs.Units.{HaveDefinitions, IsNumbered, Written, written_in}
use Rattle.vf_fixpoint_laws.specs.values.Declares.{Covers, Declared, Declares}
use Rattle.vf_fixpoint_laws.specs.values.Given.{FixpointsKeepSorts}
use Rattle.vf_fixpoint_laws.specs.values.Worth.{Sets, Tests, passing}
use Rattle.vf_fixpoint_laws.specs.bodies.Closed.{Each}
use Rattle.vf_fixpoint_laws.specs.bodies.Bodies.{HasEachCase, IsWellDeclared, declared_at}
use Rattle.vf_fixpoint_laws.specs.bodies.Recursion.{BodyGoesDown, GivesKinds, Ranks}

-- a declared fixpoint stands among items: its name there has its identity and means it, there are as many parameters as its arguments, and no unknown sorts stand in what it is declared with
pub record IsWritten (s : Scope) (paths : List (List ℕ)) (items : List Item) (c : Identity) (x : declaration.Fixpoint) : Type 0 where
  pub item : Item
  pub among : Contains items item
  pub written : Written
  pub is : written_in item ≡ Some written
  pub identity : identity_at s paths written.name ≡ c
  pub number : ℕ
  pub numbered : IsNumbered s written number x
  pub known_result : IsBelow 0 x.result
  pub known_arguments : Each (IsBelow 0) x.arguments
  pub long : length written.parameters ≡ length x.arguments

-- each declared fixpoint stands among items
abbrev pub EachIsWritten : Scope → List (List ℕ) → List Item → Type 0
EachIsWritten s paths items = (c : Identity) (x : declaration.Fixpoint) → Declares (declared_at s paths) c (ghosts.Fixpoint x) → IsWritten s paths items c x

-- where an item is a fixpoint, all that is declared covers what is so up to its name
abbrev pub EachIsCovered : Scope → List (List ℕ) → List Item → Type 0
EachIsCovered s paths items = (item : Item) (w : Written) → Contains items item → written_in item ≡ Some w → Covers (declared_at s paths) (declared_at (up_to w.name s) paths)

-- the bodies of definitions have a case for each constructor
abbrev pub HaveEachCase : Declared → List definitions.Fixpoint → Type 0
HaveEachCase d fs = (k : definitions.Fixpoint) → Contains fs k → (x : declaration.Fixpoint) → Declares d k.identity (ghosts.Fixpoint x) → HasEachCase d x.arguments k.body

-- the applications in the bodies of definitions go down
abbrev pub GoDown : Ranks → List definitions.Fixpoint → Type 0
GoDown r fs = (k : definitions.Fixpoint) → Contains fs k → BodyGoesDown r k.identity k.parameters k.body

-- where an interpretation gives the definitions of items the values of their bodies, the fixpoints that these declare keep sorts
abbrev pub UnitKeepsIn : Sets → Type 0
UnitKeepsIn sets =
    (s : Scope) (paths : List (List ℕ)) (items : List Item) (fs : List definitions.Fixpoint) (i : Interpretation) (r : Ranks)
    → HaveDefinitions s paths items fs → MeetsDefinitions i fs → IsWellDeclared (declared_at s paths) → EachIsWritten s paths items → EachIsCovered s paths items → HaveEachCase (declared_at s paths) fs → GoDown r fs → GivesKinds (declared_at s paths) i sets
    → FixpointsKeepSorts (declared_at s paths) i sets

-- so it is for all sets that are told by tests
abbrev pub UnitsKeepSorts : Type 0
UnitsKeepSorts = (tests : Tests) → UnitKeepsIn (passing tests)
