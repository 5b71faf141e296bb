-- Terms that are read apply fixpoints with results of integers as such.
use Rattle.std.specs.Prelude.{◌≡◌, ℕ, Bool, true, List, slice_get}
use Rattle.vf_tree.specs.Core.{Identity}
use Rattle.vf_meaning.specs.GhostValues.{Interpretation}
use Rattle.vf_closure.specs.Terms.{Integer}
use Rattle.vf_syntax.specs.GhostExprTree.{GhostExprTree}
use Rattle.vf_syntax.specs.declared.item.Item.{Item}
use Rattle.vf_declared.specs.declared.declaration.Fixpoint as declaration
use Rattle.vf_declared.specs.declared.declaration.GhostDeclaration.TheVariants as ghosts
use Rattle.vf_declared.specs.declared.scope.Scope.{Scope}
use Rattle.vf_terms.specs.Settings.{Setting, kind_of_sort}
use Rattle.vf_terms.specs.Named.{local_term}
use Rattle.vf_terms.specs.Readings.{read}
use Rattle.vf_definitions.specs.Laws.{MeetsDefinitions}
use Rattle.vf_definitions.specs.declared.fixpoint.Fixpoint as definitions
use Rattle.vf_defining.specs.Units.{HaveDefinitions}
use Rattle.vf_fixpoint_laws.specs.values.Declares.{Declared, Declares, file_level}
use Rattle.vf_fixpoint_laws.specs.values.Given.{FixpointsKeepSorts}
use Rattle.vf_fixpoint_laws.specs.values.Worth.{Sets, Tests, passing}
use Rattle.vf_fixpoint_laws.specs.bodies.Bodies.{IsWellDeclared, declared_at}
use Rattle.vf_fixpoint_laws.specs.bodies.Recursion.{Ranks}
use Rattle.vf_fixpoint_laws.specs.bodies.Units.{EachIsCovered, EachIsWritten, GoDown, HaveEachCase}
use Rattle.vf_fixpoint_laws.specs.bodies.Numbers.{AreKinded, TermIsKinded, gives_integers, with_numbers}

-- a declared fixpoint that has definitions for integers alone has a result of integers
abbrev pub AreOfIntegers : Declared → List definitions.Fixpoint → Type 0
AreOfIntegers d fs = (c : Identity) → gives_integers fs c ≡ true → (x : declaration.Fixpoint) → Declares d c (ghosts.Fixpoint x) → kind_of_sort x.result ≡ Integer

-- the terms that stand in a setting apply such fixpoints as such
pub record IsSettingKinded (fs : List definitions.Fixpoint) (s : Setting) : Type 0 where
  pub locals : (n : ℕ) → TermIsKinded fs (local_term (slice_get s.locals n))
  pub result : TermIsKinded fs s.result
  pub this_value : TermIsKinded fs s.this_value
  pub thread : TermIsKinded fs s.thread

-- so does what is read in it
abbrev pub ReadingsAreKinded : Type 0
ReadingsAreKinded = (fs : List definitions.Fixpoint) (s : Setting) → AreOfIntegers (file_level s) fs → IsSettingKinded fs s → (w : Bool) (u : ℕ) (e : GhostExprTree) → TermIsKinded fs (read s w u e).term

-- and so do the bodies of the definitions of items
abbrev pub DefinitionsAreKinded : Type 0
DefinitionsAreKinded = (s : Scope) (paths : List (List ℕ)) (items : List Item) (fs : List definitions.Fixpoint) → HaveDefinitions s paths items fs → IsWellDeclared (declared_at s paths) → AreOfIntegers (declared_at s paths) fs × AreKinded fs

-- so the fixpoints that items declare keep sorts with numbers, where an interpretation gives their definitions the values of their bodies
abbrev pub DefinedKeepIn : Sets → Type 0
DefinedKeepIn sets =
    (s : Scope) (paths : List (List ℕ)) (items : List Item) (fs : List definitions.Fixpoint) (i : Interpretation) (r : Ranks)
    → HaveDefinitions s paths items fs → MeetsDefinitions i fs → IsWellDeclared (declared_at s paths) → EachIsWritten s paths items → EachIsCovered s paths items → HaveEachCase (declared_at s paths) fs → GoDown r fs
    → FixpointsKeepSorts (declared_at s paths) (with_numbers fs i) sets

-- the same for all sets that are told by tests
abbrev pub DefinedKeepSorts : Type 0
DefinedKeepSorts = (tests : Tests) → DefinedKeepIn (passing tests)
