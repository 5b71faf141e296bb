-- Terms of expressions that have sorts have values of them, where an interpretation gives the fixpoints of a unit the values of their bodies.
use Rattle.std.specs.Prelude.{ℕ, false, List, length}
use Rattle.vf_base.specs.declared.place.Place.{Place}
use Rattle.vf_meaning.specs.Valuations.{Valuation}
use Rattle.vf_meaning.specs.GhostValues.{Interpretation}
use Rattle.vf_closure.specs.Values.{value}
use Rattle.vf_sorts.specs.Sorts.{Sort}
use Rattle.vf_sorts.specs.Unknowns.{AgreesAsTold, Known, settling}
use Rattle.vf_syntax.specs.GhostExprTree.{GhostExprTree}
use Rattle.vf_syntax.specs.declared.item.Item.{Item}
use Rattle.vf_declared.specs.declared.scope.Scope.{Scope}
use Rattle.vf_sorting.specs.HasSort.{HasSort, Passes}
use Rattle.vf_sorting.specs.Kinds.{is_pointer}
use Rattle.vf_terms.specs.Settings.{Setting, settled}
use Rattle.vf_terms.specs.Readings.{read}
use Rattle.vf_definitions.specs.Laws.{MeetsDefinitions}
use Rattle.vf_definitions.specs.declared.fixpoint.Fixpoint as definitions
use Rattle.vf_defining.specs.Units.{HaveDefinitions}
use Rattle.vf_fixpoint_laws.specs.values.Instances.{Instance, settled_at}
use Rattle.vf_fixpoint_laws.specs.values.Declares.{Covers, Declared, file_level}
use Rattle.vf_fixpoint_laws.specs.values.Given.{GivesValues}
use Rattle.vf_fixpoint_laws.specs.values.Worth.{HasValue, Sets, Tests, passing}
use Rattle.vf_fixpoint_laws.specs.bodies.Bodies.{IsWellDeclared, declared_at}
use Rattle.vf_fixpoint_laws.specs.bodies.Recursion.{Ranks}
use Rattle.vf_fixpoint_laws.specs.bodies.Units.{EachIsCovered, EachIsWritten, GoDown, HaveEachCase}
use Rattle.vf_fixpoint_laws.specs.bodies.Applied.{IsSettingKinded}

-- an interpretation gives the fixpoints that items declare the values of their bodies, which have a case for each constructor, and whose applications go down in some order
pub record DefinesUnit (s : Scope) (paths : List (List ℕ)) (items : List Item) (fs : List definitions.Fixpoint) (i : Interpretation) : Type 0 where
  pub have : HaveDefinitions s paths items fs
  pub meets : MeetsDefinitions i fs
  pub well : IsWellDeclared (declared_at s paths)
  pub written : EachIsWritten s paths items
  pub covered : EachIsCovered s paths items
  pub cases : HaveEachCase (declared_at s paths) fs
  pub ranks : Ranks
  pub down : GoDown ranks fs

-- what is read in a setting of an expression that has a sort, or passes for one, has a value of it by what is declared
pub record ValuesFollow (d : Declared) (s : Setting) (i : Interpretation) (v : Valuation) (sets : Sets) (g : Instance) : Type 0 where
  pub sorted : (known then_known : Known) (e : GhostExprTree) (t : Sort) → HasSort s.scope s.context known e t then_known → AgreesAsTold (settling s.known) then_known
      → HasValue d sets (value i v (read s false (length known) e).term) (settled_at s g t)
  pub passed : (known then_known : Known) (w : Sort) (q : Place) (e : GhostExprTree) → Passes s.scope s.context known w q e then_known → AgreesAsTold (settling s.known) then_known
      → HasValue d sets (value i v (read s (is_pointer (settled s w)) (length known) e).term) (settled_at s g w)

-- where a unit covers what a setting declares at file level, and the terms that stand in the setting have values of their sorts, and apply fixpoints with results of integers as such, values follow sorting
abbrev pub ValuesFollowIn : Sets → Type 0
ValuesFollowIn sets =
    (u : Scope) (paths : List (List ℕ)) (items : List Item) (fs : List definitions.Fixpoint) (i : Interpretation) → DefinesUnit u paths items fs i
    → (s : Setting) (v : Valuation) (g : Instance) → Covers (declared_at u paths) (file_level s) → IsSettingKinded fs s → GivesValues (declared_at u paths) s i v sets g → ValuesFollow (declared_at u paths) s i v sets g

-- so they do for all sets that are told by tests
abbrev pub ValuesFollowSorting : Type 0
ValuesFollowSorting = (tests : Tests) → ValuesFollowIn (passing tests)
