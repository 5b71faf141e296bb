-- Units that are read from files and accepted: values follow sorting, and nothing is asked of names.
use Rattle.std.specs.Prelude.{◌≡◌, ℕ, List, None}
use Rattle.vf_meaning.specs.Valuations.{Valuation}
use Rattle.vf_meaning.specs.GhostValues.{Interpretation}
use Rattle.vf_snapshot.specs.Holdings.{Holdings}
use Rattle.vf_syntax.specs.declared.item.Unit.{Unit as FileUnit}
use Rattle.vf_declared.specs.declared.scope.Scope.{Scope}
use Rattle.vf_terms.specs.Settings.{Setting}
use Rattle.vf_resolve.specs.declared.files.Files.{Files}
use Rattle.vf_recursion.specs.Faults.{first_fault}
use Rattle.vf_definitions.specs.Laws.{MeetsDefinitions}
use Rattle.vf_definitions.specs.declared.fixpoint.Fixpoint as definitions
use Rattle.vf_defining.specs.Symbols.{without_locals}
use Rattle.vf_defining.specs.Units.{HaveDefinitions}
use Rattle.vf_fixpoint_laws.specs.values.Instances.{Instance}
use Rattle.vf_fixpoint_laws.specs.values.Declares.{Covers, file_level}
use Rattle.vf_fixpoint_laws.specs.values.Given.{FixpointsKeepSorts, GivesValues}
use Rattle.vf_fixpoint_laws.specs.values.Worth.{Sets, Tests, passing}
use Rattle.vf_fixpoint_laws.specs.bodies.Bodies.{declared_at}
use Rattle.vf_fixpoint_laws.specs.bodies.Numbers.{with_numbers}
use Rattle.vf_fixpoint_laws.specs.bodies.Applied.{IsSettingKinded}
use Rattle.vf_fixpoint_laws.specs.bodies.Expressions.{ValuesFollow}
use Rattle.vf_fixpoint_laws.specs.identifiers.Accepted.{IsReadAndAccepted}

-- a unit is read from a file and accepted, no fixpoint among its items is refused, and an interpretation gives the definitions that the items have the values of the bodies
pub record IsReadWith (held : Holdings) (path : List ℕ) (f : Files) (paths : List (List ℕ)) (u : FileUnit) (s : Scope) (fs : List definitions.Fixpoint) (i : Interpretation) : Type 0 where
  pub read : IsReadAndAccepted held path f u s
  pub kept : first_fault u.items ≡ None
  pub have : HaveDefinitions (without_locals s) paths u.items fs
  pub meets : MeetsDefinitions i fs

-- the fixpoints of such a unit keep sorts, where those with results of integers give numbers
abbrev pub ReadKeepIn : Sets → Type 0
ReadKeepIn sets =
    (held : Holdings) (path : List ℕ) (f : Files) (paths : List (List ℕ)) (u : FileUnit) (s : Scope) (fs : List definitions.Fixpoint) (i : Interpretation) → IsReadWith held path f paths u s fs i → FixpointsKeepSorts (declared_at s paths) (with_numbers fs i) sets

-- the same for all sets that are told by tests
abbrev pub ReadFixpointsKeepSorts : Type 0
ReadFixpointsKeepSorts = (tests : Tests) → ReadKeepIn (passing tests)

-- and values follow sorting over it
abbrev pub ReadFollowIn : Sets → Type 0
ReadFollowIn sets =
    (held : Holdings) (path : List ℕ) (f : Files) (paths : List (List ℕ)) (u : FileUnit) (s : Scope) (fs : List definitions.Fixpoint) (i : Interpretation) → IsReadWith held path f paths u s fs i
    → (z : Setting) (v : Valuation) (g : Instance) → Covers (declared_at s paths) (file_level z) → IsSettingKinded fs z → GivesValues (declared_at s paths) z i v sets g → ValuesFollow (declared_at s paths) z i v sets g

-- the same for all sets that are told by tests
abbrev pub ReadValuesFollowSorting : Type 0
ReadValuesFollowSorting = (tests : Tests) → ReadFollowIn (passing tests)
