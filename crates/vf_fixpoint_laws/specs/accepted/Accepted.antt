-- Accepted units, and interpretations that give their fixpoints the values of the bodies.
use Rattle.std.specs.Prelude.{◌≡◌, ℕ, List, None, Ok}
use Rattle.vf_meaning.specs.Valuations.{Valuation}
use Rattle.vf_meaning.specs.GhostValues.{Interpretation}
use Rattle.vf_syntax.specs.declared.item.Item.{Item}
use Rattle.vf_declared.specs.declared.scope.Scope.{Scope}
use Rattle.vf_terms.specs.Settings.{Setting}
use Rattle.vf_resolve.specs.declared.files.Files.{Files}
use Rattle.vf_resolve.specs.Beginning.{beginning}
use Rattle.vf_resolve.specs.Units.{ItemsCome}
use Rattle.vf_recursion.specs.Faults.{first_fault}
use Rattle.vf_definitions.specs.Laws.{MeetsDefinitions}
use Rattle.vf_definitions.specs.declared.fixpoint.Fixpoint as definitions
use Rattle.vf_defining.specs.Symbols.{without_locals}
use Rattle.vf_defining.specs.Units.{HaveDefinitions}
use Rattle.vf_fixpoint_laws.specs.values.Instances.{Instance}
use Rattle.vf_fixpoint_laws.specs.values.Declares.{Covers, file_level}
use Rattle.vf_fixpoint_laws.specs.values.Given.{FixpointsKeepSorts, GivesValues}
use Rattle.vf_fixpoint_laws.specs.values.Worth.{Sets, Tests, passing}
use Rattle.vf_fixpoint_laws.specs.bodies.Bodies.{declared_at}
use Rattle.vf_fixpoint_laws.specs.bodies.Numbers.{with_numbers}
use Rattle.vf_fixpoint_laws.specs.bodies.Applied.{IsSettingKinded}
use Rattle.vf_fixpoint_laws.specs.bodies.Expressions.{DefinesUnit, ValuesFollow}
use Rattle.vf_fixpoint_laws.specs.well_declared.Names.{AreUnmarked}

-- the items of a unit are accepted, in whose names no `#` stands, and an interpretation gives their definitions the values of the bodies: the items come to what they declare, no fixpoint among them is refused, and they have these definitions
pub record IsAcceptedWith (f : Files) (paths : List (List ℕ)) (xs : List Item) (s : Scope) (fs : List definitions.Fixpoint) (i : Interpretation) : Type 0 where
  pub come : ItemsCome xs (beginning f xs) (Ok s)
  pub unmarked : AreUnmarked xs
  pub kept : first_fault xs ≡ None
  pub have : HaveDefinitions (without_locals s) paths xs fs
  pub meets : MeetsDefinitions i fs

-- an accepted unit meets all that is asked of units for its fixpoints to keep sorts
abbrev pub AcceptedUnitsDefine : Type 0
AcceptedUnitsDefine = (f : Files) (paths : List (List ℕ)) (xs : List Item) (s : Scope) (fs : List definitions.Fixpoint) (i : Interpretation) → IsAcceptedWith f paths xs s fs i → DefinesUnit (without_locals s) paths xs fs i

-- so its fixpoints keep sorts, where those with results of integers give numbers
abbrev pub AcceptedKeepIn : Sets → Type 0
AcceptedKeepIn sets =
    (f : Files) (paths : List (List ℕ)) (xs : List Item) (s : Scope) (fs : List definitions.Fixpoint) (i : Interpretation) → IsAcceptedWith f paths xs s fs i → FixpointsKeepSorts (declared_at s paths) (with_numbers fs i) sets

-- the same for all sets that are told by tests
abbrev pub AcceptedFixpointsKeepSorts : Type 0
AcceptedFixpointsKeepSorts = (tests : Tests) → AcceptedKeepIn (passing tests)

-- and where it covers what a setting declares at file level, and the terms that stand in the setting have values of their sorts, and apply fixpoints with results of integers as such, values follow sorting
abbrev pub AcceptedFollowIn : Sets → Type 0
AcceptedFollowIn sets =
    (f : Files) (paths : List (List ℕ)) (xs : List Item) (s : Scope) (fs : List definitions.Fixpoint) (i : Interpretation) → IsAcceptedWith f paths xs s fs i
    → (z : Setting) (v : Valuation) (g : Instance) → Covers (declared_at s paths) (file_level z) → IsSettingKinded fs z → GivesValues (declared_at s paths) z i v sets g → ValuesFollow (declared_at s paths) z i v sets g

-- the same for all sets that are told by tests
abbrev pub AcceptedValuesFollowSorting : Type 0
AcceptedValuesFollowSorting = (tests : Tests) → AcceptedFollowIn (passing tests)
