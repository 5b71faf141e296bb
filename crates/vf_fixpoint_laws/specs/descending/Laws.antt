-- The fixpoints of an accepted unit go down, and their bodies have a case for each constructor.
use Rattle.std.specs.Prelude.{◌≡◌, ℕ, List, None, Ok}
use Rattle.vf_syntax.specs.declared.item.Item.{Item}
use Rattle.vf_declared.specs.declared.scope.Scope.{Scope}
use Rattle.vf_resolve.specs.declared.files.Files.{Files}
use Rattle.vf_resolve.specs.Beginning.{beginning}
use Rattle.vf_resolve.specs.Units.{ItemsCome}
use Rattle.vf_recursion.specs.Faults.{first_fault}
use Rattle.vf_definitions.specs.declared.fixpoint.Fixpoint as definitions
use Rattle.vf_defining.specs.Symbols.{without_locals}
use Rattle.vf_defining.specs.Units.{HaveDefinitions}
use Rattle.vf_fixpoint_laws.specs.bodies.Bodies.{declared_at}
use Rattle.vf_fixpoint_laws.specs.bodies.Units.{GoDown, HaveEachCase}
use Rattle.vf_fixpoint_laws.specs.well_declared.Names.{AreUnmarked}
use Rattle.vf_fixpoint_laws.specs.descending.Ranks.{HavePlainNames, ranks_of}

-- the items of a unit are accepted: they come to what they declare, in whose names no `#` stands, no fixpoint among them is refused, and they have these definitions
pub record IsAccepted (f : Files) (paths : List (List ℕ)) (xs : List Item) (s : Scope) (fs : List definitions.Fixpoint) : Type 0 where
  pub come : ItemsCome xs (beginning f xs) (Ok s)
  pub plain : HavePlainNames s
  pub kept : first_fault xs ≡ None
  pub have : HaveDefinitions (without_locals s) paths xs fs

-- the fixpoints of an accepted unit go down in the order in which they are declared
abbrev pub AcceptedFixpointsGoDown : Type 0
AcceptedFixpointsGoDown = (f : Files) (paths : List (List ℕ)) (xs : List Item) (s : Scope) (fs : List definitions.Fixpoint) → IsAccepted f paths xs s fs → GoDown (ranks_of s) fs

-- their bodies have a case for each constructor
abbrev pub AcceptedFixpointsHaveEachCase : Type 0
AcceptedFixpointsHaveEachCase = (f : Files) (paths : List (List ℕ)) (xs : List Item) (s : Scope) (fs : List definitions.Fixpoint) → IsAccepted f paths xs s fs → HaveEachCase (declared_at s paths) fs

-- no `#` stands in the names that a unit declares, where none stands in those that its items declare
abbrev pub UnmarkedItemsHavePlainNames : Type 0
UnmarkedItemsHavePlainNames = (f : Files) (xs : List Item) (s : Scope) → ItemsCome xs (beginning f xs) (Ok s) → AreUnmarked xs → HavePlainNames s
