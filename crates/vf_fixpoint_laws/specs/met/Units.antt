-- The fixpoints of accepted units have values: an interpretation gives their definitions the values of their bodies.
use Rattle.std.specs.Prelude.{◌≡◌, ℕ, Bool, List, None, Ok}
use Rattle.vf_tree.specs.Core.{Identity}
use Rattle.vf_meaning.specs.GhostValues.{Interpretation}
use Rattle.vf_snapshot.specs.Holdings.{Holdings}
use Rattle.vf_syntax.specs.declared.item.Item.{Item}
use Rattle.vf_syntax.specs.declared.item.Unit.{Unit as FileUnit}
use Rattle.vf_declared.specs.declared.scope.Scope.{Scope}
use Rattle.vf_resolve.specs.declared.files.Files.{Files}
use Rattle.vf_resolve.specs.Beginning.{beginning}
use Rattle.vf_resolve.specs.Units.{ItemsCome}
use Rattle.vf_recursion.specs.Faults.{first_fault}
use Rattle.vf_definitions.specs.Laws.{MeetsDefinitions}
use Rattle.vf_definitions.specs.declared.fixpoint.Fixpoint as definitions
use Rattle.vf_defining.specs.Symbols.{without_locals}
use Rattle.vf_defining.specs.Units.{HaveDefinitions}
use Rattle.vf_fixpoint_laws.specs.values.Declares.{Declared}
use Rattle.vf_fixpoint_laws.specs.values.Given.{FixpointsKeepSorts}
use Rattle.vf_fixpoint_laws.specs.values.Worth.{Tests, passing}
use Rattle.vf_fixpoint_laws.specs.bodies.Bodies.{declared_at}
use Rattle.vf_fixpoint_laws.specs.well_declared.Names.{AreUnmarked}
use Rattle.vf_fixpoint_laws.specs.identifiers.Accepted.{IsReadAndAccepted}
use Rattle.vf_fixpoint_laws.specs.met.Laws.{AgreeByIdentity, AreMetWith}

-- the items of a unit are accepted, in whose names no `#` stands: they come to what they declare, no fixpoint among them is refused, and they have these definitions
pub record IsAcceptedUnit (f : Files) (paths : List (List ℕ)) (xs : List Item) (s : Scope) (fs : List definitions.Fixpoint) : Type 0 where
  pub come : ItemsCome xs (beginning f xs) (Ok s)
  pub unmarked : AreUnmarked xs
  pub kept : first_fault xs ≡ None
  pub have : HaveDefinitions (without_locals s) paths xs fs

-- the definitions of an accepted unit agree where they are of one identity
abbrev pub AcceptedDefinitionsAgree : Type 0
AcceptedDefinitionsAgree = (f : Files) (paths : List (List ℕ)) (xs : List Item) (s : Scope) (fs : List definitions.Fixpoint) → IsAcceptedUnit f paths xs s fs → AgreeByIdentity fs

-- so an interpretation, with any claims, gives them the values of their bodies
abbrev pub AcceptedUnitsAreMet : Type 0
AcceptedUnitsAreMet = (f : Files) (paths : List (List ℕ)) (xs : List Item) (s : Scope) (fs : List definitions.Fixpoint) → IsAcceptedUnit f paths xs s fs → (claims : Identity → Identity → Bool) → AreMetWith claims fs

-- an interpretation with some claims gives definitions the values of their bodies, and in it the fixpoints that are declared keep sorts
abbrev pub AreMetInSorts : Declared → (Identity → Identity → Bool) → List definitions.Fixpoint → Type 0
AreMetInSorts d claims fs = (i : Interpretation) × (i.claims ≡ claims) × MeetsDefinitions i fs × ((tests : Tests) → FixpointsKeepSorts d i (passing tests))

-- one does so of an accepted unit
abbrev pub AcceptedUnitsAreMetInSorts : Type 0
AcceptedUnitsAreMetInSorts = (f : Files) (paths : List (List ℕ)) (xs : List Item) (s : Scope) (fs : List definitions.Fixpoint) → IsAcceptedUnit f paths xs s fs → (claims : Identity → Identity → Bool) → AreMetInSorts (declared_at s paths) claims fs

-- the same of a unit that is read from a file and accepted, none of whose fixpoints is refused, whatever its names
abbrev pub ReadUnitsAreMet : Type 0
ReadUnitsAreMet =
    (held : Holdings) (path : List ℕ) (f : Files) (u : FileUnit) (s : Scope) → IsReadAndAccepted held path f u s → first_fault u.items ≡ None
    → (paths : List (List ℕ)) (fs : List definitions.Fixpoint) → HaveDefinitions (without_locals s) paths u.items fs → (claims : Identity → Identity → Bool) → AreMetInSorts (declared_at s paths) claims fs
