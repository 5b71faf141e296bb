-- Nothing is asked of the names of units that are read from files and accepted.
use Rattle.std.proofs.Common.{ℕ, List}
use Rattle.vf_snapshot.specs.Holdings.{Holdings}
use Rattle.vf_syntax.specs.declared.item.Unit.{Unit as FileUnit}
use Rattle.vf_declared.specs.declared.scope.Scope.{Scope}
use Rattle.vf_resolve.specs.declared.files.Files.{Files}
use Rattle.vf_fixpoint_laws.specs.well_declared.Names.{AreUnmarked}
use Rattle.vf_fixpoint_laws.proofs.well_declared.Laws.{accepted_units_are_well_declared}
use Rattle.vf_fixpoint_laws.proofs.descending.Unmarked.{unmarked_items_have_plain_names}
use Rattle.vf_fixpoint_laws.specs.identifiers.Accepted.{IsReadAndAccepted, ReadUnitsAreWellDeclared, ReadUnitsHavePlainNames}
use Rattle.vf_fixpoint_laws.proofs.identifiers.Unmarked.{expanded_unmarked}

unmarked : (held : Holdings) (path : List ℕ) (f : Files) (u : FileUnit) (s : Scope) → IsReadAndAccepted held path f u s → AreUnmarked u.items
unmarked held path f u s h = expanded_unmarked held path h.tokens h.limit u h.expanded h.spelled

pub well_declared : ReadUnitsAreWellDeclared
well_declared held path f u s paths h = accepted_units_are_well_declared f u.items s paths h.come (unmarked held path f u s h)

pub plain_names : ReadUnitsHavePlainNames
plain_names held path f u s h = unmarked_items_have_plain_names f u.items s h.come (unmarked held path f u s h)
