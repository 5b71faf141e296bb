-- The fixpoints of an accepted unit stand in the order of their declaration, so right answers of it entail wherever it is linked.
use Rattle.std.specs.Prelude.{ℕ, List, [], length}
use Rattle.std.proofs.Common.{sym, subst}
use Rattle.vf_meaning.specs.Structural.{AreOrdered}
use Rattle.vf_syntax.specs.declared.item.Item.{Item}
use Rattle.vf_declared.specs.declared.scope.Scope.{Scope}
use Rattle.vf_resolve.specs.declared.files.Files.{Files}
use Rattle.vf_resolve.specs.Beginning.{beginning}
use Rattle.vf_definitions.specs.declared.fixpoint.Fixpoint as definitions
use Rattle.vf_defining.specs.Symbols.{without_locals}
use Rattle.vf_entailment.specs.Trees.{AreAmong}
use Rattle.vf_view_laws.proofs.Order.{declared_fixpoints_are_ordered, definitions_are_among, units_answers_entail}
use Rattle.vf_fixpoint_laws.specs.descending.Ranks.{HavePlainNames}
use Rattle.vf_fixpoint_laws.specs.met.Units.{IsAcceptedUnit}
use Rattle.vf_fixpoint_laws.proofs.descending.Going.{AreAsMany as HaveAsMany}
use Rattle.vf_fixpoint_laws.proofs.descending.Items.{unit_stands}
use Rattle.vf_fixpoint_laws.proofs.descending.Levels.{level}
use Rattle.vf_fixpoint_laws.proofs.descending.Spelled.{spelled_counted}
use Rattle.vf_fixpoint_laws.proofs.descending.Unmarked.{unmarked_items_have_plain_names}
use Rattle.vf_fixpoint_laws.proofs.identifiers.Unmarked.{expanded_unmarked}
use Rattle.vf_fixpoint_laws.proofs.well_declared.Laws.{accepted_fixpoints_are_written}
use Rattle.vf_unit_laws.specs.Fixpoints.{AreAsMany, Signatures, written_for}
use Rattle.vf_unit_laws.specs.Laws.{AcceptedDefinitionsAreTheirs, AcceptedFixpointsStandInOrder, AcceptedUnitsAnswersEntail, ReadUnitsAnswersEntail, ReadUnitsAreAccepted, UnitsDefinitionsAreAmong}
use Rattle.vf_unit_laws.proofs.Ascending.{unit_ascends}
use Rattle.vf_unit_laws.proofs.Listed.{AreListed}
use Rattle.vf_unit_laws.proofs.Units.{at_first, items_listed}

module _ (f : Files) (paths : List (List ℕ)) (xs : List Item) (s : Scope) (fs : List definitions.Fixpoint) (a : IsAcceptedUnit f paths xs s fs) where
  plain : HavePlainNames s
  plain = unmarked_items_have_plain_names f xs s a.come a.unmarked

  -- fixpoints have as many parameters as they are declared with arguments
  as_many : HaveAsMany (without_locals s) xs
  as_many x w n g among is numbered = spelled_counted (level s) w.parameters g.arguments ((unit_stands f xs s a.come).heads x among w is n g numbered)

  listed : (g : Signatures) → AreAsMany g fs → AreListed [] (written_for g fs) fs
  listed g many =
      items_listed s plain paths xs (accepted_fixpoints_are_written f xs s paths a.come) as_many a.kept g xs fs a.have [] (length (beginning f xs).names) (unit_ascends f xs s a.come)
      (at_first s plain paths xs (accepted_fixpoints_are_written f xs s paths a.come) as_many a.kept (length (beginning f xs).names)) many

pub accepted_fixpoints_stand_in_order : AcceptedFixpointsStandInOrder
accepted_fixpoints_stand_in_order f paths xs s fs g a many = (listed f paths xs s fs a g many).ordered

pub accepted_definitions_are_theirs : AcceptedDefinitionsAreTheirs
accepted_definitions_are_theirs f paths xs s fs g a many = (listed f paths xs s fs a g many).theirs

pub units_definitions_are_among : UnitsDefinitionsAreAmong
units_definitions_are_among f paths xs s fs u a h =
    let l = listed f paths xs s fs a h.signatures h.many in (
      subst AreOrdered (sym h.is) (declared_fixpoints_are_ordered (written_for h.signatures fs) l.ordered),
      subst (λ ts. AreAmong ts fs) (sym h.is) (definitions_are_among (written_for h.signatures fs) fs l.theirs),
    )

pub accepted_units_answers_entail : AcceptedUnitsAnswersEntail
accepted_units_answers_entail f paths xs s a units u e accepted linked there h right proved =
    units_answers_entail units u e (written_for h.signatures a.definitions) a linked there h.is (accepted_definitions_are_theirs f paths xs s a.definitions h.signatures accepted h.many) right proved

pub read_units_are_accepted : ReadUnitsAreAccepted
read_units_are_accepted held path f paths u s fs h = record { come = h.passes.declares; unmarked = expanded_unmarked held path h.tokens h.limit u h.expanded h.spelled; kept = h.passes.fixpoints; have = h.have }

pub read_units_answers_entail : ReadUnitsAnswersEntail
read_units_answers_entail held path f paths read s a units u e h linked there fixpoints right proved =
    accepted_units_answers_entail f paths read.items s a units u e (read_units_are_accepted held path f paths read s a.definitions h) linked there fixpoints right proved
