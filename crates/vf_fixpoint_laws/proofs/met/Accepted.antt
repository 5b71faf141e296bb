-- The definitions of accepted units are met in an interpretation.
use Rattle.std.specs.Prelude.{ℕ, List}
use Rattle.vf_syntax.specs.declared.item.Item.{Item}
use Rattle.vf_declared.specs.declared.scope.Scope.{Scope}
use Rattle.vf_resolve.specs.declared.files.Files.{Files}
use Rattle.vf_definitions.specs.declared.fixpoint.Fixpoint as definitions
use Rattle.vf_defining.specs.Symbols.{without_locals}
use Rattle.vf_fixpoint_laws.specs.bodies.Numbers.{with_numbers}
use Rattle.vf_fixpoint_laws.specs.bodies.Units.{GoDown}
use Rattle.vf_fixpoint_laws.proofs.bodies.Defined.{definitions_are_kinded}
use Rattle.vf_fixpoint_laws.proofs.bodies.Numbers.{numbers_meet_definitions}
use Rattle.vf_fixpoint_laws.proofs.well_declared.Laws.{accepted_units_are_well_declared}
use Rattle.vf_fixpoint_laws.specs.descending.Ranks.{ranks_of}
use Rattle.vf_fixpoint_laws.proofs.descending.Units.{accepted_fixpoints_go_down}
use Rattle.vf_fixpoint_laws.proofs.descending.Unmarked.{unmarked_items_have_plain_names}
use Rattle.vf_fixpoint_laws.proofs.accepted.Accepted.{accepted_fixpoints_keep_sorts}
use Rattle.vf_fixpoint_laws.proofs.identifiers.Unmarked.{expanded_unmarked}
use Rattle.vf_fixpoint_laws.specs.met.Units.{AcceptedUnitsAreMet, AcceptedUnitsAreMetInSorts, IsAcceptedUnit, ReadUnitsAreMet}
use Rattle.vf_fixpoint_laws.proofs.met.Agreement.{accepted_definitions_agree}
use Rattle.vf_fixpoint_laws.proofs.met.Meeting.{definitions_are_met}

-- applications go down in the order in which fixpoints are declared
goes_down : (f : Files) (paths : List (List ℕ)) (xs : List Item) (s : Scope) (fs : List definitions.Fixpoint) → IsAcceptedUnit f paths xs s fs → GoDown (ranks_of s) fs
goes_down f paths xs s fs a = accepted_fixpoints_go_down f paths xs s fs (record { come = a.come; plain = unmarked_items_have_plain_names f xs s a.come a.unmarked; kept = a.kept; have = a.have })

pub accepted_units_are_met : AcceptedUnitsAreMet
accepted_units_are_met f paths xs s fs a claims = definitions_are_met claims fs (ranks_of s) (goes_down f paths xs s fs a) (accepted_definitions_agree f paths xs s fs a)

-- with numbers for fixpoints whose results are integers these keep sorts, and the definitions are met still
pub accepted_units_are_met_in_sorts : AcceptedUnitsAreMetInSorts
accepted_units_are_met_in_sorts f paths xs s fs a claims =
    let m = accepted_units_are_met f paths xs s fs a claims in
    let well = accepted_units_are_well_declared f xs s paths a.come a.unmarked in (
      with_numbers fs m.0,
      m.1,
      numbers_meet_definitions fs m.0 (definitions_are_kinded (without_locals s) paths xs fs a.have well).1 m.2,
      λ tests. accepted_fixpoints_keep_sorts tests f paths xs s fs m.0 (record { come = a.come; unmarked = a.unmarked; kept = a.kept; have = a.have; meets = m.2 }),
    )

pub read_units_are_met : ReadUnitsAreMet
read_units_are_met held path f u s h kept paths fs have claims =
    accepted_units_are_met_in_sorts f paths u.items s fs (record { come = h.come; unmarked = expanded_unmarked held path h.tokens h.limit u h.expanded h.spelled; kept = kept; have = have }) claims
