-- Accepted units meet all that is asked of units, so their fixpoints keep sorts.
use Rattle.std.specs.Prelude.{ℕ, List}
use Rattle.vf_meaning.specs.GhostValues.{Interpretation}
use Rattle.vf_syntax.specs.declared.item.Item.{Item}
use Rattle.vf_declared.specs.declared.scope.Scope.{Scope}
use Rattle.vf_resolve.specs.declared.files.Files.{Files}
use Rattle.vf_definitions.specs.declared.fixpoint.Fixpoint as definitions
use Rattle.vf_defining.specs.Symbols.{without_locals}
use Rattle.vf_fixpoint_laws.specs.values.Worth.{Sets, passing}
use Rattle.vf_fixpoint_laws.proofs.bodies.Defined.{defined_keep_in}
use Rattle.vf_fixpoint_laws.proofs.bodies.Expressions.{values_follow_in}
use Rattle.vf_fixpoint_laws.proofs.well_declared.Laws.{accepted_fixpoints_are_written, accepted_units_are_well_declared}
use Rattle.vf_fixpoint_laws.proofs.well_declared.UpTo.{accepted_units_are_covered}
use Rattle.vf_fixpoint_laws.specs.descending.Laws.{IsAccepted}
use Rattle.vf_fixpoint_laws.specs.descending.Ranks.{ranks_of}
use Rattle.vf_fixpoint_laws.proofs.descending.Units.{accepted_fixpoints_go_down, accepted_fixpoints_have_each_case}
use Rattle.vf_fixpoint_laws.proofs.descending.Unmarked.{unmarked_items_have_plain_names}
use Rattle.vf_fixpoint_laws.specs.accepted.Accepted.{AcceptedFixpointsKeepSorts, AcceptedFollowIn, AcceptedKeepIn, AcceptedUnitsDefine, AcceptedValuesFollowSorting, IsAcceptedWith}

-- what is accepted with an interpretation is accepted
is_accepted : (f : Files) (paths : List (List ℕ)) (xs : List Item) (s : Scope) (fs : List definitions.Fixpoint) (i : Interpretation) → IsAcceptedWith f paths xs s fs i → IsAccepted f paths xs s fs
is_accepted f paths xs s fs i a = record { come = a.come; plain = unmarked_items_have_plain_names f xs s a.come a.unmarked; kept = a.kept; have = a.have }

-- what is written and covered by what is declared is so without locals, since both are told at file level
pub accepted_units_define : AcceptedUnitsDefine
accepted_units_define f paths xs s fs i a = record {
  have = a.have;
  meets = a.meets;
  well = accepted_units_are_well_declared f xs s paths a.come a.unmarked;
  written = λ c x d.
      let w = accepted_fixpoints_are_written f xs s paths a.come c x d in
      record { item = w.item; among = w.among; written = w.written; is = w.is; identity = w.identity; number = w.number; numbered = record { means = w.numbered.means; is = w.numbered.is }; known_result = w.known_result; known_arguments = w.known_arguments; long = w.long };
  covered = accepted_units_are_covered f xs s paths a.come;
  cases = accepted_fixpoints_have_each_case f paths xs s fs (is_accepted f paths xs s fs i a);
  ranks = ranks_of s;
  down = accepted_fixpoints_go_down f paths xs s fs (is_accepted f paths xs s fs i a);
}

pub accepted_keep_in : (sets : Sets) → AcceptedKeepIn sets
accepted_keep_in sets f paths xs s fs i a =
    let u = accepted_units_define f paths xs s fs i a in
    defined_keep_in sets (without_locals s) paths xs fs i u.ranks u.have u.meets u.well u.written u.covered u.cases u.down

pub accepted_fixpoints_keep_sorts : AcceptedFixpointsKeepSorts
accepted_fixpoints_keep_sorts tests = accepted_keep_in (passing tests)

pub accepted_follow_in : (sets : Sets) → AcceptedFollowIn sets
accepted_follow_in sets f paths xs s fs i a z v g covers kinded gives = values_follow_in sets (without_locals s) paths xs fs i (accepted_units_define f paths xs s fs i a) z v g covers kinded gives

pub accepted_values_follow_sorting : AcceptedValuesFollowSorting
accepted_values_follow_sorting tests = accepted_follow_in (passing tests)
