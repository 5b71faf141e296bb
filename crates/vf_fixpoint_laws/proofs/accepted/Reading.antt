-- Units that are read from files are accepted with names in which no `#` stands.
use Rattle.std.specs.Prelude.{ℕ, List}
use Rattle.vf_meaning.specs.GhostValues.{Interpretation}
use Rattle.vf_snapshot.specs.Holdings.{Holdings}
use Rattle.vf_syntax.specs.declared.item.Unit.{Unit as FileUnit}
use Rattle.vf_declared.specs.declared.scope.Scope.{Scope}
use Rattle.vf_resolve.specs.declared.files.Files.{Files}
use Rattle.vf_definitions.specs.declared.fixpoint.Fixpoint as definitions
use Rattle.vf_fixpoint_laws.specs.values.Worth.{passing}
use Rattle.vf_fixpoint_laws.proofs.identifiers.Unmarked.{expanded_unmarked}
use Rattle.vf_fixpoint_laws.specs.accepted.Accepted.{IsAcceptedWith}
use Rattle.vf_fixpoint_laws.specs.accepted.Reading.{IsReadWith, ReadFixpointsKeepSorts, ReadValuesFollowSorting}
use Rattle.vf_fixpoint_laws.proofs.accepted.Accepted.{accepted_follow_in, accepted_keep_in}

-- what is read and accepted with an interpretation is accepted with it
accepted_with : (held : Holdings) (path : List ℕ) (f : Files) (paths : List (List ℕ)) (u : FileUnit) (s : Scope) (fs : List definitions.Fixpoint) (i : Interpretation) → IsReadWith held path f paths u s fs i → IsAcceptedWith f paths u.items s fs i
accepted_with held path f paths u s fs i r = record { come = r.read.come; unmarked = expanded_unmarked held path r.read.tokens r.read.limit u r.read.expanded r.read.spelled; kept = r.kept; have = r.have; meets = r.meets }

pub read_fixpoints_keep_sorts : ReadFixpointsKeepSorts
read_fixpoints_keep_sorts tests held path f paths u s fs i r = accepted_keep_in (passing tests) f paths u.items s fs i (accepted_with held path f paths u s fs i r)

pub read_values_follow_sorting : ReadValuesFollowSorting
read_values_follow_sorting tests held path f paths u s fs i r z v g covers kinded gives = accepted_follow_in (passing tests) f paths u.items s fs i (accepted_with held path f paths u s fs i r) z v g covers kinded gives
