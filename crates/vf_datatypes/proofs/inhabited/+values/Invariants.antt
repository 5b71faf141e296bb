use Rattle.std.proofs.Common.{◌≡◌, ◌+◌, ◌*◌, ◌++◌, drop}
use Rattle.std.specs.List.{list_all, list_any}
use Rattle.vf_sorts.specs.Sorts.{row}
use Rattle.vf_declared.specs.Scopes.{ghost_of}
use Rattle.vf_datatypes.specs.Inhabited.{can_build, earlier, has_value, have_values}
use Rattle.vf_datatypes.proofs.inhabited.+values.Given as goal

abbrev pub decreases-has_value : goal.decreases-has_value
decreases-has_value l = 5 * l.levels

abbrev pub decreases-can_build : goal.decreases-can_build
decreases-can_build l = 5 * l.levels + 1

abbrev pub decreases-one_builds : goal.decreases-one_builds
decreases-one_builds l = 5 * l.levels + 2

abbrev pub decreases-earlier : goal.decreases-earlier
decreases-earlier l = 5 * l.levels + 3

abbrev pub decreases-have_values : goal.decreases-have_values
decreases-have_values l = 5 * l.levels + 4

-- those that are told and those that are left come to all
abbrev pub invariant-have_values-loop-at : goal.invariant-have_values-loop-at
invariant-have_values-loop-at l = have_values (earlier l.fn.depth l.fn.scope) l.fn.own l.fn.told (row l.fn.sorts) ≡ l.all ++ have_values (earlier l.fn.depth l.fn.scope) l.fn.own l.fn.told (row (drop l.at l.fn.sorts))

-- those that are left tell what all of them tell
abbrev pub invariant-one_builds-loop-at : goal.invariant-one_builds-loop-at
invariant-one_builds-loop-at l = list_any (λ c. can_build (earlier l.fn.depth l.fn.scope) l.fn.number l.fn.told (ghost_of l.fn.scope c)) (drop l.at l.datatype.constructors) ≡ list_any (λ c. can_build (earlier l.fn.depth l.fn.scope) l.fn.number l.fn.told (ghost_of l.fn.scope c)) l.datatype.constructors

abbrev pub invariant-can_build-loop-at : goal.invariant-can_build-loop-at
invariant-can_build-loop-at l = list_all (has_value (earlier l.fn.depth l.fn.scope) l.fn.own l.fn.told) (drop l.at l.constructor.arguments) ≡ list_all (has_value (earlier l.fn.depth l.fn.scope) l.fn.own l.fn.told) l.constructor.arguments
