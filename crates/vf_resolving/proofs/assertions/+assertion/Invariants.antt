use Rattle.std.proofs.Common.{◌≡◌, ◌+◌, ◌*◌, drop}
use Rattle.vf_syntax.specs.AssertionTree.{assertion_case_list, assertion_case_nodes, assertion_case_nodes_all, part_list, part_nodes, part_nodes_all}
use Rattle.vf_resolving.specs.Standings.{around_of, standing_of}
use Rattle.vf_resolving.specs.Assertions.{cases_resolved, parts_resolved}
use Rattle.vf_resolving.proofs.Lists.{put_branches, put_parts}
use Rattle.vf_resolving.proofs.assertions.+assertion.Given as goal

abbrev pub decreases-part_resolved : goal.decreases-part_resolved
decreases-part_resolved l = 4 * part_nodes l.part.now

abbrev pub decreases-group_resolved : goal.decreases-group_resolved
decreases-group_resolved l = 4 * part_nodes_all (part_list l.inner.now) + 1

abbrev pub decreases-conditional_resolved : goal.decreases-conditional_resolved
decreases-conditional_resolved l = 4 * (part_nodes_all (part_list l.yes.now) + part_nodes_all (part_list l.no.now)) + 2

abbrev pub decreases-branch_resolved : goal.decreases-branch_resolved
decreases-branch_resolved l = 4 * part_nodes_all (part_list l.assertion.now) + 1

abbrev pub decreases-switch_resolved : goal.decreases-switch_resolved
decreases-switch_resolved l = 4 * assertion_case_nodes_all (assertion_case_list l.cases.now) + 1

abbrev pub decreases-body_resolved : goal.decreases-body_resolved
decreases-body_resolved l = 4 * part_nodes_all (part_list l.body.now) + 1

abbrev pub decreases-case_resolved : goal.decreases-case_resolved
decreases-case_resolved l = 4 * assertion_case_nodes l.case.now

abbrev pub decreases-cases_resolved : goal.decreases-cases_resolved
decreases-cases_resolved l = 4 * assertion_case_nodes_all (assertion_case_list l.cases.now)

-- the branches that were resolved, with those that are left, are all
abbrev pub invariant-cases_resolved-loop-at : goal.invariant-cases_resolved-loop-at
invariant-cases_resolved-loop-at l =
    put_branches l.all (cases_resolved (around_of l.fn.around) l.fn.over (standing_of l.standing) (assertion_case_list (drop l.at l.fn.cases)))
    ≡ cases_resolved (around_of l.fn.around) l.fn.over (standing_of l.fn.standing) (assertion_case_list l.fn.cases)

abbrev pub decreases-assertion_resolved : goal.decreases-assertion_resolved
decreases-assertion_resolved l = 4 * part_nodes_all (part_list l.assertion.now)

-- the parts that were resolved, with those that are left, are all
abbrev pub invariant-assertion_resolved-loop-at : goal.invariant-assertion_resolved-loop-at
invariant-assertion_resolved-loop-at l =
    put_parts l.all (parts_resolved (around_of l.fn.around) (standing_of l.standing) (part_list (drop l.at l.fn.assertion)))
    ≡ parts_resolved (around_of l.fn.around) (standing_of l.fn.standing) (part_list l.fn.assertion)
