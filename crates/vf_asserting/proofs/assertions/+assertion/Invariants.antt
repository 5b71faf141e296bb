use Rattle.std.proofs.Common.{◌+◌, ◌*◌, drop, Result}
use Rattle.vf_base.specs.declared.refusal.RuleFault.{RuleFault}
use Rattle.vf_sorts.specs.Unknowns.{Known}
use Rattle.vf_declared.specs.declared.scope.Scope.{Scope}
use Rattle.vf_syntax.specs.AssertionTree.{assertion_case_list, assertion_case_nodes, assertion_case_nodes_all, part_list, part_nodes, part_nodes_all}
use Rattle.vf_asserting.specs.Answers.{AreCases, IsAssertion}
use Rattle.vf_asserting.proofs.assertions.+assertion.Given as goal

abbrev pub decreases-part_given : goal.decreases-part_given
decreases-part_given l = 4 * part_nodes l.part.now

abbrev pub decreases-grouped : goal.decreases-grouped
decreases-grouped l = 4 * part_nodes_all (part_list l.inner.now) + 1

abbrev pub decreases-chosen : goal.decreases-chosen
decreases-chosen l = 4 * (part_nodes_all (part_list l.yes.now) + part_nodes_all (part_list l.no.now)) + 2

abbrev pub decreases-branch_given : goal.decreases-branch_given
decreases-branch_given l = 4 * part_nodes_all (part_list l.assertion.now) + 1

abbrev pub decreases-switch_given : goal.decreases-switch_given
decreases-switch_given l = 4 * assertion_case_nodes_all (assertion_case_list l.cases.now) + 1

abbrev pub decreases-body_given : goal.decreases-body_given
decreases-body_given l = 4 * part_nodes_all (part_list l.body.now) + 1

abbrev pub decreases-case_given : goal.decreases-case_given
decreases-case_given l = 4 * assertion_case_nodes l.case.now

abbrev pub decreases-cases_given : goal.decreases-cases_given
decreases-cases_given l = 4 * assertion_case_nodes_all (assertion_case_list l.cases.now)

-- what is answered for the cases that are left is the answer for all
abbrev pub invariant-cases_given-loop-at : goal.invariant-cases_given-loop-at
invariant-cases_given-loop-at l = (r : Result (Unit {0}) RuleFault) (s : Scope) (k : Known) → AreCases l.fn.context l.scope l.fn.first l.fn.count l.unknowns (assertion_case_list (drop l.at l.fn.cases)) r s k → AreCases l.fn.context l.fn.scope l.fn.first l.fn.count l.fn.unknowns (assertion_case_list l.fn.cases) r s k

abbrev pub decreases-assertion_given : goal.decreases-assertion_given
decreases-assertion_given l = 4 * part_nodes_all (part_list l.assertion.now)

-- what is answered for the parts that are left is the answer for all
abbrev pub invariant-assertion_given-loop-at : goal.invariant-assertion_given-loop-at
invariant-assertion_given-loop-at l = (r : Result (Unit {0}) RuleFault) (s : Scope) (k : Known) → IsAssertion l.fn.context l.scope l.unknowns (part_list (drop l.at l.fn.assertion)) r s k → IsAssertion l.fn.context l.fn.scope l.fn.unknowns (part_list l.fn.assertion) r s k
