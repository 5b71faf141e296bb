use Rattle.std.proofs.Common.{◌≡◌, ◌++◌, drop}
use Rattle.vf_syntax.specs.AssertionTree.{part_nodes, part_nodes_all, part_list, assertion_case_nodes, assertion_case_nodes_all, assertion_case_list}
use Rattle.vf_mentions.specs.GhostText.{mentioned_in_parts, mentioned_in_assertion_cases}
use Rattle.vf_mentions.proofs.assertion.+assertion.Given as goal

abbrev pub decreases-find_in_part : goal.decreases-find_in_part
decreases-find_in_part l = part_nodes l.part.now

abbrev pub decreases-find_in_assertion : goal.decreases-find_in_assertion
decreases-find_in_assertion l = part_nodes_all (part_list l.assertion.now)

-- what was found and what the parts mention that are left
abbrev pub invariant-find_in_assertion-loop-at : goal.invariant-find_in_assertion-loop-at
invariant-find_in_assertion-loop-at l = l.found ++ mentioned_in_parts l.fn.locals (part_list (drop l.at l.fn.assertion)) ≡ l.initial.found ++ mentioned_in_parts l.fn.locals (part_list l.fn.assertion)

abbrev pub decreases-find_in_assertion_case : goal.decreases-find_in_assertion_case
decreases-find_in_assertion_case l = assertion_case_nodes l.case.now

abbrev pub decreases-find_in_assertion_cases : goal.decreases-find_in_assertion_cases
decreases-find_in_assertion_cases l = assertion_case_nodes_all (assertion_case_list l.cases.now)

-- the same of cases
abbrev pub invariant-find_in_assertion_cases-loop-at : goal.invariant-find_in_assertion_cases-loop-at
invariant-find_in_assertion_cases-loop-at l = l.found ++ mentioned_in_assertion_cases l.fn.locals (assertion_case_list (drop l.at l.fn.cases)) ≡ l.initial.found ++ mentioned_in_assertion_cases l.fn.locals (assertion_case_list l.fn.cases)
