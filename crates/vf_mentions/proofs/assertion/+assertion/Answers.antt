use Rattle.std.proofs.Common.{refl, sym}
use Rattle.vf_syntax.specs.AssertionTree.{part_list, assertion_case_list}
use Rattle.vf_mentions.specs.GhostText.{mentioned_in_assertion_case, mentioned_in_assertion_cases, mentioned_in_part, mentioned_in_parts}
use Rattle.vf_mentions.proofs.Loops.{one_more}
use Rattle.vf_mentions.proofs.assertion.+assertion.Goals as goal

pub find_in_assertion-loop-at-preserved : goal.find_in_assertion-loop-at-preserved
find_in_assertion-loop-at-preserved t c = one_more (mentioned_in_part c.args.locals.now) (λ xs. mentioned_in_parts c.args.locals.now (part_list xs)) (λ x xs. refl) c.args.assertion.now c.loop-at.at _ _ _ _ (sym c.in-Some.ensures) c.in_ok-find_in_part.ensures c.loop-at.invariant

pub find_in_assertion_cases-loop-at-preserved : goal.find_in_assertion_cases-loop-at-preserved
find_in_assertion_cases-loop-at-preserved t c = one_more (mentioned_in_assertion_case c.args.locals.now) (λ xs. mentioned_in_assertion_cases c.args.locals.now (assertion_case_list xs)) (λ x xs. refl) c.args.cases.now c.loop-at.at _ _ _ _ (sym c.in-Some.ensures) c.in_ok-find_in_assertion_case.ensures c.loop-at.invariant
