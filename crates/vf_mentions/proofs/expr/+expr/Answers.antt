use Rattle.std.proofs.Common.{refl, sym}
use Rattle.vf_syntax.specs.ExprTree.{expr_list, link_list, postfix_list}
use Rattle.vf_mentions.specs.RealText.{mentioned_in_arguments, mentioned_in_expr, mentioned_in_link, mentioned_in_links, mentioned_in_postfix, mentioned_in_postfixes}
use Rattle.vf_mentions.proofs.Loops.{one_more}
use Rattle.vf_mentions.proofs.expr.+expr.Goals as goal

pub find_in_arguments-loop-at-preserved : goal.find_in_arguments-loop-at-preserved
find_in_arguments-loop-at-preserved t c = one_more (mentioned_in_expr c.args.locals.now) (λ xs. mentioned_in_arguments c.args.locals.now (expr_list xs)) (λ x xs. refl) c.args.arguments.now c.loop-at.at _ _ _ _ (sym c.in-Some.ensures) c.in_ok-find_in_expr.ensures c.loop-at.invariant

pub find_in_links-loop-at-preserved : goal.find_in_links-loop-at-preserved
find_in_links-loop-at-preserved t c = one_more (mentioned_in_link c.args.locals.now) (λ xs. mentioned_in_links c.args.locals.now (link_list xs)) (λ x xs. refl) c.args.links.now c.loop-at.at _ _ _ _ (sym c.in-Some.ensures) c.in_ok-find_in_link.ensures c.loop-at.invariant

pub find_in_postfixes-loop-at-preserved : goal.find_in_postfixes-loop-at-preserved
find_in_postfixes-loop-at-preserved t c = one_more (mentioned_in_postfix c.args.locals.now) (λ xs. mentioned_in_postfixes c.args.locals.now (postfix_list xs)) (λ x xs. refl) c.args.parts.now c.loop-at.at _ _ _ _ (sym c.in-Some.ensures) c.in_ok-find_in_postfix.ensures c.loop-at.invariant
