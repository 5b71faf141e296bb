use Rattle.std.proofs.Common.{refl, sym}
use Rattle.vf_syntax.specs.GhostExprTree.{ghost_expr_list, ghost_link_list}
use Rattle.vf_mentions.specs.GhostText.{mentioned_in_ghost_arguments, mentioned_in_ghost_expr, mentioned_in_ghost_link, mentioned_in_ghost_links}
use Rattle.vf_mentions.proofs.Loops.{one_more}
use Rattle.vf_mentions.proofs.ghost_expr.+ghost_expr.Goals as goal

pub find_in_ghost_arguments-loop-at-preserved : goal.find_in_ghost_arguments-loop-at-preserved
find_in_ghost_arguments-loop-at-preserved t c = one_more (mentioned_in_ghost_expr c.args.locals.now) (λ xs. mentioned_in_ghost_arguments c.args.locals.now (ghost_expr_list xs)) (λ x xs. refl) c.args.arguments.now c.loop-at.at _ _ _ _ (sym c.in-Some.ensures) c.in_ok-find_in_ghost_expr.ensures c.loop-at.invariant

pub find_in_ghost_links-loop-at-preserved : goal.find_in_ghost_links-loop-at-preserved
find_in_ghost_links-loop-at-preserved t c = one_more (mentioned_in_ghost_link c.args.locals.now) (λ xs. mentioned_in_ghost_links c.args.locals.now (ghost_link_list xs)) (λ x xs. refl) c.args.links.now c.loop-at.at _ _ _ _ (sym c.in-Some.ensures) c.in_ok-find_in_ghost_link.ensures c.loop-at.invariant
