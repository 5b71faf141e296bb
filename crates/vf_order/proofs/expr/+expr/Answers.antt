use Rattle.std.proofs.Common.{sym, ap, ◌∙◌}
use Rattle.vf_syntax.specs.ExprTree.{link_list, postfix_list}
use Rattle.vf_syntax.specs.ExprShown.{expr_of}
use Rattle.vf_order.proofs.Sums.{postfix_is, chain_is, conditional_is}
use Rattle.vf_order.proofs.Loops.{all_more, links_more, parts_more}
use Rattle.vf_order.proofs.expr.+expr.Goals as goal

pub look-returns-in-Postfix : goal.look-returns-in-Postfix
look-returns-in-Postfix t c =
    let whole = sym c.expr.view_is ∙ ap (expr_of c.expr.inside.place) c.in-Postfix.is in
    postfix_is c.args.expr.now c.in-Postfix.start.value c.deref-in-Postfix.result.now c.expr.inside.place (postfix_list c.in-Postfix.parts) c.look-pointer.result c.look_at_parts.result whole c.deref-in-Postfix.ensures c.look-pointer.ensures c.look_at_parts.ensures

pub look-returns-in-Chain : goal.look-returns-in-Chain
look-returns-in-Chain t c =
    let whole = sym c.expr.view_is ∙ ap (expr_of c.expr.inside.place) c.in-Chain.is in
    chain_is c.args.expr.now c.in-Chain.start.value c.deref-in-Chain.result.now c.expr.inside.place c.in-Chain.field-0 (link_list c.in-Chain.links) c.look-operand.result c.look_at_links.result whole c.deref-in-Chain.ensures c.look-operand.ensures c.look_at_links.ensures

pub look-returns-in-Conditional : goal.look-returns-in-Conditional
look-returns-in-Conditional t c =
    let whole = sym c.expr.view_is ∙ ap (expr_of c.expr.inside.place) c.in-Conditional.is in
    conditional_is c.args.expr.now c.in-Conditional.test.value c.in-Conditional.yes.value c.in-Conditional.no.value c.deref-in-Conditional.result.now c.deref-in-Conditional-2.result.now c.deref-in-Conditional-3.result.now c.expr.inside.place c.look-tested.result c.look-taken.result c.look-other.result c.behind-rest.result c.behind.result whole c.deref-in-Conditional.ensures c.deref-in-Conditional-2.ensures c.deref-in-Conditional-3.ensures c.look-tested.ensures c.look-taken.ensures c.look-other.ensures c.behind-rest.ensures c.behind.ensures

pub look_at_arguments-loop-at-preserved : goal.look_at_arguments-loop-at-preserved
look_at_arguments-loop-at-preserved t c = all_more c.args.arguments.now c.loop-at.at _ _ _ _ _ (sym c.in-Some.ensures) c.look-held.ensures c.beside-kept.ensures c.loop-at.invariant

pub look_at_links-loop-at-preserved : goal.look_at_links-loop-at-preserved
look_at_links-loop-at-preserved t c = links_more c.args.links.now c.loop-at.at _ _ _ _ (sym c.in-Some.ensures) c.look_at_link-kept.ensures c.loop-at.invariant

pub look_at_parts-loop-at-preserved : goal.look_at_parts-loop-at-preserved
look_at_parts-loop-at-preserved t c = parts_more _ c.args.parts.now c.loop-at.at _ c.loop-at.kept _ _ _ (sym c.in-Some.ensures) c.look_at_operands-operands.ensures c.with_operands-kept.ensures c.loop-at.invariant
