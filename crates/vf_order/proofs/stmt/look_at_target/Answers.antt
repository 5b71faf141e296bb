use Rattle.std.proofs.Common.{sym, ap, ◌∙◌}
use Rattle.vf_syntax.specs.ExprTree.{postfix_list}
use Rattle.vf_syntax.specs.ExprShown.{expr_of}
use Rattle.vf_order.proofs.Sums.{target_is}
use Rattle.vf_order.proofs.stmt.look_at_target.Goals as goal

pub returns-in-Postfix : goal.returns-in-Postfix
returns-in-Postfix c =
    let whole = sym c.left.view_is ∙ ap (expr_of c.left.inside.place) c.in-Postfix.is in
    target_is c.args.left.now c.in-Postfix.start.value c.deref.result.now c.left.inside.place (postfix_list c.in-Postfix.parts) c.look-pointer.result c.look_at_parts.result whole c.deref.ensures c.look-pointer.ensures c.look_at_parts.ensures
