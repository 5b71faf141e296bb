use Rattle.std.proofs.Common.{rules, ◌≡◌, Err, sym, ap, ◌∙◌}
use Rattle.vf_typing.specs.Parts.{freed}
use Rattle.vf_typing.proofs.Calls.{free_typed}
use Rattle.vf_typing.proofs.Loops.{none_is, arguments_more, arguments_stop, links_more, links_stop, parts_more, parts_stop}
use Rattle.vf_typing.proofs.expr.+expr.Goals as goal

pub typed_free-returns-in_err-operand : goal.typed_free-returns-in_err-operand
typed_free-returns-in_err-operand t c = let e : c.from_residual.result ≡ Err c.in_err-operand.field-0.0 = search rules in e ∙ ap (freed c.args.scope.now c.args.place) c.in_err-operand.ensures ∙ free_typed c.args.scope.now c.args.place c.args.name c.args.arguments.now c.in-Some.argument.now c.if-not-scope.false (sym c.len.ensures ∙ c.if-len-ne1.false) (sym c.in-Some.ensures)

pub typed_free-returns : goal.typed_free-returns
typed_free-returns t c = c.freed.ensures ∙ ap (freed c.args.scope.now c.args.place) c.in_ok-operand.ensures ∙ free_typed c.args.scope.now c.args.place c.args.name c.args.arguments.now c.in-Some.argument.now c.if-not-scope.false (sym c.len.ensures ∙ c.if-len-ne1.false) (sym c.in-Some.ensures)

pub typed_links-returns-in_err-left : goal.typed_links-returns-in_err-left
typed_links-returns-in_err-left t c = let e : c.from_residual.result ≡ Err c.in_err-left.field-0.0 = search rules in e ∙ links_stop c.args.scope.now c.args.links.now c.loop-at.at c.in-Some.link.now c.loop-at.left c.in_err-left.field-0.0 _ (sym c.in-Some.ensures) c.in_err-left.ensures c.loop-at.invariant

pub typed_links-loop-at-preserved : goal.typed_links-loop-at-preserved
typed_links-loop-at-preserved t c = links_more c.args.scope.now c.args.links.now c.loop-at.at c.in-Some.link.now c.loop-at.left c.in_ok-left.left _ (sym c.in-Some.ensures) c.in_ok-left.ensures c.loop-at.invariant

pub typed_parts-returns-in_err-operand : goal.typed_parts-returns-in_err-operand
typed_parts-returns-in_err-operand t c = let e : c.from_residual.result ≡ Err c.in_err-operand.field-0.0 = search rules in e ∙ parts_stop c.args.scope.now c.args.parts.now c.loop-at.at c.in-Some.part.now c.loop-at.operand c.in_err-operand.field-0.0 _ (sym c.in-Some.ensures) c.in_err-operand.ensures c.loop-at.invariant

pub typed_parts-loop-at-preserved : goal.typed_parts-loop-at-preserved
typed_parts-loop-at-preserved t c = parts_more c.args.scope.now c.args.parts.now c.loop-at.at c.in-Some.part.now c.loop-at.operand c.in_ok-operand.operand _ (sym c.in-Some.ensures) c.in_ok-operand.ensures c.loop-at.invariant

pub refused_argument-returns-in-Some : goal.refused_argument-returns-in-Some
refused_argument-returns-in-Some t c = arguments_stop c.args.scope.now c.args.parameters.now c.args.arguments.now c.loop-at.at c.in-Some-Some.parameter.now c.in-Some-Some.argument.now _ _ (sym c.in-Some-Some.ensures) (sym c.in-Some-Some.ensures') c.in-Some.ensures c.loop-at.invariant

pub refused_argument-loop-at-preserved : goal.refused_argument-loop-at-preserved
refused_argument-loop-at-preserved t c = arguments_more c.args.scope.now c.args.parameters.now c.args.arguments.now c.loop-at.at c.in-Some-Some.parameter.now c.in-Some-Some.argument.now _ (sym c.in-Some-Some.ensures) (sym c.in-Some-Some.ensures') (sym (none_is _ c.in_default-assigned.not-Some) ∙ c.assigned.ensures) c.loop-at.invariant
