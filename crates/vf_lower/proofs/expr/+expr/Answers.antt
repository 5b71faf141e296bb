use Rattle.std.proofs.Common.{rules, arith, ◌≡◌, ◌∷◌, None, slice_get, refl, sym, ap, ◌∙◌, subst}
use Rattle.vf_ctypes.specs.Types.{promoted}
use Rattle.vf_declared.specs.declared.ctype.CType.{CType}
use Rattle.vf_declared.specs.declared.ctype.CType.TheVariants as types
use Rattle.vf_syntax.specs.ExprTree.{expr_list, link_list, postfix_list}
use Rattle.vf_syntax.specs.ExprTree as tree
use Rattle.vf_typing.specs.Parts.{free_place}
use Rattle.vf_typing.specs.Types.{result_type}
use Rattle.vf_steps.specs.Tree as steps
use Rattle.vf_steps.specs.Shown.{value_of}
use Rattle.vf_lower.specs.Lowering.{◌⨾◌, gives}
use Rattle.vf_lower.specs.Settings.{integer_in, kind}
use Rattle.vf_lower.specs.Operands.{arithmetic_operator, left_passed, passed}
use Rattle.vf_lower.specs.Operands as operands
use Rattle.vf_lower.specs.Expressions.{arguments, behind, only_argument, outcome}
use Rattle.vf_lower.specs.Shown.{left_of, outcome_of, setting_of, test_of}
use Rattle.vf_lower.specs.Did.{Did, Does}
use Rattle.vf_lower.proofs.Parts.{did_either, did_give, did_given, did_then, does_give, does_same, does_then}
use Rattle.vf_lower.proofs.Calls.{free_called, not_called, not_free}
use Rattle.vf_lower.proofs.Loops.{arguments_end, arguments_more, links_end, links_more, parameters_end, parts_end, parts_more, values_end, values_more}
use Rattle.vf_lower.proofs.expr.+expr.Goals as goal

pub valued-returns : goal.valued-returns
valued-returns t c =
    let k : c.find_kind.result.ctype ≡ (kind (setting_of c.args.setting.now) c.args.expr.now).ctype = ap (λ x. x.ctype) c.find_kind.ensures in
    does_then value_of _ _ _ _ _ _ _ c.in_ok-outcome.ensures (rw (k, c.place_of.ensures) at c.as_value.ensures)

pub tested-returns : goal.tested-returns
tested-returns t c =
    let k : c.find_kind.result.ctype ≡ (kind (setting_of c.args.setting.now) c.args.expr.now).ctype = ap (λ x. x.ctype) c.find_kind.ensures in
    does_then test_of _ _ _ _ _ _ _ c.in_ok-outcome.ensures (rw (k, c.place_of.ensures) at c.as_test.ensures)

pub passed-returns : goal.passed-returns
passed-returns t c = does_then value_of _ _ _ _ _ _ _ c.in_ok-value.ensures (rw (c.find_kind.ensures, c.place_of.ensures) at c.adapted.ensures)

pub truth_into-returns : goal.truth_into-returns
truth_into-returns t c =
    let k : c.find_kind.result.ctype ≡ (kind (setting_of c.args.setting.now) c.args.expr.now).ctype = ap (λ x. x.ctype) c.find_kind.ensures in
    does_then (λ u. tt) _ _ _ _ _ _ _ (did_then _ _ _ _ _ _ _ c.in_ok-value.ensures (rw (k, c.place_of.ensures) at c.in_ok-truth.ensures)) c.set_local.ensures

pub passed_into-returns : goal.passed_into-returns
passed_into-returns t c = does_then (λ u. tt) _ _ _ _ _ _ _ c.in_ok-value.ensures c.set_local.ensures

pub negative-returns : goal.negative-returns
negative-returns t c =
    let s = setting_of c.args.setting.now in
    let e = c.args.operand.now in
    let same : c.promote-of.result ≡ promoted (integer_in (kind s e).ctype) = c.promote-of.ensures ∙ ap promoted (c.integer_in.ensures ∙ ap (λ x. integer_in x.ctype) c.find_kind.ensures) in
    subst (λ i. Did (passed s (types.Integer i) e (outcome s e) ⨾ (λ v. gives (operands.is (steps.negate i v c.args.place)))) c.args.draft.now c.passed.new.draft (operands.is (steps.negate c.promote-of.result (value_of c.in_ok-new.field-0.value) c.args.place))) same (did_then _ _ _ _ _ _ _ c.in_ok-value.ensures (did_given _ _ _ (search rules)))

pub prefixed-returns-in-Minus : goal.prefixed-returns-in-Minus
prefixed-returns-in-Minus t c = rw c.in-Minus.is c.negative.ensures

pub prefixed-returns-in_ok-test-in-Not : goal.prefixed-returns-in_ok-test-in-Not
prefixed-returns-in_ok-test-in-Not t c = rw c.in-Not.is (did_then _ _ _ _ _ _ _ c.in_ok-test-in-Not.ensures (did_given _ _ _ (search rules)))

pub arithmetic-returns : goal.arithmetic-returns
arithmetic-returns t c =
    let s = setting_of c.args.setting.now in
    let b = c.args.operand.now in
    let l = left_of c.args.left in
    let o = c.args.operator in
    let same : c.result_type-ctype.result ≡ result_type o l.kind.ctype (kind s b).ctype = c.result_type-ctype.ensures ∙ ap (λ x. result_type o l.kind.ctype x.ctype) c.find_kind.ensures in
    let whole = λ (u : CType). left_passed s c.args.place u l ⨾ (λ v. passed s u b (outcome s b) ⨾ (λ w. gives (operands.is (steps.arithmetic (arithmetic_operator o) (integer_in u) v w c.args.at)))) in
    does_same outcome_of _ (whole c.result_type-ctype.result) _ _ _ (ap whole (sym same)) (does_then outcome_of _ _ _ _ _ _ _ c.in_ok-first.ensures (does_then outcome_of _ _ _ _ _ _ _ c.in_ok-second.ensures (does_give outcome_of _ _ _ _ refl c.computed.ensures)))

pub pointer_sum-returns : goal.pointer_sum-returns
pointer_sum-returns t c = does_then outcome_of _ _ _ _ _ _ _ c.in_ok-pointer.ensures (does_then outcome_of _ _ _ _ _ _ _ c.in_ok-by.ensures c.offset.ensures)

pub compared-returns : goal.compared-returns
compared-returns t c =
    let k : c.find_kind-other.result.ctype ≡ (kind (setting_of c.args.setting.now) c.args.operand.now).ctype = ap (λ x. x.ctype) c.find_kind-other.ensures in
    did_then _ _ _ _ _ _ _ (rw (c.compared_type.ensures, k) at c.in_ok-first.ensures) (did_then _ _ _ _ _ _ _ (rw (c.compared_type-2.ensures, k) at c.in_ok-second.ensures) (did_given _ _ _ (search rules)))

pub both-returns : goal.both-returns
both-returns t c = did_then _ _ _ _ _ _ _ c.in_ok-test.ensures (did_then _ _ _ _ _ _ _ c.in_ok-local.ensures (did_then _ _ _ _ _ _ _ (did_either _ _ _ _ _ c.aside-first.new.self _ _ c.aside-second.new.self _ _ _ _ _ c.aside-first.ensures.locals c.aside-first.ensures.nodes c.aside-first.ensures.kept c.in_ok-truth_into.ensures c.aside-second.ensures.locals c.aside-second.ensures.nodes c.aside-second.ensures.kept c.in_ok-set_local.ensures c.in_ok-join.ensures.nodes c.in_ok-join.ensures.locals) (did_give _ _)))

pub one_of-returns : goal.one_of-returns
one_of-returns t c = did_then _ _ _ _ _ _ _ c.in_ok-test.ensures (did_then _ _ _ _ _ _ _ c.in_ok-local.ensures (did_then _ _ _ _ _ _ _ (did_either _ _ _ _ _ c.aside-first.new.self _ _ c.aside-second.new.self _ _ _ _ _ c.aside-first.ensures.locals c.aside-first.ensures.nodes c.aside-first.ensures.kept c.in_ok-set_local.ensures c.aside-second.ensures.locals c.aside-second.ensures.nodes c.aside-second.ensures.kept c.in_ok-truth_into.ensures c.in_ok-join.ensures.nodes c.in_ok-join.ensures.locals) (did_give _ _)))

pub choice-returns : goal.choice-returns
choice-returns t c = did_then _ _ _ _ _ _ _ c.in_ok-local.ensures (did_then _ _ _ _ _ _ _ (did_either _ _ _ _ _ c.aside-first.new.self _ _ c.aside-second.new.self _ _ _ _ _ c.aside-first.ensures.locals c.aside-first.ensures.nodes c.aside-first.ensures.kept c.in_ok-passed_into.ensures c.aside-second.ensures.locals c.aside-second.ensures.nodes c.aside-second.ensures.kept c.in_ok-passed_into-2.ensures c.in_ok-join.ensures.nodes c.in_ok-join.ensures.locals) (did_give _ _))

pub links-loop-at-preserved : goal.links-loop-at-preserved
links-loop-at-preserved t c = λ e a h. c.loop-at.invariant e a (links_more _ _ _ _ _ c.args.items.now c.loop-at.at _ _ _ _ _ (sym c.in-Some.ensures) c.in_ok-linked.ensures (c.plain-left.ensures ∙ ap (operands.left (outcome_of c.in_ok-linked.field-0)) c.link_type-ctype.ensures) h)

pub links-returns : goal.links-returns
links-returns t c = c.loop-at.invariant _ _ (links_end _ _ _ c.args.items.now c.loop-at.at c.loop-at.draft (omega arith))

pub chain-returns : goal.chain-returns
chain-returns t c = does_then outcome_of _ _ _ _ _ _ _ c.in_ok-outcome.ensures (rw c.find_kind.ensures at c.links.ensures)

pub arguments-returns : goal.arguments-returns
arguments-returns t c = values_end _ _ _ _ (c.loop-at.invariant _ _ (arguments_end _ _ c.args.items.now c.loop-at.at c.loop-at.draft (omega arith)))

pub arguments-loop-at-preserved : goal.arguments-loop-at-preserved
arguments-loop-at-preserved t c = λ e vs h. subst (λ l. Did (arguments (setting_of c.args.setting.now) c.args.parameters.now (expr_list c.args.items.now)) c.args.draft.now e l) (values_more c.loop-at.values c.push.new.self c.in_ok-value.value vs c.in_ok-push.ensures.pushed) (c.loop-at.invariant e (value_of c.in_ok-value.value ∷ vs) (arguments_more _ c.args.parameters.now c.args.items.now c.loop-at.at c.in-Some-get.parameter.now c.in-Some.argument.now _ _ _ _ _ (sym c.in-Some-get.ensures) (sym c.in-Some.ensures) c.in_ok-value.ensures h))

pub call_arguments-returns-in-None : goal.call_arguments-returns-in-None
call_arguments-returns-in-None t c = did_given _ _ _ (search rules)

pub call-returns : goal.call-returns
call-returns t c = does_then outcome_of _ _ _ _ _ _ _ c.in_ok-callee.ensures (does_then outcome_of _ _ _ _ _ _ _ (rw c.called.ensures at c.in_ok-values.ensures) c.called_with.ensures)

pub element-returns : goal.element-returns
element-returns t c = did_then _ _ _ _ _ _ _ c.in_ok-pointer.ensures (did_then _ _ _ _ _ _ _ c.in_ok-index.ensures (did_give _ _))

pub parts-loop-at-preserved : goal.parts-loop-at-preserved
parts-loop-at-preserved t c = λ e a h. c.loop-at.invariant e a (parts_more _ _ _ _ _ c.args.items.now c.loop-at.at _ _ _ _ _ (sym c.in-Some.ensures) c.in_ok-part_behind.ensures (c.plain-left.ensures ∙ ap (operands.left (outcome_of c.in_ok-part_behind.field-0)) c.part_type-ctype.ensures) h)

pub parts-returns : goal.parts-returns
parts-returns t c = c.loop-at.invariant _ _ (parts_end _ _ _ c.args.items.now c.loop-at.at c.loop-at.draft (omega arith))

pub freed-returns : goal.freed-returns
freed-returns t c =
    let k : c.find_kind.result.ctype ≡ (kind (setting_of c.args.setting.now) c.args.argument.now).ctype = ap (λ x. x.ctype) c.find_kind.ensures in
    did_then _ _ _ _ _ _ _ c.in_ok-value.ensures (did_then _ _ _ _ _ _ _ (rw (c.free_step-step.ensures, k) at c.in_ok-add.ensures) (did_give _ _))

pub parts_behind-returns : goal.parts_behind-returns
parts_behind-returns t c = does_then outcome_of _ _ _ _ _ _ _ c.in_ok-outcome.ensures (rw c.find_kind.ensures at c.parts.ensures)

pub lowered-returns-in-Number : goal.lowered-returns-in-Number
lowered-returns-in-Number t c = did_given _ _ _ (search rules)

pub lowered-returns-in-Character : goal.lowered-returns-in-Character
lowered-returns-in-Character t c = did_given _ _ _ (search rules)

pub lowered-returns-in-True : goal.lowered-returns-in-True
lowered-returns-in-True t c = did_given _ _ _ (search rules)

pub lowered-returns-in-False : goal.lowered-returns-in-False
lowered-returns-in-False t c = did_given _ _ _ (search rules)

pub lowered-returns-in-Name : goal.lowered-returns-in-Name
lowered-returns-in-Name t c = did_given _ _ _ (search rules)

pub lowered-returns-in-Malloc : goal.lowered-returns-in-Malloc
lowered-returns-in-Malloc t c = did_given _ _ _ (search rules)

pub lowered-returns-in_ok-length-in-MallocInts : goal.lowered-returns-in_ok-length-in-MallocInts
lowered-returns-in_ok-length-in-MallocInts t c =
    let s = setting_of c.args.setting.now in
    let is : c.args.expr.now ≡ tree.malloc_ints c.expr.inside.place c.deref-in-MallocInts.result.now c.in-MallocInts.star = search rules in
    subst (λ x. Did (outcome s x) c.args.draft.now c.valued.new.draft (operands.awaits (operands.allocate_ints (value_of c.in_ok-length-in-MallocInts.length) c.in-MallocInts.star))) (sym is) (did_then _ _ _ _ _ _ _ c.in_ok-length-in-MallocInts.ensures (did_give _ _))

pub lowered-returns-in_ok-passed-in-Cast : goal.lowered-returns-in_ok-passed-in-Cast
lowered-returns-in_ok-passed-in-Cast t c =
    let s = setting_of c.args.setting.now in
    let is : c.args.expr.now ≡ tree.cast c.expr.inside.place c.in-Cast.field-0 c.deref-in-Cast.result.now = search rules in
    let k : c.find_kind-ctype.result.ctype ≡ (kind s (tree.cast c.expr.inside.place c.in-Cast.field-0 c.deref-in-Cast.result.now)).ctype = ap (λ x. x.ctype) c.find_kind-ctype.ensures ∙ ap (λ x. (kind s x).ctype) is in
    subst (λ x. Did (outcome s x) c.args.draft.now c.passed.new.draft (operands.is (value_of c.in_ok-passed-in-Cast.field-0))) (sym is) (did_then _ _ _ _ _ _ _ (rw k at c.in_ok-passed-in-Cast.ensures) (did_give _ _))

pub lowered-returns-in-Chain : goal.lowered-returns-in-Chain
lowered-returns-in-Chain t c =
    let s = setting_of c.args.setting.now in
    let is : c.args.expr.now ≡ tree.chain c.expr.inside.place c.in-Chain.field-0 c.deref-in-Chain.result.now (link_list c.in-Chain.items) = search rules in
    subst (λ x. Does outcome_of (outcome s x) c.args.draft.now c.chain.new.draft c.chain.result) (sym is) c.chain.ensures

pub lowered-returns-in_ok-test-in-Conditional : goal.lowered-returns-in_ok-test-in-Conditional
lowered-returns-in_ok-test-in-Conditional t c =
    let s = setting_of c.args.setting.now in
    let e = tree.conditional c.expr.inside.place c.deref-in-Conditional.result.now c.deref-in-Conditional-2.result.now c.deref-in-Conditional-3.result.now in
    let is : c.args.expr.now ≡ e = search rules in
    let k : c.find_kind-ctype-in-Conditional.result.ctype ≡ (kind s e).ctype = ap (λ x. x.ctype) c.find_kind-ctype-in-Conditional.ensures ∙ ap (λ x. (kind s x).ctype) is in
    subst (λ x. Does outcome_of (outcome s x) c.args.draft.now c.choice.new.draft c.choice.result) (sym is) (does_then outcome_of _ _ _ _ _ _ _ c.in_ok-test-in-Conditional.ensures (rw k at c.choice.ensures))

pub arguments-returns-in_default-get : goal.arguments-returns-in_default-get
arguments-returns-in_default-get t c =
    let none : slice_get c.args.parameters.now c.loop-at.at ≡ None = search rules in
    values_end _ _ _ _ (c.loop-at.invariant _ _ (parameters_end _ c.args.parameters.now _ c.loop-at.at c.loop-at.draft none))

pub postfix-returns-in_default : goal.postfix-returns-in_default
postfix-returns-in_default t c =
    let s = setting_of c.args.setting.now in
    let a = c.args.start.now in
    let none : free_place s.scope a ≡ None = search rules in
    does_same outcome_of _ _ _ _ _ (ap (λ q. behind s c.args.place q a (outcome s a) (postfix_list c.args.items.now)) none ∙ not_free s c.args.place a (outcome s a) (postfix_list c.args.items.now)) c.parts_behind.ensures

pub postfix-returns-in-None : goal.postfix-returns-in-None
postfix-returns-in-None t c =
    let s = setting_of c.args.setting.now in
    let a = c.args.start.now in
    let none : only_argument (postfix_list c.args.items.now) ≡ None = search rules in
    does_same outcome_of _ _ _ _ _ (not_called s c.args.place (free_place s.scope a) a (outcome s a) (postfix_list c.args.items.now) none) c.parts_behind-in-None.ensures

pub postfix-returns-in-Some-only_argument : goal.postfix-returns-in-Some-only_argument
postfix-returns-in-Some-only_argument t c =
    let s = setting_of c.args.setting.now in
    let a = c.args.start.now in
    does_same outcome_of _ _ _ _ _ (ap (λ q. behind s c.args.place q a (outcome s a) (postfix_list c.args.items.now)) (sym c.in-Some.ensures) ∙ free_called s c.args.place c.in-Some.at a c.in-Some-only_argument.argument.now (outcome s a) c.args.items.now (sym c.in-Some-only_argument.ensures)) c.freed.ensures
