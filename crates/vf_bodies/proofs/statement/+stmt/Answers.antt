use Rattle.std.proofs.Common.{rules, arith, ◌≡◌, sym, ap, ◌∙◌, subst}
use Rattle.vf_syntax.specs.StmtTree.{StmtTree, stmt_list}
use Rattle.vf_syntax.specs.StmtTree as tree
use Rattle.vf_lower.specs.Did.{Did, Does}
use Rattle.vf_lower.specs.Lowering.{◌⨾◌, gives}
use Rattle.vf_lower.specs.Settings.{Setting}
use Rattle.vf_lower.specs.Expressions.{condition}
use Rattle.vf_lower.specs.Shown.{setting_of, test_of}
use Rattle.vf_lower.specs.Statements.{at, statement}
use Rattle.vf_lower.proofs.Parts.{did_either, did_give, did_then}
use Rattle.vf_bodies.specs.Standing.{back_at, standing_of}
use Rattle.vf_bodies.proofs.Parts.{did_gives, did_inner, did_looped, did_when, does_leave, left_behind}
use Rattle.vf_bodies.proofs.Back.{first_gone, stmt_gone, stmts_gone}
use Rattle.vf_bodies.proofs.Loops.{stmts_end, stmts_more}
use Rattle.vf_bodies.proofs.statement.+stmt.Goals as goal

pub lower_inner-returns : goal.lower_inner-returns
lower_inner-returns t c = did_then _ _ _ _ _ _ _ c.in_ok-lower_statement.ensures (did_gives _ _ _ (stmt_gone _ _ _ _ _ _ _ _ c.in_ok-lower_statement.ensures c.mark-before.ensures c.leave.ensures))

pub lower_if-returns : goal.lower_if-returns
lower_if-returns t c =
    let test : Did (condition (at (standing_of c.args.around.now) c.args.place) c.args.test.now) c.args.draft.now c.tested.new.draft (test_of c.in_ok-test.test) =
    subst (λ (s : Setting). Did (condition s c.args.test.now) c.args.draft.now c.tested.new.draft (test_of c.in_ok-test.test)) c.setting_at.ensures c.in_ok-test.ensures in
    did_then _ _ _ _ _ _ _ test (did_then _ _ _ _ _ _ _
    (did_when _ _ _ _ c.aside-part.new.self _ _ _ _ c.aside-part.ensures.locals c.aside-part.ensures.nodes c.aside-part.ensures.kept
    (did_inner _ _ _ _ _ c.in_ok-lower_inner.ensures) c.in_ok-skip.ensures.nodes c.in_ok-skip.ensures.locals)
    (did_gives _ _ _ (left_behind _ _ _ _ _ c.in_ok-lower_inner.ensures)))

pub lower_if_else-returns : goal.lower_if_else-returns
lower_if_else-returns t c =
    let test : Did (condition (at (standing_of c.args.around.now) c.args.place) c.args.test.now) c.args.draft.now c.tested.new.draft (test_of c.in_ok-test.test) =
    subst (λ (s : Setting). Did (condition s c.args.test.now) c.args.draft.now c.tested.new.draft (test_of c.in_ok-test.test)) c.setting_at.ensures c.in_ok-test.ensures in
    let back : standing_of c.lower_inner.new.around ≡ standing_of c.args.around.now = left_behind _ _ _ _ _ c.in_ok-lower_inner.ensures in
    let second : Did (statement (standing_of c.args.around.now) c.args.given c.args.no.now ⨾ (λ d. gives (standing_of c.args.around.now))) c.aside-second.result c.lower_inner-2.new.draft (standing_of c.lower_inner-2.new.around) =
    subst (λ (s : Setting). Did (statement s c.args.given c.args.no.now ⨾ (λ d. gives s)) c.aside-second.result c.lower_inner-2.new.draft (standing_of c.lower_inner-2.new.around)) back c.in_ok-lower_inner-2.ensures in
    did_then _ _ _ _ _ _ _ test (did_then _ _ _ _ _ _ _
    (did_either _ _ _ _ _ c.aside-first.new.self _ _ c.aside-second.new.self _ _ _ _ _
    c.aside-first.ensures.locals c.aside-first.ensures.nodes c.aside-first.ensures.kept (did_inner _ _ _ _ _ c.in_ok-lower_inner.ensures)
    c.aside-second.ensures.locals c.aside-second.ensures.nodes c.aside-second.ensures.kept (did_inner _ _ _ _ _ second)
    c.in_ok-join.ensures.nodes c.in_ok-join.ensures.locals)
    (did_gives _ _ _ (left_behind _ _ _ _ _ second)))

pub lower_while-returns : goal.lower_while-returns
lower_while-returns t c =
    let test : Did (condition (at (standing_of c.args.around.now) c.args.place) c.args.test.now) c.aside-head.result c.tested.new.draft (test_of c.in_ok-test.test) =
    subst (λ (s : Setting). Did (condition s c.args.test.now) c.aside-head.result c.tested.new.draft (test_of c.in_ok-test.test)) c.setting_at.ensures c.in_ok-test.ensures in
    did_then _ _ _ _ _ _ _
    (did_looped _ _ _ _ _ _ c.aside-head.new.self _ _ c.aside-turn.new.self _ _ _ _ _
    c.aside-head.ensures.locals c.aside-head.ensures.nodes c.aside-head.ensures.kept test
    c.aside-turn.ensures.locals c.aside-turn.ensures.nodes c.aside-turn.ensures.kept (did_inner _ _ _ _ _ c.in_ok-lower_inner.ensures)
    (rw c.last_of.ensures at c.in_ok-repeat.ensures.nodes) c.in_ok-repeat.ensures.locals)
    (did_gives _ _ _ (left_behind _ _ _ _ _ c.in_ok-lower_inner.ensures))

pub lower_turn-returns-clause-kept : goal.lower_turn-returns-clause-kept
lower_turn-returns-clause-kept t c = left_behind _ _ _ _ _ c.in_ok-lower_inner.ensures

pub lower_turn-returns-clause-done : goal.lower_turn-returns-clause-done
lower_turn-returns-clause-done t c =
    let same : setting_of c.setting.result ≡ standing_of c.args.around.now = c.setting.ensures ∙ left_behind _ _ _ _ _ c.in_ok-lower_inner.ensures in
    did_then _ _ _ _ _ _ _ (did_inner _ _ _ _ _ c.in_ok-lower_inner.ensures) (rw same at c.in_ok-lower_optional.ensures)

pub lower_for_loop-returns-clause-done : goal.lower_for_loop-returns-clause-done
lower_for_loop-returns-clause-done t c =
    did_looped _ _ _ _ _ _ c.aside-start.new.self _ _ c.aside-turn.new.self _ _ _ _ _
    c.aside-start.ensures.locals c.aside-start.ensures.nodes c.aside-start.ensures.kept (rw c.setting.ensures at c.in_ok-test.ensures)
    c.aside-turn.ensures.locals c.aside-turn.ensures.nodes c.aside-turn.ensures.kept c.in_ok-lower_turn.ensures.done
    (rw c.last_of.ensures at c.in_ok-repeat.ensures.nodes) c.in_ok-repeat.ensures.locals

pub lower_for-returns : goal.lower_for-returns
lower_for-returns t c =
    did_then _ _ _ _ _ _ _ c.in_ok-lower_first_part.ensures (did_then _ _ _ _ _ _ _ c.in_ok-lower_for_loop.ensures.done
    (did_gives _ _ _ (first_gone _ _ _ _ _ _ _ _ c.in_ok-lower_first_part.ensures c.mark-before.ensures (c.leave.ensures ∙ ap (back_at c.mark-before.result) c.in_ok-lower_for_loop.ensures.kept))))

pub lower_block-returns : goal.lower_block-returns
lower_block-returns t c = did_then _ _ _ _ _ _ _ c.in_ok-lower_statements.ensures (did_gives _ _ _ (stmts_gone _ _ _ _ _ _ _ _ c.in_ok-lower_statements.ensures c.mark-before.ensures c.leave.ensures))

pub lower_statements-loop-at-preserved : goal.lower_statements-loop-at-preserved
lower_statements-loop-at-preserved t c = λ e a h. c.loop-at.invariant e a (stmts_more _ _ _ c.args.items.now c.loop-at.at _ _ _ _ _ (sym c.in-Some.ensures) c.in_ok-lower_statement.ensures h)

pub lower_statements-returns : goal.lower_statements-returns
lower_statements-returns t c = c.loop-at.invariant _ _ (stmts_end _ _ c.args.items.now c.loop-at.at c.loop-at.draft (omega arith))

pub lower_statement-returns-in-Simple : goal.lower_statement-returns-in-Simple
lower_statement-returns-in-Simple t c =
    let s = standing_of c.args.around.now in
    let is : c.args.item.now ≡ tree.simple c.item.inside.place c.in-Simple.part c.in-Simple.field-1 = search rules in
    subst (λ (x : StmtTree). Does (λ u. s) (statement s c.args.given x) c.args.draft.now c.lower_simple.new.draft c.lower_simple.result) (sym is) (does_leave _ s _ _ _ (rw c.setting_at.ensures at c.lower_simple.ensures))

pub lower_statement-returns-in-Return : goal.lower_statement-returns-in-Return
lower_statement-returns-in-Return t c =
    let s = standing_of c.args.around.now in
    let is : c.args.item.now ≡ tree.return_ c.item.inside.place c.in-Return.value c.in-Return.field-1 = search rules in
    subst (λ (x : StmtTree). Does (λ u. s) (statement s c.args.given x) c.args.draft.now c.lower_return.new.draft c.lower_return.result) (sym is) (does_leave _ s _ _ _ (rw c.setting_at-in-Return.ensures at c.lower_return.ensures))

pub lower_statement-returns-in-Ghost : goal.lower_statement-returns-in-Ghost
lower_statement-returns-in-Ghost t c =
    let s = standing_of c.args.around.now in
    let is : c.args.item.now ≡ tree.ghost c.item.inside.place c.in-Ghost.command = search rules in
    subst (λ (x : StmtTree). Does (λ u. s) (statement s c.args.given x) c.args.draft.now c.add.new.self c.add.result) (sym is) (does_leave _ s _ _ _ c.add.ensures)

pub lower_statement-returns-in-Empty : goal.lower_statement-returns-in-Empty
lower_statement-returns-in-Empty t c =
    let s = standing_of c.args.around.now in
    let is : c.args.item.now ≡ tree.empty_ c.item.inside.place = search rules in
    subst (λ (x : StmtTree). Did (statement s c.args.given x) c.args.draft.now c.args.draft.now s) (sym is) (did_give _ s)

pub lower_statement-returns-in-If : goal.lower_statement-returns-in-If
lower_statement-returns-in-If t c =
    let is : c.args.item.now ≡ tree.if_ c.item.inside.place c.in-If.test c.deref.result.now = search rules in
    subst (λ (x : StmtTree). Does (λ u. standing_of c.lower_if.new.around) (statement (standing_of c.args.around.now) c.args.given x) c.args.draft.now c.lower_if.new.draft c.lower_if.result) (sym is) c.lower_if.ensures

pub lower_statement-returns-in-IfElse : goal.lower_statement-returns-in-IfElse
lower_statement-returns-in-IfElse t c =
    let is : c.args.item.now ≡ tree.if_else c.item.inside.place c.in-IfElse.test c.deref-in-IfElse.result.now c.deref-in-IfElse-2.result.now = search rules in
    subst (λ (x : StmtTree). Does (λ u. standing_of c.lower_if_else.new.around) (statement (standing_of c.args.around.now) c.args.given x) c.args.draft.now c.lower_if_else.new.draft c.lower_if_else.result) (sym is) c.lower_if_else.ensures

pub lower_statement-returns-in-While : goal.lower_statement-returns-in-While
lower_statement-returns-in-While t c =
    let is : c.args.item.now ≡ tree.while_ c.item.inside.place c.in-While.test c.in-While.invariant c.deref-in-While.result.now = search rules in
    subst (λ (x : StmtTree). Does (λ u. standing_of c.lower_while.new.around) (statement (standing_of c.args.around.now) c.args.given x) c.args.draft.now c.lower_while.new.draft c.lower_while.result) (sym is) c.lower_while.ensures

pub lower_statement-returns-in-For : goal.lower_statement-returns-in-For
lower_statement-returns-in-For t c =
    let is : c.args.item.now ≡ tree.for_ c.item.inside.place c.in-For.first c.in-For.test c.in-For.step c.in-For.invariant c.deref-in-For.result.now = search rules in
    subst (λ (x : StmtTree). Does (λ u. standing_of c.lower_for.new.around) (statement (standing_of c.args.around.now) c.args.given x) c.args.draft.now c.lower_for.new.draft c.lower_for.result) (sym is) c.lower_for.ensures

pub lower_statement-returns-in-Block : goal.lower_statement-returns-in-Block
lower_statement-returns-in-Block t c =
    let is : c.args.item.now ≡ tree.block c.item.inside.place (stmt_list c.in-Block.statements) c.in-Block.field-1 = search rules in
    subst (λ (x : StmtTree). Does (λ u. standing_of c.lower_block.new.around) (statement (standing_of c.args.around.now) c.args.given x) c.args.draft.now c.lower_block.new.draft c.lower_block.result) (sym is) c.lower_block.ensures
