use Rattle.std.proofs.Common.{rules, ◌≡◌, refl, ap, ◌∙◌, sym}
use Rattle.vf_syntax.specs.StmtTree.{StmtTree, stmt_list}
use Rattle.vf_syntax.specs.StmtTree as tree
use Rattle.vf_local_numbers.specs.Counting.{counted, counting_of, inner, step_counted, test_counted}
use Rattle.vf_local_numbers.proofs.Lists.{counted_more}
use Rattle.vf_local_numbers.proofs.Taking.{declared_form, for_back, of_form, stmt_back, stmts_back, whole_form}
use Rattle.vf_local_numbers.proofs.statement.+stmt.Goals as goal

pub count_inner-returns : goal.count_inner-returns
count_inner-returns t c = stmt_back c.args.given c.args.item.now (counting_of c.args.counting.now) (counting_of c.count_statement.new.counting) _ _ c.in_ok-count_statement.ensures c.mark-before.ensures c.leave.ensures refl refl

pub count_block-returns : goal.count_block-returns
count_block-returns t c = stmts_back c.args.given (stmt_list c.args.items.now) (counting_of c.args.counting.now) (counting_of c.count_statements.new.counting) _ _ c.in_ok-count_statements.ensures c.mark-before.ensures c.leave.ensures refl refl

pub count_for-returns : goal.count_for-returns
count_for-returns t c = for_back (counted c.args.given c.args.body.now) c.args.place c.args.parts.now.first.now c.args.parts.now.test.now c.args.parts.now.step.now (counting_of c.args.counting.now) (counting_of c.count_turn.new.counting) _ _ c.in_ok-count_turn.ensures c.mark-before.ensures c.leave.ensures refl refl

pub count_statements-loop-at-preserved : goal.count_statements-loop-at-preserved
count_statements-loop-at-preserved t c = counted_more c.args.given c.args.items.now c.loop-at.at c.in-Some.item.now (counting_of c.loop-at.counting) (counting_of c.count_statement.new.counting) _ (sym c.in-Some.ensures) c.in_ok-count_statement.ensures c.loop-at.invariant

pub count_if-returns : goal.count_if-returns
count_if-returns t c = c.in_ok-count_inner.ensures ∙ ap (inner (counted c.args.given c.args.yes.now)) c.in_ok-count_condition.ensures

pub count_if_else-returns : goal.count_if_else-returns
count_if_else-returns t c = c.in_ok-count_inner-2.ensures ∙ ap (inner (counted c.args.given c.args.no.now)) (c.in_ok-count_inner.ensures ∙ ap (inner (counted c.args.given c.args.yes.now)) c.in_ok-count_condition.ensures)

pub count_turn-returns : goal.count_turn-returns
count_turn-returns t c =
    c.in_ok-count_step.ensures ∙ ap (step_counted c.args.parts.now.step.now) (c.in_ok-count_inner.ensures ∙ ap (inner (counted c.args.given c.args.body.now)) (c.in_ok-count_loop_test.ensures ∙ ap (test_counted c.args.parts.now.test.now) c.in_ok-count_first.ensures))

pub count_statement-returns-in-Declaration : goal.count_statement-returns-in-Declaration
count_statement-returns-in-Declaration t c =
    let is : c.args.item.now ≡ tree.declaration c.item.inside.place c.in-Declaration.field-0 c.in-Declaration.field-1 c.in-Declaration.field-2 c.in-Declaration.field-3 = search rules in
    of_form _ _ _ _ _ _ is (declared_form _ _ _ _ _ _ is c.count_declaration.ensures)

pub count_statement-returns-in-Simple : goal.count_statement-returns-in-Simple
count_statement-returns-in-Simple t c =
    let is : c.args.item.now ≡ tree.simple c.item.inside.place c.in-Simple.field-0 c.in-Simple.field-1 = search rules in
    of_form _ _ _ _ _ _ is (whole_form _ _ _ _ _ _ is c.count_whole.ensures)

pub count_statement-returns-in-Return : goal.count_statement-returns-in-Return
count_statement-returns-in-Return t c =
    let is : c.args.item.now ≡ tree.return_ c.item.inside.place c.in-Return.field-0 c.in-Return.field-1 = search rules in
    of_form _ _ _ _ _ _ is (whole_form _ _ _ _ _ _ is c.count_whole-in-Return.ensures)

pub count_statement-returns-in-If : goal.count_statement-returns-in-If
count_statement-returns-in-If t c =
    let is : c.args.item.now ≡ tree.if_ c.item.inside.place c.in-If.test c.deref.result.now = search rules in
    of_form _ _ _ _ _ _ is c.count_if.ensures

pub count_statement-returns-in-IfElse : goal.count_statement-returns-in-IfElse
count_statement-returns-in-IfElse t c =
    let is : c.args.item.now ≡ tree.if_else c.item.inside.place c.in-IfElse.test c.deref-in-IfElse.result.now c.deref-in-IfElse-2.result.now = search rules in
    of_form _ _ _ _ _ _ is c.count_if_else.ensures

pub count_statement-returns-in-While : goal.count_statement-returns-in-While
count_statement-returns-in-While t c =
    let is : c.args.item.now ≡ tree.while_ c.item.inside.place c.in-While.test c.in-While.field-1 c.deref-in-While.result.now = search rules in
    of_form _ _ _ _ _ _ is c.count_if-in-While.ensures

pub count_statement-returns-in-For : goal.count_statement-returns-in-For
count_statement-returns-in-For t c =
    let is : c.args.item.now ≡ tree.for_ c.item.inside.place c.in-For.first c.in-For.test c.in-For.step c.in-For.field-3 c.deref-in-For.result.now = search rules in
    of_form _ _ _ _ _ _ is c.count_for.ensures

pub count_statement-returns-in-Block : goal.count_statement-returns-in-Block
count_statement-returns-in-Block t c =
    let is : c.args.item.now ≡ tree.block c.item.inside.place (stmt_list c.in-Block.statements) c.in-Block.field-1 = search rules in
    of_form _ _ _ _ _ _ is c.count_block.ensures
