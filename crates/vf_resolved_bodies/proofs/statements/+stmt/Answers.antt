use Rattle.std.proofs.Common.{◌≡◌, ℕ, Err, sym, ap, ◌∙◌, Ok, rules}
use Rattle.vf_syntax.specs.StmtTree.{stmt_list}
use Rattle.vf_syntax.specs.StmtTree as tree
use Rattle.vf_walk.proofs.Steps.{end_here, last, next}
use Rattle.vf_resolved_bodies.specs.Telling.{leaving, telling_of}
use Rattle.vf_resolved_bodies.proofs.Loops.{stmts_more}
use Rattle.vf_resolved_bodies.proofs.Steps.{as_stmt, for_goes, for_stops}
use Rattle.vf_resolved_bodies.proofs.statements.+stmt.Goals as goal

pub statements_told-loop-at-preserved : goal.statements_told-loop-at-preserved
statements_told-loop-at-preserved t c = stmts_more c.args.paths.now c.args.statements.now c.loop-at.at _ _ _ _ (sym c.in-Some.ensures) c.in_ok-tell_statement.ensures c.loop-at.invariant

pub tell_inner-returns : goal.tell_inner-returns
tell_inner-returns t c = last c.in_ok-tell_statement.ensures (ap Ok (sym (c.leave_from.ensures ∙ ap (λ (n : ℕ). leaving n (telling_of c.tell_statement.new.telling)) c.len-count.ensures)))

pub tell_block-returns : goal.tell_block-returns
tell_block-returns t c = last c.in_ok-statements_told.ensures (ap Ok (sym (c.leave_from.ensures ∙ ap (λ (n : ℕ). leaving n (telling_of c.statements_told.new.telling)) c.len-count.ensures)))

pub tell_branches-returns : goal.tell_branches-returns
tell_branches-returns t c = next c.in_ok-tell_inner.ensures c.tell_inner-2.ensures

pub tell_turn-returns-in_err-tell_loop : goal.tell_turn-returns-in_err-tell_loop
tell_turn-returns-in_err-tell_loop t c =
    let is : c.from_residual.result ≡ Err c.in_err-tell_loop.field-0.0 = search rules in
    end_here {t = telling_of c.tell_loop.new.telling} c.in_err-tell_loop.ensures is

pub tell_turn-returns : goal.tell_turn-returns
tell_turn-returns t c = next c.in_ok-tell_loop.ensures c.tell_inner.ensures

pub tell_for-returns-in_err-tell_turn : goal.tell_for-returns-in_err-tell_turn
tell_for-returns-in_err-tell_turn t c =
    let is : c.from_residual-in_err-tell_turn.result ≡ Err c.in_err-tell_turn.field-0.0 = search rules in
    for_stops c.args.paths.now c.args.invariant.now c.args.body.now c.args.first.now _ _ _ _ _ _ c.in_ok-tell_first.ensures c.in_err-tell_turn.ensures is

pub tell_for-returns : goal.tell_for-returns
tell_for-returns t c = for_goes c.args.paths.now c.args.invariant.now c.args.body.now c.args.first.now _ _ _ _ _ c.len-count.ensures c.in_ok-tell_first.ensures c.in_ok-tell_turn.ensures c.in_ok-leave_first.ensures

pub tell_statement-returns-in-If : goal.tell_statement-returns-in-If
tell_statement-returns-in-If t c =
    let is : c.args.statement.now ≡ tree.if_ c.statement.inside.place c.in-If.field-0 c.deref.result.now = search rules in
    as_stmt c.args.paths.now _ _ _ _ _ is c.tell_inner.ensures

pub tell_statement-returns-in-IfElse : goal.tell_statement-returns-in-IfElse
tell_statement-returns-in-IfElse t c =
    let is : c.args.statement.now ≡ tree.if_else c.statement.inside.place c.in-IfElse.field-0 c.deref-in-IfElse.result.now c.deref-in-IfElse-2.result.now = search rules in
    as_stmt c.args.paths.now _ _ _ _ _ is c.tell_branches.ensures

pub tell_statement-returns-in-While : goal.tell_statement-returns-in-While
tell_statement-returns-in-While t c =
    let is : c.args.statement.now ≡ tree.while_ c.statement.inside.place c.in-While.field-0 c.in-While.invariant c.deref-in-While.result.now = search rules in
    as_stmt c.args.paths.now _ _ _ _ _ is c.tell_turn.ensures

pub tell_statement-returns-in-For : goal.tell_statement-returns-in-For
tell_statement-returns-in-For t c =
    let is : c.args.statement.now ≡ tree.for_ c.statement.inside.place c.in-For.first c.in-For.field-1 c.in-For.field-2 c.in-For.invariant c.deref-in-For.result.now = search rules in
    as_stmt c.args.paths.now _ _ _ _ _ is c.tell_for.ensures

pub tell_statement-returns-in-Block : goal.tell_statement-returns-in-Block
tell_statement-returns-in-Block t c =
    let is : c.args.statement.now ≡ tree.block c.statement.inside.place (stmt_list c.in-Block.statements) c.in-Block.field-1 = search rules in
    as_stmt c.args.paths.now _ _ _ _ _ is c.tell_block.ensures
