use Rattle.std.proofs.Common.{◌≡◌, ℕ, Err, refl, sym, subst, rules}
use Rattle.vf_declared.specs.declared.scope.Scope.{Scope}
use Rattle.vf_syntax.specs.StmtTree.{StmtTree, stmt_list}
use Rattle.vf_syntax.specs.StmtTree as tree
use Rattle.vf_walk.specs.Statements.{count, WalksForBody, WalksStmt}
use Rattle.vf_walk.specs.Walking.{Follows}
use Rattle.vf_walk.proofs.Loops.{stmts_more}
use Rattle.vf_walk.proofs.Steps.{end_here, end_of, last, next, next_of}
use Rattle.vf_walk.proofs.statement.+stmt.Goals as goal

pub walk_statements-loop-at-preserved : goal.walk_statements-loop-at-preserved
walk_statements-loop-at-preserved g t c = stmts_more (g.A.Annotations.meanings c.args.annotations.now) c.args.given c.args.statements.now c.loop-at.at _ _ _ _ (sym c.in-Some.ensures) c.in_ok-walk_statement.ensures c.loop-at.invariant

pub walk_inner-returns : goal.walk_inner-returns
walk_inner-returns g t c = last c.in_ok-walk_statement.ensures (search rules)

pub walk_block-returns : goal.walk_block-returns
walk_block-returns g t c = last c.in_ok-walk_statements.ensures (search rules)

pub walk_if-returns : goal.walk_if-returns
walk_if-returns g t c = next_of c.in_ok-walk_condition.ensures c.walk_inner.ensures

pub walk_branches-returns-in_err-walk_condition : goal.walk_branches-returns-in_err-walk_condition
walk_branches-returns-in_err-walk_condition g t c =
    let is : c.from_residual.result ≡ Err c.in_err-walk_condition.field-0.0 = search rules in
    end_here {a = c.args.scope.now} {t = c.args.scope.now} (end_of _ _ c.in_err-walk_condition.ensures refl) is

pub walk_branches-returns-in_err-walk_inner : goal.walk_branches-returns-in_err-walk_inner
walk_branches-returns-in_err-walk_inner g t c =
    let is : c.from_residual-in_err-walk_inner.result ≡ Err c.in_err-walk_inner.field-0.0 = search rules in
    end_here {t = c.walk_inner.new.scope} (next_of c.in_ok-walk_condition.ensures c.in_err-walk_inner.ensures) is

pub walk_branches-returns : goal.walk_branches-returns
walk_branches-returns g t c = next (next_of c.in_ok-walk_condition.ensures c.in_ok-walk_inner.ensures) c.walk_inner-2.ensures

pub walk_while-returns : goal.walk_while-returns
walk_while-returns g t c = next c.in_ok-walk_while_head.ensures c.walk_inner.ensures

pub walk_for-returns-in_err-walk_for_head : goal.walk_for-returns-in_err-walk_for_head
walk_for-returns-in_err-walk_for_head g t c =
    let is : c.from_residual.result ≡ Err c.in_err-walk_for_head.field-0.0 = search rules in
    end_here {t = c.walk_for_head.new.scope} c.in_err-walk_for_head.ensures is

pub walk_for-returns : goal.walk_for-returns
walk_for-returns g t c =
    let many : c.len-count.result ≡ count c.args.scope.now = search rules in
    next c.in_ok-walk_for_head.ensures (subst (λ (k : ℕ). Follows {A = Scope} (WalksForBody c.args.head.now.start.now k (WalksStmt (g.A.Annotations.meanings c.args.annotations.now) c.args.given c.args.body.now) c.walk_for_head.new.scope) c.walk_for_body.result c.walk_for_body.new.scope) many c.walk_for_body.ensures)

pub walk_statement-returns-in-If : goal.walk_statement-returns-in-If
walk_statement-returns-in-If g t c =
    let is : c.args.statement.now ≡ tree.if_ c.statement.inside.place c.in-If.test c.deref.result.now = search rules in
    subst (λ (x : StmtTree). Follows {A = Scope} (WalksStmt (g.A.Annotations.meanings c.args.annotations.now) c.args.given x c.args.scope.now) c.walk_if.result c.walk_if.new.scope) (sym is) c.walk_if.ensures

pub walk_statement-returns-in-IfElse : goal.walk_statement-returns-in-IfElse
walk_statement-returns-in-IfElse g t c =
    let is : c.args.statement.now ≡ tree.if_else c.statement.inside.place c.in-IfElse.test c.deref-in-IfElse.result.now c.deref-in-IfElse-2.result.now = search rules in
    subst (λ (x : StmtTree). Follows {A = Scope} (WalksStmt (g.A.Annotations.meanings c.args.annotations.now) c.args.given x c.args.scope.now) c.walk_branches.result c.walk_branches.new.scope) (sym is) c.walk_branches.ensures

pub walk_statement-returns-in-While : goal.walk_statement-returns-in-While
walk_statement-returns-in-While g t c =
    let is : c.args.statement.now ≡ tree.while_ c.statement.inside.place c.in-While.test c.in-While.invariant c.deref-in-While.result.now = search rules in
    subst (λ (x : StmtTree). Follows {A = Scope} (WalksStmt (g.A.Annotations.meanings c.args.annotations.now) c.args.given x c.args.scope.now) c.walk_while.result c.walk_while.new.scope) (sym is) c.walk_while.ensures

pub walk_statement-returns-in-For : goal.walk_statement-returns-in-For
walk_statement-returns-in-For g t c =
    let is : c.args.statement.now ≡ tree.for_ c.statement.inside.place c.in-For.start c.in-For.test c.in-For.step c.in-For.invariant c.deref-in-For.result.now = search rules in
    subst (λ (x : StmtTree). Follows {A = Scope} (WalksStmt (g.A.Annotations.meanings c.args.annotations.now) c.args.given x c.args.scope.now) c.walk_for.result c.walk_for.new.scope) (sym is) c.walk_for.ensures

pub walk_statement-returns-in-Block : goal.walk_statement-returns-in-Block
walk_statement-returns-in-Block g t c =
    let is : c.args.statement.now ≡ tree.block c.statement.inside.place (stmt_list c.in-Block.statements) c.in-Block.field-1 = search rules in
    subst (λ (x : StmtTree). Follows {A = Scope} (WalksStmt (g.A.Annotations.meanings c.args.annotations.now) c.args.given x c.args.scope.now) c.walk_block.result c.walk_block.new.scope) (sym is) c.walk_block.ensures
