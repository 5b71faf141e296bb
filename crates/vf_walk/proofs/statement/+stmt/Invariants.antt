use Rattle.std.proofs.Common.{◌+◌, ◌*◌, drop}
use Rattle.vf_syntax.specs.StmtTree.{stmt_nodes, stmt_nodes_all, stmt_list}
use Rattle.vf_walk.specs.Statements.{WalksStmts}
use Rattle.vf_walk.proofs.Loops.{Leads}
use Rattle.vf_walk.proofs.statement.+stmt.Given as goal

abbrev pub decreases-walk_statement : goal.decreases-walk_statement
decreases-walk_statement g l = 4 * stmt_nodes l.statement.now

abbrev pub decreases-walk_inner : goal.decreases-walk_inner
decreases-walk_inner g l = 4 * stmt_nodes l.statement.now + 1

abbrev pub decreases-walk_if : goal.decreases-walk_if
decreases-walk_if g l = 4 * stmt_nodes l.yes.now + 2

abbrev pub decreases-walk_branches : goal.decreases-walk_branches
decreases-walk_branches g l = 4 * (stmt_nodes l.yes.now + stmt_nodes l.no.now) + 2

abbrev pub decreases-walk_while : goal.decreases-walk_while
decreases-walk_while g l = 4 * stmt_nodes l.body.now + 2

abbrev pub decreases-walk_for_body : goal.decreases-walk_for_body
decreases-walk_for_body g l = 4 * stmt_nodes l.body.now + 2

abbrev pub decreases-walk_for : goal.decreases-walk_for
decreases-walk_for g l = 4 * stmt_nodes l.body.now + 3

abbrev pub decreases-walk_block : goal.decreases-walk_block
decreases-walk_block g l = 4 * stmt_nodes_all (stmt_list l.statements.now) + 3

abbrev pub decreases-walk_statements : goal.decreases-walk_statements
decreases-walk_statements g l = 4 * stmt_nodes_all (stmt_list l.statements.now) + 2

-- whatever the statements that are left may come to, all of them may come to
abbrev pub invariant-walk_statements-loop-at : goal.invariant-walk_statements-loop-at
invariant-walk_statements-loop-at g l = Leads (WalksStmts (g.A.Annotations.meanings l.fn.annotations) l.fn.given (stmt_list (drop l.at l.fn.statements)) l.scope) (WalksStmts (g.A.Annotations.meanings l.fn.annotations) l.fn.given (stmt_list l.fn.statements) l.initial.scope)
