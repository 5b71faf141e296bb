use Rattle.std.proofs.Common.{◌+◌, ◌*◌, drop}
use Rattle.vf_syntax.specs.StmtTree.{stmt_nodes, stmt_nodes_all, stmt_list}
use Rattle.vf_resolved_bodies.specs.Statements.{TellsStmts}
use Rattle.vf_resolved_bodies.specs.Telling.{telling_of}
use Rattle.vf_resolved_bodies.proofs.Loops.{Leads}
use Rattle.vf_resolved_bodies.proofs.statements.+stmt.Given as goal

abbrev pub decreases-tell_statement : goal.decreases-tell_statement
decreases-tell_statement l = 4 * stmt_nodes l.statement.now

abbrev pub decreases-tell_inner : goal.decreases-tell_inner
decreases-tell_inner l = 4 * stmt_nodes l.statement.now + 1

abbrev pub decreases-tell_branches : goal.decreases-tell_branches
decreases-tell_branches l = 4 * (stmt_nodes l.yes.now + stmt_nodes l.no.now) + 2

abbrev pub decreases-tell_turn : goal.decreases-tell_turn
decreases-tell_turn l = 4 * stmt_nodes l.body.now + 2

abbrev pub decreases-tell_for : goal.decreases-tell_for
decreases-tell_for l = 4 * stmt_nodes l.body.now + 3

abbrev pub decreases-tell_block : goal.decreases-tell_block
decreases-tell_block l = 4 * stmt_nodes_all (stmt_list l.statements.now) + 3

abbrev pub decreases-statements_told : goal.decreases-statements_told
decreases-statements_told l = 4 * stmt_nodes_all (stmt_list l.statements.now) + 2

-- whatever the statements that are left may come to, all of them may come to
abbrev pub invariant-statements_told-loop-at : goal.invariant-statements_told-loop-at
invariant-statements_told-loop-at l = Leads (TellsStmts l.fn.paths (stmt_list (drop l.at l.fn.statements)) (telling_of l.telling)) (TellsStmts l.fn.paths (stmt_list l.fn.statements) (telling_of l.initial.telling))
