use Rattle.std.proofs.Common.{◌≡◌, drop}
use Rattle.std.specs.Option.{option_or}
use Rattle.vf_syntax.specs.StmtTree.{stmt_nodes, stmt_nodes_all, stmt_list}
use Rattle.vf_order.specs.Statements.{unordered_stmts}
use Rattle.vf_order.proofs.stmt.+stmt.Given as goal

abbrev pub decreases-unordered_statement : goal.decreases-unordered_statement
decreases-unordered_statement l = stmt_nodes l.statement.now

abbrev pub decreases-unordered_statements : goal.decreases-unordered_statements
decreases-unordered_statements l = stmt_nodes_all (stmt_list l.statements.now)

-- what is refused and the statements that are left come to the same
abbrev pub invariant-unordered_statements-loop-at : goal.invariant-unordered_statements-loop-at
invariant-unordered_statements-loop-at l = option_or l.refused (unordered_stmts (stmt_list (drop l.at l.fn.statements))) ≡ unordered_stmts (stmt_list l.fn.statements)
