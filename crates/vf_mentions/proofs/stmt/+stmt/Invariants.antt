use Rattle.std.proofs.Common.{◌≡◌, ◌+◌, ◌*◌, ◌≤◌, ◌++◌, drop, length, take}
use Rattle.vf_syntax.specs.StmtTree.{stmt_nodes, stmt_nodes_all, stmt_list}
use Rattle.vf_mentions.specs.Bodies.{mentioned_in_stmts}
use Rattle.vf_mentions.proofs.stmt.+stmt.Given as goal

abbrev pub decreases-find_in_statement : goal.decreases-find_in_statement
decreases-find_in_statement l = 4 * stmt_nodes l.statement.now

abbrev pub decreases-find_in_inner : goal.decreases-find_in_inner
decreases-find_in_inner l = 4 * stmt_nodes l.statement.now + 1

abbrev pub decreases-find_in_if : goal.decreases-find_in_if
decreases-find_in_if l = 4 * stmt_nodes l.yes.now + 2

abbrev pub decreases-find_in_branches : goal.decreases-find_in_branches
decreases-find_in_branches l = 4 * (stmt_nodes l.yes.now + stmt_nodes l.no.now) + 2

abbrev pub decreases-find_in_while : goal.decreases-find_in_while
decreases-find_in_while l = 4 * stmt_nodes l.body.now + 2

abbrev pub decreases-find_in_for : goal.decreases-find_in_for
decreases-find_in_for l = 4 * stmt_nodes l.body.now + 2

abbrev pub decreases-find_in_block : goal.decreases-find_in_block
decreases-find_in_block l = 4 * stmt_nodes_all (stmt_list l.statements.now) + 1

-- what was found and what the statements mention that are left; the first locals are those that were visible at the beginning
abbrev pub invariant-find_in_block-loop-at : goal.invariant-find_in_block-loop-at
invariant-find_in_block-loop-at l = record {
  found : l.found ++ mentioned_in_stmts l.locals (stmt_list (drop l.at l.fn.statements)) ≡ l.initial.found ++ mentioned_in_stmts l.initial.locals (stmt_list l.fn.statements);
  begin : take (length l.initial.locals) l.locals ≡ l.initial.locals;
  there : length l.initial.locals ≤ length l.locals;
}
