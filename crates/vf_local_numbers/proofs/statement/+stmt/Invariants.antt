use Rattle.std.proofs.Common.{◌≡◌, ◌+◌, ◌*◌, drop}
use Rattle.vf_syntax.specs.StmtTree.{stmt_nodes, stmt_nodes_all, stmt_list}
use Rattle.vf_local_numbers.specs.Counting.{counted_all, counting_of}
use Rattle.vf_local_numbers.proofs.statement.+stmt.Given as goal

abbrev pub decreases-count_statement : goal.decreases-count_statement
decreases-count_statement l = 6 * stmt_nodes l.item.now

abbrev pub decreases-count_inner : goal.decreases-count_inner
decreases-count_inner l = 6 * stmt_nodes l.item.now + 1

abbrev pub decreases-count_if : goal.decreases-count_if
decreases-count_if l = 6 * stmt_nodes l.yes.now + 2

abbrev pub decreases-count_if_else : goal.decreases-count_if_else
decreases-count_if_else l = 6 * (stmt_nodes l.yes.now + stmt_nodes l.no.now) + 2

abbrev pub decreases-count_turn : goal.decreases-count_turn
decreases-count_turn l = 6 * stmt_nodes l.body.now + 2

abbrev pub decreases-count_for : goal.decreases-count_for
decreases-count_for l = 6 * stmt_nodes l.body.now + 3

abbrev pub decreases-count_block : goal.decreases-count_block
decreases-count_block l = 6 * stmt_nodes_all (stmt_list l.items.now) + 3

abbrev pub decreases-count_statements : goal.decreases-count_statements
decreases-count_statements l = 6 * stmt_nodes_all (stmt_list l.items.now) + 2

-- what the statements that are left come to is what all of them come to
abbrev pub invariant-count_statements-loop-at : goal.invariant-count_statements-loop-at
invariant-count_statements-loop-at l = counted_all l.fn.given (stmt_list (drop l.at l.fn.items)) (counting_of l.counting) ≡ counted_all l.fn.given (stmt_list l.fn.items) (counting_of l.initial.counting)
