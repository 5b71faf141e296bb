use Rattle.std.proofs.Common.{◌+◌, ◌*◌, drop}
use Rattle.vf_syntax.specs.StmtTree.{stmt_nodes, stmt_nodes_all, stmt_list}
use Rattle.vf_lower.specs.declared.draft.Draft.{Draft}
use Rattle.vf_lower.specs.Settings.{Setting}
use Rattle.vf_lower.specs.Statements.{statements}
use Rattle.vf_lower.specs.Did.{Did}
use Rattle.vf_bodies.specs.Standing.{standing_of}
use Rattle.vf_bodies.proofs.statement.+stmt.Given as goal

abbrev pub decreases-lower_statement : goal.decreases-lower_statement
decreases-lower_statement l = 6 * stmt_nodes l.item.now

abbrev pub decreases-lower_inner : goal.decreases-lower_inner
decreases-lower_inner l = 6 * stmt_nodes l.item.now + 1

abbrev pub decreases-lower_if : goal.decreases-lower_if
decreases-lower_if l = 6 * stmt_nodes l.yes.now + 2

abbrev pub decreases-lower_if_else : goal.decreases-lower_if_else
decreases-lower_if_else l = 6 * (stmt_nodes l.yes.now + stmt_nodes l.no.now) + 2

abbrev pub decreases-lower_while : goal.decreases-lower_while
decreases-lower_while l = 6 * stmt_nodes l.body.now + 2

abbrev pub decreases-lower_turn : goal.decreases-lower_turn
decreases-lower_turn l = 6 * stmt_nodes l.body.now + 2

abbrev pub decreases-lower_for_loop : goal.decreases-lower_for_loop
decreases-lower_for_loop l = 6 * stmt_nodes l.body.now + 3

abbrev pub decreases-lower_for : goal.decreases-lower_for
decreases-lower_for l = 6 * stmt_nodes l.body.now + 4

abbrev pub decreases-lower_block : goal.decreases-lower_block
decreases-lower_block l = 6 * stmt_nodes_all (stmt_list l.items.now) + 3

abbrev pub decreases-lower_statements : goal.decreases-lower_statements
decreases-lower_statements l = 6 * stmt_nodes_all (stmt_list l.items.now) + 2

-- what the statements that are left become is what is left of all of them
abbrev pub invariant-lower_statements-loop-at : goal.invariant-lower_statements-loop-at
invariant-lower_statements-loop-at l = (e : Draft) (a : Setting) → Did (statements (standing_of l.around) l.fn.given (stmt_list (drop l.at l.fn.items))) l.draft e a → Did (statements (standing_of l.initial.around) l.fn.given (stmt_list l.fn.items)) l.initial.draft e a
