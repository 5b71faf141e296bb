use Rattle.std.proofs.Common.{◌≡◌, ◌+◌, ◌-◌, ◌*◌}
use Rattle.vf_cursor.specs.Parsing.{many_at, item_step}
use Rattle.vf_parse_statement.specs.Parsers.{is_inside, stmt_at, stmts_at}
use Rattle.vf_parse_statement.proofs.statements.+statement.Given as goal

abbrev pub decreases-statement : goal.decreases-statement
decreases-statement g l = 8 * l.depth + 1

abbrev pub decreases-real_statement : goal.decreases-real_statement
decreases-real_statement g l = 8 * l.depth

abbrev pub decreases-form : goal.decreases-form
decreases-form g l = 8 * l.depth + 7

abbrev pub decreases-if_statement : goal.decreases-if_statement
decreases-if_statement g l = 8 * l.depth + 5

abbrev pub decreases-branches : goal.decreases-branches
decreases-branches g l = 8 * l.depth + 4

abbrev pub decreases-other_branch : goal.decreases-other_branch
decreases-other_branch g l = 8 * l.depth + 3

abbrev pub decreases-while_statement : goal.decreases-while_statement
decreases-while_statement g l = 8 * l.depth + 5

abbrev pub decreases-for_statement : goal.decreases-for_statement
decreases-for_statement g l = 8 * l.depth + 5

abbrev pub decreases-block : goal.decreases-block
decreases-block g l = 8 * l.depth + 5

abbrev pub decreases-body : goal.decreases-body
decreases-body g l = 8 * l.depth + 3

abbrev pub decreases-statements : goal.decreases-statements
decreases-statements g l = 8 * l.depth + 2

abbrev pub invariant-statements-loop-i : goal.invariant-statements-loop-i
invariant-statements-loop-i g l = many_at (l.most - l.i) is_inside (item_step (stmt_at l.grammar g.G.GhostText.command_at g.G.GhostText.invariant_at l.depth)) l.read l.cursor.left.now ≡ stmts_at l.grammar g.G.GhostText.command_at g.G.GhostText.invariant_at l.depth l.fn.cursor.left.now
