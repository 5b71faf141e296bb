use Rattle.std.proofs.Common.{sym}
use Rattle.vf_order.proofs.Loops.{stmts_more}
use Rattle.vf_order.proofs.stmt.+stmt.Goals as goal

pub unordered_statements-loop-at-preserved : goal.unordered_statements-loop-at-preserved
unordered_statements-loop-at-preserved t c = stmts_more c.args.statements.now c.loop-at.at _ _ _ _ _ (sym c.in-Some.ensures) c.unordered_statement-found.ensures c.or-refused.ensures c.loop-at.invariant
