use Rattle.std.proofs.Common.{sym}
use Rattle.vf_mentions.proofs.Locals.{begin_more, there_more}
use Rattle.vf_mentions.proofs.Loops.{stmts_more}
use Rattle.vf_mentions.proofs.stmt.+stmt.Goals as goal

pub find_in_block-loop-at-preserved : goal.find_in_block-loop-at-preserved
find_in_block-loop-at-preserved t c = record {
  found = stmts_more c.args.statements.now c.loop-at.at c.in-Some.statement.now c.loop-at.locals c.find_in_statement.new.locals _ _ _ (sym c.in-Some.ensures) c.in_ok-find_in_statement.ensures.locals c.in_ok-find_in_statement.ensures.found c.loop-at.invariant.found;
  begin = begin_more c.args.locals.now c.loop-at.locals c.find_in_statement.new.locals c.in-Some.statement.now c.in_ok-find_in_statement.ensures.locals c.loop-at.invariant.there c.loop-at.invariant.begin;
  there = there_more c.args.locals.now c.loop-at.locals c.find_in_statement.new.locals c.in-Some.statement.now c.in_ok-find_in_statement.ensures.locals c.loop-at.invariant.there;
}
