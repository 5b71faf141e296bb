use Rattle.vf_refuting.proofs.Ending.{difference_ends}
use Rattle.vf_refuting.proofs.Running.{logged, run_integer}
use Rattle.vf_refuting.proofs.verdict.end_at_difference.Goals as goal

pub derive_both-requires-clause-left_integer : goal.derive_both-requires-clause-left_integer
derive_both-requires-clause-left_integer c = run_integer c.args.run.now c.args.x c.requires.run c.requires.fine.3

pub derive_both-requires-clause-right_integer : goal.derive_both-requires-clause-right_integer
derive_both-requires-clause-right_integer c = run_integer c.args.run.now c.args.y c.requires.run c.requires.fine.4

pub returns-clause-goes : goal.returns-clause-goes
returns-clause-goes c = logged c.args.run.now c.derive_both.new.log c.requires.run c.in_ok-both.ensures.continued

pub returns-clause-ends : goal.returns-clause-ends
returns-clause-ends c = difference_ends c.args.run.now.log c.derive_both.new.log c.args.i c.args.x c.args.y c.in_ok-both.both.above c.in_ok-both.both.below c.args.by c.in_ok-both.ensures.continued c.requires.fact (c.in_ok-both.ensures.derived c.args.by c.requires.contradicted.0 c.requires.contradicted.1)
