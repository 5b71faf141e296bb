use Rattle.vf_refuting.proofs.Running.{logged, goes_more}
use Rattle.vf_refuting.proofs.gather.add_offset.Goals as goal

pub add_both-requires-clause-run : goal.add_both-requires-clause-run
add_both-requires-clause-run c = (logged c.args.run.now c.derive_offset.new.log c.requires.run c.in_ok-reasons.ensures.continued).is

pub returns-clause-goes : goal.returns-clause-goes
returns-clause-goes c = goes_more (logged c.args.run.now c.derive_offset.new.log c.requires.run c.in_ok-reasons.ensures.continued) c.in_ok-add_both.ensures.goes
