use Rattle.vf_refuting.proofs.Ending.{clash_ends}
use Rattle.vf_refuting.proofs.verdict.end_at_clash.Goals as goal

pub returns-clause-ends : goal.returns-clause-ends
returns-clause-ends c = clash_ends c.args.run.now c.derive_equal.new.run c.args.pair.left c.args.pair.right c.in_ok-step.step c.requires.run c.in_ok-step.ensures.goes c.requires.clash c.in_ok-step.ensures.derived
