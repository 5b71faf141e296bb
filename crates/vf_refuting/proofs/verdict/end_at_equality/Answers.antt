use Rattle.vf_refuting.proofs.Ending.{equality_ends}
use Rattle.vf_refuting.proofs.verdict.end_at_equality.Goals as goal

pub returns-clause-ends : goal.returns-clause-ends
returns-clause-ends c = equality_ends c.args.run.now c.derive_equal.new.run c.args.i c.args.a c.args.b c.in_ok-step.step c.in_ok-step.ensures.goes c.requires.fact c.in_ok-step.ensures.derived
