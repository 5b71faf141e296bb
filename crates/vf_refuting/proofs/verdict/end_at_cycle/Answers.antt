use Rattle.vf_arith.specs.Paths.{HasNegativeCycle}
use Rattle.vf_explain.specs.Reached.{IsBelowItself}
use Rattle.vf_explain.proofs.Closing.{told_some}
use Rattle.vf_refuting.proofs.Ending.{cycle_ends}
use Rattle.vf_refuting.proofs.Running.{logged}
use Rattle.vf_refuting.proofs.verdict.end_at_cycle.Goals as goal

pub returns-clause-goes : goal.returns-clause-goes
returns-clause-goes c = logged c.args.run.now c.why_conflict.new.log c.requires.run c.in_ok-step.ensures.continued

pub returns-clause-ends : goal.returns-clause-ends
returns-clause-ends c =
    let b = told_some c.in_ok-step.field-0 c.in-Some.step _ (λ s. HasNegativeCycle c.args.run.now.bounds.edges × IsBelowItself c.why_conflict.new.log.known s) c.in-Some.is c.in_ok-step.ensures.why in
    cycle_ends c.why_conflict.new.log.nodes c.why_conflict.new.log.facts c.why_conflict.new.log.known c.in-Some.step b.1
