-- Steps, one after another.
use Rattle.std.proofs.Common.{refl, ◌∙◌, arith}
use Rattle.vf_asking.proofs.Seeing.{grew_path, grew_node, grew_begun, grew_on, grew_not}
use Rattle.vf_exec.proofs.Bodies.{runs_start, runs_set, runs_set_fails, runs_leave, runs_leave_fails, runs_end}
use Rattle.vf_exec.proofs.body.check_steps.Goals as goal

pub loop-step-init : goal.loop-step-init
loop-step-init g c = record {
  begun = c.requires.begun;
  there = c.requires.there;
  first_there = c.requires.there;
  locals = c.requires.locals;
  reaches = rw c.as_slice-steps.ensures (runs_start _ _ _ _ _ _ _ _ refl);
  grew = grew_not _;
  origin = refl;
}

pub loop-step-preserved : goal.loop-step-preserved
loop-step-preserved g c = record {
  begun = grew_begun _ _ c.evaluate.ensures.grew c.loop-step.invariant.begun;
  there = grew_node _ _ _ c.evaluate.ensures.grew c.loop-step.invariant.there;
  first_there = c.loop-step.invariant.first_there;
  locals = c.set_local.ensures.small;
  reaches = runs_set _ _ _ _ _ _ _ _ _ _ _ c.step-item.result _ _ _ _ _ _ (grew_path _ _ _ c.loop-step.invariant.grew c.loop-step.invariant.first_there) c.loop-step-test.true c.step-item.is c.in-Set.is c.set_local.ensures.set c.loop-step.invariant.reaches c.in-Ok.ensures.says;
  grew = grew_on _ _ _ c.loop-step.invariant.grew c.evaluate.ensures.grew;
  origin = c.evaluate.ensures.origin ∙ c.loop-step.invariant.origin;
}

pub returns-in-Err-clause-says : goal.returns-in-Err-clause-says
returns-in-Err-clause-says g c = runs_set_fails _ _ _ _ _ _ _ _ _ _ c.step-item.result _ _ _ _ _ _ (grew_path _ _ _ c.loop-step.invariant.grew c.loop-step.invariant.first_there) c.loop-step-test.true c.step-item.is c.in-Set.is c.loop-step.invariant.reaches c.in-Err.ensures.says

pub returns-clause-says : goal.returns-clause-says
returns-clause-says g c = rw c.refusal.ensures (runs_end _ _ _ _ _ _ _ _ c.loop-step.step-index _ (omega arith) c.loop-step.invariant.reaches)

pub returns-in-Ok-check_leave-clause-says : goal.returns-in-Ok-check_leave-clause-says
returns-in-Ok-check_leave-clause-says g c = runs_leave _ _ _ _ _ _ _ _ _ _ c.step-item.result _ _ _ (grew_path _ _ _ c.loop-step.invariant.grew c.loop-step.invariant.first_there) c.loop-step-test.true c.step-item.is c.in-Return.is c.loop-step.invariant.reaches c.in-Ok-check_leave.ensures.says

pub returns-in-Err-check_leave-clause-says : goal.returns-in-Err-check_leave-clause-says
returns-in-Err-check_leave-clause-says g c = runs_leave_fails _ _ _ _ _ _ _ _ _ _ c.step-item.result _ _ _ _ (grew_path _ _ _ c.loop-step.invariant.grew c.loop-step.invariant.first_there) c.loop-step-test.true c.step-item.is c.in-Return.is c.loop-step.invariant.reaches c.in-Err-check_leave.ensures.says
