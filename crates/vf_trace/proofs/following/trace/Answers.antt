use Rattle.std.proofs.Common.{◌≡◌, length, Some, Err, subst, ◌∙◌, arith}
use Rattle.vf_run.specs.Machines.{machine_program, machine_state}
use Rattle.vf_trace.specs.Sights.{IsSeen}
use Rattle.vf_trace.specs.Traces.{ComesTo, IsTraced}
use Rattle.vf_trace.proofs.Runs.{goes_on, refused_at}
use Rattle.vf_trace.proofs.following.trace.Goals as goal

pub loop-after-preserved : goal.loop-after-preserved
loop-after-preserved c = record {
  same = c.step.ensures.program ∙ c.loop-after.invariant.same;
  comes = goes_on (machine_program c.args.machine.now) (machine_state c.args.machine.now) c.as_slice-events.result.now c.loop-after.after (machine_program c.loop-after.machine) (machine_state c.loop-after.machine) (machine_state c.step.new.self) c.event_at-event.result c.step.result c.in-Ok.field-0 c.loop-after-test.true c.loop-after.invariant.same c.loop-after.invariant.comes c.in_default.ensures c.event_at-event.ensures c.in-Ok.ensures.after c.in-Ok.is c.step.ensures.full;
}

pub returns-in-Some-look-clause-traced : goal.returns-in-Some-look-clause-traced
returns-in-Some-look-clause-traced c =
    let p = machine_program c.args.machine.now in
    let s = machine_state c.args.machine.now in
    let new = machine_state c.loop-after.machine in
    let all = c.as_slice-events.result.now in
    let k_is : c.loop-after.after ≡ length all = omega arith in
    let comes = subst (λ es. ComesTo p s es (length all) new) c.as_slice-events.ensures (subst (λ k. ComesTo p s all k new) k_is c.loop-after.invariant.comes) in
    let seen = subst (λ q. IsSeen q new (Some c.in-Some-look.sight)) c.loop-after.invariant.same c.in-Some-look.ensures in
    c.finding_of-in-Some-look.ensures p s new c.args.schedule.now comes seen

pub returns-in-Err-clause-traced : goal.returns-in-Err-clause-traced
returns-in-Err-clause-traced c =
    let p = machine_program c.args.machine.now in
    let s = machine_state c.args.machine.now in
    subst (λ es. IsTraced p s es (machine_state c.step.new.self) (Err c.in-Err.fault)) c.as_slice-events.ensures
    (refused_at p s c.as_slice-events.result.now c.loop-after.after (machine_program c.loop-after.machine) (machine_state c.loop-after.machine) (machine_state c.step.new.self) c.event_at-event.result c.in-Err.fault c.step.result c.loop-after-test.true c.loop-after.invariant.same c.loop-after.invariant.comes c.in_default.ensures c.event_at-event.ensures c.in-Err.ensures.unchanged c.in-Err.is c.step.ensures.capacity)
