use Rattle.std.proofs.Common.{◌≡◌, ◌<◌, subst, ⊎_elim, arith}
use Rattle.std.proofs.lemmas.Bool.{cases_lt}
use Rattle.vf_run.specs.Machines.{machine_program, machine_state}
use Rattle.vf_looks.specs.Looks.{touch_of}
use Rattle.vf_trace.specs.Touching.{ClashesAt}
use Rattle.vf_trace.proofs.Racing.{touch_started}
use Rattle.vf_trace.proofs.races.racer_from.Goals as goal

pub returns-in-Some-clause-least : goal.returns-in-Some-clause-least
returns-in-Some-clause-least c = λ t place from h.
    ⊎_elim (λ less. absurd (c.loop-thread.invariant t place from less h)) (λ more. more) (cases_lt t c.loop-thread.thread)

pub loop-thread-preserved : goal.loop-thread-preserved
loop-thread-preserved c = λ t place from below h.
    ⊎_elim (λ less. c.loop-thread.invariant t place from less h)
    (λ more. let same : t ≡ c.loop-thread.thread = omega (arith, more, below) in
    c.in_default.ensures.none place (subst (λ k. ClashesAt (machine_program c.args.machine.now) (machine_state c.args.machine.now) (touch_of c.args.touch) k place) same h))
    (cases_lt t c.loop-thread.thread)

pub returns-clause-none : goal.returns-clause-none
returns-clause-none c = λ t place from h.
    let there = touch_started (machine_program c.args.machine.now) (machine_state c.args.machine.now) t h.two h.touches in
    let low : t < c.loop-thread.thread = omega (arith, there) in
    c.loop-thread.invariant t place from low h
