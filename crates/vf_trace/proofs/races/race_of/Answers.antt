use Rattle.std.proofs.Common.{◌≡◌, ◌<◌, Some, refl, sym, ap, ◌∙◌, arith}
use Rattle.vf_model.specs.Races.{next_touch}
use Rattle.vf_run.specs.Machines.{machine_program, machine_state}
use Rattle.vf_looks.specs.Looks.{touch_of}
use Rattle.vf_trace.proofs.Racing.{race_at, clash_of, none_is_none}
use Rattle.vf_trace.proofs.races.race_of.Goals as goal

pub returns-in_default-clause-none : goal.returns-in_default-clause-none
returns-in_default-clause-none c = λ other is less.
    let p = machine_program c.args.machine.now in
    let s = machine_state c.args.machine.now in
    none_is_none (c.in_default.ensures ∙ sym (ap (next_touch p s) is) ∙ other.first_touches)

pub returns-in-None-clause-none : goal.returns-in-None-clause-none
returns-in-None-clause-none c = λ other is less.
    let p = machine_program c.args.machine.now in
    let s = machine_state c.args.machine.now in
    let touches : next_touch p s c.args.first ≡ Some (touch_of c.in-Some.touch) = sym c.in-Some.ensures in
    c.in-None.ensures.none other.second _ (omega (arith, less)) (clash_of p s (touch_of c.in-Some.touch) c.args.first touches other is)

pub returns-in-Some-racer_from-clause-found : goal.returns-in-Some-racer_from-clause-found
returns-in-Some-racer_from-clause-found c =
    let p = machine_program c.args.machine.now in
    let s = machine_state c.args.machine.now in
    let touches : next_touch p s c.args.first ≡ Some (touch_of c.in-Some.touch) = sym c.in-Some.ensures in
    let found = c.in-Some-racer_from.ensures.found in
    let far = found.0 in
    let less : c.args.first < c.in-Some-racer_from.racer.thread = omega (arith, far) in
    (refl, less, race_at p s (touch_of c.in-Some.touch) c.args.first c.in-Some-racer_from.racer.thread c.in-Some-racer_from.racer.place touches less found.1)

pub returns-in-Some-racer_from-clause-least : goal.returns-in-Some-racer_from-clause-least
returns-in-Some-racer_from-clause-least c = λ other is less.
    let p = machine_program c.args.machine.now in
    let s = machine_state c.args.machine.now in
    let touches : next_touch p s c.args.first ≡ Some (touch_of c.in-Some.touch) = sym c.in-Some.ensures in
    c.in-Some-racer_from.ensures.least other.second _ (omega (arith, less)) (clash_of p s (touch_of c.in-Some.touch) c.args.first touches other is)
