use Rattle.vf_core.specs.Shown.{program_of}
use Rattle.vf_engine.specs.States.{state_of}
use Rattle.std.proofs.Common.{subst}
use Rattle.vf_run.specs.Acting.{KnownOrFault}
use Rattle.vf_looks.proofs.Looking.{touches_nothing, touched, err_touches}
use Rattle.vf_looks.proofs.touches.touch_at.Goals as goal

pub returns-in-Some : goal.returns-in-Some
returns-in-Some c =
    touches_nothing (program_of c.args.program.now.unit) (state_of c.args.program.now.unit.names c.args.running.now) c.args.thread c.args.running.now.end c.in-Some.field-0 c.in-Some.is

pub returns-in-Ok : goal.returns-in-Ok
returns-in-Ok c =
    let names = c.args.program.now.unit.names in
    let p = program_of c.args.program.now.unit in
    let found = c.next_effect.ensures in
    touched names p c.args.running.now c.args.thread c.next_effect.result c.in-Ok.effect _ c.in-None.is c.in-Ok.is found.acts found.framed found.waits
    (λ turn. c.touch_by.ensures names p turn (subst (λ x. KnownOrFault p x) c.in-Ok.is found.known))

pub returns-in-Err : goal.returns-in-Err
returns-in-Err c =
    let names = c.args.program.now.unit.names in
    let p = program_of c.args.program.now.unit in
    let found = c.next_effect.ensures in
    err_touches names p c.args.running.now c.args.thread c.next_effect.result c.in-Err.field-0 c.in-None.is c.in-Err.is found.acts found.framed
