use Rattle.std.proofs.Common.{◌≡◌, Some, None, Ok, inl, sym, ap, ◌∙◌}
use Rattle.std.specs.Option.{option_copied}
use Rattle.vf_core.specs.Shown.{program_of}
use Rattle.vf_engine.specs.States.{turn_of, callers_of}
use Rattle.vf_engine.specs.Effects.{act_of_result}
use Rattle.vf_engine.specs.declared.effect.Effect.TheVariants as effects
use Rattle.vf_run.specs.Acting.{top_frame}
use Rattle.vf_run.proofs.Steppers.{framed_by, idle_by, none_acts, acts_by}
use Rattle.vf_run.proofs.acting.next_effect.Goals as goal

pub returns-in-None-clause-acts : goal.returns-in-None-clause-acts
returns-in-None-clause-acts c =
    let none : top_frame c.args.running.now c.args.thread ≡ None = sym c.top_of.ensures ∙ ap option_copied c.in-None.is in
    none_acts c.args.program.now.unit.names (program_of c.args.program.now.unit) c.args.running.now c.args.thread (Ok effects.Wait) none

pub returns-in-None-clause-waits : goal.returns-in-None-clause-waits
returns-in-None-clause-waits c = λ w.
    let none : top_frame c.args.running.now c.args.thread ≡ None = sym c.top_of.ensures ∙ ap option_copied c.in-None.is in
    idle_by c.args.program.now.unit.names (program_of c.args.program.now.unit) c.args.running.now c.args.thread none

pub returns-in-Some-clause-framed : goal.returns-in-Some-clause-framed
returns-in-Some-clause-framed c =
    let some : top_frame c.args.running.now c.args.thread ≡ Some c.in-Some.frame.now = sym c.top_of.ensures ∙ ap option_copied c.in-Some.is in
    inl (framed_by c.args.running.now c.args.thread c.in-Some.frame.now some)

pub returns-in-Some-clause-acts : goal.returns-in-Some-clause-acts
returns-in-Some-clause-acts c =
    let some : top_frame c.args.running.now c.args.thread ≡ Some c.in-Some.frame.now = sym c.top_of.ensures ∙ ap option_copied c.in-Some.is in
    acts_by c.args.program.now.unit.names (program_of c.args.program.now.unit) c.args.running.now c.args.thread c.in-Some.frame.now c.effect_in.result c.known.result some
    c.effect_in.ensures (c.known.ensures.same c.args.program.now.unit.names)

pub returns-in-Some-clause-waits : goal.returns-in-Some-clause-waits
returns-in-Some-clause-waits c = λ w.
    let names = c.args.program.now.unit.names in
    let p = program_of c.args.program.now.unit in
    let r = c.args.running.now in
    let some : top_frame r c.args.thread ≡ Some c.in-Some.frame.now = sym c.top_of.ensures ∙ ap option_copied c.in-Some.is in
    let f = framed_by r c.args.thread c.in-Some.frame.now some in
    let act = acts_by names p r c.args.thread c.in-Some.frame.now c.effect_in.result c.known.result some c.effect_in.ensures (c.known.ensures.same names) in
    act f.of f.frame f.at f.framed ∙ ap (act_of_result names p (turn_of names r c.args.thread f.frame (callers_of names f.of.callers.items))) w
