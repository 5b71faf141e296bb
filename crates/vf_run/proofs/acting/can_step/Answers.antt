use Rattle.std.proofs.Common.{not, sym, ap, ◌∙◌, ⊎_elim}
use Rattle.std.proofs.lemmas.Bool.{true≢false, cases_Bool}
use Rattle.vf_core.specs.Shown.{program_of}
use Rattle.vf_engine.specs.States.{state_of}
use Rattle.vf_run.proofs.Steppers.{steps_by, waits_by}
use Rattle.vf_run.proofs.acting.can_step.Goals as goal

pub returns : goal.returns
returns c =
    let names = c.args.program.now.unit.names in
    let p = program_of c.args.program.now.unit in
    let s = state_of names c.args.running.now in
    ⊎_elim
    (λ yes. ap not yes ∙ sym (waits_by p s c.args.thread (c.next_effect-found.ensures.waits (c.is_waiting.ensures.0 yes))))
    (λ no. ap not no ∙ sym (steps_by names p c.args.running.now c.args.thread c.next_effect-found.result c.requires c.next_effect-found.ensures.acts c.next_effect-found.ensures.framed c.next_effect-found.ensures.known
    (λ w. true≢false (sym (c.is_waiting.ensures.1 w) ∙ no))))
    (cases_Bool c.is_waiting.result)
