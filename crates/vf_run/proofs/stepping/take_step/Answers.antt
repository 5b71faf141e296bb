use Rattle.std.proofs.Common.{◌≡◌, Ok, refl, sym, ap, subst, ◌∙◌}
use Rattle.std.proofs.lemmas.Bool.{true≢false}
use Rattle.vf_model.specs.State.{Faulted, ended}
use Rattle.vf_model.specs.Runs.{after, happens}
use Rattle.vf_model.proofs.Machine.{steppers_told}
use Rattle.vf_core.specs.Shown.{program_of}
use Rattle.vf_engine.specs.States.{state_of, turn_of, callers_of}
use Rattle.vf_engine.specs.Effects.{act_of_result}
use Rattle.vf_engine.specs.declared.effect.Effect.TheVariants as effects
use Rattle.vf_run.specs.Acting.{Acts, KnownOrFault}
use Rattle.vf_run.specs.Counts.{HasCounts}
use Rattle.vf_run.proofs.Steppers.{in_frame, steps_by, after_found, none_is_none}
use Rattle.vf_run.proofs.Counting.{same_counts, within_passes}
use Rattle.vf_run.proofs.stepping.take_step.Goals as goal

pub advance-requires : goal.advance-requires
advance-requires c =
    let names = c.args.program.now.unit.names in
    let p = program_of c.args.program.now.unit in
    let r = c.args.running.now in
    let s = state_of names r in
    let t = (c.args.e).thread in
    let found = c.next_effect-found.ensures in
    let not_waiting : c.next_effect-found.result ≡ Ok effects.Wait → ⊥ = λ w. true≢false (sym (c.is_waiting.ensures.1 w) ∙ c.if-is_waiting.false) in
    let f = in_frame r t c.next_effect-found.result found.framed not_waiting in
    let could = steps_by names p r t c.next_effect-found.result c.requires.going found.acts found.framed found.known not_waiting in
    record {
      going = c.requires.going;
      framed = f;
      acts = subst (λ x. Acts names p r t x) c.in-Ok.is found.acts;
      known = subst (λ x. KnownOrFault p x) c.in-Ok.is found.known;
      counted = c.requires.counted;
      within = c.requires.within;
    }

pub returns-in-Ok-advance-clause-answer : goal.returns-in-Ok-advance-clause-answer
returns-in-Ok-advance-clause-answer c =
    let names = c.args.program.now.unit.names in
    let p = program_of c.args.program.now.unit in
    let r = c.args.running.now in
    let s = state_of names r in
    let t = (c.args.e).thread in
    let found = c.next_effect-found.ensures in
    let not_waiting : c.next_effect-found.result ≡ Ok effects.Wait → ⊥ = λ w. true≢false (sym (c.is_waiting.ensures.1 w) ∙ c.if-is_waiting.false) in
    let f = in_frame r t c.next_effect-found.result found.framed not_waiting in
    let could = steps_by names p r t c.next_effect-found.result c.requires.going found.acts found.framed found.known not_waiting in
    (steppers_told p s t).0 could

pub returns-in-Err-advance-clause-could : goal.returns-in-Err-advance-clause-could
returns-in-Err-advance-clause-could c =
    let names = c.args.program.now.unit.names in
    let p = program_of c.args.program.now.unit in
    let r = c.args.running.now in
    let s = state_of names r in
    let t = (c.args.e).thread in
    let found = c.next_effect-found.ensures in
    let not_waiting : c.next_effect-found.result ≡ Ok effects.Wait → ⊥ = λ w. true≢false (sym (c.is_waiting.ensures.1 w) ∙ c.if-is_waiting.false) in
    let f = in_frame r t c.next_effect-found.result found.framed not_waiting in
    let could = steps_by names p r t c.next_effect-found.result c.requires.going found.acts found.framed found.known not_waiting in
    could

pub returns-in-Err-clause-after : goal.returns-in-Err-clause-after
returns-in-Err-clause-after c =
    let names = c.args.program.now.unit.names in
    let p = program_of c.args.program.now.unit in
    let r = c.args.running.now in
    let s = state_of names r in
    let t = (c.args.e).thread in
    let found = c.next_effect-found.ensures in
    let not_waiting : c.next_effect-found.result ≡ Ok effects.Wait → ⊥ = λ w. true≢false (sym (c.is_waiting.ensures.1 w) ∙ c.if-is_waiting.false) in
    let f = in_frame r t c.next_effect-found.result found.framed not_waiting in
    let could = steps_by names p r t c.next_effect-found.result c.requires.going found.acts found.framed found.known not_waiting in
    let same : after p s c.args.e ≡ ended s (Faulted c.in-Err.trouble.kind c.in-Err.trouble.place) =
    after_found names p r c.args.e c.next_effect-found.result c.requires.going f found.acts
    ∙ ap (λ x. happens s (c.args.e).grant (act_of_result names p (turn_of names r t f.frame (callers_of names f.of.callers.items)) x)) c.in-Err.is in
    sym same

pub returns-in-Err-clause-answer : goal.returns-in-Err-clause-answer
returns-in-Err-clause-answer c =
    let names = c.args.program.now.unit.names in
    let p = program_of c.args.program.now.unit in
    let r = c.args.running.now in
    let s = state_of names r in
    let t = (c.args.e).thread in
    let found = c.next_effect-found.ensures in
    let not_waiting : c.next_effect-found.result ≡ Ok effects.Wait → ⊥ = λ w. true≢false (sym (c.is_waiting.ensures.1 w) ∙ c.if-is_waiting.false) in
    let f = in_frame r t c.next_effect-found.result found.framed not_waiting in
    let could = steps_by names p r t c.next_effect-found.result c.requires.going found.acts found.framed found.known not_waiting in
    (steppers_told p s t).0 could

pub returns-in-Err-clause-full : goal.returns-in-Err-clause-full
returns-in-Err-clause-full c = λ limit h.
    let names = c.args.program.now.unit.names in
    let p = program_of c.args.program.now.unit in
    let r = c.args.running.now in
    let s = state_of names r in
    let t = (c.args.e).thread in
    let found = c.next_effect-found.ensures in
    let not_waiting : c.next_effect-found.result ≡ Ok effects.Wait → ⊥ = λ w. true≢false (sym (c.is_waiting.ensures.1 w) ∙ c.if-is_waiting.false) in
    let f = in_frame r t c.next_effect-found.result found.framed not_waiting in
    let could = steps_by names p r t c.next_effect-found.result c.requires.going found.acts found.framed found.known not_waiting in
    let same : after p s c.args.e ≡ ended s (Faulted c.in-Err.trouble.kind c.in-Err.trouble.place) =
    after_found names p r c.args.e c.next_effect-found.result c.requires.going f found.acts
    ∙ ap (λ x. happens s (c.args.e).grant (act_of_result names p (turn_of names r t f.frame (callers_of names f.of.callers.items)) x)) c.in-Err.is in
    let new = ended s (Faulted c.in-Err.trouble.kind c.in-Err.trouble.place) in
    let has : HasCounts (after p s c.args.e) c.args.counts = subst (λ x. HasCounts x c.args.counts) (sym same) (same_counts s new c.args.counts refl refl c.requires.counted) in
    absurd (none_is_none (sym (within_passes (after p s c.args.e) c.args.counts has c.requires.within) ∙ h))
