use Rattle.std.proofs.Common.{◌≡◌, ◌<◌, true, false, sym, subst, ◌∙◌, ⊎_elim, arith}
use Rattle.std.proofs.lemmas.Bool.{true≢false, cases_lt, cases_Bool}
use Rattle.std.proofs.lemmas.List.{length-map}
use Rattle.vf_model.specs.Runs.{can_step, some_can_step}
use Rattle.vf_model.proofs.Machine.{steppers_told, steppers_found}
use Rattle.vf_core.specs.Shown.{program_of}
use Rattle.vf_engine.specs.States.{state_of, thread_of}
use Rattle.vf_run.proofs.acting.some_can_step.Goals as goal

pub loop-thread-preserved : goal.loop-thread-preserved
loop-thread-preserved c = λ k low.
    let p = program_of c.args.program.now.unit in
    let s = state_of c.args.program.now.unit.names c.args.running.now in
    let here : can_step p s c.loop-thread.thread ≡ false = sym c.can_step.ensures ∙ c.if-can_step.false in
    ⊎_elim
    (λ less. c.loop-thread.invariant k less)
    (λ more. let e : c.loop-thread.thread ≡ k = omega (arith, more, low) in subst (λ j. can_step p s j ≡ false) e here)
    (cases_lt k c.loop-thread.thread)

pub returns-then-can_step : goal.returns-then-can_step
returns-then-can_step c =
    let p = program_of c.args.program.now.unit in
    let s = state_of c.args.program.now.unit.names c.args.running.now in
    let here : can_step p s c.loop-thread.thread ≡ true = sym c.can_step.ensures ∙ c.if-can_step.true in
    sym ((steppers_found p s).1 (c.loop-thread.thread, (steppers_told p s c.loop-thread.thread).0 here))

pub returns : goal.returns
returns c =
    let names = c.args.program.now.unit.names in
    let p = program_of c.args.program.now.unit in
    let s = state_of names c.args.running.now in
    ⊎_elim
    (λ some. let found = (steppers_found p s).0 some in
    let t = found.0 in
    let started = (found.1).started in
    let long = length-map c.args.running.now.threads.items (thread_of names) in
    let size = c.args.running.now.threads.ok.0 in
    let end = c.loop-thread-test.false in
    let count = c.len-thread-end.ensures in
    let low : t < c.loop-thread.thread = omega (arith, started, long, size, end, count) in
    absurd (true≢false (sym ((steppers_told p s t).1 found.1) ∙ c.loop-thread.invariant t low)))
    (λ none. sym none)
    (cases_Bool (some_can_step p s))
