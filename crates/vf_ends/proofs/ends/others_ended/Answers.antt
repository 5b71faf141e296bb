use Rattle.std.proofs.Common.{◌≡◌, ◌<◌, ◌≤◌, length, map, refl, sym, ◌∙◌, arith}
use Rattle.std.proofs.lemmas.Bool.{false≢true}
use Rattle.std.proofs.lemmas.List.{length-map}
use Rattle.vf_engine.specs.States.{thread_of}
use Rattle.vf_ends.proofs.Settling.{ended_more, one_goes_on}
use Rattle.vf_ends.proofs.ends.others_ended.Goals as goal

pub returns-then-not-has_ended : goal.returns-then-not-has_ended
returns-then-not-has_ended c = λ names.
    let many : length (map (thread_of names) c.args.threads.now) ≡ length c.args.threads.now = length-map c.args.threads.now (thread_of names) in
    (λ h. absurd (false≢true h), one_goes_on (map (thread_of names) c.args.threads.now) c.loop-thread.thread (omega arith) (omega (arith, many)) (sym c.if-not-has_ended.true ∙ c.has_ended.ensures names))

pub loop-thread-preserved : goal.loop-thread-preserved
loop-thread-preserved c = λ names. ended_more (map (thread_of names) c.args.threads.now) c.loop-thread.thread (c.loop-thread.invariant names) (sym (c.has_ended.ensures names) ∙ c.if-not-has_ended.false)

pub returns : goal.returns
returns c = λ names.
    let many : length (map (thread_of names) c.args.threads.now) ≡ length c.args.threads.now = length-map c.args.threads.now (thread_of names) in
    (λ _ t low high. c.loop-thread.invariant names t low (omega (arith, many, high)), λ _. refl)
