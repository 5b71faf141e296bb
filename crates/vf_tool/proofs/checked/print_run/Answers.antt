-- What comes of a run is decided, and what is accepted is safe.
use Rattle.std.proofs.Common.{ap, refl, subst, Bool, true, false, Err, []}
use Rattle.vf_snapshot.specs.Paths.{normal}
use Rattle.vf_tool.specs.Run.{Decides, status_of}
use Rattle.vf_tool.proofs.Telling.{decides, decides_stop}
use Rattle.vf_tool.proofs.Safety.{safe_run}
use Rattle.vf_tool.proofs.checked.print_run.Goals as goal

pub returns-in-Err-clause-complete : goal.returns-in-Err-clause-complete
returns-in-Err-clause-complete g c = λ m told read missing write events has.
    rw c.status.ensures
    (decides_stop _ m _ _ _ events c.in-Err.stop told refl has
    (λ e. read (c.in-Err.ensures.failed (ap Err e))) (λ e. missing (c.in-Err.ensures.missing (ap Err e))) (λ e. c.in-Err.ensures.unreadable (ap Err e)))

pub returns-then-answer-clause-complete : goal.returns-then-answer-clause-complete
returns-then-answer-clause-complete g c = λ m told read missing write events has.
    subst (λ (b : Bool). Decides m (normal [] c.args.word.now) (status_of b)) c.if-answer.true
    (decides _ m _ _ _ _ c.in-Ok.answer.accepted c.in-Ok.answer.text told refl c.run_answer.ensures.right c.in-Ok.ensures.answered)

pub returns-clause-complete : goal.returns-clause-complete
returns-clause-complete g c = λ m told read missing write events has.
    subst (λ (b : Bool). Decides m (normal [] c.args.word.now) (status_of b)) c.if-answer.false
    (decides _ m _ _ _ _ c.in-Ok.answer.accepted c.in-Ok.answer.text told refl c.run_answer.ensures.right c.in-Ok.ensures.answered)

pub returns-then-answer-clause-safe : goal.returns-then-answer-clause-safe
returns-then-answer-clause-safe g c = λ m is.
    safe_run _ m _ _ _ c.in-Ok.answer.accepted true c.in-Ok.answer.text is c.run_answer.ensures.right c.if-answer.true c.in-Ok.ensures.answered

pub returns-clause-safe : goal.returns-clause-safe
returns-clause-safe g c = λ m is.
    safe_run _ m _ _ _ c.in-Ok.answer.accepted false c.in-Ok.answer.text is c.run_answer.ensures.right c.if-answer.false c.in-Ok.ensures.answered
