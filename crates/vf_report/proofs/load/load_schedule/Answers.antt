-- A schedule that is too long, that reads, and that doesn't.
use Rattle.std.proofs.Common.{arith, ap, Err}
use Rattle.vf_report.proofs.Loading.{schedule_too_long, schedule_read, schedule_unread}
use Rattle.vf_report.proofs.load.load_schedule.Goals as goal

pub returns-then-len-gt-MOST_SCHEDULE-clause-unreadable :
    goal.returns-then-len-gt-MOST_SCHEDULE-clause-unreadable
returns-then-len-gt-MOST_SCHEDULE-clause-unreadable g c = λ _. schedule_too_long _ _ _ c.in-Ok.ensures.ok (omega arith)

pub returns-in-Ok-read_schedule-clause-ok : goal.returns-in-Ok-read_schedule-clause-ok
returns-in-Ok-read_schedule-clause-ok g c = schedule_read _ _ _ _ c.in-Ok.ensures.ok (omega arith) (rw (← c.as_slice.ensures.value) c.in-Ok-read_schedule.ensures.read)

pub returns-in-Err-Syntax-clause-unreadable : goal.returns-in-Err-Syntax-clause-unreadable
returns-in-Err-Syntax-clause-unreadable g c = λ _. schedule_unread _ _ _ c.in-Ok.ensures.ok (omega arith) (rw (← c.as_slice.ensures.value) (c.in-Err-Syntax.ensures.syntax (ap Err c.in-Err-Syntax.field-0-is)))
