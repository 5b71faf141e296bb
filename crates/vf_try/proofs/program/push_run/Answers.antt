-- What is printed of a run.
use Rattle.std.proofs.Common.{sym, ap, Err}
use Rattle.vf_try.proofs.Printing.{run_ends, run_stops}
use Rattle.vf_try.proofs.program.push_run.Goals as goal

pub returns-in-Ok : goal.returns-in-Ok
returns-in-Ok c =
    run_ends _ _ _ _ _ _ c.args.events.now _ _ _ _ _ _ c.in_ok-machine.ensures.program c.in_ok-machine.ensures.opening c.in-Ok.ensures.program c.in-Ok.ensures.done
    c.output.ensures c.in_ok-push_output-in-Ok.ensures c.outcome-outcome.ensures c.in_ok-push_outcome-in-Ok.ensures c.status_of_outcome.ensures

pub returns-in-Err-Capacity : goal.returns-in-Err-Capacity
returns-in-Err-Capacity c =
    run_stops _ _ _ _ _ c.args.events.now _ _ _ _ c.in-Err-Capacity.limit _ c.in_ok-machine.ensures.program c.in_ok-machine.ensures.opening
    (c.in-Err-Capacity.ensures.full c.in-Err-Capacity.limit (ap Err c.in-Err-Capacity.field-0-is))
    c.output-in-Err-Capacity.ensures c.in_ok-push_output-in-Err-Capacity.ensures (sym c.in-Err-Capacity.limit-is) c.in_ok-push_capacity-in-Err-Capacity.ensures
