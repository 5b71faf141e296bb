-- What is printed of a search.
use Rattle.std.proofs.Common.{sym}
use Rattle.vf_try.proofs.Printing.{trace_ends, trace_stops}
use Rattle.vf_try.proofs.program.push_trace.Goals as goal

pub returns-in-Ok : goal.returns-in-Ok
returns-in-Ok c =
    trace_ends _ _ _ _ _ c.args.schedule.now c.in-Ok.finding _ _ _ c.in_ok-machine.ensures.program c.in_ok-machine.ensures.opening c.in-Ok.ensures.traced c.in_ok-push_finding-in-Ok.ensures c.status_of_finding.ensures

pub returns-in-Err-Capacity : goal.returns-in-Err-Capacity
returns-in-Err-Capacity c =
    trace_stops _ _ _ _ _ c.args.schedule.now c.in-Err-Capacity.limit _ _ _ _ c.in_ok-machine.ensures.program c.in_ok-machine.ensures.opening c.in-Err-Capacity.field-0-is c.in-Err-Capacity.ensures.traced (sym c.in-Err-Capacity.limit-is) c.in_ok-push_capacity-in-Err-Capacity.ensures
