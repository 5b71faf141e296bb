use Rattle.std.proofs.Common.{sym}
use Rattle.vf_run.specs.Machines.{machine_state}
use Rattle.vf_looks.specs.Looks.{touch_of}
use Rattle.vf_trace.proofs.Racing.{clash_told}
use Rattle.vf_trace.proofs.touching.clashes.Goals as goal

pub returns-in-Some : goal.returns-in-Some
returns-in-Some c =
    clash_told (machine_state c.args.machine.now).memory (touch_of c.args.one) (touch_of c.args.two) c.common_index.result c.in-Some.index c.cell_count.result
    c.if-one-two.false (sym c.if-not-either_writes.ensures) c.common_index.ensures c.in-Some.is c.cell_count.ensures
