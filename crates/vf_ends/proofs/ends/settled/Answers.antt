use Rattle.std.proofs.Common.{◌≡◌, ◌∙◌, sym, ap, Some}
use Rattle.vf_engine.specs.declared.state.End.{End}
use Rattle.vf_engine.specs.declared.state.End.TheVariants as ends
use Rattle.vf_ends.proofs.Settling.{settled_told}
use Rattle.vf_ends.proofs.ends.settled.Goals as goal

pub returns-in-Returned : goal.returns-in-Returned
returns-in-Returned c =
    let names = c.args.machine.now.program.unit.names in
    let some : c.running-running.result.now.end ≡ Some c.in-Some.end = c.in-Some.is in
    let end : c.in-Some.end ≡ ends.Returned c.in-Returned.field-0 = c.in-Returned.is in
    let same = c.running-running.ensures in
    settled_told names c.args.machine.now.running c.in-Returned.field-0 c.as_slice.result.now c.others_ended.result (cc (some, end, same)) (c.as_slice.ensures.value ∙ ap (λ r. r.threads.items) c.running-running.ensures) (c.others_ended.ensures names)
