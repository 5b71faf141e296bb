use Rattle.std.proofs.Common.{sym, ap, ◌∙◌}
use Rattle.vf_core.specs.Shown.{program_of}
use Rattle.vf_engine.specs.States.{end_of}
use Rattle.vf_looks.proofs.Looking.{fault_in, faultless, none_is_none, ended_for_good, of_err}
use Rattle.vf_looks.proofs.faults.fault_of.Goals as goal

pub returns-in-Some-clause-complete : goal.returns-in-Some-clause-complete
returns-in-Some-clause-complete c = λ kind place h. absurd (ended_for_good c.args.running.now.end c.in-Some.field-0 c.in-Some.is h.going)

pub returns-in-Ok-clause-complete : goal.returns-in-Ok-clause-complete
returns-in-Ok-clause-complete c = λ kind place h.
    let names = c.args.program.now.unit.names in
    let p = program_of c.args.program.now.unit in
    let found = c.next_effect.ensures in
    absurd (none_is_none (sym (faultless names p c.args.running.now c.args.thread c.next_effect.result c.in-Ok.field-0 c.in-Ok.is found.acts found.framed found.waits) ∙ ap fault_in h.faults))

pub returns-in-Err-clause-found : goal.returns-in-Err-clause-found
returns-in-Err-clause-found c =
    let names = c.args.program.now.unit.names in
    let p = program_of c.args.program.now.unit in
    let found = c.next_effect.ensures in
    record {
      going = ap end_of c.in-None.is;
      faults = of_err names p c.args.running.now c.args.thread c.next_effect.result c.in-Err.trouble c.in-Err.is found.acts found.framed;
    }

pub returns-in-Err-clause-complete : goal.returns-in-Err-clause-complete
returns-in-Err-clause-complete c = λ kind place h.
    let names = c.args.program.now.unit.names in
    let p = program_of c.args.program.now.unit in
    let found = c.next_effect.ensures in
    ap fault_in (sym (of_err names p c.args.running.now c.args.thread c.next_effect.result c.in-Err.trouble c.in-Err.is found.acts found.framed) ∙ h.faults)
