use Rattle.std.proofs.Common.{rules, FitsSigned}
use Rattle.std.specs.Int.{w128}
use Rattle.std.proofs.lemmas.Int.{to_z-of_z}
use Rattle.vf_core.specs.Shown.{program_of}
use Rattle.vf_effects.proofs.Steps.{on_ok, same_effect}
use Rattle.vf_effects.proofs.effects.apply_ungranted.Goals as goal

pub returns-in-Enter-clause-happened : goal.returns-in-Enter-clause-happened
returns-in-Enter-clause-happened c =
    let names = c.args.program.now.unit.names in
    let p = program_of c.args.program.now.unit in
    on_ok c.enter.result _ _
    (λ h grant. same_effect names p c.args.running.now c.args.thread grant c.args.effect _ c.enter.new.running c.in-Enter.is (h grant))
    c.enter.ensures.happened

pub returns-in-PutChar-clause-happened : goal.returns-in-PutChar-clause-happened
returns-in-PutChar-clause-happened c =
    let names = c.args.program.now.unit.names in
    let p = program_of c.args.program.now.unit in
    on_ok c.put_char.result _ _
    (λ h grant. same_effect names p c.args.running.now c.args.thread grant c.args.effect _ c.put_char.new.running c.in-PutChar.is (h names p grant))
    c.put_char.ensures.happened

pub returns-in-Start-clause-happened : goal.returns-in-Start-clause-happened
returns-in-Start-clause-happened c =
    let names = c.args.program.now.unit.names in
    let p = program_of c.args.program.now.unit in
    on_ok c.start.result _ _
    (λ h grant. same_effect names p c.args.running.now c.args.thread grant c.args.effect _ c.start.new.running c.in-Start.is (h grant))
    c.start.ensures.happened

pub returns-in-Acquire-clause-happened : goal.returns-in-Acquire-clause-happened
returns-in-Acquire-clause-happened c =
    let names = c.args.program.now.unit.names in
    let p = program_of c.args.program.now.unit in
    on_ok c.acquire.result _ _
    (λ h grant. same_effect names p c.args.running.now c.args.thread grant c.args.effect _ c.acquire.new.running c.in-Acquire.is (h names p grant))
    c.acquire.ensures.happened

pub returns-in-Release-clause-happened : goal.returns-in-Release-clause-happened
returns-in-Release-clause-happened c =
    let names = c.args.program.now.unit.names in
    let p = program_of c.args.program.now.unit in
    on_ok c.release.result _ _
    (λ h grant. same_effect names p c.args.running.now c.args.thread grant c.args.effect _ c.release.new.running c.in-Release.is (h names p grant))
    c.release.ensures.happened

pub returns-in-PrintInt-clause-happened : goal.returns-in-PrintInt-clause-happened
returns-in-PrintInt-clause-happened c =
    let names = c.args.program.now.unit.names in
    let p = program_of c.args.program.now.unit in
    let fits : FitsSigned w128 c.in-PrintInt.number = search rules in
    on_ok c.print_int.result _ _
    (λ h grant. same_effect names p c.args.running.now c.args.thread grant c.args.effect _ c.print_int.new.running c.in-PrintInt.is (h names p grant))
    (simp to_z-of_z at c.print_int.ensures.happened)
