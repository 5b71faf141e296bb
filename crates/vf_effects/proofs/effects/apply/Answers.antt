use Rattle.std.proofs.Common.{rules, FitsSigned}
use Rattle.std.specs.Int.{w128}
use Rattle.std.proofs.lemmas.Int.{to_z-of_z}
use Rattle.vf_core.specs.Shown.{program_of}
use Rattle.vf_effects.proofs.Steps.{on_ok, same_effect}
use Rattle.vf_effects.proofs.effects.apply.Goals as goal

pub returns-in-StartJoinable-clause-happened : goal.returns-in-StartJoinable-clause-happened
returns-in-StartJoinable-clause-happened c =
    let names = c.args.program.now.unit.names in
    let p = program_of c.args.program.now.unit in
    on_ok c.start_joinable.result _ _
    (λ h. same_effect names p c.args.running.now c.args.thread c.args.grant c.args.effect _ c.start_joinable.new.running c.in-StartJoinable.is (h))
    c.start_joinable.ensures.happened

pub returns-in-CreateMutex-clause-happened : goal.returns-in-CreateMutex-clause-happened
returns-in-CreateMutex-clause-happened c =
    let names = c.args.program.now.unit.names in
    let p = program_of c.args.program.now.unit in
    on_ok c.create_mutex.result _ _
    (λ h. same_effect names p c.args.running.now c.args.thread c.args.grant c.args.effect _ c.create_mutex.new.running c.in-CreateMutex.is (h names p))
    c.create_mutex.ensures.happened

pub returns-in-AllocateInts-clause-happened : goal.returns-in-AllocateInts-clause-happened
returns-in-AllocateInts-clause-happened c =
    let names = c.args.program.now.unit.names in
    let p = program_of c.args.program.now.unit in
    let fits : FitsSigned w128 c.in-AllocateInts.length = search rules in
    on_ok c.allocate_ints.result _ _
    (λ h. same_effect names p c.args.running.now c.args.thread c.args.grant c.args.effect _ c.allocate_ints.new.running c.in-AllocateInts.is (h names p))
    (simp to_z-of_z at c.allocate_ints.ensures.happened)

pub returns-in_default-clause-happened : goal.returns-in_default-clause-happened
returns-in_default-clause-happened c = on_ok c.apply_ungranted.result _ _ (λ h. h c.args.grant) c.apply_ungranted.ensures.happened

pub returns-in_default-clause-outright : goal.returns-in_default-clause-outright
returns-in_default-clause-outright c = c.apply_ungranted.ensures.outright c.args.grant
