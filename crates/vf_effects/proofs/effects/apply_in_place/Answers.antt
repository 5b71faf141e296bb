use Rattle.std.proofs.Common.{rules, FitsSigned}
use Rattle.std.specs.Int.{w128}
use Rattle.std.proofs.lemmas.Int.{to_z-of_z}
use Rattle.vf_core.specs.Shown.{program_of}
use Rattle.vf_effects.proofs.Steps.{on_ok, same_effect}
use Rattle.vf_effects.proofs.effects.apply_in_place.Goals as goal

pub returns-in-Store : goal.returns-in-Store
returns-in-Store c = λ names p grant.
    same_effect names p c.args.running.now c.args.thread grant c.args.effect _ c.store.new.running c.in-Store.is (c.store.ensures names p grant c.in-Store.place)

pub returns-in-Free : goal.returns-in-Free
returns-in-Free c = λ names p grant.
    same_effect names p c.args.running.now c.args.thread grant c.args.effect _ c.remove.new.running c.in-Free.is (c.remove.ensures.free names p grant c.in-Free.place)

pub returns-in-Remove : goal.returns-in-Remove
returns-in-Remove c = λ names p grant.
    same_effect names p c.args.running.now c.args.thread grant c.args.effect _ c.remove-in-Remove.new.running c.in-Remove.is (c.remove-in-Remove.ensures.removed names p grant)

pub returns-in-Return : goal.returns-in-Return
returns-in-Return c = λ names p grant.
    same_effect names p c.args.running.now c.args.thread grant c.args.effect _ c.leave.new.running c.in-Return.is (c.leave.ensures names p grant)

pub returns-in-Abort : goal.returns-in-Abort
returns-in-Abort c = λ names p grant.
    same_effect names p c.args.running.now c.args.thread grant c.args.effect _ c.abort.new.running c.in-Abort.is (c.abort.ensures names p c.args.thread grant)
