use Rattle.std.proofs.Common.{◌≡◌, Ok, refl, sym, ap, subst, ◌∙◌, arith}
use Rattle.vf_run.specs.Machines.{machine_program, machine_state}
use Rattle.vf_schedule.specs.rounds.Turns.{next_turn}
use Rattle.vf_schedule.specs.rounds.Taken.{IsTurnTaken}
use Rattle.vf_schedule.proofs.rounds.Logs.{goes_on, ends, stops}
use Rattle.vf_schedule.proofs.rounds.turning.turns.Goals as goal

pub returns-in-Ok-None-clause-turned : goal.returns-in-Ok-None-clause-turned
returns-in-Ok-None-clause-turned c =
    let inv = c.loop.invariant in
    let taken = subst (λ o. IsTurnTaken (machine_program c.loop.machine) (machine_state c.loop.machine) c.loop.log.items (next_turn (machine_program c.loop.machine) c.args.quantum (machine_state c.loop.machine) c.loop.turn.thread c.loop.turn.left) (Ok o) (machine_state c.next_turn.new.machine) c.next_turn.new.log.items) c.in-Ok-None.field-0-is c.in-Ok-None.ensures.taken in
    ends (machine_program c.args.machine.now) c.args.quantum (machine_state c.args.machine.now) c.args.log.now.items c.args.steps c.loop.counter (machine_program c.loop.machine) (machine_state c.loop.machine) c.loop.log.items c.loop.turn.thread c.loop.turn.left (machine_state c.next_turn.new.machine) c.next_turn.new.log.items
    c.loop-test.true inv.same inv.turned taken.0 taken.1

pub returns-in-Err-clause-turned : goal.returns-in-Err-clause-turned
returns-in-Err-clause-turned c =
    let inv = c.loop.invariant in
    let taken = c.in-Err.ensures.taken in
    stops (machine_program c.args.machine.now) c.args.quantum (machine_state c.args.machine.now) c.args.log.now.items c.args.steps c.loop.counter (machine_program c.loop.machine) (machine_state c.loop.machine) c.loop.log.items c.loop.turn.thread c.loop.turn.left (machine_state c.next_turn.new.machine) c.next_turn.new.log.items c.in-Err.fault
    c.loop-test.true inv.same inv.turned taken.0 taken.1

pub loop-preserved : goal.loop-preserved
loop-preserved c =
    let inv = c.loop.invariant in
    let taken = subst (λ o. IsTurnTaken (machine_program c.loop.machine) (machine_state c.loop.machine) c.loop.log.items (next_turn (machine_program c.loop.machine) c.args.quantum (machine_state c.loop.machine) c.loop.turn.thread c.loop.turn.left) (Ok o) (machine_state c.next_turn.new.machine) c.next_turn.new.log.items) c.in-Ok-Some.field-0-is c.in-Ok-Some.ensures.taken in
    record {
      same = c.next_turn.ensures.program ∙ inv.same;
      turned = goes_on (machine_program c.args.machine.now) c.args.quantum (machine_state c.args.machine.now) c.args.log.now.items c.args.steps c.loop.counter (machine_program c.loop.machine) (machine_state c.loop.machine) c.loop.log.items c.loop.turn.thread c.loop.turn.left (machine_state c.next_turn.new.machine) c.next_turn.new.log.items c.in-Ok-Some.next.thread c.in-Ok-Some.next.left
          c.loop-test.true inv.same inv.turned taken.0 taken.1;
    }
