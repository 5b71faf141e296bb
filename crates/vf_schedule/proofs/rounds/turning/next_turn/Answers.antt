use Rattle.std.proofs.Common.{◌≡◌, ◌++◌, ◌∷◌, [], false, cond, sym, ap, ◌∙◌}
use Rattle.vf_model.specs.Runs.{can_step}
use Rattle.vf_model.proofs.Machine.{idle_stays}
use Rattle.vf_run.specs.Machines.{machine_program, machine_state}
use Rattle.vf_schedule.specs.rounds.Turns.{event_of}
use Rattle.vf_schedule.proofs.rounds.Rounds.{taken_from}
use Rattle.vf_schedule.proofs.rounds.turning.next_turn.Goals as goal

pub returns-in-Ok-false-clause-taken : goal.returns-in-Ok-false-clause-taken
returns-in-Ok-false-clause-taken c =
    let p = machine_program c.args.machine.now in
    let s = machine_state c.args.machine.now in
    let thread = c.args.turn.thread in
    let cannot : false ≡ can_step p s thread = sym c.in-Ok-false.field-0-test ∙ c.in-Ok-false.ensures.could in
    let logged = c.in-Ok-false.ensures.logged ∙ ap (λ b. cond b (c.args.log.now.items ++ event_of thread ∷ []) c.args.log.now.items) c.in-Ok-false.field-0-test in
    taken_from p c.args.quantum s c.args.log.now.items (machine_program c.try_event.new.machine) (machine_state c.try_event.new.machine) c.try_event.new.log.items thread c.args.turn.left c.new_turn-in-Ok-false.result (machine_state c.new_turn-in-Ok-false.new.machine) c.new_turn-in-Ok-false.new.log.items
    c.try_event.ensures.program (c.in-Ok-false.ensures.after ∙ idle_stays p s (event_of thread) (sym cannot)) logged cannot c.new_turn-in-Ok-false.ensures.taken
