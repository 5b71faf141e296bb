use Rattle.std.proofs.Common.{◌≡◌, take}
use Rattle.std.specs.List.{fold}
use Rattle.vf_model.specs.Runs.{after}
use Rattle.vf_machine.specs.Machine.{machine_program, machine_state}
use Rattle.vf_tool.proofs.answer.follow.Given as goal

-- the events so far have led where they lead
abbrev pub invariant-loop-event : goal.invariant-loop-event
invariant-loop-event l = record {
  program : machine_program l.machine ≡ machine_program l.fn.machine;
  state : machine_state l.machine ≡ fold (after (machine_program l.fn.machine)) (machine_state l.fn.machine) (take l.event-index l.events);
}
