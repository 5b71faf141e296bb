-- What the code's evaluated steps stand for in the machine's definitions.
use Rattle.std.specs.Prelude.{ℤ, [], Option, Some, None, Result, Ok, Err}
use Rattle.vf_model.specs.Values.{Value, Number}
use Rattle.vf_base.specs.declared.place.Place.{Place}
use Rattle.vf_base.specs.declared.int_type.IntType.TheVariants as types
use Rattle.vf_model.specs.declared.words.FaultKind.TheVariants as faults
use Rattle.vf_model.specs.Evaluation.{Evaluated, Gives, Fails, ranged}
use Rattle.vf_model.specs.State.{Faulted, State, Turn, sets, ended}
use Rattle.vf_model.specs.Acts.{Act, Goes, Waits, Faults}
use Rattle.vf_model.specs.Calls.{returns}
use Rattle.vf_machine.specs.declared.machine.Frame as code_frame
use Rattle.vf_machine.specs.declared.machine.Machine.{Machine}
use Rattle.vf_machine.specs.declared.sum.Trouble.{Trouble}
use Rattle.vf_machine.specs.declared.effect.Effect.{Effect}
use Rattle.vf_machine.specs.declared.effect.Effect.TheVariants as effects
use Rattle.vf_machine.specs.Machine.{frame_of, machine_state}

-- what an evaluation of the code has found
abbrev pub evaluated : Result ℤ Trouble → Evaluated Value
evaluated (Ok z) = Gives (Number z)
evaluated (Err trouble) = Fails trouble.kind trouble.place

-- a number that may have passed what the code holds: it is an int, or the fault is range
abbrev pub int_or_fault : Option ℤ → Place → Evaluated Value
int_or_fault None place = Fails faults.Range place
int_or_fault (Some z) place = ranged types.Int place z

-- what an effect is for the thread whose turn it is
abbrev pub act_of_effect : Turn → Effect → Act
act_of_effect turn (effects.Set x z next) = Goes (sets turn x (Number z) next)
act_of_effect turn (effects.Return z) = Goes (returns turn (Some (Number z)))
act_of_effect turn (effects.Fault trouble) = Faults trouble.kind trouble.place

-- the turn of thread 0 in a frame
abbrev pub turn_of : Machine → code_frame.Frame → Turn
turn_of m frame = record { state = machine_state m; thread = 0; frame = frame_of m.program.plain.main frame; callers = [] }

-- what an effect, if there is one, is in a frame; without a frame there is no step
abbrev pub act_with : Machine → Option code_frame.Frame → Option Effect → Act
act_with m (Some frame) (Some effect) = act_of_effect (turn_of m frame) effect
act_with m _ _ = Waits

-- what the machine's next effect, if there is one, is for thread 0
abbrev pub act_by : Machine → Option Effect → Act
act_by m effect = act_with m m.frame effect

-- the state after an effect of thread 0 in a frame
abbrev pub state_with : Machine → Option code_frame.Frame → Effect → State
state_with m None effect = machine_state m
state_with m (Some frame) (effects.Set x z next) = sets (turn_of m frame) x (Number z) next
state_with m (Some frame) (effects.Return z) = returns (turn_of m frame) (Some (Number z))
state_with m (Some frame) (effects.Fault trouble) = ended (machine_state m) (Faulted trouble.kind trouble.place)

-- the state after an effect of thread 0
abbrev pub effect_state : Machine → Effect → State
effect_state m effect = state_with m m.frame effect
