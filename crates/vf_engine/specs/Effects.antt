-- What the code's effects stand for in the machine's definitions.
use Rattle.std.specs.Prelude.{ℕ, true, false, List, [], ◌∷◌, ◌++◌, length, Option, Some, None, Result, Ok, Err, pos, unsigned_abs, slice_get}
use Rattle.std.specs.Option.{option_map}
use Rattle.std.specs.FinMap as map
use Rattle.std.specs.Fmt.{signed_decimal}
use Rattle.vf_tree.specs.Core.{Identity, FunctionTree, ProgramTree}
use Rattle.vf_model.specs.Values as values
use Rattle.vf_model.specs.Memory.{Ints, Mutex, Handle, unset_cells, written}
use Rattle.vf_model.specs.State.{Aborted, Turn, entered, goes_on, sets, receives, over_memory, after_output, after_start, ended}
use Rattle.vf_model.specs.Evaluation.{Evaluated, Gives, Fails}
use Rattle.vf_model.specs.Acts.{Act, Goes, Touches, Allocates, Waits, Faults}
use Rattle.vf_model.specs.Accesses.{touch_of, allocates, new_struct}
use Rattle.vf_model.specs.Calls.{enters, returns}
use Rattle.vf_model.specs.Steps.{all_values}
use Rattle.vf_core.specs.Shown.{identity_of, expressions_of}
use Rattle.vf_engine.specs.Values.{value_of}
use Rattle.vf_engine.specs.Cells.{place_of}
use Rattle.vf_engine.specs.declared.effect.Effect.{Effect}
use Rattle.vf_engine.specs.declared.effect.Effect.TheVariants as effects
use Rattle.vf_engine.specs.declared.expressions.Trouble.{Trouble}

-- the values of arguments that have no fault
abbrev pub values_or_none : Evaluated (List values.Value) → List values.Value
values_or_none (Gives vs) = vs
values_or_none (Fails kind place) = []

-- a call of the function of a number, which the program has
abbrev pub enters_found : Turn → ℕ → Option ℕ → List values.Value → ℕ → Option FunctionTree → Act
enters_found turn number target vs next None = Waits
enters_found turn number target vs next (Some f) = Goes (enters turn number f target vs next)

-- a start of a thread in the function of a number, which the program has
abbrev pub starts_found : Turn → ℕ → values.Value → ℕ → Option FunctionTree → Act
starts_found turn number given next None = Waits
starts_found turn number given next (Some f) = Goes (goes_on (after_start turn (entered number f (given ∷ []) None)) next)

-- the same of a thread with a handle
abbrev pub joinable_found : Turn → ℕ → Option ℕ → values.Value → ℕ → Option FunctionTree → Act
joinable_found turn number target given next None = Waits
joinable_found turn number target given next (Some f) =
    let started = after_start turn (entered number f (given ∷ []) None) in
    Allocates (ended turn.state Aborted) (λ b. receives
    (over_memory started (map.insert turn.state.memory b (Handle (length turn.state.threads) f.identity given)))
    target (values.Pointer b (pos 0)) next)

-- what an effect is for the thread whose turn it is
abbrev pub act_of_effect : List Identity → ProgramTree → Turn → Effect → Act
act_of_effect names p turn (effects.Goto next) = Goes (goes_on turn next)
act_of_effect names p turn (effects.Set x v next) = Goes (sets turn x (value_of names v) next)
act_of_effect names p turn (effects.Load x v cell place next) = Touches (touch_of (place_of cell) false place) (sets turn x (value_of names v) next)
act_of_effect names p turn (effects.Store cell v place next) =
    Touches (touch_of (place_of cell) true place) (goes_on (over_memory turn (written turn.state.memory (place_of cell) (value_of names v))) next)
act_of_effect names p turn (effects.Allocate x name next) = allocates turn x (new_struct p (identity_of names name)) next
act_of_effect names p turn (effects.AllocateInts x n next) = allocates turn x (Ints (unset_cells (unsigned_abs n))) next
act_of_effect names p turn (effects.Free b place next) =
    Touches (record { block = b; cell = None; writes = true; place = place }) (goes_on (over_memory turn (map.remove turn.state.memory b)) next)
act_of_effect names p turn (effects.Enter number target arguments next) =
    enters_found turn number target (values_or_none (all_values turn (expressions_of names arguments.now))) next (slice_get p.functions number)
act_of_effect names p turn (effects.Return value) = Goes (returns turn (option_map (value_of names) value))
act_of_effect names p turn effects.Abort = Goes (ended turn.state Aborted)
act_of_effect names p turn (effects.PutChar byte target next) = Goes (receives (after_output turn (byte ∷ [])) target (values.Number (pos byte)) next)
act_of_effect names p turn (effects.PrintInt z next) = Goes (goes_on (after_output turn (signed_decimal z ++ 10 ∷ [])) next)
act_of_effect names p turn (effects.Start run given next) = starts_found turn run (value_of names given) next (slice_get p.functions run)
act_of_effect names p turn (effects.StartJoinable run given target next) = joinable_found turn run target (value_of names given) next (slice_get p.functions run)
act_of_effect names p turn (effects.Remove b next) = Goes (goes_on (over_memory turn (map.remove turn.state.memory b)) next)
act_of_effect names p turn (effects.CreateMutex target next) =
    Allocates (ended turn.state Aborted) (λ b. receives (over_memory turn (map.insert turn.state.memory b (Mutex None))) target (values.Pointer b (pos 0)) next)
act_of_effect names p turn (effects.Acquire b next) = Goes (goes_on (over_memory turn (map.insert turn.state.memory b (Mutex (Some turn.thread)))) next)
act_of_effect names p turn (effects.Release b next) = Goes (goes_on (over_memory turn (map.insert turn.state.memory b (Mutex None))) next)
act_of_effect names p turn effects.Wait = Waits

-- the same, or the fault
abbrev pub act_of_result : List Identity → ProgramTree → Turn → Result Effect Trouble → Act
act_of_result names p turn (Ok effect) = act_of_effect names p turn effect
act_of_result names p turn (Err trouble) = Faults trouble.kind trouble.place
