-- Calls: of functions with a body, which make a frame, and of the prelude's functions, which are done in the one step.
use Rattle.std.specs.Prelude.{ℕ, Bool, true, false, cond, ◌==◌, List, [], ◌∷◌, ◌++◌, length, slice_get, Option, Some, None, ℤ, pos, unsigned_abs}
use Rattle.std.specs.FinMap as map
use Rattle.std.specs.Fmt.{signed_decimal}
use Rattle.std.specs.Int.{int_rem_euclid}
use Rattle.vf_base.specs.declared.place.Place.{Place}
use Rattle.vf_tree.specs.Core.{Identity, Signature, FunctionTree, ProgramTree}
use Rattle.vf_model.specs.declared.words.FaultKind.TheVariants as faults
use Rattle.vf_model.specs.Values.{Value, number_of, same_signature}
use Rattle.vf_model.specs.Values as values
use Rattle.vf_model.specs.PreludeFunctions.{PreludeFunction, Abort, PutChar, PrintInt, ThreadStart, ThreadStartJoinable, ThreadJoin, CreateMutex, MutexAcquire, MutexRelease, MutexDispose, prelude_named, signature_of, run_signature}
use Rattle.vf_model.specs.Memory.{Block, Mutex, Handle, pointed_at, block_number}
use Rattle.vf_model.specs.State.{Frame, Thread, State, Returned, Aborted, Turn, entered, function_named, at_step, with_result, with_frames, goes_on, receives, over_memory, after_output, after_start, ended}
use Rattle.vf_model.specs.Acts.{Act, Goes, Allocates, Waits, Faults}

-- an argument, and null where there is none
abbrev pub argument_of : Option Value → Value
argument_of None = values.Null
argument_of (Some v) = v

-- an argument by its index; a call has as many as its function has parameters
abbrev pub argument : List Value → ℕ → Value
argument vs i = argument_of (slice_get vs i)

-- the byte that a character is written as: the number modulo 256 (C11 7.21.7.3)
abbrev pub byte_of : ℤ → ℕ
byte_of z = unsigned_abs (int_rem_euclid z (pos 256))

-- a mutex that is acquired: it must be free, and is waited for while any thread holds it
abbrev pub acquires : Turn → Value → Place → ℕ → Option Block → Act
acquires turn p place next (Some (Mutex None)) = Goes (goes_on (over_memory turn (map.insert turn.state.memory (block_number p) (Mutex (Some turn.thread)))) next)
acquires turn p place next (Some (Mutex (Some holder))) = Waits
acquires turn p place next _ = Faults faults.Mutex place

-- a mutex that is released: this thread must hold it
abbrev pub releases : Turn → Value → Place → ℕ → Option Block → Act
releases turn p place next (Some (Mutex (Some holder))) =
    cond (holder == turn.thread) (Goes (goes_on (over_memory turn (map.insert turn.state.memory (block_number p) (Mutex None))) next)) (Faults faults.Mutex place)
releases turn p place next _ = Faults faults.Mutex place

-- a mutex that is disposed: it must be free
abbrev pub disposes : Turn → Value → Place → ℕ → Option Block → Act
disposes turn p place next (Some (Mutex None)) = Goes (goes_on (over_memory turn (map.remove turn.state.memory (block_number p))) next)
disposes turn p place next _ = Faults faults.Mutex place

-- whether a thread was started and has ended
abbrev pub has_ended : Option Thread → Bool
has_ended (Some []) = true
has_ended _ = false

-- a thread that is joined: its end is waited for, and then its handle is gone
abbrev pub joins : Turn → Value → Place → ℕ → Option Block → Act
joins turn p place next (Some (Handle thread run given)) =
    cond (has_ended (slice_get turn.state.threads thread)) (Goes (goes_on (over_memory turn (map.remove turn.state.memory (block_number p))) next)) Waits
joins turn p place next _ = Faults faults.Join place

-- a function of the program with its number, where it has the signature
abbrev pub with_signature : Signature → ℕ → Option FunctionTree → Option (ℕ × FunctionTree)
with_signature want number None = None
with_signature want number (Some f) = cond (same_signature f.signature want) (Some (number, f)) None

-- the same for a number that may be none
abbrev pub numbered : ProgramTree → Signature → Option ℕ → Option (ℕ × FunctionTree)
numbered p want None = None
numbered p want (Some number) = with_signature want number (slice_get p.functions number)

-- the function that a thread can be started in: one of the program, void and with one parameter that is a pointer to void
abbrev pub run_of : ProgramTree → Value → Option (ℕ × FunctionTree)
run_of p (values.Function g) = numbered p run_signature (function_named p g)
run_of p _ = None

-- a thread that is started: fault pointer where the value is no function for that
abbrev pub starts : Turn → Value → Place → ℕ → Option (ℕ × FunctionTree) → Act
starts turn given place next None = Faults faults.Pointer place
starts turn given place next (Some run) = Goes (goes_on (after_start turn (entered run.0 run.1 (given ∷ []) None)) next)

-- a thread that is started to be joined: its handle is a block, without which the run aborts
abbrev pub starts_joinable : Turn → Option ℕ → Value → Place → ℕ → Option (ℕ × FunctionTree) → Act
starts_joinable turn target given place next None = Faults faults.Pointer place
starts_joinable turn target given place next (Some run) =
    let started = after_start turn (entered run.0 run.1 (given ∷ []) None) in
    Allocates (ended turn.state Aborted) (λ b. receives
    (over_memory started (map.insert turn.state.memory b (Handle (length turn.state.threads) (run.1).identity given)))
    target (values.Pointer b (pos 0)) next)

-- what a call of a prelude function does
abbrev pub calls_prelude : ProgramTree → Turn → Option ℕ → List Value → Place → ℕ → PreludeFunction → Act
calls_prelude p turn target vs place next Abort = Goes (ended turn.state Aborted)
calls_prelude p turn target vs place next PutChar =
    let byte = byte_of (number_of (argument vs 0)) in
    Goes (receives (after_output turn (byte ∷ [])) target (values.Number (pos byte)) next)
calls_prelude p turn target vs place next PrintInt =
    Goes (goes_on (after_output turn (signed_decimal (number_of (argument vs 0)) ++ 10 ∷ [])) next)
calls_prelude p turn target vs place next ThreadStart = starts turn (argument vs 1) place next (run_of p (argument vs 0))
calls_prelude p turn target vs place next ThreadStartJoinable = starts_joinable turn target (argument vs 1) place next (run_of p (argument vs 0))
calls_prelude p turn target vs place next ThreadJoin = joins turn (argument vs 0) place next (pointed_at turn.state.memory (argument vs 0))
calls_prelude p turn target vs place next CreateMutex =
    Allocates (ended turn.state Aborted) (λ b. receives (over_memory turn (map.insert turn.state.memory b (Mutex None))) target (values.Pointer b (pos 0)) next)
calls_prelude p turn target vs place next MutexAcquire = acquires turn (argument vs 0) place next (pointed_at turn.state.memory (argument vs 0))
calls_prelude p turn target vs place next MutexRelease = releases turn (argument vs 0) place next (pointed_at turn.state.memory (argument vs 0))
calls_prelude p turn target vs place next MutexDispose = disposes turn (argument vs 0) place next (pointed_at turn.state.memory (argument vs 0))

-- a new frame above the caller's, which waits at the step that follows
abbrev pub enters : Turn → ℕ → FunctionTree → Option ℕ → List Value → ℕ → State
enters turn number f target vs next = with_frames turn (entered number f vs target ∷ at_step turn.frame next ∷ turn.callers)

-- a call of a function with a body, and fault pointer where there is none
abbrev pub calls_body : Turn → Option ℕ → List Value → Place → ℕ → ℕ → Option FunctionTree → Act
calls_body turn target vs place next number None = Faults faults.Pointer place
calls_body turn target vs place next number (Some f) = Goes (enters turn number f target vs next)

-- the same by its number. In a linked program each function that is called has a body, or is the prelude's
abbrev pub calls_number : ProgramTree → Turn → Option ℕ → List Value → Place → ℕ → Option ℕ → Act
calls_number p turn target vs place next None = Faults faults.Pointer place
calls_number p turn target vs place next (Some number) = calls_body turn target vs place next number (slice_get p.functions number)

-- a call of a function that is known as the prelude's, or is not
abbrev pub calls_named : ProgramTree → Turn → Option ℕ → Identity → List Value → Place → ℕ → Option PreludeFunction → Act
calls_named p turn target g vs place next (Some f) = calls_prelude p turn target vs place next f
calls_named p turn target g vs place next None = calls_number p turn target vs place next (function_named p g)

-- a call of the function of an identity: the prelude's in one step, and any other by a frame
abbrev pub calls : ProgramTree → Turn → Option ℕ → Identity → List Value → Place → ℕ → Act
calls p turn target g vs place next = calls_named p turn target g vs place next (prelude_named g)

-- whether a function with the signature was found
abbrev pub body_has_signature : Option (ℕ × FunctionTree) → Bool
body_has_signature None = false
body_has_signature (Some f) = true

-- whether a function of that identity, the prelude's or with a body, has the signature
abbrev pub has_signature : ProgramTree → Identity → Signature → Option PreludeFunction → Bool
has_signature p g want (Some f) = same_signature (signature_of f) want
has_signature p g want None = body_has_signature (numbered p want (function_named p g))

-- a call through a pointer: fault pointer where the value is no function of that signature
abbrev pub calls_pointer : ProgramTree → Turn → Option ℕ → Value → Signature → List Value → Place → ℕ → Act
calls_pointer p turn target (values.Function g) want vs place next =
    cond (has_signature p g want (prelude_named g)) (calls p turn target g vs place next) (Faults faults.Pointer place)
calls_pointer p turn target _ want vs place next = Faults faults.Pointer place

-- the number that main returns, which is an int
abbrev pub returned_number : Option Value → ℤ
returned_number None = pos 0
returned_number (Some v) = number_of v

-- the end of a thread's last frame is the thread's end, and main's is the end of the run
abbrev pub ends_thread : Turn → Option Value → State
ends_thread turn value =
    let over = with_frames turn [] in
    cond (turn.thread == 0) (ended over (Returned (returned_number value))) over

-- a return to the caller, which gets the value where it wants one
abbrev pub returns_to : Turn → Option Value → List Frame → State
returns_to turn value [] = ends_thread turn value
returns_to turn value (caller ∷ callers) = with_frames turn (with_result caller turn.frame.target value ∷ callers)

-- the state after a return
abbrev pub returns : Turn → Option Value → State
returns turn value = returns_to turn value turn.callers
