-- States of the machine: memory, threads with their frames, the output, and how the run has ended.
use Rattle.std.specs.Prelude.{ℕ, ◌-◌, List, [], ◌∷◌, ◌++◌, length, map, replicate, slice_set, Option, Some, None, ℤ}
use Rattle.vf_base.specs.declared.place.Place.{Place}
use Rattle.vf_tree.specs.Core.{Identity, FunctionTree, ProgramTree}
use Rattle.vf_model.specs.declared.words.FaultKind.{FaultKind}
use Rattle.vf_model.specs.Values.{Value, same_identity}
use Rattle.vf_model.specs.Memory.{Memory}
use Rattle.std.specs.List.{position}

-- What a call of a function has made: which function it is, by its number in the program, the number of its next step, its locals (None where unset), and the caller's local that wants the result
pub record Frame : Type 0 where
  pub function : ℕ
  pub step : ℕ
  pub locals : List (Option Value)
  pub target : Option ℕ

-- A thread is its frames, the innermost first. It has ended where it has none
abbrev pub Thread : Type 0
Thread = List Frame

-- how a run ends: main returns a number, a step aborts, or a step has a fault
pub data End : Type 0 where
  Returned : ℤ → End
  Aborted : End
  Faulted : FaultKind → Place → End

-- The threads stand in the order of their start, and main is the first, thread 0. The output is bytes
pub record State : Type 0 where
  pub memory : Memory
  pub threads : List Thread
  pub output : List ℕ
  pub end : Option End

-- the locals of a function as a call makes them: first the arguments, and the others unset
abbrev pub locals_of : FunctionTree → List Value → List (Option Value)
locals_of f arguments = map Some arguments ++ replicate (length f.locals - length arguments) None

-- a call of the function of that number, before its first step
abbrev pub entered : ℕ → FunctionTree → List Value → Option ℕ → Frame
entered number f arguments target = record { function = number; step = 0; locals = locals_of f arguments; target = target }

-- the number of the program's function of that identity
abbrev pub function_named : ProgramTree → Identity → Option ℕ
function_named p g = position (λ f. same_identity f.identity g) p.functions

-- A thread whose turn it is: the state, the thread's number, its innermost frame, and the frames of those that wait for it
pub record Turn : Type 0 where
  pub state : State
  pub thread : ℕ
  pub frame : Frame
  pub callers : List Frame

-- the frame at another step
abbrev pub at_step : Frame → ℕ → Frame
at_step frame next = record frame { step = next }

-- the frame with a value in a local
abbrev pub with_local : Frame → ℕ → Value → Frame
with_local frame x v = record frame { locals = slice_set frame.locals x (Some v) }

-- the frame with a call's result where it wants one
abbrev pub with_result : Frame → Option ℕ → Option Value → Frame
with_result frame (Some x) (Some v) = with_local frame x v
with_result frame _ _ = frame

-- the state with other frames for the thread
abbrev pub with_frames : Turn → List Frame → State
with_frames turn frames = record turn.state { threads = slice_set turn.state.threads turn.thread frames }

-- the thread goes on at a step
abbrev pub goes_on : Turn → ℕ → State
goes_on turn next = with_frames turn (at_step turn.frame next ∷ turn.callers)

-- the thread goes on at a step, with a value in a local
abbrev pub sets : Turn → ℕ → Value → ℕ → State
sets turn x v next = with_frames turn (at_step (with_local turn.frame x v) next ∷ turn.callers)

-- the thread goes on at a step, with a call's result where it wants one
abbrev pub receives : Turn → Option ℕ → Value → ℕ → State
receives turn target v next = with_frames turn (at_step (with_result turn.frame target (Some v)) next ∷ turn.callers)

-- the same turn over another memory
abbrev pub over_memory : Turn → Memory → Turn
over_memory turn m = record turn { state = record turn.state { memory = m } }

-- the same turn with more output
abbrev pub after_output : Turn → List ℕ → Turn
after_output turn bytes = record turn { state = record turn.state { output = turn.state.output ++ bytes } }

-- the same turn with one more thread, which has one frame
abbrev pub after_start : Turn → Frame → Turn
after_start turn frame = record turn { state = record turn.state { threads = turn.state.threads ++ (frame ∷ []) ∷ [] } }

-- the state in which the run has ended
abbrev pub ended : State → End → State
ended s end = record s { end = Some end }
