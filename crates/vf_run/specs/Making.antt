-- Steps that make nothing.
use Rattle.std.specs.Prelude.{◌≡◌, ℕ, ◌≤◌, List, ◌∷◌, length, slice_get, Option, Some, None}
use Rattle.std.specs.FinMap as finite
use Rattle.vf_tree.specs.Core.{Identity, ExpressionTree, StepTree, Set, Load, Store, Free, Offset, LoadAt, StoreAt, FreeInts, Call, CallPointer, If, Return, FunctionTree, ProgramTree}
use Rattle.vf_model.specs.declared.words.Event.{Event}
use Rattle.vf_model.specs.Values as values
use Rattle.vf_model.specs.PreludeFunctions.{PreludeFunction, Abort, ThreadJoin, MutexAcquire, MutexRelease, MutexDispose, prelude_named}
use Rattle.vf_model.specs.State.{Frame, State}
use Rattle.vf_model.specs.Evaluation.{Gives, evaluate}
use Rattle.vf_model.specs.Runs.{after}
use Rattle.vf_run.specs.Counts.{int_cells, frame_count}

-- a state has no more blocks, cells of arrays of int, threads, frames and bytes of output than another
pub record HasNoMore (than s : State) : Type 0 where
  pub blocks : finite.len s.memory ≤ finite.len than.memory
  pub cells : int_cells s.memory ≤ int_cells than.memory
  pub threads : length s.threads ≤ length than.threads
  pub frames : frame_count s.threads ≤ frame_count than.threads
  pub output : length s.output ≤ length than.output

-- an event makes nothing: the state after it has no more than the one before
abbrev pub MakesNothing : ProgramTree → State → Event → Type 0
MakesNothing p s e = HasNoMore s (after p s e)

-- the functions of the prelude that make nothing: those that abort, join, acquire, release and dispose
abbrev pub IsQuietFunction : Option PreludeFunction → Type 0
IsQuietFunction (Some Abort) = Unit {0}
IsQuietFunction (Some ThreadJoin) = Unit {0}
IsQuietFunction (Some MutexAcquire) = Unit {0}
IsQuietFunction (Some MutexRelease) = Unit {0}
IsQuietFunction (Some MutexDispose) = Unit {0}
IsQuietFunction _ = ⊥

-- a read, a write, a release, a return, a test, or a step of locals alone; a call is quiet where the function that is called is
abbrev pub IsQuiet : Frame → StepTree → Type 0
IsQuiet frame (Set x e next) = Unit {0}
IsQuiet frame (Load x e f place next) = Unit {0}
IsQuiet frame (Store e f new place next) = Unit {0}
IsQuiet frame (Free e g place next) = Unit {0}
IsQuiet frame (Offset x e i place next) = Unit {0}
IsQuiet frame (LoadAt x e i place next) = Unit {0}
IsQuiet frame (StoreAt e i new place next) = Unit {0}
IsQuiet frame (FreeInts e place next) = Unit {0}
IsQuiet frame (Call target g es place next) = IsQuietFunction (prelude_named g)
IsQuiet frame (CallPointer target e want es place next) = (g : Identity) → evaluate frame.locals e ≡ Gives (values.Function g) → IsQuietFunction (prelude_named g)
IsQuiet frame (If comparison left right so_step else_step) = Unit {0}
IsQuiet frame (Return e) = Unit {0}
IsQuiet frame _ = ⊥

-- a thread stands in a frame before a step of the program
pub record StandsAt (p : ProgramTree) (s : State) (t : ℕ) (frame : Frame) (step : StepTree) : Type 0 where
  pub callers : List Frame
  pub f : FunctionTree
  pub thread : slice_get s.threads t ≡ Some (frame ∷ callers)
  pub function : slice_get p.functions frame.function ≡ Some f
  pub at : slice_get f.steps frame.step ≡ Some step

-- the step that a thread takes before a quiet step makes nothing, whatever is granted
abbrev pub QuietStepsMakeNothing : Type 0
QuietStepsMakeNothing =
    (p : ProgramTree) (s : State) (e : Event) (frame : Frame) (step : StepTree) → StandsAt p s e.thread frame step → IsQuiet frame step → MakesNothing p s e
