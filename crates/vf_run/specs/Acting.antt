-- Which effect a thread's next step has.
use Rattle.std.specs.Prelude.{◌≡◌, ◌⊎◌, ℕ, List, Option, Some, None, IsSome, IsNone, IsFalse, Result, Ok, Err, slice_get}
use Rattle.vf_tree.specs.Core.{Identity, ProgramTree}
use Rattle.vf_model.specs.Steps.{next_act}
use Rattle.vf_model.specs.State.{State}
use Rattle.vf_model.specs.Runs.{can_step, CanStep}
use Rattle.vf_engine.specs.States.{state_of, turn_of, callers_of}
use Rattle.vf_engine.specs.Effects.{act_of_result}
use Rattle.vf_engine.specs.declared.state.Frame.{Frame}
use Rattle.vf_engine.specs.declared.state.Thread.{Thread}
use Rattle.vf_engine.specs.declared.state.Running.{Running}
use Rattle.vf_engine.specs.declared.effect.Effect.{Effect}
use Rattle.vf_engine.specs.declared.effect.Effect.TheVariants as effects
use Rattle.vf_engine.specs.declared.expressions.Trouble.{Trouble}
use Rattle.vf_engine.specs.declared.words.Stepped.{Stepped}
use Rattle.vf_engine.specs.declared.words.Stepped.TheVariants as steps
use Rattle.vf_engine.specs.declared.words.StepFault.{StepFault}

-- the functions that an effect goes on in are the program's
abbrev pub IsKnown : ProgramTree → Effect → Type 0
IsKnown p (effects.Enter number target arguments next) = IsSome (slice_get p.functions number)
IsKnown p (effects.Start run given next) = IsSome (slice_get p.functions run)
IsKnown p (effects.StartJoinable run given target next) = IsSome (slice_get p.functions run)
IsKnown p _ = Unit {0}

-- the innermost frame of a thread, if it is there
abbrev pub top_in : Option Thread → Option Frame
top_in None = None
top_in (Some of) = of.frame

-- the innermost frame of the thread of a number, if it has one
abbrev pub top_frame : Running → ℕ → Option Frame
top_frame r thread = top_in (slice_get r.threads.items thread)

-- a thread that has a frame: the innermost one
pub record InFrame (r : Running) (thread : ℕ) : Type 0 where
  pub of : Thread
  pub frame : Frame
  pub at : slice_get r.threads.items thread ≡ Some of
  pub framed : of.frame ≡ Some frame

-- the next step of the thread has that effect, or that fault, where it has a frame
abbrev pub Acts : List Identity → ProgramTree → Running → ℕ → Result Effect Trouble → Type 0
Acts names p r thread result =
    (of : Thread) (frame : Frame) → slice_get r.threads.items thread ≡ Some of → of.frame ≡ Some frame
    → next_act p (state_of names r) thread ≡ act_of_result names p (turn_of names r thread frame (callers_of names of.callers.items)) result

-- a thread without a frame waits
abbrev pub FramedOrWaits : Running → ℕ → Result Effect Trouble → Type 0
FramedOrWaits r thread result = InFrame r thread ⊎ (result ≡ Ok effects.Wait)

-- the effect is one of a program that has the functions
abbrev pub KnownOrFault : ProgramTree → Result Effect Trouble → Type 0
KnownOrFault p (Ok effect) = IsKnown p effect
KnownOrFault p (Err trouble) = Unit {0}

-- The answer of a step of a thread: the run had ended before; or it had not, and the thread cannot step; or the thread can step
abbrev pub IsAnswer : ProgramTree → State → ℕ → Stepped → Type 0
IsAnswer p s t steps.Ended = IsSome s.end
IsAnswer p s t steps.Idle = IsNone s.end × IsFalse (can_step p s t)
IsAnswer p s t steps.Moved = CanStep p s t

-- the same of a step that may not be taken; only one that could be taken is not taken
abbrev pub Answers : ProgramTree → State → ℕ → Result Stepped StepFault → Type 0
Answers p s t (Ok stepped) = IsAnswer p s t stepped
Answers p s t (Err fault) = CanStep p s t
