-- What happens to the state of the code when a thread's step has an effect.
use Rattle.std.specs.Prelude.{◌≡◌, ℕ, List, ◌∷◌, Some, slice_get}
use Rattle.vf_tree.specs.Core.{Identity, ProgramTree}
use Rattle.vf_model.specs.Runs.{happens}
use Rattle.vf_engine.specs.States.{state_of, turn_of, frame_of, callers_of}
use Rattle.vf_model.specs.State.{with_frames}
use Rattle.vf_engine.specs.Changes.{changed}
use Rattle.vf_engine.specs.declared.threads.Change.{Change}
use Rattle.vf_engine.specs.Effects.{act_of_effect}
use Rattle.vf_engine.specs.declared.state.Frame.{Frame}
use Rattle.vf_engine.specs.declared.state.Thread.{Thread}
use Rattle.vf_engine.specs.declared.state.Running.{Running}
use Rattle.vf_engine.specs.declared.effect.Effect.{Effect}

-- the new state is what the effect makes of the old one in the turn of the thread, whose innermost frame is the one that it has
abbrev pub Happened : List Identity → ProgramTree → Running → ℕ → ℕ → Effect → Running → Type 0
Happened names p old thread grant effect new =
    (of : Thread) (frame : Frame) → slice_get old.threads.items thread ≡ Some of → of.frame ≡ Some frame
    → state_of names new ≡ happens (state_of names old) grant (act_of_effect names p (turn_of names old thread frame (callers_of names of.callers.items)) effect)

-- the thread's innermost frame has changed, and nothing else
abbrev pub Changed : List Identity → Running → ℕ → Change → Running → Type 0
Changed names old thread change new =
    (of : Thread) (frame : Frame) → slice_get old.threads.items thread ≡ Some of → of.frame ≡ Some frame
    → state_of names new ≡ with_frames (turn_of names old thread frame (callers_of names of.callers.items)) (changed names (frame_of names frame) change ∷ callers_of names of.callers.items)
