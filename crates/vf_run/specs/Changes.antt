-- How much a state has after a step.
use Rattle.std.specs.Prelude.{◌≡◌, ℕ, List, Some, slice_get}
use Rattle.vf_tree.specs.Core.{Identity, ProgramTree}
use Rattle.vf_model.specs.Runs.{happens}
use Rattle.vf_engine.specs.States.{state_of, turn_of, callers_of}
use Rattle.vf_engine.specs.Effects.{act_of_effect}
use Rattle.vf_engine.specs.declared.state.Frame.{Frame}
use Rattle.vf_engine.specs.declared.state.Thread.{Thread}
use Rattle.vf_engine.specs.declared.state.Running.{Running}
use Rattle.vf_engine.specs.declared.effect.Effect.{Effect}
use Rattle.vf_run.specs.declared.counts.Counts.{Counts}
use Rattle.vf_run.specs.Counts.{HasCounts}

-- the state after a step of the thread that has the effect has these counts
abbrev pub CountsAfter : List Identity → ProgramTree → Running → ℕ → ℕ → Effect → Counts → Type 0
CountsAfter names p r thread grant effect c =
    (of : Thread) (frame : Frame) → slice_get r.threads.items thread ≡ Some of → of.frame ≡ Some frame
    → HasCounts (happens (state_of names r) grant (act_of_effect names p (turn_of names r thread frame (callers_of names of.callers.items)) effect)) c
