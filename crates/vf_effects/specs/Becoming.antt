-- What becomes of the states of the code.
use Rattle.std.specs.Prelude.{◌≡◌, ℕ, List, Option, Some, slice_get, pos}
use Rattle.std.specs.FinMap as map
use Rattle.vf_tree.specs.Core.{Identity}
use Rattle.vf_model.specs.Values as values
use Rattle.vf_model.specs.Memory.{Block, granted_block}
use Rattle.vf_model.specs.State.{State, Turn, over_memory, receives}
use Rattle.vf_engine.specs.States.{state_of, turn_of, callers_of}
use Rattle.vf_engine.specs.declared.state.Frame.{Frame}
use Rattle.vf_engine.specs.declared.state.Thread.{Thread}
use Rattle.vf_engine.specs.declared.state.Running.{Running}

-- the new state is that one, for the turn of the thread in its innermost frame
abbrev pub Becomes : List Identity → Running → ℕ → (Turn → State) → Running → Type 0
Becomes names old thread after new =
    (of : Thread) (frame : Frame) → slice_get old.threads.items thread ≡ Some of → of.frame ≡ Some frame
    → state_of names new ≡ after (turn_of names old thread frame (callers_of names of.callers.items))

-- the new state stands for the same as the old one
abbrev pub StaysAs : List Identity → Running → Running → Type 0
StaysAs names old new = state_of names new ≡ state_of names old

-- a block at the number that a grant gives, with a pointer to it where the thread wants one
abbrev pub placed : Turn → ℕ → Option ℕ → Block → ℕ → State
placed turn grant target block next =
    receives (over_memory turn (map.insert turn.state.memory (granted_block turn.state.memory grant) block)) target (values.Pointer (granted_block turn.state.memory grant) (pos 0)) next
