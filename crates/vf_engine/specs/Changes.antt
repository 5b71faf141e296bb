-- What becomes of frames.
use Rattle.std.specs.Prelude.{ℕ, List, [], ◌∷◌, Option, Some}
use Rattle.vf_model.specs.Values as values
use Rattle.vf_tree.specs.Core.{Identity}
use Rattle.vf_model.specs.State.{Frame, at_step, with_local, with_result}
use Rattle.vf_engine.specs.Values.{value_of}
use Rattle.vf_engine.specs.declared.threads.Change.{Change}
use Rattle.vf_engine.specs.declared.threads.Change.TheVariants as changes

-- the frame after a change
abbrev pub changed : List Identity → Frame → Change → Frame
changed names frame (changes.Goto next) = at_step frame next
changed names frame (changes.Set local value next) = at_step (with_local frame local (value_of names value)) next
changed names frame (changes.Receive target value next) = at_step (with_result frame target (Some (value_of names value))) next

-- the frames of a thread whose innermost frame has returned, which wanted the result there: the next frame gets it
abbrev pub frames_after : Option ℕ → Option values.Value → List Frame → List Frame
frames_after target value [] = []
frames_after target value (caller ∷ callers) = with_result caller target value ∷ callers
