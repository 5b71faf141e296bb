-- What the states of the code stand for.
use Rattle.std.specs.Prelude.{ℕ, List, [], ◌∷◌, map, reverse, Option, Some, None}
use Rattle.vf_tree.specs.Core.{Identity}
use Rattle.vf_model.specs.State as model
use Rattle.vf_engine.specs.Values.{cells_of}
use Rattle.vf_engine.specs.Memories.{memory_of}
use Rattle.vf_engine.specs.declared.state.Frame.{Frame}
use Rattle.vf_engine.specs.declared.state.Thread.{Thread}
use Rattle.vf_engine.specs.declared.state.End.{End}
use Rattle.vf_engine.specs.declared.state.End.TheVariants as ends
use Rattle.vf_engine.specs.declared.state.Running.{Running}

-- a frame
abbrev pub frame_of : List Identity → Frame → model.Frame
frame_of names f = record { function = f.function; step = f.step; locals = cells_of names f.locals.items; target = f.target }

-- the frames that wait, the nearest first
abbrev pub callers_of : List Identity → List Frame → List model.Frame
callers_of names frames = reverse (map (frame_of names) frames)

-- the frames of a thread with that innermost one
abbrev pub frames_with : List Identity → Option Frame → List Frame → model.Thread
frames_with names None callers = []
frames_with names (Some frame) callers = frame_of names frame ∷ callers_of names callers

-- a thread
abbrev pub thread_of : List Identity → Thread → model.Thread
thread_of names t = frames_with names t.frame t.callers.items

-- how the run has ended, if it has
abbrev pub end_of : Option End → Option model.End
end_of None = None
end_of (Some (ends.Returned z)) = Some (model.Returned z)
end_of (Some ends.Aborted) = Some model.Aborted
end_of (Some (ends.Fault kind place)) = Some (model.Faulted kind place)

-- a state
abbrev pub state_of : List Identity → Running → model.State
state_of names r = record {
  memory = memory_of names r.blocks;
  threads = map (thread_of names) r.threads.items;
  output = r.output;
  end = end_of r.end;
}

-- the turn of a thread in a frame, over those that wait for it
abbrev pub turn_of : List Identity → Running → ℕ → Frame → List model.Frame → model.Turn
turn_of names r thread frame callers = record { state = state_of names r; thread = thread; frame = frame_of names frame; callers = callers }
