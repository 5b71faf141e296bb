-- What the machine's fields stand for.
use Rattle.std.specs.Prelude.{ℕ, ℤ, List, [], ◌∷◌, map, Option, Some, None}
use Rattle.std.specs.Option.{option_map}
use Rattle.std.specs.FinMap as blocks
use Rattle.vf_tree.specs.Core.{ProgramTree}
use Rattle.vf_tree.specs.Shown.{program_of}
use Rattle.vf_model.specs.Values.{Value, Number}
use Rattle.vf_model.specs.State.{End, Returned, Faulted, Frame, Thread, State}
use Rattle.vf_machine.specs.declared.program.Program.{Program}
use Rattle.vf_machine.specs.declared.machine.Frame as code_frame
use Rattle.vf_machine.specs.declared.machine.End as code_end
use Rattle.vf_machine.specs.declared.machine.End.TheVariants as ends
use Rattle.vf_machine.specs.declared.machine.Machine.{Machine}

-- the tree of a program
abbrev pub tree_of : Program → ProgramTree
tree_of p = program_of p.plain

-- the locals of a frame: numbers, or unset
abbrev pub values_of : List (Option ℤ) → List (Option Value)
values_of locals = map (option_map Number) locals

-- the frame that the thread has in main, the program's function of that number
abbrev pub frame_of : ℕ → code_frame.Frame → Frame
frame_of main frame = record { function = main; step = frame.step; locals = values_of frame.locals.items; target = None }

-- the frames of thread 0, which has ended where it has none
abbrev pub frames_of : ℕ → Option code_frame.Frame → Thread
frames_of main None = []
frames_of main (Some frame) = frame_of main frame ∷ []

-- how the run has ended
abbrev pub end_of : Option code_end.End → Option End
end_of None = None
end_of (Some (ends.Returned z)) = Some (Returned z)
end_of (Some (ends.Fault kind place)) = Some (Faulted kind place)

-- the program that a machine runs
abbrev pub machine_program : Machine → ProgramTree
machine_program m = tree_of m.program

-- The state that a machine is in. In this form there are no blocks, and thread 0 is the only one
abbrev pub machine_state : Machine → State
machine_state m = record {
  memory = blocks.empty;
  threads = frames_of m.program.plain.main m.frame ∷ [];
  output = m.output;
  end = end_of m.end;
}
