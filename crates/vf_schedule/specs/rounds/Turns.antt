-- Turns: the threads go round, and each takes up to so many events, each with grant 1.
use Rattle.std.specs.Prelude.{ℕ, zero, suc, ◌+◌, ◌-◌, ◌%◌, cond, ◌&&◌, nat_lt, List, [], ◌∷◌, length, map, Option, Some, None}
use Rattle.std.specs.List.{find, range_with_len}
use Rattle.std.specs.Option.{option_map}
use Rattle.vf_tree.specs.Core.{ProgramTree}
use Rattle.vf_model.specs.declared.words.Event.{Event}
use Rattle.vf_model.specs.State.{State}
use Rattle.vf_model.specs.Runs.{after, can_step}

-- a thread's event, in which an allocation is granted
abbrev pub event_of : ℕ → Event
event_of thread = record { thread = thread; grant = 1 }

-- the thread that comes so many places behind the next one after a thread, where so many go round
abbrev pub thread_at : ℕ → ℕ → ℕ → ℕ
thread_at thread count places = (thread + 1 + places) % count

-- the threads in the order in which they come after one of so many, which comes last itself
abbrev pub threads_after : ℕ → ℕ → List ℕ
threads_after thread count = map (thread_at thread count) (range_with_len 0 count)

-- the first thread after one that can step, if any can
abbrev pub next_stepper : ProgramTree → State → ℕ → Option ℕ
next_stepper p s thread = find (can_step p s) (threads_after thread (length s.threads))

-- a new turn, of which one event is taken
abbrev pub new_turn : ℕ → ℕ → ℕ × ℕ
new_turn quantum thread = (thread, quantum - 1)

-- which thread takes the next event, and how many events are left of its turn then: the one whose turn it is, where some are left and it can step; else the next thread that can. None takes one where none can step, and then the run is not Running
abbrev pub next_turn : ProgramTree → ℕ → State → ℕ → ℕ → Option (ℕ × ℕ)
next_turn p quantum s thread left =
    cond (nat_lt 0 left && can_step p s thread) (Some (thread, left - 1)) (option_map (new_turn quantum) (next_stepper p s thread))

-- the events from a turn on, and none where there is no turn
abbrev pub events_from : Option (ℕ × ℕ) → (ℕ × ℕ → List Event) → List Event
events_from None rest = []
events_from (Some turn) rest = event_of turn.0 ∷ rest turn

-- the events that the threads take by turns from a state on, of at most so many, where so many are left of a thread's turn
abbrev pub turns_from : ProgramTree → ℕ → State → ℕ → ℕ → ℕ → List Event
turns_from p quantum s thread left zero = []
turns_from p quantum s thread left (suc steps) =
    events_from (next_turn p quantum s thread left) (λ turn. turns_from p quantum (after p s (event_of turn.0)) turn.0 turn.1 steps)

-- the events of at most so many that the threads take by turns: thread 0 begins
abbrev pub turns_of : ProgramTree → ℕ → State → ℕ → List Event
turns_of p quantum s steps = turns_from p quantum s 0 quantum steps
