-- What has been taken of turns.
use Rattle.std.specs.Prelude.{◌≡◌, ℕ, List, [], ◌∷◌, ◌++◌, Option, Some, None, Result, Ok, Err}
use Rattle.std.specs.List.{fold}
use Rattle.vf_tree.specs.Core.{ProgramTree}
use Rattle.vf_model.specs.declared.words.Event.{Event}
use Rattle.vf_model.specs.State.{State}
use Rattle.vf_model.specs.Runs.{after}
use Rattle.vf_engine.specs.declared.words.StepFault.{StepFault}
use Rattle.vf_engine.specs.declared.words.StepFault.TheVariants as refusals
use Rattle.vf_run.specs.Counts.{first_passed}
use Rattle.vf_schedule.specs.rounds.Turns.{event_of}
use Rattle.vf_schedule.specs.declared.rounds.turning.Turn.{Turn}

-- no step of these events needs more than a limit
abbrev pub FitsAll : ProgramTree → State → List Event → Type 0
FitsAll p s [] = Unit {0}
FitsAll p s (e ∷ events) = (first_passed (after p s e) ≡ None) × FitsAll p (after p s e) events

-- the events were taken from a state to a new one, and were added to a log
pub record AreTaken (p : ProgramTree) (s : State) (log : List Event) (events : List Event) (new : State) (new_log : List Event) : Type 0 where
  pub state : new ≡ fold (after p) s events
  pub logged : new_log ≡ log ++ events
  pub fits : FitsAll p s events

-- why no more of the events was taken: the next one needs more than a limit, or there is no memory
abbrev pub IsRefusedAt : StepFault → ProgramTree → State → List Event → Type 0
IsRefusedAt (refusals.Capacity limit) p new [] = ⊥
IsRefusedAt (refusals.Capacity limit) p new (e ∷ rest) = first_passed (after p new e) ≡ Some limit
IsRefusedAt refusals.Memory p new rest = Unit {0}

-- some of the events were taken, and no more
pub record StopsAt (p : ProgramTree) (s : State) (log : List Event) (events : List Event) (fault : StepFault) (new : State) (new_log : List Event) : Type 0 where
  pub taken : List Event
  pub rest : List Event
  pub parts : events ≡ taken ++ rest
  pub are_taken : AreTaken p s log taken new new_log
  pub refused : IsRefusedAt fault p new rest

-- what became of the events: all were taken, or some
abbrev pub AreTurned : ProgramTree → State → List Event → List Event → Result (Unit {0}) StepFault → State → List Event → Type 0
AreTurned p s log events (Ok done) new new_log = AreTaken p s log events new new_log
AreTurned p s log events (Err fault) new new_log = StopsAt p s log events fault new new_log

-- the event of a thread was taken from a state and logged, and needs no more than the limits
pub record TakesOne (p : ProgramTree) (s : State) (log : List Event) (thread : ℕ) (new : State) (new_log : List Event) : Type 0 where
  pub state : new ≡ after p s (event_of thread)
  pub logged : new_log ≡ log ++ event_of thread ∷ []
  pub fits : first_passed (after p s (event_of thread)) ≡ None

-- nothing was taken
pub record Stays (s : State) (log : List Event) (new : State) (new_log : List Event) : Type 0 where
  pub state : new ≡ s
  pub logged : new_log ≡ log

-- why the event of the thread that is next was not taken: it needs more than a limit, or there is no memory
abbrev pub IsRefusedTo : StepFault → ProgramTree → State → Option ℕ → Type 0
IsRefusedTo (refusals.Capacity limit) p s next = (thread : ℕ) × (next ≡ Some thread) × (first_passed (after p s (event_of thread)) ≡ Some limit)
IsRefusedTo refusals.Memory p s next = Unit {0}

-- what became of the thread that is next, if there is one
abbrev pub IsNextTaken : ProgramTree → State → List Event → Option ℕ → Result (Option ℕ) StepFault → State → List Event → Type 0
IsNextTaken p s log next (Ok None) new new_log = (next ≡ None) × Stays s log new new_log
IsNextTaken p s log next (Ok (Some thread)) new new_log = (next ≡ Some thread) × TakesOne p s log thread new new_log
IsNextTaken p s log next (Err fault) new new_log = Stays s log new new_log × IsRefusedTo fault p s next

-- why the event of the turn that is next was not taken
abbrev pub IsRefusedTurn : StepFault → ProgramTree → State → Option (ℕ × ℕ) → Type 0
IsRefusedTurn (refusals.Capacity limit) p s next = (turn : ℕ × ℕ) × (next ≡ Some turn) × (first_passed (after p s (event_of turn.0)) ≡ Some limit)
IsRefusedTurn refusals.Memory p s next = Unit {0}

-- what became of the turn that is next, if there is one
abbrev pub IsTurnTaken : ProgramTree → State → List Event → Option (ℕ × ℕ) → Result (Option Turn) StepFault → State → List Event → Type 0
IsTurnTaken p s log next (Ok None) new new_log = (next ≡ None) × Stays s log new new_log
IsTurnTaken p s log next (Ok (Some turn)) new new_log = (next ≡ Some (turn.thread, turn.left)) × TakesOne p s log turn.thread new new_log
IsTurnTaken p s log next (Err fault) new new_log = Stays s log new new_log × IsRefusedTurn fault p s next
