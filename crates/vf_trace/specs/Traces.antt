-- What a run under a list of events shows.
use Rattle.std.specs.Prelude.{◌≡◌, ℕ, ◌+◌, ◌<◌, ◌≤◌, List, length, take, Some, None, Result, Ok, Err}
use Rattle.std.specs.List.{fold}
use Rattle.vf_tree.specs.Core.{ProgramTree}
use Rattle.vf_model.specs.declared.words.Event.{Event}
use Rattle.vf_model.specs.State.{State}
use Rattle.vf_model.specs.Runs.{after}
use Rattle.vf_engine.specs.declared.words.StepFault.{StepFault}
use Rattle.vf_engine.specs.declared.words.StepFault.TheVariants as refusals
use Rattle.vf_run.specs.Counts.{first_passed}
use Rattle.vf_trace.specs.Sights.{IsQuiet, IsSeen}
use Rattle.vf_trace.specs.declared.sight.Sight.TheVariants as sights
use Rattle.vf_trace.specs.declared.following.Finding.{Finding}
use Rattle.vf_trace.specs.declared.following.Finding.TheVariants as findings

-- the state after the first events of a list
abbrev pub state_after : ProgramTree → State → List Event → ℕ → State
state_after p s events count = fold (after p) s (take count events)

-- the run has come to the state after so many events: in no state before was a fault or a race, and no step on the way needed more than a limit
pub record ComesTo (p : ProgramTree) (s : State) (events : List Event) (count : ℕ) (new : State) : Type 0 where
  pub within : count ≤ length events
  pub quiet : (earlier : ℕ) → earlier < count → IsQuiet p (state_after p s events earlier)
  pub fits : (earlier : ℕ) → earlier < count → first_passed (state_after p s events (earlier + 1)) ≡ None
  pub state : new ≡ state_after p s events count

-- what is found: the first state with a fault or a race and what is seen there, or that no state up to the last has one
abbrev pub IsFound : ProgramTree → State → List Event → State → Finding → Type 0
IsFound p s events new findings.Clean = ComesTo p s events (length events) new × IsQuiet p new
IsFound p s events new (findings.Fault count thread kind place) = ComesTo p s events count new × IsSeen p new (Some (sights.Fault thread kind place))
IsFound p s events new (findings.Race count first first_place second second_place) =
    ComesTo p s events count new × IsSeen p new (Some (sights.Race first first_place second second_place))

-- the run stands before an event, and no state up to there has a fault or a race
pub record StandsBefore (p : ProgramTree) (s : State) (events : List Event) (count : ℕ) (new : State) : Type 0 where
  pub comes : ComesTo p s events count new
  pub left : count < length events
  pub quiet : IsQuiet p new

-- why the run goes no further: the next step needs more than a limit, or there is no memory for it
abbrev pub IsRefusedBy : StepFault → State → Type 0
IsRefusedBy (refusals.Capacity limit) next = first_passed next ≡ Some limit
IsRefusedBy refusals.Memory next = Unit {0}

-- what is answered: what is found, or why an event was not taken before which nothing was found
abbrev pub IsTraced : ProgramTree → State → List Event → State → Result Finding StepFault → Type 0
IsTraced p s events new (Ok finding) = IsFound p s events new finding
IsTraced p s events new (Err fault) = (count : ℕ) × StandsBefore p s events count new × IsRefusedBy fault (state_after p s events (count + 1))
