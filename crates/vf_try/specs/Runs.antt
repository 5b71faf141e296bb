-- What a program's run, and the search in it, print under a schedule.
use Rattle.std.specs.Prelude.{◌≡◌, ℕ, ◌+◌, ◌<◌, ◌≤◌, List, ◌++◌, length, Some, None}
use Rattle.vf_tree.specs.Core.{ProgramTree}
use Rattle.vf_model.specs.declared.words.Event.{Event}
use Rattle.vf_model.specs.declared.words.Outcome.{Outcome}
use Rattle.vf_model.specs.declared.words.Outcome.TheVariants.{Fault}
use Rattle.vf_model.specs.State.{State}
use Rattle.vf_model.specs.Runs.{opening, outcome_of, reach}
use Rattle.vf_engine.specs.declared.words.Limit.{Limit}
use Rattle.vf_run.specs.Counts.{first_passed}
use Rattle.vf_trace.specs.declared.following.Finding.{Finding}
use Rattle.vf_trace.specs.declared.following.Finding.TheVariants.{Clean}
use Rattle.vf_trace.specs.Traces.{IsFound, StandsBefore, state_after}
use Rattle.vf_report.specs.declared.status.Status.{Status}
use Rattle.vf_report.specs.declared.status.Status.TheVariants as statuses
use Rattle.vf_report.specs.Lines.{capacity_line, closed_output, finding_line, run_lines}
use Rattle.vf_try.specs.declared.purpose.Purpose.{Purpose}
use Rattle.vf_try.specs.declared.purpose.Purpose.TheVariants.{Run, Trace}

-- the run from a state has come to the state after so many events, and no step on the way needed more than a limit
pub record Follows (p : ProgramTree) (s : State) (events : List Event) (count : ℕ) (new : State) : Type 0 where
  pub within : count ≤ length events
  pub fits : (earlier : ℕ) → earlier < count → first_passed (state_after p s events (earlier + 1)) ≡ None
  pub state : new ≡ state_after p s events count

-- the run goes no further than to this state, since its next step needs more than a limit
pub record IsFull (p : ProgramTree) (s : State) (events : List Event) (new : State) (limit : Limit) : Type 0 where
  pub count : ℕ
  pub left : count < length events
  pub follows : Follows p s events count new
  pub passed : first_passed (state_after p s events (count + 1)) ≡ Some limit

-- a run that ends in a fault is told by its status
abbrev pub status_of_outcome : Outcome → Status
status_of_outcome (Fault kind place) = statuses.RunFault
status_of_outcome outcome = statuses.Done

-- so is a fault or a race that was found
abbrev pub status_of_finding : Finding → Status
status_of_finding Clean = statuses.Done
status_of_finding finding = statuses.RunFault

-- the program's run prints what it wrote and how it stands after the events, or, where a step needs more than a limit, what it wrote up to there and the limit
pub data RunPrints (path_of : ℕ → List ℕ) (p : ProgramTree) (events : List Event) : Status → List ℕ → Type 0 where
  ends : Follows p (opening p) events (length events) (reach p events) → RunPrints path_of p events (status_of_outcome (outcome_of p (reach p events))) (run_lines path_of p events)
  stops : (new : State) (limit : Limit) → IsFull p (opening p) events new limit → RunPrints path_of p events statuses.Capacity (closed_output new.output ++ capacity_line limit)

-- the search in the program's run prints the first fault or race, or that there is none, or, where a step before needs more than a limit, that limit
pub data TracePrints (path_of : ℕ → List ℕ) (p : ProgramTree) (events : List Event) : Status → List ℕ → Type 0 where
  found : (new : State) (finding : Finding) → IsFound p (opening p) events new finding → TracePrints path_of p events (status_of_finding finding) (finding_line path_of finding)
  stops : (new : State) (count : ℕ) (limit : Limit) → StandsBefore p (opening p) events count new → first_passed (state_after p (opening p) events (count + 1)) ≡ Some limit → TracePrints path_of p events statuses.Capacity (capacity_line limit)

-- what is printed of a program for a purpose
abbrev pub ProgramPrints : Purpose → (ℕ → List ℕ) → ProgramTree → List Event → Status → List ℕ → Type 0
ProgramPrints Run path_of p events status text = RunPrints path_of p events status text
ProgramPrints Trace path_of p events status text = TracePrints path_of p events status text
