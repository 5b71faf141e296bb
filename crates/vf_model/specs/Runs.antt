-- Runs: one event, lists of events, faults, and how a run stands.
use Rattle.std.specs.Prelude.{◌≡◌, ℕ, ◌<◌, Bool, true, false, IsFalse, cond, not, ◌&&◌, ◌==◌, List, [], ◌∷◌, length, slice_get, Option, Some, None, is_none}
use Rattle.std.specs.List.{fold, list_any, range_with_len}
use Rattle.std.specs.FinMap as map
use Rattle.vf_base.specs.declared.place.Place.{Place}
use Rattle.vf_tree.specs.Core.{FunctionTree, ProgramTree}
use Rattle.vf_model.specs.declared.words.Event.{Event}
use Rattle.vf_model.specs.declared.words.FaultKind.{FaultKind}
use Rattle.vf_model.specs.declared.words.Outcome.{Outcome}
use Rattle.vf_model.specs.declared.words.Outcome.TheVariants as outcomes
use Rattle.vf_model.specs.Memory.{granted_block}
use Rattle.vf_model.specs.State.{Thread, End, Returned, Aborted, Faulted, State, entered, ended}
use Rattle.vf_model.specs.Acts.{Act, Goes, Touches, Allocates, Waits, Faults}
use Rattle.vf_model.specs.Calls.{has_ended}
use Rattle.vf_model.specs.Steps.{next_act}

-- the state after a step, by the grant: 0 denies an allocation
abbrev pub happens : State → ℕ → Act → State
happens s grant (Goes new) = new
happens s grant (Touches touch new) = new
happens s grant (Allocates denied granted) = cond (grant == 0) denied (granted (granted_block s.memory grant))
happens s grant Waits = s
happens s grant (Faults kind place) = ended s (Faulted kind place)

-- after the end of a run an event changes nothing
abbrev pub after_unended : ProgramTree → State → Event → Option End → State
after_unended p s e (Some end) = s
after_unended p s e None = happens s e.grant (next_act p s e.thread)

-- One event: a step of its thread. It changes nothing where the thread is unknown, has ended or is blocked
abbrev pub after : ProgramTree → State → Event → State
after p s e = after_unended p s e s.end

-- an act that is no step
abbrev pub is_wait : Act → Bool
is_wait Waits = true
is_wait _ = false

-- whether a thread can step: the run has not ended, and the thread is known, has not ended and does not wait
abbrev pub can_step : ProgramTree → State → ℕ → Bool
can_step p s t = is_none s.end && not (is_wait (next_act p s t))

-- the same in words: the run has not ended, the thread was started, it has not ended, and it is not blocked
pub record CanStep (p : ProgramTree) (s : State) (t : ℕ) : Type 0 where
  pub going : s.end ≡ None
  pub started : t < length s.threads
  pub unended : IsFalse (has_ended (slice_get s.threads t))
  pub unblocked : IsFalse (is_wait (next_act p s t))

-- a thread can step and its next step has that fault
pub record Fault (p : ProgramTree) (s : State) (t : ℕ) (kind : FaultKind) (place : Place) : Type 0 where
  pub going : s.end ≡ None
  pub faults : next_act p s t ≡ Faults kind place

-- the frames of main before its first step; in a program without its main there are none
abbrev pub main_frames : ℕ → Option FunctionTree → Thread
main_frames main None = []
main_frames main (Some f) = entered main f [] None ∷ []

-- the state before any event: no blocks, main as thread 0 at its first step, and no output
abbrev pub opening : ProgramTree → State
opening p = record {
  memory = map.empty;
  threads = main_frames p.main (slice_get p.functions p.main) ∷ [];
  output = [];
  end = None;
}

-- the state after a list of events
abbrev pub reach : ProgramTree → List Event → State
reach p events = fold (after p) (opening p) events

-- whether any thread can step
abbrev pub some_can_step : ProgramTree → State → Bool
some_can_step p s = list_any (can_step p s) (range_with_len 0 (length s.threads))

-- how a run stands that has not ended
abbrev pub standing : Bool → Outcome
standing true = outcomes.Running
standing false = outcomes.Blocked

-- how a run stands, by how it has ended
abbrev pub outcome_by : ProgramTree → State → Option End → Outcome
outcome_by p s (Some (Returned z)) = outcomes.Returned z
outcome_by p s (Some Aborted) = outcomes.Aborted
outcome_by p s (Some (Faulted kind place)) = outcomes.Fault kind place
outcome_by p s None = standing (some_can_step p s)

-- how a run stands
abbrev pub outcome_of : ProgramTree → State → Outcome
outcome_of p s = outcome_by p s s.end
