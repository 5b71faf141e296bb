-- What is seen in one state: faults of next steps, and races between two of them.
use Rattle.std.specs.Prelude.{◌≡◌, ℕ, ◌≤◌, Option, Some, None}
use Rattle.vf_base.specs.declared.place.Place.{Place}
use Rattle.vf_tree.specs.Core.{ProgramTree}
use Rattle.vf_model.specs.declared.words.FaultKind.{FaultKind}
use Rattle.vf_model.specs.State.{State}
use Rattle.vf_model.specs.Runs.{Fault}
use Rattle.vf_model.specs.Races.{Race}
use Rattle.vf_trace.specs.Touching.{IsRaceAt}
use Rattle.vf_trace.specs.declared.sight.Sight.{Sight}
use Rattle.vf_trace.specs.declared.sight.Sight.TheVariants as sights

-- no thread's next step has a fault
abbrev pub IsFaultless : ProgramTree → State → Type 0
IsFaultless p s = (thread : ℕ) (kind : FaultKind) (place : Place) → Fault p s thread kind place → ⊥

-- no thread's next step has a fault, and no two threads race
pub record IsQuiet (p : ProgramTree) (s : State) : Type 0 where
  pub faultless : IsFaultless p s
  pub raceless : Race p s → ⊥

-- the next step of the thread has that fault, and no lesser thread's next step has any
pub record IsFirstFault (p : ProgramTree) (s : State) (thread : ℕ) (kind : FaultKind) (place : Place) : Type 0 where
  pub faults : Fault p s thread kind place
  pub least : (other : ℕ) (k : FaultKind) (at : Place) → Fault p s other k at → thread ≤ other

-- the two threads race by steps at these places, and no pair of threads that race is less, the first threads being compared first
pub record IsFirstRace (p : ProgramTree) (s : State) (first : ℕ) (first_place : Place) (second : ℕ) (second_place : Place) : Type 0 where
  pub race : IsRaceAt p s first first_place second second_place
  pub least_first : (other : Race p s) → first ≤ other.first
  pub least_second : (other : Race p s) → other.first ≡ first → second ≤ other.second

-- what is seen first in a state: a fault of the least thread that has one, else the least race, else nothing
abbrev pub IsSeen : ProgramTree → State → Option Sight → Type 0
IsSeen p s None = IsQuiet p s
IsSeen p s (Some (sights.Fault thread kind place)) = IsFirstFault p s thread kind place
IsSeen p s (Some (sights.Race first first_place second second_place)) = IsFaultless p s × IsFirstRace p s first first_place second second_place
