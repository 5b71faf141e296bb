-- Laws of runs, and the safety of what is accepted. Each is the contract of a public function with an empty body.
use Rattle.std.specs.Prelude.{◌≡◌, ◌≤◌, ℕ, suc, List, [], ◌∷◌, length, slice_get, Some, None, Ok, Bool, IsTrue}
use Rattle.vf_base.specs.declared.place.Place.{Place}
use Rattle.vf_tree.specs.Core.{ProgramTree}
use Rattle.vf_tree.specs.Shown.{program_of}
use Rattle.vf_tree.specs.declared.unit.Core.{Core}
use Rattle.vf_model.specs.declared.words.Event.{Event}
use Rattle.vf_model.specs.declared.words.FaultKind.{FaultKind}
use Rattle.vf_model.specs.declared.words.Outcome.TheVariants as outcomes
use Rattle.vf_model.specs.State.{State}
use Rattle.vf_model.specs.Runs.{opening, after, reach, outcome_of}
use Rattle.vf_model.specs.Races.{Race}
use Rattle.vf_meaning.specs.Assertions.{Environment}
use Rattle.vf_meaning.specs.Environments.{Extends, IsLinked}
use Rattle.vf_meaning.specs.Kept.{before, IsSafe, Kept}
use Rattle.vf_meaning.specs.GhostValues.{Interpretation}
use Rattle.vf_definitions.specs.Laws.{MeetsDefinitions}
use Rattle.vf_asking.specs.Journal.{Seen}
use Rattle.vf_asking.specs.Course.{Follows}
use Rattle.vf_asking.specs.Right.{AreRightFrom}
use Rattle.vf_exec.specs.Main.{checks}
use Rattle.vf_sound.specs.Allowed.{definitions_of}
use Rattle.vf_sound.specs.Environment.{environment_of}
use Rattle.vf_sound.specs.Formed.{IsFormed}

-- before its first event a list has come to the opening state, and each event leads from the state before it to the one before the next; behind the last nothing changes
abbrev pub EventsFollow : Type 0
EventsFollow =
    (p : ProgramTree) (events : List Event)
    → (before p events 0 ≡ opening p)
    × ((k : ℕ) (event : Event) → slice_get events k ≡ Some event → before p events (suc k) ≡ after p (before p events k) event)
    × ((k : ℕ) → slice_get events k ≡ None → before p events (suc k) ≡ before p events k)

-- a test that the opening state passes, and that every event keeps, is passed by every state that a list of events comes to
abbrev pub TestsHoldThroughout : Type 0
TestsHoldThroughout =
    (p : ProgramTree) (test : State → Bool) → IsTrue (test (opening p)) → ((s : State) (event : Event) → IsTrue (test s) → IsTrue (test (after p s event)))
    → (events : List Event) (k : ℕ) → IsTrue (test (before p events k))

-- one thread alone has no race
abbrev pub OneThreadHasNoRace : Type 0
OneThreadHasNoRace = (p : ProgramTree) (s : State) → length s.threads ≤ 1 → Race p s → ⊥

-- a list of events on which a program is safe does not come to stand at a fault, so that none is the outcome
abbrev pub SafeRunsShowNoFault : Type 0
SafeRunsShowNoFault =
    (p : ProgramTree) (events : List Event) → IsSafe p events → (kind : FaultKind) (place : Place) → outcome_of p (reach p events) ≡ outcomes.Fault kind place → ⊥

-- the environment of a unit is the linked one of that unit alone
abbrev pub OneUnitLinks : Type 0
OneUnitLinks = (core : Core) → IsLinked (environment_of core ∷ []) (environment_of core)

-- A program is safe and keeps what it owes, whichever its events: no state that it comes to has a fault of any thread or a race, and its share-outs and contracts are kept
abbrev pub IsAlwaysSafe : Environment → ProgramTree → Type 0
IsAlwaysSafe e p = (events : List Event) → IsSafe p events × Kept e p events

-- where the rules accept a core by right answers, its program is safe and keeps what it owes, whichever its events, in each environment that has all of the unit's; the fixpoints of the unit that asked have to be such that something gives them the values of their bodies
abbrev pub AcceptedIsSafe : Type 0
AcceptedIsSafe =
    (core : Core) (e : Environment) (i : Interpretation) (origin : ℕ) (s t : Seen) → IsFormed core → Extends (environment_of core) e
    → MeetsDefinitions i (definitions_of s) → origin ≤ length s.entries → Follows (checks core) s t (Ok tt) → AreRightFrom origin t → IsAlwaysSafe e (program_of core.plain)
