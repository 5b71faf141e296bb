-- Laws of the machine. Each is the contract of a public function with an empty body.
use Rattle.std.specs.Prelude.{◌≡◌, ℕ, Some, IsTrue, IsFalse, ◌↔◌, List}
use Rattle.std.specs.List.{fold}
use Rattle.std.specs.FinMap as map
use Rattle.vf_base.specs.declared.place.Place.{Place}
use Rattle.vf_tree.specs.Core.{Identity, ProgramTree, Signature}
use Rattle.vf_model.specs.declared.words.Event.{Event}
use Rattle.vf_model.specs.declared.words.FaultKind.{FaultKind}
use Rattle.vf_model.specs.Values.{same_identity, same_signature}
use Rattle.vf_model.specs.Memory.{Memory, IsLeastFree, granted_block}
use Rattle.vf_model.specs.State.{End, Faulted, State, ended}
use Rattle.vf_model.specs.Runs.{after, can_step, CanStep, some_can_step, Fault}

-- an event after the end of the run changes nothing
abbrev pub EndsForGood : Type 0
EndsForGood = (p : ProgramTree) (s : State) (e : Event) (end : End) → s.end ≡ Some end → after p s e ≡ s

-- so no events do
abbrev pub StaysEnded : Type 0
StaysEnded = (p : ProgramTree) (s : State) (end : End) (events : List Event) → s.end ≡ Some end → fold (after p) s events ≡ s

-- the test whether a thread can step says just that
abbrev pub TellsSteppers : Type 0
TellsSteppers = (p : ProgramTree) (s : State) (t : ℕ) → IsTrue (can_step p s t) ↔ CanStep p s t

-- an event of a thread that cannot step changes nothing
abbrev pub IdlesElsewhere : Type 0
IdlesElsewhere = (p : ProgramTree) (s : State) (e : Event) → IsFalse (can_step p s e.thread) → after p s e ≡ s

-- a run is not blocked just where some thread can step
abbrev pub FindsSteppers : Type 0
FindsSteppers = (p : ProgramTree) (s : State) → IsTrue (some_can_step p s) ↔ ((t : ℕ) × CanStep p s t)

-- a step that has a fault ends the run by it whatever the grant, and its thread can step
abbrev pub FaultsByAnyGrant : Type 0
FaultsByAnyGrant =
    (p : ProgramTree) (s : State) (t : ℕ) (kind : FaultKind) (place : Place) → Fault p s t kind place
    → ((grant : ℕ) → after p s (record { thread = t; grant = grant }) ≡ ended s (Faulted kind place)) × CanStep p s t

-- a block's number that is wanted and free is the one that is granted
abbrev pub GrantsWanted : Type 0
GrantsWanted = (m : Memory) (wanted : ℕ) → IsFalse (map.contains_key m wanted) → granted_block m wanted ≡ wanted

-- where the wanted number is taken, the least free number is granted
abbrev pub GrantsLeastFree : Type 0
GrantsLeastFree = (m : Memory) (wanted : ℕ) → IsTrue (map.contains_key m wanted) → IsLeastFree m (granted_block m wanted)

-- the test on identities says just that two are equal
abbrev pub TellsIdentities : Type 0
TellsIdentities = (g h : Identity) → IsTrue (same_identity g h) ↔ (g ≡ h)

-- the test on signatures says just that two are equal
abbrev pub TellsSignatures : Type 0
TellsSignatures = (s r : Signature) → IsTrue (same_signature s r) ↔ (s ≡ r)
