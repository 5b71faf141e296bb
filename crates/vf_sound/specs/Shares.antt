-- Share-outs of programs that own nothing, and of steps that change nothing that is owned.
use Rattle.std.specs.Prelude.{◌≡◌, ℕ, length, Some}
use Rattle.std.specs.FinMap as map
use Rattle.vf_tree.specs.Core.{ProgramTree}
use Rattle.vf_model.specs.Memory as memory
use Rattle.vf_model.specs.State.{State}
use Rattle.vf_model.specs.Acts.{Touch}
use Rattle.vf_model.specs.Races.{next_touch, TouchesCell}
use Rattle.vf_meaning.specs.Assertions.{Environment}
use Rattle.vf_meaning.specs.Parts.{Location, nothing}
use Rattle.vf_meaning.specs.ShareOuts.{ShareOut, Ended, location_in, OwnsFor, IsShareOut}

-- nobody owns anything
abbrev pub nothing_shared : ShareOut
nothing_shared = record { threads = λ t. nothing; mutexes = λ b. nothing; leaked = nothing }

-- each thread that can step owns what its next step touches
abbrev pub OwnsTouched : ProgramTree → State → ShareOut → Type 0
OwnsTouched p s o =
    (t : ℕ) (touch : Touch) (c : memory.Cell) (l : Location)
    → next_touch p s t ≡ Some touch → TouchesCell s.memory touch c → location_in (memory.block_at s.memory c.block) c ≡ Some l → OwnsFor touch (o.threads t) l

-- a step changes nothing that is owned: the memory is as before, and no thread has been started or has ended
pub record ChangesNothingOwned (s new : State) : Type 0 where
  pub memory : new.memory ≡ s.memory
  pub threads : length new.threads ≡ length s.threads
  pub ended : (t : ℕ) → Ended new t → Ended s t

-- such a step keeps a share-out, where each thread that can step then owns what it touches next
abbrev pub QuietStepsKeep : Type 0
QuietStepsKeep =
    (e : Environment) (p : ProgramTree) (s new : State) (o : ShareOut)
    → IsShareOut e p s o → ChangesNothingOwned s new → OwnsTouched p new o → IsShareOut e p new o

-- while there is no memory, nobody owns anything: nothing added to nothing is nothing, which fits the empty memory
abbrev pub NothingIsShared : Type 0
NothingIsShared = (e : Environment) (p : ProgramTree) (s : State) → s.memory ≡ map.empty → IsShareOut e p s nothing_shared
