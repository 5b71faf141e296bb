-- What is leaked, and what is left where nothing is. Each law is the contract of a public function with an empty body.
use Rattle.std.specs.Prelude.{◌≡◌, ◌≢◌, ℕ, suc, ◌<◌, ◌≤◌, length, slice_get, List, Option, Some, None}
use Rattle.vf_tree.specs.Core.{FunctionTree, ProgramTree}
use Rattle.vf_model.specs.declared.words.Event.{Event}
use Rattle.vf_model.specs.Values.{Value}
use Rattle.vf_model.specs.Memory.{Block, Mutex, block_at}
use Rattle.vf_model.specs.State.{State}
use Rattle.vf_meaning.specs.Fractions.{IsPositive}
use Rattle.vf_meaning.specs.Valuations.{Valuation}
use Rattle.vf_meaning.specs.Assertions.{ContractTree, BeforeStep, Environment}
use Rattle.vf_meaning.specs.Environments.{own_contract, MayLeak}
use Rattle.vf_meaning.specs.Parts.{Location, MutexAt, HeldAt, HandleAt, Content, block_of, Part, nothing}
use Rattle.vf_meaning.specs.Fits.{there}
use Rattle.vf_meaning.specs.ShareOuts.{ShareOut, Ended, IsHandleOf}
use Rattle.vf_meaning.specs.Kept.{before, depth, Returns, Ensures, Kept}
use Rattle.vf_safety.specs.Safe.{IsHandle}
use Rattle.vf_safety.specs.Laws.{IsAcceptedProgram}

-- nothing may be leaked anywhere in a program: before no step of any of its functions, in no lemma that is called there
abbrev pub LeaksNowhere : Environment → ProgramTree → Type 0
LeaksNowhere e p = (number : ℕ) (f : FunctionTree) (n : ℕ) → slice_get p.functions number ≡ Some f → MayLeak e (BeforeStep f.identity n) → ⊥

-- a program keeps what it owes over a list of events with share-outs whose leaked part is empty throughout
pub record KeptUnleaked (e : Environment) (p : ProgramTree) (events : List Event) : Type 0 where
  pub kept : Kept e p events
  pub unleaked : (k : ℕ) → k ≤ length events → (kept.outs k).leaked ≡ nothing

-- in an accepted program in which nothing may be leaked nothing ever is
abbrev pub NothingIsLeaked : Type 0
NothingIsLeaked = (e : Environment) (p : ProgramTree) → IsAcceptedProgram e p → LeaksNowhere e p → (events : List Event) → KeptUnleaked e p events

-- main returns from its first call in the event of number j
pub record MainReturns (p : ProgramTree) (events : List Event) (j : ℕ) (result : Option Value) : Type 0 where
  pub event : Event
  pub is : slice_get events j ≡ Some event
  pub of_main : event.thread ≡ 0
  pub returns : Returns p (before p events j) 0 result
  pub last : depth (before p events j) 0 ≡ 1

-- every thread but main has ended
abbrev pub OthersHaveEnded : State → Type 0
OthersHaveEnded s = (t : ℕ) → t ≢ 0 → t < length s.threads → Ended s t

-- There is something of a block at a location: a cell of it, the right to free it, a free mutex, that a mutex is held, or a handle
abbrev pub IsThere : Option Block → Location → Type 0
IsThere block (MutexAt b) = block ≡ Some (Mutex None)
IsThere block (HeldAt b) = (t : ℕ) × (block ≡ Some (Mutex (Some t)))
IsThere block (HandleAt b) = IsHandle block
IsThere block l = (c : Content) × (there block l ≡ Some c)

-- a part has some of a location
abbrev pub Has : Part → Location → Type 0
Has q l = (c : Content) × IsPositive (q l c)

-- a location lies in main's part, in that of an ended thread that is not joined, or in that of a free mutex
pub data LiesIn (s : State) (o : ShareOut) (l : Location) : Type 0 where
  in_main : Has (o.threads 0) l → LiesIn s o l
  in_ended : (t b : ℕ) → t ≢ 0 → Ended s t → IsHandleOf s b t → Has (o.threads t) l → LiesIn s o l
  in_mutex : (b : ℕ) → block_at s.memory b ≡ Some (Mutex None) → Has (o.mutexes b) l → LiesIn s o l

-- Where main has returned and every other thread has ended, main's part satisfies its postcondition, and whatever there is of the memory's blocks lies in main's part, in that of an ended thread that is not joined, or in that of a free mutex
pub record IsSettled (e : Environment) (p : ProgramTree) (events : List Event) (k : KeptUnleaked e p events) (j : ℕ) (result : Option Value) : Type 0 where
  pub ensured : Ensures e (k.kept).contract (k.kept).under result (((k.kept).outs (suc j)).threads 0)
  pub lies : (l : Location) → IsThere (block_at (before p events (suc j)).memory (block_of l)) l → LiesIn (before p events (suc j)) ((k.kept).outs (suc j)) l

-- in an accepted program in which nothing may be leaked nothing is lost where main has returned and every other thread has ended
abbrev pub NothingIsLost : Type 0
NothingIsLost =
    (e : Environment) (p : ProgramTree) → IsAcceptedProgram e p → LeaksNowhere e p → (events : List Event)
    → (k : KeptUnleaked e p events) × ((j : ℕ) (result : Option Value) → MainReturns p events j result → OthersHaveEnded (before p events (suc j)) → IsSettled e p events k j result)

-- whatever satisfies main's postcondition owns nothing
abbrev pub OwnsNothingAtLast : Environment → ProgramTree → Type 0
OwnsNothingAtLast e p =
    (main : FunctionTree) (contract : ContractTree) → slice_get p.functions p.main ≡ Some main → own_contract e main.identity ≡ Some contract
    → (names : Valuation) (result : Option Value) (q : Part) → Ensures e contract names result q → q ≡ nothing

-- a state has no free mutex and no handle
pub record HasNoneShared (s : State) : Type 0 where
  pub mutexless : (b : ℕ) → block_at s.memory b ≢ Some (Mutex None)
  pub handleless : (b t : ℕ) → IsHandleOf s b t → ⊥

-- in an accepted program in which nothing may be leaked, whose main is to own nothing at its end, no block is left where main has returned, every other thread has ended, and there is no free mutex and no handle
abbrev pub NoBlockIsLeft : Type 0
NoBlockIsLeft =
    (e : Environment) (p : ProgramTree) → IsAcceptedProgram e p → LeaksNowhere e p → OwnsNothingAtLast e p → (events : List Event) (j : ℕ) (result : Option Value)
    → MainReturns p events j result → OthersHaveEnded (before p events (suc j)) → HasNoneShared (before p events (suc j)) → (b : ℕ) → block_at (before p events (suc j)).memory b ≡ None
