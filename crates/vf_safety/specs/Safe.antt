-- Safe for n steps: what a thread's frames with a part of memory do, whatever else there is.
use Rattle.std.specs.Prelude.{◌≡◌, ◌≢◌, ℕ, zero, suc, ◌<◌, ◌==◌, cond, IsTrue, IsFalse, List, [], ◌∷◌, length, slice_get, Option, Some, None}
use Rattle.vf_base.specs.declared.place.Place.{Place}
use Rattle.vf_tree.specs.Core.{Identity, TypeTree, Void, ProgramTree}
use Rattle.vf_model.specs.declared.words.Event.{Event}
use Rattle.vf_model.specs.declared.words.FaultKind.{FaultKind}
use Rattle.vf_model.specs.Values.{Value}
use Rattle.vf_model.specs.Values as values
use Rattle.vf_model.specs.Memory.{Memory, Block, Struct, Mutex, Handle, Cell, block_at}
use Rattle.vf_model.specs.Accesses.{field_count}
use Rattle.vf_model.specs.State.{Frame, Thread, State}
use Rattle.vf_model.specs.State as state
use Rattle.vf_model.specs.Acts.{Touch, Faults, Touches}
use Rattle.vf_model.specs.Races.{TouchesCell}
use Rattle.vf_model.specs.Steps.{next_act}
use Rattle.vf_model.specs.Runs.{after, is_wait}
use Rattle.vf_meaning.specs.Fractions.{whole, IsPositive}
use Rattle.vf_meaning.specs.Ghost.{Numbered, This}
use Rattle.vf_meaning.specs.Valuations.{Valuation}
use Rattle.vf_meaning.specs.Assertions.{ContractTree, Environment}
use Rattle.vf_meaning.specs.Parts.{Location, MutexAt, HandleAt, Content, MutexOf, HandleOf, block_of, Part, nothing, IsSum}
use Rattle.vf_meaning.specs.Fits.{Fits}
use Rattle.vf_meaning.specs.ShareOuts.{Ended, SatisfiesInvariant, SatisfiesPost, location_in, OwnsFor}
use Rattle.vf_meaning.specs.Satisfaction.{Satisfies}
use Rattle.vf_meaning.specs.Kept.{Returns, Promise, CallsPointer, StartsThread, IsFor, Ensures, LeaksNext, depth}
use Rattle.vf_rules.specs.Types.{IsOfType, IsTypedPart}
use Rattle.vf_rules.specs.Threads.{run, run_joinable}

-- What a call owes at its return: a contract's postcondition, under a valuation of the contract's names, beside a part that the caller kept; and how many calls the thread is in without it
pub record Duty : Type 0 where
  pub contract : ContractTree
  pub names : Valuation
  pub rest : Part
  pub below : ℕ

-- what a thread's calls owe, the innermost first: its first call, and each call through a pointer
abbrev pub Duties : Type 0
Duties = List Duty

-- duties of different calls of a thread that is in fewer than n calls, or in n
abbrev pub Within : ℕ → Duties → Type 0
Within n [] = Unit {0}
Within n (d ∷ ds) = (d.below < n) × Within d.below ds

-- the duties that are left after a return to n calls: without that of the call which was left, if it had one
abbrev pub left_after : ℕ → Duties → Duties
left_after n [] = []
left_after n (d ∷ ds) = cond (d.below == n) ds (d ∷ ds)

-- a duty is done: a part satisfies the postcondition, and the rest is the one that was kept
abbrev pub Done : Environment → Duty → Option Value → Part → Type 0
Done e d result own = (given : Part) × Ensures e d.contract d.names result given × IsSum given d.rest own

-- where a call is left that has a duty, the duty is done
abbrev pub DoneAt : Environment → ℕ → Duties → Option Value → Part → Type 0
DoneAt e n ds result own = (d : Duty) (others : Duties) → ds ≡ d ∷ others → d.below ≡ n → Done e d result own

-- how the duties of a thread in n calls change in an event: not, or one is added for a call that is entered, or the innermost is gone with its call, m calls being left
pub data DutiesChange (n m : ℕ) : Duties → Duties → Type 0 where
  duties_same : (ds : Duties) → DutiesChange n m ds ds
  duty_added : (d : Duty) (ds : Duties) → d.below ≡ n → DutiesChange n m ds (d ∷ ds)
  duty_done : (d : Duty) (ds : Duties) → n ≡ suc d.below → m ≡ d.below → DutiesChange n m (d ∷ ds) ds

-- A call through a pointer has become the innermost duty: the called function claims the type, the duty is the type's contract under a valuation for the call, and the thread's part is one that satisfies the precondition, and what is kept
pub record Promised (e : Environment) (call : Promise) (old new : Duties) (own : Part) : Type 0 where
  pub duty : Duty
  pub pushed : new ≡ duty ∷ old
  pub function : Identity
  pub callee : call.callee ≡ values.Function function
  pub claimed : IsTrue (e.claims function call.type)
  pub of_type : e.types call.type ≡ Some duty.contract
  pub valued : IsFor e duty.contract call function duty.names
  pub passed : Part
  pub required : Satisfies e whole duty.contract.requires_this duty.names passed
  pub sums : IsSum passed duty.rest own
  pub below : duty.below ≡ call.below

-- the event of a thread with a grant
abbrev pub event_of : ℕ → ℕ → Event
event_of t grant = record { thread = t; grant = grant }

-- a block is a mutex or a handle, which threads share
abbrev pub IsShared : Option Block → Type 0
IsShared (Some (Mutex holder)) = Unit {0}
IsShared (Some (Handle thread function argument)) = Unit {0}
IsShared _ = ⊥

-- each struct in a memory has as many cells as the program gives it fields
abbrev pub IsShaped : ProgramTree → Memory → Type 0
IsShaped p m = (b : ℕ) (g : Identity) (cells : List (Option Value)) → block_at m b ≡ Some (Struct g cells) → length cells ≡ field_count p g

-- a location of a block that threads share
abbrev pub IsSharedPlace : Location → Type 0
IsSharedPlace (MutexAt b) = Unit {0}
IsSharedPlace (HandleAt b) = Unit {0}
IsSharedPlace _ = ⊥

-- a block is a handle
abbrev pub IsHandle : Option Block → Type 0
IsHandle (Some (Handle thread function argument)) = Unit {0}
IsHandle _ = ⊥

-- a block is no free mutex and no handle
abbrev pub IsOther : Option Block → Type 0
IsOther block = (block ≢ Some (Mutex None)) × (IsHandle block → ⊥)

-- what a thread owes that nobody joins: to leave nothing
pub record IsPlain (d : Duty) : Type 0 where
  pub contract : d.contract ≡ run
  pub rest : d.rest ≡ nothing

-- what a thread owes that is joined: the postcondition of its function type, with its function, its argument and its information
pub record IsJoinable (d : Duty) (function : Identity) (argument info : Value) : Type 0 where
  pub contract : d.contract ≡ run_joinable
  pub rest : d.rest ≡ nothing
  pub this_one : d.names This ≡ values.Function function
  pub argument_is : d.names (Numbered 0) ≡ argument
  pub info_is : d.names (Numbered 1) ≡ info

-- What an event does with the parts that threads share: nothing; it takes the part of a free mutex with this predicate value, which it acquires or disposes; it gives a part to a mutex with this predicate value, which it creates or releases; it gives a part to a thread that it starts, with its frames and what it owes, and with a handle on a block or none; or it takes the part of a thread that has ended and that it joins, by its handle on a block, with the function, the argument and the information of the handle
pub data Exchange : Type 0 where
  no_exchange : Exchange
  from_mutex : ℕ → Value → Exchange
  to_mutex : ℕ → Value → Exchange
  to_thread : Thread → Duty → Part → Exchange
  to_joinable : ℕ → Thread → Duty → Part → Exchange
  from_thread : ℕ → ℕ → Identity → Value → Value → Exchange

-- an exchange is of a block
abbrev pub Concerns : Exchange → ℕ → Type 0
Concerns (from_mutex c q) b = b ≡ c
Concerns (to_mutex c q) b = b ≡ c
Concerns (to_joinable c frames d q) b = b ≡ c
Concerns (from_thread c u function argument info) b = b ≡ c
Concerns _ b = ⊥

-- a thread is started in an exchange
abbrev pub Starts : Exchange → State → ℕ → Type 0
Starts (to_thread frames d q) s u = u ≡ length s.threads
Starts (to_joinable b frames d q) s u = u ≡ length s.threads
Starts _ s u = ⊥

-- a part that is taken in an exchange: that of a mutex satisfies its predicate value, and that of a thread what the thread was to leave
abbrev pub IsTaken : Environment → Exchange → Part → Type 0
IsTaken e (from_mutex b q) taken = SatisfiesInvariant e q taken
IsTaken e (from_thread b u function argument info) taken = SatisfiesPost e function argument info taken
IsTaken e _ taken = taken ≡ nothing

-- a part that is given in an exchange: one that is given to a mutex satisfies its predicate value
abbrev pub IsGiven : Environment → Exchange → Part → Type 0
IsGiven e (to_mutex b q) given = SatisfiesInvariant e q given
IsGiven e (to_thread frames d q) given = given ≡ q
IsGiven e (to_joinable b frames d q) given = given ≡ q
IsGiven e _ given = given ≡ nothing

-- What stands before an exchange: a mutex whose part is taken is free and has the predicate value, and one to which a part is given is not free; what a thread owes that is started without a handle is nothing, and the block of a handle is not there before; a handle is of a thread that has ended, with the function, the argument and the information
abbrev pub Offers : Exchange → State → Part → Type 0
Offers no_exchange s all = Unit {0}
Offers (from_mutex b q) s all = (block_at s.memory b ≡ Some (Mutex None)) × IsPositive (all (MutexAt b) (MutexOf q))
Offers (to_mutex b q) s all = IsOther (block_at s.memory b)
Offers (to_thread frames d q) s all = IsPlain d
Offers (to_joinable b frames d q) s all = block_at s.memory b ≡ None
Offers (from_thread b u function argument info) s all = (block_at s.memory b ≡ Some (Handle u function argument)) × Ended s u × IsPositive (all (HandleAt b) (HandleOf (values.Function function) argument info))

-- What stands after it: a mutex whose part was taken is not free, and one to which a part was given is free and has the predicate value; a handle is of the thread that was started and has the function, the argument and the information that it owes by; and the handle of a thread that was joined is gone
abbrev pub Settles : Exchange → State → State → Part → Type 0
Settles (from_mutex b q) s new all = IsOther (block_at new.memory b)
Settles (to_mutex b q) s new all = (block_at new.memory b ≡ Some (Mutex None)) × IsPositive (all (MutexAt b) (MutexOf q))
Settles (to_joinable b frames d q) s new all =
    (function : Identity) × (argument : Value) × (info : Value) × (block_at new.memory b ≡ Some (Handle (length s.threads) function argument))
    × IsPositive (all (HandleAt b) (HandleOf (values.Function function) argument info)) × IsJoinable d function argument info
Settles (from_thread b u function argument info) s new all = IsOther (block_at new.memory b)
Settles _ s new all = Unit {0}

-- a thread that was started has its frames, is in its first call, and is safe with what it was given
pub record Begun (S : ℕ → Duties → Thread → Part → Type 0) (s new : State) (frames : Thread) (d : Duty) (q : Part) : Type 0 where
  pub there : slice_get new.threads (length s.threads) ≡ Some frames
  pub one : length frames ≡ 1
  pub first : d.below ≡ 0
  pub rest : d.rest ≡ nothing
  pub going : S (length s.threads) (d ∷ []) frames q

-- the thread that an exchange started
abbrev pub HasBegun : (ℕ → Duties → Thread → Part → Type 0) → Exchange → State → State → Type 0
HasBegun S (to_thread frames d q) s new = Begun S s new frames d q
HasBegun S (to_joinable b frames d q) s new = Begun S s new frames d q
HasBegun S _ s new = Unit {0}

module _ (e : Environment) (p : ProgramTree) where
  module _ (t : ℕ) where
    -- An event of the thread led to a state: the thread has other frames, duties and another part, the others have what they had but for what was given and what was leaked, which is nothing where nothing may be leaked before the thread's step, all of it fits, no other thread and no mutex and handle was touched but for the exchange, what is left is safe, a call through a pointer is a new duty, and a return from a call with a duty does it, also the one that ends the thread
    pub record Went (S : ℕ → Duties → Thread → Part → Type 0) (exchange : Exchange) (duties : Duties) (s new : State) (rest before : Part) : Type 0 where
      pub frames : Thread
      pub owing : Duties
      pub own : Part
      pub given : Part
      pub leaked : Part
      pub lost : Part
      pub others : Part
      pub all : Part
      pub handed : IsGiven e exchange given
      pub unleaked : (LeaksNext e p s t → ⊥) → leaked ≡ nothing
      pub parted : IsSum given leaked lost
      pub given_up : IsSum rest lost others
      pub sums : IsSum own others all
      pub fits : Fits all new.memory
      pub typed : IsTypedPart e p all
      pub shaped : IsShaped p new.memory
      pub now : slice_get new.threads t ≡ Some frames
      pub alone : (u : ℕ) → u ≢ t → (Starts exchange s u → ⊥) → slice_get new.threads u ≡ slice_get s.threads u
      pub begun : HasBegun S exchange s new
      pub unshared : (b : ℕ) → (Concerns exchange b → ⊥) → IsShared (block_at new.memory b) → block_at new.memory b ≡ block_at s.memory b
      pub unmoved : (b : ℕ) → (Concerns exchange b → ⊥) → IsShared (block_at s.memory b) → block_at new.memory b ≡ block_at s.memory b
      pub known : (l : Location) (c : Content) → IsSharedPlace l → (Concerns exchange (block_of l) → ⊥) → IsPositive (all l c) → IsPositive (before l c)
      pub settled : Settles exchange s new all
      pub within : Within (length frames) owing
      pub owes : DutiesChange (depth s t) (length frames) duties owing
      pub going : new.end ≡ None → S t owing frames own
      pub called : (grant : ℕ) (call : Promise) → CallsPointer e p s (event_of t grant) call → Promised e call duties owing own
      pub leaves : (result : Option Value) → Returns p s t result → (n : ℕ) → depth s t ≡ suc n → DoneAt e n duties result own
      pub finished : frames ≡ [] → (result : Option Value) × DoneAt e 0 duties result own

    -- an event that starts a thread gives it its first duty, the contract of its function type, and a part that satisfies the precondition
    abbrev pub IsPromised : Exchange → Promise → Type 0
    IsPromised (to_thread frames d q) call = Promised e call [] (d ∷ []) q
    IsPromised (to_joinable b frames d q) call = Promised e call [] (d ∷ []) q
    IsPromised _ call = ⊥

    -- an event of the thread leads to a state, in some exchange, whichever part is taken in it from what the others have
    pub record Exchanged (S : ℕ → Duties → Thread → Part → Type 0) (duties : Duties) (s new : State) (rest before : Part) : Type 0 where
      pub exchange : Exchange
      pub offered : Offers exchange s before
      pub started : (grant : ℕ) (call : Promise) → after p s (event_of t grant) ≡ new → StartsThread p s (event_of t grant) call → IsPromised exchange call
      pub went : (taken remaining : Part) → IsTaken e exchange taken → IsSum taken remaining rest → Went S exchange duties s new remaining before

    -- in a state the thread's next step has no fault, the thread owns what it touches, and where it does not wait, whatever is granted, it is as above after it
    pub record Secure (S : ℕ → Duties → Thread → Part → Type 0) (duties : Duties) (s : State) (own rest before : Part) : Type 0 where
      pub faultless : (kind : FaultKind) (place : Place) → next_act p s t ≡ Faults kind place → ⊥
      pub owned : (touch : Touch) (new : State) (c : Cell) (l : Location) → next_act p s t ≡ Touches touch new → TouchesCell s.memory touch c → location_in (block_at s.memory c.block) c ≡ Some l → OwnsFor touch own l
      pub goes : (grant : ℕ) → IsFalse (is_wait (next_act p s t)) → Exchanged S duties s (after p s (event_of t grant)) rest before

  -- safe for n steps, with duties: in every state in which the thread of a number has these frames, beside every other part whose sum with this one fits
  abbrev pub Safe : ℕ → Duties → ℕ → Thread → Part → Type 0
  Safe t duties zero frames own = Unit {0}
  Safe t duties (suc n) [] own = Unit {0}
  Safe t duties (suc n) (frame ∷ callers) own = (s : State) (rest all : Part) → s.end ≡ None → slice_get s.threads t ≡ Some (frame ∷ callers) → Within (suc (length callers)) duties → IsSum own rest all → Fits all s.memory → IsTypedPart e p all → IsShaped p s.memory
      → Secure t (λ u ds. Safe u ds n) duties s own rest all

  module _ (t : ℕ) where
    -- the frames after a return to them, with the result where it is wanted
    abbrev pub returned : Thread → Option ℕ → Option Value → Thread
    returned [] target result = []
    returned (caller ∷ callers) target result = state.with_result caller target result ∷ callers

    -- what is returned is of a function's result type
    abbrev pub IsResult : TypeTree → Option Value → Type 0
    IsResult type None = type ≡ Void
    IsResult type (Some w) = IsOfType type w

    -- after a return, in fewer steps than n, the duty of the call is done if it has one, and what is left is safe beside the rest
    abbrev pub Continues : Duties → ℕ → Thread → Option ℕ → TypeTree → ContractTree → Valuation → Part → Type 0
    Continues duties n callers target type contract names rest =
        (j : ℕ) → j < n → (result : Option Value) (q own : Part) → IsResult type result → Ensures e contract names result q → IsTypedPart e p own → IsSum q rest own
        → DoneAt e (length callers) duties result own × Safe t (left_after (length callers) duties) j (returned callers target result) own
