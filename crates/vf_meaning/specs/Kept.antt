-- What a list of events keeps: share-outs from state to state, contracts of calls through pointers and of threads, and main's contract.
use Rattle.std.specs.Prelude.{◌≡◌, ◌≢◌, ◌⊎◌, ℕ, suc, ◌<◌, ◌≤◌, pos, IsTrue, List, [], ◌∷◌, take, length, slice_get, Option, Some, None, codes}
use Rattle.vf_base.specs.declared.place.Place.{Place}
use Rattle.vf_tree.specs.Core.{Identity, Signature, ExpressionTree, StepTree, Call, CallPointer, Return, FunctionTree, ProgramTree}
use Rattle.vf_model.specs.declared.words.Event.{Event}
use Rattle.vf_model.specs.declared.words.FaultKind.{FaultKind}
use Rattle.vf_model.specs.Values.{Value, Values}
use Rattle.vf_model.specs.Values as values
use Rattle.vf_model.specs.PreludeFunctions.{ThreadStart, ThreadStartJoinable, identity_of}
use Rattle.vf_model.specs.Memory.{block_at}
use Rattle.vf_model.specs.State.{Frame, State}
use Rattle.vf_model.specs.Evaluation.{Gives, evaluate, evaluate_all}
use Rattle.vf_model.specs.Races.{Race}
use Rattle.vf_model.specs.Runs.{after, can_step, reach, Fault}
use Rattle.vf_meaning.specs.Fractions.{whole}
use Rattle.vf_meaning.specs.Ghost.{Name, Numbered, Result, This, CurrentThread}
use Rattle.vf_meaning.specs.Valuations.{Valuation, in_row, count, bound}
use Rattle.vf_meaning.specs.Assertions.{ContractTree, BeforeStep, Environment}
use Rattle.vf_meaning.specs.Environments.{own_contract, MayLeak}
use Rattle.vf_meaning.specs.Names.{UsesIn}
use Rattle.vf_meaning.specs.Sorts.{AreOfSorts}
use Rattle.vf_meaning.specs.Parts.{Part, nothing, IsSum}
use Rattle.vf_meaning.specs.Satisfaction.{BeginsWith, Satisfies}
use Rattle.vf_meaning.specs.ShareOuts.{ShareOut, IsHandleOf, IsShareOut}

-- the state before the event of a number, counted from 0
abbrev pub before : ProgramTree → List Event → ℕ → State
before p events k = reach p (take k events)

-- how many calls a thread is in
abbrev pub depth_in : Option (List Frame) → ℕ
depth_in None = 0
depth_in (Some frames) = length frames

-- how many calls the thread of that number is in
abbrev pub depth : State → ℕ → ℕ
depth s t = depth_in (slice_get s.threads t)

-- a thread can step, and its next step is this one of the function f in the frame, over the callers' frames
pub record IsAt (p : ProgramTree) (s : State) (t : ℕ) (f : FunctionTree) (frame : Frame) (callers : List Frame) (step : StepTree) : Type 0 where
  pub steps : IsTrue (can_step p s t)
  pub frames : slice_get s.threads t ≡ Some (frame ∷ callers)
  pub function : slice_get p.functions frame.function ≡ Some f
  pub found : slice_get f.steps frame.step ≡ Some step

-- what is returned: nothing, or the value of an expression
abbrev pub IsReturned : Frame → Option ExpressionTree → Option Value → Type 0
IsReturned frame None result = result ≡ None
IsReturned frame (Some x) result = (v : Value) × (evaluate frame.locals x ≡ Gives v) × (result ≡ Some v)

-- a thread is about to return
pub record Returns (p : ProgramTree) (s : State) (t : ℕ) (result : Option Value) : Type 0 where
  pub f : FunctionTree
  pub frame : Frame
  pub callers : List Frame
  pub expression : Option ExpressionTree
  pub at : IsAt p s t f frame callers (Return expression)
  pub returned : IsReturned frame expression result

-- A call that owes the contract of a function type: the thread that is in it, the called value, the type, the arguments, and how many calls the thread is in without it
pub record Promise : Type 0 where
  pub thread : ℕ
  pub callee : Value
  pub type : Identity
  pub arguments : Values
  pub below : ℕ

-- an event is a call through a pointer
pub record CallsPointer (e : Environment) (p : ProgramTree) (s : State) (event : Event) (call : Promise) : Type 0 where
  pub f : FunctionTree
  pub frame : Frame
  pub callers : List Frame
  pub target : Option ℕ
  pub pointer : ExpressionTree
  pub signature : Signature
  pub operands : List ExpressionTree
  pub place : Place
  pub next : ℕ
  pub at : IsAt p s event.thread f frame callers (CallPointer target pointer signature operands place next)
  pub type : e.called f.identity frame.step ≡ Some call.type
  pub callee : evaluate frame.locals pointer ≡ Gives call.callee
  pub values : List Value
  pub evaluated : evaluate_all frame.locals operands ≡ Gives values
  pub arguments : call.arguments ≡ in_row values
  pub thread : call.thread ≡ event.thread
  pub below : call.below ≡ suc (length callers)

-- the function type that a start of a thread owes, by the function that starts it
pub data StartsWith : Identity → Identity → Type 0 where
  plain : StartsWith (identity_of ThreadStart) (codes "<threading.h>#thread_run")
  joinable : StartsWith (identity_of ThreadStartJoinable) (codes "<threading.h>#thread_run_joinable")

-- an event starts a thread, which is a call of its function in that thread
pub record StartsThread (p : ProgramTree) (s : State) (event : Event) (call : Promise) : Type 0 where
  pub f : FunctionTree
  pub frame : Frame
  pub callers : List Frame
  pub target : Option ℕ
  pub starter : Identity
  pub operands : List ExpressionTree
  pub place : Place
  pub next : ℕ
  pub at : IsAt p s event.thread f frame callers (Call target starter operands place next)
  pub type : StartsWith starter call.type
  pub argument : Value
  pub evaluated : evaluate_all frame.locals operands ≡ Gives (call.callee ∷ argument ∷ [])
  pub arguments : call.arguments ≡ in_row (argument ∷ [])
  pub thread : call.thread ≡ length s.threads
  pub started : length (after p s event).threads ≡ suc (length s.threads)
  pub below : call.below ≡ 0

-- the event of number j returns from the call that the event of number k made: the first after it by which the thread leaves that call
pub record ReturnsFrom (p : ProgramTree) (events : List Event) (k : ℕ) (call : Promise) (j : ℕ) (result : Option Value) : Type 0 where
  pub later : k < j
  pub event : Event
  pub is : slice_get events j ≡ Some event
  pub thread : event.thread ≡ call.thread
  pub returns : Returns p (before p events j) call.thread result
  pub last : depth (before p events j) call.thread ≡ suc call.below
  pub inside : (i : ℕ) → k < i → i ≤ j → call.below < depth (before p events i) call.thread

-- the valuation with what was returned, if anything was
abbrev pub with_result : Valuation → Option Value → Valuation
with_result v None = v
with_result v (Some w) = bound v Result w

-- A valuation for a call: the called function, the thread, the arguments, and a value of its sort for each name of the contract
pub record IsFor (e : Environment) (contract : ContractTree) (call : Promise) (g : Identity) (v : Valuation) : Type 0 where
  pub this_one : v This ≡ values.Function g
  pub current : v CurrentThread ≡ values.Number (pos call.thread)
  pub number : count call.arguments ≡ contract.parameters
  pub begins : BeginsWith v call.arguments
  pub sorts : AreOfSorts e v contract.sorts

-- a name has its value when a call begins: a parameter, a name of the precondition, the called function and the thread
abbrev pub IsFixed : ContractTree → Name → Type 0
IsFixed contract (Numbered k) = (k < contract.parameters) ⊎ UsesIn contract.requires_this (Numbered k)
IsFixed contract Result = ⊥
IsFixed contract This = Unit {0}
IsFixed contract CurrentThread = Unit {0}

-- A part satisfies a contract's postcondition with what was returned, under a valuation that gives each name its value from the beginning of the call, if it has one, and to every other name some value of its sort
pub record Ensures (e : Environment) (contract : ContractTree) (under : Valuation) (result : Option Value) (p : Part) : Type 0 where
  pub later : Valuation
  pub fixed : (x : Name) → IsFixed contract x → later x ≡ under x
  pub sorts : AreOfSorts e later contract.sorts
  pub satisfies : Satisfies e whole contract.ensures_this (with_result later result) p

-- A call keeps its type's contract: the called value is a function that claims the type; after the call the thread's part is a part that satisfies the precondition, and a rest; and after its return it is a part that satisfies the postcondition, and the same rest
pub record IsKept (e : Environment) (p : ProgramTree) (events : List Event) (outs : ℕ → ShareOut) (k : ℕ) (call : Promise) (rest : Part) : Type 0 where
  pub function : Identity
  pub callee : call.callee ≡ values.Function function
  pub claimed : IsTrue (e.claims function call.type)
  pub contract : ContractTree
  pub of_type : e.types call.type ≡ Some contract
  pub under : Valuation
  pub valued : IsFor e contract call function under
  pub passed : Part
  pub required : Satisfies e whole contract.requires_this under passed
  pub sums : IsSum passed rest ((outs (suc k)).threads call.thread)
  pub back : (j : ℕ) (result : Option Value) → ReturnsFrom p events k call j result
      → (given : Part) × Ensures e contract under result given × IsSum given rest ((outs (suc j)).threads call.thread)

-- an event of a thread changes only that thread's part and the leaked one, the part of a thread that it starts or joins, and the part of a mutex whose state it changes
pub record ChangesOnly (s new : State) (t : ℕ) (o next : ShareOut) : Type 0 where
  pub threads : (u : ℕ) → u ≢ t → u < length s.threads → ((b : ℕ) → IsHandleOf s b u → block_at new.memory b ≡ block_at s.memory b) → next.threads u ≡ o.threads u
  pub mutexes : (b : ℕ) → block_at new.memory b ≡ block_at s.memory b → next.mutexes b ≡ o.mutexes b

-- something may be leaked before a thread's next step, in the function that the thread is in
pub record LeaksNext (e : Environment) (p : ProgramTree) (s : State) (t : ℕ) : Type 0 where
  pub f : FunctionTree
  pub frame : Frame
  pub callers : List Frame
  pub frames : slice_get s.threads t ≡ Some (frame ∷ callers)
  pub function : slice_get p.functions frame.function ≡ Some f
  pub leaks : MayLeak e (BeforeStep f.identity frame.step)

-- what was leaked grows by a part in an event of a thread, which is nothing where nothing may be leaked before the thread's step
pub record Leaks (e : Environment) (p : ProgramTree) (s : State) (t : ℕ) (o next : ShareOut) : Type 0 where
  pub more : Part
  pub sums : IsSum more o.leaked next.leaked
  pub unleaked : (LeaksNext e p s t → ⊥) → more ≡ nothing

-- What a list of events keeps in a program with an environment: share-outs of all states that it comes to, such that main begins with nothing and its precondition, each event changes only what is its own or handed over, what was leaked grows only where something may be leaked, each call through a pointer and each thread keeps the contract of its function type, and main's return leaves its postcondition
pub record Kept (e : Environment) (p : ProgramTree) (events : List Event) : Type 0 where
  pub outs : ℕ → ShareOut
  pub share_outs : (k : ℕ) → k ≤ length events → IsShareOut e p (before p events k) (outs k)
  pub main : FunctionTree
  pub is_main : slice_get p.functions p.main ≡ Some main
  pub contract : ContractTree
  pub of_main : own_contract e main.identity ≡ Some contract
  pub under : Valuation
  pub current : under CurrentThread ≡ values.Number (pos 0)
  pub sorts : AreOfSorts e under contract.sorts
  pub begins_empty : (outs 0).threads 0 ≡ nothing
  pub required : Satisfies e whole contract.requires_this under ((outs 0).threads 0)
  pub unleaked : (outs 0).leaked ≡ nothing
  pub changes : (k : ℕ) (event : Event) → slice_get events k ≡ Some event → ChangesOnly (before p events k) (before p events (suc k)) event.thread (outs k) (outs (suc k))
  pub leaks : (k : ℕ) (event : Event) → slice_get events k ≡ Some event → Leaks e p (before p events k) event.thread (outs k) (outs (suc k))
  pub calls : (k : ℕ) (event : Event) (call : Promise) → slice_get events k ≡ Some event → CallsPointer e p (before p events k) event call
      → (rest : Part) × IsKept e p events outs k call rest
  pub starts : (k : ℕ) (event : Event) (call : Promise) → slice_get events k ≡ Some event → StartsThread p (before p events k) event call → IsKept e p events outs k call nothing
  pub ensured : (j : ℕ) (event : Event) (result : Option Value)
      → slice_get events j ≡ Some event → event.thread ≡ 0 → Returns p (before p events j) 0 result → depth (before p events j) 0 ≡ 1
      → Ensures e contract under result ((outs (suc j)).threads 0)

-- no state that a list of events comes to has a fault of any thread, or a race
pub record IsSafe (p : ProgramTree) (events : List Event) : Type 0 where
  pub faultless : (k : ℕ) (t : ℕ) (kind : FaultKind) (place : Place) → k ≤ length events → Fault p (before p events k) t kind place → ⊥
  pub raceless : (k : ℕ) → k ≤ length events → Race p (before p events k) → ⊥
