-- What is safe once it is accepted. Each law is the contract of a public function with an empty body.
use Rattle.std.specs.Prelude.{◌≡◌, ℕ, pos, List, [], ◌∷◌, slice_get, Option, Some, None}
use Rattle.vf_tree.specs.Core.{TypeTree, FunctionTree, ProgramTree}
use Rattle.vf_model.specs.declared.words.Event.{Event}
use Rattle.vf_model.specs.Values.{Value}
use Rattle.vf_model.specs.Values as values
use Rattle.vf_model.specs.State.{Thread, entered}
use Rattle.vf_meaning.specs.Fractions.{whole}
use Rattle.vf_meaning.specs.Ghost.{Numbered, CurrentThread}
use Rattle.vf_meaning.specs.Valuations.{Valuation}
use Rattle.vf_meaning.specs.Assertions.{ContractTree, Environment}
use Rattle.vf_meaning.specs.Environments.{own_contract}
use Rattle.vf_meaning.specs.Sorts.{AreOfSorts}
use Rattle.vf_meaning.specs.Parts.{Part, nothing, IsSum}
use Rattle.vf_meaning.specs.Satisfaction.{Satisfies}
use Rattle.vf_meaning.specs.Kept.{IsSafe, Kept}
use Rattle.vf_rules.specs.Types.{IsOfType, IsTypedPart}
use Rattle.vf_rules.specs.States.{SymbolicState, facts_of_thread}
use Rattle.vf_rules.specs.Consume.{Consume}
use Rattle.vf_rules.specs.Accept.{all_of_it, call_store, HasContract, IsAcceptedFunction}
use Rattle.vf_rules.specs.GhostSteps.{AfterGhostSteps, NamesHave}
use Rattle.vf_rules.specs.Claims.{RefinesPrototype, AreClaimsKept}
use Rattle.vf_safety.specs.Safe.{Duties, Safe, Continues}

-- values are of the types of parameters, one by one
abbrev pub AreOfTypes : List TypeTree → List Value → Type 0
AreOfTypes [] [] = Unit {0}
AreOfTypes (t ∷ types) (w ∷ ws) = IsOfType t w × AreOfTypes types ws
AreOfTypes _ _ = ⊥

-- A function keeps its contracts: its body is accepted under its own, that of its definition, or of its prototype where the definition has none; and where both have one the own refines the prototype's
pub record KeepsContracts (e : Environment) (p : ProgramTree) (f : FunctionTree) : Type 0 where
  pub own : ContractTree
  pub is_own : own_contract e f.identity ≡ Some own
  pub accepted : IsAcceptedFunction e p f own
  pub refines : (defined prototype : ContractTree) → e.functions f.identity ≡ Some defined → e.prototypes f.identity ≡ Some prototype → RefinesPrototype e p f defined prototype

-- each function of a program has a contract and keeps its contracts
abbrev pub AreAccepted : Environment → ProgramTree → Type 0
AreAccepted e p = (number : ℕ) (f : FunctionTree) → slice_get p.functions number ≡ Some f → KeepsContracts e p f

-- a thread's part lets it call a function by one of its contracts with arguments: they are of the parameters' types, and beside a rest the part is one that satisfies the precondition, under a valuation that gives the parameters the arguments, the thread its number, and each name a value of its sort
pub record MayCall (e : Environment) (p : ProgramTree) (t number : ℕ) (f : FunctionTree) (k : ContractTree) (arguments : List Value) (names : Valuation) (rest own : Part) : Type 0 where
  pub function : slice_get p.functions number ≡ Some f
  pub contract : HasContract e f k
  pub types : AreOfTypes f.signature.parameters arguments
  pub begins : (j : ℕ) (w : Value) → slice_get arguments j ≡ Some w → names (Numbered j) ≡ w
  pub thread : names CurrentThread ≡ values.Number (pos t)
  pub of_sorts : AreOfSorts e names k.sorts
  pub passed : Part
  pub required : Satisfies e whole k.requires_this names passed
  pub typed : IsTypedPart e p own
  pub sums : IsSum passed rest own

-- in a program whose functions are accepted and keep their claims, a call of one by either of its contracts is safe for n steps beside whatever a thread keeps, where what comes after the call is, for fewer steps, with every part that satisfies the postcondition
abbrev pub AcceptedCallsAreSafe : Type 0
AcceptedCallsAreSafe =
    (e : Environment) (p : ProgramTree) → AreAccepted e p → AreClaimsKept e p → (t : ℕ) (duties : Duties) (number : ℕ) (f : FunctionTree) (k : ContractTree) (arguments : List Value) (names : Valuation) (rest own : Part)
    → MayCall e p t number f k arguments names rest own → (callers : Thread) (target : Option ℕ) (n : ℕ)
    → Continues e p t duties n callers target f.signature.result k names rest → Safe e p t duties n (entered number f arguments target ∷ callers) own

-- in a program whose functions are accepted and keep their claims, a thread whose first call is of one by either of its contracts is safe for every number of steps, and its duty is that contract's postcondition
abbrev pub AcceptedThreadsAreSafe : Type 0
AcceptedThreadsAreSafe =
    (e : Environment) (p : ProgramTree) → AreAccepted e p → AreClaimsKept e p → (t number : ℕ) (f : FunctionTree) (k : ContractTree) (arguments : List Value) (names : Valuation) (own rest : Part)
    → rest ≡ nothing → MayCall e p t number f k arguments names rest own → (n : ℕ)
    → Safe e p t (record { contract = k; names = names; rest = nothing; below = 0 } ∷ []) n (entered number f arguments None ∷ []) own

-- before its first step main has no locals and no chunks, and nothing is known but which name the thread has, and that it is a number
abbrev pub before_main : SymbolicState
before_main = record { locals = []; names = call_store []; chunks = []; path = facts_of_thread }

-- main may begin in a state: its precondition is consumed, and nothing is left
abbrev pub Begins : Environment → ProgramTree → ContractTree → SymbolicState → Type 0
Begins e p contract st = NamesHave [] st × Consume e p contract.sorts all_of_it contract.requires_this (call_store []) st (λ s st1. st1.chunks ≡ [])

-- A program is accepted: each of its functions is, and keeps the contracts of the types that it claims; main has no parameters, and after ghost steps from nothing it may begin, by its own contract
pub record IsAcceptedProgram (e : Environment) (p : ProgramTree) : Type 0 where
  pub functions : AreAccepted e p
  pub claims : AreClaimsKept e p
  pub main : FunctionTree
  pub is_main : slice_get p.functions p.main ≡ Some main
  pub contract : ContractTree
  pub is_own : own_contract e main.identity ≡ Some contract
  pub has : HasContract e main contract
  pub alone : main.signature.parameters ≡ []
  pub begins : AfterGhostSteps e p (Begins e p contract) before_main

-- every list of events of an accepted program is safe, and keeps what the program owes
abbrev pub AcceptedProgramsAreSafe : Type 0
AcceptedProgramsAreSafe = (e : Environment) (p : ProgramTree) → IsAcceptedProgram e p → (events : List Event) → IsSafe p events × Kept e p events
