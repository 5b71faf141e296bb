-- Refinements: a function's own contract stands in for that of its prototype, and for that of each function type that it claims.
use Rattle.std.specs.Prelude.{◌≡◌, ℕ, IsTrue, List, [], ◌++◌, length, slice_get, Some}
use Rattle.vf_tree.specs.Core.{Identity, FunctionTree, ProgramTree}
use Rattle.vf_model.specs.State.{function_named}
use Rattle.vf_meaning.specs.Ghost.{Result, Function}
use Rattle.vf_meaning.specs.Assertions.{ContractTree, Environment}
use Rattle.vf_meaning.specs.Environments.{own_contract}
use Rattle.vf_rules.specs.Terms.{Term, stored}
use Rattle.vf_rules.specs.Terms as terms
use Rattle.vf_rules.specs.States.{SymbolicState, facts_of_thread, assuming_all}
use Rattle.vf_rules.specs.Fresh.{symbol, IsNew}
use Rattle.vf_rules.specs.Produce.{Produce}
use Rattle.vf_rules.specs.Consume.{Consume}
use Rattle.vf_rules.specs.Laws.{Outcome, IsAmong}
use Rattle.vf_rules.specs.Predicates.{AreSorted}
use Rattle.vf_rules.specs.Accept.{all_of_it, call_store, pointer_store, parameter_symbols, facts_of_types, facts_of_sorts, facts_of_result, HasContract, AreFixed, KeepsFixed}
use Rattle.vf_rules.specs.GhostSteps.{AfterGhostSteps, NamesHave}

-- the state in which a refinement is checked: the parameters have new symbols of their types and sorts, the thread is named by a number, and nothing else is there
abbrev pub before_claim : FunctionTree → ContractTree → SymbolicState
before_claim f contract = record {
  locals = [];
  names = call_store (parameter_symbols (length f.signature.parameters));
  chunks = [];
  path = facts_of_types f.signature.parameters (parameter_symbols (length f.signature.parameters)) ++ facts_of_sorts contract.sorts (parameter_symbols (length f.signature.parameters)) ++ facts_of_thread;
}

-- the state with a term for the result among its ghost names
abbrev pub with_result : SymbolicState → Term → SymbolicState
with_result st t = record st { names = stored st.names Result t }

-- a contract is ended in a state whose ghost names have the result: its postcondition is consumed, and nothing is left
abbrev pub Ends : Environment → ProgramTree → ContractTree → SymbolicState → Type 0
Ends e p contract st =
    (t : Term) × (st.names Result ≡ Some t) × Consume e p contract.sorts all_of_it contract.ensures_this st.names st (λ s1 st1. (st1.chunks ≡ []) × KeepsFixed contract st.names s1)

-- the own contract stands in for another one: the parameters have its sorts, its precondition is consumed, its postcondition produced with a new result, and after ghost steps the other contract is ended
abbrev pub StandsIn : Environment → ProgramTree → FunctionTree → ContractTree → ContractTree → SymbolicState → Type 0
StandsIn e p f own contract st =
    NamesHave (parameter_symbols (length f.signature.parameters)) st
    × AreSorted e st.path own.sorts (parameter_symbols (length f.signature.parameters))
    × Consume e p own.sorts all_of_it own.requires_this (call_store (parameter_symbols (length f.signature.parameters))) st (λ s1 st1.
    (y : ℕ) × IsNew y all_of_it s1 [] st1 × AreFixed own s1
    × Produce e p own.sorts all_of_it own.ensures_this (stored s1 Result (symbol y)) (assuming_all st1 (facts_of_result f.signature.result (symbol y))) (λ s2 st2.
    AfterGhostSteps e p (Ends e p contract) (with_result st2 (symbol y))))

-- A function's own contract refines another one, whose names have the terms of a store: the other's precondition is produced, and after ghost steps from each outcome the own contract stands in for the other
pub record Refines (e : Environment) (p : ProgramTree) (f : FunctionTree) (own contract : ContractTree) (names : terms.Store) : Type 0 where
  pub parameters : contract.parameters ≡ length f.signature.parameters
  pub outs : List Outcome
  pub required : Produce e p contract.sorts all_of_it contract.requires_this names (before_claim f contract) (IsAmong outs)
  pub kept : (s : terms.Store) (st : SymbolicState) → IsAmong outs s st → AfterGhostSteps e p (StandsIn e p f own contract) (record st { names = s })

-- it refines the contract of a function type, in which `this` is the function of an identity
abbrev pub RefinesType : Environment → ProgramTree → FunctionTree → ContractTree → ContractTree → Identity → Type 0
RefinesType e p f own contract g = Refines e p f own contract (pointer_store (parameter_symbols (length f.signature.parameters)) (Function g))

-- it refines the contract of the function's prototype
abbrev pub RefinesPrototype : Environment → ProgramTree → FunctionTree → ContractTree → ContractTree → Type 0
RefinesPrototype e p f own contract = Refines e p f own contract (call_store (parameter_symbols (length f.signature.parameters)))

-- a function of the program keeps the contract of a type that it claims, which the contract of its body refines
pub record KeepsClaim (e : Environment) (p : ProgramTree) (g : Identity) (contract : ContractTree) : Type 0 where
  pub number : ℕ
  pub function : FunctionTree
  pub named : function_named p g ≡ Some number
  pub is : slice_get p.functions number ≡ Some function
  pub own : ContractTree
  pub is_own : own_contract e g ≡ Some own
  pub has : HasContract e function own
  pub refines : RefinesType e p function own contract g

-- each function keeps the contract of each type that it claims
abbrev pub AreClaimsKept : Environment → ProgramTree → Type 0
AreClaimsKept e p = (g type : Identity) (contract : ContractTree) → IsTrue (e.claims g type) → e.types type ≡ Some contract → KeepsClaim e p g contract
