-- Refinements of lemmas: the contract of a lemma's prototype is had by one call of the lemma.
use Rattle.std.specs.Prelude.{◌≡◌, List, []}
use Rattle.vf_tree.specs.Core.{ProgramTree}
use Rattle.vf_meaning.specs.Assertions.{ContractTree, Environment}
use Rattle.vf_rules.specs.Terms.{Store}
use Rattle.vf_rules.specs.States.{SymbolicState}
use Rattle.vf_rules.specs.Produce.{Produce}
use Rattle.vf_rules.specs.Consume.{Consume}
use Rattle.vf_rules.specs.Laws.{Outcome, IsAmong}
use Rattle.vf_rules.specs.Accept.{all_of_it, call_store, parameter_symbols, KeepsFixed}
use Rattle.vf_rules.specs.Lemmas.{LemmaTree, LemmaHolds}
use Rattle.vf_rules.specs.GhostSteps.{AfterGhostSteps}
use Rattle.vf_lemmas.specs.Calls.{Calls}
use Rattle.vf_lemmas.specs.Proves.{lemma_beginning}

-- a contract is ended in a state: its postcondition is consumed, and nothing is left
abbrev pub Ends : Environment → ProgramTree → ContractTree → SymbolicState → Type 0
Ends e p contract st = Consume e p contract.sorts all_of_it contract.ensures_this st.names st (λ s st1. (st1.chunks ≡ []) × KeepsFixed contract st.names s)

-- a lemma stands in for a contract in a state: it is called, and after ghost steps from each outcome of the call the contract is ended
pub record StandsIn (e : Environment) (p : ProgramTree) (own : LemmaTree) (contract : ContractTree) (st : SymbolicState) : Type 0 where
  pub outs : List Outcome
  pub called : Calls e p own st outs
  pub ended : (s : Store) (su : SymbolicState) → IsAmong outs s su → AfterGhostSteps e p (Ends e p contract) su

-- a lemma's contract refines another one: the other's precondition is produced from nothing, and after ghost steps from each outcome the lemma stands in for the other
pub record RefinesLemma (e : Environment) (p : ProgramTree) (own : LemmaTree) (contract : ContractTree) : Type 0 where
  pub outs : List Outcome
  pub required : Produce e p contract.sorts all_of_it contract.requires_this (call_store (parameter_symbols contract.parameters)) (lemma_beginning contract) (IsAmong outs)
  pub kept : (s : Store) (st : SymbolicState) → IsAmong outs s st → AfterGhostSteps e p (StandsIn e p own contract) (record st { names = s })

-- what holds under a contract holds under each contract that it refines
abbrev pub RefinedLemmasHold : Type 0
RefinedLemmasHold = (e : Environment) (p : ProgramTree) (own lemma : LemmaTree) → own.identity ≡ lemma.identity → LemmaHolds e p own → RefinesLemma e p own lemma.contract → LemmaHolds e p lemma
