-- Ghost steps: what annotations may do with a state between two steps of the machine, without a loop and without a leak. So claims, refinements and main's precondition are checked.
use Rattle.std.specs.Prelude.{◌≡◌, List, length}
use Rattle.vf_tree.specs.Core.{ProgramTree}
use Rattle.vf_meaning.specs.Ghost.{Sort, Not}
use Rattle.vf_meaning.specs.Assertions.{Assertion, BodyOf, Environment}
use Rattle.vf_meaning.specs.Environments.{MayLeak}
use Rattle.vf_rules.specs.Terms.{Term, Store}
use Rattle.vf_rules.specs.States.{Fact, Holds, SymbolicState, KnowsThread, Shows, Infeasible, assuming}
use Rattle.vf_rules.specs.Produce.{Produce}
use Rattle.vf_rules.specs.Take.{Changes}
use Rattle.vf_rules.specs.Consume.{Consume}
use Rattle.vf_rules.specs.Laws.{Outcome, IsAmong, Grows}
use Rattle.vf_rules.specs.Predicates.{AreInhabited, AreSorted, Opens, Closes}
use Rattle.vf_rules.specs.Cases.{HoldsOfNothing}
use Rattle.vf_rules.specs.Arrays.{Arranges}
use Rattle.vf_rules.specs.Lemmas.{LemmaTree, LemmaHolds}
use Rattle.vf_rules.specs.Accept.{all_of_it, call_store, AreFixed}

-- K holds after ghost steps from a state: it holds of the state; or the state cannot be; or K holds after ghost steps from each state to which one leads, which merges or renames chunks or learns what is entailed, arranges rows of cells, opens or closes a predicate, sees what the state shows, splits it by a truth value, knows what holds of nothing, or calls a lemma that leaks nothing
pub data AfterGhostSteps (e : Environment) (p : ProgramTree) (K : SymbolicState → Type 0) : SymbolicState → Type 0 where
  no_step : {st : SymbolicState} → K st → AfterGhostSteps e p K st
  may_drop : {st : SymbolicState} → Infeasible e st.path → AfterGhostSteps e p K st
  may_change : {st new : SymbolicState} → Changes e st new → AfterGhostSteps e p K new → AfterGhostSteps e p K st
  may_arrange : {st new : SymbolicState} → Arranges e st new → AfterGhostSteps e p K new → AfterGhostSteps e p K st
  may_open : {st : SymbolicState} (outs : List Outcome) → Opens e p st outs → ((s : Store) (su : SymbolicState) → IsAmong outs s su → AfterGhostSteps e p K su) → AfterGhostSteps e p K st
  may_close : {st : SymbolicState} (outs : List Outcome) → Closes e p st outs → ((s : Store) (su : SymbolicState) → IsAmong outs s su → AfterGhostSteps e p K su) → AfterGhostSteps e p K st
  may_see : {st : SymbolicState} (fact : Fact) → Shows e st fact → AfterGhostSteps e p K (assuming st fact) → AfterGhostSteps e p K st
  may_split : {st : SymbolicState} (t : Term) → AfterGhostSteps e p K (assuming st (Holds t)) → AfterGhostSteps e p K (assuming st (Holds (Not t))) → AfterGhostSteps e p K st
  may_know : {st : SymbolicState} (a : Assertion) (sorts : List Sort) (store : Store) (outs : List Outcome) → HoldsOfNothing e st.path sorts a store → Produce e p sorts all_of_it a store st (IsAmong outs)
      → ((s : Store) (su : SymbolicState) → IsAmong outs s su → AfterGhostSteps e p K su) → AfterGhostSteps e p K st
  may_call_lemma : {st : SymbolicState} (lemma : LemmaTree) (ts : List Term) (outs : List Outcome) → LemmaHolds e p lemma → (MayLeak e (BodyOf lemma.identity) → ⊥) → AreInhabited e lemma.contract.sorts → length ts ≡ lemma.contract.parameters → AreSorted e st.path lemma.contract.sorts ts → KnowsThread e st.path
      → Consume e p lemma.contract.sorts all_of_it lemma.contract.requires_this (call_store ts) st (λ s1 st1. AreFixed lemma.contract s1 × Produce e p lemma.contract.sorts all_of_it lemma.contract.ensures_this s1 st1 (IsAmong outs))
      → ((s : Store) (su : SymbolicState) → IsAmong outs s su → AfterGhostSteps e p K su) → AfterGhostSteps e p K st

-- the ghost names of a state have the terms that a call with arguments gives to its parameters and to the thread
abbrev pub NamesHave : List Term → SymbolicState → Type 0
NamesHave ts st = Grows (call_store ts) st.names
