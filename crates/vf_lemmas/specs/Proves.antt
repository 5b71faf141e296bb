-- When the body of a lemma is accepted: rules for what annotations do, and for calls of lemmas.
use Rattle.std.specs.Prelude.{◌≡◌, ℕ, ◌<◌, true, false, List, [], ◌∷◌, ◌++◌, map, length, slice_get, Some}
use Rattle.vf_tree.specs.Core.{Field, ProgramTree}
use Rattle.vf_meaning.specs.Ghost.{Sort, Name, Numbered, Not}
use Rattle.vf_meaning.specs.Valuations.{Valuation, size}
use Rattle.vf_meaning.specs.Assertions.{Names, Assertion, ContractTree, BodyOf, Environment}
use Rattle.vf_meaning.specs.Environments.{MayLeak}
use Rattle.vf_rules.specs.Terms.{Term}
use Rattle.vf_rules.specs.Terms as terms
use Rattle.vf_rules.specs.States.{Fact, Holds, CellOf, SymbolicChunk, SymbolicState, value_in, Meets, Entails, facts_of_thread, KnowsThread, Shows, Infeasible, assuming}
use Rattle.vf_rules.specs.Produce.{NoArgumentSort, ProducePatterns, Produce}
use Rattle.vf_rules.specs.Take.{same, Removes, Changes}
use Rattle.vf_rules.specs.Consume.{Consume}
use Rattle.vf_rules.specs.Laws.{Outcome, IsAmong}
use Rattle.vf_rules.specs.Predicates.{AreInhabited, AreSorted, Opens, Closes}
use Rattle.vf_rules.specs.Cases.{HoldsOfNothing}
use Rattle.vf_rules.specs.Loops.{AreNamesSorted}
use Rattle.vf_rules.specs.Accept.{all_of_it, facts_of_sorts, call_store, parameter_symbols, AreFixed, KeepsFixed}
use Rattle.vf_rules.specs.Lemmas.{OnArgument, OnDepth, LemmaTree, LemmaHolds}
use Rattle.vf_lemmas.specs.Depths.{first_of, rest_of, Aside, all_inside, TakesAside, AreNew, AreFreeOf, OpensInto, IsFirst}
use Rattle.vf_lemmas.specs.Shares.{SplitsInto}

-- on a path the value of a term is of a smaller size than that of another, as a part of a tree is than the tree
pub record IsSmaller (e : Environment) (path : List Fact) (t u : Term) : Type 0 where
  pub by : (v : Valuation) → Meets e v path → size (value_in e v t) < size (value_in e v u)

-- a state has the whole of a field's cell
pub record HasWholeCell (e : Environment) (st : SymbolicState) : Type 0 where
  pub chunk : SymbolicChunk
  pub others : List SymbolicChunk
  pub removed : Removes chunk st.chunks others
  pub field : Field
  pub head : chunk.head ≡ CellOf field
  pub all : Entails e st.path (same all_of_it chunk.share)

-- The lemma of a number may be called, with arguments, in the body of the lemma at a place: it stands earlier; or it is that lemma itself, and where its precondition was consumed the whole of a field's cell is left, or the argument for the parameter whose value is to fall is smaller than what the body has for it
pub data MayCall (e : Environment) (own : LemmaTree) (place : ℕ) (st : SymbolicState) (ts : List Term) (left : SymbolicState) : ℕ → Type 0 where
  earlier : {number : ℕ} → number < place → MayCall e own place st ts left number
  whole_cell_left : HasWholeCell e left → MayCall e own place st ts left place
  smaller_argument : (k : ℕ) (t u : Term) → own.falls ≡ OnArgument k → k < own.contract.parameters → slice_get ts k ≡ Some t → st.names (Numbered k) ≡ Some u → IsSmaller e st.path t u → MayCall e own place st ts left place

-- The body of the lemma at a place among lemmas is accepted from a state on: its postcondition is consumed and nothing is left; the state cannot be; or an annotation is followed, or a lemma called, one of these or another that holds, and it is accepted from each state to which that leads. What was set aside of the first part of the precondition is put back, split into shares, opened, or given to a call of the lemma itself
pub data Proves (e : Environment) (p : ProgramTree) (lemmas : List LemmaTree) (own : LemmaTree) (place : ℕ) : List Aside → SymbolicState → Type 0 where
  may_end : {st : SymbolicState} → Consume e p own.contract.sorts all_of_it own.contract.ensures_this st.names st (λ s1 st1. (st1.chunks ≡ []) × KeepsFixed own.contract st.names s1) → Proves e p lemmas own place [] st
  may_drop : {asides : List Aside} {st : SymbolicState} → Infeasible e st.path → Proves e p lemmas own place asides st
  may_change : {asides : List Aside} {st new : SymbolicState} → Changes e st new → Proves e p lemmas own place asides new → Proves e p lemmas own place asides st
  may_open : {asides : List Aside} {st : SymbolicState} (outs : List Outcome) → Opens e p st outs → ((s : terms.Store) (su : SymbolicState) → IsAmong outs s su → Proves e p lemmas own place asides su) → Proves e p lemmas own place asides st
  may_close : {asides : List Aside} {st : SymbolicState} (outs : List Outcome) → Closes e p st outs → ((s : terms.Store) (su : SymbolicState) → IsAmong outs s su → Proves e p lemmas own place asides su) → Proves e p lemmas own place asides st
  may_see : {asides : List Aside} {st : SymbolicState} (fact : Fact) → Shows e st fact → Proves e p lemmas own place asides (assuming st fact) → Proves e p lemmas own place asides st
  may_split : {asides : List Aside} {st : SymbolicState} (t : Term) → Proves e p lemmas own place asides (assuming st (Holds t)) → Proves e p lemmas own place asides (assuming st (Holds (Not t))) → Proves e p lemmas own place asides st
  may_know : {asides : List Aside} {st : SymbolicState} (a : Assertion) (sorts : List Sort) (store : terms.Store) (outs : List Outcome) → HoldsOfNothing e st.path sorts a store → Produce e p sorts all_of_it a store st (IsAmong outs)
      → ((s : terms.Store) (su : SymbolicState) → IsAmong outs s su → Proves e p lemmas own place asides su) → Proves e p lemmas own place asides st
  may_leak : {asides : List Aside} {st : SymbolicState} (a : Assertion) (sorts : List Sort) (store : terms.Store) (outs : List Outcome) → MayLeak e (BodyOf own.identity) → AreNamesSorted e st.path sorts store → Consume e p sorts all_of_it a store st (IsAmong outs)
      → ((s : terms.Store) (su : SymbolicState) → IsAmong outs s su → Proves e p lemmas own place asides su) → Proves e p lemmas own place asides st
  may_call : {asides : List Aside} {st : SymbolicState} (number : ℕ) (callee : LemmaTree) (ts : List Term) (outs : List Outcome) → slice_get lemmas number ≡ Some callee → (MayLeak e (BodyOf callee.identity) → MayLeak e (BodyOf own.identity))
      → AreInhabited e callee.contract.sorts → length ts ≡ callee.contract.parameters → AreSorted e st.path callee.contract.sorts ts → KnowsThread e st.path
      → Consume e p callee.contract.sorts all_of_it callee.contract.requires_this (call_store ts) st (λ s1 st1.
      MayCall e own place st ts st1 number × AreFixed callee.contract s1 × Produce e p callee.contract.sorts all_of_it callee.contract.ensures_this s1 st1 (IsAmong outs))
      → ((s : terms.Store) (su : SymbolicState) → IsAmong outs s su → Proves e p lemmas own place asides su) → Proves e p lemmas own place asides st
  may_call_held : {asides : List Aside} {st : SymbolicState} (lemma : LemmaTree) (ts : List Term) (outs : List Outcome) → LemmaHolds e p lemma → (MayLeak e (BodyOf lemma.identity) → MayLeak e (BodyOf own.identity))
      → AreInhabited e lemma.contract.sorts → length ts ≡ lemma.contract.parameters → AreSorted e st.path lemma.contract.sorts ts → KnowsThread e st.path
      → Consume e p lemma.contract.sorts all_of_it lemma.contract.requires_this (call_store ts) st (λ s1 st1. AreFixed lemma.contract s1 × Produce e p lemma.contract.sorts all_of_it lemma.contract.ensures_this s1 st1 (IsAmong outs))
      → ((s : terms.Store) (su : SymbolicState) → IsAmong outs s su → Proves e p lemmas own place asides su) → Proves e p lemmas own place asides st
  may_put_back : {asides others : List Aside} {st : SymbolicState} (a : Aside) (outs : List Outcome) → TakesAside a asides others → Produce e p own.contract.sorts all_of_it a.assertion st.names st (IsAmong outs)
      → ((s : terms.Store) (su : SymbolicState) → IsAmong outs s su → Proves e p lemmas own place others (record su { names = s })) → Proves e p lemmas own place asides st
  may_split_aside : {asides others : List Aside} {st : SymbolicState} (a : Aside) (first second : Assertion) → TakesAside a asides others → SplitsInto e st.path st.names a.assertion first second
      → Proves e p lemmas own place (record { inside = a.inside; assertion = first } ∷ record { inside = a.inside; assertion = second } ∷ others) st → Proves e p lemmas own place asides st
  may_open_aside : {asides others : List Aside} {st : SymbolicState} (a : Aside) (sorts : List Sort) (new : List Name) (inner : List Assertion) (rest : Assertion) (outs : List Outcome) → TakesAside a asides others
      → AreNew own.contract st.names new → AreFreeOf new others → OpensInto e st.path st.names a.assertion sorts new inner rest → Produce e p sorts all_of_it rest st.names st (IsAmong outs)
      → ((s : terms.Store) (su : SymbolicState) → IsAmong outs s su → Proves e p lemmas own place (all_inside inner ++ others) (record su { names = s })) → Proves e p lemmas own place asides st
  may_call_inside : {asides others : List Aside} {st : SymbolicState} (a : Aside) (ts : List Term) (store : terms.Store) (outs : List Outcome) → TakesAside a asides others → a.inside ≡ true → own.falls ≡ OnDepth
      → AreInhabited e own.contract.sorts → length ts ≡ own.contract.parameters → KnowsThread e st.path → IsFirst e st.path st.names a.assertion (first_of own.contract.requires_this) own.contract.sorts ts store
      → Consume e p own.contract.sorts all_of_it (rest_of own.contract.requires_this) store st (λ s1 st1. AreFixed own.contract s1 × Produce e p own.contract.sorts all_of_it own.contract.ensures_this s1 st1 (IsAmong outs))
      → ((s : terms.Store) (su : SymbolicState) → IsAmong outs s su → Proves e p lemmas own place others su) → Proves e p lemmas own place asides st

-- the state in which a lemma's body begins: the parameters have new symbols of their sorts, the thread is named by a number, and nothing else is there
abbrev pub lemma_beginning : ContractTree → SymbolicState
lemma_beginning k = record { locals = []; names = call_store (parameter_symbols k.parameters); chunks = []; path = facts_of_sorts k.sorts (parameter_symbols k.parameters) ++ facts_of_thread }

-- a lemma is accepted at its place: its precondition is produced from nothing, or its first part is set aside and the rest is produced, and its body is accepted from there
pub data IsAcceptedLemma (e : Environment) (p : ProgramTree) (lemmas : List LemmaTree) (place : ℕ) (lemma : LemmaTree) : Type 0 where
  with_all : (outs : List Outcome) → Produce e p lemma.contract.sorts all_of_it lemma.contract.requires_this (call_store (parameter_symbols lemma.contract.parameters)) (lemma_beginning lemma.contract) (IsAmong outs)
      → ((s : terms.Store) (st : SymbolicState) → IsAmong outs s st → Proves e p lemmas lemma place [] (record st { names = s })) → IsAcceptedLemma e p lemmas place lemma
  with_first_aside : (names : List Name) (outs : List Outcome) → lemma.falls ≡ OnDepth
      → ProducePatterns e p lemma.contract.sorts all_of_it NoArgumentSort 0 (map (λ x. Names x) names) (call_store (parameter_symbols lemma.contract.parameters)) (lemma_beginning lemma.contract) [] (λ ts s st.
      Produce e p lemma.contract.sorts all_of_it (rest_of lemma.contract.requires_this) s st (IsAmong outs))
      → ((s : terms.Store) (st : SymbolicState) → IsAmong outs s st → Proves e p lemmas lemma place (record { inside = false; assertion = first_of lemma.contract.requires_this } ∷ []) (record st { names = s }))
      → IsAcceptedLemma e p lemmas place lemma

-- each of several lemmas is accepted, in their order
abbrev pub AreAcceptedLemmas : Environment → ProgramTree → List LemmaTree → Type 0
AreAcceptedLemmas e p lemmas = (place : ℕ) (lemma : LemmaTree) → slice_get lemmas place ≡ Some lemma → IsAcceptedLemma e p lemmas place lemma
