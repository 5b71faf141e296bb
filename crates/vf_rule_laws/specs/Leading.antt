-- From which states the rules lead to which.
use Rattle.std.specs.Prelude.{◌≡◌, ℕ, List, [], ◌∷◌, ◌++◌, slice_get, Option, Some, None}
use Rattle.vf_base.specs.declared.place.Place.{Place}
use Rattle.vf_base.specs.declared.int_type.IntType.TheVariants as types
use Rattle.vf_tree.specs.Core.{Identity, Field, TypeTree, Integer, ExpressionTree, Comparison, Set, Load, Store, Allocate, Free, Offset, LoadAt, StoreAt, AllocateInts, FreeInts, Call, If, FunctionTree, ProgramTree, NotEqual}
use Rattle.vf_model.specs.Accesses.{field_count}
use Rattle.vf_model.specs.PreludeFunctions.{PutChar, PrintInt, prelude_named}
use Rattle.vf_meaning.specs.Ghost.{Sort, Pointers, Result, Null, Not, Compare, PointerSum}
use Rattle.vf_meaning.specs.Assertions.{Assertion, ContractTree, Environment}
use Rattle.vf_rules.specs.Terms.{Term, stored}
use Rattle.vf_rules.specs.Terms as terms
use Rattle.vf_rules.specs.States.{Fact, Holds, OfSort, CellOf, SymbolicChunk, SymbolicState, Shows, assuming, assuming_all, with_chunks}
use Rattle.vf_rules.specs.Fresh.{symbol, IsNew}
use Rattle.vf_rules.specs.Types.{facts_of_type}
use Rattle.vf_rules.specs.Produce.{Produce}
use Rattle.vf_rules.specs.Take.{Takes, Removes, Changes}
use Rattle.vf_rules.specs.Consume.{Consume}
use Rattle.vf_rules.specs.Laws.{Outcome, IsAmong}
use Rattle.vf_rules.specs.Predicates.{Opens, Closes}
use Rattle.vf_rules.specs.Evaluate.{Evaluates}
use Rattle.vf_rules.specs.Arrays.{row_chunk, int_block_chunk, Arranges}
use Rattle.vf_rules.specs.Accept.{all_of_it, with_local, receiving, cell_chunk, new_chunks, TakesFields, facts_of_result, call_store, AreFixed}

-- the rule of a core step, other than a call of a function of the program or one by a contract, leads from a state at a step to a state at another one; of its premises those that types rest on
pub data StepLeads (e : Environment) (p : ProgramTree) (f : FunctionTree) (n : ℕ) (st : SymbolicState) : ℕ → SymbolicState → Type 0 where
  sets : (x : ℕ) (a : ExpressionTree) (next : ℕ) (t : Term) → slice_get f.steps n ≡ Some (Set x a next) → Evaluates e st.path st.locals a t → StepLeads e p f n st next (with_local st x t)
  compares_true : (c : Comparison) (a b : ExpressionTree) (yes_step no_step : ℕ) (t u : Term) → slice_get f.steps n ≡ Some (If c a b yes_step no_step) → StepLeads e p f n st yes_step (assuming st (Holds (Compare c t u)))
  compares_false : (c : Comparison) (a b : ExpressionTree) (yes_step no_step : ℕ) (t u : Term) → slice_get f.steps n ≡ Some (If c a b yes_step no_step) → StepLeads e p f n st no_step (assuming st (Holds (Not (Compare c t u))))
  loads : (x : ℕ) (a : ExpressionTree) (field : Field) (place : Place) (next : ℕ) (u content : Term) (c : SymbolicChunk) (others : List SymbolicChunk) → slice_get f.steps n ≡ Some (Load x a field place next)
      → Removes c st.chunks others → c.head ≡ CellOf field → c.arguments ≡ Some u ∷ Some content ∷ [] → StepLeads e p f n st next (with_local st x content)
  stores : (a b : ExpressionTree) (field : Field) (place : Place) (next : ℕ) (t w : Term) (c : SymbolicChunk) (others : List SymbolicChunk) → slice_get f.steps n ≡ Some (Store a field b place next)
      → Evaluates e st.path st.locals b w → Takes e st.path all_of_it c st.chunks others → StepLeads e p f n st next (with_chunks st (others ++ cell_chunk field t (Some w) ∷ []))
  gets_nothing : (x : ℕ) (g : Identity) (next : ℕ) → slice_get f.steps n ≡ Some (Allocate x g next) → StepLeads e p f n st next (with_local st x Null)
  gets_memory : (x : ℕ) (g : Identity) (next y : ℕ) → slice_get f.steps n ≡ Some (Allocate x g next)
      → StepLeads e p f n st next (with_local (assuming_all (with_chunks st (st.chunks ++ new_chunks g (symbol y) 0 (field_count p g))) (OfSort (symbol y) Pointers ∷ Holds (Compare NotEqual (symbol y) Null) ∷ [])) x (symbol y))
  frees_nothing : (a : ExpressionTree) (g : Identity) (place : Place) (next : ℕ) → slice_get f.steps n ≡ Some (Free a g place next) → StepLeads e p f n st next st
  frees : (a : ExpressionTree) (g : Identity) (place : Place) (next : ℕ) (t : Term) (left : List SymbolicChunk) → slice_get f.steps n ≡ Some (Free a g place next)
      → TakesFields e st.path g t 0 (field_count p g) st.chunks left → StepLeads e p f n st next (with_chunks st left)
  puts_char : (target : Option ℕ) (g : Identity) (a : ExpressionTree) (place : Place) (next y : ℕ) → slice_get f.steps n ≡ Some (Call target g (a ∷ []) place next) → prelude_named g ≡ Some PutChar
      → StepLeads e p f n st next (receiving target (symbol y) (assuming_all st (facts_of_type (Integer types.Int) (symbol y))))
  prints_int : (target : Option ℕ) (g : Identity) (a : ExpressionTree) (place : Place) (next : ℕ) → slice_get f.steps n ≡ Some (Call target g (a ∷ []) place next) → prelude_named g ≡ Some PrintInt → StepLeads e p f n st next st
  gets_no_ints : (x : ℕ) (a : ExpressionTree) (place : Place) (next : ℕ) → slice_get f.steps n ≡ Some (AllocateInts x a place next) → StepLeads e p f n st next (with_local st x Null)
  gets_ints : (x : ℕ) (a : ExpressionTree) (place : Place) (next y : ℕ) (t : Term) → slice_get f.steps n ≡ Some (AllocateInts x a place next)
      → StepLeads e p f n st next (with_local (assuming_all (with_chunks st (st.chunks ++ row_chunk (symbol y) t None ∷ int_block_chunk (symbol y) t ∷ [])) (OfSort (symbol y) Pointers ∷ Holds (Compare NotEqual (symbol y) Null) ∷ [])) x (symbol y))
  frees_no_ints : (a : ExpressionTree) (place : Place) (next : ℕ) → slice_get f.steps n ≡ Some (FreeInts a place next) → StepLeads e p f n st next st
  frees_ints : (a : ExpressionTree) (place : Place) (next : ℕ) (c d : SymbolicChunk) (mid left : List SymbolicChunk) → slice_get f.steps n ≡ Some (FreeInts a place next)
      → Takes e st.path all_of_it c st.chunks mid → Takes e st.path all_of_it d mid left → StepLeads e p f n st next (with_chunks st left)
  stays_there : (x : ℕ) (a i : ExpressionTree) (place : Place) (next : ℕ) (t : Term) → slice_get f.steps n ≡ Some (Offset x a i place next) → Evaluates e st.path st.locals a t → StepLeads e p f n st next (with_local st x t)
  goes_on : (x : ℕ) (a i : ExpressionTree) (place : Place) (next : ℕ) (t j : Term) → slice_get f.steps n ≡ Some (Offset x a i place next) → Evaluates e st.path st.locals a t → StepLeads e p f n st next (with_local st x (PointerSum t j))
  loads_at : (x : ℕ) (a i : ExpressionTree) (place : Place) (next : ℕ) (item : Term) → slice_get f.steps n ≡ Some (LoadAt x a i place next)
      → StepLeads e p f n st next (with_local (assuming_all st (facts_of_type (Integer types.Int) item)) x item)
  stores_at : (a i b : ExpressionTree) (place : Place) (next : ℕ) (u long : Term) (new : Option Term) (c : SymbolicChunk) (others : List SymbolicChunk) → slice_get f.steps n ≡ Some (StoreAt a i b place next)
      → Takes e st.path all_of_it c st.chunks others → StepLeads e p f n st next (with_chunks st (others ++ row_chunk u long new ∷ []))

-- a call by a contract, from a store of the arguments, comes to one of several outcomes: the precondition is consumed, and the postcondition produced with a new result, which the target gets
abbrev pub CallComes : Environment → ProgramTree → ContractTree → terms.Store → TypeTree → Option ℕ → SymbolicState → List Outcome → Type 0
CallComes e p contract names result target st outs =
    Consume e p contract.sorts all_of_it contract.requires_this names st (λ s1 st1.
    (y : ℕ) × IsNew y all_of_it s1 [] st1 × AreFixed contract s1
    × Produce e p contract.sorts all_of_it contract.ensures_this (stored s1 Result (symbol y)) (assuming_all st1 (facts_of_result result (symbol y)))
    (λ s2 st2. IsAmong outs s2 (receiving target (symbol y) st2)))

-- a rule of annotations leads from a state to one state: an entailed fact, chunks that are joined or renamed, rows that are arranged, what the state shows, and a case of a split
pub data GhostLeads (e : Environment) (st : SymbolicState) : SymbolicState → Type 0 where
  changes : {new : SymbolicState} → Changes e st new → GhostLeads e st new
  arranges : {new : SymbolicState} → Arranges e st new → GhostLeads e st new
  sees : (fact : Fact) → Shows e st fact → GhostLeads e st (assuming st fact)
  splits_true : (t : Term) → GhostLeads e st (assuming st (Holds t))
  splits_false : (t : Term) → GhostLeads e st (assuming st (Holds (Not t)))

-- a rule of annotations comes from a state to one of several outcomes: a predicate is opened or closed, an assertion is leaked, known since it holds of nothing, or produced at a loop's head, or a lemma is called
pub data GhostComes (e : Environment) (p : ProgramTree) (st : SymbolicState) (outs : List Outcome) : Type 0 where
  opens : Opens e p st outs → GhostComes e p st outs
  closes : Closes e p st outs → GhostComes e p st outs
  leaks : (a : Assertion) (sorts : List Sort) (names : terms.Store) → Consume e p sorts all_of_it a names st (IsAmong outs) → GhostComes e p st outs
  knows : (a : Assertion) (sorts : List Sort) (names : terms.Store) → Produce e p sorts all_of_it a names st (IsAmong outs) → GhostComes e p st outs
  calls_lemma : (contract : ContractTree) (ts : List Term)
      → Consume e p contract.sorts all_of_it contract.requires_this (call_store ts) st (λ s1 st1. AreFixed contract s1 × Produce e p contract.sorts all_of_it contract.ensures_this s1 st1 (IsAmong outs))
      → GhostComes e p st outs
