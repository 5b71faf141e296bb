-- When the body of a function is accepted: a rule for each core step, and rules for what annotations do between them.
use Rattle.std.specs.Prelude.{IsTrue, ◌≡◌, ◌⊎◌, ℕ, zero, suc, pos, ◌≤◌, ◌-◌, ◌≢◌, List, [], ◌∷◌, ◌++◌, map, replicate, length, slice_get, slice_set, Option, Some, None}
use Rattle.vf_base.specs.declared.place.Place.{Place}
use Rattle.vf_base.specs.declared.int_type.IntType.TheVariants as types
use Rattle.vf_tree.specs.Core.{Identity, Field, TypeTree, Void, Integer, ExpressionTree, Comparison, Set, Load, Store, Allocate, Free, Offset, LoadAt, StoreAt, AllocateInts, FreeInts, Call, CallPointer, Signature, If, Return, FunctionTree, ProgramTree, NotEqual, LessEqual}
use Rattle.vf_model.specs.Accesses.{field_count}
use Rattle.vf_model.specs.State.{function_named}
use Rattle.vf_model.specs.PreludeFunctions.{PreludeFunction, Abort, PutChar, PrintInt, prelude_named, signature_of}
use Rattle.vf_meaning.specs.Fractions.{whole}
use Rattle.vf_meaning.specs.Ghost.{Sort, Name, Pointers, Result, This, CurrentThread, Variable, Claims, Null, Not, Compare, PointerSum, Fraction}
use Rattle.vf_meaning.specs.Ghost as ghost
use Rattle.vf_meaning.specs.Kept.{IsFixed}
use Rattle.vf_meaning.specs.Assertions.{BlockOf, Assertion, ContractTree, BeforeStep, BodyOf, Environment}
use Rattle.vf_meaning.specs.Environments.{IsContractOf, MayLeak}
use Rattle.vf_rules.specs.Terms.{Term, stored}
use Rattle.vf_rules.specs.Terms as terms
use Rattle.vf_rules.specs.States.{Fact, Holds, OfSort, CellOf, Of, SymbolicChunk, SymbolicState, Entails, facts_of_thread, KnowsThread, Shows, Infeasible, assuming, assuming_all, with_chunks}
use Rattle.vf_rules.specs.Fresh.{symbol, IsNew, IsFresh}
use Rattle.vf_rules.specs.Types.{type_of_field, facts_of_type}
use Rattle.vf_rules.specs.Produce.{Produce}
use Rattle.vf_rules.specs.Take.{same, Takes, Removes, Changes}
use Rattle.vf_rules.specs.Consume.{EntailsAll, Consume}
use Rattle.vf_rules.specs.Laws.{Outcome, IsAmong}
use Rattle.vf_rules.specs.Predicates.{store_of, AreInhabited, AreSorted, Opens, Closes}
use Rattle.vf_rules.specs.Cases.{HoldsOfNothing}
use Rattle.vf_rules.specs.Loops.{Loop, IsLoop, AreNamesSorted, Enters}
use Rattle.vf_rules.specs.Evaluate.{IsNumber, Evaluates, EvaluatesAll, IsOfC}
use Rattle.vf_rules.specs.Arrays.{row_head, int_block_head, row_chunk, int_block_chunk, Finds, IsInside, IsItem, Becomes, Arranges}
use Rattle.vf_rules.specs.Threads.{HasSignature, HasPreludeContract}
use Rattle.vf_rules.specs.Lemmas.{LemmaTree, LemmaHolds}

-- the share 1, as a term
abbrev pub all_of_it : Term
all_of_it = Fraction whole

-- the state with a term in a local
abbrev pub with_local : SymbolicState → ℕ → Term → SymbolicState
with_local st x t = record st { locals = slice_set st.locals x (Some t) }

-- the state with a call's result in the local that wants it, if one does
abbrev pub receiving : Option ℕ → Term → SymbolicState → SymbolicState
receiving None t st = st
receiving (Some x) t st = with_local st x t

-- the cell of a field with a pointer and a content
abbrev pub cell_chunk : Field → Term → Option Term → SymbolicChunk
cell_chunk f pointer content = record { share = all_of_it; head = CellOf f; arguments = Some pointer ∷ content ∷ [] }

-- the block of a struct
abbrev pub block_chunk : Identity → Term → SymbolicChunk
block_chunk g pointer = record { share = all_of_it; head = Of (BlockOf g); arguments = Some pointer ∷ [] }

-- the field of a struct by its place
abbrev pub field_at : Identity → ℕ → Field
field_at g i = record { structure = g; index = i }

-- n cells of a new struct from a field on, of unknown content, and then its block
abbrev pub new_chunks : Identity → Term → ℕ → ℕ → List SymbolicChunk
new_chunks g t i zero = block_chunk g t ∷ []
new_chunks g t i (suc n) = cell_chunk (field_at g i) t None ∷ new_chunks g t (suc i) n

-- the whole of each of n cells of a struct from a field on, and then of its block, is taken, one after the other
abbrev pub TakesFields : Environment → List Fact → Identity → Term → ℕ → ℕ → List SymbolicChunk → List SymbolicChunk → Type 0
TakesFields e path g t i zero cs ds =
    (c : SymbolicChunk) × (u : Term) × Takes e path all_of_it c cs ds × (c.head ≡ Of (BlockOf g)) × (c.arguments ≡ Some u ∷ []) × Entails e path (same t u)
TakesFields e path g t i (suc n) cs ds =
    (c : SymbolicChunk) × (mid : List SymbolicChunk) × (u : Term) × (content : Option Term) × Takes e path all_of_it c cs mid
    × (c.head ≡ CellOf (field_at g i)) × (c.arguments ≡ Some u ∷ content ∷ []) × Entails e path (same t u) × TakesFields e path g t (suc i) n mid ds

-- facts of several types, of terms one by one
abbrev pub facts_of_types : List TypeTree → List Term → List Fact
facts_of_types (t ∷ types) (u ∷ us) = facts_of_type t u ++ facts_of_types types us
facts_of_types _ _ = []

-- what is known of the term that a call returns
abbrev pub facts_of_result : TypeTree → Term → List Fact
facts_of_result type t = facts_of_type type t

-- the sorts of terms, one by one
abbrev pub facts_of_sorts : List Sort → List Term → List Fact
facts_of_sorts (s ∷ sorts) (u ∷ us) = OfSort u s ∷ facts_of_sorts sorts us
facts_of_sorts _ _ = []

-- the store of a contract at a call: the arguments, and the thread
abbrev pub call_store : List Term → terms.Store
call_store ts = stored (store_of ts) CurrentThread (Variable CurrentThread)

-- the store of a function type's contract at a call: the arguments, the thread, and the called value
abbrev pub pointer_store : List Term → Term → terms.Store
pointer_store ts t = stored (call_store ts) This t

-- a contract of a function, at its definition or at its prototype, with what a call by it needs: as many parameters, and sorts that have values
pub record HasContract (e : Environment) (f : FunctionTree) (k : ContractTree) : Type 0 where
  pub known : IsContractOf e f.identity k
  pub parameters : k.parameters ≡ length f.signature.parameters
  pub fewer : length f.signature.parameters ≤ length f.locals
  pub inhabited : AreInhabited e k.sorts

-- each name that a store binds has its value when a call begins
abbrev pub AreFixed : ContractTree → terms.Store → Type 0
AreFixed k s = (x : Name) (t : Term) → s x ≡ Some t → IsFixed k x

-- a later store binds no other name that has its value when a call begins
abbrev pub KeepsFixed : ContractTree → terms.Store → terms.Store → Type 0
KeepsFixed k s r = (x : Name) (t : Term) → IsFixed k x → r x ≡ Some t → s x ≡ Some t

-- a term is a byte, which `putchar` asks of its argument
abbrev pub facts_of_byte : Term → List Fact
facts_of_byte t = Holds (Compare LessEqual (ghost.Number (pos 0)) t) ∷ Holds (Compare LessEqual t (ghost.Number (pos 255))) ∷ []

-- a loop is one of several
abbrev pub IsOneOf : Loop → List Loop → Type 0
IsOneOf loop [] = ⊥
IsOneOf loop (x ∷ xs) = (x ≡ loop) ⊎ IsOneOf loop xs

-- A body is accepted from a step on, in a state, within loops: at the heads of the first ones it may stop, since they were entered and a core step was done since; at those of the second ones, which have the others too, it may once a core step is done. `do_` are the rules of core steps, `may_` those of what annotations do, of a loop's head, or of a state that cannot be. Something is leaked before a step only where the environment says so of it. Each rule is given the store of its names, so that a ghost local is no more than a term in the stores of later rules, and a block of annotations is the rules of what it has; a ghost `if` is a split, a ghost `switch` is known of its value, and an `assert` is what a state shows
pub data Accepts (e : Environment) (p : ProgramTree) (f : FunctionTree) (k : ContractTree) : List Loop → List Loop → ℕ → SymbolicState → Type 0 where
  do_set : {now soon : List Loop} {n : ℕ} {st : SymbolicState} (x : ℕ) (a : ExpressionTree) (next : ℕ) (t : Term) → slice_get f.steps n ≡ Some (Set x a next) → Evaluates e st.path st.locals a t
      → Accepts e p f k soon soon next (with_local st x t) → Accepts e p f k now soon n st
  do_if : {now soon : List Loop} {n : ℕ} {st : SymbolicState} (c : Comparison) (a b : ExpressionTree) (yes_step no_step : ℕ) (t u : Term) → slice_get f.steps n ≡ Some (If c a b yes_step no_step)
      → Evaluates e st.path st.locals a t → Evaluates e st.path st.locals b u → IsOfC e st.path t → IsOfC e st.path u
      → Accepts e p f k soon soon yes_step (assuming st (Holds (Compare c t u))) → Accepts e p f k soon soon no_step (assuming st (Holds (Not (Compare c t u)))) → Accepts e p f k now soon n st
  do_load : {now soon : List Loop} {n : ℕ} {st : SymbolicState} (x : ℕ) (a : ExpressionTree) (field : Field) (place : Place) (next : ℕ) (t u content : Term) (c : SymbolicChunk) (others : List SymbolicChunk)
      → slice_get f.steps n ≡ Some (Load x a field place next) → Evaluates e st.path st.locals a t
      → Removes c st.chunks others → c.head ≡ CellOf field → c.arguments ≡ Some u ∷ Some content ∷ [] → Entails e st.path (same t u)
      → Accepts e p f k soon soon next (with_local st x content) → Accepts e p f k now soon n st
  do_store : {now soon : List Loop} {n : ℕ} {st : SymbolicState} (a b : ExpressionTree) (field : Field) (place : Place) (next : ℕ) (t u w : Term) (old : Option Term) (c : SymbolicChunk) (others : List SymbolicChunk)
      → slice_get f.steps n ≡ Some (Store a field b place next) → Evaluates e st.path st.locals a t → Evaluates e st.path st.locals b w
      → Takes e st.path all_of_it c st.chunks others → c.head ≡ CellOf field → c.arguments ≡ Some u ∷ old ∷ [] → Entails e st.path (same t u)
      → ((type : TypeTree) → type_of_field p field.structure field.index ≡ Some type → EntailsAll e st.path (facts_of_type type w) × (type ≢ Void))
      → Accepts e p f k soon soon next (with_chunks st (others ++ cell_chunk field t (Some w) ∷ [])) → Accepts e p f k now soon n st
  do_allocate : {now soon : List Loop} {n : ℕ} {st : SymbolicState} (x : ℕ) (g : Identity) (next y : ℕ) → slice_get f.steps n ≡ Some (Allocate x g next) → IsFresh y st
      → Accepts e p f k soon soon next (with_local st x Null)
      → Accepts e p f k soon soon next (with_local (assuming_all (with_chunks st (st.chunks ++ new_chunks g (symbol y) 0 (field_count p g))) (OfSort (symbol y) Pointers ∷ Holds (Compare NotEqual (symbol y) Null) ∷ [])) x (symbol y))
      → Accepts e p f k now soon n st
  do_free_null : {now soon : List Loop} {n : ℕ} {st : SymbolicState} (a : ExpressionTree) (g : Identity) (place : Place) (next : ℕ) (t : Term) → slice_get f.steps n ≡ Some (Free a g place next)
      → Evaluates e st.path st.locals a t → Entails e st.path (same t Null) → Accepts e p f k soon soon next st → Accepts e p f k now soon n st
  do_free : {now soon : List Loop} {n : ℕ} {st : SymbolicState} (a : ExpressionTree) (g : Identity) (place : Place) (next : ℕ) (t : Term) (left : List SymbolicChunk) → slice_get f.steps n ≡ Some (Free a g place next)
      → Evaluates e st.path st.locals a t → TakesFields e st.path g t 0 (field_count p g) st.chunks left
      → Accepts e p f k soon soon next (with_chunks st left) → Accepts e p f k now soon n st
  do_call : {now soon : List Loop} {n : ℕ} {st : SymbolicState} (target : Option ℕ) (g : Identity) (operands : List ExpressionTree) (place : Place) (next number : ℕ) (callee : FunctionTree) (contract : ContractTree) (ts : List Term) (outs : List Outcome)
      → slice_get f.steps n ≡ Some (Call target g operands place next) → prelude_named g ≡ None → st.names CurrentThread ≡ Some (Variable CurrentThread) → function_named p g ≡ Some number → slice_get p.functions number ≡ Some callee
      → HasContract e callee contract → (callee.signature.result ≡ Void → target ≡ None) → EvaluatesAll e st.path st.locals operands ts → length ts ≡ contract.parameters
      → EntailsAll e st.path (facts_of_types callee.signature.parameters ts) → AreSorted e st.path contract.sorts ts
      → Consume e p contract.sorts all_of_it contract.requires_this (call_store ts) st (λ s1 st1.
      (y : ℕ) × IsNew y all_of_it s1 [] st1 × AreFixed contract s1
      × Produce e p contract.sorts all_of_it contract.ensures_this (stored s1 Result (symbol y)) (assuming_all st1 (facts_of_result callee.signature.result (symbol y)))
      (λ s2 st2. IsAmong outs s2 (receiving target (symbol y) st2)))
      → ((s : terms.Store) (su : SymbolicState) → IsAmong outs s su → Accepts e p f k soon soon next su) → Accepts e p f k now soon n st
  do_return : {now soon : List Loop} {n : ℕ} {st : SymbolicState} (a : ExpressionTree) (t : Term) → slice_get f.steps n ≡ Some (Return (Some a)) → Evaluates e st.path st.locals a t
      → EntailsAll e st.path (facts_of_result f.signature.result t) → f.signature.result ≢ Void
      → Consume e p k.sorts all_of_it k.ensures_this (stored st.names Result t) st (λ s1 st1. (st1.chunks ≡ []) × KeepsFixed k st.names s1) → Accepts e p f k now soon n st
  do_leave : {now soon : List Loop} {n : ℕ} {st : SymbolicState} → slice_get f.steps n ≡ Some (Return None) → f.signature.result ≡ Void
      → Consume e p k.sorts all_of_it k.ensures_this st.names st (λ s1 st1. (st1.chunks ≡ []) × KeepsFixed k st.names s1) → Accepts e p f k now soon n st
  do_call_pointer : {now soon : List Loop} {n : ℕ} {st : SymbolicState} (target : Option ℕ) (a : ExpressionTree) (signature : Signature) (operands : List ExpressionTree) (place : Place) (next : ℕ) (type : Identity) (contract : ContractTree) (t : Term) (ts : List Term) (outs : List Outcome)
      → slice_get f.steps n ≡ Some (CallPointer target a signature operands place next) → e.called f.identity n ≡ Some type → e.types type ≡ Some contract → st.names CurrentThread ≡ Some (Variable CurrentThread)
      → ((g : Identity) → IsTrue (e.claims g type) → HasSignature p g signature) → AreInhabited e contract.sorts
      → Evaluates e st.path st.locals a t → Entails e st.path (Holds (Claims type t))
      → (signature.result ≡ Void → target ≡ None) → EvaluatesAll e st.path st.locals operands ts → length ts ≡ contract.parameters
      → EntailsAll e st.path (facts_of_types signature.parameters ts) → AreSorted e st.path contract.sorts ts
      → Consume e p contract.sorts all_of_it contract.requires_this (pointer_store ts t) st (λ s1 st1.
      (y : ℕ) × IsNew y all_of_it s1 [] st1 × AreFixed contract s1
      × Produce e p contract.sorts all_of_it contract.ensures_this (stored s1 Result (symbol y)) (assuming_all st1 (facts_of_result signature.result (symbol y)))
      (λ s2 st2. IsAmong outs s2 (receiving target (symbol y) st2)))
      → ((s : terms.Store) (su : SymbolicState) → IsAmong outs s su → Accepts e p f k soon soon next su) → Accepts e p f k now soon n st
  do_abort : {now soon : List Loop} {n : ℕ} {st : SymbolicState} (target : Option ℕ) (g : Identity) (place : Place) (next : ℕ) → slice_get f.steps n ≡ Some (Call target g [] place next) → prelude_named g ≡ Some Abort → Accepts e p f k now soon n st
  do_put_char : {now soon : List Loop} {n : ℕ} {st : SymbolicState} (target : Option ℕ) (g : Identity) (a : ExpressionTree) (place : Place) (next y : ℕ) (t : Term) → slice_get f.steps n ≡ Some (Call target g (a ∷ []) place next) → prelude_named g ≡ Some PutChar
      → Evaluates e st.path st.locals a t → EntailsAll e st.path (facts_of_byte t) → IsFresh y st
      → Accepts e p f k soon soon next (receiving target (symbol y) (assuming_all st (facts_of_type (Integer types.Int) (symbol y)))) → Accepts e p f k now soon n st
  do_print_int : {now soon : List Loop} {n : ℕ} {st : SymbolicState} (target : Option ℕ) (g : Identity) (a : ExpressionTree) (place : Place) (next : ℕ) (t : Term) → slice_get f.steps n ≡ Some (Call target g (a ∷ []) place next) → prelude_named g ≡ Some PrintInt
      → Evaluates e st.path st.locals a t → Accepts e p f k soon soon next st → Accepts e p f k now soon n st
  do_prelude : {now soon : List Loop} {n : ℕ} {st : SymbolicState} (target : Option ℕ) (g : Identity) (operands : List ExpressionTree) (place : Place) (next : ℕ) (function : PreludeFunction) (contract : ContractTree) (ts : List Term) (outs : List Outcome)
      → slice_get f.steps n ≡ Some (Call target g operands place next) → prelude_named g ≡ Some function → HasPreludeContract e p function contract → st.names CurrentThread ≡ Some (Variable CurrentThread) → AreInhabited e contract.sorts
      → ((signature_of function).result ≡ Void → target ≡ None) → EvaluatesAll e st.path st.locals operands ts → length ts ≡ contract.parameters → AreSorted e st.path contract.sorts ts
      → Consume e p contract.sorts all_of_it contract.requires_this (call_store ts) st (λ s1 st1.
      (y : ℕ) × IsNew y all_of_it s1 [] st1 × AreFixed contract s1
      × Produce e p contract.sorts all_of_it contract.ensures_this (stored s1 Result (symbol y)) (assuming_all st1 (facts_of_result (signature_of function).result (symbol y)))
      (λ s2 st2. IsAmong outs s2 (receiving target (symbol y) st2)))
      → ((s : terms.Store) (su : SymbolicState) → IsAmong outs s su → Accepts e p f k soon soon next su) → Accepts e p f k now soon n st
  do_allocate_ints : {now soon : List Loop} {n : ℕ} {st : SymbolicState} (x : ℕ) (a : ExpressionTree) (place : Place) (next y : ℕ) (t : Term) → slice_get f.steps n ≡ Some (AllocateInts x a place next) → Evaluates e st.path st.locals a t → IsNumber e st.path t
      → Entails e st.path (Holds (Compare LessEqual (ghost.Number (pos 0)) t)) → IsFresh y st → Accepts e p f k soon soon next (with_local st x Null)
      → Accepts e p f k soon soon next (with_local (assuming_all (with_chunks st (st.chunks ++ row_chunk (symbol y) t None ∷ int_block_chunk (symbol y) t ∷ [])) (OfSort (symbol y) Pointers ∷ Holds (Compare NotEqual (symbol y) Null) ∷ [])) x (symbol y))
      → Accepts e p f k now soon n st
  do_free_ints_null : {now soon : List Loop} {n : ℕ} {st : SymbolicState} (a : ExpressionTree) (place : Place) (next : ℕ) (t : Term) → slice_get f.steps n ≡ Some (FreeInts a place next)
      → Evaluates e st.path st.locals a t → Entails e st.path (same t Null) → Accepts e p f k soon soon next st → Accepts e p f k now soon n st
  do_free_ints : {now soon : List Loop} {n : ℕ} {st : SymbolicState} (a : ExpressionTree) (place : Place) (next : ℕ) (t u w long also : Term) (content : Option Term) (c d : SymbolicChunk) (mid left : List SymbolicChunk) → slice_get f.steps n ≡ Some (FreeInts a place next)
      → Evaluates e st.path st.locals a t → Takes e st.path all_of_it c st.chunks mid → c.head ≡ row_head → c.arguments ≡ Some u ∷ Some long ∷ content ∷ [] → Entails e st.path (same t u)
      → Takes e st.path all_of_it d mid left → d.head ≡ int_block_head → d.arguments ≡ Some w ∷ Some also ∷ [] → Entails e st.path (same t w) → Entails e st.path (same long also)
      → Accepts e p f k soon soon next (with_chunks st left) → Accepts e p f k now soon n st
  do_offset_zero : {now soon : List Loop} {n : ℕ} {st : SymbolicState} (x : ℕ) (a i : ExpressionTree) (place : Place) (next : ℕ) (t j : Term) → slice_get f.steps n ≡ Some (Offset x a i place next)
      → Evaluates e st.path st.locals a t → Evaluates e st.path st.locals i j → Entails e st.path (same j (ghost.Number (pos 0))) → Accepts e p f k soon soon next (with_local st x t) → Accepts e p f k now soon n st
  do_offset : {now soon : List Loop} {n : ℕ} {st : SymbolicState} (x : ℕ) (a i : ExpressionTree) (place : Place) (next : ℕ) (t j u long : Term) (content : Option Term) (c : SymbolicChunk) (others : List SymbolicChunk) → slice_get f.steps n ≡ Some (Offset x a i place next)
      → Evaluates e st.path st.locals a t → Evaluates e st.path st.locals i j → IsNumber e st.path j → Removes c st.chunks others → c.head ≡ row_head → c.arguments ≡ Some u ∷ Some long ∷ content ∷ [] → Entails e st.path (same t u)
      → Entails e st.path (Holds (Compare LessEqual (ghost.Number (pos 0)) j)) → Entails e st.path (Holds (Compare LessEqual j long)) → Accepts e p f k soon soon next (with_local st x (PointerSum t j)) → Accepts e p f k now soon n st
  do_load_at : {now soon : List Loop} {n : ℕ} {st : SymbolicState} (x : ℕ) (a i : ExpressionTree) (place : Place) (next : ℕ) (t j u long list index item : Term) (c : SymbolicChunk) (others : List SymbolicChunk) → slice_get f.steps n ≡ Some (LoadAt x a i place next)
      → Evaluates e st.path st.locals a t → Evaluates e st.path st.locals i j → IsNumber e st.path j → Removes c st.chunks others → c.head ≡ row_head → c.arguments ≡ Some u ∷ Some long ∷ Some list ∷ []
      → Finds e st.path t j u index → IsInside e st.path index long → IsItem e st.path list index item
      → Accepts e p f k soon soon next (with_local (assuming_all st (facts_of_type (Integer types.Int) item)) x item) → Accepts e p f k now soon n st
  do_store_at : {now soon : List Loop} {n : ℕ} {st : SymbolicState} (a i b : ExpressionTree) (place : Place) (next : ℕ) (t j w u long index : Term) (content new : Option Term) (c : SymbolicChunk) (others : List SymbolicChunk) → slice_get f.steps n ≡ Some (StoreAt a i b place next)
      → Evaluates e st.path st.locals a t → Evaluates e st.path st.locals i j → Evaluates e st.path st.locals b w → IsNumber e st.path j → EntailsAll e st.path (facts_of_type (Integer types.Int) w)
      → Takes e st.path all_of_it c st.chunks others → c.head ≡ row_head → c.arguments ≡ Some u ∷ Some long ∷ content ∷ [] → Finds e st.path t j u index → IsInside e st.path index long → Becomes e st.path long index w content new
      → Accepts e p f k soon soon next (with_chunks st (others ++ row_chunk u long new ∷ [])) → Accepts e p f k now soon n st
  may_drop : {now soon : List Loop} {n : ℕ} {st : SymbolicState} → Infeasible e st.path → Accepts e p f k now soon n st
  may_change : {now soon : List Loop} {n : ℕ} {st new : SymbolicState} → Changes e st new → Accepts e p f k now soon n new → Accepts e p f k now soon n st
  may_arrange : {now soon : List Loop} {n : ℕ} {st new : SymbolicState} → Arranges e st new → Accepts e p f k now soon n new → Accepts e p f k now soon n st
  may_open : {now soon : List Loop} {n : ℕ} {st : SymbolicState} (outs : List Outcome) → Opens e p st outs → ((s : terms.Store) (su : SymbolicState) → IsAmong outs s su → Accepts e p f k now soon n su) → Accepts e p f k now soon n st
  may_close : {now soon : List Loop} {n : ℕ} {st : SymbolicState} (outs : List Outcome) → Closes e p st outs → ((s : terms.Store) (su : SymbolicState) → IsAmong outs s su → Accepts e p f k now soon n su) → Accepts e p f k now soon n st
  may_see : {now soon : List Loop} {n : ℕ} {st : SymbolicState} (fact : Fact) → Shows e st fact → Accepts e p f k now soon n (assuming st fact) → Accepts e p f k now soon n st
  may_split : {now soon : List Loop} {n : ℕ} {st : SymbolicState} (t : Term) → Accepts e p f k now soon n (assuming st (Holds t)) → Accepts e p f k now soon n (assuming st (Holds (Not t))) → Accepts e p f k now soon n st
  may_leak : {now soon : List Loop} {n : ℕ} {st : SymbolicState} (a : Assertion) (sorts : List Sort) (store : terms.Store) (outs : List Outcome) → MayLeak e (BeforeStep f.identity n) → AreNamesSorted e st.path sorts store → Consume e p sorts all_of_it a store st (IsAmong outs)
      → ((s : terms.Store) (su : SymbolicState) → IsAmong outs s su → Accepts e p f k now soon n su) → Accepts e p f k now soon n st
  may_know : {now soon : List Loop} {n : ℕ} {st : SymbolicState} (a : Assertion) (sorts : List Sort) (store : terms.Store) (outs : List Outcome) → HoldsOfNothing e st.path sorts a store → Produce e p sorts all_of_it a store st (IsAmong outs)
      → ((s : terms.Store) (su : SymbolicState) → IsAmong outs s su → Accepts e p f k now soon n su) → Accepts e p f k now soon n st
  may_call_lemma : {now soon : List Loop} {n : ℕ} {st : SymbolicState} (lemma : LemmaTree) (ts : List Term) (outs : List Outcome) → LemmaHolds e p lemma → (MayLeak e (BodyOf lemma.identity) → MayLeak e (BeforeStep f.identity n)) → AreInhabited e lemma.contract.sorts → length ts ≡ lemma.contract.parameters → AreSorted e st.path lemma.contract.sorts ts → KnowsThread e st.path
      → Consume e p lemma.contract.sorts all_of_it lemma.contract.requires_this (call_store ts) st (λ s1 st1. AreFixed lemma.contract s1 × Produce e p lemma.contract.sorts all_of_it lemma.contract.ensures_this s1 st1 (IsAmong outs))
      → ((s : terms.Store) (su : SymbolicState) → IsAmong outs s su → Accepts e p f k now soon n su) → Accepts e p f k now soon n st
  may_enter : {now soon : List Loop} {n : ℕ} {st : SymbolicState} (loop : Loop) → loop.node ≡ n → IsLoop e p loop → Enters e p loop st
      → ((s : terms.Store) (su : SymbolicState) → IsAmong loop.outs s su → Accepts e p f k now (loop ∷ soon) n su) → Accepts e p f k now soon n st
  may_repeat : {now soon : List Loop} {n : ℕ} {st : SymbolicState} (loop : Loop) → IsOneOf loop now → loop.node ≡ n → Enters e p loop st → Accepts e p f k now soon n st

-- n symbols in a row, from a number on
abbrev pub symbols_from : ℕ → ℕ → List Term
symbols_from i zero = []
symbols_from i (suc n) = symbol i ∷ symbols_from (suc i) n

-- a symbol for each parameter
abbrev pub parameter_symbols : ℕ → List Term
parameter_symbols n = symbols_from 0 n

-- the state in which a body begins: the parameters have new symbols of their types and sorts, no other local is set, and the thread is named by a number
abbrev pub beginning : FunctionTree → ContractTree → SymbolicState
beginning f k = record {
  locals = map (λ t. Some t) (parameter_symbols (length f.signature.parameters)) ++ replicate (length f.locals - length f.signature.parameters) None;
  names = call_store (parameter_symbols (length f.signature.parameters));
  chunks = [];
  path = facts_of_types f.signature.parameters (parameter_symbols (length f.signature.parameters)) ++ facts_of_sorts k.sorts (parameter_symbols (length f.signature.parameters)) ++ facts_of_thread;
}

-- a function is accepted: its precondition is produced from nothing, and its body accepted from there, the names of the precondition being those of the postcondition
pub record IsAcceptedFunction (e : Environment) (p : ProgramTree) (f : FunctionTree) (k : ContractTree) : Type 0 where
  pub contract : HasContract e f k
  pub outs : List Outcome
  pub produced : Produce e p k.sorts all_of_it k.requires_this (call_store (parameter_symbols (length f.signature.parameters))) (beginning f k) (IsAmong outs)
  pub body : (s : terms.Store) (st : SymbolicState) → IsAmong outs s st → Accepts e p f k [] [] 0 (record st { names = s })
