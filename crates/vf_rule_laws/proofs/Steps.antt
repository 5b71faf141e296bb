-- The rule of each core step leads from a typed state to typed states.
use Rattle.std.proofs.Common.{◌≡◌, ℕ, zero, suc, ℤ, List, [], ◌∷◌, ◌++◌, Option, Some, None, refl, sym, subst, ◌∙◌, inl}
use Rattle.vf_base.specs.declared.int_type.IntType.TheVariants as types
use Rattle.vf_tree.specs.Core.{Identity, Field, TypeTree, Integer, ExpressionTree, FunctionTree, ProgramTree, Set, Load, Store, Allocate, Offset, LoadAt, AllocateInts, Call, NotEqual}
use Rattle.vf_model.specs.Accesses.{field_count}
use Rattle.vf_model.specs.PreludeFunctions.{PutChar, signature_of}
use Rattle.vf_model.specs.Values.{Value}
use Rattle.vf_model.specs.Values as values
use Rattle.vf_meaning.specs.Ghost.{Sort, Pointers, Null, Not, Compare, PointerSum}
use Rattle.vf_meaning.specs.Valuations.{further}
use Rattle.vf_meaning.specs.Assertions.{Environment}
use Rattle.vf_meaning.specs.Sorts.{HasSort}
use Rattle.vf_rules.specs.Terms.{Term}
use Rattle.vf_rules.specs.Fresh.{symbol}
use Rattle.vf_rules.specs.States.{Fact, Holds, OfSort, CellOf, Of, SymbolicChunk, SymbolicState, Entails, assuming_all, with_chunks}
use Rattle.vf_rules.specs.Types.{facts_of_type, type_of_field}
use Rattle.vf_rules.specs.Take.{Takes, takes_all, takes_part, takes_later, Removes, removes_here, removes_later}
use Rattle.vf_rules.specs.Consume.{EntailsAll}
use Rattle.vf_rules.specs.Evaluate.{Evaluates}
use Rattle.vf_rules.specs.Arrays.{row_chunk, int_block_chunk}
use Rattle.vf_rules.specs.Accept.{all_of_it, with_local, receiving, cell_chunk, block_chunk, field_at, new_chunks, TakesFields}
use Rattle.vf_rules.specs.Ranges.{ContentTyped, ContentsTyped, IsTypedState}
use Rattle.vf_rules.proofs.Ranges.{facts_keep_types, setting_keeps_types, storing_keeps_types}
use Rattle.vf_rule_laws.specs.Typing.{IsPointerType, FitsInto, HasType, LocalIs, TakesResult, IsTypedFunction, of_prelude}
use Rattle.vf_rule_laws.specs.Leading.{StepLeads, sets, compares_true, compares_false, loads, stores, gets_nothing, gets_memory, frees_nothing, frees, puts_char, prints_int, gets_no_ints, gets_ints, frees_no_ints, frees_ints, stays_there, goes_on, loads_at, stores_at}
use Rattle.vf_rule_laws.specs.TypedLaws.{StepsKeepTypes}
use Rattle.vf_rule_laws.proofs.Paths.{added_entailed}
use Rattle.vf_rule_laws.proofs.Typed.{pointer_facts, fitting_facts, expression_facts}

head_clash : {A : Type 0} {f : Field} {h : _} → Of h ≡ CellOf f → A
head_clash e = cc

field_same : {f g : Field} → CellOf f ≡ CellOf g → f ≡ g
field_same e = cc

-- ---- chunks
module _ (e : Environment) (p : ProgramTree) (path : List Fact) where
  -- a chunk that is no cell
  pub no_cell : (c : SymbolicChunk) (h : _) → c.head ≡ Of h → ContentTyped e p path c
  no_cell c h is f u w us type head arguments at = head_clash (sym is ∙ head)

  pub contents_added : (cs ds : List SymbolicChunk) → ContentsTyped e p path cs → ContentsTyped e p path ds → ContentsTyped e p path (cs ++ ds)
  contents_added [] ds h k = k
  contents_added (c ∷ cs) ds h k = (h.0, contents_added cs ds h.1 k)

  -- a chunk that is taken out of several
  pub contents_removed : (c : SymbolicChunk) {cs ds : List SymbolicChunk} → Removes c cs ds → ContentsTyped e p path cs → ContentTyped e p path c × ContentsTyped e p path ds
  contents_removed c (removes_here) h = (h.0, h.1)
  contents_removed c (removes_later r) h = let k = contents_removed c r h.1 in (k.0, (h.0, k.1))

  -- a new cell has unknown content
  empty_cell : (f : Field) (t : Term) → ContentTyped e p path (cell_chunk f t None)
  empty_cell f t g u w us type head arguments at = unknown arguments
    where
      unknown : {A : Type 0} {u w : Term} {us : List (Option Term)} → Some t ∷ None ∷ [] ≡ Some u ∷ Some w ∷ us → A
      unknown h = cc

  new_typed : (g : Identity) (t : Term) (i n : ℕ) → ContentsTyped e p path (new_chunks g t i n)
  new_typed g t i zero = (no_cell (block_chunk g t) _ refl, tt)
  new_typed g t i (suc n) = (empty_cell (field_at g i) t, new_typed g t (suc i) n)

  pub chunk_taken : (wanted : Term) (c : SymbolicChunk) {cs ds : List SymbolicChunk} → Takes e path wanted c cs ds → ContentsTyped e p path cs → ContentsTyped e p path ds
  chunk_taken wanted c (takes_all same) h = h.1
  chunk_taken wanted c (takes_part left splits) h = (λ f u w us type head arguments at. h.0 f u w us type head arguments at, h.1)
  chunk_taken wanted c (takes_later t) h = (h.0, chunk_taken wanted c t h.1)

  -- the cells and the block of a struct that are taken
  fields_taken : (g : Identity) (t : Term) (i n : ℕ) (cs ds : List SymbolicChunk) → TakesFields e path g t i n cs ds → ContentsTyped e p path cs → ContentsTyped e p path ds
  fields_taken g t i zero cs ds (c, u, takes, head, arguments, same) h = chunk_taken all_of_it c takes h
  fields_taken g t i (suc n) cs ds (c, mid, u, content, takes, head, arguments, same, rest) h = fields_taken g t (suc i) n mid ds rest (chunk_taken all_of_it c takes h)

-- ---- states
module _ (e : Environment) (p : ProgramTree) (typed : List TypeTree) (kinds : ℕ → Option Sort) where
  abbrev Typed : SymbolicState → Type 0
  Typed st = IsTypedState e p typed kinds st

  -- other chunks that are typed
  pub other_chunks : (st : SymbolicState) (cs : List SymbolicChunk) → Typed st → ContentsTyped e p st.path cs → Typed (with_chunks st cs)
  other_chunks st cs t k = record { locals = t.locals; contents = k; symbols = t.symbols }

  -- a local with a pointer
  pub pointer_set : (st : SymbolicState) (x : ℕ) (t : Term) → LocalIs typed x IsPointerType → Entails e st.path (OfSort t Pointers) → Typed st → Typed (with_local st x t)
  pointer_set st x t (type, is, pointer) known h = setting_keeps_types e p typed kinds st x type t is (subst (EntailsAll e st.path) (sym (pointer_facts type t pointer)) (known, tt)) h

  null_set : (st : SymbolicState) (x : ℕ) → LocalIs typed x IsPointerType → Typed st → Typed (with_local st x Null)
  null_set st x local h = pointer_set st x Null local (record { by = λ v m. inl refl }) h

  -- a local with a term whose type fits into its own
  fitting_set : (st : SymbolicState) (x : ℕ) (from : TypeTree) (t : Term) → LocalIs typed x (FitsInto from) → EntailsAll e st.path (facts_of_type from t) → Typed st → Typed (with_local st x t)
  fitting_set st x from t (type, is, fits) own h = setting_keeps_types e p typed kinds st x type t is (fitting_facts e st.path from type t fits own) h

  -- a call's result in the local that wants it, if one does
  pub result_received : (st : SymbolicState) (target : Option ℕ) (result : TypeTree) (t : Term) → TakesResult typed target result → EntailsAll e st.path (facts_of_type result t) → Typed st → Typed (receiving target t st)
  result_received st None result t local own h = h
  result_received st (Some x) result t local own h = fitting_set st x result t local own h

  -- new memory, and a new pointer to it
  granted : (st : SymbolicState) (x y : ℕ) (cs : List SymbolicChunk) → LocalIs typed x IsPointerType → ContentsTyped e p st.path cs → Typed st
      → Typed (with_local (assuming_all (with_chunks st (st.chunks ++ cs)) (OfSort (symbol y) Pointers ∷ Holds (Compare NotEqual (symbol y) Null) ∷ [])) x (symbol y))
  granted st x y cs local own h =
      let facts = OfSort (symbol y) Pointers ∷ Holds (Compare NotEqual (symbol y) Null) ∷ [] in
      let grown = other_chunks st (st.chunks ++ cs) h (contents_added e p st.path st.chunks cs h.contents own) in
      pointer_set (assuming_all (with_chunks st (st.chunks ++ cs)) facts) x (symbol y) local (added_entailed e st.path facts).0 (facts_keep_types e p typed kinds (with_chunks st (st.chunks ++ cs)) facts grown)

-- a pointer some places further is one
pub further_pointer : (e : Environment) (w : Value) (z : ℤ) → HasSort e w Pointers → HasSort e (further w z) Pointers
further_pointer e (values.Pointer b o) z h = inl refl
further_pointer e (values.Number y) z h = h
further_pointer e (values.Truth b) z h = h
further_pointer e values.Null z h = h
further_pointer e (values.Function g) z h = h
further_pointer e (values.Constructed c vs) z h = h
further_pointer e (values.Predicate q vs) z h = h
further_pointer e (values.Fraction d) z h = h

-- ---- the rules
module _ (e : Environment) (p : ProgramTree) (f : FunctionTree) (kinds : ℕ → Option Sort) (n : ℕ) (st : SymbolicState) (keeps : IsTypedFunction p f) (own : IsTypedState e p f.locals kinds st) where
  -- what an expression gives to a local of its type
  expression_set : (x : ℕ) (a : ExpressionTree) (t : Term) → LocalIs f.locals x (HasType f.locals a) → Evaluates e st.path st.locals a t → IsTypedState e p f.locals kinds (with_local st x t)
  expression_set x a t (type, is, has) ev = setting_keeps_types e p f.locals kinds st x type t is (expression_facts e st.path f.locals st.locals own.locals a type t has ev) own

  -- an expression of a type of pointers is a pointer
  expression_points : (a : ExpressionTree) (t : Term) (type : TypeTree) → IsPointerType type → HasType f.locals a type → Evaluates e st.path st.locals a t → Entails e st.path (OfSort t Pointers)
  expression_points a t type pointer has ev = (subst (EntailsAll e st.path) (pointer_facts type t pointer) (expression_facts e st.path f.locals st.locals own.locals a type t has ev)).0

  content_set : (x : ℕ) (field : Field) (u content : Term) (c : SymbolicChunk) (others : List SymbolicChunk) → LocalIs f.locals x (λ type. (from : TypeTree) × (type_of_field p field.structure field.index ≡ Some from) × FitsInto from type)
      → Removes c st.chunks others → c.head ≡ CellOf field → c.arguments ≡ Some u ∷ Some content ∷ [] → IsTypedState e p f.locals kinds (with_local st x content)
  content_set x field u content c others (type, is, (from, there, fits)) removes head arguments =
      let facts = (contents_removed e p st.path c removes own.contents).0 field u content [] from head arguments there in
      setting_keeps_types e p f.locals kinds st x type content is (fitting_facts e st.path from type content fits facts) own

  pub step_keeps : {m : ℕ} {su : SymbolicState} → StepLeads e p f n st m su → IsTypedState e p f.locals kinds su
  step_keeps (sets x a next t is ev) = expression_set x a t (keeps.steps n (Set x a next) is) ev
  step_keeps (compares_true c a b yes_step no_step t u is) = facts_keep_types e p f.locals kinds st (Holds (Compare c t u) ∷ []) own
  step_keeps (compares_false c a b yes_step no_step t u is) = facts_keep_types e p f.locals kinds st (Holds (Not (Compare c t u)) ∷ []) own
  step_keeps (loads x a field place next u content c others is removes head arguments) = content_set x field u content c others (keeps.steps n (Load x a field place next) is) removes head arguments
  step_keeps (stores a b field place next t w c others is ev takes) =
      storing_keeps_types e p f.locals kinds st all_of_it t w c others field takes (λ type at. expression_facts e st.path f.locals st.locals own.locals b type w (keeps.steps n (Store a field b place next) is type at).0 ev) own
  step_keeps (gets_nothing x g next is) = null_set e p f.locals kinds st x (keeps.steps n (Allocate x g next) is) own
  step_keeps (gets_memory x g next y is) = granted e p f.locals kinds st x y (new_chunks g (symbol y) 0 (field_count p g)) (keeps.steps n (Allocate x g next) is) (new_typed e p st.path g (symbol y) 0 (field_count p g)) own
  step_keeps (frees_nothing a g place next is) = own
  step_keeps (frees a g place next t left is takes) = other_chunks e p f.locals kinds st left own (fields_taken e p st.path g t 0 (field_count p g) st.chunks left takes own.contents)
  step_keeps (puts_char target g a place next y is which) =
      let facts = facts_of_type (Integer types.Int) (symbol y) in
      result_received e p f.locals kinds (assuming_all st facts) target (Integer types.Int) (symbol y) (keeps.steps n (Call target g (a ∷ []) place next) is (signature_of PutChar) (of_prelude PutChar which)).0 (added_entailed e st.path facts) (facts_keep_types e p f.locals kinds st facts own)
  step_keeps (prints_int target g a place next is which) = own
  step_keeps (gets_no_ints x a place next is) = null_set e p f.locals kinds st x (keeps.steps n (AllocateInts x a place next) is).0 own
  step_keeps (gets_ints x a place next y t is) =
      granted e p f.locals kinds st x y (row_chunk (symbol y) t None ∷ int_block_chunk (symbol y) t ∷ []) (keeps.steps n (AllocateInts x a place next) is).0
      (no_cell e p st.path (row_chunk (symbol y) t None) _ refl, (no_cell e p st.path (int_block_chunk (symbol y) t) _ refl, tt)) own
  step_keeps (frees_no_ints a place next is) = own
  step_keeps (frees_ints a place next c d mid left is first second) =
      other_chunks e p f.locals kinds st left own (chunk_taken e p st.path all_of_it d second (chunk_taken e p st.path all_of_it c first own.contents))
  step_keeps (stays_there x a i place next t is ev) =
      let typed = keeps.steps n (Offset x a i place next) is in
      pointer_set e p f.locals kinds st x t typed.0 (expression_points a t (typed.1).0 (typed.1).1 (typed.1).2 ev) own
  step_keeps (goes_on x a i place next t j is ev) =
      let typed = keeps.steps n (Offset x a i place next) is in
      let points = expression_points a t (typed.1).0 (typed.1).1 (typed.1).2 ev in
      pointer_set e p f.locals kinds st x (PointerSum t j) typed.0 (record { by = λ v m. further_pointer e _ _ (points.by v m) }) own
  step_keeps (loads_at x a i place next item is) =
      let facts = facts_of_type (Integer types.Int) item in
      fitting_set e p f.locals kinds (assuming_all st facts) x (Integer types.Int) item (keeps.steps n (LoadAt x a i place next) is).0 (added_entailed e st.path facts) (facts_keep_types e p f.locals kinds st facts own)
  step_keeps (stores_at a i b place next u long new c others is takes) =
      other_chunks e p f.locals kinds st (others ++ row_chunk u long new ∷ []) own
      (contents_added e p st.path others (row_chunk u long new ∷ []) (chunk_taken e p st.path all_of_it c takes own.contents) (no_cell e p st.path (row_chunk u long new) _ refl, tt))

pub steps_keep_types : StepsKeepTypes
steps_keep_types e p f kinds n m st su keeps leads own = step_keeps e p f kinds n st keeps own leads
