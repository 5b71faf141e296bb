-- Reads and writes of cells of arrays.
use Rattle.std.proofs.Common.{◌≡◌, ◌≢◌, ℕ, zero, suc, ◌+◌, slice_set, pos, true, false, List, [], ◌∷◌, ◌++◌, length, slice_get, Option, Some, refl, sym, ap, subst, ◌∙◌, inl, inr}
use Rattle.std.specs.FinMap as finite
use Rattle.vf_base.specs.declared.place.Place.{Place}
use Rattle.vf_tree.specs.Core.{Identity, ExpressionTree, FunctionTree, ProgramTree}
use Rattle.vf_model.specs.Values.{Dyadic, Value, compares}
use Rattle.vf_model.specs.Values as values
use Rattle.vf_model.specs.Memory.{block_at, written}
use Rattle.vf_model.specs.State.{Frame, Thread, State, at_step, with_local, with_frames, over_memory}
use Rattle.vf_model.specs.Evaluation.{Gives, evaluate}
use Rattle.vf_model.specs.Steps.{act_of}
use Rattle.vf_model.specs.Acts.{Touches, given}
use Rattle.vf_model.specs.Accesses.{touch_of}
use Rattle.vf_meaning.specs.Fractions.{whole, IsPositive}
use Rattle.vf_meaning.specs.Assertions.{ContractTree, Environment}
use Rattle.vf_meaning.specs.Parts.{Location, FieldCell, Content, CellOf, Part, nothing, single}
use Rattle.vf_meaning.specs.Chunks.{start_of, CellMeets}
use Rattle.vf_meaning.proofs.Parts.{sums_turn, nothing_is_neutral, in_left, in_right, single_here}
use Rattle.vf_rules.specs.Terms.{Term}
use Rattle.vf_rules.specs.States.{SymbolicChunk, SymbolicState, value_in, ChunkMeans, assuming_all, with_chunks}
use Rattle.vf_rules.specs.Types.{facts_of_type}
use Rattle.vf_rules.specs.Take.{same, Takes, Removes}
use Rattle.vf_rules.specs.Consume.{EntailsAll}
use Rattle.vf_rules.specs.Evaluate.{Evaluates}
use Rattle.vf_rules.specs.Accept.{all_of_it, receiving, cell_chunk, new_chunks, TakesFields, facts_of_types, facts_of_result, call_store, HasContract, AreFixed, KeepsFixed, Accepts, do_set, do_if, do_load, do_store, do_allocate, do_free_null, do_free, do_call, do_return, do_leave, may_drop, may_change, may_open, may_close, IsOneOf, may_enter, may_repeat, may_know, may_split, may_leak, do_abort, do_put_char, do_print_int, do_call_pointer, do_prelude, pointer_store}
use Rattle.vf_model.specs.Values.{number_of}
use Rattle.vf_rules.specs.Accept as accept
use Rattle.vf_rules.proofs.Stands.{assuming_all_stands, chunks_more}
use Rattle.vf_rules.proofs.Takes.{takes_parted, removes_parted}
use Rattle.vf_rules.proofs.Evaluates.{evaluates}
use Rattle.vf_safety.specs.Safe.{Duties, IsShaped, Safe}
use Rattle.vf_safety.proofs.Steps.{in_call, turn_of, known_beside, apart, together, reading_secure, writing_secure, typed_sum, typed_single, typed_of_left, typed_of_right}
use Rattle.vf_safety.proofs.Cells.{whole_of}
use Rattle.vf_safety.proofs.Typing.{may_is, type_back, all_entailed}
use Rattle.vf_safety.proofs.Ready.{Ready, here, later, positive_whole, with_locals}
use Rattle.std.specs.Prelude.{ℤ, ◌+ℤ◌}
use Rattle.std.proofs.lemmas.Bool.{cases_eq}
use Rattle.vf_tree.specs.Core.{Integer, LoadAt, StoreAt}
use Rattle.vf_base.specs.declared.int_type.IntType.TheVariants as int_types
use Rattle.vf_model.specs.Values.{number_of}
use Rattle.vf_model.specs.Memory.{Memory, Ints, Struct, element_cell, written_in}
use Rattle.vf_model.specs.Accesses.{loads, loads_content, stores}
use Rattle.vf_meaning.specs.Parts.{IndexCell, IntBlock, StructBlock, MutexAt, HeldAt, HandleAt}
use Rattle.vf_meaning.specs.Chunks.{IsRow, IsRowAt}
use Rattle.vf_meaning.specs.Chunks as row_chunks
use Rattle.vf_meaning.proofs.FitSteps.{indexes_are_written, block_here, block_elsewhere}
use Rattle.vf_rules.specs.States.{wanted_in}
use Rattle.vf_rules.specs.Types.{IsOfType}
use Rattle.vf_rules.specs.Arrays.{row_head, row_chunk, Finds, IsInside, IsItem, Becomes}
use Rattle.vf_rules.specs.Evaluate.{IsNumber}
use Rattle.vf_rules.proofs.Evaluates.{number_sort}
use Rattle.vf_rules.proofs.Produces.{type_met}
use Rattle.vf_safety.specs.Safe.{IsShared, IsSharedPlace}
use Rattle.vf_safety.proofs.Rows.{one_of_row, row_there, row_at, ElementThere, element_there, list_there, element, element_found, element_content}
use Rattle.vf_safety.proofs.Elements.{row_owned, row_owned_whole, located, item_there, becomes_meets, touched_element}

module _ (e : Environment) (p : ProgramTree) (t : ℕ) (duty : Duties) (f : FunctionTree) (k : ContractTree) where
  some_same : {A : Type 0} {x y : A} → Some x ≡ Some y → x ≡ y
  some_same h = cc

  -- ---- a cell is read
  load_at_act : (s : State) (frame : Frame) (callers : Thread) (x : ℕ) (a i : ExpressionTree) (place : Place) (next b o : ℕ) (z : ℤ) (n w : Value) → evaluate frame.locals a ≡ Gives (values.Pointer b z) → evaluate frame.locals i ≡ Gives n
      → ElementThere s.memory b o (Some w) → z +ℤ number_of n ≡ pos o
      → act_of p (turn_of s t frame callers) (LoadAt x a i place next) ≡ Touches (touch_of (element b o) false place) (with_frames (turn_of s t frame callers) (at_step (with_local frame x w) next ∷ callers))
  load_at_act s frame callers x a i place next b o z n w pointer index h at =
      let turn = turn_of s t frame callers in
      ap (λ r. given r (λ v. given (evaluate frame.locals i) (λ c. loads turn x place next (element_cell s.memory v (number_of c))))) pointer
      ∙ ap (λ r. given r (λ c. loads turn x place next (element_cell s.memory (values.Pointer b z) (number_of c)))) index
      ∙ ap (loads turn x place next) (element_found s.memory b o (Some w) z (number_of n) h at)
      ∙ ap (loads_content turn x (element b o) place next) (element_content s.memory b o (Some w) h)

  pub load_at_safe : (n : ℕ) (st : SymbolicState) (m : ℕ) (frame : Frame) (callers : Thread) (own : Part) (x : ℕ) (a i : ExpressionTree) (place : Place) (next : ℕ) (u j z long list index item : Term) (c : SymbolicChunk) (others : List SymbolicChunk)
      → (r : Ready e p t duty f k n st (suc m) frame callers own) → slice_get f.steps n ≡ Some (LoadAt x a i place next) → Evaluates e st.path st.locals a u → Evaluates e st.path st.locals i j → IsNumber e st.path j → Removes c st.chunks others → c.head ≡ row_head
      → c.arguments ≡ Some z ∷ Some long ∷ Some list ∷ [] → Finds e st.path u j z index → IsInside e st.path index long → IsItem e st.path list index item
      → (Ready e p t duty f k next (accept.with_local (assuming_all st (facts_of_type (Integer int_types.Int) item)) x item) m (at_step (with_local frame x (value_in e r.symbols item)) next) callers own → Safe e p t duty m (at_step (with_local frame x (value_in e r.symbols item)) next ∷ callers) own)
      → Safe e p t duty (suc m) (frame ∷ callers) own
  load_at_safe n st m frame callers own x a i place next u j z long list index item c others r is ea ei number taken head arguments finds inside item_is go s rest all going frames within sums fits typed shaped =
      let v = r.symbols in
      let path = (r.stands).path in
      let o = removes_parted e v c taken r.part (r.stands).chunks_mean in
      let (x0, owned) = row_owned e v z long (Some list) c o.off o.chunk head arguments in
      let loc = located e v st.path u j z index long (length owned.row) finds path number inside owned.long_is in
      let (held, there) = list_there owned.row loc.place loc.inside in
      let at = row_there x0 (value_in e v z) owned.row o.off loc.place held owned.is_row there in
      let b = at.block in
      let i0 = at.offset + loc.place in
      let up : (l : Location) (d : Content) → IsPositive (o.off l d) → IsPositive (own l d) = λ l d y. in_left r.part r.kept own r.sums l d (in_left o.off o.left r.part o.sums l d y) in
      let one = one_of_row x0 b at.offset owned.row loc.place held o.off at.is_row there in
      let el = element_there x0 b at.offset owned.row loc.place held o.off all s.memory owned.positive at.is_row there (λ l d y. in_left own rest all sums l d (up l d y)) fits in
      let w = value_in e v item in
      let held_is : held ≡ Some w = item_there e v st.path list index item owned.row loc.place held item_is path owned.meets loc.is there in
      let el_w = subst (ElementThere s.memory b i0) held_is el in
      let in_own : IsPositive (own (IndexCell b i0) (CellOf (Some w))) = subst (λ h. IsPositive (own (IndexCell b i0) (CellOf h))) held_is
      (up (IndexCell b i0) (CellOf held) (in_left (single (IndexCell b i0) (CellOf held) x0) one.rest o.off one.sums (IndexCell b i0) (CellOf held) (subst IsPositive (sym (single_here (IndexCell b i0) (CellOf held) x0)) owned.positive))) in
      let of_type : IsOfType (Integer int_types.Int) w = typed (IndexCell b i0) (CellOf (Some w)) (in_left own rest all sums (IndexCell b i0) (CellOf (Some w)) in_own) in
      let (zp, pointer_is, sum_is) = loc.reached b at.offset at.begins in
      let pointer = evaluates e v st.path st.locals frame.locals a u ea path (r.stands).locals_mean ∙ ap Gives pointer_is in
      let index_value = evaluates e v st.path st.locals frame.locals i j ei path (r.stands).locals_mean in
      let stands1 = assuming_all_stands e v st frame.locals r.names r.part (facts_of_type (Integer int_types.Int) item) (type_met e v (Integer int_types.Int) item w refl of_type) r.stands in
      reading_secure e p t duty (λ y ds. Safe e p y ds m) s f frame callers (LoadAt x a i place next) (touch_of (element b i0) false place) (at_step (with_local frame x w) next ∷ callers) own rest all
      (here e p t duty f k n st (suc m) frame callers own s (LoadAt x a i place next) r is going frames) tt tt (in_call within) (load_at_act s frame callers x a i place next b i0 zp (value_in e v j) w pointer index_value el_w sum_is) sums fits typed shaped
      (λ d l covers found. (CellOf (Some w), subst (λ q. IsPositive (own q (CellOf (Some w)))) (touched_element s.memory b i0 (Some w) false place d l el_w covers found) in_own))
      (go (later e p t duty f k n next st (accept.with_local (assuming_all st (facts_of_type (Integer int_types.Int) item)) x item) m frame callers own own r v _ r.part
      (with_locals e v (assuming_all st (facts_of_type (Integer int_types.Int) item)) frame.locals r.names r.part x item w refl stands1) r.typed r.sums))

  -- ---- a cell is written
  store_at_act : (s : State) (frame : Frame) (callers : Thread) (a i c : ExpressionTree) (place : Place) (next b o : ℕ) (z : ℤ) (n w : Value) (held : Option Value) → evaluate frame.locals a ≡ Gives (values.Pointer b z) → evaluate frame.locals i ≡ Gives n → evaluate frame.locals c ≡ Gives w
      → ElementThere s.memory b o held → z +ℤ number_of n ≡ pos o
      → act_of p (turn_of s t frame callers) (StoreAt a i c place next) ≡ Touches (touch_of (element b o) true place) (with_frames (over_memory (turn_of s t frame callers) (written s.memory (element b o) w)) (at_step frame next ∷ callers))
  store_at_act s frame callers a i c place next b o z n w held pointer index value h at =
      let turn = turn_of s t frame callers in
      ap (λ r. given r (λ v. given (evaluate frame.locals i) (λ d. given (evaluate frame.locals c) (λ y. stores turn y place next (element_cell s.memory v (number_of d)))))) pointer
      ∙ ap (λ r. given r (λ d. given (evaluate frame.locals c) (λ y. stores turn y place next (element_cell s.memory (values.Pointer b z) (number_of d))))) index
      ∙ ap (λ r. given r (λ y. stores turn y place next (element_cell s.memory (values.Pointer b z) (number_of n)))) value
      ∙ ap (stores turn w place next) (element_found s.memory b o held z (number_of n) h at)

  -- after a write the mutexes and handles are as before, and structs too
  ints_written : (m : Memory) (b i : ℕ) (held : Option Value) (w : Value) → (h : ElementThere m b i held) → written m (element b i) w ≡ finite.insert m b (Ints (slice_set h.cells i (Some w)))
  ints_written m b i held w h = ap (written_in m (element b i) w) h.block

  element_unshared : (m : Memory) (b i : ℕ) (held : Option Value) (w : Value) → ElementThere m b i held → (d : ℕ) → IsShared (block_at (written m (element b i) w) d) → block_at (written m (element b i) w) d ≡ block_at m d
  element_unshared m b i held w h d shared =
      let now = ints_written m b i held w h in
      elim (cases_eq d b) [
        | inl same ↦ absurd (subst IsShared (ap (λ z. block_at z d) now ∙ ap (block_at _) same ∙ block_here m b (Ints (slice_set h.cells i (Some w)))) shared)
        | inr other ↦ ap (λ z. block_at z d) now ∙ block_elsewhere m b d (Ints (slice_set h.cells i (Some w))) other
      ]

  element_unmoved : (m : Memory) (b i : ℕ) (held : Option Value) (w : Value) → ElementThere m b i held → (d : ℕ) → IsShared (block_at m d) → block_at (written m (element b i) w) d ≡ block_at m d
  element_unmoved m b i held w h d shared =
      let now = ints_written m b i held w h in
      elim (cases_eq d b) [
        | inl same ↦ absurd (subst IsShared (ap (block_at m) same ∙ h.block) shared)
        | inr other ↦ ap (λ z. block_at z d) now ∙ block_elsewhere m b d (Ints (slice_set h.cells i (Some w))) other
      ]

  no_struct : {g : Identity} {cells row : List (Option Value)} → Some (Ints row) ≡ Some (Struct g cells) → ⊥
  no_struct h = cc

  element_shaped : (m : Memory) (b i : ℕ) (held : Option Value) (w : Value) → ElementThere m b i held → IsShaped p m → IsShaped p (written m (element b i) w)
  element_shaped m b i held w h shaped d g cells is =
      let now = ints_written m b i held w h in
      elim (cases_eq d b) [
        | inl same ↦ absurd (no_struct (sym (block_here m b (Ints (slice_set h.cells i (Some w)))) ∙ ap (block_at _) (sym same) ∙ ap (λ z. block_at z d) (sym now) ∙ is))
        | inr other ↦ shaped d g cells (sym (block_elsewhere m b d (Ints (slice_set h.cells i (Some w))) other) ∙ ap (λ z. block_at z d) (sym now) ∙ is)
      ]

  other_index : (b i : ℕ) (l : Location) → IsSharedPlace l → l ≢ IndexCell b i
  other_index b i (MutexAt c) shared h = cc
  other_index b i (HandleAt c) shared h = cc
  other_index b i (FieldCell c g j) shared h = absurd shared
  other_index b i (IndexCell c j) shared h = absurd shared
  other_index b i (StructBlock c g) shared h = absurd shared
  other_index b i (IntBlock c) shared h = absurd shared
  other_index b i (HeldAt c) shared h = absurd shared

  set_long : (xs : List (Option Value)) (i : ℕ) (y : Option Value) → length (slice_set xs i y) ≡ length xs
  set_long [] i y = refl
  set_long (x ∷ xs) zero y = refl
  set_long (x ∷ xs) (suc i) y = ap suc (set_long xs i y)

  fraction_same : {x y : Dyadic} → values.Fraction x ≡ values.Fraction y → x ≡ y
  fraction_same h = cc

  pub store_at_safe : (n : ℕ) (st : SymbolicState) (m : ℕ) (frame : Frame) (callers : Thread) (own : Part) (a i b : ExpressionTree) (place : Place) (next : ℕ) (u j y z long index : Term) (content new : Option Term) (c : SymbolicChunk) (others : List SymbolicChunk)
      → (r : Ready e p t duty f k n st (suc m) frame callers own) → slice_get f.steps n ≡ Some (StoreAt a i b place next) → Evaluates e st.path st.locals a u → Evaluates e st.path st.locals i j → Evaluates e st.path st.locals b y → IsNumber e st.path j
      → EntailsAll e st.path (facts_of_type (Integer int_types.Int) y) → Takes e st.path all_of_it c st.chunks others → c.head ≡ row_head → c.arguments ≡ Some z ∷ Some long ∷ content ∷ [] → Finds e st.path u j z index → IsInside e st.path index long
      → Becomes e st.path long index y content new
      → ((own' : Part) → Ready e p t duty f k next (with_chunks st (others ++ row_chunk z long new ∷ [])) m (at_step frame next) callers own' → Safe e p t duty m (at_step frame next ∷ callers) own')
      → Safe e p t duty (suc m) (frame ∷ callers) own
  store_at_safe n st m frame callers own a i b place next u j y z long index content new c others r is ea ei eb number facts taken head arguments finds inside becomes go s rest all going frames within sums fits typed shaped =
      let v = r.symbols in
      let path = (r.stands).path in
      let o = takes_parted e v st.path all_of_it c taken path r.part (r.stands).chunks_mean in
      let owned = row_owned_whole e v z long content c o.off o.chunk head arguments in
      let loc = located e v st.path u j z index long (length owned.row) finds path number inside owned.long_is in
      let (held, there) = list_there owned.row loc.place loc.inside in
      let at = row_there whole (value_in e v z) owned.row o.off loc.place held owned.is_row there in
      let d = at.block in
      let i0 = at.offset + loc.place in
      let l = IndexCell d i0 in
      let one = one_of_row whole d at.offset owned.row loc.place held o.off at.is_row there in
      let old = single l (CellOf held) whole in
      let inner = apart o.off o.left r.part r.kept own o.sums r.sums in
      let outer = apart o.off inner.0 own rest all inner.2 sums in
      let beyond = apart old one.rest o.off outer.0 all one.sums outer.2 in
      let el = element_there whole d at.offset owned.row loc.place held o.off all s.memory positive_whole at.is_row there (λ q g h. in_left o.off outer.0 all outer.2 q g h) fits in
      let w = value_in e v y in
      let of_type : IsOfType (Integer int_types.Int) w = may_is (Integer int_types.Int) w (λ h. cc) (type_back e v (Integer int_types.Int) y (all_entailed e st.path (facts_of_type (Integer int_types.Int) y) facts v path)) in
      let (number_z, w_is) = number_sort e w ((facts.0).by v path) in
      let written_now = indexes_are_written s.memory d i0 held w beyond.0 (record { all = all; sums = beyond.2; fits = fits }) in
      let new_cell = single l (CellOf (Some w)) whole in
      let row_now = together new_cell one.rest outer.0 beyond.0 written_now.all beyond.1 written_now.sums in
      let back = together row_now.0 inner.0 rest outer.0 written_now.all outer.1 row_now.2 in
      let within_part = together row_now.0 o.left r.kept inner.0 back.0 inner.1 back.1 in
      let new_row = slice_set owned.row loc.place (Some w) in
      let typed_all = typed_sum e p new_cell beyond.0 written_now.all written_now.sums (typed_single e p l (CellOf (Some w)) whole of_type) (typed_of_right e p old beyond.0 all beyond.2 typed) in
      let typed_own = typed_of_left e p back.0 rest written_now.all back.2 typed_all in
      let (zp, pointer_is, sum_is) = loc.reached d at.offset at.begins in
      let pointer = evaluates e v st.path st.locals frame.locals a u ea path (r.stands).locals_mean ∙ ap Gives pointer_is in
      let index_value = evaluates e v st.path st.locals frame.locals i j ei path (r.stands).locals_mean in
      let value = evaluates e v st.path st.locals frame.locals b y eb path (r.stands).locals_mean in
      let which : row_chunks.RowMeets (wanted_in e v new) new_row = subst (λ q. row_chunks.RowMeets (wanted_in e v new) (slice_set owned.row loc.place (Some q))) (sym w_is)
      (becomes_meets e v st.path long index y content new owned.row loc.place becomes path owned.meets loc.is owned.long_is loc.inside number_z w_is) in
      let row_is : IsRowAt whole (value_in e v z) new_row row_now.0 = subst (λ q. IsRowAt whole q new_row row_now.0) (sym at.begins) (row_at whole d at.offset new_row row_now.0 (one.back (Some w) row_now.0 row_now.1)) in
      let row_means : ChunkMeans e v (row_chunk z long new) row_now.0 = record {
        fraction = whole;
        share = refl;
        positive = positive_whole;
        head = (0, (value_in e v z, new_row, refl, ap (λ q. values.Number (pos q)) (set_long owned.row loc.place (Some w)) ∙ sym owned.long_is, which, row_is));
      } in
      let chunks_now = chunks_more e v others (row_chunk z long new ∷ []) o.left row_now.0 within_part.0 o.chunks_mean (row_now.0, nothing, sums_turn nothing row_now.0 row_now.0 (nothing_is_neutral row_now.0), row_means, refl) within_part.1 in
      let mine = apart old one.rest o.off inner.0 own one.sums inner.2 in
      let own_whole : (l' : Location) → l ≡ l' → (c0 : Content) × (own l' c0 ≡ whole) = λ l' same_l. (CellOf held, whole_of old mine.0 own rest all s.memory l l' (CellOf held) same_l refl mine.2 sums fits) in
      writing_secure e p t duty (λ y ds. Safe e p y ds m) s f frame callers (StoreAt a i b place next) (touch_of (element d i0) true place) (at_step frame next ∷ callers) (written s.memory (element d i0) w) own rest all back.0 written_now.all
      (here e p t duty f k n st (suc m) frame callers own s (StoreAt a i b place next) r is going frames) tt tt (in_call within) (store_at_act s frame callers a i b place next d i0 zp (value_in e v j) w held pointer index_value value el sum_is)
      back.2 written_now.fits typed_all (element_shaped s.memory d i0 held w el shaped)
      (record {
        unshared = λ d0 other. element_unshared s.memory d i0 held w el d0;
        unmoved = λ d0 other. element_unmoved s.memory d i0 held w el d0;
        known = λ q c0 shared other h. known_beside l (CellOf (Some w)) whole beyond.0 written_now.all q c0 (other_index d i0 q shared) written_now.sums (in_right old beyond.0 all beyond.2 q c0) h;
      })
      (λ d0 q covers found. own_whole q (touched_element s.memory d i0 held true place d0 q el covers found))
      (go back.0 (later e p t duty f k n next st (with_chunks st (others ++ row_chunk z long new ∷ [])) m frame callers own back.0 r v frame.locals within_part.0
      (record { path = path; locals_mean = (r.stands).locals_mean; names_mean = (r.stands).names_mean; chunks_mean = chunks_now }) typed_own within_part.2))
