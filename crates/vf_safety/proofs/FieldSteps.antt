-- Steps of a body over locals and the fields of structs.
use Rattle.std.proofs.Common.{◌≡◌, ◌≢◌, ℕ, suc, ◌==◌, Bool, true, false, cond, not, List, [], ◌∷◌, ◌++◌, length, slice_get, Option, Some, None, refl, sym, ap, subst, subst₂, ◌∙◌, inl, inr}
use Rattle.std.specs.Prelude.{IsTrue}
use Rattle.std.specs.FinMap as finite
use Rattle.std.proofs.lemmas.Bool.{cases_Bool}
use Rattle.vf_base.specs.declared.place.Place.{Place}
use Rattle.vf_tree.specs.Core.{Identity, Field, TypeTree, Void, ExpressionTree, Comparison, Set, Load, Store, Allocate, Free, If, FunctionTree, ProgramTree, NotEqual}
use Rattle.vf_model.specs.declared.words.FaultKind.{FaultKind}
use Rattle.vf_model.specs.Values.{Dyadic, Value, compares}
use Rattle.vf_model.specs.Values as values
use Rattle.vf_model.specs.Memory.{block_at, granted_block, written}
use Rattle.vf_model.specs.State.{Frame, Thread, State, at_step, with_local, with_frames, over_memory, sets}
use Rattle.vf_model.specs.Evaluation.{Gives}
use Rattle.vf_model.specs.Acts.{Touch, Goes, Touches, Allocates, Faults, given}
use Rattle.vf_model.specs.Accesses.{touch_of, field_count, new_struct}
use Rattle.vf_meaning.specs.Fractions.{whole, IsPositive}
use Rattle.vf_meaning.specs.Ghost.{Pointers, Numbered, Null, Not, Compare}
use Rattle.vf_meaning.specs.Valuations.{Valuation, bound}
use Rattle.vf_meaning.specs.GhostValues.{compared}
use Rattle.vf_meaning.specs.Assertions.{ContractTree, Environment}
use Rattle.vf_meaning.specs.Sorts.{HasSort}
use Rattle.vf_meaning.specs.Parts.{Location, FieldCell, Content, CellOf, Part, nothing, single, IsSum}
use Rattle.vf_meaning.specs.Fits.{Fits}
use Rattle.vf_meaning.specs.Chunks.{start_of, CellMeets}
use Rattle.vf_meaning.proofs.Parts.{sums_turn, nothing_is_neutral, in_left, in_right, single_here}
use Rattle.vf_meaning.proofs.FitSteps.{fields_are_written, blocks_are_freed}
use Rattle.vf_rules.specs.Terms.{Term}
use Rattle.vf_rules.specs.States.{Fact, Holds, OfSort, Of, SymbolicChunk, SymbolicState, value_in, IsMet, Meets, HeadMeans, ChunkMeans, ChunksMean, LocalsMean, StoreMeans, StandsFor, Entails, Infeasible, assuming, assuming_all, with_chunks}
use Rattle.vf_rules.specs.States as states
use Rattle.vf_rules.specs.Fresh.{symbol, IsFresh}
use Rattle.vf_rules.specs.Types.{facts_of_type, type_of_field, IsTypedPart}
use Rattle.vf_rules.specs.Take.{same, Takes, Removes}
use Rattle.vf_rules.specs.Consume.{EntailsAll}
use Rattle.vf_rules.specs.Evaluate.{Evaluates, IsOfC}
use Rattle.vf_rules.specs.Accept.{all_of_it, receiving, cell_chunk, new_chunks, TakesFields, facts_of_types, facts_of_result, call_store, HasContract, AreFixed, KeepsFixed, Accepts, do_set, do_if, do_load, do_store, do_allocate, do_free_null, do_free, do_call, do_return, do_leave, may_drop, may_change, may_open, may_close, IsOneOf, may_enter, may_repeat, may_know, may_split, may_leak, do_abort, do_put_char, do_print_int, do_call_pointer, do_prelude, pointer_store}
use Rattle.vf_model.specs.Values.{number_of}
use Rattle.vf_rules.specs.Accept as accept
use Rattle.vf_rules.proofs.Terms.{own_symbol}
use Rattle.vf_rules.proofs.Stands.{stands_fresh, assuming_all_stands, assuming_stands, chunks_more}
use Rattle.vf_rules.proofs.Takes.{same_value, takes_parted, removes_parted}
use Rattle.vf_rules.proofs.Evaluates.{evaluates}
use Rattle.vf_safety.specs.Safe.{Duties, Within, IsShaped, no_exchange, Went, Safe}
use Rattle.vf_safety.proofs.Steps.{in_call, Here, turn_of, known_beside, apart, together, secure, went_local, went_over, local_secure, reading_secure, writing_secure, typed_sum, typed_single, typed_of_left, typed_of_right}
use Rattle.vf_safety.proofs.Cells.{field_there, the_cell, load_act, store_act, touched, store_unshared, store_unmoved, other_field, whole_of, written_shaped}
use Rattle.vf_safety.proofs.Allocations.{new_struct_means, takes_fields, granted_free, struct_shaped, struct_unshared, struct_added, struct_there, free_act, free_null_act, removed_shaped, removed_unshared, removed_unmoved, struct_unmoved, known_struct, freed_owned}
use Rattle.vf_safety.proofs.Typing.{may_is, type_back, all_entailed, compares_terms}
use Rattle.vf_safety.proofs.Ready.{Ready, here, later, positive_whole, if_act, with_locals}

module _ (e : Environment) (p : ProgramTree) (t : ℕ) (duty : Duties) (f : FunctionTree) (k : ContractTree) where
  -- ---- one lemma a rule
  pub set_safe : (n : ℕ) (st : SymbolicState) (m : ℕ) (frame : Frame) (callers : Thread) (own : Part) (x : ℕ) (a : ExpressionTree) (next : ℕ) (u : Term) → (r : Ready e p t duty f k n st (suc m) frame callers own) → slice_get f.steps n ≡ Some (Set x a next)
      → Evaluates e st.path st.locals a u
      → (Ready e p t duty f k next (accept.with_local st x u) m (at_step (with_local frame x (value_in e r.symbols u)) next) callers own → Safe e p t duty m (at_step (with_local frame x (value_in e r.symbols u)) next ∷ callers) own)
      → Safe e p t duty (suc m) (frame ∷ callers) own
  set_safe n st m frame callers own x a next u r is ev go s rest all going frames within sums fits typed shaped =
      let value = evaluates e r.symbols st.path st.locals frame.locals a u ev (r.stands).path (r.stands).locals_mean in
      local_secure e p t duty (λ u ds. Safe e p u ds m) s f frame callers (Set x a next) (at_step (with_local frame x (value_in e r.symbols u)) next ∷ callers) own rest all
      (here e p t duty f k n st (suc m) frame callers own s (Set x a next) r is going frames) tt tt (in_call within)
      (ap (λ z. given z (λ w. Goes (sets (turn_of s t frame callers) x w next))) value) sums fits typed shaped
      (go (later e p t duty f k n next st (accept.with_local st x u) m frame callers own own r r.symbols _ r.part (with_locals e r.symbols st frame.locals r.names r.part x u _ refl r.stands) r.typed r.sums))

  pub if_safe : (n : ℕ) (st : SymbolicState) (m : ℕ) (frame : Frame) (callers : Thread) (own : Part) (c : Comparison) (a b : ExpressionTree) (y_step n_step : ℕ) (u w : Term) → (r : Ready e p t duty f k n st (suc m) frame callers own)
      → slice_get f.steps n ≡ Some (If c a b y_step n_step) → Evaluates e st.path st.locals a u → Evaluates e st.path st.locals b w → IsOfC e st.path u → IsOfC e st.path w
      → (Ready e p t duty f k y_step (assuming st (Holds (Compare c u w))) m (at_step frame y_step) callers own → Safe e p t duty m (at_step frame y_step ∷ callers) own)
      → (Ready e p t duty f k n_step (assuming st (Holds (Not (Compare c u w)))) m (at_step frame n_step) callers own → Safe e p t duty m (at_step frame n_step ∷ callers) own)
      → Safe e p t duty (suc m) (frame ∷ callers) own
  if_safe n st m frame callers own c a b y_step n_step u w r is ea eb ca cb yes_go no_go s rest all going frames within sums fits typed shaped =
      let v = r.symbols in
      let left = evaluates e v st.path st.locals frame.locals a u ea (r.stands).path (r.stands).locals_mean in
      let right = evaluates e v st.path st.locals frame.locals b w eb (r.stands).path (r.stands).locals_mean in
      let at = here e p t duty f k n st (suc m) frame callers own s (If c a b y_step n_step) r is going frames in
      let same_test = compares_terms e v st.path c u w ca cb (r.stands).path in
      elim (cases_Bool (compared c (value_in e v u) (value_in e v w))) [
        | inl yes1 ↦
            local_secure e p t duty (λ u ds. Safe e p u ds m) s f frame callers (If c a b y_step n_step) (at_step frame y_step ∷ callers) own rest all at tt tt (in_call within)
            (if_act p s t frame callers c a b y_step n_step _ _ true left right (same_test ∙ yes1)) sums fits typed shaped
            (yes_go (later e p t duty f k n y_step st (assuming st (Holds (Compare c u w))) m frame callers own own r v frame.locals r.part (assuming_stands e v st frame.locals r.names r.part (Holds (Compare c u w)) yes1 r.stands) r.typed r.sums))
        | inr no1 ↦
            local_secure e p t duty (λ u ds. Safe e p u ds m) s f frame callers (If c a b y_step n_step) (at_step frame n_step ∷ callers) own rest all at tt tt (in_call within)
            (if_act p s t frame callers c a b y_step n_step _ _ false left right (same_test ∙ no1)) sums fits typed shaped
            (no_go (later e p t duty f k n n_step st (assuming st (Holds (Not (Compare c u w)))) m frame callers own own r v frame.locals r.part
            (assuming_stands e v st frame.locals r.names r.part (Holds (Not (Compare c u w))) (not_true (compared c (value_in e v u) (value_in e v w)) no1) r.stands) r.typed r.sums))
      ]
    where
      not_true : (b : Bool) → b ≡ false → not b ≡ true
      not_true b h = ap not h

  -- what is known of the cell of a chunk
  record CellOwned (v : Valuation) (field : Field) (u : Term) (content : Option Term) (x : Dyadic) (q : Part) : Type 0 where
    block : ℕ
    begins : value_in e v u ≡ start_of block
    holds : Option Value
    meets : (z : Term) → content ≡ Some z → holds ≡ Some (value_in e v z)
    owns : q ≡ single (FieldCell block field.structure field.index) (CellOf holds) x
    positive : IsPositive x

  cell_owned : (v : Valuation) (field : Field) (u : Term) (content : Option Term) (c : SymbolicChunk) (q : Part) → ChunkMeans e v c q → c.head ≡ states.CellOf field → c.arguments ≡ Some u ∷ content ∷ [] → (x : Dyadic) × CellOwned v field u content x q
  cell_owned v field u content c q m head arguments =
      let cell = subst₂ (λ h ts. HeadMeans e v m.fraction h ts q) head arguments m.head in
      (m.fraction, record { block = cell.block; begins = cell.begins; holds = cell.holds; meets = λ z is. subst (λ o. CellMeets (states.wanted_in e v o) cell.holds) is cell.meets; owns = cell.owns; positive = m.positive })

  there_in : (v : Valuation) (field : Field) (u : Term) (content : Option Term) (x : Dyadic) (q : Part) → (c : CellOwned v field u content x q) → IsPositive (q (FieldCell c.block field.structure field.index) (CellOf c.holds))
  there_in v field u content x q c = subst IsPositive (sym (ap (λ z. z (FieldCell c.block field.structure field.index) (CellOf c.holds)) c.owns ∙ single_here (FieldCell c.block field.structure field.index) (CellOf c.holds) x)) c.positive

  pub load_safe : (n : ℕ) (st : SymbolicState) (m : ℕ) (frame : Frame) (callers : Thread) (own : Part) (x : ℕ) (a : ExpressionTree) (field : Field) (place : Place) (next : ℕ) (u z content : Term) (c : SymbolicChunk) (others : List SymbolicChunk)
      → (r : Ready e p t duty f k n st (suc m) frame callers own) → slice_get f.steps n ≡ Some (Load x a field place next) → Evaluates e st.path st.locals a u → Removes c st.chunks others → c.head ≡ states.CellOf field
      → c.arguments ≡ Some z ∷ Some content ∷ [] → Entails e st.path (same u z)
      → (Ready e p t duty f k next (accept.with_local st x content) m (at_step (with_local frame x (value_in e r.symbols content)) next) callers own → Safe e p t duty m (at_step (with_local frame x (value_in e r.symbols content)) next ∷ callers) own)
      → Safe e p t duty (suc m) (frame ∷ callers) own
  load_safe n st m frame callers own x a field place next u z content c others r is ev taken head arguments equal go s rest all going frames within sums fits typed shaped =
      let v = r.symbols in
      let o = removes_parted e v c taken r.part (r.stands).chunks_mean in
      let owned = cell_owned v field z (Some content) c o.off o.chunk head arguments in
      let cell = owned.1 in
      let b = cell.block in
      let w = value_in e v content in
      let holds : cell.holds ≡ Some w = cell.meets content refl in
      let l = FieldCell b field.structure field.index in
      let in_off = subst (λ h. IsPositive (o.off l (CellOf h))) holds (there_in v field z (Some content) owned.0 o.off cell) in
      let in_own = in_left r.part r.kept own r.sums l (CellOf (Some w)) (in_left o.off o.left r.part o.sums l (CellOf (Some w)) in_off) in
      let there_now = field_there all s.memory b field (Some w) fits (in_left own rest all sums l (CellOf (Some w)) in_own) in
      let value = evaluates e v st.path st.locals frame.locals a u ev (r.stands).path (r.stands).locals_mean ∙ ap Gives (same_value e v u z (equal.by v (r.stands).path) ∙ cell.begins) in
      reading_secure e p t duty (λ u ds. Safe e p u ds m) s f frame callers (Load x a field place next) (touch_of (the_cell b field) false place) (at_step (with_local frame x w) next ∷ callers) own rest all
      (here e p t duty f k n st (suc m) frame callers own s (Load x a field place next) r is going frames) tt tt (in_call within) (load_act p s t frame callers x a field place next b w value there_now) sums fits typed shaped
      (λ d k covers at. (CellOf (Some w), subst (λ i. IsPositive (own i (CellOf (Some w)))) (touched s.memory b field (Some w) false place d k there_now covers at) in_own))
      (go (later e p t duty f k n next st (accept.with_local st x content) m frame callers own own r v _ r.part (with_locals e v st frame.locals r.names r.part x content w refl r.stands) r.typed r.sums))

  fraction_same : {x y : Dyadic} → values.Fraction x ≡ values.Fraction y → x ≡ y
  fraction_same h = cc

  -- the chunk of a whole cell
  cell_means : (v : Valuation) (field : Field) (u : Term) (w : Term) (b : ℕ) → value_in e v u ≡ start_of b → ChunkMeans e v (cell_chunk field u (Some w)) (single (FieldCell b field.structure field.index) (CellOf (Some (value_in e v w))) whole)
  cell_means v field u w b is = record { fraction = whole; share = refl; positive = positive_whole; head = record { block = b; begins = is; holds = Some (value_in e v w); meets = refl; owns = refl } }

  one_mean : (v : Valuation) (c : SymbolicChunk) (q : Part) → ChunkMeans e v c q → ChunksMean e v (c ∷ []) q
  one_mean v c q h = (q, nothing, sums_turn nothing q q (nothing_is_neutral q), h, refl)

  pub store_safe : (n : ℕ) (st : SymbolicState) (m : ℕ) (frame : Frame) (callers : Thread) (own : Part) (a b : ExpressionTree) (field : Field) (place : Place) (next : ℕ) (u z w : Term) (old : Option Term) (c : SymbolicChunk) (others : List SymbolicChunk)
      → (r : Ready e p t duty f k n st (suc m) frame callers own) → slice_get f.steps n ≡ Some (Store a field b place next) → Evaluates e st.path st.locals a u → Evaluates e st.path st.locals b w
      → Takes e st.path all_of_it c st.chunks others → c.head ≡ states.CellOf field → c.arguments ≡ Some z ∷ old ∷ [] → Entails e st.path (same u z)
      → ((type : TypeTree) → type_of_field p field.structure field.index ≡ Some type → EntailsAll e st.path (facts_of_type type w) × (type ≢ Void))
      → ((own' : Part) → Ready e p t duty f k next (with_chunks st (others ++ cell_chunk field u (Some w) ∷ [])) m (at_step frame next) callers own' → Safe e p t duty m (at_step frame next ∷ callers) own')
      → Safe e p t duty (suc m) (frame ∷ callers) own
  unfolding cell_owned
  store_safe n st m frame callers own a b field place next u z w old c others r is ea eb taken head arguments equal types go s rest all going frames within sums fits typed shaped =
      let v = r.symbols in
      let o = takes_parted e v st.path all_of_it c taken (r.stands).path r.part (r.stands).chunks_mean in
      let owned = cell_owned v field z old (record c { share = all_of_it }) o.off o.chunk head arguments in
      let cell = owned.1 in
      let d = cell.block in
      let l = FieldCell d field.structure field.index in
      let full : owned.0 ≡ whole = fraction_same (sym (o.chunk).share) in
      let off_is : o.off ≡ single l (CellOf cell.holds) whole = cell.owns ∙ ap (λ x. single l (CellOf cell.holds) x) full in
      let inner = apart o.off o.left r.part r.kept own o.sums r.sums in
      let outer = apart o.off inner.0 own rest all inner.2 sums in
      let here_now = in_left o.off outer.0 all outer.2 l (CellOf cell.holds) (there_in v field z old owned.0 o.off cell) in
      let there_now = field_there all s.memory d field cell.holds fits here_now in
      let new_value = value_in e v w in
      let written_now = fields_are_written s.memory d field.index field.structure cell.holds new_value outer.0 (record { all = all; sums = subst (λ x. IsSum x outer.0 all) off_is outer.2; fits = fits }) in
      let new = single l (CellOf (Some new_value)) whole in
      let back = together new inner.0 rest outer.0 written_now.all outer.1 written_now.sums in
      let inside = together new o.left r.kept inner.0 back.0 inner.1 back.1 in
      let pointer_is : value_in e v u ≡ start_of d = same_value e v u z (equal.by v (r.stands).path) ∙ cell.begins in
      let typed_new = typed_single e p l (CellOf (Some new_value)) whole (λ type known. may_is type new_value (types type known).1 (type_back e v type w (all_entailed e st.path _ (types type known).0 v (r.stands).path))) in
      let typed_all = typed_sum e p new outer.0 written_now.all written_now.sums typed_new (typed_of_right e p o.off outer.0 all outer.2 typed) in
      let typed_own = typed_of_left e p back.0 rest written_now.all back.2 typed_all in
      let at_pointer = evaluates e v st.path st.locals frame.locals a u ea (r.stands).path (r.stands).locals_mean ∙ ap Gives pointer_is in
      let at_value = evaluates e v st.path st.locals frame.locals b w eb (r.stands).path (r.stands).locals_mean in
      let chunks_now = chunks_more e v others (cell_chunk field u (Some w) ∷ []) o.left new inside.0 o.chunks_mean (one_mean v (cell_chunk field u (Some w)) new (cell_means v field u w d pointer_is)) inside.1 in
      let own_whole : (l' : Location) → l ≡ l' → (c0 : Content) × (own l' c0 ≡ whole) = λ l' same_l. (CellOf cell.holds, whole_of o.off inner.0 own rest all s.memory l l' (CellOf cell.holds) same_l off_is inner.2 sums fits) in
      writing_secure e p t duty (λ u ds. Safe e p u ds m) s f frame callers (Store a field b place next) (touch_of (the_cell d field) true place) (at_step frame next ∷ callers) (written s.memory (the_cell d field) new_value) own rest all back.0 written_now.all
      (here e p t duty f k n st (suc m) frame callers own s (Store a field b place next) r is going frames) tt tt (in_call within) (store_act p s t frame callers a b field place next d new_value cell.holds at_pointer at_value there_now)
      back.2 written_now.fits typed_all (written_shaped p s.memory d field cell.holds new_value there_now shaped)
      (record {
        unshared = λ d0 apart. store_unshared s.memory d field cell.holds new_value there_now d0;
        unmoved = λ d0 apart. store_unmoved s.memory d field cell.holds new_value there_now d0;
        known = λ k c0 shared apart h. known_beside l (CellOf (Some new_value)) whole outer.0 written_now.all k c0 (other_field d field k shared) written_now.sums (in_right o.off outer.0 all outer.2 k c0) h;
      })
      (λ d0 k covers at. own_whole k (touched s.memory d field cell.holds true place d0 k there_now covers at))
      (go back.0 (later e p t duty f k n next st (with_chunks st (others ++ cell_chunk field u (Some w) ∷ [])) m frame callers own back.0 r v frame.locals inside.0
      (record { path = (r.stands).path; locals_mean = (r.stands).locals_mean; names_mean = (r.stands).names_mean; chunks_mean = chunks_now }) typed_own inside.2))

  -- ---- allocation
  allocates_fault : {denied : State} {granted : ℕ → State} {kind : FaultKind} {place : Place} → Allocates denied granted ≡ Faults kind place → ⊥
  allocates_fault h = cc

  allocates_touch : {denied : State} {granted : ℕ → State} {touch : Touch} {new : State} {A : Type 0} → Allocates denied granted ≡ Touches touch new → A
  allocates_touch h = cc

  pointer_met : (v : Valuation) (y b : ℕ) → value_in e v (symbol y) ≡ start_of b → Meets e v (OfSort (symbol y) Pointers ∷ Holds (Compare NotEqual (symbol y) Null) ∷ [])
  pointer_met v y b is = (subst (λ w. HasSort e w Pointers) (sym is) (inl refl), (subst (λ w. IsTrue (compared NotEqual w values.Null)) (sym is) refl, tt))

  pub allocate_safe : (n : ℕ) (st : SymbolicState) (m : ℕ) (frame : Frame) (callers : Thread) (own : Part) (x : ℕ) (g : Identity) (next y : ℕ) → (r : Ready e p t duty f k n st (suc m) frame callers own) → slice_get f.steps n ≡ Some (Allocate x g next) → IsFresh y st
      → (Ready e p t duty f k next (accept.with_local st x Null) m (at_step (with_local frame x values.Null) next) callers own → Safe e p t duty m (at_step (with_local frame x values.Null) next ∷ callers) own)
      → ((b : ℕ) (own' : Part) → Ready e p t duty f k next (accept.with_local (assuming_all (with_chunks st (st.chunks ++ new_chunks g (symbol y) 0 (field_count p g))) (OfSort (symbol y) Pointers ∷ Holds (Compare NotEqual (symbol y) Null) ∷ [])) x (symbol y)) m (at_step (with_local frame x (start_of b)) next) callers own'
      → Safe e p t duty m (at_step (with_local frame x (start_of b)) next ∷ callers) own')
      → Safe e p t duty (suc m) (frame ∷ callers) own
  allocate_safe n st m frame callers own x g next y r is fresh denied_go granted_go s rest all going frames within sums fits typed shaped =
      let v = r.symbols in
      let at = here e p t duty f k n st (suc m) frame callers own s (Allocate x g next) r is going frames in
      let denied_frames = at_step (with_local frame x values.Null) next ∷ callers in
      let turn = turn_of s t frame callers in
      secure e p t duty (λ u ds. Safe e p u ds m) s f frame callers (Allocate x g next) own rest all
      (Allocates (with_frames turn denied_frames) (λ b. with_frames (over_memory turn (finite.insert s.memory b (new_struct p g))) (at_step (with_local frame x (start_of b)) next ∷ callers))) at tt refl
      (λ kind place h. allocates_fault h) (λ touch new c l h. allocates_touch h)
      (λ grant. elim (cases_Bool (grant == 0)) [
        | inl none ↦ subst (λ z. Went e p t (λ u ds. Safe e p u ds m) no_exchange duty s (cond z (with_frames turn denied_frames) (with_frames (over_memory turn (finite.insert s.memory (granted_block s.memory grant) (new_struct p g))) (at_step (with_local frame x (start_of (granted_block s.memory grant))) next ∷ callers))) rest all) (sym none)
            (went_local e p t duty (λ u ds. Safe e p u ds m) s f frame callers (Allocate x g next) denied_frames own rest all at tt tt (in_call within) sums fits typed shaped
            (denied_go (later e p t duty f k n next st (accept.with_local st x Null) m frame callers own own r v _ r.part (with_locals e v st frame.locals r.names r.part x Null values.Null refl r.stands) r.typed r.sums)))
        | inr some1 ↦ subst (λ z. Went e p t (λ u ds. Safe e p u ds m) no_exchange duty s (cond z (with_frames turn denied_frames) (with_frames (over_memory turn (finite.insert s.memory (granted_block s.memory grant) (new_struct p g))) (at_step (with_local frame x (start_of (granted_block s.memory grant))) next ∷ callers))) rest all) (sym some1)
            (granted n st m frame callers own x g next y r is fresh s rest all going frames within sums fits typed shaped at (granted_block s.memory grant) (granted_free s.memory grant) (granted_go (granted_block s.memory grant)))
      ])
    where
      granted : (n : ℕ) (st : SymbolicState) (m : ℕ) (frame : Frame) (callers : Thread) (own : Part) (x : ℕ) (g : Identity) (next y : ℕ) → (r : Ready e p t duty f k n st (suc m) frame callers own) → slice_get f.steps n ≡ Some (Allocate x g next) → IsFresh y st
          → (s : State) (rest all : Part) → s.end ≡ None → slice_get s.threads t ≡ Some (frame ∷ callers) → Within (suc (length callers)) duty → IsSum own rest all → Fits all s.memory → IsTypedPart e p all → IsShaped p s.memory
          → Here p s t f frame callers (Allocate x g next) → (b : ℕ) → block_at s.memory b ≡ None
          → ((own' : Part) → Ready e p t duty f k next (accept.with_local (assuming_all (with_chunks st (st.chunks ++ new_chunks g (symbol y) 0 (field_count p g))) (OfSort (symbol y) Pointers ∷ Holds (Compare NotEqual (symbol y) Null) ∷ [])) x (symbol y)) m (at_step (with_local frame x (start_of b)) next) callers own'
          → Safe e p t duty m (at_step (with_local frame x (start_of b)) next ∷ callers) own')
          → Went e p t (λ u ds. Safe e p u ds m) no_exchange duty s (with_frames (over_memory (turn_of s t frame callers) (finite.insert s.memory b (new_struct p g))) (at_step (with_local frame x (start_of b)) next ∷ callers)) rest all
      granted n st m frame callers own x g next y r is fresh s rest all going frames within sums fits typed shaped at b free go =
          let v1 = bound r.symbols (Numbered y) (start_of b) in
          let own_symbol_is : value_in e v1 (symbol y) ≡ start_of b = own_symbol r.symbols y (start_of b) in
          let new = new_struct_means e p v1 (symbol y) b g 0 (field_count p g) own_symbol_is in
          let added = struct_added p s.memory b g new.part all fits free new.owns in
          let back = together new.part own rest all added.all sums added.sums in
          let inside = together new.part r.part r.kept own back.0 r.sums back.1 in
          let stands1 = stands_fresh e r.symbols y (start_of b) st frame.locals r.names r.part fresh r.stands in
          let chunks_now = chunks_more e v1 st.chunks (new_chunks g (symbol y) 0 (field_count p g)) r.part new.part inside.0 stands1.chunks_mean new.means inside.1 in
          let st1 = with_chunks st (st.chunks ++ new_chunks g (symbol y) 0 (field_count p g)) in
          let stands2 = assuming_all_stands e v1 st1 frame.locals r.names inside.0 _ (pointer_met v1 y b own_symbol_is) (record { path = stands1.path; locals_mean = stands1.locals_mean; names_mean = stands1.names_mean; chunks_mean = chunks_now }) in
          let typed_all = typed_sum e p new.part all added.all added.sums new.typed typed in
          went_over e p t duty (λ u ds. Safe e p u ds m) s f frame callers (Allocate x g next) (at_step (with_local frame x (start_of b)) next ∷ callers) (finite.insert s.memory b (new_struct p g)) back.0 rest all added.all at tt tt (in_call within) back.2 added.fits typed_all
          (struct_shaped p s.memory b g shaped)
          (record { unshared = λ d0 apart. struct_unshared p s.memory b g d0; unmoved = λ d0 apart. struct_unmoved p s.memory b g free d0; known = λ k c0 shared apart h. known_struct new.part b g 0 (field_count p g) all added.all k c0 shared new.owns added.sums h })
          (go back.0 (later e p t duty f k n next st _ m frame callers own back.0 r v1 _ inside.0
          (with_locals e v1 (assuming_all st1 (OfSort (symbol y) Pointers ∷ Holds (Compare NotEqual (symbol y) Null) ∷ [])) frame.locals r.names inside.0 x (symbol y) (start_of b) own_symbol_is stands2)
          (typed_of_left e p back.0 rest added.all back.2 typed_all) inside.2))

  -- ---- release
  pub free_null_safe : (n : ℕ) (st : SymbolicState) (m : ℕ) (frame : Frame) (callers : Thread) (own : Part) (a : ExpressionTree) (g : Identity) (place : Place) (next : ℕ) (u : Term) → (r : Ready e p t duty f k n st (suc m) frame callers own) → slice_get f.steps n ≡ Some (Free a g place next)
      → Evaluates e st.path st.locals a u → Entails e st.path (same u Null) → (Ready e p t duty f k next st m (at_step frame next) callers own → Safe e p t duty m (at_step frame next ∷ callers) own) → Safe e p t duty (suc m) (frame ∷ callers) own
  free_null_safe n st m frame callers own a g place next u r is ev null go s rest all going frames within sums fits typed shaped =
      let v = r.symbols in
      let value = evaluates e v st.path st.locals frame.locals a u ev (r.stands).path (r.stands).locals_mean ∙ ap Gives (same_value e v u Null (null.by v (r.stands).path)) in
      local_secure e p t duty (λ u ds. Safe e p u ds m) s f frame callers (Free a g place next) (at_step frame next ∷ callers) own rest all (here e p t duty f k n st (suc m) frame callers own s (Free a g place next) r is going frames) tt tt (in_call within)
      (free_null_act p s t frame callers a g place next value) sums fits typed shaped
      (go (later e p t duty f k n next st st m frame callers own own r v frame.locals r.part r.stands r.typed r.sums))

  pub free_safe : (n : ℕ) (st : SymbolicState) (m : ℕ) (frame : Frame) (callers : Thread) (own : Part) (a : ExpressionTree) (g : Identity) (place : Place) (next : ℕ) (u : Term) (left : List SymbolicChunk) → (r : Ready e p t duty f k n st (suc m) frame callers own)
      → slice_get f.steps n ≡ Some (Free a g place next) → Evaluates e st.path st.locals a u → TakesFields e st.path g u 0 (field_count p g) st.chunks left
      → ((own' : Part) → Ready e p t duty f k next (with_chunks st left) m (at_step frame next) callers own' → Safe e p t duty m (at_step frame next ∷ callers) own') → Safe e p t duty (suc m) (frame ∷ callers) own
  free_safe n st m frame callers own a g place next u left r is ev taken go s rest all going frames within sums fits typed shaped =
      let v = r.symbols in
      let o = takes_fields e v st.path g u 0 (field_count p g) st.chunks left taken (r.stands).path r.part (r.stands).chunks_mean in
      let inner = apart o.part o.left r.part r.kept own o.sums r.sums in
      let outer = apart o.part inner.0 own rest all inner.2 sums in
      let there_now = struct_there p s.memory o.block g o.part outer.0 all outer.2 fits shaped o.owns in
      let value = evaluates e v st.path st.locals frame.locals a u ev (r.stands).path (r.stands).locals_mean ∙ ap Gives o.is in
      let freed = blocks_are_freed s.memory o.block _ o.part outer.0 (record { all = all; sums = outer.2; fits = fits }) there_now.block tt there_now.all_of in
      let typed_left = typed_of_right e p o.part outer.0 all outer.2 typed in
      writing_secure e p t duty (λ u ds. Safe e p u ds m) s f frame callers (Free a g place next) (record { block = o.block; cell = None; writes = true; place = place }) (at_step frame next ∷ callers) (finite.remove s.memory o.block) own rest all inner.0 outer.0
      (here e p t duty f k n st (suc m) frame callers own s (Free a g place next) r is going frames) tt tt (in_call within) (free_act p s t frame callers a g place next o.block there_now.cells value there_now.block)
      outer.1 freed typed_left (removed_shaped p s.memory o.block shaped)
      (record { unshared = λ d0 apart. removed_unshared s.memory o.block d0; unmoved = λ d0 apart. removed_unmoved s.memory o.block there_now.block d0; known = λ k c0 shared apart h. in_right o.part outer.0 all outer.2 k c0 h })
      (λ c l covers at. freed_owned p s.memory o.block g o.part inner.0 own rest all place inner.2 sums fits o.owns there_now c l covers at)
      (go inner.0 (later e p t duty f k n next st (with_chunks st left) m frame callers own inner.0 r v frame.locals o.left (record { path = (r.stands).path; locals_mean = (r.stands).locals_mean; names_mean = (r.stands).names_mean; chunks_mean = o.means })
      (typed_of_left e p inner.0 rest outer.0 outer.1 typed_left) inner.1))
