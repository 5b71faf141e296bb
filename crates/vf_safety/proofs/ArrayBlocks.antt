-- Allocation and release of arrays, and sums of pointers into them.
use Rattle.std.proofs.Common.{◌≡◌, ℕ, suc, ◌≤◌, pos, ◌==◌, true, cond, List, [], ◌∷◌, ◌++◌, length, slice_get, Option, Some, None, refl, sym, ap, subst, subst₂, ◌∙◌, inl, inr}
use Rattle.std.specs.Prelude.{IsTrue}
use Rattle.std.specs.FinMap as finite
use Rattle.std.proofs.lemmas.Bool.{cases_Bool}
use Rattle.vf_base.specs.declared.place.Place.{Place}
use Rattle.vf_tree.specs.Core.{ExpressionTree, Offset, AllocateInts, FreeInts, FunctionTree, ProgramTree, NotEqual, LessEqual}
use Rattle.vf_model.specs.declared.words.FaultKind.{FaultKind}
use Rattle.vf_model.specs.Values.{Dyadic, Value, number_of}
use Rattle.vf_model.specs.Values as values
use Rattle.vf_model.specs.Memory.{Ints, block_at, granted_block, unset_cells}
use Rattle.vf_model.specs.State.{Frame, Thread, State, at_step, with_local, with_frames, over_memory, sets}
use Rattle.vf_model.specs.Evaluation.{Gives, evaluate}
use Rattle.vf_model.specs.Acts.{Touch, Goes, Touches, Allocates, Faults}
use Rattle.vf_meaning.specs.Fractions.{whole, IsPositive}
use Rattle.vf_meaning.specs.Ghost.{Pointers, Numbered, Null, Number, PointerSum, Compare, Fraction}
use Rattle.vf_meaning.specs.Valuations.{Valuation, bound, further}
use Rattle.vf_meaning.specs.GhostValues.{compared}
use Rattle.vf_meaning.specs.Assertions.{ContractTree, Environment}
use Rattle.vf_meaning.specs.Sorts.{HasSort}
use Rattle.vf_meaning.specs.Parts.{Location, Content, IntBlock, LengthOf, Part, nothing, single, ◌⊕◌, IsSum}
use Rattle.vf_meaning.specs.Fits.{Fits}
use Rattle.vf_meaning.specs.Chunks.{IsRow, IsRowAt, start_of}
use Rattle.vf_meaning.proofs.Parts.{sums_turn, sums_regroup, nothing_is_neutral, in_left, in_right, single_here}
use Rattle.vf_meaning.proofs.FitSteps.{blocks_are_added, blocks_are_freed, new_sum}
use Rattle.vf_rules.specs.Terms.{Term}
use Rattle.vf_rules.specs.States.{Holds, OfSort, SymbolicChunk, SymbolicState, value_in, Meets, HeadMeans, ChunkMeans, Entails, assuming_all, with_chunks}
use Rattle.vf_rules.specs.Fresh.{symbol, IsFresh}
use Rattle.vf_rules.specs.Types.{IsTypedPart}
use Rattle.vf_rules.specs.Take.{same, Takes, Removes}
use Rattle.vf_rules.specs.Evaluate.{IsNumber, Evaluates}
use Rattle.vf_rules.specs.Arrays.{row_head, int_block_head, row_chunk, int_block_chunk}
use Rattle.vf_rules.specs.Accept.{all_of_it}
use Rattle.vf_rules.specs.Accept as accept
use Rattle.vf_rules.proofs.Terms.{own_symbol}
use Rattle.vf_rules.proofs.Stands.{stands_fresh, assuming_all_stands, chunks_more}
use Rattle.vf_rules.proofs.Takes.{same_value, takes_parted, removes_parted}
use Rattle.vf_rules.proofs.Evaluates.{evaluates}
use Rattle.vf_safety.specs.Safe.{Duties, Within, IsShaped, no_exchange, Went, Safe}
use Rattle.vf_safety.proofs.Steps.{in_call, Here, turn_of, apart, together, secure, went_local, went_over, local_secure, writing_secure, typed_sum, typed_single, typed_of_left, typed_of_right}
use Rattle.vf_safety.proofs.Allocations.{granted_free, removed_shaped, removed_unshared}
use Rattle.vf_safety.proofs.Ready.{Ready, here, later, positive_whole, with_locals}
use Rattle.vf_safety.proofs.Rows.{row_from, row_at, all_of_ints}
use Rattle.vf_safety.proofs.Elements.{row_owned, row_owned_whole, count_in, at_most}
use Rattle.vf_safety.proofs.IntBlocks.{unset_long, new_row, beside_block, known_ints, ints_shaped, ints_unshared, ints_unmoved, removed_ints_unmoved, ints_there, freed_ints_owned, allocate_ints_act, free_ints_act, free_ints_null_act, offset_nothing, offset_goes, offset_act}

module _ (e : Environment) (p : ProgramTree) (t : ℕ) (duty : Duties) (f : FunctionTree) (k : ContractTree) where
  gives_same : {y z : Value} → Gives y ≡ Gives z → y ≡ z
  gives_same h = cc

  pos_same : {m n : ℕ} → values.Number (pos m) ≡ values.Number (pos n) → m ≡ n
  pos_same h = cc

  fraction_same : {x y : Dyadic} → values.Fraction x ≡ values.Fraction y → x ≡ y
  fraction_same h = cc

  allocates_fault : {denied : State} {granted : ℕ → State} {kind : FaultKind} {place : Place} → Allocates denied granted ≡ Faults kind place → ⊥
  allocates_fault h = cc

  allocates_touch : {denied : State} {granted : ℕ → State} {touch : Touch} {new : State} {A : Type 0} → Allocates denied granted ≡ Touches touch new → A
  allocates_touch h = cc

  -- ---- allocation
  -- the state after an allocation that is granted, before its local is set
  abbrev pub with_array : SymbolicState → ℕ → Term → SymbolicState
  with_array st y u = assuming_all (with_chunks st (st.chunks ++ row_chunk (symbol y) u None ∷ int_block_chunk (symbol y) u ∷ [])) (OfSort (symbol y) Pointers ∷ Holds (Compare NotEqual (symbol y) Null) ∷ [])

  pointer_met : (v : Valuation) (y b : ℕ) → value_in e v (symbol y) ≡ start_of b → Meets e v (OfSort (symbol y) Pointers ∷ Holds (Compare NotEqual (symbol y) Null) ∷ [])
  pointer_met v y b is = (subst (λ w. HasSort e w Pointers) (sym is) (inl refl), (subst (λ w. IsTrue (compared NotEqual w values.Null)) (sym is) refl, tt))

  row_means : (v : Valuation) (y b len : ℕ) (u : Term) (q : Part) → value_in e v (symbol y) ≡ start_of b → value_in e v u ≡ values.Number (pos len) → IsRow whole b 0 (unset_cells len) q → ChunkMeans e v (row_chunk (symbol y) u None) q
  row_means v y b len u q at long is_row = record {
    fraction = whole;
    share = refl;
    positive = positive_whole;
    head = (0, (start_of b, unset_cells len, sym at, ap (λ z. values.Number (pos z)) (unset_long len) ∙ sym long, tt, row_at whole b 0 (unset_cells len) q is_row));
  }

  block_means : (v : Valuation) (y b len : ℕ) (u : Term) → value_in e v (symbol y) ≡ start_of b → value_in e v u ≡ values.Number (pos len)
      → ChunkMeans e v (int_block_chunk (symbol y) u) (single (IntBlock b) (LengthOf (length (unset_cells len))) whole)
  block_means v y b len u at long = record {
    fraction = whole;
    share = refl;
    positive = positive_whole;
    head = (0, record { block = b; size = length (unset_cells len); meet = (sym at, (ap (λ z. values.Number (pos z)) (unset_long len) ∙ sym long, tt)); owns = refl });
  }

  granted : (n : ℕ) (st : SymbolicState) (m : ℕ) (frame : Frame) (callers : Thread) (own : Part) (x : ℕ) (a : ExpressionTree) (place : Place) (next y len : ℕ) (u : Term) → (r : Ready e p t duty f k n st (suc m) frame callers own) → slice_get f.steps n ≡ Some (AllocateInts x a place next)
      → Evaluates e st.path st.locals a u → evaluate frame.locals a ≡ Gives (values.Number (pos len)) → IsFresh y st
      → (s : State) (rest all : Part) → IsSum own rest all → Within (suc (length callers)) duty → Fits all s.memory → IsTypedPart e p all → IsShaped p s.memory → Here p s t f frame callers (AllocateInts x a place next) → (b : ℕ) → block_at s.memory b ≡ None
      → ((own' : Part) → Ready e p t duty f k next (accept.with_local (with_array st y u) x (symbol y)) m (at_step (with_local frame x (start_of b)) next) callers own' → Safe e p t duty m (at_step (with_local frame x (start_of b)) next ∷ callers) own')
      → Went e p t (λ u ds. Safe e p u ds m) no_exchange duty s (with_frames (over_memory (turn_of s t frame callers) (finite.insert s.memory b (Ints (unset_cells len)))) (at_step (with_local frame x (start_of b)) next ∷ callers)) rest all
  granted n st m frame callers own x a place next y len u r is ev value fresh s rest all sums within fits typed shaped at b free go =
      let v1 = bound r.symbols (Numbered y) (start_of b) in
      let symbol_is : value_in e v1 (symbol y) ≡ start_of b = own_symbol r.symbols y (start_of b) in
      let stands1 = stands_fresh e r.symbols y (start_of b) st frame.locals r.names r.part fresh r.stands in
      let long : value_in e v1 u ≡ values.Number (pos len) = gives_same (sym (evaluates e v1 st.path st.locals frame.locals a u ev stands1.path stands1.locals_mean) ∙ value) in
      let row = unset_cells len in
      let new = new_row e p b 0 len in
      let block = single (IntBlock b) (LengthOf (length row)) whole in
      let q = block ⊕ new.part in
      let made : IsSum block new.part q = new_sum (IntBlock b) (LengthOf (length row)) whole new.part (beside_block b row new.part new.is_row) in
      let added = blocks_are_added s.memory b (Ints row) q all fits free (all_of_ints b row new.part q new.is_row made) in
      let back = together q own rest all added.all sums added.sums in
      let inside = together q r.part r.kept own back.0 r.sums back.1 in
      let chunks_now = chunks_more e v1 st.chunks (row_chunk (symbol y) u None ∷ int_block_chunk (symbol y) u ∷ []) r.part q inside.0 stands1.chunks_mean
      (new.part, block, sums_turn block new.part q made, row_means v1 y b len u new.part symbol_is long new.is_row, (block, nothing, sums_turn nothing block block (nothing_is_neutral block), block_means v1 y b len u symbol_is long, refl)) inside.1 in
      let st1 = with_chunks st (st.chunks ++ row_chunk (symbol y) u None ∷ int_block_chunk (symbol y) u ∷ []) in
      let stands2 = assuming_all_stands e v1 st1 frame.locals r.names inside.0 (OfSort (symbol y) Pointers ∷ Holds (Compare NotEqual (symbol y) Null) ∷ []) (pointer_met v1 y b symbol_is)
      (record { path = stands1.path; locals_mean = stands1.locals_mean; names_mean = stands1.names_mean; chunks_mean = chunks_now }) in
      let typed_all = typed_sum e p q all added.all added.sums (typed_sum e p block new.part q made (typed_single e p (IntBlock b) (LengthOf (length row)) whole tt) new.typed) typed in
      went_over e p t duty (λ u ds. Safe e p u ds m) s f frame callers (AllocateInts x a place next) (at_step (with_local frame x (start_of b)) next ∷ callers) (finite.insert s.memory b (Ints row)) back.0 rest all added.all at tt tt (in_call within) back.2 added.fits typed_all
      (ints_shaped p s.memory b row shaped)
      (record { unshared = λ d0 apart. ints_unshared s.memory b row d0; unmoved = λ d0 apart. ints_unmoved s.memory b row free d0; known = λ l c0 shared apart h. known_ints b (length row) row new.part q all added.all l c0 shared new.is_row made added.sums h })
      (go back.0 (later e p t duty f k n next st (accept.with_local (with_array st y u) x (symbol y)) m frame callers own back.0 r v1 _ inside.0
      (with_locals e v1 (with_array st y u) frame.locals r.names inside.0 x (symbol y) (start_of b) symbol_is stands2) (typed_of_left e p back.0 rest added.all back.2 typed_all) inside.2))

  pub allocate_ints_safe : (n : ℕ) (st : SymbolicState) (m : ℕ) (frame : Frame) (callers : Thread) (own : Part) (x : ℕ) (a : ExpressionTree) (place : Place) (next y : ℕ) (u : Term) → (r : Ready e p t duty f k n st (suc m) frame callers own)
      → slice_get f.steps n ≡ Some (AllocateInts x a place next) → Evaluates e st.path st.locals a u → IsNumber e st.path u → Entails e st.path (Holds (Compare LessEqual (Number (pos 0)) u)) → IsFresh y st
      → (Ready e p t duty f k next (accept.with_local st x Null) m (at_step (with_local frame x values.Null) next) callers own → Safe e p t duty m (at_step (with_local frame x values.Null) next ∷ callers) own)
      → ((b : ℕ) (own' : Part) → Ready e p t duty f k next (accept.with_local (with_array st y u) x (symbol y)) m (at_step (with_local frame x (start_of b)) next) callers own' → Safe e p t duty m (at_step (with_local frame x (start_of b)) next ∷ callers) own')
      → Safe e p t duty (suc m) (frame ∷ callers) own
  allocate_ints_safe n st m frame callers own x a place next y u r is ev number low fresh denied_go granted_go s rest all going frames within sums fits typed shaped =
      let v = r.symbols in
      let at = here e p t duty f k n st (suc m) frame callers own s (AllocateInts x a place next) r is going frames in
      let (len, long) = count_in e v st.path u number low (r.stands).path in
      let value = evaluates e v st.path st.locals frame.locals a u ev (r.stands).path (r.stands).locals_mean ∙ ap Gives long in
      let denied_frames = at_step (with_local frame x values.Null) next ∷ callers in
      let turn = turn_of s t frame callers in
      secure e p t duty (λ u ds. Safe e p u ds m) s f frame callers (AllocateInts x a place next) own rest all
      (Allocates (with_frames turn denied_frames) (λ b. with_frames (over_memory turn (finite.insert s.memory b (Ints (unset_cells len)))) (at_step (with_local frame x (start_of b)) next ∷ callers))) at tt (allocate_ints_act p s t frame callers x a place next len value)
      (λ kind place h. allocates_fault h) (λ touch new c l h. allocates_touch h)
      (λ grant. elim (cases_Bool (grant == 0)) [
        | inl none ↦ subst (λ z. Went e p t (λ u ds. Safe e p u ds m) no_exchange duty s (cond z (with_frames turn denied_frames) (with_frames (over_memory turn (finite.insert s.memory (granted_block s.memory grant) (Ints (unset_cells len)))) (at_step (with_local frame x (start_of (granted_block s.memory grant))) next ∷ callers))) rest all) (sym none)
            (went_local e p t duty (λ u ds. Safe e p u ds m) s f frame callers (AllocateInts x a place next) denied_frames own rest all at tt tt (in_call within) sums fits typed shaped
            (denied_go (later e p t duty f k n next st (accept.with_local st x Null) m frame callers own own r v _ r.part (with_locals e v st frame.locals r.names r.part x Null values.Null refl r.stands) r.typed r.sums)))
        | inr some1 ↦ subst (λ z. Went e p t (λ u ds. Safe e p u ds m) no_exchange duty s (cond z (with_frames turn denied_frames) (with_frames (over_memory turn (finite.insert s.memory (granted_block s.memory grant) (Ints (unset_cells len)))) (at_step (with_local frame x (start_of (granted_block s.memory grant))) next ∷ callers))) rest all) (sym some1)
            (granted n st m frame callers own x a place next y len u r is ev value fresh s rest all sums within fits typed shaped at (granted_block s.memory grant) (granted_free s.memory grant) (granted_go (granted_block s.memory grant)))
      ])

  -- ---- release
  pub free_ints_null_safe : (n : ℕ) (st : SymbolicState) (m : ℕ) (frame : Frame) (callers : Thread) (own : Part) (a : ExpressionTree) (place : Place) (next : ℕ) (u : Term) → (r : Ready e p t duty f k n st (suc m) frame callers own) → slice_get f.steps n ≡ Some (FreeInts a place next)
      → Evaluates e st.path st.locals a u → Entails e st.path (same u Null) → (Ready e p t duty f k next st m (at_step frame next) callers own → Safe e p t duty m (at_step frame next ∷ callers) own) → Safe e p t duty (suc m) (frame ∷ callers) own
  free_ints_null_safe n st m frame callers own a place next u r is ev null go s rest all going frames within sums fits typed shaped =
      let v = r.symbols in
      let value = evaluates e v st.path st.locals frame.locals a u ev (r.stands).path (r.stands).locals_mean ∙ ap Gives (same_value e v u Null (null.by v (r.stands).path)) in
      local_secure e p t duty (λ u ds. Safe e p u ds m) s f frame callers (FreeInts a place next) (at_step frame next ∷ callers) own rest all (here e p t duty f k n st (suc m) frame callers own s (FreeInts a place next) r is going frames) tt tt (in_call within)
      (free_ints_null_act p s t frame callers a place next value) sums fits typed shaped
      (go (later e p t duty f k n next st st m frame callers own own r v frame.locals r.part r.stands r.typed r.sums))

  -- what is known of a block of a chunk
  record BlockOwned (v : Valuation) (w also : Term) (q : Part) : Type 0 where
    block : ℕ
    size : ℕ
    begins : value_in e v w ≡ start_of block
    long_is : value_in e v also ≡ values.Number (pos size)
    owns : q ≡ single (IntBlock block) (LengthOf size) whole

  block_owned : (v : Valuation) (w also : Term) (c : SymbolicChunk) (q : Part) → ChunkMeans e v (record c { share = Fraction whole }) q → c.head ≡ int_block_head → c.arguments ≡ Some w ∷ Some also ∷ [] → BlockOwned v w also q
  block_owned v w also c q m head arguments =
      let full : m.fraction ≡ whole = fraction_same (sym m.share) in
      let means = subst (λ x. HeadMeans e v x int_block_head (Some w ∷ Some also ∷ []) q) full (subst₂ (λ h ts. HeadMeans e v m.fraction h ts q) head arguments m.head) in
      let own = means.1 in
      record { block = own.block; size = own.size; begins = sym (own.meet).0; long_is = sym ((own.meet).1).0; owns = own.owns }

  pub free_ints_safe : (n : ℕ) (st : SymbolicState) (m : ℕ) (frame : Frame) (callers : Thread) (own : Part) (a : ExpressionTree) (place : Place) (next : ℕ) (z u w long also : Term) (content : Option Term) (c d : SymbolicChunk) (mid left : List SymbolicChunk) → (r : Ready e p t duty f k n st (suc m) frame callers own)
      → slice_get f.steps n ≡ Some (FreeInts a place next) → Evaluates e st.path st.locals a z → Takes e st.path all_of_it c st.chunks mid → c.head ≡ row_head → c.arguments ≡ Some u ∷ Some long ∷ content ∷ [] → Entails e st.path (same z u)
      → Takes e st.path all_of_it d mid left → d.head ≡ int_block_head → d.arguments ≡ Some w ∷ Some also ∷ [] → Entails e st.path (same z w) → Entails e st.path (same long also)
      → ((own' : Part) → Ready e p t duty f k next (with_chunks st left) m (at_step frame next) callers own' → Safe e p t duty m (at_step frame next ∷ callers) own') → Safe e p t duty (suc m) (frame ∷ callers) own
  free_ints_safe n st m frame callers own a place next z u w long also content c d mid left r is ev taken head arguments at_row taken2 head2 arguments2 at_block same_long go s rest all going frames within sums fits typed shaped =
      let v = r.symbols in
      let path = (r.stands).path in
      let o1 = takes_parted e v st.path all_of_it c taken path r.part (r.stands).chunks_mean in
      let owned = row_owned_whole e v u long content c o1.off o1.chunk head arguments in
      let o2 = takes_parted e v st.path all_of_it d taken2 path o1.left o1.chunks_mean in
      let blk = block_owned v w also d o2.off o2.chunk head2 arguments2 in
      let b = blk.block in
      let row = owned.row in
      let pointer_is : value_in e v z ≡ start_of b = same_value e v z w (at_block.by v path) ∙ blk.begins in
      let row_pointer : value_in e v u ≡ start_of b = sym (same_value e v z u (at_row.by v path)) ∙ pointer_is in
      let is_row : IsRow whole b 0 row o1.off = row_from whole b 0 row o1.off (subst (λ q. IsRowAt whole q row o1.off) row_pointer owned.is_row) in
      let size_is : blk.size ≡ length row = pos_same (sym blk.long_is ∙ sym (same_value e v long also (same_long.by v path)) ∙ owned.long_is) in
      let block = single (IntBlock b) (LengthOf (length row)) whole in
      let block_is : o2.off ≡ block = blk.owns ∙ ap (λ y. single (IntBlock b) (LengthOf y) whole) size_is in
      let (q, made, both) = sums_regroup o2.left o2.off o1.left o1.off r.part (sums_turn o2.off o2.left o1.left o2.sums) (sums_turn o1.off o1.left r.part o1.sums) in
      let block_sum : IsSum block o1.off q = subst (λ y. IsSum y o1.off q) block_is made in
      let inner = apart q o2.left r.part r.kept own (sums_turn o2.left q r.part both) r.sums in
      let outer = apart q inner.0 own rest all inner.2 sums in
      let up : (l : Location) (g : Content) → IsPositive (q l g) → IsPositive (all l g) = λ l g y. in_left q outer.0 all outer.2 l g y in
      let there = ints_there b row o1.off all s.memory is_row (λ l g y. up l g (in_right block o1.off q block_sum l g y))
      (up (IntBlock b) (LengthOf (length row)) (in_left block o1.off q block_sum (IntBlock b) (LengthOf (length row)) (subst IsPositive (sym (single_here (IntBlock b) (LengthOf (length row)) whole)) positive_whole))) fits in
      let value = evaluates e v st.path st.locals frame.locals a z ev path (r.stands).locals_mean ∙ ap Gives pointer_is in
      let freed = blocks_are_freed s.memory b (Ints row) q outer.0 (record { all = all; sums = outer.2; fits = fits }) there tt (all_of_ints b row o1.off q is_row block_sum) in
      let typed_left = typed_of_right e p q outer.0 all outer.2 typed in
      let mine = apart o1.off block q inner.0 own (sums_turn block o1.off q block_sum) inner.2 in
      writing_secure e p t duty (λ u ds. Safe e p u ds m) s f frame callers (FreeInts a place next) (record { block = b; cell = None; writes = true; place = place }) (at_step frame next ∷ callers) (finite.remove s.memory b) own rest all inner.0 outer.0
      (here e p t duty f k n st (suc m) frame callers own s (FreeInts a place next) r is going frames) tt tt (in_call within) (free_ints_act p s t frame callers a place next b row value there)
      outer.1 freed typed_left (removed_shaped p s.memory b shaped)
      (record { unshared = λ d0 other. removed_unshared s.memory b d0; unmoved = λ d0 other. removed_ints_unmoved s.memory b row there d0; known = λ l c0 shared other h. in_right q outer.0 all outer.2 l c0 h })
      (λ g l covers found. freed_ints_owned s.memory b row o1.off mine.0 own rest all place is_row mine.2 sums fits there g l covers found)
      (go inner.0 (later e p t duty f k n next st (with_chunks st left) m frame callers own inner.0 r v frame.locals o2.left (record { path = path; locals_mean = (r.stands).locals_mean; names_mean = (r.stands).names_mean; chunks_mean = o2.chunks_mean })
      (typed_of_left e p inner.0 rest outer.0 outer.1 typed_left) inner.1))

  -- ---- pointer sums
  pub offset_zero_safe : (n : ℕ) (st : SymbolicState) (m : ℕ) (frame : Frame) (callers : Thread) (own : Part) (x : ℕ) (a i : ExpressionTree) (place : Place) (next : ℕ) (u j : Term) → (r : Ready e p t duty f k n st (suc m) frame callers own) → slice_get f.steps n ≡ Some (Offset x a i place next)
      → Evaluates e st.path st.locals a u → Evaluates e st.path st.locals i j → Entails e st.path (same j (Number (pos 0)))
      → (Ready e p t duty f k next (accept.with_local st x u) m (at_step (with_local frame x (value_in e r.symbols u)) next) callers own → Safe e p t duty m (at_step (with_local frame x (value_in e r.symbols u)) next ∷ callers) own)
      → Safe e p t duty (suc m) (frame ∷ callers) own
  offset_zero_safe n st m frame callers own x a i place next u j r is ea ei none go s rest all going frames within sums fits typed shaped =
      let v = r.symbols in
      let path = (r.stands).path in
      let w = value_in e v u in
      let pointer = evaluates e v st.path st.locals frame.locals a u ea path (r.stands).locals_mean in
      let index = evaluates e v st.path st.locals frame.locals i j ei path (r.stands).locals_mean in
      let zero_is : value_in e v j ≡ values.Number (pos 0) = same_value e v j (Number (pos 0)) (none.by v path) in
      local_secure e p t duty (λ u ds. Safe e p u ds m) s f frame callers (Offset x a i place next) (at_step (with_local frame x w) next ∷ callers) own rest all
      (here e p t duty f k n st (suc m) frame callers own s (Offset x a i place next) r is going frames) tt tt (in_call within)
      (offset_act p s t frame callers x a i place next w (value_in e v j) w (pos 0) pointer index zero_is (offset_nothing (turn_of s t frame callers) x w place next)) sums fits typed shaped
      (go (later e p t duty f k n next st (accept.with_local st x u) m frame callers own own r v _ r.part (with_locals e v st frame.locals r.names r.part x u w refl r.stands) r.typed r.sums))

  pub offset_safe : (n : ℕ) (st : SymbolicState) (m : ℕ) (frame : Frame) (callers : Thread) (own : Part) (x : ℕ) (a i : ExpressionTree) (place : Place) (next : ℕ) (u j z long : Term) (content : Option Term) (c : SymbolicChunk) (others : List SymbolicChunk) → (r : Ready e p t duty f k n st (suc m) frame callers own)
      → slice_get f.steps n ≡ Some (Offset x a i place next) → Evaluates e st.path st.locals a u → Evaluates e st.path st.locals i j → IsNumber e st.path j → Removes c st.chunks others → c.head ≡ row_head → c.arguments ≡ Some z ∷ Some long ∷ content ∷ [] → Entails e st.path (same u z)
      → Entails e st.path (Holds (Compare LessEqual (Number (pos 0)) j)) → Entails e st.path (Holds (Compare LessEqual j long))
      → (Ready e p t duty f k next (accept.with_local st x (PointerSum u j)) m (at_step (with_local frame x (value_in e r.symbols (PointerSum u j))) next) callers own → Safe e p t duty m (at_step (with_local frame x (value_in e r.symbols (PointerSum u j))) next ∷ callers) own)
      → Safe e p t duty (suc m) (frame ∷ callers) own
  offset_safe n st m frame callers own x a i place next u j z long content c others r is ea ei number taken head arguments equal low high go s rest all going frames within sums fits typed shaped =
      let v = r.symbols in
      let path = (r.stands).path in
      let w = value_in e v u in
      let pointer = evaluates e v st.path st.locals frame.locals a u ea path (r.stands).locals_mean in
      let index = evaluates e v st.path st.locals frame.locals i j ei path (r.stands).locals_mean in
      let o = removes_parted e v c taken r.part (r.stands).chunks_mean in
      let (x0, owned) = row_owned e v z long content c o.off o.chunk head arguments in
      let (count, count_is) = count_in e v st.path j number low path in
      let most : count ≤ length owned.row = at_most count (length owned.row) (subst₂ (λ y q. compared LessEqual y q ≡ true) count_is owned.long_is (high.by v path)) in
      let is_row : IsRowAt x0 w owned.row o.off = subst (λ y. IsRowAt x0 y owned.row o.off) (sym (same_value e v u z (equal.by v path))) owned.is_row in
      let sum_is : further w (pos count) ≡ value_in e v (PointerSum u j) = ap (λ y. further w (number_of y)) (sym count_is) in
      let goes = offset_goes (turn_of s t frame callers) x w count place next x0 owned.row o.off all is_row most owned.positive (λ l d y. in_left own rest all sums l d (in_left r.part r.kept own r.sums l d (in_left o.off o.left r.part o.sums l d y))) fits in
      let sum = value_in e v (PointerSum u j) in
      let now = at_step (with_local frame x sum) next ∷ callers in
      local_secure e p t duty (λ u ds. Safe e p u ds m) s f frame callers (Offset x a i place next) now own rest all
      (here e p t duty f k n st (suc m) frame callers own s (Offset x a i place next) r is going frames) tt tt (in_call within)
      (offset_act p s t frame callers x a i place next w (value_in e v j) sum (pos count) pointer index count_is (goes ∙ ap (λ y. Goes (sets (turn_of s t frame callers) x y next)) sum_is)) sums fits typed shaped
      (go (later e p t duty f k n next st (accept.with_local st x (PointerSum u j)) m frame callers own own r v _ r.part (with_locals e v st frame.locals r.names r.part x (PointerSum u j) sum refl r.stands) r.typed r.sums))
