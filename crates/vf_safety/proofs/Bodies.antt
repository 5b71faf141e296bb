-- An accepted body is safe for every number of steps, where the functions of the program are safe for fewer.
use Rattle.std.proofs.Common.{◌≡◌, ℕ, zero, suc, ◌<◌, ◌≤◌, not, List, ◌∷◌, slice_get, Some, refl, sym, ap, subst, inl, inr, arith}
use Rattle.std.proofs.lemmas.Bool.{cases_Bool}
use Rattle.vf_tree.specs.Core.{FunctionTree, ProgramTree}
use Rattle.vf_model.specs.State.{Frame, Thread, State}
use Rattle.vf_meaning.specs.Fractions.{whole}
use Rattle.vf_meaning.specs.Ghost.{Not}
use Rattle.vf_meaning.specs.Valuations.{is_true}
use Rattle.vf_meaning.specs.Assertions.{ContractTree, BeforeStep, Environment}
use Rattle.vf_meaning.specs.Environments.{MayLeak}
use Rattle.vf_meaning.specs.Parts.{Part, nothing}
use Rattle.vf_meaning.specs.Kept.{LeaksNext}
use Rattle.vf_meaning.proofs.Parts.{nothing_is_neutral}
use Rattle.vf_rules.specs.Terms.{Term, stored}
use Rattle.vf_rules.specs.Terms as terms
use Rattle.vf_rules.specs.States.{Holds, SymbolicState, value_in, assuming}
use Rattle.vf_rules.specs.Take.{same}
use Rattle.vf_rules.specs.Laws.{IsAmong}
use Rattle.vf_rules.specs.Accept.{all_of_it, Accepts, do_set, do_if, do_load, do_store, do_allocate, do_free_null, do_free, do_allocate_ints, do_free_ints_null, do_free_ints, do_offset_zero, do_offset, do_load_at, do_store_at, do_call, do_return, do_leave, may_drop, may_change, may_arrange, may_open, may_close, IsOneOf, may_enter, may_repeat, may_know, may_see, may_split, may_leak, may_call_lemma, do_abort, do_put_char, do_print_int, do_call_pointer, do_prelude}
use Rattle.vf_meaning.specs.Valuations.{count}
use Rattle.vf_rules.specs.Loops.{Loop, IsLoop}
use Rattle.vf_rules.proofs.Loops.{entering_keeps, store_sorted}
use Rattle.vf_rules.proofs.LemmaCalls.{lemma_called}
use Rattle.vf_safety.proofs.Leaks.{leaving_safe}
use Rattle.vf_rules.proofs.Stands.{assuming_stands}
use Rattle.vf_rules.proofs.Produces.{produced}
use Rattle.vf_rules.proofs.Takes.{changes_stand}
use Rattle.vf_rules.proofs.Consumes.{consumed}
use Rattle.vf_rules.proofs.Opening.{opening_keeps, closing_keeps}
use Rattle.vf_safety.specs.Safe.{Duties, Safe}
use Rattle.vf_safety.proofs.Steps.{apart, typed_of_left, typed_of_right, nothing_typed}
use Rattle.vf_safety.proofs.Ready.{Ready, restated, leaves_less, positive_whole}
use Rattle.vf_safety.proofs.FieldSteps.{set_safe, if_safe, load_safe, store_safe, allocate_safe, free_null_safe, free_safe}
use Rattle.vf_safety.proofs.ArraySteps.{load_at_safe, store_at_safe}
use Rattle.vf_safety.proofs.ArrayBlocks.{allocate_ints_safe, free_ints_null_safe, free_ints_safe, offset_zero_safe, offset_safe}
use Rattle.vf_safety.proofs.Arrangements.{arranged}
use Rattle.vf_safety.proofs.Returns.{return_safe, leave_safe}
use Rattle.vf_safety.proofs.CallSteps.{call_safe}
use Rattle.vf_safety.proofs.PointerSteps.{call_pointer_safe}
use Rattle.vf_safety.proofs.PreludeSteps.{abort_safe, print_safe, put_safe, prelude_safe}

module _ (e : Environment) (p : ProgramTree) (t : ℕ) (duty : Duties) (f : FunctionTree) (k : ContractTree) where
  -- ---- loops
  -- from a loop's head on a frame is safe for n steps, whichever outcome of producing the invariant stands for it
  abbrev pub HeadSafe : Loop → ℕ → Type 0
  HeadSafe loop m =
      (s : terms.Store) (su : SymbolicState) → IsAmong loop.outs s su → (frame : Frame) (callers : Thread) (own : Part) → Ready e p t duty f k loop.node su m frame callers own → Safe e p t duty m (frame ∷ callers) own

  -- each of several loops is well made, and from its head on a frame is safe for every number of steps below n
  abbrev pub HeadsSafe : List Loop → ℕ → Type 0
  HeadsSafe loops n = (loop : Loop) → IsOneOf loop loops → IsLoop e p loop × ((j : ℕ) → j < n → HeadSafe loop j)

  heads_below : (loops : List Loop) (n m : ℕ) → n ≤ m → HeadsSafe loops m → HeadsSafe loops n
  heads_below loops n m l h loop one = let x = h loop one in (x.0, λ j i. x.1 j (omega (arith, l, i)))

  heads_more : (loop : Loop) (loops : List Loop) (n : ℕ) → IsLoop e p loop → ((j : ℕ) → j < n → HeadSafe loop j) → HeadsSafe loops n → HeadsSafe (loop ∷ loops) n
  heads_more loop loops n made own h x (inl same) = subst (λ z. IsLoop e p z × ((j : ℕ) → j < n → HeadSafe z j)) same (made, own)
  heads_more loop loops n made own h x (inr one) = h x one

  -- a head that is safe for so many steps where it is for fewer is safe for all
  heads_by_steps : (loop : Loop) (m : ℕ) → ((j : ℕ) → j < m → ((i : ℕ) → i < j → HeadSafe loop i) → HeadSafe loop j) → (n : ℕ) → n ≤ m → (j : ℕ) → j < n → HeadSafe loop j
  heads_by_steps loop m again zero l j i = absurd (nothing_below j i)
    where
      nothing_below : (j : ℕ) → j < 0 → ⊥
      nothing_below j i = omega (arith, i)
  heads_by_steps loop m again (suc n) l j i =
      again j (omega (arith, l, i)) (λ b c. heads_by_steps loop m again n (omega (arith, l)) b (omega (arith, i, c)))

  at_head : (n node : ℕ) (st : SymbolicState) (m : ℕ) (frame : Frame) (callers : Thread) (own : Part) → node ≡ n → Ready e p t duty f k n st m frame callers own → Ready e p t duty f k node st m frame callers own
  at_head n node st m frame callers own same r = subst (λ z. Ready e p t duty f k z st m frame callers own) (sym same) r

  -- ---- leaks
  -- what may be leaked before a step may be leaked where the frame's next step is that one
  leak_stands : (n : ℕ) (st : SymbolicState) (m : ℕ) (frame : Frame) (callers : Thread) (own : Part) → Ready e p t duty f k n st m frame callers own → MayLeak e (BeforeStep f.identity n) → (s : State) → slice_get s.threads t ≡ Some (frame ∷ callers) → LeaksNext e p s t
  leak_stands n st m frame callers own r stands s here = record { f = f; frame = frame; callers = callers; frames = here; function = r.function; leaks = subst (λ z. MayLeak e (BeforeStep f.identity z)) (sym r.step) stands }

  -- ---- the whole body
  pub body_safe : {now soon : List Loop} {n : ℕ} {st : SymbolicState} → Accepts e p f k now soon n st → (m : ℕ) → HeadsSafe now (suc m) → HeadsSafe soon m → (frame : Frame) (callers : Thread) (own : Part) → Ready e p t duty f k n st m frame callers own → Safe e p t duty m (frame ∷ callers) own
  body_safe d zero h i frame callers own r = tt
  body_safe {now} {soon} {n} {st} (do_set x a next u is ev go) (suc m) h i frame callers own r = set_safe e p t duty f k n st m frame callers own x a next u r is ev (λ k0. body_safe go m i (heads_below soon m (suc m) (omega arith) i) _ callers own k0)
  body_safe {now} {soon} {n} {st} (do_if c a b y_step n_step u w is ea eb ca cb yes_go no_go) (suc m) h i frame callers own r =
      if_safe e p t duty f k n st m frame callers own c a b y_step n_step u w r is ea eb ca cb (λ k0. body_safe yes_go m i (heads_below soon m (suc m) (omega arith) i) _ callers own k0) (λ k0. body_safe no_go m i (heads_below soon m (suc m) (omega arith) i) _ callers own k0)
  body_safe {now} {soon} {n} {st} (do_load x a field place next u z content c others is ev taken head arguments equal go) (suc m) h i frame callers own r =
      load_safe e p t duty f k n st m frame callers own x a field place next u z content c others r is ev taken head arguments equal (λ k0. body_safe go m i (heads_below soon m (suc m) (omega arith) i) _ callers own k0)
  body_safe {now} {soon} {n} {st} (do_store a b field place next u z w old c others is ea eb taken head arguments equal types go) (suc m) h i frame callers own r =
      store_safe e p t duty f k n st m frame callers own a b field place next u z w old c others r is ea eb taken head arguments equal types (λ own' k0. body_safe go m i (heads_below soon m (suc m) (omega arith) i) _ callers own' k0)
  body_safe {now} {soon} {n} {st} (do_allocate x g next y is fresh denied_go granted_go) (suc m) h i frame callers own r =
      allocate_safe e p t duty f k n st m frame callers own x g next y r is fresh (λ k0. body_safe denied_go m i (heads_below soon m (suc m) (omega arith) i) _ callers own k0) (λ b own' k0. body_safe granted_go m i (heads_below soon m (suc m) (omega arith) i) _ callers own' k0)
  body_safe {now} {soon} {n} {st} (do_free_null a g place next u is ev null go) (suc m) h i frame callers own r = free_null_safe e p t duty f k n st m frame callers own a g place next u r is ev null (λ k0. body_safe go m i (heads_below soon m (suc m) (omega arith) i) _ callers own k0)
  body_safe {now} {soon} {n} {st} (do_free a g place next u left is ev taken go) (suc m) h i frame callers own r = free_safe e p t duty f k n st m frame callers own a g place next u left r is ev taken (λ own' k0. body_safe go m i (heads_below soon m (suc m) (omega arith) i) _ callers own' k0)
  body_safe {now} {soon} {n} {st} (do_allocate_ints x a place next y u is ev number low fresh denied_go granted_go) (suc m) h i frame callers own r =
      allocate_ints_safe e p t duty f k n st m frame callers own x a place next y u r is ev number low fresh (λ k0. body_safe denied_go m i (heads_below soon m (suc m) (omega arith) i) _ callers own k0) (λ b own' k0. body_safe granted_go m i (heads_below soon m (suc m) (omega arith) i) _ callers own' k0)
  body_safe {now} {soon} {n} {st} (do_free_ints_null a place next u is ev null go) (suc m) h i frame callers own r =
      free_ints_null_safe e p t duty f k n st m frame callers own a place next u r is ev null (λ k0. body_safe go m i (heads_below soon m (suc m) (omega arith) i) _ callers own k0)
  body_safe {now} {soon} {n} {st} (do_free_ints a place next z u w long also content c d mid left is ev taken head arguments at_row taken2 head2 arguments2 at_block same_long go) (suc m) h i frame callers own r =
      free_ints_safe e p t duty f k n st m frame callers own a place next z u w long also content c d mid left r is ev taken head arguments at_row taken2 head2 arguments2 at_block same_long (λ own' k0. body_safe go m i (heads_below soon m (suc m) (omega arith) i) _ callers own' k0)
  body_safe {now} {soon} {n} {st} (do_offset_zero x a j place next u w is ea ej none go) (suc m) h i frame callers own r =
      offset_zero_safe e p t duty f k n st m frame callers own x a j place next u w r is ea ej none (λ k0. body_safe go m i (heads_below soon m (suc m) (omega arith) i) _ callers own k0)
  body_safe {now} {soon} {n} {st} (do_offset x a j place next u w z long content c others is ea ej number taken head arguments equal low high go) (suc m) h i frame callers own r =
      offset_safe e p t duty f k n st m frame callers own x a j place next u w z long content c others r is ea ej number taken head arguments equal low high (λ k0. body_safe go m i (heads_below soon m (suc m) (omega arith) i) _ callers own k0)
  body_safe {now} {soon} {n} {st} (do_load_at x a j place next u w z long list index item c others is ea ej number taken head arguments finds inside item_is go) (suc m) h i frame callers own r =
      load_at_safe e p t duty f k n st m frame callers own x a j place next u w z long list index item c others r is ea ej number taken head arguments finds inside item_is (λ k0. body_safe go m i (heads_below soon m (suc m) (omega arith) i) _ callers own k0)
  body_safe {now} {soon} {n} {st} (do_store_at a j b place next u w y z long index content new c others is ea ej eb number facts taken head arguments finds inside becomes go) (suc m) h i frame callers own r =
      store_at_safe e p t duty f k n st m frame callers own a j b place next u w y z long index content new c others r is ea ej eb number facts taken head arguments finds inside becomes (λ own' k0. body_safe go m i (heads_below soon m (suc m) (omega arith) i) _ callers own' k0)
  body_safe {now} {soon} {n} {st} (do_call target g operands place next number callee contract ts outs is outside of_thread named callee_is has to ev count types sorted consume go) (suc m) h i frame callers own r =
      call_safe e p t duty f k n st m frame callers own target g operands place next number callee contract ts outs r is outside of_thread named callee_is has to ev count types sorted consume (λ s su among j l fr own2 k0. body_safe (go s su among) j (heads_below soon (suc j) (suc m) (omega (arith, l)) i) (heads_below soon j (suc m) (omega (arith, l)) i) fr callers own2 k0)
  body_safe {now} {soon} {n} {st} (do_return a u is ev facts value_type consume) (suc m) h i frame callers own r = return_safe e p t duty f k n st m frame callers own a u r is ev facts value_type consume
  body_safe {now} {soon} {n} {st} (do_leave is no_value consume) (suc m) h i frame callers own r = leave_safe e p t duty f k n st m frame callers own r is no_value consume
  body_safe {now} {soon} {n} {st} (may_drop never) (suc m) h i frame callers own r = absurd (never.by r.symbols (r.stands).path)
  body_safe {now} {soon} {n} {st} (may_change {new} changed go) (suc m) h i frame callers own r =
      body_safe go (suc m) h i frame callers own (restated e p t duty f k n st new (suc m) frame callers own r r.symbols (changes_stand e r.symbols changed frame.locals r.names r.part r.stands))
  body_safe {now} {soon} {n} {st} (may_arrange {new} changed go) (suc m) h i frame callers own r =
      body_safe go (suc m) h i frame callers own (restated e p t duty f k n st new (suc m) frame callers own r r.symbols (arranged e r.symbols changed frame.locals r.names r.part r.stands))
  body_safe {now} {soon} {n} {st} (may_open outs opens go) (suc m) h i frame callers own r =
      let o = opening_keeps e p st outs opens frame.locals r.names r.symbols r.part r.stands (typed_of_left e p r.part r.kept own r.sums r.typed) in
      body_safe (go o.store o.state o.among) (suc m) h i frame callers own (restated e p t duty f k n st o.state (suc m) frame callers own r o.under o.stands)
  body_safe {now} {soon} {n} {st} (may_close outs closes go) (suc m) h i frame callers own r =
      let o = closing_keeps e p st outs closes frame.locals r.names r.symbols r.part r.stands in
      body_safe (go o.store o.state o.among) (suc m) h i frame callers own (restated e p t duty f k n st o.state (suc m) frame callers own r o.under o.stands)
  body_safe {now} {soon} {n} {st} (may_enter loop at made enters go) (suc m) h i frame callers own r =
      let o = entering_keeps e p loop st made enters frame.locals r.names r.symbols r.part r.stands (typed_of_left e p r.part r.kept own r.sums r.typed) in
      let again : (j : ℕ) → j < suc (suc m) → ((b : ℕ) → b < j → HeadSafe loop b) → HeadSafe loop j = λ j l before s su among fr cs ow k0.
      body_safe (go s su among) j (heads_below now (suc j) (suc (suc m)) (omega (arith, l)) h) (heads_more loop soon j made before (heads_below soon j (suc m) (omega (arith, l)) i)) fr cs ow
      (subst (λ z. Ready e p t duty f k z su j fr cs ow) at k0) in
      let safe = heads_by_steps loop (suc (suc m)) again (suc (suc m)) (omega arith) (suc m) (omega arith) in
      safe o.store o.state o.among frame callers own (at_head n loop.node o.state (suc m) frame callers own at (restated e p t duty f k n st o.state (suc m) frame callers own r o.under o.stands))
  body_safe {now} {soon} {n} {st} (may_repeat loop one at enters) (suc m) h i frame callers own r =
      let x = h loop one in
      let o = entering_keeps e p loop st x.0 enters frame.locals r.names r.symbols r.part r.stands (typed_of_left e p r.part r.kept own r.sums r.typed) in
      x.1 (suc m) (omega arith) o.store o.state o.among frame callers own (at_head n loop.node o.state (suc m) frame callers own at (restated e p t duty f k n st o.state (suc m) frame callers own r o.under o.stands))
  body_safe {now} {soon} {n} {st} (may_see fact shown go) (suc m) h i frame callers own r =
      let v = r.symbols in
      body_safe go (suc m) h i frame callers own (restated e p t duty f k n st (assuming st fact) (suc m) frame callers own r v (assuming_stands e v st frame.locals r.names r.part fact (shown.by v frame.locals r.names r.part r.stands) r.stands))
  body_safe {now} {soon} {n} {st} (may_split u yes_go no_go) (suc m) h i frame callers own r =
      let v = r.symbols in
      elim (cases_Bool (is_true (value_in e v u))) [
        | inl yes1 ↦ body_safe yes_go (suc m) h i frame callers own (restated e p t duty f k n st (assuming st (Holds u)) (suc m) frame callers own r v (assuming_stands e v st frame.locals r.names r.part (Holds u) yes1 r.stands))
        | inr no1 ↦ body_safe no_go (suc m) h i frame callers own (restated e p t duty f k n st (assuming st (Holds (Not u))) (suc m) frame callers own r v (assuming_stands e v st frame.locals r.names r.part (Holds (Not u)) (ap not no1) r.stands))
      ]
  body_safe {now} {soon} {n} {st} (may_leak a sorts store outs stands of_sorts consume go) (suc m) h i frame callers own r =
      let c = consumed e p sorts all_of_it whole frame.locals r.names a store st (IsAmong outs) consume r.symbols r.part r.stands (store_sorted e r.symbols st.path sorts store of_sorts (r.stands).path) refl in
      let less = apart c.off c.left r.part r.kept own c.sums r.sums in
      leaving_safe e p t duty (suc m) (frame ∷ callers) c.off less.0 own less.2 (λ s here none. absurd (none (leak_stands n st (suc m) frame callers own r stands s here)))
      (body_safe (go c.store c.state c.holds) (suc m) h i frame callers less.0
      (leaves_less e p t duty f k n st c.state (suc m) frame callers own less.0 r c.under c.left c.stands (typed_of_right e p c.off less.0 own less.2 r.typed) less.1))
  body_safe {now} {soon} {n} {st} (may_call_lemma lemma ts outs holds stands inhabited long sorted knows consume go) (suc m) h i frame callers own r =
      let c = lemma_called e p lemma ts outs st holds inhabited sorted knows consume frame.locals r.names r.symbols r.part r.stands (typed_of_left e p r.part r.kept own r.sums r.typed) in
      let less = apart c.leaked c.left r.part r.kept own c.sums r.sums in
      leaving_safe e p t duty (suc m) (frame ∷ callers) c.leaked less.0 own less.2
      (λ s here none. c.unleaked (λ leaks. none (leak_stands n st (suc m) frame callers own r (stands leaks) s here)))
      (body_safe (go c.store c.state c.holds) (suc m) h i frame callers less.0
      (leaves_less e p t duty f k n st c.state (suc m) frame callers own less.0 r c.under c.left c.stands (typed_of_right e p c.leaked less.0 own less.2 r.typed) less.1))
  body_safe {now} {soon} {n} {st} (do_abort target g place next is named) (suc m) h i frame callers own r = abort_safe e p t duty f k n st m frame callers own target g place next r is named
  body_safe {now} {soon} {n} {st} (do_put_char target g a place next y u is named ev byte fresh go) (suc m) h i frame callers own r =
      put_safe e p t duty f k n st m frame callers own target g a place next y u r is named ev fresh (λ w k0. body_safe go m i (heads_below soon m (suc m) (omega arith) i) _ callers own k0)
  body_safe {now} {soon} {n} {st} (do_print_int target g a place next u is named ev go) (suc m) h i frame callers own r =
      print_safe e p t duty f k n st m frame callers own target g a place next u r is named ev (λ k0. body_safe go m i (heads_below soon m (suc m) (omega arith) i) _ callers own k0)
  body_safe {now} {soon} {n} {st} (do_call_pointer target a signature operands place next type contract u ts outs is called of_type of_thread signed inhabited ep claims to ev long types sorted consume go) (suc m) h i frame callers own r =
      call_pointer_safe e p t duty f k n st m frame callers own target a signature operands place next type contract u ts outs r is called of_type of_thread signed inhabited ep claims to ev long types sorted consume
      (λ s su among j l fr own2 k0. body_safe (go s su among) j (heads_below soon (suc j) (suc m) (omega (arith, l)) i) (heads_below soon j (suc m) (omega (arith, l)) i) fr callers own2 k0)
  body_safe {now} {soon} {n} {st} (may_know a sorts store outs of_nothing produce go) (suc m) h i frame callers own r =
      let v = r.symbols in
      let known = of_nothing.by v (r.stands).path in
      let o = produced e p sorts all_of_it whole (known.3).0 frame.locals r.names a store st (IsAmong outs) produce v known.0 nothing r.part r.part r.stands known.1 known.2 refl positive_whole (known.3).1 (nothing_typed e p) (nothing_is_neutral r.part) in
      body_safe (go o.store o.state o.holds) (suc m) h i frame callers own (restated e p t duty f k n st o.state (suc m) frame callers own r o.under o.stands)
  body_safe {now} {soon} {n} {st} (do_prelude target g operands place next function contract ts outs is named known of_thread inhabited to ev count sorted consume go) (suc m) h i frame callers own r =
      prelude_safe e p t duty f k n st m frame callers own target g operands place next function contract ts outs r is named known of_thread inhabited to ev count sorted consume
      (λ s su among j l fr own2 k0. body_safe (go s su among) j (heads_below soon (suc j) (suc m) (omega (arith, l)) i) (heads_below soon j (suc m) (omega (arith, l)) i) fr callers own2 k0)
