-- Calls of the prelude's functions.
use Rattle.std.proofs.Common.{◌≡◌, ℕ, zero, suc, ◌<◌, pos, List, [], ◌∷◌, ◌++◌, length, map, slice_get, Option, Some, None, refl, sym, subst, ◌∙◌, arith}
use Rattle.vf_base.specs.declared.place.Place.{Place}
use Rattle.vf_tree.specs.Core.{Identity, Void, Integer, ExpressionTree, Call, FunctionTree, ProgramTree}
use Rattle.vf_model.specs.Values.{Dyadic, Value, compares}
use Rattle.vf_model.specs.Values as values
use Rattle.vf_model.specs.State.{Frame, Thread, State, Turn, Returned, at_step, with_local, with_frames, over_memory, goes_on, sets, entered, ended, function_named}
use Rattle.vf_model.specs.State as state
use Rattle.vf_model.specs.Acts.{Goes}
use Rattle.vf_model.specs.PreludeFunctions.{prelude_named}
use Rattle.vf_meaning.specs.Fractions.{whole}
use Rattle.vf_meaning.specs.Ghost.{Numbered, Result, CurrentThread, Variable}
use Rattle.vf_meaning.specs.Valuations.{bound}
use Rattle.vf_meaning.specs.Assertions.{ContractTree, Environment}
use Rattle.vf_meaning.specs.Parts.{Part, nothing}
use Rattle.vf_meaning.proofs.Parts.{sums_turn, nothing_is_neutral}
use Rattle.vf_rules.specs.Terms.{Term, stored}
use Rattle.vf_rules.specs.Terms as terms
use Rattle.vf_rules.specs.States.{SymbolicState, value_in, assuming_all}
use Rattle.vf_rules.specs.Fresh.{symbol, IsNew, IsFresh}
use Rattle.vf_rules.specs.Types.{facts_of_type}
use Rattle.vf_rules.specs.Produce.{Produce}
use Rattle.vf_rules.specs.Consume.{Consume}
use Rattle.vf_rules.specs.Laws.{Outcome, IsAmong}
use Rattle.vf_rules.specs.Predicates.{store_of, AreSorted}
use Rattle.vf_rules.specs.Evaluate.{Evaluates, EvaluatesAll}
use Rattle.vf_rules.specs.Accept.{all_of_it, receiving, facts_of_result, call_store, AreFixed}
use Rattle.vf_rules.specs.Threads.{HasPreludeContract}
use Rattle.vf_safety.proofs.Threads.{ThreadsBegin}
use Rattle.vf_safety.proofs.Preludes.{prelude_secure}
use Rattle.vf_rules.specs.Predicates.{AreInhabited}
use Rattle.vf_meaning.specs.Valuations.{count}
use Rattle.vf_tree.specs.Core.{Signature}
use Rattle.vf_safety.specs.Safe.{Duty}
use Rattle.vf_safety.proofs.Duties.{first_done}
use Rattle.std.specs.Fmt.{signed_decimal}
use Rattle.vf_base.specs.declared.int_type.IntType.TheVariants as int_types
use Rattle.vf_model.specs.PreludeFunctions.{PreludeFunction, Abort, PutChar, PrintInt, signature_of}
use Rattle.vf_model.specs.State.{Aborted, after_output}
use Rattle.vf_model.specs.Values.{number_of}
use Rattle.vf_model.specs.Calls.{byte_of}
use Rattle.vf_safety.proofs.Prelude.{prelude_act, one_value, ended_went, output_went, byte_in_range, result_then_step, integer_no_void}
use Rattle.vf_rules.proofs.Terms.{own_symbol, stored_own, stored_other}
use Rattle.vf_rules.proofs.Stands.{stands_fresh, assuming_all_stands}
use Rattle.vf_rules.proofs.Produces.{type_met}
use Rattle.vf_rules.proofs.Consumes.{consumed}
use Rattle.vf_rules.proofs.Evaluates.{evaluates, evaluates_all}
use Rattle.vf_rules.proofs.Opening.{completed, completed_means, completed_sorted}
use Rattle.vf_safety.specs.Safe.{Duties, left_after, Safe}
use Rattle.vf_safety.proofs.Steps.{StartsNone, in_call, turn_of, apart, secure, not_left, not_called}
use Rattle.vf_safety.proofs.Typing.{pointer_value, AllMayBe}
use Rattle.vf_safety.proofs.Ready.{Ready, here, later, some_same, none_some, AllSafe}
use Rattle.vf_safety.proofs.Returns.{goes_fault, goes_touch}
use Rattle.vf_safety.proofs.CallSteps.{back_to, resumed, sorted_arguments, argument_at, mapped_long, after_call}

module _ (e : Environment) (p : ProgramTree) (t : ℕ) (duty : Duties) (f : FunctionTree) (k : ContractTree) where
  -- ---- calls of the prelude that touch no memory
  pub abort_safe : (n : ℕ) (st : SymbolicState) (m : ℕ) (frame : Frame) (callers : Thread) (own : Part) (target : Option ℕ) (g : Identity) (place : Place) (next : ℕ) → (r : Ready e p t duty f k n st (suc m) frame callers own) → slice_get f.steps n ≡ Some (Call target g [] place next)
      → prelude_named g ≡ Some Abort → Safe e p t duty (suc m) (frame ∷ callers) own
  abort_safe n st m frame callers own target g place next r is named s rest all going frames within sums fits typed shaped =
      let at = here e p t duty f k n st (suc m) frame callers own s (Call target g [] place next) r is going frames in
      secure e p t duty (λ u ds. Safe e p u ds m) s f frame callers (Call target g [] place next) own rest all (Goes (ended s Aborted)) at (subst StartsNone (sym named) tt)
      (prelude_act p s t frame callers target g [] place next Abort [] refl named)
      (λ kind place h. goes_fault e p t duty f k h) (λ touch new c0 l h. goes_touch e p t duty f k h)
      (λ grant. ended_went e p t duty (λ u ds. Safe e p u ds m) s (frame ∷ callers) own rest all Aborted sums fits typed shaped frames (in_call within) (λ grant0 call c0. not_called e p t duty (λ u ds. Safe e p u ds m) s f frame callers (Call target g [] place next) at (subst StartsNone (sym named) tt) grant0 call c0) (λ result back. not_left e p t duty (λ u ds. Safe e p u ds m) s f frame callers (Call target g [] place next) at tt result back))

  pub print_safe : (n : ℕ) (st : SymbolicState) (m : ℕ) (frame : Frame) (callers : Thread) (own : Part) (target : Option ℕ) (g : Identity) (a : ExpressionTree) (place : Place) (next : ℕ) (u : Term) → (r : Ready e p t duty f k n st (suc m) frame callers own)
      → slice_get f.steps n ≡ Some (Call target g (a ∷ []) place next) → prelude_named g ≡ Some PrintInt → Evaluates e st.path st.locals a u
      → (Ready e p t duty f k next st m (at_step frame next) callers own → Safe e p t duty m (at_step frame next ∷ callers) own)
      → Safe e p t duty (suc m) (frame ∷ callers) own
  print_safe n st m frame callers own target g a place next u r is named ev go s rest all going frames within sums fits typed shaped =
      let v = r.symbols in
      let w = value_in e v u in
      let at = here e p t duty f k n st (suc m) frame callers own s (Call target g (a ∷ []) place next) r is going frames in
      let value = one_value frame.locals a w (evaluates e v st.path st.locals frame.locals a u ev (r.stands).path (r.stands).locals_mean) in
      let bytes = signed_decimal (number_of w) ++ 10 ∷ [] in
      secure e p t duty (λ u ds. Safe e p u ds m) s f frame callers (Call target g (a ∷ []) place next) own rest all (Goes (with_frames (after_output (turn_of s t frame callers) bytes) (at_step frame next ∷ callers))) at (subst StartsNone (sym named) tt)
      (prelude_act p s t frame callers target g (a ∷ []) place next PrintInt (w ∷ []) value named)
      (λ kind place h. goes_fault e p t duty f k h) (λ touch new c0 l h. goes_touch e p t duty f k h)
      (λ grant. output_went e p t duty (λ u ds. Safe e p u ds m) s frame callers (at_step frame next ∷ callers) bytes own rest all sums fits typed shaped frames
      (go (later e p t duty f k n next st st m frame callers own own r v frame.locals r.part r.stands r.typed r.sums))
      (in_call within) (λ grant0 call c0. not_called e p t duty (λ u ds. Safe e p u ds m) s f frame callers (Call target g (a ∷ []) place next) at (subst StartsNone (sym named) tt) grant0 call c0) (λ result back. not_left e p t duty (λ u ds. Safe e p u ds m) s f frame callers (Call target g (a ∷ []) place next) at tt result back))

  pub put_safe : (n : ℕ) (st : SymbolicState) (m : ℕ) (frame : Frame) (callers : Thread) (own : Part) (target : Option ℕ) (g : Identity) (a : ExpressionTree) (place : Place) (next y : ℕ) (u : Term) → (r : Ready e p t duty f k n st (suc m) frame callers own)
      → slice_get f.steps n ≡ Some (Call target g (a ∷ []) place next) → prelude_named g ≡ Some PutChar → Evaluates e st.path st.locals a u → IsFresh y st
      → ((w : Value) → Ready e p t duty f k next (receiving target (symbol y) (assuming_all st (facts_of_type (Integer int_types.Int) (symbol y)))) m (back_to e p t duty f k frame next target (Some w)) callers own → Safe e p t duty m (back_to e p t duty f k frame next target (Some w) ∷ callers) own)
      → Safe e p t duty (suc m) (frame ∷ callers) own
  unfolding back_to
  put_safe n st m frame callers own target g a place next y u r is named ev fresh go s rest all going frames within sums fits typed shaped =
      let v = r.symbols in
      let w = value_in e v u in
      let at = here e p t duty f k n st (suc m) frame callers own s (Call target g (a ∷ []) place next) r is going frames in
      let value = one_value frame.locals a w (evaluates e v st.path st.locals frame.locals a u ev (r.stands).path (r.stands).locals_mean) in
      let byte = byte_of (number_of w) in
      let given = values.Number (pos byte) in
      let v2 = bound v (Numbered y) given in
      let own_is : value_in e v2 (symbol y) ≡ given = own_symbol v y given in
      let stands2 = assuming_all_stands e v2 st frame.locals r.names r.part _ (type_met e v2 (Integer int_types.Int) (symbol y) given own_is (byte_in_range (number_of w))) (stands_fresh e v y given st frame.locals r.names r.part fresh r.stands) in
      let ready = resumed e p t duty f k n next st (assuming_all st (facts_of_type (Integer int_types.Int) (symbol y))) m m frame callers own own r target (Some given) (symbol y) (Integer int_types.Int) v2 r.part (omega arith) (byte_in_range (number_of w)) (λ h. absurd (integer_no_void h))
      (λ x h. own_is ∙ some_same h) stands2 r.typed r.sums in
      secure e p t duty (λ u ds. Safe e p u ds m) s f frame callers (Call target g (a ∷ []) place next) own rest all (Goes (with_frames (after_output (turn_of s t frame callers) (byte ∷ [])) (at_step (state.with_result frame target (Some given)) next ∷ callers))) at (subst StartsNone (sym named) tt)
      (prelude_act p s t frame callers target g (a ∷ []) place next PutChar (w ∷ []) value named)
      (λ kind place h. goes_fault e p t duty f k h) (λ touch new c0 l h. goes_touch e p t duty f k h)
      (λ grant. output_went e p t duty (λ u ds. Safe e p u ds m) s frame callers (at_step (state.with_result frame target (Some given)) next ∷ callers) (byte ∷ []) own rest all sums fits typed shaped frames
      (subst (λ z. Safe e p t duty m (z ∷ callers) own) (result_then_step frame next target given) (go given ready))
      (in_call within) (λ grant0 call c0. not_called e p t duty (λ u ds. Safe e p u ds m) s f frame callers (Call target g (a ∷ []) place next) at (subst StartsNone (sym named) tt) grant0 call c0) (λ result back. not_left e p t duty (λ u ds. Safe e p u ds m) s f frame callers (Call target g (a ∷ []) place next) at tt result back))

  -- ---- calls of the prelude for mutexes and threads
  -- a thread that is started in a function which claims a type is safe for fewer steps
  threads_begin : (m : ℕ) → ((u : ℕ) → AllSafe e p u (suc m)) → ThreadsBegin e p t duty (λ u ds. Safe e p u ds m)
  threads_begin m others g type contract claimed of_type number function named is signature u w names own one pointer argument thread this_is of_sorts required typed =
      let d : Duty = record { contract = contract; names = names; rest = nothing; below = 0 } in
      (others u).types m (omega arith) g type contract claimed of_type number function named is (d ∷ []) (w ∷ []) names [] None own nothing own (sym one)
      (subst (λ (z : Signature). AllMayBe z.parameters (w ∷ [])) (sym signature) (pointer_value e w pointer, tt)) (λ j a here. first_argument j a here) thread this_is of_sorts required typed (sums_turn nothing own own (nothing_is_neutral own))
      (λ j l result q2 own2 typed_result ensured typed2 sums2. (first_done e 0 d [] result own2 (q2, ensured, sums2), ended_safe (left_after 0 (d ∷ [])) j own2))
    where
      first_argument : (j : ℕ) (a : Value) → slice_get (w ∷ []) j ≡ Some a → names (Numbered j) ≡ a
      first_argument zero a here = argument ∙ some_same here
      first_argument (suc j) a here = none_some here

      ended_safe : (ds : Duties) (j : ℕ) (own2 : Part) → Safe e p u ds j [] own2
      ended_safe ds zero own2 = tt
      ended_safe ds (suc j) own2 = tt

  pub prelude_safe : (n : ℕ) (st : SymbolicState) (m : ℕ) (frame : Frame) (callers : Thread) (own : Part) (target : Option ℕ) (g : Identity) (operands : List ExpressionTree) (place : Place) (next : ℕ) (function : PreludeFunction) (contract : ContractTree) (ts : List Term) (outs : List Outcome)
      → (r : Ready e p t duty f k n st (suc m) frame callers own) → slice_get f.steps n ≡ Some (Call target g operands place next) → prelude_named g ≡ Some function → HasPreludeContract e p function contract → st.names CurrentThread ≡ Some (Variable CurrentThread) → AreInhabited e contract.sorts
      → ((signature_of function).result ≡ Void → target ≡ None) → EvaluatesAll e st.path st.locals operands ts → length ts ≡ contract.parameters → AreSorted e st.path contract.sorts ts
      → Consume e p contract.sorts all_of_it contract.requires_this (call_store ts) st (λ s1 st1.
      (y : ℕ) × IsNew y all_of_it s1 [] st1 × AreFixed contract s1
      × Produce e p contract.sorts all_of_it contract.ensures_this (stored s1 Result (symbol y)) (assuming_all st1 (facts_of_result (signature_of function).result (symbol y)))
      (λ s2 st2. IsAmong outs s2 (receiving target (symbol y) st2)))
      → ((s : terms.Store) (su : SymbolicState) → IsAmong outs s su → (j : ℕ) → j < suc m → (fr : Frame) (own2 : Part) → Ready e p t duty f k next su j fr callers own2 → Safe e p t duty j (fr ∷ callers) own2)
      → Safe e p t duty (suc m) (frame ∷ callers) own
  prelude_safe n st m frame callers own target g operands place next function contract ts outs r is named known of_thread inhabited to ev count sorted consume go s rest all going frames within sums fits typed shaped =
      let v = r.symbols in
      let ws = map (value_in e v) ts in
      let at = here e p t duty f k n st (suc m) frame callers own s (Call target g operands place next) r is going frames in
      let value = evaluates_all e v st.path st.locals frame.locals operands ts ev (r.stands).path (r.stands).locals_mean in
      let c = consumed e p contract.sorts all_of_it whole frame.locals r.names contract.requires_this (call_store ts) st _ consume v r.part r.stands (sorted_arguments e p t duty f k v st.path contract.sorts ts sorted (r.stands).path) refl in
      let (y, fresh, fixed, produce) = c.holds in
      let names = completed e c.under contract.sorts inhabited c.store in
      let means = completed_means e c.under contract.sorts inhabited c.store in
      let inner = apart c.off c.left r.part r.kept own c.sums r.sums in
      let thread_is : names CurrentThread ≡ values.Number (pos t) =
      sym (means CurrentThread (Variable CurrentThread) (c.grows CurrentThread (Variable CurrentThread) (stored_own (store_of ts) CurrentThread (Variable CurrentThread))))
      ∙ c.stays CurrentThread (Variable CurrentThread) (stored_own (store_of ts) CurrentThread (Variable CurrentThread))
      ∙ (r.stands).names_mean CurrentThread (Variable CurrentThread) of_thread ∙ r.thread in
      let begins : (j : ℕ) (w : Value) → slice_get ws j ≡ Some w → names (Numbered j) ≡ w = λ j w h.
      let z = argument_at e p t duty f k v ts j w h in
      let there = stored_other (store_of ts) CurrentThread (Numbered j) (Variable CurrentThread) (λ x. number_thread x) ∙ z.1 in
      sym (means (Numbered j) z.0 (c.grows (Numbered j) z.0 there)) ∙ c.stays (Numbered j) z.0 there ∙ z.2 in
      prelude_secure e p t duty (λ u ds. Safe e p u ds m) s f frame callers target g operands place next ws names c.off inner.0 own rest all function contract known at value named
      (record {
        long = mapped_long e p t duty f k v ts ∙ count;
        begins = begins;
        thread = thread_is;
        of_sorts = completed_sorted e c.under contract.sorts inhabited c.store c.sorted;
        required = (c.depth, c.satisfies names means);
        parted = inner.2;
        sums = sums;
        fits = fits;
        typed = typed;
        shaped = shaped;
        within = within;
      })
      (threads_begin m r.others)
      (λ result q2 own2 typed_result ensured typed2 sums2.
      after_call e p t duty f k n st m frame callers own target next (signature_of function).result contract outs r to go c.under c.left c.store c.state y names fresh fixed means produce c.stands inner.0 inner.1 m (omega arith) result q2 own2 typed_result ensured typed2 sums2)
    where
      number_thread : {j : ℕ} → Numbered j ≡ CurrentThread → ⊥
      number_thread h = cc
