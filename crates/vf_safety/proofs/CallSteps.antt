-- Calls of functions of the program.
use Rattle.std.proofs.Common.{◌≡◌, ℕ, zero, suc, ◌<◌, pos, cond, List, [], ◌∷◌, length, map, slice_get, Option, Some, None, refl, sym, ap, subst, ◌∙◌, arith}
use Rattle.vf_base.specs.declared.place.Place.{Place}
use Rattle.vf_tree.specs.Core.{Identity, TypeTree, Void, ExpressionTree, Call, FunctionTree, ProgramTree}
use Rattle.vf_model.specs.Values.{Dyadic, Value, compares}
use Rattle.vf_model.specs.Values as values
use Rattle.vf_model.specs.State.{Frame, Thread, State, Turn, Returned, at_step, with_local, with_frames, over_memory, goes_on, sets, entered, ended, function_named}
use Rattle.vf_model.specs.State as state
use Rattle.vf_model.specs.PreludeFunctions.{prelude_named}
use Rattle.vf_meaning.specs.Fractions.{whole}
use Rattle.vf_meaning.specs.Ghost.{Sort, Numbered, Result, CurrentThread, Variable}
use Rattle.vf_meaning.specs.Valuations.{Valuation, bound}
use Rattle.vf_meaning.specs.Assertions.{ContractTree, Environment}
use Rattle.vf_meaning.specs.Sorts.{AreOfSorts}
use Rattle.vf_meaning.specs.Parts.{Part, IsSum}
use Rattle.vf_meaning.specs.Kept.{Ensures, with_result}
use Rattle.vf_meaning.proofs.Values.{tells_names}
use Rattle.vf_rules.specs.Terms.{Term, stored}
use Rattle.vf_rules.specs.Terms as terms
use Rattle.vf_rules.specs.States.{Fact, SymbolicState, value_in, Meets, StoreMeans, StandsFor, assuming_all}
use Rattle.vf_rules.specs.Fresh.{symbol, IsNew}
use Rattle.vf_rules.specs.Types.{facts_of_type, IsTypedPart}
use Rattle.vf_rules.specs.Produce.{Produce}
use Rattle.vf_rules.specs.Consume.{EntailsAll, Consume}
use Rattle.vf_rules.specs.Laws.{Outcome, IsAmong, StoreSorted}
use Rattle.vf_rules.specs.Predicates.{store_of, AreSorted}
use Rattle.vf_rules.specs.Evaluate.{EvaluatesAll}
use Rattle.vf_rules.specs.Accept.{all_of_it, receiving, facts_of_types, facts_of_result, call_store, HasContract, AreFixed, pointer_store}
use Rattle.vf_meaning.specs.Valuations.{count}
use Rattle.vf_meaning.specs.Ghost.{This}
use Rattle.vf_model.specs.State.{Aborted, after_output}
use Rattle.vf_model.specs.Values.{number_of}
use Rattle.vf_rules.proofs.Terms.{fresh_store, stored_means, own_symbol, stored_own, stored_other}
use Rattle.vf_rules.proofs.Stands.{stands_fresh, assuming_all_stands}
use Rattle.vf_rules.proofs.Produces.{produced, type_met}
use Rattle.vf_rules.proofs.Consumes.{consumed}
use Rattle.vf_rules.proofs.Evaluates.{evaluates_all}
use Rattle.vf_rules.proofs.Opening.{completed, completed_means, completed_sorted}
use Rattle.vf_safety.specs.Safe.{Duties, Safe, returned, IsResult, Continues}
use Rattle.vf_safety.proofs.Duties.{one_more_call, none_left, none_done}
use Rattle.vf_safety.proofs.Steps.{StartsNone, in_call, apart, together, local_secure, typed_of_left}
use Rattle.vf_safety.proofs.Typing.{types_back, all_entailed, bound_stored, result_sorted}
use Rattle.vf_safety.proofs.Ready.{Ready, here, positive_whole, some_same, none_some, call_act, with_locals, below, continues_below}

module _ (e : Environment) (p : ProgramTree) (t : ℕ) (duty : Duties) (f : FunctionTree) (k : ContractTree) where
  -- ---- calls
  -- the frame that a call returns to, with the result
  unfoldable pub back_to : Frame → ℕ → Option ℕ → Option Value → Frame
  back_to frame next target result = state.with_result (at_step frame next) target result

  pub resumed : (n next : ℕ) (st su : SymbolicState) (m j : ℕ) (frame : Frame) (callers : Thread) (own own2 : Part) (r : Ready e p t duty f k n st (suc m) frame callers own) (target : Option ℕ) (result : Option Value) (y : Term) (type : TypeTree) (v : Valuation) (q : Part)
      → j < suc m → IsResult e p t type result → (type ≡ Void → target ≡ None) → ((w : Value) → result ≡ Some w → value_in e v y ≡ w)
      → StandsFor e v su frame.locals r.names q → IsTypedPart e p own2 → IsSum q r.kept own2 → Ready e p t duty f k next (receiving target y su) j (back_to frame next target result) callers own2
  unfolding back_to
  resumed n next st su m j frame callers own own2 r None result y type v q l typed_result to value stands typed sums = record {
    symbols = v;
    names = r.names;
    part = q;
    kept = r.kept;
    function = r.function;
    step = refl;
    stands = stands;
    of_sorts = r.of_sorts;
    thread = r.thread;
    typed = typed;
    sums = sums;
    continues = continues_below e p t duty j (suc m) callers frame.target f.signature.result k r.names r.kept l r.continues;
    others = λ u. below e p u j (suc m) l (r.others u);
  }
  resumed n next st su m j frame callers own own2 r (Some x) (Some w) y type v q l typed_result to value stands typed sums = record {
    symbols = v;
    names = r.names;
    part = q;
    kept = r.kept;
    function = r.function;
    step = refl;
    stands = with_locals e v su frame.locals r.names q x y w (value w refl) stands;
    of_sorts = r.of_sorts;
    thread = r.thread;
    typed = typed;
    sums = sums;
    continues = continues_below e p t duty j (suc m) callers frame.target f.signature.result k r.names r.kept l r.continues;
    others = λ u. below e p u j (suc m) l (r.others u);
  }
  resumed n next st su m j frame callers own own2 r (Some x) None y type v q l typed_result to value stands typed sums = none_some (sym (to typed_result))

  pub result_facts : (v : Valuation) (type : TypeTree) (y : Term) (result : Option Value) → IsResult e p t type result → ((w : Value) → result ≡ Some w → value_in e v y ≡ w) → Meets e v (facts_of_result type y)
  result_facts v type y (Some w) h is = type_met e v type y w (is w refl) h
  result_facts v type y None h is = subst (λ z. Meets e v (facts_of_type z y)) (sym h) tt

  -- the value of the symbol of a result
  pub result_or : Option Value → Value → Value
  result_or (Some w) u = w
  result_or None u = u

  pub with_result_means : (v : Valuation) (s : terms.Store) (w : Valuation) (y : Term) (result : Option Value) → StoreMeans e v s w → value_in e v y ≡ result_or result (w Result) → StoreMeans e v (stored s Result y) (with_result w result)
  unfolding result_or
  with_result_means v s w y (Some u) m is = bound_stored e v s w Result y u m is
  with_result_means v s w y None m is = stored_means e v s w Result y m is

  pub with_result_sorted : (w : Valuation) (sorts : List Sort) (result : Option Value) → AreOfSorts e w sorts → AreOfSorts e (with_result w result) sorts
  with_result_sorted w sorts None h = h
  with_result_sorted w sorts (Some u) h = result_sorted e w u sorts h

  pub result_value : (result : Option Value) (u w : Value) → result ≡ Some w → result_or result u ≡ w
  unfolding result_or
  result_value (Some x) u w h = some_same h
  result_value None u w h = none_some h

  pub result_bound : (w : Valuation) (result : Option Value) (u : Value) → result ≡ Some u → with_result w result Result ≡ u
  result_bound w (Some x) u h = bound_own w x ∙ some_same h
    where
      bound_own : (w : Valuation) (x : Value) → bound w Result x Result ≡ x
      bound_own w x = ap (λ b. cond b x (w Result)) ((tells_names Result Result).1 refl)
  result_bound w None u h = none_some h

  pub sorted_arguments : (v : Valuation) (path : List Fact) (sorts : List Sort) (ts : List Term) → AreSorted e path sorts ts → Meets e v path → StoreSorted e v sorts (call_store ts)
  sorted_arguments v path sorts ts h m n so z is known = (h n so z known (sym (stored_other (store_of ts) CurrentThread (Numbered n) (Variable CurrentThread) (λ c. clash c)) ∙ is)).by v m
    where
      clash : Numbered n ≡ CurrentThread → ⊥
      clash c = cc

  pub pointer_sorted : (v : Valuation) (sorts : List Sort) (ts : List Term) (z : Term) → StoreSorted e v sorts (call_store ts) → StoreSorted e v sorts (pointer_store ts z)
  pointer_sorted v sorts ts z h n so u is known = h n so u (sym (stored_other (call_store ts) This (Numbered n) z (λ x. clash x)) ∙ is) known
    where
      clash : Numbered n ≡ This → ⊥
      clash x = cc

  pub argument_at : (v : Valuation) (ts : List Term) (j : ℕ) (w : Value) → slice_get (map (value_in e v) ts) j ≡ Some w → (z : Term) × (slice_get ts j ≡ Some z) × (value_in e v z ≡ w)
  argument_at v [] j w h = none_some h
  argument_at v (z ∷ ts) zero w h = (z, refl, some_same h)
  argument_at v (z ∷ ts) (suc j) w h = argument_at v ts j w h

  pub mapped_long : (v : Valuation) (ts : List Term) → length (map (value_in e v) ts) ≡ length ts
  mapped_long v [] = refl
  mapped_long v (z ∷ ts) = ap suc (mapped_long v ts)

  -- behind a call, in fewer steps
  pub after_call : (n : ℕ) (st : SymbolicState) (m : ℕ) (frame : Frame) (callers : Thread) (own : Part) (target : Option ℕ) (next : ℕ) (type : TypeTree) (contract : ContractTree) (outs : List Outcome) (r : Ready e p t duty f k n st (suc m) frame callers own)
      → (type ≡ Void → target ≡ None)
      → ((s : terms.Store) (su : SymbolicState) → IsAmong outs s su → (j : ℕ) → j < suc m → (fr : Frame) (own2 : Part) → Ready e p t duty f k next su j fr callers own2 → Safe e p t duty j (fr ∷ callers) own2)
      → (u : Valuation) (left : Part) (s1 : terms.Store) (st1 : SymbolicState) (y : ℕ) (names : Valuation) → IsNew y all_of_it s1 [] st1 → AreFixed contract s1 → StoreMeans e u s1 names
      → Produce e p contract.sorts all_of_it contract.ensures_this (stored s1 Result (symbol y)) (assuming_all st1 (facts_of_result type (symbol y))) (λ s2 st2. IsAmong outs s2 (receiving target (symbol y) st2))
      → StandsFor e u st1 frame.locals r.names left → (beside0 : Part) → IsSum left r.kept beside0
      → (j : ℕ) → j < suc m → (result : Option Value) (q2 own2 : Part) → IsResult e p t type result → Ensures e contract names result q2 → IsTypedPart e p own2 → IsSum q2 beside0 own2
      → Safe e p t duty j (state.with_result (at_step frame next) target result ∷ callers) own2
  unfolding back_to
  after_call n st m frame callers own target next type contract outs r to go u left s1 st1 y names fresh fixed means produce stands beside0 inner j l result q2 own2 typed_result ensured typed2 sums2 =
      let w = ensured.later in
      let later_means : StoreMeans e u s1 w = λ x z h. means x z h ∙ sym (ensured.fixed x (fixed x z h)) in
      let yv = result_or result (w Result) in
      let v2 = bound u (Numbered y) yv in
      let own_symbol_is : value_in e v2 (symbol y) ≡ yv = own_symbol u y yv in
      let value_is : (x : Value) → result ≡ Some x → value_in e v2 (symbol y) ≡ x = λ x h. own_symbol_is ∙ result_value result (w Result) x h in
      let means2 = with_result_means v2 s1 w (symbol y) result (fresh_store e u y yv s1 w fresh.store later_means) own_symbol_is in
      let stands2 = assuming_all_stands e v2 st1 frame.locals r.names left _ (result_facts v2 type (symbol y) result typed_result value_is) (stands_fresh e u y yv st1 frame.locals r.names left fresh.state stands) in
      let inside = together q2 left r.kept beside0 own2 inner sums2 in
      let o = produced e p contract.sorts all_of_it whole (ensured.satisfies).0 frame.locals r.names contract.ensures_this (stored s1 Result (symbol y)) (assuming_all st1 (facts_of_result type (symbol y)))
      (λ s2 st2. IsAmong outs s2 (receiving target (symbol y) st2)) produce v2 (with_result w result) q2 left inside.0 stands2 means2 (with_result_sorted w contract.sorts result ensured.sorts) refl positive_whole (ensured.satisfies).1
      (typed_of_left e p q2 beside0 own2 sums2 typed2) inside.1 in
      let symbol_is : (x : Value) → result ≡ Some x → value_in e o.under (symbol y) ≡ x = λ x h. o.means Result (symbol y) (o.grows Result (symbol y) (stored_own s1 Result (symbol y))) ∙ result_bound w result x h in
      go o.store (receiving target (symbol y) o.state) o.holds j l (state.with_result (at_step frame next) target result) own2
      (resumed n next st o.state m j frame callers own own2 r target result (symbol y) type o.under inside.0 l typed_result to symbol_is o.stands typed2 inside.2)

  pub call_safe : (n : ℕ) (st : SymbolicState) (m : ℕ) (frame : Frame) (callers : Thread) (own : Part) (target : Option ℕ) (g : Identity) (operands : List ExpressionTree) (place : Place) (next number : ℕ) (callee : FunctionTree) (contract : ContractTree) (ts : List Term) (outs : List Outcome)
      → (r : Ready e p t duty f k n st (suc m) frame callers own) → slice_get f.steps n ≡ Some (Call target g operands place next) → prelude_named g ≡ None → st.names CurrentThread ≡ Some (Variable CurrentThread) → function_named p g ≡ Some number → slice_get p.functions number ≡ Some callee
      → HasContract e callee contract → (callee.signature.result ≡ Void → target ≡ None) → EvaluatesAll e st.path st.locals operands ts → length ts ≡ contract.parameters
      → EntailsAll e st.path (facts_of_types callee.signature.parameters ts) → AreSorted e st.path contract.sorts ts
      → Consume e p contract.sorts all_of_it contract.requires_this (call_store ts) st (λ s1 st1.
      (y : ℕ) × IsNew y all_of_it s1 [] st1 × AreFixed contract s1
      × Produce e p contract.sorts all_of_it contract.ensures_this (stored s1 Result (symbol y)) (assuming_all st1 (facts_of_result callee.signature.result (symbol y)))
      (λ s2 st2. IsAmong outs s2 (receiving target (symbol y) st2)))
      → ((s : terms.Store) (su : SymbolicState) → IsAmong outs s su → (j : ℕ) → j < suc m → (fr : Frame) (own2 : Part) → Ready e p t duty f k next su j fr callers own2 → Safe e p t duty j (fr ∷ callers) own2)
      → Safe e p t duty (suc m) (frame ∷ callers) own
  unfolding back_to
  call_safe n st m frame callers own target g operands place next number callee contract ts outs r is outside of_thread named callee_is has to ev count types sorted consume go s rest all going frames within sums fits typed shaped =
      let v = r.symbols in
      let ws = map (value_in e v) ts in
      let at = here e p t duty f k n st (suc m) frame callers own s (Call target g operands place next) r is going frames in
      let value = evaluates_all e v st.path st.locals frame.locals operands ts ev (r.stands).path (r.stands).locals_mean in
      let c = consumed e p contract.sorts all_of_it whole frame.locals r.names contract.requires_this (call_store ts) st _ consume v r.part r.stands (sorted_arguments v st.path contract.sorts ts sorted (r.stands).path) refl in
      let (y, fresh, fixed, produce) = c.holds in
      let names = completed e c.under contract.sorts has.inhabited c.store in
      let means = completed_means e c.under contract.sorts has.inhabited c.store in
      let inner = apart c.off c.left r.part r.kept own c.sums r.sums in
      let thread_is : names CurrentThread ≡ values.Number (pos t) =
      sym (means CurrentThread (Variable CurrentThread) (c.grows CurrentThread (Variable CurrentThread) (stored_own (store_of ts) CurrentThread (Variable CurrentThread))))
      ∙ c.stays CurrentThread (Variable CurrentThread) (stored_own (store_of ts) CurrentThread (Variable CurrentThread))
      ∙ (r.stands).names_mean CurrentThread (Variable CurrentThread) of_thread ∙ r.thread in
      let begins : (j : ℕ) (w : Value) → slice_get ws j ≡ Some w → names (Numbered j) ≡ w = λ j w h.
      let z = argument_at v ts j w h in
      let there = stored_other (store_of ts) CurrentThread (Numbered j) (Variable CurrentThread) (λ x. number_thread x) ∙ z.1 in
      sym (means (Numbered j) z.0 (c.grows (Numbered j) z.0 there)) ∙ c.stays (Numbered j) z.0 there ∙ z.2 in
      let continues : Continues e p t duty m (at_step frame next ∷ callers) target callee.signature.result contract names inner.0 = λ j l result q2 own2 typed_result ensured typed2 sums2. (
        none_done e (suc (length callers)) duty result own2 within,
        subst (λ z. Safe e p t z j (returned e p t (at_step frame next ∷ callers) target result) own2) (sym (none_left (suc (length callers)) duty within))
            (after_call n st m frame callers own target next callee.signature.result contract outs r to go c.under c.left c.store c.state y names fresh fixed means produce c.stands inner.0 inner.1 j (less j m l) result q2 own2 typed_result ensured typed2 sums2),
      ) in
      let callee_safe = (r.others t).functions m (omega arith) number callee contract callee_is has duty ws names (at_step frame next ∷ callers) target c.off inner.0 own (mapped_long v ts ∙ count)
      (types_back e v callee.signature.parameters ts (all_entailed e st.path _ types v (r.stands).path)) begins thread_is (completed_sorted e c.under contract.sorts has.inhabited c.store c.sorted)
      (c.depth, c.satisfies names means) r.typed inner.2 continues in
      local_secure e p t duty (λ u ds. Safe e p u ds m) s f frame callers (Call target g operands place next) (entered number callee ws target ∷ at_step frame next ∷ callers) own rest all at (subst StartsNone (sym outside) tt) tt (in_call (one_more_call (suc (length callers)) duty within))
      (call_act p s t frame callers target g operands place next number callee ws value outside named callee_is) sums fits typed shaped callee_safe
    where
      number_thread : {j : ℕ} → Numbered j ≡ CurrentThread → ⊥
      number_thread h = cc

      less : (j m : ℕ) → j < m → j < suc m
      less j m l = omega (arith, l)
