-- Calls through pointers.
use Rattle.std.proofs.Common.{◌≡◌, ℕ, suc, ◌<◌, pos, List, [], ◌∷◌, length, map, slice_get, Option, Some, None, refl, sym, ap, ap₂, subst, ◌∙◌, arith}
use Rattle.std.specs.Prelude.{IsTrue}
use Rattle.vf_base.specs.declared.place.Place.{Place}
use Rattle.vf_tree.specs.Core.{Identity, Void, ExpressionTree, FunctionTree, ProgramTree}
use Rattle.vf_model.specs.Values.{Dyadic, Value, compares}
use Rattle.vf_model.specs.Values as values
use Rattle.vf_model.specs.State.{Frame, Thread, State, at_step, with_frames, entered}
use Rattle.vf_model.specs.Evaluation.{Gives, evaluate, evaluate_all}
use Rattle.vf_model.specs.Acts.{Goes}
use Rattle.vf_meaning.specs.Fractions.{whole}
use Rattle.vf_meaning.specs.Ghost.{Name, Numbered, Result, CurrentThread, Variable}
use Rattle.vf_meaning.specs.Valuations.{Valuation}
use Rattle.vf_meaning.specs.Assertions.{ContractTree, Environment}
use Rattle.vf_meaning.specs.Sorts.{AreOfSorts}
use Rattle.vf_meaning.specs.Parts.{Part, IsSum}
use Rattle.vf_meaning.specs.Satisfaction.{Satisfies}
use Rattle.vf_meaning.specs.Kept.{Promise, CallsPointer}
use Rattle.vf_rules.specs.Terms.{Term, stored}
use Rattle.vf_rules.specs.Terms as terms
use Rattle.vf_rules.specs.States.{Holds, SymbolicState, value_in, StoreMeans, Entails, assuming_all}
use Rattle.vf_rules.specs.Fresh.{symbol, IsNew}
use Rattle.vf_rules.specs.Produce.{Produce}
use Rattle.vf_rules.specs.Consume.{EntailsAll, Consume}
use Rattle.vf_rules.specs.Laws.{Outcome, IsAmong, Grows}
use Rattle.vf_rules.specs.Predicates.{store_of, AreSorted}
use Rattle.vf_rules.specs.Evaluate.{Evaluates, EvaluatesAll}
use Rattle.vf_rules.specs.Accept.{all_of_it, receiving, facts_of_types, facts_of_result, call_store, AreFixed, pointer_store}
use Rattle.vf_rules.specs.Threads.{HasSignature}
use Rattle.vf_rules.specs.Predicates.{AreInhabited}
use Rattle.vf_meaning.specs.Valuations.{in_row, count}
use Rattle.vf_meaning.specs.Satisfaction.{BeginsWith}
use Rattle.vf_rules.proofs.Opening.{counted_row, begins_row}
use Rattle.vf_tree.specs.Core.{Signature, CallPointer}
use Rattle.vf_meaning.specs.Ghost.{This, Claims}
use Rattle.vf_safety.specs.Safe.{Duty, Promised}
use Rattle.vf_safety.proofs.Duties.{first_done, one_left}
use Rattle.vf_safety.proofs.Calls.{claimed_function, pointer_act, entered_went}
use Rattle.vf_model.specs.Values.{number_of}
use Rattle.vf_rules.proofs.Terms.{stored_own, stored_other}
use Rattle.vf_rules.proofs.Consumes.{consumed}
use Rattle.vf_rules.proofs.Evaluates.{evaluates, evaluates_all}
use Rattle.vf_rules.proofs.Opening.{completed, completed_means, completed_sorted}
use Rattle.vf_safety.specs.Safe.{Duties, event_of, Safe, returned, Continues}
use Rattle.vf_safety.proofs.Steps.{in_call, Here, turn_of, apart, secure, not_left, same_place}
use Rattle.vf_safety.proofs.Typing.{AllMayBe, types_back, all_entailed}
use Rattle.vf_safety.proofs.Ready.{Ready, here, some_same, none_some}
use Rattle.vf_safety.proofs.Returns.{depth_is, gives_same, goes_fault, goes_touch}
use Rattle.vf_safety.proofs.CallSteps.{back_to, sorted_arguments, pointer_sorted, argument_at, mapped_long, after_call}

module _ (e : Environment) (p : ProgramTree) (t : ℕ) (duty : Duties) (f : FunctionTree) (k : ContractTree) where
  -- ---- calls through pointers
  numbers_only : (v u : Valuation) (ts : List Term) (s r : terms.Store) (names : Valuation) → ((j : ℕ) (z : Term) → slice_get ts j ≡ Some z → s (Numbered j) ≡ Some z) → Grows s r → ((x : Name) (z : Term) → s x ≡ Some z → value_in e u z ≡ value_in e v z)
      → StoreMeans e u r names → StoreMeans e v (store_of ts) names
  numbers_only v u ts s r names there grows stays means (Numbered j) z is = sym (stays (Numbered j) z (there j z is)) ∙ means (Numbered j) z (grows (Numbered j) z (there j z is))
  numbers_only v u ts s r names there grows stays means Result z is = none_some is
  numbers_only v u ts s r names there grows stays means This z is = none_some is
  numbers_only v u ts s r names there grows stays means CurrentThread z is = none_some is

  pointer_same : {target target' : Option ℕ} {a a' : ExpressionTree} {signature signature' : Signature} {operands operands' : List ExpressionTree} {place place' : Place} {next next' : ℕ}
      → CallPointer target a signature operands place next ≡ CallPointer target' a' signature' operands' place' next' → (a ≡ a') × (operands ≡ operands')
  pointer_same h = (cc, cc)

  gives_all : {us ws : List Value} → Gives us ≡ Gives ws → us ≡ ws
  gives_all h = cc

  -- the call that the machine sees is the one that the rule has
  promised : (s : State) (frame : Frame) (callers : Thread) (own : Part) (n : ℕ) (target : Option ℕ) (a : ExpressionTree) (signature : Signature) (operands : List ExpressionTree) (place : Place) (next : ℕ) (type g : Identity) (contract : ContractTree) (ws : List Value) (names : Valuation) (off beside0 : Part)
      → Here p s t f frame callers (CallPointer target a signature operands place next) → frame.step ≡ n → e.called f.identity n ≡ Some type → e.types type ≡ Some contract → evaluate frame.locals a ≡ Gives (values.Function g) → evaluate_all frame.locals operands ≡ Gives ws
      → IsTrue (e.claims g type) → length ws ≡ contract.parameters → BeginsWith names (in_row ws) → names This ≡ values.Function g → names CurrentThread ≡ values.Number (pos t) → AreOfSorts e names contract.sorts → Satisfies e whole contract.requires_this names off → IsSum off beside0 own
      → (grant : ℕ) (call : Promise) → CallsPointer e p s (event_of t grant) call → Promised e call duty (record { contract = contract; names = names; rest = beside0; below = suc (length callers) } ∷ duty) own
  promised s frame callers own n target a signature operands place next type g contract ws names off beside0 at step called of_type value arguments claimed long begins this_is thread sorts required sums grant call h =
      let same_at = same_place p s t f h.f frame h.frame callers h.callers (CallPointer target a signature operands place next) _ at h.at in
      let parts = pointer_same (sym same_at.steps) in
      let type_is : type ≡ call.type = some_same (sym called ∙ ap₂ (λ (z : FunctionTree) k0. e.called z.identity k0) (sym same_at.functions) (sym step ∙ ap (λ (z : Frame). z.step) (sym same_at.frames)) ∙ h.type) in
      let callee_is : call.callee ≡ values.Function g = gives_same e p t duty f k (sym h.callee ∙ ap₂ (λ (z : Frame) x. evaluate z.locals x) same_at.frames (sym parts.0) ∙ value) in
      let values_are : h.values ≡ ws = gives_all (sym h.evaluated ∙ ap₂ (λ (z : Frame) x. evaluate_all z.locals x) same_at.frames (sym parts.1) ∙ arguments) in
      let row_is : call.arguments ≡ in_row ws = h.arguments ∙ ap in_row values_are in
      record {
        duty = record { contract = contract; names = names; rest = beside0; below = suc (length callers) };
        pushed = refl;
        function = g;
        callee = callee_is;
        claimed = subst (λ z. IsTrue (e.claims g z)) type_is claimed;
        of_type = subst (λ z. e.types z ≡ Some contract) type_is of_type;
        valued = record {
          this_one = this_is;
          current = thread ∙ ap (λ z. values.Number (pos z)) (sym h.thread);
          number = ap count row_is ∙ counted_row ws ∙ long;
          begins = subst (BeginsWith names) (sym row_is) begins;
          sorts = sorts;
        };
        passed = off;
        required = required;
        sums = sums;
        below = ap (λ (z : Thread). suc (length z)) (sym same_at.callers_are) ∙ sym h.below;
      }

  pub call_pointer_safe : (n : ℕ) (st : SymbolicState) (m : ℕ) (frame : Frame) (callers : Thread) (own : Part) (target : Option ℕ) (a : ExpressionTree) (signature : Signature) (operands : List ExpressionTree) (place : Place) (next : ℕ) (type : Identity) (contract : ContractTree) (z : Term) (ts : List Term) (outs : List Outcome)
      → (r : Ready e p t duty f k n st (suc m) frame callers own) → slice_get f.steps n ≡ Some (CallPointer target a signature operands place next) → e.called f.identity n ≡ Some type → e.types type ≡ Some contract → st.names CurrentThread ≡ Some (Variable CurrentThread)
      → ((g : Identity) → IsTrue (e.claims g type) → HasSignature p g signature) → AreInhabited e contract.sorts
      → Evaluates e st.path st.locals a z → Entails e st.path (Holds (Claims type z))
      → (signature.result ≡ Void → target ≡ None) → EvaluatesAll e st.path st.locals operands ts → length ts ≡ contract.parameters
      → EntailsAll e st.path (facts_of_types signature.parameters ts) → AreSorted e st.path contract.sorts ts
      → Consume e p contract.sorts all_of_it contract.requires_this (pointer_store ts z) st (λ s1 st1.
      (y : ℕ) × IsNew y all_of_it s1 [] st1 × AreFixed contract s1
      × Produce e p contract.sorts all_of_it contract.ensures_this (stored s1 Result (symbol y)) (assuming_all st1 (facts_of_result signature.result (symbol y)))
      (λ s2 st2. IsAmong outs s2 (receiving target (symbol y) st2)))
      → ((s : terms.Store) (su : SymbolicState) → IsAmong outs s su → (j : ℕ) → j < suc m → (fr : Frame) (own2 : Part) → Ready e p t duty f k next su j fr callers own2 → Safe e p t duty j (fr ∷ callers) own2)
      → Safe e p t duty (suc m) (frame ∷ callers) own
  unfolding back_to
  call_pointer_safe n st m frame callers own target a signature operands place next type contract z ts outs r is called of_type of_thread signed inhabited ep claims to ev long types sorted consume go s rest all going frames within sums fits typed shaped =
      let v = r.symbols in
      let ws = map (value_in e v) ts in
      let at = here e p t duty f k n st (suc m) frame callers own s (CallPointer target a signature operands place next) r is going frames in
      let (g, is_g, claimed) = claimed_function e type (value_in e v z) (claims.by v (r.stands).path) in
      let sig = signed g claimed in
      let pointer = evaluates e v st.path st.locals frame.locals a z ep (r.stands).path (r.stands).locals_mean ∙ ap Gives is_g in
      let value = evaluates_all e v st.path st.locals frame.locals operands ts ev (r.stands).path (r.stands).locals_mean in
      let c = consumed e p contract.sorts all_of_it whole frame.locals r.names contract.requires_this (pointer_store ts z) st _ consume v r.part r.stands
      (pointer_sorted e p t duty f k v contract.sorts ts z (sorted_arguments e p t duty f k v st.path contract.sorts ts sorted (r.stands).path)) refl in
      let (y, fresh, fixed, produce) = c.holds in
      let names = completed e c.under contract.sorts inhabited c.store in
      let means = completed_means e c.under contract.sorts inhabited c.store in
      let inner = apart c.off c.left r.part r.kept own c.sums r.sums in
      let bound_is : (x : Name) (u : Term) → pointer_store ts z x ≡ Some u → names x ≡ value_in e v u = λ x u known. sym (means x u (c.grows x u known)) ∙ c.stays x u known in
      let thread_there = stored_other (call_store ts) This CurrentThread z (λ h. thread_this h) ∙ stored_own (store_of ts) CurrentThread (Variable CurrentThread) in
      let thread_is : names CurrentThread ≡ values.Number (pos t) = bound_is CurrentThread (Variable CurrentThread) thread_there ∙ (r.stands).names_mean CurrentThread (Variable CurrentThread) of_thread ∙ r.thread in
      let this_is : names This ≡ values.Function g = bound_is This z (stored_own (call_store ts) This z) ∙ is_g in
      let number_there : (j : ℕ) (u : Term) → slice_get ts j ≡ Some u → pointer_store ts z (Numbered j) ≡ Some u = λ j u h. stored_other (call_store ts) This (Numbered j) z (λ x. number_this x) ∙ stored_other (store_of ts) CurrentThread (Numbered j) (Variable CurrentThread) (λ x. number_current x) ∙ h in
      let begins : (j : ℕ) (w : Value) → slice_get ws j ≡ Some w → names (Numbered j) ≡ w = λ j w h. let x = argument_at e p t duty f k v ts j w h in bound_is (Numbered j) x.0 (number_there j x.0 x.1) ∙ x.2 in
      let row = begins_row e v names ts (numbers_only v c.under ts (pointer_store ts z) c.store names number_there c.grows c.stays means) in
      let d : Duty = record { contract = contract; names = names; rest = inner.0; below = suc (length callers) } in
      let of_sorts = completed_sorted e c.under contract.sorts inhabited c.store c.sorted in
      let continues : Continues e p t (d ∷ duty) m (at_step frame next ∷ callers) target signature.result contract names inner.0 = λ j l result q2 own2 typed_result ensured typed2 sums2. (
        first_done e (suc (length callers)) d duty result own2 (q2, ensured, sums2),
        subst (λ x. Safe e p t x j (returned e p t (at_step frame next ∷ callers) target result) own2) (sym (one_left (suc (length callers)) d duty refl))
            (after_call e p t duty f k n st m frame callers own target next signature.result contract outs r to go c.under c.left c.store c.state y names fresh fixed means produce c.stands inner.0 inner.1 j (one_below j m l) result q2 own2 typed_result ensured typed2 sums2),
      ) in
      let callee_safe = (r.others t).types m (omega arith) g type contract claimed of_type sig.number sig.function sig.named sig.is (d ∷ duty) ws names (at_step frame next ∷ callers) target c.off inner.0 own (mapped_long e p t duty f k v ts ∙ long)
      (subst (λ (x : Signature). AllMayBe x.parameters ws) (sym sig.signature_is) (types_back e v signature.parameters ts (all_entailed e st.path _ types v (r.stands).path))) begins thread_is this_is of_sorts
      (c.depth, c.satisfies names means) r.typed inner.2 (subst (λ (x : Signature). Continues e p t (d ∷ duty) m (at_step frame next ∷ callers) target x.result contract names inner.0) (sym sig.signature_is) continues) in
      secure e p t duty (λ u ds. Safe e p u ds m) s f frame callers (CallPointer target a signature operands place next) own rest all (Goes (with_frames (turn_of s t frame callers) (entered sig.number sig.function ws target ∷ at_step frame next ∷ callers))) at tt
      (pointer_act p s t frame callers target a signature operands place next g sig ws pointer value)
      (λ kind place h. goes_fault e p t duty f k h) (λ touch new c0 l h. goes_touch e p t duty f k h)
      (λ grant. entered_went e p t duty (λ u ds. Safe e p u ds m) s frame callers (entered sig.number sig.function ws target ∷ at_step frame next ∷ callers) d own rest all sums fits typed shaped frames callee_safe
      (in_call (omega arith, within)) (depth_is e p t duty f k s frame callers frames)
      (λ grant0 call h. promised s frame callers own n target a signature operands place next type g contract ws names c.off inner.0 at r.step called of_type pointer value claimed (mapped_long e p t duty f k v ts ∙ long)
      (subst (λ x. BeginsWith names (in_row x)) refl row) this_is thread_is of_sorts (c.depth, c.satisfies names means) inner.2 grant0 call h)
      (λ result back. not_left e p t duty (λ u ds. Safe e p u ds m) s f frame callers (CallPointer target a signature operands place next) at tt result back))
    where
      one_below : (j m : ℕ) → j < m → j < suc m
      one_below j m l = omega (arith, l)

      thread_this : CurrentThread ≡ This → ⊥
      thread_this h = cc

      number_this : {j : ℕ} → Numbered j ≡ This → ⊥
      number_this h = cc

      number_current : {j : ℕ} → Numbered j ≡ CurrentThread → ⊥
      number_current h = cc
