-- Returns from a body.
use Rattle.std.proofs.Common.{◌≡◌, ◌≢◌, ℕ, suc, ◌==◌, cond, List, [], ◌∷◌, length, slice_get, Option, Some, None, refl, sym, ap, subst, ◌∙◌, inl, inr, arith}
use Rattle.std.proofs.lemmas.Bool.{cases_Bool}
use Rattle.vf_base.specs.declared.place.Place.{Place}
use Rattle.vf_tree.specs.Core.{Void, ExpressionTree, Return, FunctionTree, ProgramTree}
use Rattle.vf_model.specs.declared.words.FaultKind.{FaultKind}
use Rattle.vf_model.specs.Values.{Value}
use Rattle.vf_model.specs.State.{Frame, Thread, State, Turn, Returned, at_step, with_local, with_frames, over_memory, goes_on, sets, entered, ended, function_named}
use Rattle.vf_model.specs.State as state
use Rattle.vf_model.specs.Evaluation.{Gives, evaluate}
use Rattle.vf_model.specs.Acts.{Touch, Goes, Touches, Faults, given}
use Rattle.vf_model.specs.Calls.{returned_number, returns}
use Rattle.vf_model.specs.Steps.{act_of}
use Rattle.vf_meaning.specs.Fractions.{whole}
use Rattle.vf_meaning.specs.Ghost.{Sort, Name, same_name, Numbered, Result}
use Rattle.vf_meaning.specs.Valuations.{Valuation, bound}
use Rattle.vf_meaning.specs.Assertions.{ContractTree, Environment}
use Rattle.vf_meaning.specs.Sorts.{HasSort, AreOfSorts}
use Rattle.vf_meaning.specs.Parts.{Part, nothing, IsSum}
use Rattle.vf_meaning.specs.Fits.{Fits}
use Rattle.vf_meaning.specs.Satisfaction.{SatisfiesAt}
use Rattle.vf_meaning.specs.Kept.{IsFixed, Ensures, IsReturned, Returns, Promise, CallsPointer, with_result, depth_in, depth}
use Rattle.vf_meaning.proofs.Values.{tells_names}
use Rattle.vf_meaning.proofs.Parts.{sums_turn, nothing_is_neutral}
use Rattle.vf_rules.specs.Terms.{Term, stored}
use Rattle.vf_rules.specs.Terms as terms
use Rattle.vf_rules.specs.States.{SymbolicState, value_in, ChunksMean, StoreMeans}
use Rattle.vf_rules.specs.Types.{IsTypedPart}
use Rattle.vf_rules.specs.Consume.{EntailsAll, Consume}
use Rattle.vf_rules.specs.Laws.{Grows, StoreSorted}
use Rattle.vf_rules.specs.Evaluate.{Evaluates}
use Rattle.vf_rules.specs.Accept.{all_of_it, facts_of_result, KeepsFixed}
use Rattle.vf_model.specs.State.{Aborted, after_output}
use Rattle.vf_rules.proofs.Terms.{stored_own, stored_other}
use Rattle.vf_rules.proofs.Consumes.{consumed}
use Rattle.vf_rules.proofs.Evaluates.{evaluates}
use Rattle.vf_safety.specs.Safe.{Duties, Within, left_after, DoneAt, DutiesChange, event_of, IsShaped, no_exchange, Went, Safe, returned}
use Rattle.vf_safety.proofs.Duties.{left_within, left_changes}
use Rattle.vf_safety.proofs.Steps.{Here, turn_of, secure, not_called, same_place, set_own, set_other}
use Rattle.vf_safety.proofs.Typing.{may_is, type_back, all_entailed}
use Rattle.vf_safety.proofs.Ready.{Ready, here, some_same, nothing_left, names_sorted, result_store_sorted}

module _ (e : Environment) (p : ProgramTree) (t : ℕ) (duty : Duties) (f : FunctionTree) (k : ContractTree) where
  -- ---- returns
  return_act : (s : State) (frame : Frame) (callers : Thread) (a : ExpressionTree) (w : Value) → evaluate frame.locals a ≡ Gives w → act_of p (turn_of s t frame callers) (Return (Some a)) ≡ Goes (returns (turn_of s t frame callers) (Some w))
  return_act s frame callers a w value = ap (λ z. given z (λ x. Goes (returns (turn_of s t frame callers) (Some x)))) value

  one_less : (a b : ℕ) → suc a ≡ suc b → a ≡ b
  one_less a b h = omega (arith, h)

  pub depth_is : (s : State) (frame : Frame) (callers : Thread) → slice_get s.threads t ≡ Some (frame ∷ callers) → depth s t ≡ suc (length callers)
  depth_is s frame callers h = ap depth_in h

  frames_nil : {x : Frame} {xs : Thread} → x ∷ xs ≡ [] → ⊥
  frames_nil h = cc

  ended_frames : (s : State) (frame : Frame) (callers : Thread) (w : Option Value) (rest own all : Part) → s.end ≡ None → slice_get s.threads t ≡ Some (frame ∷ callers) → Within (suc (length callers)) duty → IsSum own rest all → Fits all s.memory → IsTypedPart e p all → IsShaped p s.memory
      → (m : ℕ) → ((grant : ℕ) (call : Promise) → CallsPointer e p s (event_of t grant) call → ⊥) → ((result : Option Value) → Returns p s t result → (n : ℕ) → depth s t ≡ suc n → DoneAt e n duty result own)
      → DoneAt e (length callers) duty w own → Safe e p t (left_after (length callers) duty) m (returned e p t callers frame.target w) own → Went e p t (λ u ds. Safe e p u ds m) no_exchange duty s (returns (turn_of s t frame callers) w) rest all
  ended_frames s frame [] w rest own all going frames within sums fits typed shaped m direct leaves done safe =
      elim (cases_Bool (t == 0)) [
        | inl main ↦ subst (λ z. Went e p t (λ u ds. Safe e p u ds m) no_exchange duty s (cond z (ended (with_frames (turn_of s t frame []) []) (Returned (returned_number w))) (with_frames (turn_of s t frame []) [])) rest all) (sym main) (record {
          frames = [];
          own = own;
          given = nothing;
          leaked = nothing;
          unleaked = λ none. refl;
          lost = nothing;
          handed = refl;
          parted = nothing_is_neutral nothing;
          others = rest;
          all = all;
          given_up = sums_turn nothing rest rest (nothing_is_neutral rest);
          sums = sums;
          fits = fits;
          typed = typed;
          shaped = shaped;
          now = set_own s.threads t [] (frame ∷ []) frames;
          alone = λ u other unstarted. set_other s.threads t u [] other;
          begun = tt;
          unshared = λ b apart h. refl;
          unmoved = λ b apart h. refl;
          known = λ l c shared apart h. h;
          settled = tt;
          owing = left_after 0 duty;
          within = left_within 0 duty within;
          owes = subst (λ z. DutiesChange z 0 duty (left_after 0 duty)) (sym (depth_is s frame [] frames)) (left_changes 0 duty);
          going = λ h. safe;
          called = λ grant call h. absurd (direct grant call h);
          leaves = leaves;
          finished = λ none. (w, done);
        })
        | inr thread ↦ subst (λ z. Went e p t (λ u ds. Safe e p u ds m) no_exchange duty s (cond z (ended (with_frames (turn_of s t frame []) []) (Returned (returned_number w))) (with_frames (turn_of s t frame []) [])) rest all) (sym thread) (record {
          frames = [];
          own = own;
          given = nothing;
          leaked = nothing;
          unleaked = λ none. refl;
          lost = nothing;
          handed = refl;
          parted = nothing_is_neutral nothing;
          others = rest;
          all = all;
          given_up = sums_turn nothing rest rest (nothing_is_neutral rest);
          sums = sums;
          fits = fits;
          typed = typed;
          shaped = shaped;
          now = set_own s.threads t [] (frame ∷ []) frames;
          alone = λ u other unstarted. set_other s.threads t u [] other;
          begun = tt;
          unshared = λ b apart h. refl;
          unmoved = λ b apart h. refl;
          known = λ l c shared apart h. h;
          settled = tt;
          owing = left_after 0 duty;
          within = left_within 0 duty within;
          owes = subst (λ z. DutiesChange z 0 duty (left_after 0 duty)) (sym (depth_is s frame [] frames)) (left_changes 0 duty);
          going = λ h. safe;
          called = λ grant call h. absurd (direct grant call h);
          leaves = leaves;
          finished = λ none. (w, done);
        })
      ]
  ended_frames s frame (c ∷ cs) w rest own all going frames within sums fits typed shaped m direct leaves done safe = record {
    frames = state.with_result c frame.target w ∷ cs;
    own = own;
    given = nothing;
    leaked = nothing;
    unleaked = λ none. refl;
    lost = nothing;
    handed = refl;
    parted = nothing_is_neutral nothing;
    others = rest;
    all = all;
    given_up = sums_turn nothing rest rest (nothing_is_neutral rest);
    sums = sums;
    fits = fits;
    typed = typed;
    shaped = shaped;
    now = set_own s.threads t (state.with_result c frame.target w ∷ cs) (frame ∷ c ∷ cs) frames;
    alone = λ u other unstarted. set_other s.threads t u (state.with_result c frame.target w ∷ cs) other;
    begun = tt;
    unshared = λ b apart h. refl;
    unmoved = λ b apart h. refl;
    known = λ l c shared apart h. h;
    settled = tt;
    owing = left_after (suc (length cs)) duty;
    within = left_within (suc (length cs)) duty within;
    owes = subst (λ z. DutiesChange z (suc (length cs)) duty (left_after (suc (length cs)) duty)) (sym (depth_is s frame (c ∷ cs) frames)) (left_changes (suc (length cs)) duty);
    going = λ h. safe;
    called = λ grant call h. absurd (direct grant call h);
    leaves = leaves;
    finished = λ none. absurd (frames_nil none);
  }

  return_same : {a b : Option ExpressionTree} → Return a ≡ Return b → a ≡ b
  return_same h = cc

  pub gives_same : {a b : Value} → Gives a ≡ Gives b → a ≡ b
  gives_same h = cc

  -- what a thread about to return here returns
  returned_value : (s : State) (frame : Frame) (callers : Thread) (a : ExpressionTree) (w : Value) → Here p s t f frame callers (Return (Some a)) → evaluate frame.locals a ≡ Gives w → (result : Option Value) → Returns p s t result → result ≡ Some w
  returned_value s frame callers a w at value result r =
      let same_at = same_place p s t f r.f frame r.frame callers r.callers (Return (Some a)) _ at r.at in
      let of_value = subst (λ z. IsReturned r.frame z result) (return_same same_at.steps) r.returned in
      of_value.2 ∙ ap Some (gives_same (sym of_value.1 ∙ ap (λ z. evaluate z.locals a) same_at.frames ∙ value))

  returned_nothing : (s : State) (frame : Frame) (callers : Thread) → Here p s t f frame callers (Return None) → (result : Option Value) → Returns p s t result → result ≡ None
  returned_nothing s frame callers at result r =
      let same_at = same_place p s t f r.f frame r.frame callers r.callers (Return None) _ at r.at in
      subst (λ z. IsReturned r.frame z result) (return_same same_at.steps) r.returned

  pub goes_fault : {new : State} {kind : FaultKind} {place : Place} → Goes new ≡ Faults kind place → ⊥
  goes_fault h = cc

  pub goes_touch : {new new' : State} {touch : Touch} {A : Type 0} → Goes new ≡ Touches touch new' → A
  goes_touch h = cc

  still_means : (v u w : Valuation) (s r : terms.Store) → Grows s r → ((x : Name) (z : Term) → s x ≡ Some z → value_in e u z ≡ value_in e v z) → StoreMeans e v s w → StoreMeans e u s w
  still_means v u w s r g stays m x z h = stays x z h ∙ m x z h

  -- ---- a valuation with the values of a store's terms, and others where a name has none
  value_or : (v : Valuation) (o : Option Term) (u : Value) → Value
  value_or v None u = u
  value_or v (Some z) u = value_in e v z

  pub override : Valuation → terms.Store → Valuation → Valuation
  override v s w x = value_or v (s x) (w x)

  or_is : (v : Valuation) (o : Option Term) (u : Value) (z : Term) → o ≡ Some z → value_in e v z ≡ value_or v o u
  unfolding value_or
  or_is v o u z h = ap (λ y. value_or v y u) (sym h)

  or_else : (v : Valuation) (o : Option Term) (u w : Value) → ((z : Term) → o ≡ Some z → value_in e v z ≡ w) → u ≡ w → value_or v o u ≡ w
  unfolding value_or
  or_else v None u w h is = is
  or_else v (Some z) u w h is = h z refl

  or_sorted : (v : Valuation) (o : Option Term) (u : Value) (so : Sort) → ((z : Term) → o ≡ Some z → HasSort e (value_in e v z) so) → HasSort e u so → HasSort e (value_or v o u) so
  unfolding value_or
  or_sorted v None u so h is = is
  or_sorted v (Some z) u so h is = h z refl

  pub override_means : (v : Valuation) (s : terms.Store) (w : Valuation) → StoreMeans e v s (override v s w)
  unfolding override
  override_means v s w x z h = or_is v (s x) (w x) z h

  override_sorted : (v : Valuation) (sorts : List Sort) (s : terms.Store) (w : Valuation) → StoreSorted e v sorts s → AreOfSorts e w sorts → AreOfSorts e (override v s w) sorts
  unfolding override
  override_sorted v sorts s w h k0 n so known = or_sorted v (s (Numbered n)) (w (Numbered n)) so (λ z is. h n so z is known) (k0 n so known)

  override_is : (v : Valuation) (s : terms.Store) (w : Valuation) (x : Name) (u : Value) → ((z : Term) → s x ≡ Some z → value_in e v z ≡ u) → w x ≡ u → override v s w x ≡ u
  unfolding override
  override_is v s w x u h is = or_else v (s x) (w x) u h is

  pub not_result : (x : Name) → IsFixed k x → x ≢ Result
  not_result x h is = subst (IsFixed k) is h

  -- a postcondition that was consumed
  pub consumed_ensures : (v u : Valuation) (names : Valuation) (st : SymbolicState) (before after : terms.Store) (result : Option Value) (depth0 : ℕ) (off : Part) → StoreMeans e v st.names names → AreOfSorts e names k.sorts → StoreSorted e u k.sorts after
      → KeepsFixed k st.names after → ((x : Name) → IsFixed k x → before x ≡ st.names x) → ((x : Name) (z : Term) → before x ≡ Some z → value_in e u z ≡ value_in e v z)
      → StoreMeans e u after (with_result (override u after names) result)
      → ((w : Valuation) → StoreMeans e u after w → SatisfiesAt e depth0 whole k.ensures_this w off) → Ensures e k names result off
  consumed_ensures v u names st before after result depth0 off means of_sorts sorted keeps same_before stays means_after satisfies = record {
    later = override u after names;
    fixed = λ x fix. override_is u after names x (names x)
        (λ z is. stays x z (same_before x fix ∙ keeps x z fix is) ∙ means x z (keeps x z fix is)) refl;
    sorts = override_sorted u k.sorts after names sorted of_sorts;
    satisfies = (depth0, satisfies (with_result (override u after names) result) means_after);
  }

  pub result_means : (u : Valuation) (after : terms.Store) (names : Valuation) (z : Term) (w : Value) → after Result ≡ Some z → value_in e u z ≡ w → StoreMeans e u after (bound (override u after names) Result w)
  result_means u after names z w is value x y h =
      elim (cases_Bool (same_name x Result)) [
        | inl same_one ↦
            ap (value_in e u) (some_same (sym h ∙ ap after ((tells_names x Result).0 same_one) ∙ is)) ∙ value ∙ ap (λ b. cond b w (override u after names x)) (sym same_one)
        | inr other ↦ override_means u after names x y h ∙ ap (λ b. cond b w (override u after names x)) (sym other)
      ]

  pub return_safe : (n : ℕ) (st : SymbolicState) (m : ℕ) (frame : Frame) (callers : Thread) (own : Part) (a : ExpressionTree) (u : Term) → (r : Ready e p t duty f k n st (suc m) frame callers own) → slice_get f.steps n ≡ Some (Return (Some a))
      → Evaluates e st.path st.locals a u → EntailsAll e st.path (facts_of_result f.signature.result u) → f.signature.result ≢ Void
      → Consume e p k.sorts all_of_it k.ensures_this (stored st.names Result u) st (λ s1 st1. (st1.chunks ≡ []) × KeepsFixed k st.names s1) → Safe e p t duty (suc m) (frame ∷ callers) own
  return_safe n st m frame callers own a u r is ev facts value_type consume s rest all going frames within sums fits typed shaped =
      let v = r.symbols in
      let w = value_in e v u in
      let at = here e p t duty f k n st (suc m) frame callers own s (Return (Some a)) r is going frames in
      let value = evaluates e v st.path st.locals frame.locals a u ev (r.stands).path (r.stands).locals_mean in
      let c = consumed e p k.sorts all_of_it whole frame.locals r.names k.ensures_this (stored st.names Result u) st (λ s1 st1. (st1.chunks ≡ []) × KeepsFixed k st.names s1) consume v r.part r.stands
      (result_store_sorted e v k.sorts st.names u (names_sorted e v k.sorts st.names r.names (r.stands).names_mean r.of_sorts)) refl in
      let left_none : c.left ≡ nothing = subst (λ cs. ChunksMean e c.under cs c.left) (c.holds).0 (c.stands).chunks_mean in
      let off_is : c.off ≡ r.part = nothing_left c.off c.left r.part left_none c.sums in
      let result_is : c.store Result ≡ Some u = c.grows Result u (stored_own st.names Result u) in
      let ensured = consumed_ensures v c.under r.names st (stored st.names Result u) c.store (Some w) c.depth c.off (r.stands).names_mean r.of_sorts c.sorted (c.holds).1
      (λ x fix. stored_other st.names Result x u (not_result x fix)) c.stays
      (result_means c.under c.store r.names u w result_is (c.stays Result u (stored_own st.names Result u))) c.satisfies in
      let next = r.continues m (omega arith) (Some w) c.off own (may_is f.signature.result w value_type (type_back e v f.signature.result u (all_entailed e st.path _ facts v (r.stands).path))) ensured r.typed
      (subst (λ z. IsSum z r.kept own) (sym off_is) r.sums) in
      secure e p t duty (λ u ds. Safe e p u ds m) s f frame callers (Return (Some a)) own rest all (Goes (returns (turn_of s t frame callers) (Some w))) at tt (return_act s frame callers a w value)
      (λ kind place h. goes_fault h) (λ touch new c0 l h. goes_touch h)
      (λ grant. ended_frames s frame callers (Some w) rest own all going frames within sums fits typed shaped m
      (λ grant0 call c0. not_called e p t duty (λ u ds. Safe e p u ds m) s f frame callers (Return (Some a)) at tt grant0 call c0)
      (λ result back n0 one. subst (λ z. DoneAt e z duty result own) (one_less (length callers) n0 (sym (depth_is s frame callers frames) ∙ one)) (subst (λ z. DoneAt e (length callers) duty z own) (sym (returned_value s frame callers a w at value result back)) next.0)) next.0 next.1)

  leave_act : (s : State) (frame : Frame) (callers : Thread) → act_of p (turn_of s t frame callers) (Return None) ≡ Goes (returns (turn_of s t frame callers) None)
  leave_act s frame callers = refl

  pub leave_safe : (n : ℕ) (st : SymbolicState) (m : ℕ) (frame : Frame) (callers : Thread) (own : Part) → (r : Ready e p t duty f k n st (suc m) frame callers own) → slice_get f.steps n ≡ Some (Return None) → f.signature.result ≡ Void
      → Consume e p k.sorts all_of_it k.ensures_this st.names st (λ s1 st1. (st1.chunks ≡ []) × KeepsFixed k st.names s1) → Safe e p t duty (suc m) (frame ∷ callers) own
  leave_safe n st m frame callers own r is no_value consume s rest all going frames within sums fits typed shaped =
      let v = r.symbols in
      let at = here e p t duty f k n st (suc m) frame callers own s (Return None) r is going frames in
      let c = consumed e p k.sorts all_of_it whole frame.locals r.names k.ensures_this st.names st (λ s1 st1. (st1.chunks ≡ []) × KeepsFixed k st.names s1) consume v r.part r.stands
      (names_sorted e v k.sorts st.names r.names (r.stands).names_mean r.of_sorts) refl in
      let left_none : c.left ≡ nothing = subst (λ cs. ChunksMean e c.under cs c.left) (c.holds).0 (c.stands).chunks_mean in
      let off_is : c.off ≡ r.part = nothing_left c.off c.left r.part left_none c.sums in
      let ensured = consumed_ensures v c.under r.names st st.names c.store None c.depth c.off (r.stands).names_mean r.of_sorts c.sorted (c.holds).1 (λ x fix. refl) c.stays (override_means c.under c.store r.names) c.satisfies in
      let next = r.continues m (omega arith) None c.off own no_value ensured r.typed (subst (λ z. IsSum z r.kept own) (sym off_is) r.sums) in
      secure e p t duty (λ u ds. Safe e p u ds m) s f frame callers (Return None) own rest all (Goes (returns (turn_of s t frame callers) None)) at tt (leave_act s frame callers)
      (λ kind place h. goes_fault h) (λ touch new c0 l h. goes_touch h)
      (λ grant. ended_frames s frame callers None rest own all going frames within sums fits typed shaped m
      (λ grant0 call c0. not_called e p t duty (λ u ds. Safe e p u ds m) s f frame callers (Return None) at tt grant0 call c0)
      (λ result back n0 one. subst (λ z. DoneAt e z duty result own) (one_less (length callers) n0 (sym (depth_is s frame callers frames) ∙ one)) (subst (λ z. DoneAt e (length callers) duty z own) (sym (returned_nothing s frame callers at result back)) next.0)) next.0 next.1)
