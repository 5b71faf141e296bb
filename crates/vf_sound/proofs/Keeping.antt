-- A main that runs well has no fault and no race, and keeps its contract.
use Rattle.std.proofs.Common.{◌≡◌, inl, inr, ◌∙◌, refl, sym, ap, subst, ℕ, zero, suc, ◌≤◌, List, [], ◌∷◌, length, drop, map, Option, Some, None, slice_get, cond, arith}
use Rattle.std.specs.Prelude.{ℤ}
use Rattle.std.specs.Option.{option_map}
use Rattle.std.specs.FinMap as finite
use Rattle.std.proofs.lemmas.Option.{slice_get-map}
use Rattle.std.proofs.lemmas.Bool.Decides.{Decides-int_eq}
use Rattle.vf_base.specs.declared.place.Place.{Place}
use Rattle.vf_tree.specs.Core.{ExpressionTree, StepTree, Set, Call, CallPointer, Return, FunctionTree}
use Rattle.vf_tree.specs.Shown.{expression_of, step_of, function_of, program_of}
use Rattle.vf_tree.specs.declared.unit.CoreStep.{CoreStep}
use Rattle.vf_tree.specs.declared.unit.CoreStep.TheVariants as steps
use Rattle.vf_tree.specs.declared.unit.Pure.{Pure}
use Rattle.vf_tree.specs.declared.unit.Pure.TheVariants as parts
use Rattle.vf_tree.specs.declared.unit.Function.{Function}
use Rattle.vf_tree.specs.declared.unit.Plain.{Plain}
use Rattle.vf_tree.specs.declared.unit.Core.{Core}
use Rattle.vf_model.specs.declared.words.Event.{Event}
use Rattle.vf_model.specs.declared.words.FaultKind.{FaultKind}
use Rattle.vf_model.specs.Values.{Value, same_identity}
use Rattle.vf_model.specs.Values as values
use Rattle.vf_model.specs.Evaluation.{Gives}
use Rattle.vf_model.specs.State.{Frame, State}
use Rattle.vf_model.specs.Acts.{Goes, Waits, Faults}
use Rattle.vf_model.specs.Runs.{Fault}
use Rattle.vf_model.proofs.Equality.{identities_told}
use Rattle.vf_meaning.specs.Fractions.{whole}
use Rattle.vf_meaning.specs.Valuations.{Valuation, no_value}
use Rattle.vf_meaning.specs.Assertions.{Environment}
use Rattle.vf_meaning.specs.Environments.{option_or, own_contract, Extends}
use Rattle.vf_meaning.specs.Parts.{nothing}
use Rattle.vf_meaning.proofs.Parts.{nothing_is_neutral}
use Rattle.vf_meaning.specs.Satisfaction.{Satisfies}
use Rattle.vf_meaning.specs.Kept.{before, IsAt, IsReturned, Returns, with_result, IsSafe, Kept}
use Rattle.vf_sound.specs.Environment.{assertion_of, contract_of, main_contract, environment_of}
use Rattle.vf_sound.specs.Formed.{AreInOrder}
use Rattle.vf_sound.specs.Shares.{nothing_shared}
use Rattle.vf_sound.proofs.Runs.{holds_throughout, one_thread_has_no_race}
use Rattle.vf_sound.proofs.Shares.{nothing_is_shared}
use Rattle.vf_sound.proofs.Bodies.{IsAsPromised, IsHad, RunsWell, IsGoodMain}
use Rattle.vf_sound.proofs.Steps.{frame_at, standing, at_front, IsGood, found_main, found_step, goes_on, events_keep_good, begins_good}

none_some : {A : Type 0} {x : A} → None ≡ Some x → ⊥
none_some e = cc

some_same : {A : Type 0} {x y : A} → Some x ≡ Some y → x ≡ y
some_same e = cc

-- ---- programs without calls
-- an item of a list that was mapped comes from one
mapped : {A B : Type 0} (g : A → B) (xs : List A) (k : ℕ) (y : B) → slice_get (map g xs) k ≡ Some y → (x : A) × (slice_get xs k ≡ Some x) × (g x ≡ y)
mapped {A = A} {B = B} g xs k y is = from (slice_get xs k) refl
  where
    from : (o : Option A) → slice_get xs k ≡ o → (x : A) × (slice_get xs k ≡ Some x) × (g x ≡ y)
    from None h = absurd (none_some (sym (ap (option_map g) h) ∙ sym (slice_get-map g xs k) ∙ is))
    from (Some x) h = (x, h, some_same (sym (ap (option_map g) h) ∙ sym (slice_get-map g xs k) ∙ is))

-- a step that calls nothing
abbrev CallsNothing : StepTree → Type 0
CallsNothing (Call target g es place next) = ⊥
CallsNothing (CallPointer target e want es place next) = ⊥
CallsNothing _ = Unit {0}

step_calls_nothing : (step : CoreStep) → CallsNothing (step_of step)
step_calls_nothing (steps.Set x e next) = tt
step_calls_nothing (steps.Return e) = tt

-- no step of the program calls anything
calls_nothing : (plain : Plain) (s : State) (t : ℕ) (f : FunctionTree) (frame : Frame) (callers : List Frame) (step : StepTree) → IsAt (program_of plain) s t f frame callers step → CallsNothing step
calls_nothing plain s t f frame callers step at =
    let a = mapped function_of plain.functions frame.function f at.function in
    let found : slice_get (map step_of (a.0).steps) frame.step ≡ Some step = subst (λ (g : FunctionTree). slice_get g.steps frame.step ≡ Some step) (sym a.2) at.found in
    let b = mapped step_of (a.0).steps frame.step step found in
    subst CallsNothing b.2 (step_calls_nothing b.0)

-- ---- pure parts
had_satisfies : (e : Environment) (pre : Pure) (v : Valuation) → IsHad pre → Satisfies e whole (assertion_of pre) v nothing
had_satisfies e (parts.True place) v had = (0, (refl, refl))
had_satisfies e (parts.ResultIs n place) v had = absurd had

promised_satisfies : (e : Environment) (post : Pure) (v : Valuation) (z : ℤ) → IsAsPromised post z → Satisfies e whole (assertion_of post) (with_result v (Some (values.Number z))) nothing
promised_satisfies e (parts.True place) v z promised = (0, (refl, refl))
promised_satisfies e (parts.ResultIs n place) v z promised = (0, (refl, (Decides-int_eq z n).1 promised))

-- ---- main
module _ (plain : Plain) (f : Function) (post : Pure) (found : slice_get plain.functions plain.main ≡ Some f) (in_order : AreInOrder f.steps) where
  abbrev good : State → Type 0
  good s = IsGood plain f post found in_order s

  empty : (s : State) → good s → s.memory ≡ finite.empty
  empty s (inl g) = ap (λ (x : State). x.memory) g.is
  empty s (inr g) = ap (λ (x : State). x.memory) g.is

  one_thread : (s : State) → good s → length s.threads ≤ 1
  one_thread s (inl g) = let e = ap (λ (x : State). length x.threads) g.is in omega arith
  one_thread s (inr g) = let e = ap (λ (x : State). length x.threads) g.is in omega arith

  goes_no_fault : (new : State) (kind : FaultKind) (place : Place) → Goes new ≡ Faults kind place → ⊥
  goes_no_fault new kind place e = cc

  waits_no_fault : (kind : FaultKind) (place : Place) → Waits ≡ Faults kind place → ⊥
  waits_no_fault kind place e = cc

  ended_not_going : {A : Type 0} {x : A} → Some x ≡ None → ⊥
  ended_not_going e = cc

  no_fault_at : (k : ℕ) (locals : List (Option Value)) → RunsWell post locals (drop k f.steps) → (t : ℕ) (kind : FaultKind) (place : Place) → Fault (program_of plain) (standing plain.main k locals) t kind place → ⊥
  no_fault_at k locals well zero kind place fault = let on = goes_on plain f post found in_order k locals well in goes_no_fault on.new kind place (sym on.is ∙ fault.faults)
  no_fault_at k locals well (suc t) kind place fault = waits_no_fault kind place fault.faults

  no_fault : (s : State) → good s → (t : ℕ) (kind : FaultKind) (place : Place) → Fault (program_of plain) s t kind place → ⊥
  no_fault s (inl g) t kind place fault = no_fault_at g.step g.locals g.runs_well t kind place (subst (λ x. Fault (program_of plain) x t kind place) g.is fault)
  no_fault s (inr g) t kind place fault = ended_not_going (sym (ap (λ (x : State). x.end) g.is) ∙ fault.going)

  -- what main returns is as promised
  abbrev KeepsPromise : Option Value → Type 0
  KeepsPromise result = (z : ℤ) × (result ≡ Some (values.Number z)) × IsAsPromised post z

  kept_by : (k : ℕ) (locals : List (Option Value)) (left : List CoreStep) (expression : Option ExpressionTree) (result : Option Value) → drop k f.steps ≡ left → RunsWell post locals left
      → slice_get (function_of f).steps k ≡ Some (Return expression) → IsReturned (frame_at plain.main k locals) expression result → KeepsPromise result
  kept_by k locals [] expression result is well at returned = absurd well
  kept_by k locals (steps.Set x e next ∷ more) expression result is well at returned =
      absurd (clash (sym (found_step plain f post found in_order k (steps.Set x e next) (at_front f.steps k (steps.Set x e next) more is).0) ∙ at))
    where
      clash : {y n : ℕ} {a : ExpressionTree} {b : Option ExpressionTree} → Some (Set y a n) ≡ Some (Return b) → ⊥
      clash e = cc
  kept_by k locals (steps.Return e ∷ more) expression result is (z, gives, promised) at returned =
      let same : Some (expression_of e) ≡ expression = returned_same (sym (found_step plain f post found in_order k (steps.Return e) (at_front f.steps k (steps.Return e) more is).0) ∙ at) in
      let given = subst (λ o. IsReturned (frame_at plain.main k locals) o result) (sym same) returned in
      (z, given.2 ∙ ap Some (gives_same (sym given.1 ∙ gives)), promised)
    where
      returned_same : {a b : Option ExpressionTree} → Some (Return a) ≡ Some (Return b) → a ≡ b
      returned_same e = cc

      gives_same : {v w : Value} → Gives v ≡ Gives w → v ≡ w
      gives_same e = cc

  first_frame : {x y : Frame} {xs ys : List Frame} → Some (x ∷ xs) ≡ Some (y ∷ ys) → x ≡ y
  first_frame e = cc

  no_frame : {y : Frame} {ys : List Frame} → Some [] ≡ Some (y ∷ ys) → ⊥
  no_frame e = cc

  promise_kept_at : (k : ℕ) (locals : List (Option Value)) (result : Option Value) → RunsWell post locals (drop k f.steps) → Returns (program_of plain) (standing plain.main k locals) 0 result → KeepsPromise result
  promise_kept_at k locals result well returns =
      let frame : frame_at plain.main k locals ≡ returns.frame = first_frame (returns.at).frames in
      let function : slice_get (program_of plain).functions plain.main ≡ Some returns.f = subst (λ (x : Frame). slice_get (program_of plain).functions x.function ≡ Some returns.f) (sym frame) (returns.at).function in
      let same : function_of f ≡ returns.f = some_same (sym (found_main plain f post found in_order) ∙ function) in
      let step : slice_get (returns.f).steps k ≡ Some (Return returns.expression) = subst (λ (x : Frame). slice_get (returns.f).steps x.step ≡ Some (Return returns.expression)) (sym frame) (returns.at).found in
      kept_by k locals (drop k f.steps) returns.expression result refl well
      (subst (λ (x : FunctionTree). slice_get x.steps k ≡ Some (Return returns.expression)) (sym same) step)
      (subst (λ (x : Frame). IsReturned x returns.expression result) (sym frame) returns.returned)

  promise_kept : (s : State) (result : Option Value) → good s → Returns (program_of plain) s 0 result → KeepsPromise result
  promise_kept s result (inl g) returns = promise_kept_at g.step g.locals result g.runs_well (subst (λ x. Returns (program_of plain) x 0 result) g.is returns)
  promise_kept s result (inr g) returns = absurd (no_frame (sym (ap (λ (x : State). slice_get x.threads 0) g.is) ∙ (returns.at).frames))

-- ---- the whole
module _ (core : Core) (f : Function) (found : slice_get core.plain.functions core.plain.main ≡ Some f) (in_order : AreInOrder f.steps) (main : IsGoodMain core f) where
  -- each state that events come to is good
  good_throughout : (events : List Event) (k : ℕ) → good core.plain f core.contract.postcondition found in_order (before (program_of core.plain) events k)
  good_throughout events k =
      holds_throughout (program_of core.plain) (good core.plain f core.contract.postcondition found in_order)
      (begins_good core.plain f core.contract.postcondition found in_order main.runs_well)
      (events_keep_good core.plain f core.contract.postcondition found in_order) events k

  pub is_safe : (events : List Event) → IsSafe (program_of core.plain) events
  is_safe events = record {
    faultless = λ k t kind place within fault. no_fault core.plain f core.contract.postcondition found in_order _ (good_throughout events k) t kind place fault;
    raceless = λ k within race. one_thread_has_no_race (program_of core.plain) _ (one_thread core.plain f core.contract.postcondition found in_order _ (good_throughout events k)) race;
  }

  has_contract : (e : Environment) → Extends (environment_of core) e → own_contract e (function_of f).identity ≡ Some (contract_of core.contract)
  has_contract e extends =
      ap (λ o. option_or o (e.prototypes f.identity)) (extends.functions f.identity (contract_of core.contract)
      (ap (λ o. main_contract (contract_of core.contract) o f.identity) found ∙ ap (λ b. cond b (Some (contract_of core.contract)) None) ((identities_told f.identity f.identity).1 refl)))

  pub is_kept : (e : Environment) (events : List Event) → Extends (environment_of core) e → Kept e (program_of core.plain) events
  is_kept e events extends = record {
    outs = λ k. nothing_shared;
    share_outs = λ k within. nothing_is_shared e (program_of core.plain) _ (empty core.plain f core.contract.postcondition found in_order _ (good_throughout events k));
    main = function_of f;
    is_main = found_main core.plain f core.contract.postcondition found in_order;
    contract = contract_of core.contract;
    of_main = has_contract e extends;
    under = λ x. no_value;
    current = refl;
    sorts = λ k s known. absurd (none_some known);
    begins_empty = refl;
    required = had_satisfies e core.contract.precondition (λ x. no_value) main.had;
    unleaked = refl;
    changes = λ k event is. record { threads = λ u other known same. refl; mutexes = λ b same. refl };
    leaks = λ k event is. record { more = nothing; sums = nothing_is_neutral nothing; unleaked = λ none. refl };
    calls = λ k event call is h. absurd (calls_nothing core.plain _ event.thread h.f h.frame h.callers _ h.at);
    starts = λ k event call is h. absurd (calls_nothing core.plain _ event.thread h.f h.frame h.callers _ h.at);
    ensured = λ j event result is first returns last.
        let kept = promise_kept core.plain f core.contract.postcondition found in_order _ result (good_throughout events j) returns in
        record {
          later = λ x. no_value;
          fixed = λ x has. refl;
          sorts = λ k s known. absurd (none_some known);
          satisfies = subst (λ r. Satisfies e whole (assertion_of core.contract.postcondition) (with_result (λ x. no_value) r) nothing) (sym kept.1) (promised_satisfies e core.contract.postcondition (λ x. no_value) kept.0 kept.2);
        };
  }
