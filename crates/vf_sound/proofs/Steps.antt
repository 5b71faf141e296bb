-- The states of a main that runs well: at a step, with its locals, or ended. Nothing else is ever there.
use Rattle.std.proofs.Common.{◌≡◌, ◌⊎◌, inl, inr, ◌∙◌, refl, sym, ap, subst, ℕ, zero, suc, ◌-◌, List, [], ◌∷◌, length, drop, replicate, Option, Some, None, slice_get, arith}
use Rattle.std.specs.Prelude.{ℤ, slice_set}
use Rattle.std.specs.Option.{option_map}
use Rattle.std.specs.FinMap as finite
use Rattle.std.proofs.lemmas.Option.{slice_get-map}
use Rattle.std.proofs.lemmas.List.{length-replicate}
use Rattle.vf_base.specs.declared.int_type.IntType.TheVariants.{Int}
use Rattle.vf_tree.specs.Core.{Integer}
use Rattle.vf_tree.specs.Shown.{expression_of, step_of, function_of, program_of}
use Rattle.vf_tree.specs.declared.unit.CoreStep.{CoreStep}
use Rattle.vf_tree.specs.declared.unit.CoreStep.TheVariants as steps
use Rattle.vf_tree.specs.declared.unit.Expression.{Expression}
use Rattle.vf_tree.specs.declared.unit.Pure.{Pure}
use Rattle.vf_tree.specs.declared.unit.Function.{Function}
use Rattle.vf_tree.specs.declared.unit.Plain.{Plain}
use Rattle.vf_model.specs.declared.words.Event.{Event}
use Rattle.vf_model.specs.Values.{Value}
use Rattle.vf_model.specs.Values as values
use Rattle.vf_model.specs.Evaluation.{Gives, evaluate}
use Rattle.vf_model.specs.State.{Frame, Thread, Returned, State, Turn, locals_of, sets}
use Rattle.vf_model.specs.Acts.{Goes, given}
use Rattle.vf_model.specs.Calls.{returns}
use Rattle.vf_model.specs.Steps.{act_at, act_in, next_act}
use Rattle.vf_model.specs.Runs.{after, happens, main_frames, opening}
use Rattle.vf_sound.specs.Formed.{AreInOrder}
use Rattle.vf_sound.proofs.Bodies.{RunsWell}

-- main's frame at a step
abbrev pub frame_at : ℕ → ℕ → List (Option Value) → Frame
frame_at main k locals = record { function = main; step = k; locals = locals; target = None }

-- main stands at a step
abbrev pub standing : ℕ → ℕ → List (Option Value) → State
standing main k locals = record { memory = finite.empty; threads = (frame_at main k locals ∷ []) ∷ []; output = []; end = None }

-- main has returned a number
abbrev pub over : ℤ → State
over z = record { memory = finite.empty; threads = [] ∷ []; output = []; end = Some (Returned z) }

-- the first of what is left is at the index, and the others are left behind it
pub at_front : {A : Type 0} (xs : List A) (k : ℕ) (x : A) (more : List A) → drop k xs ≡ x ∷ more → (slice_get xs k ≡ Some x) × (drop (suc k) xs ≡ more)
at_front [] zero x more e = absurd (clash e)
  where
    clash : {A : Type 0} {y : A} {ys : List A} → [] ≡ y ∷ ys → ⊥
    clash e = cc
at_front [] (suc k) x more e = absurd (clash e)
  where
    clash : {A : Type 0} {y : A} {ys : List A} → [] ≡ y ∷ ys → ⊥
    clash e = cc
at_front (y ∷ ys) zero x more e = (let same : y ≡ x = cc in ap Some same, let rest : ys ≡ more = cc in rest)
at_front (y ∷ ys) (suc k) x more e = at_front ys k x more e

module _ (plain : Plain) (f : Function) (post : Pure) (found : slice_get plain.functions plain.main ≡ Some f) (in_order : AreInOrder f.steps) where
  -- main stands at a step from which it runs well
  pub record Stands (s : State) : Type 0 where
    pub step : ℕ
    pub locals : List (Option Value)
    pub is : s ≡ standing plain.main step locals
    pub runs_well : RunsWell post locals (drop step f.steps)

  -- main has returned
  pub record IsOver (s : State) : Type 0 where
    pub value : ℤ
    pub is : s ≡ over value

  -- the states that a main that runs well comes to
  abbrev pub IsGood : State → Type 0
  IsGood s = Stands s ⊎ IsOver s

  pub found_main : slice_get (program_of plain).functions (program_of plain).main ≡ Some (function_of f)
  found_main = slice_get-map function_of plain.functions plain.main ∙ ap (option_map function_of) found

  -- a step of main in the program
  pub found_step : (k : ℕ) (step : CoreStep) → slice_get f.steps k ≡ Some step → slice_get (function_of f).steps k ≡ Some (step_of step)
  found_step k step is = slice_get-map step_of f.steps k ∙ ap (option_map step_of) is

  -- main's turn at a step
  abbrev turn : ℕ → List (Option Value) → Turn
  turn k locals = record { state = standing plain.main k locals; thread = 0; frame = frame_at plain.main k locals; callers = [] }

  at_step_of : (k : ℕ) (locals : List (Option Value)) (step : CoreStep) → slice_get f.steps k ≡ Some step
      → next_act (program_of plain) (standing plain.main k locals) 0 ≡ act_at (program_of plain) (turn k locals) f.closing (Some (step_of step))
  at_step_of k locals step is =
      ap (act_in (program_of plain) (turn k locals)) found_main ∙ ap (act_at (program_of plain) (turn k locals) f.closing) (found_step k step is)

  -- the next step of main goes on to a good state
  pub record GoesOn (k : ℕ) (locals : List (Option Value)) : Type 0 where
    pub new : State
    pub is : next_act (program_of plain) (standing plain.main k locals) 0 ≡ Goes new
    pub good : IsGood new

  sets_on : (k : ℕ) (locals : List (Option Value)) (x next : ℕ) (e : Expression) (more : List CoreStep) (z : ℤ) → drop k f.steps ≡ steps.Set x e next ∷ more
      → evaluate locals (expression_of e) ≡ Gives (values.Number z) → RunsWell post (slice_set locals x (Some (values.Number z))) more → GoesOn k locals
  sets_on k locals x next e more z left gives well =
      let front = at_front f.steps k (steps.Set x e next) more left in
      record {
        new = standing plain.main next (slice_set locals x (Some (values.Number z)));
        is = at_step_of k locals (steps.Set x e next) front.0 ∙ ap (λ w. given w (λ v. Goes (sets (turn k locals) x v next))) gives;
        good = inl (record {
          step = next;
          locals = slice_set locals x (Some (values.Number z));
          is = refl;
          runs_well = subst (λ ss. RunsWell post (slice_set locals x (Some (values.Number z))) ss) (sym (ap (λ n. drop n f.steps) (in_order k x next e front.0) ∙ front.1)) well;
        });
      }

  returns_on : (k : ℕ) (locals : List (Option Value)) (e : Expression) (more : List CoreStep) (z : ℤ) → drop k f.steps ≡ steps.Return e ∷ more → evaluate locals (expression_of e) ≡ Gives (values.Number z) → GoesOn k locals
  returns_on k locals e more z left gives =
      let front = at_front f.steps k (steps.Return e) more left in
      record {
        new = over z;
        is = at_step_of k locals (steps.Return e) front.0 ∙ ap (λ w. given w (λ v. Goes (returns (turn k locals) (Some v)))) gives;
        good = inr (record { value = z; is = refl });
      }

  goes_on_from : (k : ℕ) (locals : List (Option Value)) (left : List CoreStep) → drop k f.steps ≡ left → RunsWell post locals left → GoesOn k locals
  goes_on_from k locals [] is well = absurd well
  goes_on_from k locals (steps.Set x e next ∷ more) is (z, gives, well) = sets_on k locals x next e more z is gives well
  goes_on_from k locals (steps.Return e ∷ more) is (z, gives, promised) = returns_on k locals e more z is gives

  pub goes_on : (k : ℕ) (locals : List (Option Value)) → RunsWell post locals (drop k f.steps) → GoesOn k locals
  goes_on k locals well = goes_on_from k locals (drop k f.steps) refl well

  -- an event leads from a good state to one
  steps_well : (k : ℕ) (locals : List (Option Value)) → RunsWell post locals (drop k f.steps) → (t grant : ℕ) → IsGood (happens (standing plain.main k locals) grant (next_act (program_of plain) (standing plain.main k locals) t))
  steps_well k locals well zero grant =
      let on = goes_on k locals well in
      subst (λ a. IsGood (happens (standing plain.main k locals) grant a)) (sym on.is) on.good
  steps_well k locals well (suc t) grant = inl (record { step = k; locals = locals; is = refl; runs_well = well })

  pub events_keep_good : (s : State) (event : Event) → IsGood s → IsGood (after (program_of plain) s event)
  events_keep_good s event (inl g) =
      subst (λ x. IsGood (after (program_of plain) x event)) (sym g.is) (steps_well g.step g.locals g.runs_well event.thread event.grant)
  events_keep_good s event (inr g) =
      subst (λ x. IsGood (after (program_of plain) x event)) (sym g.is) (inr (record { value = g.value; is = refl }))

  unset : locals_of (function_of f) [] ≡ replicate f.locals None
  unset = let same : length (replicate f.locals (Integer Int)) - 0 ≡ f.locals = omega (arith, length-replicate f.locals (Integer Int)) in ap (λ (n : ℕ). replicate n None) same

  -- before its first event a program has one thread, which is in main
  abbrev opened : Thread → State
  opened frames = record { memory = finite.empty; threads = frames ∷ []; output = []; end = None }

  -- main begins well
  pub begins_good : RunsWell post (replicate f.locals None) f.steps → IsGood (opening (program_of plain))
  begins_good well = inl (record {
    step = 0;
    locals = replicate f.locals None;
    is = ap (λ o. opened (main_frames plain.main o)) found_main ∙ ap (λ ls. standing plain.main 0 ls) unset;
    runs_well = well;
  })
