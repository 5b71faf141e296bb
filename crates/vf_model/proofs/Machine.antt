-- The laws of one event, of who can step and of faults.
use Rattle.std.proofs.Common.{◌≡◌, ℕ, zero, suc, ◌+◌, ◌<◌, ◌≤◌, Bool, true, false, not, ◌&&◌, List, [], ◌∷◌, length, Option, Some, None, slice_get, is_none, is_some, refl, ap, subst, ◌∙◌, ◌⊎◌, inl, inr, ⊎_elim, arith}
use Rattle.std.specs.List.{fold, list_any, range_with_len}
use Rattle.std.proofs.lemmas.Bool.{true≢false, false≢true, not-true, not-false, not_from_false, and_parts, and_from, or_cases, or_left, or_right, cases_lt}
use Rattle.vf_tree.specs.Core.{ProgramTree}
use Rattle.vf_model.specs.State.{Thread, State}
use Rattle.vf_model.specs.Acts.{Act, Goes, Touches, Allocates, Waits, Faults}
use Rattle.vf_model.specs.Calls.{has_ended}
use Rattle.vf_model.specs.Steps.{act_by, next_act}
use Rattle.vf_model.specs.Runs.{after, happens, after_unended, is_wait, can_step, CanStep}
use Rattle.vf_model.specs.Laws.{EndsForGood, StaysEnded, TellsSteppers, IdlesElsewhere, FindsSteppers, FaultsByAnyGrant}

pub end_stays : EndsForGood
end_stays p s e end h = ap (after_unended p s e) h

pub no_event_changes : StaysEnded
no_event_changes p s end [] h = refl
no_event_changes p s end (e ∷ events) h = ap (λ new. fold (after p) new events) (end_stays p s e end h) ∙ no_event_changes p s end events h

-- an act that waits changes nothing
wait_stays : (s : State) (grant : ℕ) (a : Act) → is_wait a ≡ true → happens s grant a ≡ s
wait_stays s grant (Goes new) h = absurd (false≢true h)
wait_stays s grant (Touches touch new) h = absurd (false≢true h)
wait_stays s grant (Allocates denied granted) h = absurd (false≢true h)
wait_stays s grant Waits h = refl
wait_stays s grant (Faults kind place) h = absurd (false≢true h)

pub idle_stays : IdlesElsewhere
idle_stays p s e h =
    elim s.end as (λ o. (is_none o && not (is_wait (next_act p s e.thread))) ≡ false → after_unended p s e o ≡ s) [
      | None ↦ λ w. wait_stays s e.grant (next_act p s e.thread) (not-false _ w)
      | Some end ↦ λ w. refl
    ] h

none_from_is_none : {A : Type 0} (o : Option A) → is_none o ≡ true → o ≡ None
none_from_is_none None h = refl
none_from_is_none (Some x) h = absurd (false≢true h)

within_from_some : {A : Type 0} (xs : List A) (k : ℕ) → is_some (slice_get xs k) ≡ true → k < length xs
within_from_some [] k h = absurd (false≢true h)
within_from_some (x ∷ xs) zero h = omega arith
within_from_some (x ∷ xs) (suc k) h = let rest : k < length xs = within_from_some xs k h in omega arith

-- a thread with a step was started and has not ended
has_frames : (p : ProgramTree) (s : State) (t : ℕ) (o : Option Thread) → is_wait (act_by p s t o) ≡ false → (is_some o ≡ true) × (has_ended o ≡ false)
has_frames p s t None h = absurd (true≢false h)
has_frames p s t (Some []) h = absurd (true≢false h)
has_frames p s t (Some (frame ∷ callers)) h = (refl, refl)

steps_from_test : (p : ProgramTree) (s : State) (t : ℕ) → can_step p s t ≡ true → CanStep p s t
steps_from_test p s t h =
    let parts = and_parts (is_none s.end) (not (is_wait (next_act p s t))) h in
    let moves = not-true _ parts.1 in
    let frames = has_frames p s t (slice_get s.threads t) moves in
    record {
      going = none_from_is_none s.end parts.0;
      started = within_from_some s.threads t frames.0;
      unended = frames.1;
      unblocked = moves;
    }

test_from_steps : (p : ProgramTree) (s : State) (t : ℕ) → CanStep p s t → can_step p s t ≡ true
test_from_steps p s t c = and_from _ _ (ap is_none c.going) (not_from_false _ c.unblocked)

pub steppers_told : TellsSteppers
steppers_told p s t = (steps_from_test p s t, test_from_steps p s t)

any_from_range : (f : ℕ → Bool) (a n : ℕ) → list_any f (range_with_len a n) ≡ true → (t : ℕ) × (f t ≡ true)
any_from_range f a zero h = absurd (false≢true h)
any_from_range f a (suc n) h =
    ⊎_elim (λ here. (a, here)) (λ later. any_from_range f (a + 1) n later) (or_cases (f a) _ h)

range_has : (f : ℕ → Bool) (a n t : ℕ) → a ≤ t → t < a + n → f t ≡ true → list_any f (range_with_len a n) ≡ true
range_has f a zero t low high h = absurd (omega arith)
range_has f a (suc n) t low high h =
    ⊎_elim
    (λ here. or_left (f a) _ (subst (λ k. f k ≡ true) here h))
    (λ later. or_right (f a) _ (range_has f (a + 1) n t later (omega arith) h))
    (at_or_past a t low)
  where
    at_or_past : (x y : ℕ) → x ≤ y → (y ≡ x) ⊎ (x + 1 ≤ y)
    at_or_past x y l = ⊎_elim (λ less. inr (omega (arith, less))) (λ more. inl (omega (arith, more))) (cases_lt x y)

pub steppers_found : FindsSteppers
steppers_found p s = (
  λ h. let found = any_from_range (can_step p s) 0 (length s.threads) h in (found.0, steps_from_test p s found.0 found.1),
  λ c. range_has (can_step p s) 0 (length s.threads) c.0 (omega arith) (let known = (c.1).started in omega (arith, known)) (test_from_steps p s c.0 c.1),
)

pub fault_by_any_grant : FaultsByAnyGrant
fault_by_any_grant p s t kind place f = (
  λ grant. ap (after_unended p s (record { thread = t; grant = grant })) f.going ∙ ap (happens s grant) f.faults,
  steps_from_test p s t (and_from _ _ (ap is_none f.going) (ap (λ a. not (is_wait a)) f.faults)),
)
