-- Runs under lists of events, as far as they are followed.
use Rattle.std.proofs.Common.{◌≡◌, ◌∙◌, refl, sym, ap, subst, ℕ, ◌+◌, ◌<◌, List, length, slice_get, Option, Some, None, Result, Ok, Err, ⊎_elim, arith}
use Rattle.std.proofs.lemmas.Bool.{cases_lt}
use Rattle.std.proofs.lemmas.Option.{get_or_from_slice_get}
use Rattle.vf_tree.specs.Core.{ProgramTree}
use Rattle.vf_model.specs.declared.words.Event.{Event}
use Rattle.vf_model.specs.State.{State}
use Rattle.vf_model.specs.Runs.{after}
use Rattle.vf_engine.specs.declared.words.Limit.{Limit}
use Rattle.vf_engine.specs.declared.words.Stepped.{Stepped}
use Rattle.vf_engine.specs.declared.words.StepFault.{StepFault}
use Rattle.vf_engine.specs.declared.words.StepFault.TheVariants as refusals
use Rattle.vf_run.specs.Counts.{first_passed}
use Rattle.vf_trace.specs.Traces.{state_after}
use Rattle.vf_trace.proofs.Runs.{one_more}
use Rattle.vf_try.specs.Runs.{Follows, IsFull}

-- no event is followed yet
pub none_followed : (p : ProgramTree) (s : State) (events : List Event) → Follows p s events 0 s
none_followed p s events = record { within = omega arith; fits = λ earlier less. absurd (omega (arith, less)); state = refl }

ok_is_no_err : (r : Result Stepped StepFault) (x : Stepped) (f : StepFault) → r ≡ Ok x → r ≡ Err f → ⊥
ok_is_no_err r x f is h = absurd (cc (is, h))

-- a step that was taken needs no more than the limits
none_passed : (o : Option Limit) (r : Result Stepped StepFault) (x : Stepped) → r ≡ Ok x → ((limit : Limit) → o ≡ Some limit → r ≡ Err (refusals.Capacity limit)) → o ≡ None
none_passed None r x is full = refl
none_passed (Some limit) r x is full = absurd (ok_is_no_err r x _ is (full limit refl))

-- the next state of a run
next_state : (p : ProgramTree) (s : State) (events : List Event) (k : ℕ) (q : ProgramTree) (now : State) (e : Event) → k < length events → q ≡ p → now ≡ state_after p s events k → slice_get events k ≡ Some e
    → after q now e ≡ state_after p s events (k + 1)
next_state p s events k q now e low same is at = ap (λ y. after y now e) same ∙ ap (λ y. after p y e) is ∙ sym (one_more p s events k e low (get_or_from_slice_get events k e e at))

-- a run is followed one event more, where its step was taken
pub followed_on : (p : ProgramTree) (s : State) (events : List Event) (k : ℕ) (q : ProgramTree) (now new : State) (e : Event) (r : Result Stepped StepFault) (x : Stepped) → k < length events → q ≡ p
    → Follows p s events k now → slice_get events k ≡ Some e → new ≡ after q now e → r ≡ Ok x
    → ((limit : Limit) → first_passed (after q now e) ≡ Some limit → r ≡ Err (refusals.Capacity limit)) → Follows p s events (k + 1) new
followed_on p s events k q now new e r x low same follows at is taken full =
    let next = next_state p s events k q now e low same follows.state at in
    let fits : first_passed (state_after p s events (k + 1)) ≡ None = ap first_passed (sym next) ∙ none_passed (first_passed (after q now e)) r x taken full in
    record {
      within = omega (arith, low);
      fits = λ j h. ⊎_elim
          (λ less. follows.fits j less)
          (λ more. let j_is : j ≡ k = omega (arith, more, h) in subst (λ i. first_passed (state_after p s events (i + 1)) ≡ None) (sym j_is) fits)
          (cases_lt j k);
      state = is ∙ next;
    }

-- a run whose next step needs more than a limit goes no further
pub full_at : (p : ProgramTree) (s : State) (events : List Event) (k : ℕ) (q : ProgramTree) (now new : State) (e : Event) (r : Result Stepped StepFault) (limit : Limit) → k < length events → q ≡ p
    → Follows p s events k now → slice_get events k ≡ Some e → new ≡ now → r ≡ Err (refusals.Capacity limit)
    → ((l : Limit) → r ≡ Err (refusals.Capacity l) → first_passed (after q now e) ≡ Some l) → IsFull p s events new limit
full_at p s events k q now new e r limit low same follows at stays is told = record {
  count = k;
  left = low;
  follows = record { within = follows.within; fits = follows.fits; state = stays ∙ follows.state };
  passed = ap first_passed (sym (next_state p s events k q now e low same follows.state at)) ∙ told limit is;
}
