-- Runs under lists of events.
use Rattle.std.proofs.Common.{◌≡◌, ℕ, ◌+◌, ◌<◌, List, length, take, get_or, slice_get, Option, Some, None, Result, Ok, Err, refl, sym, ap, subst, ◌∙◌, ⊎_elim, arith}
use Rattle.std.specs.List.{fold}
use Rattle.std.proofs.lemmas.Bool.{cases_lt}
use Rattle.std.proofs.lemmas.List.{take_more}
use Rattle.std.proofs.lemmas.Option.{get_or_from_slice_get}
use Rattle.std.proofs.lemmas.List.Sums.{fold_push}
use Rattle.vf_tree.specs.Core.{ProgramTree}
use Rattle.vf_model.specs.declared.words.Event.{Event}
use Rattle.vf_model.specs.State.{State}
use Rattle.vf_model.specs.Runs.{after}
use Rattle.vf_engine.specs.declared.words.Limit.{Limit}
use Rattle.vf_engine.specs.declared.words.Stepped.{Stepped}
use Rattle.vf_engine.specs.declared.words.StepFault.{StepFault}
use Rattle.vf_engine.specs.declared.words.StepFault.TheVariants as refusals
use Rattle.vf_run.specs.Counts.{first_passed}
use Rattle.vf_trace.specs.Sights.{IsQuiet}
use Rattle.vf_trace.specs.Traces.{state_after, ComesTo, StandsBefore, IsRefusedBy, IsTraced}

-- the state after one event more
pub one_more : (p : ProgramTree) (s : State) (events : List Event) (k : ℕ) (e : Event) → k < length events → get_or events k e ≡ e
    → state_after p s events (k + 1) ≡ after p (state_after p s events k) e
one_more p s events k e low is =
    ap (fold (after p) s) (take_more events k e low) ∙ fold_push (after p) s (take k events) (get_or events k e) ∙ ap (after p (state_after p s events k)) is

-- a run that has come to a state in which nothing is seen comes to the next one, where the step to it fits
pub comes_on : (p : ProgramTree) (s : State) (events : List Event) (k : ℕ) (now new : State) → k < length events → ComesTo p s events k now → IsQuiet p now
    → new ≡ state_after p s events (k + 1) → first_passed new ≡ None → ComesTo p s events (k + 1) new
comes_on p s events k now new low comes quiet is fits = record {
  within = omega (arith, low);
  quiet = λ j h. ⊎_elim
      (λ less. comes.quiet j less)
      (λ more. let same : j ≡ k = omega (arith, more, h) in subst (λ i. IsQuiet p (state_after p s events i)) (sym same) (subst (IsQuiet p) comes.state quiet))
      (cases_lt j k);
  fits = λ j h. ⊎_elim
      (λ less. comes.fits j less)
      (λ more. let same : j ≡ k = omega (arith, more, h) in subst (λ i. first_passed (state_after p s events (i + 1)) ≡ None) (sym same) (ap first_passed (sym is) ∙ fits))
      (cases_lt j k);
  state = is;
}

ok_is_no_err : (r : Result Stepped StepFault) (x : Stepped) (f : StepFault) → r ≡ Ok x → r ≡ Err f → ⊥
ok_is_no_err r x f is h = absurd (cc (is, h))

-- a step that was taken needs no more than the limits
none_passed : (o : Option Limit) (r : Result Stepped StepFault) (x : Stepped) → r ≡ Ok x → ((limit : Limit) → o ≡ Some limit → r ≡ Err (refusals.Capacity limit)) → o ≡ None
none_passed None r x is full = refl
none_passed (Some limit) r x is full = absurd (ok_is_no_err r x _ is (full limit refl))

-- a run goes on by a step that was taken from a state in which nothing is seen
pub goes_on : (p : ProgramTree) (s : State) (events : List Event) (k : ℕ) (q : ProgramTree) (now new : State) (e : Event) (r : Result Stepped StepFault) (x : Stepped) → k < length events → q ≡ p
    → ComesTo p s events k now → IsQuiet q now → slice_get events k ≡ Some e → new ≡ after q now e → r ≡ Ok x
    → ((limit : Limit) → first_passed (after q now e) ≡ Some limit → r ≡ Err (refusals.Capacity limit)) → ComesTo p s events (k + 1) new
goes_on p s events k q now new e r x low same comes quiet at is taken full =
    let next : new ≡ state_after p s events (k + 1) = is ∙ ap (λ y. after y now e) same ∙ ap (λ y. after p y e) comes.state ∙ sym (one_more p s events k e low (get_or_from_slice_get events k e e at)) in
    comes_on p s events k now new low comes (subst (λ y. IsQuiet y now) same quiet) next (ap first_passed is ∙ none_passed (first_passed (after q now e)) r x taken full)

refusal : (fault : StepFault) (next : State) (r : Result Stepped StepFault) → r ≡ Err fault → ((limit : Limit) → r ≡ Err (refusals.Capacity limit) → first_passed next ≡ Some limit) → IsRefusedBy fault next
refusal (refusals.Capacity limit) next r is told = told limit is
refusal refusals.Memory next r is told = tt

-- a step that is refused stands behind a run in which nothing was seen
pub refused_at : (p : ProgramTree) (s : State) (events : List Event) (k : ℕ) (q : ProgramTree) (now new : State) (e : Event) (fault : StepFault) (r : Result Stepped StepFault) → k < length events → q ≡ p
    → ComesTo p s events k now → IsQuiet q now → slice_get events k ≡ Some e → new ≡ now → r ≡ Err fault
    → ((limit : Limit) → r ≡ Err (refusals.Capacity limit) → first_passed (after q now e) ≡ Some limit) → IsTraced p s events new (Err fault)
refused_at p s events k q now new e fault r low same comes quiet at stays is told =
    let next : after q now e ≡ state_after p s events (k + 1) = ap (λ y. after y now e) same ∙ ap (λ y. after p y e) comes.state ∙ sym (one_more p s events k e low (get_or_from_slice_get events k e e at)) in
    let stands : StandsBefore p s events k new = record {
      comes = record { within = comes.within; quiet = comes.quiet; fits = comes.fits; state = stays ∙ comes.state };
      left = low;
      quiet = subst (IsQuiet p) (sym stays) (subst (λ y. IsQuiet y now) same quiet);
    } in
    (k, stands, subst (IsRefusedBy fault) next (refusal fault (after q now e) r is told))
