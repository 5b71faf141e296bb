-- Runs of turns, and their logs.
use Rattle.std.proofs.Common.{◌≡◌, ℕ, zero, suc, ◌+◌, ◌-◌, ◌<◌, ◌≤◌, List, [], ◌∷◌, ◌++◌, append_assoc, append-nil, Option, Some, None, refl, sym, ap, subst, ◌∙◌, arith}
use Rattle.std.specs.List.{fold}
use Rattle.std.proofs.lemmas.List.Sums.{fold_push}
use Rattle.vf_tree.specs.Core.{ProgramTree}
use Rattle.vf_model.specs.declared.words.Event.{Event}
use Rattle.vf_model.specs.State.{State}
use Rattle.vf_model.specs.Runs.{after}
use Rattle.vf_engine.specs.declared.words.StepFault.{StepFault}
use Rattle.vf_engine.specs.declared.words.StepFault.TheVariants as refusals
use Rattle.vf_run.specs.Counts.{first_passed}
use Rattle.vf_schedule.specs.rounds.Turns.{event_of, events_from, next_turn, turns_from, turns_of}
use Rattle.vf_schedule.specs.rounds.Taken.{FitsAll, AreTaken, IsRefusedAt, StopsAt, TakesOne, Stays, IsRefusedTurn}

-- what has been taken after so many steps, and the turn that goes on
pub record Turned (p : ProgramTree) (quantum : ℕ) (s : State) (log : List Event) (steps count : ℕ) (now : State) (now_log : List Event) (thread left : ℕ) : Type 0 where
  pub taken : List Event
  pub are_taken : AreTaken p s log taken now now_log
  pub parts : turns_of p quantum s steps ≡ taken ++ turns_from p quantum now thread left (steps - count)

-- before any step
pub begun : (p : ProgramTree) (quantum : ℕ) (s : State) (log : List Event) (steps : ℕ) → Turned p quantum s log steps 0 s log 0 quantum
begun p quantum s log steps = record {
  taken = [];
  are_taken = record { state = refl; logged = sym (append-nil log); fits = tt };
  parts = ap (turns_from p quantum s 0 quantum) (omega arith);
}

fits_push : (p : ProgramTree) (s : State) (events : List Event) (e : Event) → FitsAll p s events → first_passed (after p (fold (after p) s events) e) ≡ None → FitsAll p s (events ++ e ∷ [])
fits_push p s [] e all fits = (fits, tt)
fits_push p s (x ∷ events) e all fits = (all.0, fits_push p (after p s x) events e all.1 fits)

-- some steps are left
one_left : (steps count : ℕ) → count < steps → steps - count ≡ suc (steps - (count + 1))
one_left steps count low = omega (arith, low)

turns_on : (p : ProgramTree) (quantum : ℕ) (now : State) (thread left n : ℕ) (o : Option (ℕ × ℕ)) → next_turn p quantum now thread left ≡ o
    → turns_from p quantum now thread left (suc n) ≡ events_from o (λ turn. turns_from p quantum (after p now (event_of turn.0)) turn.0 turn.1 n)
turns_on p quantum now thread left n o is = ap (λ x. events_from x (λ turn. turns_from p quantum (after p now (event_of turn.0)) turn.0 turn.1 n)) is

-- one event more
pub goes_on : (p : ProgramTree) (quantum : ℕ) (s : State) (log : List Event) (steps count : ℕ) (q : ProgramTree) (now : State) (now_log : List Event) (thread left : ℕ) (new : State) (new_log : List Event) (next next_left : ℕ)
    → count < steps → q ≡ p → Turned p quantum s log steps count now now_log thread left → next_turn q quantum now thread left ≡ Some (next, next_left) → TakesOne q now now_log next new new_log
    → Turned p quantum s log steps (count + 1) new new_log next next_left
goes_on p quantum s log steps count q now now_log thread left new new_log next next_left low same turned is one =
    let e = event_of next in
    let here = turned.are_taken in
    let all = turned.taken in
    let step : new ≡ after p now e = one.state ∙ ap (λ y. after y now e) same in
    let chosen : next_turn p quantum now thread left ≡ Some (next, next_left) = ap (λ y. next_turn y quantum now thread left) (sym same) ∙ is in
    let rest : turns_from p quantum now thread left (steps - count) ≡ e ∷ turns_from p quantum new next next_left (steps - (count + 1)) =
    ap (turns_from p quantum now thread left) (one_left steps count low) ∙ turns_on p quantum now thread left (steps - (count + 1)) (Some (next, next_left)) chosen
    ∙ ap (λ y. e ∷ turns_from p quantum y next next_left (steps - (count + 1))) (sym step) in
    record {
      taken = all ++ e ∷ [];
      are_taken = record {
        state = step ∙ ap (λ y. after p y e) here.state ∙ sym (fold_push (after p) s all e);
        logged = one.logged ∙ ap (λ l. l ++ e ∷ []) here.logged ∙ append_assoc log all (e ∷ []);
        fits = fits_push p s all e here.fits (ap first_passed (ap (λ y. after p y e) (sym here.state) ∙ ap (λ y. after y now e) (sym same)) ∙ one.fits);
      };
      parts = turned.parts ∙ ap (λ r. all ++ r) rest ∙ sym (append_assoc all (e ∷ []) (turns_from p quantum new next next_left (steps - (count + 1))));
    }

-- what stays is taken as before
stay_taken : (p : ProgramTree) (s : State) (log all : List Event) (now : State) (now_log : List Event) (new : State) (new_log : List Event) → AreTaken p s log all now now_log → Stays now now_log new new_log → AreTaken p s log all new new_log
stay_taken p s log all now now_log new new_log here stays = record { state = stays.state ∙ here.state; logged = stays.logged ∙ here.logged; fits = here.fits }

-- where no thread is next, all was taken
pub ends : (p : ProgramTree) (quantum : ℕ) (s : State) (log : List Event) (steps count : ℕ) (q : ProgramTree) (now : State) (now_log : List Event) (thread left : ℕ) (new : State) (new_log : List Event)
    → count < steps → q ≡ p → Turned p quantum s log steps count now now_log thread left → next_turn q quantum now thread left ≡ None → Stays now now_log new new_log
    → AreTaken p s log (turns_of p quantum s steps) new new_log
ends p quantum s log steps count q now now_log thread left new new_log low same turned is stays =
    let all = turned.taken in
    let rest : turns_from p quantum now thread left (steps - count) ≡ [] =
    ap (turns_from p quantum now thread left) (one_left steps count low) ∙ turns_on p quantum now thread left (steps - (count + 1)) None (ap (λ y. next_turn y quantum now thread left) (sym same) ∙ is) in
    subst (λ es. AreTaken p s log es new new_log) (sym (turned.parts ∙ ap (λ r. all ++ r) rest ∙ append-nil all)) (stay_taken p s log all now now_log new new_log turned.are_taken stays)

-- where all steps are done, all was taken
pub done : (p : ProgramTree) (quantum : ℕ) (s : State) (log : List Event) (steps count : ℕ) (now : State) (now_log : List Event) (thread left : ℕ) → steps ≤ count → Turned p quantum s log steps count now now_log thread left
    → AreTaken p s log (turns_of p quantum s steps) now now_log
done p quantum s log steps count now now_log thread left over turned =
    let all = turned.taken in
    let none : steps - count ≡ 0 = omega (arith, over) in
    subst (λ es. AreTaken p s log es now now_log) (sym (turned.parts ∙ ap (λ n. all ++ turns_from p quantum now thread left n) none ∙ append-nil all)) turned.are_taken

refused_at : (fault : StepFault) (p : ProgramTree) (quantum : ℕ) (now : State) (thread left n : ℕ) → IsRefusedTurn fault p now (next_turn p quantum now thread left)
    → IsRefusedAt fault p now (turns_from p quantum now thread left (suc n))
refused_at (refusals.Capacity limit) p quantum now thread left n h =
    subst (IsRefusedAt (refusals.Capacity limit) p now) (sym (turns_on p quantum now thread left n (Some h.0) h.1)) h.2
refused_at refusals.Memory p quantum now thread left n h = tt

-- where the next event is refused, the others were taken
pub stops : (p : ProgramTree) (quantum : ℕ) (s : State) (log : List Event) (steps count : ℕ) (q : ProgramTree) (now : State) (now_log : List Event) (thread left : ℕ) (new : State) (new_log : List Event) (fault : StepFault)
    → count < steps → q ≡ p → Turned p quantum s log steps count now now_log thread left → Stays now now_log new new_log → IsRefusedTurn fault q now (next_turn q quantum now thread left)
    → StopsAt p s log (turns_of p quantum s steps) fault new new_log
stops p quantum s log steps count q now now_log thread left new new_log fault low same turned stays refused =
    let told = subst (λ y. IsRefusedTurn fault y now (next_turn y quantum now thread left)) same refused in
    let n = steps - (count + 1) in
    record {
      taken = turned.taken;
      rest = turns_from p quantum now thread left (suc n);
      parts = turned.parts ∙ ap (λ k. turned.taken ++ turns_from p quantum now thread left k) (one_left steps count low);
      are_taken = stay_taken p s log turned.taken now now_log new new_log turned.are_taken stays;
      refused = subst (λ y. IsRefusedAt fault p y (turns_from p quantum now thread left (suc n))) (sym stays.state) (refused_at fault p quantum now thread left n told);
    }
