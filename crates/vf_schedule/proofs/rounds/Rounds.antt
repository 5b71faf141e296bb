-- The threads going round.
use Rattle.std.proofs.Common.{◌≡◌, ℕ, zero, suc, ◌+◌, ◌-◌, ◌<◌, ◌≤◌, Bool, true, false, cond, ◌&&◌, nat_lt, List, [], ◌∷◌, ◌++◌, length, map, Option, Some, None, Result, Ok, Err, refl, sym, ap, subst, ◌∙◌, ⊎_elim, arith}
use Rattle.std.specs.List.{find, range_with_len}
use Rattle.std.specs.Option.{option_map}
use Rattle.std.proofs.lemmas.Bool.{cases_lt}
use Rattle.vf_tree.specs.Core.{ProgramTree}
use Rattle.vf_model.specs.declared.words.Event.{Event}
use Rattle.vf_model.specs.State.{State}
use Rattle.vf_model.specs.Runs.{after, can_step}
use Rattle.vf_engine.specs.declared.words.Limit.{Limit}
use Rattle.vf_engine.specs.declared.words.StepFault.{StepFault}
use Rattle.vf_engine.specs.declared.words.StepFault.TheVariants as refusals
use Rattle.vf_run.specs.Counts.{first_passed}
use Rattle.vf_schedule.specs.rounds.Turns.{event_of, thread_at, next_stepper, new_turn, next_turn}
use Rattle.vf_schedule.specs.rounds.Taken.{TakesOne, Stays, IsRefusedTo, IsTurnTaken}
use Rattle.vf_schedule.specs.declared.rounds.turning.Turn.{Turn}

find_skips : (f : ℕ → Bool) (g : ℕ → ℕ) (a n : ℕ) → ((d : ℕ) → a ≤ d → d < a + n → f (g d) ≡ false) → find f (map g (range_with_len a n)) ≡ None
find_skips f g a zero h = refl
find_skips f g a (suc n) h =
    ap (λ b. cond b (Some (g a)) (find f (map g (range_with_len (a + 1) n)))) (h a (omega arith) (omega arith))
    ∙ find_skips f g (a + 1) n (λ d low high. h d (omega arith) (omega arith))

find_stops : (f : ℕ → Bool) (g : ℕ → ℕ) (a n k : ℕ) → a ≤ k → k < a + n → ((d : ℕ) → a ≤ d → d < k → f (g d) ≡ false) → f (g k) ≡ true
    → find f (map g (range_with_len a n)) ≡ Some (g k)
find_stops f g a zero k low high none is = absurd (omega arith)
find_stops f g a (suc n) k low high none is =
    ⊎_elim
    (λ less. ap (λ b. cond b (Some (g a)) (find f (map g (range_with_len (a + 1) n)))) (none a (omega arith) less)
    ∙ find_stops f g (a + 1) n k (omega (arith, less)) (omega arith) (λ d l h. none d (omega arith) h) is)
    (λ more. let same : k ≡ a = omega (arith, more, low) in
    ap (λ b. cond b (Some (g a)) (find f (map g (range_with_len (a + 1) n)))) (ap (λ x. f (g x)) (sym same) ∙ is) ∙ ap (λ x. Some (g x)) (sym same))
    (cases_lt a k)

-- none of the threads at the first places behind one can step
abbrev pub NoneBefore : ProgramTree → State → ℕ → ℕ → ℕ → Type 0
NoneBefore p s thread count k = (d : ℕ) → d < k → can_step p s (thread_at thread count d) ≡ false

-- where none of all can step, none is next
pub none_next : (p : ProgramTree) (s : State) (thread count : ℕ) → count ≡ length s.threads → NoneBefore p s thread count count → next_stepper p s thread ≡ None
none_next p s thread count is none =
    ap (λ n. find (can_step p s) (map (thread_at thread n) (range_with_len 0 n))) (sym is)
    ∙ find_skips (can_step p s) (thread_at thread count) 0 count (λ d low high. none d (omega (arith, high)))

-- the first that can step is next
pub is_next : (p : ProgramTree) (s : State) (thread count k : ℕ) → count ≡ length s.threads → k < count → NoneBefore p s thread count k → can_step p s (thread_at thread count k) ≡ true
    → next_stepper p s thread ≡ Some (thread_at thread count k)
is_next p s thread count k is low none can =
    ap (λ n. find (can_step p s) (map (thread_at thread n) (range_with_len 0 n))) (sym is)
    ∙ find_stops (can_step p s) (thread_at thread count) 0 count k (omega arith) (omega (arith, low)) (λ d l h. none d h) can

-- one more cannot step
pub none_more : (p : ProgramTree) (s : State) (thread count k next : ℕ) (q : ProgramTree) (now : State) → q ≡ p → now ≡ s → NoneBefore p s thread count k → next ≡ thread_at thread count k
    → false ≡ can_step q now next → NoneBefore p s thread count (k + 1)
none_more p s thread count k next q now same stays none is cannot = λ d h.
    ⊎_elim
    (λ less. none d less)
    (λ more. let at : d ≡ k = omega (arith, more, h) in
    ap (λ x. can_step p s (thread_at thread count x)) at ∙ ap (can_step p s) (sym is) ∙ ap (λ y. can_step p y next) (sym stays) ∙ ap (λ y. can_step y now next) (sym same) ∙ sym cannot)
    (cases_lt d k)

-- the thread that could step is next
pub next_is : (p : ProgramTree) (s : State) (thread count k next : ℕ) (q : ProgramTree) (now : State) → count ≡ length s.threads → k < count → q ≡ p → now ≡ s → NoneBefore p s thread count k
    → next ≡ thread_at thread count k → can_step q now next ≡ true → next_stepper p s thread ≡ Some next
next_is p s thread count k next q now counted low same stays none is can =
    is_next p s thread count k counted low none (ap (can_step p s) (sym is) ∙ ap (λ y. can_step p y next) (sym stays) ∙ ap (λ y. can_step y now next) (sym same) ∙ can)
    ∙ ap Some (sym is)

-- what was taken from a state in which all is as it was
pub takes_one : (p : ProgramTree) (s : State) (log : List Event) (next : ℕ) (q : ProgramTree) (now : State) (now_log : List Event) (new : State) (new_log : List Event) → q ≡ p → Stays s log now now_log
    → new ≡ after q now (event_of next) → new_log ≡ now_log ++ event_of next ∷ [] → first_passed (after q now (event_of next)) ≡ None → TakesOne p s log next new new_log
takes_one p s log next q now now_log new new_log same stays is logged fits =
    let step : after q now (event_of next) ≡ after p s (event_of next) = ap (λ y. after y now (event_of next)) same ∙ ap (λ y. after p y (event_of next)) stays.state in
    record {
      state = is ∙ step;
      logged = logged ∙ ap (λ l. l ++ event_of next ∷ []) stays.logged;
      fits = ap first_passed (sym step) ∙ fits;
    }

-- a thread that can step is refused its event only by a limit, or by want of memory
pub refused_to : (p : ProgramTree) (s : State) (next : Option ℕ) (thread : ℕ) (q : ProgramTree) (now : State) (fault : StepFault) (r : Result Bool StepFault) → q ≡ p → now ≡ s → r ≡ Err fault
    → ((limit : Limit) → r ≡ Err (refusals.Capacity limit) → next ≡ Some thread) → ((limit : Limit) → r ≡ Err (refusals.Capacity limit) → first_passed (after q now (event_of thread)) ≡ Some limit)
    → IsRefusedTo fault p s next
refused_to p s next thread q now (refusals.Capacity limit) r same stays is could passed =
    (thread, could limit is, ap first_passed (ap (λ y. after p y (event_of thread)) (sym stays) ∙ ap (λ y. after y now (event_of thread)) (sym same)) ∙ passed limit is)
refused_to p s next thread q now refusals.Memory r same stays is could passed = tt

and_false : (b : Bool) → (b && false) ≡ false
and_false true = refl
and_false false = refl

-- where the thread whose turn it is cannot step, the next one begins a turn
pub passed_on : (p : ProgramTree) (quantum : ℕ) (s : State) (thread left : ℕ) → false ≡ can_step p s thread → next_turn p quantum s thread left ≡ option_map (new_turn quantum) (next_stepper p s thread)
passed_on p quantum s thread left cannot =
    ap (λ b. cond (nat_lt 0 left && b) (Some (thread, left - 1)) (option_map (new_turn quantum) (next_stepper p s thread))) (sym cannot)
    ∙ ap (λ b. cond b (Some (thread, left - 1)) (option_map (new_turn quantum) (next_stepper p s thread))) (and_false (nat_lt 0 left))

-- what became of the next turn from a state in which all is as it was
pub taken_from : (p : ProgramTree) (quantum : ℕ) (s : State) (log : List Event) (q : ProgramTree) (now : State) (now_log : List Event) (thread left : ℕ) (r : Result (Option Turn) StepFault) (new : State) (new_log : List Event)
    → q ≡ p → now ≡ s → now_log ≡ log → false ≡ can_step p s thread → IsTurnTaken q now now_log (option_map (new_turn quantum) (next_stepper q now thread)) r new new_log
    → IsTurnTaken p s log (next_turn p quantum s thread left) r new new_log
taken_from p quantum s log q now now_log thread left r new new_log same stays logged cannot h =
    subst (λ o. IsTurnTaken p s log o r new new_log) (sym (passed_on p quantum s thread left cannot))
    (subst (λ l. IsTurnTaken p s l (option_map (new_turn quantum) (next_stepper p s thread)) r new new_log) logged
    (subst (λ y. IsTurnTaken p y now_log (option_map (new_turn quantum) (next_stepper p y thread)) r new new_log) stays
    (subst (λ y. IsTurnTaken y now now_log (option_map (new_turn quantum) (next_stepper y now thread)) r new new_log) same h)))
