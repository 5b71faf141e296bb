-- Each event keeps what stands of a state while a program runs.
use Rattle.std.proofs.Common.{◌≡◌, ◌≢◌, ℕ, zero, suc, ◌<◌, Bool, true, false, [], ◌∷◌, length, slice_get, Option, Some, None, refl, sym, ap, subst, ◌∙◌, ◌⊎◌, inl, inr, arith}
use Rattle.std.specs.Prelude.{◌&&◌, not, is_none}
use Rattle.std.proofs.lemmas.Bool.{false≢true, cases_Bool, cases_eq}
use Rattle.vf_tree.specs.Core.{Identity, ProgramTree}
use Rattle.vf_model.specs.declared.words.Event.{Event}
use Rattle.vf_model.specs.Values.{Value}
use Rattle.vf_model.specs.Values as values
use Rattle.vf_model.specs.Memory.{Mutex, Handle, block_at}
use Rattle.vf_model.specs.State.{Frame, Thread, End, State}
use Rattle.vf_model.specs.Acts.{Act, Goes, Touches, Allocates, Waits, Faults}
use Rattle.vf_model.specs.Steps.{act_by, next_act}
use Rattle.vf_model.specs.Runs.{happens, after_unended, after, is_wait}
use Rattle.vf_meaning.specs.Fractions.{IsPositive}
use Rattle.vf_meaning.specs.Assertions.{Environment}
use Rattle.vf_meaning.specs.Parts.{MutexAt, HandleAt, MutexOf, HandleOf, Part, nothing, IsSum}
use Rattle.vf_meaning.specs.ShareOuts.{Ended, IsHandleOf, SatisfiesInvariant, SatisfiesPost}
use Rattle.vf_meaning.specs.Kept.{depth_in, depth, Returns, Promise, CallsPointer, StartsThread, Leaks}
use Rattle.vf_meaning.proofs.Parts.{nothing_is_neutral}
use Rattle.vf_safety.specs.Safe.{Duty, Duties, Within, Done, DoneAt, DutiesChange, duties_same, Promised, event_of, IsShared, IsPlain, IsJoinable, HasBegun, Exchange, no_exchange, from_mutex, to_mutex, to_thread, to_joinable, from_thread, Concerns, Starts, IsTaken, Offers, IsPromised, Went, Secure, Safe}
use Rattle.vf_safety.proofs.Duties.{IsIn}
use Rattle.vf_safety.proofs.Left.{plain_left}
use Rattle.vf_safety.proofs.Owners.{OfThread, OfMutex, Leaked, with_part, part_other, Opened, opened}
use Rattle.vf_safety.proofs.Exchanges.{thread_other, mutex_thread, thread_mutex, thread_leaked, mutex_leaked, mutex_other, deal_none, deal_to, deal_from, Joins, HasExchanged, Passed, concerned, starting, joining, is_end, mutex_concerned, StartedBy, first_duty, started_by, handle_shared, held_by, free_by, changed_by, handle_kept, Makes, handle_made, makes_starts, makes_one, made_joinable, begun_watched, joined_ended, joined_handle, joined_nothing}
use Rattle.vf_safety.proofs.Listed.{out_of}
use Rattle.vf_safety.proofs.Worlds.{none_some, some_none, some_same, cons_nil, suc_zero, put_own, put_other, put_if_own, put_if_other, put_if_none, no_first, in_list, past_list, not_ended, put, put_if, alone, ended_is, World, at_same, fewer_steps, safe_fewer, left_post}

module _ (e : Environment) (p : ProgramTree) (duty : Duty) where
  -- ---- one event
  -- a thread that an event starts has its first duty and a part that satisfies the precondition of its function type, and no more
  pub record IsBegun (call : Promise) (duties : Duties) (own : Part) : Type 0 where
    pub promised : Promised e call [] duties own
    pub rest : (promised.duty).rest ≡ nothing

  -- An event led to a world: the parts of the threads that did not do it and are not joined in it, and of the mutexes whose blocks are as before, are as before; what was leaked grows only where a leak stands; a call through a pointer is a new duty of the thread, a return from a call with a duty does it, and a thread that is started has its first duty
  pub record Next (m : ℕ) (s : State) (w : World e p duty (suc m) s) (event : Event) : Type 0 where
    pub world : World e p duty m (after p s event)
    pub threads : (u : ℕ) → u ≢ event.thread → u < length s.threads → ((b : ℕ) → IsHandleOf s b u → block_at (after p s event).memory b ≡ block_at s.memory b) → world.parts (OfThread u) ≡ w.parts (OfThread u)
    pub mutexes : (b : ℕ) → block_at (after p s event).memory b ≡ block_at s.memory b → world.parts (OfMutex b) ≡ w.parts (OfMutex b)
    pub changes : (u : ℕ) → u < length s.threads → DutiesChange (depth s u) (depth (after p s event) u) (w.duties u) (world.duties u)
    pub leaks : Leaks e p s event.thread (out_of w.parts) (out_of world.parts)
    pub called : (call : Promise) → CallsPointer e p s event call → Promised e call (w.duties event.thread) (world.duties event.thread) (world.parts (OfThread event.thread))
    pub leaves : (result : Option Value) → Returns p s event.thread result → (n : ℕ) → depth s event.thread ≡ suc n → DoneAt e n (w.duties event.thread) result (world.parts (OfThread event.thread))
    pub starts : (call : Promise) → StartsThread p s event call → IsBegun call (world.duties call.thread) (world.parts (OfThread call.thread))

  pub going_of : (o : Option End) (b : Bool) → (is_none o && b) ≡ true → o ≡ None
  going_of None b h = refl
  going_of (Some end) b h = absurd (false≢true h)

  -- an event that changes nothing
  idle_next : (m : ℕ) (s : State) (w : World e p duty (suc m) s) (event : Event) → after p s event ≡ s → ((call : Promise) → CallsPointer e p s event call → ⊥) → ((result : Option Value) → Returns p s event.thread result → ⊥) → Next m s w event
  idle_next m s w event same uncalled none = record {
    world = at_same e p duty m s (after p s event) same (fewer_steps e p duty m s w);
    threads = λ u other known kept. refl;
    mutexes = λ b as_before. refl;
    changes = λ u known. duties_same (w.duties u);
    leaks = record { more = nothing; sums = nothing_is_neutral (w.parts Leaked); unleaked = λ no_leak. refl };
    called = λ call h. absurd (uncalled call h);
    leaves = λ result r n one. absurd (none result r);
    starts = λ call h. absurd (no_more (length s.threads) (sym (ap (λ (z : State). length z.threads) same) ∙ h.started));
  }
    where
      no_more : (n : ℕ) → n ≡ suc n → ⊥
      no_more n h = omega (arith, h)

  still_owes : (d : Duty) → d.below ≡ 0 → (n m : ℕ) (old new : Duties) → DutiesChange n m old new → IsIn d old → (m ≡ 0) ⊎ IsIn d new
  still_owes d low n m old new (DutiesChange.duties_same ds) h = inr h
  still_owes d low n m old new (DutiesChange.duty_added c ds at) h = inr (inr h)
  still_owes d low n m old new (DutiesChange.duty_done c ds from to) (inl same) = inl (to ∙ ap (λ (z : Duty). z.below) same ∙ low)
  still_owes d low n m old new (DutiesChange.duty_done c ds from to) (inr h) = inr h

  -- the duty of a thread's last call is the only one when it ends
  only_first : (d : Duty) (n m : ℕ) (old new : Duties) → DutiesChange n m old new → Within 0 new → IsIn d old → (others : Duties) × (old ≡ d ∷ others)
  only_first d n m old new (DutiesChange.duties_same []) within h = absurd h
  only_first d n m old new (DutiesChange.duties_same (c ∷ ds)) within h = absurd (none_below c.below within.0)
    where
      none_below : (k : ℕ) → k < 0 → ⊥
      none_below k l = omega (arith, l)
  only_first d n m old new (DutiesChange.duty_added c ds at) within h = absurd (none_below c.below within.0)
    where
      none_below : (k : ℕ) → k < 0 → ⊥
      none_below k l = omega (arith, l)
  only_first d n m old new (DutiesChange.duty_done c [] from to) within (inl same) = ([], ap (λ z. z ∷ []) same)
  only_first d n m old new (DutiesChange.duty_done c [] from to) within (inr h) = absurd h
  only_first d n m old new (DutiesChange.duty_done c (a ∷ ds) from to) within h = absurd (none_below a.below within.0)
    where
      none_below : (k : ℕ) → k < 0 → ⊥
      none_below k l = omega (arith, l)

  -- ---- what stands after an event of a thread
  module _ (m : ℕ) (s : State) (w : World e p duty (suc m) s) (t : ℕ) (frame : Frame) (callers : Thread) (here : slice_get s.threads t ≡ Some (frame ∷ callers)) (going : s.end ≡ None) (new : State) (x : Exchange) (offered : Offers x s w.all) (rest : Part)
      (went : Went e p t (λ u ds. Safe e p u ds m) x (w.duties t) s new rest w.all) (passed : Passed e t x s w.parts went.own went.leaked went.all) where
    abbrev duties_after : ℕ → Duties
    duties_after = put (put_if w.duties (length s.threads) alone (first_duty x)) t went.owing

    abbrev firsts_after : ℕ → Duty
    firsts_after = put_if w.firsts (length s.threads) (λ d. d) (first_duty x)

    not_new : t ≢ length s.threads
    not_new h = no_first (in_list s.threads t (frame ∷ callers) here) h

    not_started : Starts x s t → ⊥
    not_started h = not_new (is_end x s t h)

    not_joined : Joins x t → ⊥
    not_joined h = not_ended (slice_get s.threads t) here (joined_ended x s w.all offered t h)

    own_duties : duties_after t ≡ went.owing
    own_duties = put_own (put_if w.duties (length s.threads) alone (first_duty x)) t went.owing

    other_duties : (u : ℕ) → u ≢ t → u ≢ length s.threads → duties_after u ≡ w.duties u
    other_duties u other old = put_other (put_if w.duties (length s.threads) alone (first_duty x)) t went.owing u other ∙ put_if_other w.duties (length s.threads) alone (first_duty x) u old

    new_duties : (d : Duty) → first_duty x ≡ Some d → duties_after (length s.threads) ≡ d ∷ []
    new_duties d first = put_other (put_if w.duties (length s.threads) alone (first_duty x)) t went.owing (length s.threads) (λ h. not_new (sym h)) ∙ put_if_own w.duties (length s.threads) alone (first_duty x) d first

    other_firsts : (u : ℕ) → u ≢ length s.threads → firsts_after u ≡ w.firsts u
    other_firsts u old = put_if_other w.firsts (length s.threads) (λ d. d) (first_duty x) u old

    new_firsts : (d : Duty) → first_duty x ≡ Some d → firsts_after (length s.threads) ≡ d
    new_firsts d first = put_if_own w.firsts (length s.threads) (λ d. d) (first_duty x) d first

    -- a thread that had frames or had ended is not the new one
    old_thread : (u : ℕ) (frames : Thread) → slice_get s.threads u ≡ Some frames → u ≢ length s.threads
    old_thread u frames there h = no_first (in_list s.threads u frames there) h

    begun_by : (u : ℕ) → Starts x s u → (k : StartedBy (λ u ds. Safe e p u ds m) x s new u passed.parts) × (first_duty x ≡ Some k.duty)
    begun_by u h = started_by e (λ u ds. Safe e p u ds m) x s new u passed.parts went.begun passed.exchanged h

    frames_are : (u : ℕ) → u ≡ t → (frames : Thread) → slice_get new.threads u ≡ Some frames → went.frames ≡ frames
    frames_are u is frames there = some_same (sym went.now ∙ ap (slice_get new.threads) (sym is) ∙ there)

    -- a property of each thread that has frames after the event
    by_thread : (P : ℕ → Thread → Type 0) → P t went.frames → ((u : ℕ) → u ≢ t → (Starts x s u → ⊥) → (frames : Thread) → slice_get s.threads u ≡ Some frames → P u frames)
        → ((k : StartedBy (λ u ds. Safe e p u ds m) x s new (length s.threads) passed.parts) → first_duty x ≡ Some k.duty → P (length s.threads) k.frames) → (u : ℕ) (frames : Thread) → slice_get new.threads u ≡ Some frames → P u frames
    by_thread P own other begun u frames there = elim (cases_eq u t) [
      | inl same ↦ subst (λ z. P z frames) (sym same) (subst (P t) (frames_are u same frames there) own)
      | inr apart1 ↦ elim (starting x s u) [
        | inl starts ↦
            let at = is_end x s u starts in
            let (k, first) = begun_by (length s.threads) (subst (Starts x s) at starts) in
            subst (λ z. P z frames) (sym at) (subst (P (length s.threads)) (some_same (sym (k.begun).there ∙ ap (slice_get new.threads) (sym at) ∙ there)) (begun k first))
        | inr old ↦ other u apart1 old frames (sym (went.alone u apart1 old) ∙ there)
      ]
    ]

    within_after : (u : ℕ) (frames : Thread) → slice_get new.threads u ≡ Some frames → Within (length frames) (duties_after u)
    within_after = by_thread (λ u frames. Within (length frames) (duties_after u)) (subst (Within (length went.frames)) (sym own_duties) went.within)
        (λ u other old frames there. subst (Within (length frames)) (sym (other_duties u other (old_thread u frames there))) (w.within u frames there))
        (λ k first. subst (Within (length k.frames)) (sym (new_duties k.duty first)) (one_call (length k.frames) (k.duty).below (k.begun).one (k.begun).first, tt))
      where
        one_call : (n b : ℕ) → n ≡ 1 → b ≡ 0 → b < n
        one_call n b h k = omega (arith, h, k)

    safe_after : new.end ≡ None → (u : ℕ) (frames : Thread) → slice_get new.threads u ≡ Some frames → Safe e p u (duties_after u) m frames (passed.parts (OfThread u))
    safe_after none = by_thread (λ u frames. Safe e p u (duties_after u) m frames (passed.parts (OfThread u)))
        (subst (λ ds. Safe e p t ds m went.frames (passed.parts (OfThread t))) (sym own_duties) (subst (Safe e p t went.owing m went.frames) (sym passed.own_is) (went.going none)))
        (λ u other old frames there. subst (λ ds. Safe e p u ds m frames (passed.parts (OfThread u))) (sym (other_duties u other (old_thread u frames there))) (safe_other u other old frames there))
        (λ k first. subst (λ ds. Safe e p (length s.threads) ds m k.frames (passed.parts (OfThread (length s.threads)))) (sym (new_duties k.duty first))
        (subst (Safe e p (length s.threads) (k.duty ∷ []) m k.frames) (sym k.has) (k.begun).going))
      where
        safe_other : (u : ℕ) → u ≢ t → (Starts x s u → ⊥) → (frames : Thread) → slice_get s.threads u ≡ Some frames → Safe e p u (w.duties u) m frames (passed.parts (OfThread u))
        safe_other u other old frames there = elim (joining x u) [
          | inl joins ↦ no_frames u frames (passed.parts (OfThread u)) (some_same (sym there ∙ ended_is (slice_get s.threads u) (joined_ended x s w.all offered u joins)))
          | inr apart1 ↦ subst (Safe e p u (w.duties u) m frames) (sym (passed.threads u other old apart1)) (safe_fewer e p duty m u (w.duties u) frames (w.parts (OfThread u)) (w.safe going u frames there))
        ]
          where
            ended_safe : (n u : ℕ) (own : Part) → Safe e p u (w.duties u) n [] own
            ended_safe zero u own = tt
            ended_safe (suc n) u own = tt

            no_frames : (u : ℕ) (frames : Thread) (own : Part) → frames ≡ [] → Safe e p u (w.duties u) m frames own
            no_frames u frames own none1 = subst (λ z. Safe e p u (w.duties u) m z own) (sym none1) (ended_safe m u own)

    owes_after : (u : ℕ) (frames : Thread) → slice_get new.threads u ≡ Some frames → (length frames ≡ 0) ⊎ IsIn (firsts_after u) (duties_after u)
    owes_after = by_thread (λ u frames. (length frames ≡ 0) ⊎ IsIn (firsts_after u) (duties_after u))
        (own_owes (elim (w.owes t (frame ∷ callers) here) [ inl none ↦ suc_zero none | inr h ↦ still_owes (w.firsts t) (w.bottom t) (depth s t) (length went.frames) (w.duties t) went.owing went.owes h ]))
        (λ u other old frames there. other_owes u frames (other_firsts u (old_thread u frames there)) (other_duties u other (old_thread u frames there)) (w.owes u frames there))
        (λ k first. inr (subst (λ d. IsIn d (duties_after (length s.threads))) (sym (new_firsts k.duty first)) (subst (IsIn k.duty) (sym (new_duties k.duty first)) (inl refl))))
      where
        own_owes : (length went.frames ≡ 0) ⊎ IsIn (w.firsts t) went.owing → (length went.frames ≡ 0) ⊎ IsIn (firsts_after t) (duties_after t)
        own_owes (inl none) = inl none
        own_owes (inr h) = inr (subst (λ d. IsIn d (duties_after t)) (sym (other_firsts t not_new)) (subst (IsIn (w.firsts t)) (sym own_duties) h))

        other_owes : (u : ℕ) (frames : Thread) → firsts_after u ≡ w.firsts u → duties_after u ≡ w.duties u → (length frames ≡ 0) ⊎ IsIn (w.firsts u) (w.duties u) → (length frames ≡ 0) ⊎ IsIn (firsts_after u) (duties_after u)
        other_owes u frames same also (inl none) = inl none
        other_owes u frames same also (inr h) = inr (subst (λ d. IsIn d (duties_after u)) (sym same) (subst (IsIn (w.firsts u)) (sym also) h))

    bottom_after : (u : ℕ) → (firsts_after u).below ≡ 0
    bottom_after u = by_first (first_duty x) refl (cases_eq u (length s.threads))
      where
        by_first : (o : Option Duty) → first_duty x ≡ o → (u ≡ length s.threads) ⊎ (u ≢ length s.threads) → (firsts_after u).below ≡ 0
        by_first None is (inl same) = ap (λ (z : Duty). z.below) (put_if_none w.firsts (length s.threads) (λ d. d) (first_duty x) u is) ∙ w.bottom u
        by_first (Some d) is (inl same) = ap (λ z. (firsts_after z).below) same ∙ ap (λ (z : Duty). z.below) (new_firsts d is) ∙ low x is went.begun
          where
            low : (x : Exchange) → first_duty x ≡ Some d → HasBegun (λ u ds. Safe e p u ds m) x s new → d.below ≡ 0
            low (to_thread frames f q) first b = ap (λ (z : Duty). z.below) (sym (some_same first)) ∙ b.first
            low (to_joinable c frames f q) first b = ap (λ (z : Duty). z.below) (sym (some_same first)) ∙ b.first
            low no_exchange first b = none_some first
            low (from_mutex c q) first b = none_some first
            low (to_mutex c q) first b = none_some first
            low (from_thread c v run argument info) first b = none_some first
        by_first o is (inr other) = ap (λ (z : Duty). z.below) (other_firsts u other) ∙ w.bottom u

    not_main : length s.threads ≢ 0
    not_main h = none_below t (subst (λ z. t < z) h (in_list s.threads t (frame ∷ callers) here))
      where
        none_below : (k : ℕ) → k < 0 → ⊥
        none_below k l = omega (arith, l)

    main_after : firsts_after 0 ≡ duty
    main_after = other_firsts 0 (λ h. not_main (sym h)) ∙ w.main

    unknown_after : (u : ℕ) → slice_get new.threads u ≡ None → passed.parts (OfThread u) ≡ nothing
    unknown_after u none = elim (cases_eq u t) [
      | inl same ↦ some_none (sym went.now ∙ ap (slice_get new.threads) (sym same) ∙ none)
      | inr other ↦ elim (starting x s u) [
        | inl starts ↦
            let at = is_end x s u starts in
            let (k, first) = begun_by (length s.threads) (subst (Starts x s) at starts) in
            some_none (sym (k.begun).there ∙ ap (slice_get new.threads) (sym at) ∙ none)
        | inr old ↦ elim (joining x u) [
          | inl joins ↦ joined_nothing e x s passed.parts passed.exchanged u joins
          | inr apart1 ↦ passed.threads u other old apart1 ∙ w.unknown u (sym (went.alone u other old) ∙ none)
        ]
      ]
    ]

    held_after : (b : ℕ) → block_at new.memory b ≢ Some (Mutex None) → passed.parts (OfMutex b) ≡ nothing
    held_after b other = elim (concerned x b) [
      | inl c ↦ held_by e x s new w.parts passed.parts w.all went.all offered went.settled passed.exchanged passed.mutexes w.held b c other
      | inr apart1 ↦ passed.mutexes b (λ h. apart1 (mutex_concerned x b h)) ∙ w.held b (λ h. other (went.unmoved b apart1 (subst IsShared (sym h) tt) ∙ h))
    ]

    free_after : (b : ℕ) (q : Value) → block_at new.memory b ≡ Some (Mutex None) → IsPositive (went.all (MutexAt b) (MutexOf q)) → SatisfiesInvariant e q (passed.parts (OfMutex b))
    free_after b q there positive = elim (concerned x b) [
      | inl c ↦ free_by e x s new passed.parts went.all went.fits went.settled passed.exchanged b q c there positive
      | inr apart1 ↦ subst (SatisfiesInvariant e q) (sym (passed.mutexes b (λ h. apart1 (mutex_concerned x b h)))) (w.free b q (sym (went.unshared b apart1 (subst IsShared (sym there) tt)) ∙ there) (went.known (MutexAt b) (MutexOf q) tt apart1 positive))
    ]

    -- ---- handles
    handle_stays : (b u : ℕ) → (Joins x u → ⊥) → IsHandleOf s b u → IsHandleOf new b u
    handle_stays b u none h = elim (concerned x b) [
      | inl c ↦ absurd (handle_kept x s new w.all offered b u c none h)
      | inr apart1 ↦ (h.0, h.1, went.unmoved b apart1 (handle_shared (block_at s.memory b) u h.0 h.1 h.2) ∙ h.2)
    ]

    handle_old : (b u : ℕ) → IsHandleOf new b u → IsHandleOf s b u ⊎ Makes x s b u
    handle_old b u h = elim (concerned x b) [
      | inl c ↦ inr (handle_made x s new went.all went.settled b u c h)
      | inr apart1 ↦ inl (h.0, h.1, sym (went.unshared b apart1 (handle_shared (block_at new.memory b) u h.0 h.1 h.2)) ∙ h.2)
    ]

    still_known : (u : ℕ) → (slice_get s.threads u ≡ None → ⊥) → slice_get new.threads u ≡ None → ⊥
    still_known u known none = elim (cases_eq u t) [
      | inl same ↦ some_none (sym went.now ∙ ap (slice_get new.threads) (sym same) ∙ none)
      | inr other ↦ known (sym (went.alone u other (λ starts. known (ap (slice_get s.threads) (is_end x s u starts) ∙ past_list s.threads))) ∙ none)
    ]

    of_started_after : (b u : ℕ) → IsHandleOf new b u → (u ≢ 0) × (slice_get new.threads u ≡ None → ⊥)
    of_started_after b u h = elim (handle_old b u h) [
      | inl old ↦ let k = w.of_started b u old in (k.0, still_known u k.1)
      | inr made ↦
          let at = is_end x s u (makes_starts x s b u made) in
          let (k, first) = begun_by (length s.threads) (subst (Starts x s) at (makes_starts x s b u made)) in
          ((λ zero1. not_main (sym at ∙ zero1)), (λ none. some_none (sym (k.begun).there ∙ ap (slice_get new.threads) (sym at) ∙ none)))
    ]

    old_not_made : (b c u : ℕ) → IsHandleOf s b u → Makes x s c u → ⊥
    old_not_made b c u h made = (w.of_started b u h).1 (ap (slice_get s.threads) (is_end x s u (makes_starts x s c u made)) ∙ past_list s.threads)

    once_after : (b c u : ℕ) → IsHandleOf new b u → IsHandleOf new c u → b ≡ c
    once_after b c u h k = elim (handle_old b u h) [
      | inl old ↦ elim (handle_old c u k) [ inl also ↦ w.once b c u old also | inr made ↦ absurd (old_not_made b c u old made) ]
      | inr made ↦ elim (handle_old c u k) [ inl old ↦ absurd (old_not_made c b u old made) | inr also ↦ makes_one x s b c u u made also ]
    ]

    handles_after : (b u : ℕ) (run : Identity) (argument info : Value) → block_at new.memory b ≡ Some (Handle u run argument) → IsPositive (went.all (HandleAt b) (HandleOf (values.Function run) argument info)) → IsJoinable (firsts_after u) run argument info
    handles_after b u run argument info there positive = elim (concerned x b) [
      | inl c ↦
          let made = handle_made x s new went.all went.settled b u c (run, argument, there) in
          let at = is_end x s u (makes_starts x s b u made) in
          let (k, first) = begun_by (length s.threads) (subst (Starts x s) at (makes_starts x s b u made)) in
          subst (λ z. IsJoinable (firsts_after z) run argument info) (sym at) (subst (λ d. IsJoinable d run argument info) (sym (new_firsts k.duty first)) (made_joinable x s new went.all went.fits went.settled b u run argument info made there positive k.duty first))
      | inr apart1 ↦
          let old : block_at s.memory b ≡ Some (Handle u run argument) = sym (went.unshared b apart1 (handle_shared (block_at new.memory b) u run argument there)) ∙ there in
          subst (λ d. IsJoinable d run argument info) (sym (other_firsts u (λ at. (w.of_started b u (run, argument, old)).1 (ap (slice_get s.threads) at ∙ past_list s.threads))))
          (w.handles b u run argument info old (went.known (HandleAt b) (HandleOf (values.Function run) argument info) tt apart1 positive))
    ]

    one_frame : (frames : Thread) → length frames ≡ 1 → frames ≡ [] → ⊥
    one_frame [] one none = suc_zero (sym one)
    one_frame (y ∷ ys) one none = cons_nil none

    -- the thread's own end
    own_done : went.frames ≡ [] → (result : Option Value) × Done e (w.firsts t) result went.own
    own_done none =
        let (result, done) = went.finished none in
        let first : IsIn (w.firsts t) (w.duties t) = elim (w.owes t (frame ∷ callers) here) [ inl zero1 ↦ suc_zero zero1 | inr h ↦ h ] in
        let only = only_first (w.firsts t) (depth s t) (length went.frames) (w.duties t) went.owing went.owes (subst (λ z. Within (length z) went.owing) none went.within) first in
        (result, done (w.firsts t) only.0 only.1 (w.bottom t))

    watched_after : (u : ℕ) → u ≢ 0 → (fr : Frame) (cs : Thread) → slice_get new.threads u ≡ Some (fr ∷ cs) → IsPlain (firsts_after u) ⊎ ((b : ℕ) × IsHandleOf new b u)
    watched_after u not_zero fr cs there = by_thread (λ v frames. v ≢ 0 → (frames ≡ [] → ⊥) → IsPlain (firsts_after v) ⊎ ((b : ℕ) × IsHandleOf new b v))
        (λ other full. carried t (other_firsts t not_new) not_joined (w.watched t other frame callers here))
        (λ v other old frames is not_zero1 full. by_old v other old frames is not_zero1 full)
        (λ k first not_zero1 full. made_watched k first) u (fr ∷ cs) there not_zero (λ h. cons_nil h)
      where
        carried : (v : ℕ) → firsts_after v ≡ w.firsts v → (Joins x v → ⊥) → IsPlain (w.firsts v) ⊎ ((b : ℕ) × IsHandleOf s b v) → IsPlain (firsts_after v) ⊎ ((b : ℕ) × IsHandleOf new b v)
        carried v same apart1 (inl h) = inl (subst IsPlain (sym same) h)
        carried v same apart1 (inr h) = inr (h.0, handle_stays h.0 v apart1 h.1)

        by_old : (v : ℕ) → v ≢ t → (Starts x s v → ⊥) → (frames : Thread) → slice_get s.threads v ≡ Some frames → v ≢ 0 → (frames ≡ [] → ⊥) → IsPlain (firsts_after v) ⊎ ((b : ℕ) × IsHandleOf new b v)
        by_old v other old [] is not_zero1 full = absurd (full refl)
        by_old v other old (y ∷ ys) is not_zero1 full = carried v (other_firsts v (old_thread v (y ∷ ys) is)) (λ joins. not_ended (slice_get s.threads v) is (joined_ended x s w.all offered v joins)) (w.watched v not_zero1 y ys is)

        made_watched : (k : StartedBy (λ u ds. Safe e p u ds m) x s new (length s.threads) passed.parts) → first_duty x ≡ Some k.duty → IsPlain (firsts_after (length s.threads)) ⊎ ((b : ℕ) × IsHandleOf new b (length s.threads))
        made_watched k first = subst (λ d. IsPlain d ⊎ ((b : ℕ) × IsHandleOf new b (length s.threads))) (sym (new_firsts k.duty first)) (begun_watched x s new w.all went.all offered went.settled (length s.threads) (started_of x first k.duty) k.duty first)
          where
            started_of : (x : Exchange) {d : Duty} → first_duty x ≡ Some d → Duty → Starts x s (length s.threads)
            started_of (to_thread frames f q) is d = refl
            started_of (to_joinable c frames f q) is d = refl
            started_of no_exchange is d = none_some is
            started_of (from_mutex c q) is d = none_some is
            started_of (to_mutex c q) is d = none_some is
            started_of (from_thread c v run argument info) is d = none_some is

    done_after : (u b : ℕ) → slice_get new.threads u ≡ Some [] → IsHandleOf new b u → (result : Option Value) × Done e (firsts_after u) result (passed.parts (OfThread u))
    done_after u b there h = by_thread (λ v frames. frames ≡ [] → IsHandleOf new b v → (result : Option Value) × Done e (firsts_after v) result (passed.parts (OfThread v)))
        (λ none handle. let (result, done) = own_done none in (result, subst (λ d. Done e d result (passed.parts (OfThread t))) (sym (other_firsts t not_new)) (subst (Done e (w.firsts t) result) (sym passed.own_is) done)))
        (λ v other old frames is none handle. by_old v other old frames is none handle)
        (λ k first none handle. absurd (one_frame k.frames (k.begun).one none)) u [] there refl h
      where
        by_old : (v : ℕ) → v ≢ t → (Starts x s v → ⊥) → (frames : Thread) → slice_get s.threads v ≡ Some frames → frames ≡ [] → IsHandleOf new b v → (result : Option Value) × Done e (firsts_after v) result (passed.parts (OfThread v))
        by_old v other old frames is none handle =
            let old_handle : IsHandleOf s b v = elim (handle_old b v handle) [ inl k ↦ k | inr made ↦ absurd (old (makes_starts x s b v made)) ] in
            let (result, done) = w.done v b (is ∙ ap Some none) old_handle in
            let same = passed.threads v other old (λ joins. gone v joins old_handle handle) in
            (result, subst (λ d. Done e d result (passed.parts (OfThread v))) (sym (other_firsts v (old_thread v frames is))) (subst (Done e (w.firsts v) result) (sym same) done))
          where
            gone : (v : ℕ) → Joins x v → IsHandleOf s b v → IsHandleOf new b v → ⊥
            gone v joins old_handle handle =
                let (c, k, at) = joined_handle x s w.all offered v joins in
                let same = w.once b c v old_handle k in
                let made = handle_made x s new went.all went.settled b v (subst (Concerns x) (sym same) at) handle in
                old_not_made b b v old_handle made

    joined_after : (u : ℕ) → u ≢ 0 → slice_get new.threads u ≡ Some [] → ((b : ℕ) → IsHandleOf new b u → ⊥) → passed.parts (OfThread u) ≡ nothing
    joined_after u not_zero there none = by_thread (λ v frames. frames ≡ [] → v ≢ 0 → ((b : ℕ) → IsHandleOf new b v → ⊥) → passed.parts (OfThread v) ≡ nothing)
        (λ ended not_zero1 unhandled. own_joined ended unhandled (w.watched t not_zero1 frame callers here))
        (λ v other old frames is ended not_zero1 unhandled. elim (joining x v) [
          | inl joins ↦ joined_nothing e x s passed.parts passed.exchanged v joins
          | inr apart1 ↦ passed.threads v other old apart1 ∙ w.joined v not_zero1 (is ∙ ap Some ended) (λ b k. unhandled b (handle_stays b v apart1 k))
        ])
        (λ k first ended not_zero1 unhandled. absurd (one_frame k.frames (k.begun).one ended)) u [] there refl not_zero none
      where
        own_joined : went.frames ≡ [] → ((b : ℕ) → IsHandleOf new b t → ⊥) → IsPlain (w.firsts t) ⊎ ((b : ℕ) × IsHandleOf s b t) → passed.parts (OfThread t) ≡ nothing
        own_joined ended unhandled (inl plain) = let (result, done) = own_done ended in passed.own_is ∙ plain_left e (w.firsts t) result went.own plain done
        own_joined ended unhandled (inr h) = absurd (unhandled h.0 (handle_stays h.0 t not_joined h.1))

    abbrev world_after : World e p duty m new
    world_after = record {
      duties = duties_after;
      firsts = firsts_after;
      parts = passed.parts;
      all = went.all;
      shared = passed.shared;
      fits = went.fits;
      typed = went.typed;
      shaped = went.shaped;
      within = within_after;
      safe = safe_after;
      owes = owes_after;
      bottom = bottom_after;
      main = main_after;
      unknown = unknown_after;
      held = held_after;
      free = free_after;
      watched = watched_after;
      done = done_after;
      joined = joined_after;
      handles = handles_after;
      of_started = of_started_after;
      once = once_after;
    }

    -- ---- what the event did
    changes_after : (u : ℕ) → u < length s.threads → DutiesChange (depth s u) (depth new u) (w.duties u) (duties_after u)
    changes_after u known = elim (cases_eq u t) [
      | inl same ↦ subst (λ z. DutiesChange (depth s z) (depth new z) (w.duties z) (duties_after z)) (sym same)
          (subst (DutiesChange (depth s t) (depth new t) (w.duties t)) (sym own_duties) (subst (λ z. DutiesChange (depth s t) z (w.duties t) went.owing) (sym (ap depth_in went.now)) went.owes))
      | inr other ↦ subst (DutiesChange (depth s u) (depth new u) (w.duties u)) (sym (other_duties u other (λ h. no_first known h))) (duties_same (w.duties u))
    ]

    threads_as_before : (u : ℕ) → u ≢ t → u < length s.threads → ((b : ℕ) → IsHandleOf s b u → block_at new.memory b ≡ block_at s.memory b) → passed.parts (OfThread u) ≡ w.parts (OfThread u)
    threads_as_before u other known kept = passed.threads u other (λ starts. no_first known (is_end x s u starts)) (λ joins. gone joins)
      where
        gone : Joins x u → ⊥
        gone joins = let (b, h, at) = joined_handle x s w.all offered u joins in changed_by x s new w.all went.all offered went.settled b at (kept b h)

    mutexes_as_before : (b : ℕ) → block_at new.memory b ≡ block_at s.memory b → passed.parts (OfMutex b) ≡ w.parts (OfMutex b)
    mutexes_as_before b same = passed.mutexes b (λ h. changed_by x s new w.all went.all offered went.settled b (mutex_concerned x b h) same)

    begun_after : (call : Promise) → IsPromised e p t x call → IsBegun call (duties_after (length s.threads)) (passed.parts (OfThread (length s.threads)))
    begun_after call h = by_exchange x (λ d. new_duties d) h went.begun passed.exchanged
      where
        from_duty : (d : Duty) (q : Part) → d.rest ≡ nothing → duties_after (length s.threads) ≡ d ∷ [] → passed.parts (OfThread (length s.threads)) ≡ q → Promised e call [] (d ∷ []) q → IsBegun call (duties_after (length s.threads)) (passed.parts (OfThread (length s.threads)))
        from_duty d q none duties_are has pr =
            subst (λ z. IsBegun call z (passed.parts (OfThread (length s.threads)))) (sym duties_are) (subst (IsBegun call (d ∷ [])) (sym has) (record { promised = pr; rest = ap (λ (z : Duty). z.rest) (heads pr.pushed) ∙ none }))
          where
            heads : {c : Duty} → d ∷ [] ≡ c ∷ [] → c ≡ d
            heads h = cc

        by_exchange : (y : Exchange) → ((d : Duty) → first_duty y ≡ Some d → duties_after (length s.threads) ≡ d ∷ []) → IsPromised e p t y call → HasBegun (λ u ds. Safe e p u ds m) y s new → HasExchanged e y s passed.parts
            → IsBegun call (duties_after (length s.threads)) (passed.parts (OfThread (length s.threads)))
        by_exchange (to_thread frames d q) duties_are pr b has = from_duty d q b.rest (duties_are d refl) has pr
        by_exchange (to_joinable c frames d q) duties_are pr b has = from_duty d q b.rest (duties_are d refl) has pr
        by_exchange no_exchange duties_are pr b has = absurd pr
        by_exchange (from_mutex c q) duties_are pr b has = absurd pr
        by_exchange (to_mutex c q) duties_are pr b has = absurd pr
        by_exchange (from_thread c v run argument info) duties_are pr b has = absurd pr

  -- ---- an event of a thread
  passed_next : (m : ℕ) (s : State) (w : World e p duty (suc m) s) (t grant : ℕ) (frame : Frame) (callers : Thread) → s.end ≡ None → slice_get s.threads t ≡ Some (frame ∷ callers) → (x : Exchange) → Offers x s w.all
      → ((call : Promise) → StartsThread p s (event_of t grant) call → IsPromised e p t x call) → (rest : Part)
      → (went : Went e p t (λ u ds. Safe e p u ds m) x (w.duties t) s (after p s (event_of t grant)) rest w.all) → Passed e t x s w.parts went.own went.leaked went.all → Next m s w (event_of t grant)
  passed_next m s w t grant frame callers going is x offered started rest went passed =
      let new = after p s (event_of t grant) in
      let own_is = own_duties m s w t frame callers is going new x offered rest went passed in
      record {
        world = world_after m s w t frame callers is going new x offered rest went passed;
        threads = threads_as_before m s w t frame callers is going new x offered rest went passed;
        mutexes = mutexes_as_before m s w t frame callers is going new x offered rest went passed;
        leaks = record { more = went.leaked; sums = passed.grows; unleaked = went.unleaked };
        changes = changes_after m s w t frame callers is going new x offered rest went passed;
        called = λ call h. subst (λ z. Promised e call (w.duties t) z (passed.parts (OfThread t))) (sym own_is) (subst (Promised e call (w.duties t) went.owing) (sym passed.own_is) (went.called grant call h));
        leaves = λ result r n one. subst (DoneAt e n (w.duties t) result) (sym passed.own_is) (went.leaves result r n one);
        starts = λ call h.
            subst (λ z. IsBegun call (duties_after m s w t frame callers is going new x offered rest went passed z) (passed.parts (OfThread z))) (sym h.thread) (begun_after m s w t frame callers is going new x offered rest went passed call (started call h));
      }

  -- an event of a thread by its exchange
  exchanged_next : (m : ℕ) (s : State) (w : World e p duty (suc m) s) (t grant : ℕ) (frame : Frame) (callers : Thread) → s.end ≡ None → slice_get s.threads t ≡ Some (frame ∷ callers) → (o : Opened w.parts (OfThread t) w.all) → (x : Exchange) → Offers x s w.all
      → ((call : Promise) → StartsThread p s (event_of t grant) call → IsPromised e p t x call)
      → ((taken remaining : Part) → IsTaken e x taken → IsSum taken remaining o.rest → Went e p t (λ u ds. Safe e p u ds m) x (w.duties t) s (after p s (event_of t grant)) remaining w.all) → Next m s w (event_of t grant)
  exchanged_next m s w t grant frame callers going is o no_exchange offered started went =
      let k = went nothing o.rest refl (nothing_is_neutral o.rest) in
      let (q, d) = deal_none t w.parts w.all o k.own k.given k.leaked k.lost k.others k.all k.handed k.parted k.given_up k.sums in
      passed_next m s w t grant frame callers going is no_exchange offered started o.rest k (record {
        parts = d.parts;
        shared = d.shared;
        own_is = d.own_is;
        grows = d.grows;
        threads = λ u other old apart1. d.same (OfThread u) (thread_other other) thread_leaked thread_leaked;
        mutexes = λ b apart1. d.same (OfMutex b) mutex_thread mutex_leaked mutex_leaked;
        exchanged = tt;
      })
  exchanged_next m s w t grant frame callers going is o (to_mutex b q) offered started went =
      let k = went nothing o.rest refl (nothing_is_neutral o.rest) in
      let d = deal_to t w.parts w.all o (OfMutex b) mutex_thread mutex_leaked k.own k.given k.leaked k.lost k.others k.all (w.held b offered.0) k.parted k.given_up k.sums in
      passed_next m s w t grant frame callers going is (to_mutex b q) offered started o.rest k (record {
        parts = d.parts;
        shared = d.shared;
        own_is = d.own_is;
        grows = d.grows;
        threads = λ u other old apart1. d.same (OfThread u) (thread_other other) thread_leaked thread_mutex;
        mutexes = λ c apart1. d.same (OfMutex c) mutex_thread mutex_leaked (mutex_other apart1);
        exchanged = subst (SatisfiesInvariant e q) (sym d.there) k.handed;
      })
  exchanged_next m s w t grant frame callers going is o (from_mutex b q) offered started went =
      let parts = with_part w.parts (OfThread t) nothing in
      let mutex = opened parts o.rest o.shared (OfMutex b) in
      let k = went (parts (OfMutex b)) mutex.rest (subst (SatisfiesInvariant e q) (sym (part_other w.parts (OfThread t) nothing (OfMutex b) mutex_thread)) (w.free b q offered.0 offered.1)) mutex.sums in
      let d = deal_from t w.parts w.all o (OfMutex b) mutex_thread mutex_leaked mutex k.own k.given k.leaked k.lost k.others k.all k.handed k.parted k.given_up k.sums in
      passed_next m s w t grant frame callers going is (from_mutex b q) offered started mutex.rest k (record {
        parts = d.parts;
        shared = d.shared;
        own_is = d.own_is;
        grows = d.grows;
        threads = λ u other old apart1. d.same (OfThread u) (thread_other other) thread_leaked thread_mutex;
        mutexes = λ c apart1. d.same (OfMutex c) mutex_thread mutex_leaked (mutex_other apart1);
        exchanged = d.there;
      })
  exchanged_next m s w t grant frame callers going is o (to_thread frames f q) offered started went =
      let k = went nothing o.rest refl (nothing_is_neutral o.rest) in
      let n = length s.threads in
      let d = deal_to t w.parts w.all o (OfThread n) (thread_other (λ h. no_first (in_list s.threads t (frame ∷ callers) is) (sym h))) thread_leaked k.own k.given k.leaked k.lost k.others k.all (w.unknown n (past_list s.threads)) k.parted k.given_up k.sums in
      passed_next m s w t grant frame callers going is (to_thread frames f q) offered started o.rest k (record {
        parts = d.parts;
        shared = d.shared;
        own_is = d.own_is;
        grows = d.grows;
        threads = λ u other old apart1. d.same (OfThread u) (thread_other other) thread_leaked (thread_other old);
        mutexes = λ c apart1. d.same (OfMutex c) mutex_thread mutex_leaked mutex_thread;
        exchanged = d.there ∙ k.handed;
      })
  exchanged_next m s w t grant frame callers going is o (to_joinable b frames f q) offered started went =
      let k = went nothing o.rest refl (nothing_is_neutral o.rest) in
      let n = length s.threads in
      let d = deal_to t w.parts w.all o (OfThread n) (thread_other (λ h. no_first (in_list s.threads t (frame ∷ callers) is) (sym h))) thread_leaked k.own k.given k.leaked k.lost k.others k.all (w.unknown n (past_list s.threads)) k.parted k.given_up k.sums in
      passed_next m s w t grant frame callers going is (to_joinable b frames f q) offered started o.rest k (record {
        parts = d.parts;
        shared = d.shared;
        own_is = d.own_is;
        grows = d.grows;
        threads = λ u other old apart1. d.same (OfThread u) (thread_other other) thread_leaked (thread_other old);
        mutexes = λ c apart1. d.same (OfMutex c) mutex_thread mutex_leaked mutex_thread;
        exchanged = d.there ∙ k.handed;
      })
  exchanged_next m s w t grant frame callers going is o (from_thread b v run argument info) offered started went =
      let parts = with_part w.parts (OfThread t) nothing in
      let other_thread : v ≢ t = λ h. not_ended (slice_get s.threads t) is (subst (Ended s) h offered.1) in
      let thread = opened parts o.rest o.shared (OfThread v) in
      let k = went (parts (OfThread v)) thread.rest (subst (SatisfiesPost e run argument info) (sym (part_other w.parts (OfThread t) nothing (OfThread v) (thread_other other_thread))) (left_post e p duty (suc m) s w b v run argument info offered.0 offered.1 offered.2)) thread.sums in
      let d = deal_from t w.parts w.all o (OfThread v) (thread_other other_thread) thread_leaked thread k.own k.given k.leaked k.lost k.others k.all k.handed k.parted k.given_up k.sums in
      passed_next m s w t grant frame callers going is (from_thread b v run argument info) offered started thread.rest k (record {
        parts = d.parts;
        shared = d.shared;
        own_is = d.own_is;
        grows = d.grows;
        threads = λ u other old apart1. d.same (OfThread u) (thread_other other) thread_leaked (thread_other apart1);
        mutexes = λ c apart1. d.same (OfMutex c) mutex_thread mutex_leaked mutex_thread;
        exchanged = d.there;
      })

  pub secure_of : (m : ℕ) (s : State) (w : World e p duty (suc m) s) (t : ℕ) (frame : Frame) (callers : Thread) → s.end ≡ None → slice_get s.threads t ≡ Some (frame ∷ callers) → (o : Opened w.parts (OfThread t) w.all)
      → Secure e p t (λ u ds. Safe e p u ds m) (w.duties t) s (w.parts (OfThread t)) o.rest w.all
  secure_of m s w t frame callers going is o = w.safe going t (frame ∷ callers) is s o.rest w.all going is (w.within t (frame ∷ callers) is) o.sums w.fits w.typed w.shaped

  step_next : (m : ℕ) (s : State) (w : World e p duty (suc m) s) (t grant : ℕ) (frame : Frame) (callers : Thread) → s.end ≡ None → slice_get s.threads t ≡ Some (frame ∷ callers) → is_wait (next_act p s t) ≡ false → Next m s w (event_of t grant)
  step_next m s w t grant frame callers going is steps =
      let o = opened w.parts w.all w.shared (OfThread t) in
      let x = (secure_of m s w t frame callers going is o).goes grant steps in
      exchanged_next m s w t grant frame callers going is o x.exchange x.offered (λ call h. x.started grant call refl h) x.went

  -- ---- events that change nothing
  waits_same : (s : State) (grant : ℕ) (a : Act) → is_wait a ≡ true → happens s grant a ≡ s
  waits_same s grant (Goes new) h = absurd (false≢true h)
  waits_same s grant (Touches touch new) h = absurd (false≢true h)
  waits_same s grant (Allocates denied granted) h = absurd (false≢true h)
  waits_same s grant Waits h = refl
  waits_same s grant (Faults kind place) h = absurd (false≢true h)

  waiting_same : (s : State) (t grant : ℕ) → s.end ≡ None → is_wait (next_act p s t) ≡ true → after p s (event_of t grant) ≡ s
  waiting_same s t grant going h = ap (after_unended p s (event_of t grant)) going ∙ waits_same s grant (next_act p s t) h

  steps_none : (a b : Bool) → (a && not b) ≡ true → b ≡ true → ⊥
  steps_none true true h is = false≢true h
  steps_none false true h is = false≢true h
  steps_none a false h is = false≢true is

  waiting_next : (m : ℕ) (s : State) (w : World e p duty (suc m) s) (t grant : ℕ) → s.end ≡ None → is_wait (next_act p s t) ≡ true → Next m s w (event_of t grant)
  waiting_next m s w t grant going h =
      idle_next m s w (event_of t grant) (waiting_same s t grant going h) (λ call c. steps_none (is_none s.end) (is_wait (next_act p s t)) (c.at).steps h) (λ result r. steps_none (is_none s.end) (is_wait (next_act p s t)) (r.at).steps h)

  by_frames : (m : ℕ) (s : State) (w : World e p duty (suc m) s) (t grant : ℕ) (o : Option Thread) → s.end ≡ None → slice_get s.threads t ≡ o → Next m s w (event_of t grant)
  by_frames m s w t grant None going is = waiting_next m s w t grant going (ap (λ z. is_wait (act_by p s t z)) is)
  by_frames m s w t grant (Some []) going is = waiting_next m s w t grant going (ap (λ z. is_wait (act_by p s t z)) is)
  by_frames m s w t grant (Some (frame ∷ callers)) going is = elim (cases_Bool (is_wait (next_act p s t))) [
    | inl waits ↦ waiting_next m s w t grant going waits
    | inr steps ↦ step_next m s w t grant frame callers going is steps
  ]

  ended_steps : (s : State) (end : End) (b : Bool) → s.end ≡ Some end → (is_none s.end && b) ≡ true → ⊥
  ended_steps s end b is h = some_none (sym is ∙ going_of s.end b h)

  at_end : (m : ℕ) (s : State) (w : World e p duty (suc m) s) (event : Event) (o : Option End) → s.end ≡ o → Next m s w event
  at_end m s w event None going = by_frames m s w event.thread event.grant (slice_get s.threads event.thread) going refl
  at_end m s w event (Some end) ended =
      idle_next m s w event (ap (after_unended p s event) ended) (λ call c. ended_steps s end _ ended (c.at).steps) (λ result r. ended_steps s end _ ended (r.at).steps)

  pub next : (m : ℕ) (s : State) (w : World e p duty (suc m) s) (event : Event) → Next m s w event
  next m s w event = at_end m s w event s.end refl
