-- Runs of accepted programs: what main begins with, and what each run keeps.
use Rattle.std.proofs.Common.{◌≡◌, ◌≢◌, ◌⊎◌, ℕ, zero, suc, ◌<◌, ◌≤◌, ◌+◌, pos, List, [], ◌∷◌, length, slice_get, Option, Some, None, refl, sym, ap, subst, ◌∙◌, inl, inr, arith}
use Rattle.std.specs.FinMap as finite
use Rattle.std.specs.Ordering.{nat_cmp}
use Rattle.vf_tree.specs.Core.{ProgramTree}
use Rattle.vf_model.specs.declared.words.Event.{Event}
use Rattle.vf_model.specs.Values.{Value}
use Rattle.vf_model.specs.Values as values
use Rattle.vf_model.specs.Memory.{Struct, Mutex, Handle, block_at}
use Rattle.vf_model.specs.State.{Thread, entered}
use Rattle.vf_model.specs.Runs.{opening, main_frames}
use Rattle.vf_meaning.specs.Fractions.{whole}
use Rattle.vf_meaning.specs.Ghost.{Sort, Numbered, CurrentThread, Variable}
use Rattle.vf_meaning.specs.Valuations.{Valuation}
use Rattle.vf_meaning.specs.Assertions.{Environment}
use Rattle.vf_meaning.specs.Sorts.{AreOfSorts}
use Rattle.vf_meaning.specs.Parts.{Part, nothing, IsSum}
use Rattle.vf_meaning.specs.Satisfaction.{Satisfies}
use Rattle.vf_meaning.specs.ShareOuts.{ShareOut, IsHandleOf}
use Rattle.vf_meaning.specs.Kept.{before, depth_in, depth, Returns, Promise, CallsPointer, ReturnsFrom, StartsThread, Ensures, IsKept, Kept}
use Rattle.vf_meaning.proofs.Parts.{sums_turn, nothing-⊕, nothing_is_neutral, nothing_fits_empty}
use Rattle.vf_rules.specs.States.{ChunksMean, StandsFor}
use Rattle.vf_rules.specs.Laws.{StoreSorted}
use Rattle.vf_rules.specs.Predicates.{store_of}
use Rattle.vf_rules.specs.Accept.{all_of_it, call_store}
use Rattle.vf_rules.proofs.Terms.{stored_own, stored_other}
use Rattle.vf_rules.proofs.Consumes.{consumed}
use Rattle.vf_rules.proofs.Opening.{completed, completed_means, completed_sorted}
use Rattle.vf_safety.specs.Safe.{Duty, Duties, Within, DoneAt, DutiesChange, Safe}
use Rattle.vf_safety.specs.Laws.{AreOfTypes, MayCall, before_main, Begins, IsAcceptedProgram, AcceptedProgramsAreSafe}
use Rattle.vf_safety.proofs.Duties.{IsIn, first_within}
use Rattle.vf_safety.proofs.Steps.{nothing_typed}
use Rattle.vf_safety.proofs.GhostSteps.{reached}
use Rattle.vf_safety.proofs.Ready.{nothing_left}
use Rattle.vf_safety.proofs.Functions.{begins_mean}
use Rattle.vf_safety.proofs.AllSafe.{accepted_threads_are_safe}
use Rattle.vf_safety.proofs.Owners.{OfThread}
use Rattle.vf_safety.proofs.Listed.{long_enough, out_of}
use Rattle.vf_safety.proofs.Worlds.{World}
use Rattle.vf_safety.proofs.Runs.{Before, Moved, worlds, worlds_move, share_out_before, is_safe}

none_some : {A B : Type 0} {x : A} → None ≡ Some x → B
none_some e = cc

some_same : {A : Type 0} {x y : A} → Some x ≡ Some y → x ≡ y
some_same e = cc

-- ---- what main begins with
record Begun (e : Environment) (p : ProgramTree) (a : IsAcceptedProgram e p) : Type 0 where
  names : Valuation
  thread : names CurrentThread ≡ values.Number (pos 0)
  of_sorts : AreOfSorts e names (a.contract).sorts
  required : Satisfies e whole (a.contract).requires_this names nothing

no_names : (e : Environment) (v : Valuation) (sorts : List Sort) → StoreSorted e v sorts (call_store [])
no_names e v sorts k so t is known = none_some (sym (stored_other (store_of []) CurrentThread (Numbered k) (Variable CurrentThread) clash) ∙ is)
  where
    clash : Numbered k ≡ CurrentThread → ⊥
    clash h = cc

all_noughts : Valuation
all_noughts x = values.Number (pos 0)

begun : (e : Environment) (p : ProgramTree) (a : IsAcceptedProgram e p) → Begun e p a
unfolding all_noughts
begun e p a =
    let v = all_noughts in
    let stands : StandsFor e v before_main [] v nothing = record { path = (inl refl, tt); locals_mean = tt; names_mean = begins_mean e v 0; chunks_mean = refl } in
    let g = reached e p (Begins e p a.contract) [] v nothing (nothing_typed e p) a.begins v stands in
    let (have, consume) = g.holds in
    let c = consumed e p (a.contract).sorts all_of_it whole [] v (a.contract).requires_this (call_store []) g.state (λ s st. st.chunks ≡ []) consume g.under nothing g.stands (no_names e g.under (a.contract).sorts) refl in
    let left_none : c.left ≡ nothing = subst (λ cs. ChunksMean e c.under cs c.left) c.holds (c.stands).chunks_mean in
    let off_is = nothing_left c.off c.left nothing left_none c.sums in
    let names = completed e c.under (a.contract).sorts (a.has).inhabited c.store in
    let means = completed_means e c.under (a.contract).sorts (a.has).inhabited c.store in
    let own = stored_own (store_of []) CurrentThread (Variable CurrentThread) in
    record {
      names = names;
      thread = sym (means CurrentThread (Variable CurrentThread) (c.grows CurrentThread (Variable CurrentThread) own)) ∙ c.stays CurrentThread (Variable CurrentThread) own ∙ (g.stands).names_mean CurrentThread (Variable CurrentThread) (have CurrentThread (Variable CurrentThread) own);
      of_sorts = completed_sorted e c.under (a.contract).sorts (a.has).inhabited c.store c.sorted;
      required = subst (Satisfies e whole (a.contract).requires_this names) off_is (c.depth, c.satisfies names means);
    }

abbrev duty_of : (e : Environment) (p : ProgramTree) → IsAcceptedProgram e p → Duty
duty_of e p a = record { contract = a.contract; names = (begun e p a).names; rest = nothing; below = 0 }

may_begin : (e : Environment) (p : ProgramTree) (a : IsAcceptedProgram e p) → MayCall e p 0 p.main a.main a.contract [] (begun e p a).names nothing nothing
may_begin e p a = record {
  function = a.is_main;
  contract = a.has;
  types = subst (λ z. AreOfTypes z []) (sym a.alone) tt;
  begins = λ j w h. none_some h;
  thread = (begun e p a).thread;
  of_sorts = (begun e p a).of_sorts;
  passed = nothing;
  required = (begun e p a).required;
  typed = nothing_typed e p;
  sums = nothing_is_neutral nothing;
}

no_block : {A B : Type 0} (o : Option A) (x : A) → o ≡ None → o ≡ Some x → B
no_block o x none is = none_some (sym none ∙ is)

-- the duties and the frames at the beginning are those of thread 0
first_duties : Duties → ℕ → Duties
first_duties ds zero = ds
first_duties ds (suc u) = []

first_frames : (e : Environment) (p : ProgramTree) (a : IsAcceptedProgram e p) → (opening p).threads ≡ (entered p.main a.main [] None ∷ []) ∷ []
first_frames e p a = ap (λ z. main_frames p.main z ∷ []) a.is_main

within_first : (e : Environment) (p : ProgramTree) (a : IsAcceptedProgram e p) (t : ℕ) (frames : Thread) → slice_get (opening p).threads t ≡ Some frames → Within (length frames) (first_duties (duty_of e p a ∷ []) t)
unfolding first_duties
within_first e p a zero frames is = subst (λ z. Within (length z) (duty_of e p a ∷ [])) (some_same (sym (ap (λ z. slice_get z 0) (first_frames e p a)) ∙ is)) (omega arith, tt)
within_first e p a (suc u) frames is = none_some is

safe_first : (e : Environment) (p : ProgramTree) (a : IsAcceptedProgram e p) (n : ℕ) (t : ℕ) (frames : Thread) → slice_get (opening p).threads t ≡ Some frames → Safe e p t (first_duties (duty_of e p a ∷ []) t) n frames nothing
unfolding first_duties
safe_first e p a n zero frames is =
    subst (λ z. Safe e p 0 (duty_of e p a ∷ []) n z nothing) (some_same (sym (ap (λ z. slice_get z 0) (first_frames e p a)) ∙ is))
    (accepted_threads_are_safe e p a.functions a.claims 0 p.main a.main a.contract [] (begun e p a).names nothing nothing refl (may_begin e p a) n)
safe_first e p a n (suc u) frames is = none_some is

owes_first : (e : Environment) (p : ProgramTree) (a : IsAcceptedProgram e p) (t : ℕ) (frames : Thread) → slice_get (opening p).threads t ≡ Some frames → (length frames ≡ 0) ⊎ IsIn (duty_of e p a) (first_duties (duty_of e p a ∷ []) t)
unfolding first_duties
owes_first e p a zero frames is = inr (inl refl)
owes_first e p a (suc u) frames is = none_some is

only_main : (e : Environment) (p : ProgramTree) (a : IsAcceptedProgram e p) (t : ℕ) (frames : Thread) → t ≢ 0 → slice_get (opening p).threads t ≡ Some frames → ⊥
only_main e p a zero frames other is = other refl
only_main e p a (suc u) frames other is = none_some is

no_handle : {A : Type 0} (p : ProgramTree) (b t : ℕ) → IsHandleOf (opening p) b t → A
no_handle p b t (run, argument, is) = no_block (block_at (opening p).memory b) (Handle t run argument) (finite.get-empty nat_cmp b) is

abbrev opening_world : (e : Environment) (p : ProgramTree) (a : IsAcceptedProgram e p) (n : ℕ) → World e p (duty_of e p a) n (opening p)
opening_world e p a n = record {
  duties = first_duties (duty_of e p a ∷ []);
  firsts = λ t. duty_of e p a;
  parts = λ o. nothing;
  all = nothing;
  shared = record { owners = []; distinct = tt; covered = λ o none. refl; sums = refl };
  fits = nothing_fits_empty;
  typed = nothing_typed e p;
  shaped = λ b g cells is. no_block (block_at (opening p).memory b) (Struct g cells) (finite.get-empty nat_cmp b) is;
  within = λ t frames is. within_first e p a t frames is;
  safe = λ none t frames is. safe_first e p a n t frames is;
  owes = λ t frames is. owes_first e p a t frames is;
  bottom = λ t. refl;
  main = refl;
  unknown = λ t none. refl;
  held = λ b other. refl;
  free = λ b q is positive. no_block (block_at (opening p).memory b) (Mutex None) (finite.get-empty nat_cmp b) is;
  watched = λ t other frame callers is. absurd (only_main e p a t (frame ∷ callers) other is);
  done = λ t b is handle. no_handle p b t handle;
  joined = λ t other is none. refl;
  handles = λ b t run argument info is positive. no_block (block_at (opening p).memory b) (Handle t run argument) (finite.get-empty nat_cmp b) is;
  of_started = λ b t handle. no_handle p b t handle;
  once = λ b c t handle also. no_handle p b t handle;
}

-- ---- what an accepted program keeps
module _ (e : Environment) (p : ProgramTree) (a : IsAcceptedProgram e p) (events : List Event) where
  abbrev at_event : (k : ℕ) → Before e p (duty_of e p a) events k
  at_event k = worlds e p (duty_of e p a) (opening_world e p a) events k

  moved_at : (k : ℕ) (event : Event) → slice_get events k ≡ Some event → Moved e p (duty_of e p a) events k (at_event k) event (at_event (suc k))
  moved_at k event is = worlds_move e p (duty_of e p a) (opening_world e p a) events k event is

  abbrev world_at : (k : ℕ) → World e p (duty_of e p a) (at_event k).steps (before p events k)
  world_at k = (at_event k).world

  abbrev out_at : ℕ → ShareOut
  out_at k = out_of (world_at k).parts

  inside : (k : ℕ) (event : Event) → slice_get events k ≡ Some event → k ≤ length events
  inside k event is = let l = long_enough events k event is in omega (arith, l)

  -- while a thread is in the call of a duty, it has the duty
  still_in : (n m : ℕ) (d : Duty) (old new : Duties) → DutiesChange n m old new → IsIn d old → d.below < m → IsIn d new
  still_in n m d old new (DutiesChange.duties_same ds) h l = h
  still_in n m d old new (DutiesChange.duty_added c ds at) h l = inr h
  still_in n m d old new (DutiesChange.duty_done c ds from to) (inl same) l = absurd (no_less m (subst (λ z. z < m) (sym (to ∙ ap (λ (z : Duty). z.below) same)) l))
    where
      no_less : (n : ℕ) → n < n → ⊥
      no_less n h = omega (arith, h)
  still_in n m d old new (DutiesChange.duty_done c ds from to) (inr h) l = h

  -- a thread that is in a call is known
  known_thread : (k u n : ℕ) → n < depth (before p events k) u → u < length (before p events k).threads
  known_thread k u n l = by_frames (slice_get (before p events k).threads u) refl l
    where
      none_below : (k : ℕ) → k < 0 → ⊥
      none_below k l = omega (arith, l)

      by_frames : (o : Option Thread) → slice_get (before p events k).threads u ≡ o → n < depth_in o → u < length (before p events k).threads
      by_frames None is l = absurd (none_below n l)
      by_frames (Some frames) is l = long_enough (before p events k).threads u frames is

  stays_in : (u : ℕ) (d : Duty) (k j : ℕ) → ((i : ℕ) → k < i → i ≤ j → d.below < depth (before p events i) u) → ((i : ℕ) → i < j → (event : Event) × (slice_get events i ≡ Some event)) → IsIn d ((world_at (suc k)).duties u)
      → (n : ℕ) → suc k + n ≤ j → IsIn d ((world_at (suc k + n)).duties u)
  stays_in u d k j inside there first zero l = subst (λ z. IsIn d ((world_at z).duties u)) (plus_nought (suc k)) first
    where
      plus_nought : (n : ℕ) → n ≡ n + 0
      plus_nought n = omega arith
  stays_in u d k j inside there first (suc n) l =
      let before_it = stays_in u d k j inside there first n (omega (arith, l)) in
      let (event, is) = there (suc k + n) (omega (arith, l)) in
      subst (λ z. IsIn d ((world_at z).duties u)) (one_later (suc k) n)
      (still_in (depth (before p events (suc k + n)) u) (depth (before p events (suc (suc k + n))) u) d ((world_at (suc k + n)).duties u) ((world_at (suc (suc k + n))).duties u) ((moved_at (suc k + n) event is).changes u (known_thread (suc k + n) u d.below (inside (suc k + n) (past k n) (omega (arith, l))))) before_it
      (inside (suc (suc k + n)) (omega arith) (omega (arith, l))))
    where
      one_later : (a n : ℕ) → suc (a + n) ≡ a + suc n
      one_later a n = omega arith

      past : (k n : ℕ) → k < suc k + n
      past k n = omega arith

  event_there : (xs : List Event) (j : ℕ) (x : Event) → slice_get xs j ≡ Some x → (i : ℕ) → i < j → (event : Event) × (slice_get xs i ≡ Some event)
  event_there [] j x is i l = none_some is
  event_there (y ∷ ys) zero x is i l = absurd (none_below i l)
    where
      none_below : (i : ℕ) → i < 0 → ⊥
      none_below i l = omega (arith, l)
  event_there (y ∷ ys) (suc j) x is zero l = (y, refl)
  event_there (y ∷ ys) (suc j) x is (suc i) l = event_there ys j x is i (omega (arith, l))

  some_depth : (o : Option Thread) (n : ℕ) → depth_in o ≡ suc n → (frames : Thread) × (o ≡ Some frames) × (length frames ≡ suc n)
  some_depth None n h = absurd (zero_suc h)
    where
      zero_suc : zero ≡ suc n → ⊥
      zero_suc h = cc
  some_depth (Some frames) n h = (frames, refl, h)

  owed_first : (k u n : ℕ) (d : Duty) → IsIn d ((world_at k).duties u) → depth (before p events k) u ≡ suc n → d.below ≡ n → (others : Duties) × ((world_at k).duties u ≡ d ∷ others)
  owed_first k u n d there is at =
      let (frames, here, long) = some_depth (slice_get (before p events k).threads u) n is in
      first_within n d ((world_at k).duties u) (subst (λ z. Within z ((world_at k).duties u)) long ((world_at k).within u frames here)) there at

  -- a duty of a thread's call is done where the thread returns from it
  comes_back : (k : ℕ) (call : Promise) (d : Duty) → d.below ≡ call.below → IsIn d ((world_at (suc k)).duties call.thread) → (j : ℕ) (result : Option Value) → ReturnsFrom p events k call j result
      → (given : Part) × Ensures e d.contract d.names result given × IsSum given d.rest ((out_at (suc j)).threads call.thread)
  comes_back k call d low first j result r =
      let there = stays_in call.thread d k j (λ i l m. subst (λ z. z < depth (before p events i) call.thread) (sym low) (r.inside i l m)) (event_there events j r.event r.is) first in
      let gap = suc_gap k j r.later in
      let now : IsIn d ((world_at j).duties call.thread) = subst (λ z. IsIn d ((world_at z).duties call.thread)) gap.1 (there gap.0 (at_most gap.1)) in
      let own = owed_first j call.thread call.below d now r.last low in
      let moved = moved_at j r.event r.is in
      let done : DoneAt e call.below ((world_at j).duties call.thread) result ((world_at (suc j)).parts (OfThread call.thread)) =
      subst (λ z. DoneAt e call.below ((world_at j).duties z) result ((world_at (suc j)).parts (OfThread z))) r.thread
      (moved.leaves result (subst (λ z. Returns p (before p events j) z result) (sym r.thread) r.returns) call.below (subst (λ z. depth (before p events j) z ≡ suc call.below) (sym r.thread) r.last)) in
      done d own.0 own.1 low
    where
      suc_gap : (k j : ℕ) → k < j → (n : ℕ) × (suc k + n ≡ j)
      suc_gap k zero l = absurd (none_below k l)
        where
          none_below : (i : ℕ) → i < 0 → ⊥
          none_below i l = omega (arith, l)
      suc_gap zero (suc j) l = (j, omega arith)
      suc_gap (suc k) (suc j) l = let g = suc_gap k j (omega (arith, l)) in (g.0, omega (arith, g.1))

      at_most : {a b : ℕ} → a ≡ b → a ≤ b
      at_most h = omega (arith, h)

  call_kept : (k : ℕ) (event : Event) (call : Promise) → slice_get events k ≡ Some event → CallsPointer e p (before p events k) event call → (rest : Part) × IsKept e p events out_at k call rest
  call_kept k event call is h =
      let pr = (moved_at k event is).called call h in
      let d = pr.duty in (
        d.rest,
        record {
          function = pr.function;
          callee = pr.callee;
          claimed = pr.claimed;
          contract = d.contract;
          of_type = pr.of_type;
          under = d.names;
          valued = pr.valued;
          passed = pr.passed;
          required = pr.required;
          sums = subst (λ z. IsSum pr.passed d.rest ((out_at (suc k)).threads z)) (sym h.thread) pr.sums;
          back = λ j result r. comes_back k call d pr.below (subst (λ z. IsIn d ((world_at (suc k)).duties z)) (sym h.thread) (subst (IsIn d) (sym pr.pushed) (inl refl))) j result r;
        },
      )

  main_done : (j : ℕ) (event : Event) (result : Option Value) → slice_get events j ≡ Some event → event.thread ≡ 0 → Returns p (before p events j) 0 result → depth (before p events j) 0 ≡ 1 → Ensures e a.contract (begun e p a).names result ((out_at (suc j)).threads 0)
  main_done j event result is first returns last =
      let d = duty_of e p a in
      let (frames, here, long) = some_depth (slice_get (before p events j).threads 0) 0 last in
      let there : IsIn d ((world_at j).duties 0) = elim ((world_at j).owes 0 frames here) [ inl none ↦ absurd (one_none (sym long ∙ none)) | inr h ↦ subst (λ z. IsIn z ((world_at j).duties 0)) (world_at j).main h ] in
      let own = owed_first j 0 0 d there last refl in
      let leaves : DoneAt e 0 ((world_at j).duties 0) result ((world_at (suc j)).parts (OfThread 0)) =
      subst (λ z. DoneAt e 0 ((world_at j).duties z) result ((world_at (suc j)).parts (OfThread z))) first
      ((moved_at j event is).leaves result (subst (λ z. Returns p (before p events j) z result) (sym first) returns) 0 (subst (λ z. depth (before p events j) z ≡ 1) (sym first) last)) in
      let done = leaves d own.0 own.1 refl in
      subst (λ z. Ensures e a.contract (begun e p a).names result z) (all_of done.0 _ done.2) done.1
    where
      one_none : suc zero ≡ zero → ⊥
      one_none h = cc

      all_of : (q own : Part) → IsSum q nothing own → q ≡ own
      all_of q own sums = sym ((sums_turn q nothing own sums).adds ∙ nothing-⊕ q)

  start_kept : (k : ℕ) (event : Event) (call : Promise) → slice_get events k ≡ Some event → StartsThread p (before p events k) event call → IsKept e p events out_at k call nothing
  start_kept k event call is h =
      let b = (moved_at k event is).starts call h in
      let pr = b.promised in
      let d = pr.duty in
      record {
        function = pr.function;
        callee = pr.callee;
        claimed = pr.claimed;
        contract = d.contract;
        of_type = pr.of_type;
        under = d.names;
        valued = pr.valued;
        passed = pr.passed;
        required = pr.required;
        sums = subst (λ z. IsSum pr.passed z ((out_at (suc k)).threads call.thread)) b.rest pr.sums;
        back = λ j result r.
            let done = comes_back k call d pr.below (subst (IsIn d) (sym pr.pushed) (inl refl)) j result r in
            (done.0, done.1, subst (λ z. IsSum done.0 z ((out_at (suc j)).threads call.thread)) b.rest done.2);
      }

  kept : Kept e p events
  kept = record {
    outs = out_at;
    share_outs = λ k l. share_out_before e p (duty_of e p a) events k l (at_event k);
    main = a.main;
    is_main = a.is_main;
    contract = a.contract;
    of_main = a.is_own;
    under = (begun e p a).names;
    current = (begun e p a).thread;
    sorts = (begun e p a).of_sorts;
    begins_empty = refl;
    required = (begun e p a).required;
    unleaked = refl;
    changes = λ k event is. record { threads = λ u other known same. (moved_at k event is).threads u other known same; mutexes = λ b same. (moved_at k event is).mutexes b same };
    leaks = λ k event is. (moved_at k event is).leaks;
    calls = λ k event call is h. call_kept k event call is h;
    starts = λ k event call is h. start_kept k event call is h;
    ensured = λ j event result is first returns last. main_done j event result is first returns last;
  }

pub accepted_programs_are_safe : AcceptedProgramsAreSafe
accepted_programs_are_safe e p a events = (is_safe e p (duty_of e p a) (opening_world e p a) events, kept e p a events)
