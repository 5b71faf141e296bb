-- What stands of the state before each event of a run, and the share-outs that it gives.
use Rattle.std.proofs.Common.{◌≡◌, ◌≢◌, ℕ, zero, suc, ◌<◌, ◌≤◌, ◌+◌, List, [], ◌∷◌, length, take, slice_get, Option, Some, None, refl, sym, ap, subst, ◌∙◌, arith}
use Rattle.std.specs.List.{fold}
use Rattle.vf_base.specs.declared.place.Place.{Place}
use Rattle.vf_tree.specs.Core.{ProgramTree}
use Rattle.vf_model.specs.declared.words.Event.{Event}
use Rattle.vf_model.specs.declared.words.FaultKind.{FaultKind}
use Rattle.vf_model.specs.Values.{Value}
use Rattle.vf_model.specs.Memory.{Cell, block_at}
use Rattle.vf_model.specs.State.{Frame, Thread, End, State}
use Rattle.vf_model.specs.Acts.{Touch, Act, Touches, Waits, Faults, Goes, Allocates}
use Rattle.vf_model.specs.Races.{TouchesCell, next_touch, touch_in, touch_unended}
use Rattle.vf_model.specs.Steps.{act_by, next_act}
use Rattle.vf_model.specs.Runs.{after, opening, Fault}
use Rattle.vf_meaning.specs.Assertions.{Environment}
use Rattle.vf_meaning.specs.Parts.{Location}
use Rattle.vf_meaning.specs.ShareOuts.{IsHandleOf, location_in, OwnsFor, IsShareOut}
use Rattle.vf_meaning.specs.Kept.{before, depth, Returns, Promise, CallsPointer, StartsThread, Leaks, IsSafe}
use Rattle.vf_meaning.proofs.ShareOuts.{share_outs_exclude_races}
use Rattle.vf_safety.specs.Safe.{Duty, DoneAt, DutiesChange, Promised}
use Rattle.vf_safety.proofs.Owners.{OfThread, OfMutex, opened}
use Rattle.vf_safety.proofs.Listed.{long_enough, out_of, out_sums}
use Rattle.vf_safety.proofs.Worlds.{World, at_same, left_post, ended_is}
use Rattle.vf_safety.proofs.WorldSteps.{IsBegun, next, secure_of}

none_some : {A B : Type 0} {x : A} → None ≡ Some x → B
none_some e = cc

some_none : {A B : Type 0} {x : A} → Some x ≡ None → B
some_none e = cc

some_same : {A : Type 0} {x y : A} → Some x ≡ Some y → x ≡ y
some_same e = cc

module _ (e : Environment) (p : ProgramTree) (duty : Duty) where
  pub one_more : (s : State) (events : List Event) (k : ℕ) (event : Event) → slice_get events k ≡ Some event → fold (after p) s (take (suc k) events) ≡ after p (fold (after p) s (take k events)) event
  one_more s [] k event is = none_some is
  one_more s (x ∷ xs) zero event is = ap (after p s) (some_same is)
  one_more s (x ∷ xs) (suc k) event is = one_more (after p s x) xs k event is

  pub no_more : (s : State) (events : List Event) (k : ℕ) → slice_get events k ≡ None → fold (after p) s (take (suc k) events) ≡ fold (after p) s (take k events)
  no_more s [] zero is = refl
  no_more s [] (suc k) is = refl
  no_more s (x ∷ xs) zero is = some_none is
  no_more s (x ∷ xs) (suc k) is = no_more (after p s x) xs k is

  -- what stands before the event of a number, with steps enough for all that are left
  pub record Before (events : List Event) (k : ℕ) : Type 0 where
    pub steps : ℕ
    pub enough : length events < k + steps
    pub world : World e p duty steps (before p events k)

  -- an event moves on
  pub record Moved (events : List Event) (k : ℕ) (a : Before events k) (event : Event) (b : Before events (suc k)) : Type 0 where
    pub threads : (u : ℕ) → u ≢ event.thread → u < length (before p events k).threads → ((c : ℕ) → IsHandleOf (before p events k) c u → block_at (before p events (suc k)).memory c ≡ block_at (before p events k).memory c)
        → (b.world).parts (OfThread u) ≡ (a.world).parts (OfThread u)
    pub mutexes : (d : ℕ) → block_at (before p events (suc k)).memory d ≡ block_at (before p events k).memory d → (b.world).parts (OfMutex d) ≡ (a.world).parts (OfMutex d)
    pub changes : (u : ℕ) → u < length (before p events k).threads → DutiesChange (depth (before p events k) u) (depth (before p events (suc k)) u) ((a.world).duties u) ((b.world).duties u)
    pub leaks : Leaks e p (before p events k) event.thread (out_of (a.world).parts) (out_of (b.world).parts)
    pub called : (call : Promise) → CallsPointer e p (before p events k) event call → Promised e call ((a.world).duties event.thread) ((b.world).duties event.thread) ((b.world).parts (OfThread event.thread))
    pub leaves : (result : Option Value) → Returns p (before p events k) event.thread result → (n : ℕ) → depth (before p events k) event.thread ≡ suc n → DoneAt e n ((a.world).duties event.thread) result ((b.world).parts (OfThread event.thread))
    pub starts : (call : Promise) → StartsThread p (before p events k) event call → IsBegun e p duty call ((b.world).duties call.thread) ((b.world).parts (OfThread call.thread))

  pub too_few : (n k : ℕ) → k < n → n < k + 0 → ⊥
  too_few n k a b = omega (arith, a, b)

  pub still_enough : (n k m : ℕ) → n < k + suc m → n < suc k + m
  still_enough n k m h = omega (arith, h)

  pub more_enough : (n k m : ℕ) → n < k + m → n < suc k + m
  more_enough n k m h = omega (arith, h)

  pub moves : (events : List Event) (k : ℕ) (event : Event) → slice_get events k ≡ Some event → (steps : ℕ) (enough : length events < k + steps) (world : World e p duty steps (before p events k))
      → (b : Before events (suc k)) × Moved events k (record { steps = steps; enough = enough; world = world }) event b
  moves events k event is zero enough world = absurd (too_few (length events) k (long_enough events k event is) enough)
  moves events k event is (suc m) enough world =
      let n = next e p duty m (before p events k) world event in
      let same : before p events (suc k) ≡ after p (before p events k) event = one_more (opening p) events k event is in (
        record { steps = m; enough = still_enough (length events) k m enough; world = at_same e p duty m (after p (before p events k) event) (before p events (suc k)) same n.world },
        record {
          threads = λ u other known kept. n.threads u other known (λ c h. sym (ap (λ z. block_at z.memory c) same) ∙ kept c h);
          mutexes = λ d as_before. n.mutexes d (sym (ap (λ z. block_at z.memory d) same) ∙ as_before);
          changes = λ u known. subst (λ z. DutiesChange (depth (before p events k) u) (depth z u) (world.duties u) ((n.world).duties u)) (sym same) (n.changes u known);
          leaks = n.leaks;
          called = n.called;
          leaves = n.leaves;
          starts = n.starts;
        },
      )

  abbrev pub advance : (events : List Event) (k : ℕ) (o : Option Event) → slice_get events k ≡ o → Before events k → Before events (suc k)
  advance events k None is a =
      record { steps = a.steps; enough = more_enough (length events) k a.steps a.enough; world = at_same e p duty a.steps (before p events k) (before p events (suc k)) (no_more (opening p) events k is) a.world }
  advance events k (Some event) is a = (moves events k event is a.steps a.enough a.world).0

  advance_moved : (events : List Event) (k : ℕ) (o : Option Event) (is : slice_get events k ≡ o) (a : Before events k) (event : Event) → o ≡ Some event → Moved events k a event (advance events k o is a)
  advance_moved events k None is a event same = none_some same
  advance_moved events k (Some x) is a event same = subst (λ z. Moved events k a z (advance events k (Some x) is a)) (some_same same) (moves events k x is a.steps a.enough a.world).1

  abbrev pub worlds : (first : (n : ℕ) → World e p duty n (opening p)) (events : List Event) (k : ℕ) → Before events k
  worlds first events zero = record { steps = suc (length events); enough = omega arith; world = first (suc (length events)) }
  worlds first events (suc k) = advance events k (slice_get events k) refl (worlds first events k)

  pub worlds_move : (first : (n : ℕ) → World e p duty n (opening p)) (events : List Event) (k : ℕ) (event : Event) → slice_get events k ≡ Some event → Moved events k (worlds first events k) event (worlds first events (suc k))
  worlds_move first events k event is = advance_moved events k (slice_get events k) refl (worlds first events k) event is

  -- ---- share-outs
  touched_act : (a : Act) (touch : Touch) → touch_in a ≡ Some touch → (new : State) × (a ≡ Touches touch new)
  touched_act (Goes new) touch h = none_some h
  touched_act (Touches x new) touch h = (new, ap (λ z. Touches z new) (some_same h))
  touched_act (Allocates denied granted) touch h = none_some h
  touched_act Waits touch h = none_some h
  touched_act (Faults kind place) touch h = none_some h

  touch_going : (s : State) (t : ℕ) (touch : Touch) (o : Option End) → touch_unended p s t o ≡ Some touch → (o ≡ None) × (touch_in (next_act p s t) ≡ Some touch)
  touch_going s t touch None h = (refl, h)
  touch_going s t touch (Some end) h = none_some h

  -- a thread that does something has frames
  no_act : (s : State) (t : ℕ) (o : Option Thread) → slice_get s.threads t ≡ o → (a : Act) → next_act p s t ≡ a → (Waits ≡ a → ⊥) → (frame : Frame) × ((callers : Thread) × (o ≡ Some (frame ∷ callers)))
  no_act s t None is a acts other = absurd (other (sym (ap (act_by p s t) is) ∙ acts))
  no_act s t (Some []) is a acts other = absurd (other (sym (ap (act_by p s t) is) ∙ acts))
  no_act s t (Some (frame ∷ callers)) is a acts other = (frame, (callers, refl))

  waits_touch : {touch : Touch} {new : State} → Waits ≡ Touches touch new → ⊥
  waits_touch h = cc

  waits_fault : {kind : FaultKind} {place : Place} → Waits ≡ Faults kind place → ⊥
  waits_fault h = cc

  accesses : (m : ℕ) (s : State) (w : World e p duty (suc m) s) (t : ℕ) (touch : Touch) (c : Cell) (l : Location) → next_touch p s t ≡ Some touch → TouchesCell s.memory touch c → location_in (block_at s.memory c.block) c ≡ Some l
      → OwnsFor touch (w.parts (OfThread t)) l
  accesses m s w t touch c l next touches there =
      let (going, touched) = touch_going s t touch s.end next in
      let (new, act) = touched_act (next_act p s t) touch touched in
      let (frame, (callers, is)) = no_act s t (slice_get s.threads t) refl (Touches touch new) act (λ h. waits_touch h) in
      (secure_of e p duty m s w t frame callers going is (opened w.parts w.all w.shared (OfThread t))).owned touch new c l act touches there

  is_share_out : (m : ℕ) (s : State) (w : World e p duty (suc m) s) → IsShareOut e p s (out_of w.parts)
  is_share_out m s w = record {
    all = w.all;
    sums = out_sums s w.parts w.all w.shared w.unknown (λ b none. w.held b (λ h. some_none (sym h ∙ none)));
    fits = w.fits;
    joined = λ t other ended none. w.joined t other (ended_is (slice_get s.threads t) ended) none;
    held = w.held;
    free = w.free;
    left = λ b t run argument info is ended positive. left_post e p duty (suc m) s w b t run argument info is ended positive;
    access = accesses m s w;
  }

  pub share_out_before : (events : List Event) (k : ℕ) → k ≤ length events → (a : Before events k) → IsShareOut e p (before p events k) (out_of (a.world).parts)
  share_out_before events k l a = by_steps a.steps a.enough a.world
    where
      none_left : k ≤ length events → length events < k + 0 → ⊥
      none_left l h = omega (arith, l, h)

      by_steps : (steps : ℕ) → length events < k + steps → (w : World e p duty steps (before p events k)) → IsShareOut e p (before p events k) (out_of w.parts)
      by_steps zero enough w = absurd (none_left l enough)
      by_steps (suc m) enough w = is_share_out m (before p events k) w

  -- ---- what cannot happen
  no_fault : (m : ℕ) (s : State) (w : World e p duty (suc m) s) (t : ℕ) (kind : FaultKind) (place : Place) → Fault p s t kind place → ⊥
  no_fault m s w t kind place fault =
      let (frame, (callers, is)) = no_act s t (slice_get s.threads t) refl (Faults kind place) fault.faults (λ h. waits_fault h) in
      (secure_of e p duty m s w t frame callers fault.going is (opened w.parts w.all w.shared (OfThread t))).faultless kind place fault.faults

  -- a world with steps left, by how many events are left
  pub left_steps : (events : List Event) (k : ℕ) → k ≤ length events → (a : Before events k) → (m : ℕ) × World e p duty (suc m) (before p events k)
  left_steps events k l a = by_steps a.steps a.enough a.world
    where
      none_left : k ≤ length events → length events < k + 0 → ⊥
      none_left l h = omega (arith, l, h)

      by_steps : (steps : ℕ) → length events < k + steps → World e p duty steps (before p events k) → (m : ℕ) × World e p duty (suc m) (before p events k)
      by_steps zero enough w = absurd (none_left l enough)
      by_steps (suc m) enough w = (m, w)

  pub is_safe : (first : (n : ℕ) → World e p duty n (opening p)) (events : List Event) → IsSafe p events
  is_safe first events = record {
    faultless = λ k t kind place l fault. let w = left_steps events k l (worlds first events k) in no_fault w.0 (before p events k) w.1 t kind place fault;
    raceless = λ k l race. share_outs_exclude_races e p (before p events k) _ (share_out_before events k l (worlds first events k)) race;
  }
