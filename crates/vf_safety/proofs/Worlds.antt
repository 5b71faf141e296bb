-- What stands of a state while a program runs.
use Rattle.std.proofs.Common.{◌≡◌, ◌≢◌, ℕ, zero, suc, ◌<◌, true, List, [], ◌∷◌, length, slice_get, Option, Some, None, refl, sym, ap, subst, ◌∙◌, ◌⊎◌, arith}
use Rattle.std.proofs.lemmas.Bool.{false≢true, cases_eq}
use Rattle.vf_tree.specs.Core.{Identity, ProgramTree}
use Rattle.vf_model.specs.Values.{Value}
use Rattle.vf_model.specs.Values as values
use Rattle.vf_model.specs.Memory.{Mutex, Handle, block_at}
use Rattle.vf_model.specs.State.{Frame, Thread, State}
use Rattle.vf_model.specs.Calls.{has_ended}
use Rattle.vf_model.specs.Runs.{after}
use Rattle.vf_meaning.specs.Fractions.{IsPositive}
use Rattle.vf_meaning.specs.Assertions.{Environment}
use Rattle.vf_meaning.specs.Parts.{MutexAt, HandleAt, MutexOf, HandleOf, Part, nothing}
use Rattle.vf_meaning.specs.Fits.{Fits}
use Rattle.vf_meaning.specs.ShareOuts.{Ended, IsHandleOf, SatisfiesInvariant, SatisfiesPost}
use Rattle.vf_rules.specs.Types.{IsTypedPart}
use Rattle.vf_safety.specs.Safe.{Duty, Duties, Within, Done, event_of, IsShaped, IsPlain, IsJoinable, HasBegun, Exchange, no_exchange, from_mutex, to_mutex, to_thread, to_joinable, from_thread, Went, Safe}
use Rattle.vf_safety.proofs.Duties.{IsIn}
use Rattle.vf_safety.proofs.Left.{joinable_left}
use Rattle.vf_safety.proofs.Owners.{chosen, chosen_left, chosen_right, OfThread, OfMutex, Owning, Shared}

pub none_some : {A B : Type 0} {x : A} → None ≡ Some x → B
none_some e = cc

pub some_none : {A B : Type 0} {x : A} → Some x ≡ None → B
some_none e = cc

pub some_same : {A : Type 0} {x y : A} → Some x ≡ Some y → x ≡ y
some_same e = cc

pub cons_nil : {A B : Type 0} {x : A} {xs : List A} → x ∷ xs ≡ [] → B
cons_nil e = cc

pub suc_zero : {A : Type 0} {n : ℕ} → suc n ≡ zero → A
suc_zero h = cc

-- ---- what each thread has
pub put : {A : Type 0} → (ℕ → A) → ℕ → A → ℕ → A
put f t new u = chosen (cases_eq u t) new (f u)

pub put_own : {A : Type 0} (f : ℕ → A) (t : ℕ) (new : A) → put f t new t ≡ new
unfolding put
put_own f t new = chosen_left (cases_eq t t) new (f t) refl

pub put_other : {A : Type 0} (f : ℕ → A) (t : ℕ) (new : A) (u : ℕ) → u ≢ t → put f t new u ≡ f u
unfolding put
put_other f t new u other = chosen_right (cases_eq u t) new (f u) other

-- the same where there is something
pub put_if : {A B : Type 0} → (ℕ → A) → ℕ → (B → A) → Option B → ℕ → A
put_if f t g None = f
put_if f t g (Some b) = put f t (g b)

pub put_if_own : {A B : Type 0} (f : ℕ → A) (t : ℕ) (g : B → A) (o : Option B) (b : B) → o ≡ Some b → put_if f t g o t ≡ g b
unfolding put_if
put_if_own f t g None b is = none_some is
put_if_own f t g (Some c) b is = put_own f t (g c) ∙ ap g (some_same is)

pub put_if_other : {A B : Type 0} (f : ℕ → A) (t : ℕ) (g : B → A) (o : Option B) (u : ℕ) → u ≢ t → put_if f t g o u ≡ f u
unfolding put_if
put_if_other f t g None u other = refl
put_if_other f t g (Some c) u other = put_other f t (g c) u other

pub put_if_none : {A B : Type 0} (f : ℕ → A) (t : ℕ) (g : B → A) (o : Option B) (u : ℕ) → o ≡ None → put_if f t g o u ≡ f u
unfolding put_if
put_if_none f t g None u is = refl
put_if_none f t g (Some c) u is = some_none is

-- the first duty alone
abbrev pub alone : Duty → Duties
alone d = d ∷ []

pub no_first : {n : ℕ} {m : ℕ} {A : Type 0} → m < n → m ≡ n → A
no_first {n} {m} l h = absurd (none l h)
  where
    none : m < n → m ≡ n → ⊥
    none l h = omega (arith, l, h)

pub in_list : {A : Type 0} (xs : List A) (t : ℕ) (x : A) → slice_get xs t ≡ Some x → t < length xs
in_list [] t x h = none_some h
in_list (y ∷ xs) zero x h = omega arith
in_list (y ∷ xs) (suc t) x h = let l = in_list xs t x h in omega (arith, l)

pub past_list : {A : Type 0} (xs : List A) → slice_get xs (length xs) ≡ None
past_list [] = refl
past_list (x ∷ xs) = past_list xs

pub not_ended : {frame : Frame} {callers : Thread} {A : Type 0} (o : Option Thread) → o ≡ Some (frame ∷ callers) → has_ended o ≡ true → A
not_ended o is h = absurd (false≢true (sym (ap has_ended is) ∙ h))

pub ended_is : (o : Option Thread) → has_ended o ≡ true → o ≡ Some []
ended_is None h = absurd (false≢true h)
ended_is (Some []) h = refl
ended_is (Some (frame ∷ callers)) h = absurd (false≢true h)

-- ---- what a state is
module _ (e : Environment) (p : ProgramTree) (duty : Duty) where
  -- All of the memory is shared out among the threads, the mutexes and what was leaked; each thread is safe for m steps with its part, and while it runs it owes what it owed at first; the part of a free mutex satisfies its predicate value; a thread that is not joined yet has one handle, which says what it owes, and when it has ended its part is what it was to leave; and any other thread that has ended, but for main, has no part
  pub record World (m : ℕ) (s : State) : Type 0 where
    pub duties : ℕ → Duties
    pub firsts : ℕ → Duty
    pub parts : Owning
    pub all : Part
    pub shared : Shared parts all
    pub fits : Fits all s.memory
    pub typed : IsTypedPart e p all
    pub shaped : IsShaped p s.memory
    pub within : (t : ℕ) (frames : Thread) → slice_get s.threads t ≡ Some frames → Within (length frames) (duties t)
    pub safe : s.end ≡ None → (t : ℕ) (frames : Thread) → slice_get s.threads t ≡ Some frames → Safe e p t (duties t) m frames (parts (OfThread t))
    pub owes : (t : ℕ) (frames : Thread) → slice_get s.threads t ≡ Some frames → (length frames ≡ 0) ⊎ IsIn (firsts t) (duties t)
    pub bottom : (t : ℕ) → (firsts t).below ≡ 0
    pub main : firsts 0 ≡ duty
    pub unknown : (t : ℕ) → slice_get s.threads t ≡ None → parts (OfThread t) ≡ nothing
    pub held : (b : ℕ) → block_at s.memory b ≢ Some (Mutex None) → parts (OfMutex b) ≡ nothing
    pub free : (b : ℕ) (q : Value) → block_at s.memory b ≡ Some (Mutex None) → IsPositive (all (MutexAt b) (MutexOf q)) → SatisfiesInvariant e q (parts (OfMutex b))
    pub watched : (t : ℕ) → t ≢ 0 → (frame : Frame) (callers : Thread) → slice_get s.threads t ≡ Some (frame ∷ callers) → IsPlain (firsts t) ⊎ ((b : ℕ) × IsHandleOf s b t)
    pub done : (t b : ℕ) → slice_get s.threads t ≡ Some [] → IsHandleOf s b t → (result : Option Value) × Done e (firsts t) result (parts (OfThread t))
    pub joined : (t : ℕ) → t ≢ 0 → slice_get s.threads t ≡ Some [] → ((b : ℕ) → IsHandleOf s b t → ⊥) → parts (OfThread t) ≡ nothing
    pub handles : (b t : ℕ) (run : Identity) (argument info : Value) → block_at s.memory b ≡ Some (Handle t run argument) → IsPositive (all (HandleAt b) (HandleOf (values.Function run) argument info)) → IsJoinable (firsts t) run argument info
    pub of_started : (b t : ℕ) → IsHandleOf s b t → (t ≢ 0) × (slice_get s.threads t ≡ None → ⊥)
    pub once : (b c t : ℕ) → IsHandleOf s b t → IsHandleOf s c t → b ≡ c

  -- what a thread that has ended was to leave
  pub left_post : (m : ℕ) (s : State) (w : World m s) (b t : ℕ) (run : Identity) (argument info : Value) → block_at s.memory b ≡ Some (Handle t run argument) → Ended s t → IsPositive (w.all (HandleAt b) (HandleOf (values.Function run) argument info))
      → SatisfiesPost e run argument info (w.parts (OfThread t))
  left_post m s w b t run argument info is ended positive =
      let done = w.done t b (ended_is (slice_get s.threads t) ended) (run, argument, is) in
      joinable_left e (w.firsts t) run argument info done.0 (w.parts (OfThread t)) (w.handles b t run argument info is positive) done.1

  begun_fewer : (S R : ℕ → Duties → Thread → Part → Type 0) → ((u : ℕ) (ds : Duties) (frames : Thread) (own : Part) → S u ds frames own → R u ds frames own) → (x : Exchange) (s new : State) → HasBegun S x s new → HasBegun R x s new
  begun_fewer S R h no_exchange s new b = tt
  begun_fewer S R h (from_mutex c q) s new b = tt
  begun_fewer S R h (to_mutex c q) s new b = tt
  begun_fewer S R h (from_thread c u run argument info) s new b = tt
  begun_fewer S R h (to_thread frames d q) s new b = record { there = b.there; one = b.one; first = b.first; rest = b.rest; going = h (length s.threads) (d ∷ []) frames q b.going }
  begun_fewer S R h (to_joinable c frames d q) s new b = record { there = b.there; one = b.one; first = b.first; rest = b.rest; going = h (length s.threads) (d ∷ []) frames q b.going }

  went_fewer : (S R : ℕ → Duties → Thread → Part → Type 0) → ((u : ℕ) (ds : Duties) (frames : Thread) (own : Part) → S u ds frames own → R u ds frames own) → (t : ℕ) (x : Exchange) (duties : Duties) (s new : State) (rest before : Part)
      → Went e p t S x duties s new rest before → Went e p t R x duties s new rest before
  went_fewer S R h t x duties s new rest before w = record {
    frames = w.frames;
    owing = w.owing;
    own = w.own;
    given = w.given;
    leaked = w.leaked;
    unleaked = w.unleaked;
    lost = w.lost;
    handed = w.handed;
    parted = w.parted;
    others = w.others;
    all = w.all;
    given_up = w.given_up;
    sums = w.sums;
    fits = w.fits;
    typed = w.typed;
    shaped = w.shaped;
    now = w.now;
    alone = w.alone;
    begun = begun_fewer S R h x s new w.begun;
    unshared = w.unshared;
    unmoved = w.unmoved;
    known = w.known;
    settled = w.settled;
    within = w.within;
    owes = w.owes;
    going = λ none. h t w.owing w.frames w.own (w.going none);
    called = w.called;
    leaves = w.leaves;
    finished = w.finished;
  }

  pub safe_fewer : (m : ℕ) (t : ℕ) (duties : Duties) (frames : Thread) (own : Part) → Safe e p t duties (suc m) frames own → Safe e p t duties m frames own
  safe_fewer zero t duties frames own h = tt
  safe_fewer (suc m) t duties [] own h = tt
  safe_fewer (suc m) t duties (frame ∷ callers) own h = λ s rest all going is within sums fits typed shaped.
      let secure = h s rest all going is within sums fits typed shaped in
      record {
        faultless = secure.faultless;
        owned = secure.owned;
        goes = λ grant steps.
            let x = secure.goes grant steps in
            record {
              exchange = x.exchange;
              offered = x.offered;
              started = x.started;
              went = λ taken remaining is parted. went_fewer (λ u ds. Safe e p u ds (suc m)) (λ u ds. Safe e p u ds m) (safe_fewer m) t x.exchange duties s (after p s (event_of t grant)) remaining all (x.went taken remaining is parted);
            };
      }

  -- the same in a state that is the same
  abbrev pub at_same : (m : ℕ) (s new : State) → new ≡ s → World m s → World m new
  at_same m s new is w = record {
    duties = w.duties;
    firsts = w.firsts;
    parts = w.parts;
    all = w.all;
    shared = w.shared;
    fits = subst (λ z. Fits w.all z.memory) (sym is) w.fits;
    typed = w.typed;
    shaped = subst (λ z. IsShaped p z.memory) (sym is) w.shaped;
    within = λ t frames there. w.within t frames (sym (ap (λ z. slice_get z.threads t) is) ∙ there);
    safe = λ none t frames there. w.safe (sym (ap (λ z. z.end) is) ∙ none) t frames (sym (ap (λ z. slice_get z.threads t) is) ∙ there);
    owes = λ t frames there. w.owes t frames (sym (ap (λ z. slice_get z.threads t) is) ∙ there);
    bottom = w.bottom;
    main = w.main;
    unknown = λ t none. w.unknown t (sym (ap (λ z. slice_get z.threads t) is) ∙ none);
    held = λ b other. w.held b (λ h. other (ap (λ z. block_at z.memory b) is ∙ h));
    free = λ b q there positive. w.free b q (sym (ap (λ z. block_at z.memory b) is) ∙ there) positive;
    watched = subst (λ (z : State). (t : ℕ) → t ≢ 0 → (frame : Frame) (callers : Thread) → slice_get z.threads t ≡ Some (frame ∷ callers) → IsPlain (w.firsts t) ⊎ ((b : ℕ) × IsHandleOf z b t)) (sym is) w.watched;
    done = subst (λ (z : State). (t b : ℕ) → slice_get z.threads t ≡ Some [] → IsHandleOf z b t → (result : Option Value) × Done e (w.firsts t) result (w.parts (OfThread t))) (sym is) w.done;
    joined = subst (λ (z : State). (t : ℕ) → t ≢ 0 → slice_get z.threads t ≡ Some [] → ((b : ℕ) → IsHandleOf z b t → ⊥) → w.parts (OfThread t) ≡ nothing) (sym is) w.joined;
    handles = λ b t run argument info there positive. w.handles b t run argument info (sym (ap (λ z. block_at z.memory b) is) ∙ there) positive;
    of_started = subst (λ (z : State). (b t : ℕ) → IsHandleOf z b t → (t ≢ 0) × (slice_get z.threads t ≡ None → ⊥)) (sym is) w.of_started;
    once = subst (λ (z : State). (b c t : ℕ) → IsHandleOf z b t → IsHandleOf z c t → b ≡ c) (sym is) w.once;
  }

  abbrev pub fewer_steps : (m : ℕ) (s : State) → World (suc m) s → World m s
  fewer_steps m s w = record {
    duties = w.duties;
    firsts = w.firsts;
    parts = w.parts;
    all = w.all;
    shared = w.shared;
    fits = w.fits;
    typed = w.typed;
    shaped = w.shaped;
    within = w.within;
    safe = λ none t frames there. safe_fewer m t (w.duties t) frames (w.parts (OfThread t)) (w.safe none t frames there);
    owes = w.owes;
    bottom = w.bottom;
    main = w.main;
    unknown = w.unknown;
    held = w.held;
    free = w.free;
    watched = w.watched;
    done = w.done;
    joined = w.joined;
    handles = w.handles;
    of_started = w.of_started;
    once = w.once;
  }
