-- What owners have after an exchange of a thread, and what an exchange is of.
use Rattle.std.proofs.Common.{◌≡◌, ◌≢◌, ℕ, length, Option, Some, None, refl, sym, ap, subst, ◌∙◌, ◌⊎◌, inl, inr}
use Rattle.std.proofs.lemmas.Bool.{cases_eq}
use Rattle.vf_tree.specs.Core.{Identity}
use Rattle.vf_model.specs.Values.{Value}
use Rattle.vf_model.specs.Values as values
use Rattle.vf_model.specs.Memory.{Block, Mutex, Handle, block_at}
use Rattle.vf_model.specs.State.{Thread, State}
use Rattle.vf_meaning.specs.Fractions.{IsPositive}
use Rattle.vf_meaning.specs.Assertions.{Environment}
use Rattle.vf_meaning.specs.Parts.{MutexAt, HandleAt, MutexOf, HandleOf, Part, nothing, ◌⊕◌, IsSum}
use Rattle.vf_meaning.specs.Fits.{Fits}
use Rattle.vf_meaning.specs.ShareOuts.{Ended, IsHandleOf, SatisfiesInvariant}
use Rattle.vf_meaning.proofs.Parts.{sums_turn, nothing-⊕, fitting_is_consistent}
use Rattle.vf_safety.specs.Safe.{Duty, Duties, IsShared, IsHandle, IsPlain, IsJoinable, Exchange, no_exchange, from_mutex, to_mutex, to_thread, to_joinable, from_thread, Concerns, Starts, Offers, Settles, Begun, HasBegun}
use Rattle.vf_safety.proofs.Steps.{apart}
use Rattle.vf_safety.proofs.Owners.{Owner, OfThread, OfMutex, Leaked, Owning, with_part, part_own, part_other, Shared, Opened, closed, added}

some_same : {A : Type 0} {x y : A} → Some x ≡ Some y → x ≡ y
some_same e = cc

-- ---- different owners
pub thread_other : {t u : ℕ} → u ≢ t → OfThread u ≢ OfThread t
thread_other other h = other (same h)
  where
    same : {t u : ℕ} → OfThread u ≡ OfThread t → u ≡ t
    same h = cc

pub mutex_other : {b c : ℕ} → b ≢ c → OfMutex b ≢ OfMutex c
mutex_other other h = other (same h)
  where
    same : {b c : ℕ} → OfMutex b ≡ OfMutex c → b ≡ c
    same h = cc

pub mutex_thread : {b t : ℕ} → OfMutex b ≢ OfThread t
mutex_thread h = cc

pub thread_mutex : {t b : ℕ} → OfThread t ≢ OfMutex b
thread_mutex h = cc

pub thread_leaked : {t : ℕ} → OfThread t ≢ Leaked
thread_leaked h = cc

pub mutex_leaked : {b : ℕ} → OfMutex b ≢ Leaked
mutex_leaked h = cc

leaked_thread : {t : ℕ} → Leaked ≢ OfThread t
leaked_thread h = cc

-- ---- parts are dealt
-- what grows by a part does so where both are known otherwise
still_grows : (leaked old new old2 new2 : Part) → old2 ≡ old → new2 ≡ new → IsSum leaked old2 new → IsSum leaked old new2
still_grows leaked old new old2 new2 one two sums = subst (IsSum leaked old) (sym two) (subst (λ z. IsSum leaked z new) one sums)

-- A thread has another part, and so has one other owner; what was leaked grows by a part, and nobody else's part changes
pub record Dealt (t : ℕ) (o : Owner) (old : Owning) (own q leaked all : Part) : Type 0 where
  pub parts : Owning
  pub shared : Shared parts all
  pub own_is : parts (OfThread t) ≡ own
  pub there : parts o ≡ q
  pub grows : IsSum leaked (old Leaked) (parts Leaked)
  pub same : (y : Owner) → y ≢ OfThread t → y ≢ Leaked → y ≢ o → parts y ≡ old y

-- what is leaked goes to what was leaked
record Leaking (parts : Owning) (given leaked others : Part) : Type 0 where
  mid : Part
  new : Owning
  shared : Shared new mid
  others_are : IsSum given mid others
  grows : IsSum leaked (parts Leaked) (new Leaked)
  same : (y : Owner) → y ≢ Leaked → new y ≡ parts y

leaking : (parts : Owning) (rest given leaked lost others : Part) → Shared parts rest → IsSum given leaked lost → IsSum rest lost others → Leaking parts given leaked others
leaking parts rest given leaked lost others shared parted given_up =
    let (mid, inner, outer) = apart given leaked lost rest others parted (sums_turn rest lost others given_up) in
    let a = added parts rest shared Leaked leaked mid inner in
    record {
      mid = mid;
      new = with_part (with_part parts Leaked nothing) Leaked a.new;
      shared = a.shared;
      others_are = outer;
      grows = subst (IsSum leaked (parts Leaked)) (sym (part_own (with_part parts Leaked nothing) Leaked a.new)) a.sums;
      same = λ y other. part_other (with_part parts Leaked nothing) Leaked a.new y other ∙ part_other parts Leaked nothing y other;
    }

none_given : (given mid others : Part) → given ≡ nothing → IsSum given mid others → mid ≡ others
none_given given mid others is sums = sym (sums.adds ∙ ap (λ z. z ⊕ mid) is ∙ nothing-⊕ mid)

module _ (t : ℕ) (old : Owning) (all : Part) (o : Opened old (OfThread t) all) where
  abbrev pub beside_thread : Owning
  beside_thread = with_part old (OfThread t) nothing

  -- nothing is given and nothing taken
  pub deal_none : (own given leaked lost others new : Part) → given ≡ nothing → IsSum given leaked lost → IsSum o.rest lost others → IsSum own others new → (q : Part) × Dealt t Leaked old own q leaked new
  deal_none own given leaked lost others new none parted given_up sums =
      let l = leaking beside_thread o.rest given leaked lost others o.shared parted given_up in (
        l.new Leaked,
        record {
          parts = with_part l.new (OfThread t) own;
          shared = closed l.new others (subst (Shared l.new) (none_given given l.mid others none l.others_are) l.shared) (OfThread t) own new (l.same (OfThread t) thread_leaked ∙ part_own old (OfThread t) nothing) sums;
          own_is = part_own l.new (OfThread t) own;
          there = part_other l.new (OfThread t) own Leaked leaked_thread;
          grows = still_grows leaked (old Leaked) (l.new Leaked) _ _ (part_other old (OfThread t) nothing Leaked leaked_thread) (part_other l.new (OfThread t) own Leaked leaked_thread) l.grows;
          same = λ y other unleaked apart1. part_other l.new (OfThread t) own y other ∙ l.same y unleaked ∙ part_other old (OfThread t) nothing y other;
        },
      )

  -- a part is given to an owner that has none
  pub deal_to : (a : Owner) → a ≢ OfThread t → a ≢ Leaked → (own given leaked lost others new : Part) → old a ≡ nothing → IsSum given leaked lost → IsSum o.rest lost others → IsSum own others new → Dealt t a old own given leaked new
  deal_to a not_own not_leaked own given leaked lost others new empty parted given_up sums =
      let l = leaking beside_thread o.rest given leaked lost others o.shared parted given_up in
      let none : l.new a ≡ nothing = l.same a not_leaked ∙ part_other old (OfThread t) nothing a not_own ∙ empty in
      let next = with_part l.new a given in
      let back : OfThread t ≢ a = λ h. not_own (sym h) in
      record {
        parts = with_part next (OfThread t) own;
        shared = closed next others (closed l.new l.mid l.shared a given others none l.others_are) (OfThread t) own new (part_other l.new a given (OfThread t) back ∙ l.same (OfThread t) thread_leaked ∙ part_own old (OfThread t) nothing) sums;
        own_is = part_own next (OfThread t) own;
        there = part_other next (OfThread t) own a not_own ∙ part_own l.new a given;
        grows = still_grows leaked (old Leaked) (l.new Leaked) _ _ (part_other old (OfThread t) nothing Leaked leaked_thread) (part_other next (OfThread t) own Leaked leaked_thread ∙ part_other l.new a given Leaked (λ h. not_leaked (sym h))) l.grows;
        same = λ y other unleaked apart1. part_other next (OfThread t) own y other ∙ part_other l.new a given y apart1 ∙ l.same y unleaked ∙ part_other old (OfThread t) nothing y other;
      }

  -- the part of an owner is taken
  pub deal_from : (a : Owner) → a ≢ OfThread t → a ≢ Leaked → (m : Opened beside_thread a o.rest) (own given leaked lost others new : Part) → given ≡ nothing → IsSum given leaked lost → IsSum m.rest lost others → IsSum own others new → Dealt t a old own nothing leaked new
  deal_from a not_own not_leaked m own given leaked lost others new none parted given_up sums =
      let parts = with_part beside_thread a nothing in
      let l = leaking parts m.rest given leaked lost others m.shared parted given_up in
      let back : OfThread t ≢ a = λ h. not_own (sym h) in
      record {
        parts = with_part l.new (OfThread t) own;
        shared = closed l.new others (subst (Shared l.new) (none_given given l.mid others none l.others_are) l.shared) (OfThread t) own new
            (l.same (OfThread t) thread_leaked ∙ part_other beside_thread a nothing (OfThread t) back ∙ part_own old (OfThread t) nothing) sums;
        own_is = part_own l.new (OfThread t) own;
        grows = still_grows leaked (old Leaked) (l.new Leaked) _ _ (part_other beside_thread a nothing Leaked (λ h. not_leaked (sym h)) ∙ part_other old (OfThread t) nothing Leaked leaked_thread) (part_other l.new (OfThread t) own Leaked leaked_thread) l.grows;
        there = part_other l.new (OfThread t) own a not_own ∙ l.same a not_leaked ∙ part_own beside_thread a nothing;
        same = λ y other unleaked apart1. part_other l.new (OfThread t) own y other ∙ l.same y unleaked ∙ part_other beside_thread a nothing y apart1 ∙ part_other old (OfThread t) nothing y other;
      }

-- ---- what an exchange changes
-- a thread is joined in an exchange
abbrev pub Joins : Exchange → ℕ → Type 0
Joins (from_thread b v run argument info) u = u ≡ v
Joins _ u = ⊥

-- an exchange is of a mutex's part
abbrev pub OfMutexPart : Exchange → ℕ → Type 0
OfMutexPart (from_mutex c q) b = b ≡ c
OfMutexPart (to_mutex c q) b = b ≡ c
OfMutexPart _ b = ⊥

-- what the other owner has
abbrev pub HasExchanged : Environment → Exchange → State → Owning → Type 0
HasExchanged e no_exchange s parts = Unit {0}
HasExchanged e (from_mutex b q) s parts = parts (OfMutex b) ≡ nothing
HasExchanged e (to_mutex b q) s parts = SatisfiesInvariant e q (parts (OfMutex b))
HasExchanged e (to_thread frames d q) s parts = parts (OfThread (length s.threads)) ≡ q
HasExchanged e (to_joinable b frames d q) s parts = parts (OfThread (length s.threads)) ≡ q
HasExchanged e (from_thread b u run argument info) s parts = parts (OfThread u) ≡ nothing

-- after an event of a thread its part is another, the parts that were not exchanged are as before, what was leaked grows by a part, and all is shared out
pub record Passed (e : Environment) (t : ℕ) (x : Exchange) (s : State) (old : Owning) (own leaked all : Part) : Type 0 where
  pub parts : Owning
  pub shared : Shared parts all
  pub own_is : parts (OfThread t) ≡ own
  pub threads : (u : ℕ) → u ≢ t → (Starts x s u → ⊥) → (Joins x u → ⊥) → parts (OfThread u) ≡ old (OfThread u)
  pub mutexes : (b : ℕ) → (OfMutexPart x b → ⊥) → parts (OfMutex b) ≡ old (OfMutex b)
  pub exchanged : HasExchanged e x s parts
  pub grows : IsSum leaked (old Leaked) (parts Leaked)

pub concerned : (x : Exchange) (b : ℕ) → Concerns x b ⊎ (Concerns x b → ⊥)
concerned no_exchange b = inr (λ h. h)
concerned (from_mutex c q) b = cases_eq b c
concerned (to_mutex c q) b = cases_eq b c
concerned (to_thread frames d q) b = inr (λ h. h)
concerned (to_joinable c frames d q) b = cases_eq b c
concerned (from_thread c u run argument info) b = cases_eq b c

pub starting : (x : Exchange) (s : State) (u : ℕ) → Starts x s u ⊎ (Starts x s u → ⊥)
starting no_exchange s u = inr (λ h. h)
starting (from_mutex c q) s u = inr (λ h. h)
starting (to_mutex c q) s u = inr (λ h. h)
starting (to_thread frames d q) s u = cases_eq u (length s.threads)
starting (to_joinable c frames d q) s u = cases_eq u (length s.threads)
starting (from_thread c v run argument info) s u = inr (λ h. h)

pub joining : (x : Exchange) (u : ℕ) → Joins x u ⊎ (Joins x u → ⊥)
joining no_exchange u = inr (λ h. h)
joining (from_mutex c q) u = inr (λ h. h)
joining (to_mutex c q) u = inr (λ h. h)
joining (to_thread frames d q) u = inr (λ h. h)
joining (to_joinable c frames d q) u = inr (λ h. h)
joining (from_thread c v run argument info) u = cases_eq u v

pub is_end : (x : Exchange) (s : State) (u : ℕ) → Starts x s u → u ≡ length s.threads
is_end (to_thread frames d q) s u h = h
is_end (to_joinable c frames d q) s u h = h
is_end no_exchange s u h = absurd h
is_end (from_mutex c q) s u h = absurd h
is_end (to_mutex c q) s u h = absurd h
is_end (from_thread c v run argument info) s u h = absurd h

-- a mutex's part is of the exchange's block
pub mutex_concerned : (x : Exchange) (b : ℕ) → OfMutexPart x b → Concerns x b
mutex_concerned (from_mutex c q) b h = h
mutex_concerned (to_mutex c q) b h = h
mutex_concerned no_exchange b h = h
mutex_concerned (to_thread frames d q) b h = h
mutex_concerned (to_joinable c frames d q) b h = absurd h
mutex_concerned (from_thread c v run argument info) b h = absurd h

-- the thread that was started
pub record StartedBy (S : ℕ → Duties → Thread → Part → Type 0) (x : Exchange) (s new : State) (u : ℕ) (parts : Owning) : Type 0 where
  pub frames : Thread
  pub duty : Duty
  pub part : Part
  pub begun : Begun S s new frames duty part
  pub is : u ≡ length s.threads
  pub has : parts (OfThread (length s.threads)) ≡ part

-- the first duty of a thread that is started
abbrev pub first_duty : Exchange → Option Duty
first_duty (to_thread frames d q) = Some d
first_duty (to_joinable b frames d q) = Some d
first_duty _ = None

pub started_by : (e : Environment) (S : ℕ → Duties → Thread → Part → Type 0) (x : Exchange) (s new : State) (u : ℕ) (parts : Owning) → HasBegun S x s new → HasExchanged e x s parts → Starts x s u → (k : StartedBy S x s new u parts) × (first_duty x ≡ Some k.duty)
started_by e S (to_thread frames d q) s new u parts begun has h = (record { frames = frames; duty = d; part = q; begun = begun; is = h; has = has }, refl)
started_by e S (to_joinable b frames d q) s new u parts begun has h = (record { frames = frames; duty = d; part = q; begun = begun; is = h; has = has }, refl)
started_by e S no_exchange s new u parts begun has h = absurd h
started_by e S (from_mutex c q) s new u parts begun has h = absurd h
started_by e S (to_mutex c q) s new u parts begun has h = absurd h
started_by e S (from_thread c v run argument info) s new u parts begun has h = absurd h

-- ---- blocks that an exchange is of
mutex_content : {q r : Value} → MutexOf q ≡ MutexOf r → q ≡ r
mutex_content h = cc

pub mutex_no_handle : {holder : Option ℕ} {u : ℕ} {k : Identity} {argument : Value} → Some (Mutex holder) ≡ Some (Handle u k argument) → ⊥
mutex_no_handle h = cc

handle_is : (o : Option Block) (u : ℕ) (k : Identity) (argument : Value) → o ≡ Some (Handle u k argument) → IsHandle o
handle_is o u k argument is = subst IsHandle (sym is) tt

pub handle_shared : (o : Option Block) (u : ℕ) (k : Identity) (argument : Value) → o ≡ Some (Handle u k argument) → IsShared o
handle_shared o u k argument is = subst IsShared (sym is) tt

-- a block of an exchange that is no mutex's is no free mutex, before and after
pub held_by : (e : Environment) (x : Exchange) (s new : State) (old parts : Owning) (before all : Part) → Offers x s before → Settles x s new all → HasExchanged e x s parts → ((b : ℕ) → (OfMutexPart x b → ⊥) → parts (OfMutex b) ≡ old (OfMutex b))
    → ((b : ℕ) → block_at s.memory b ≢ Some (Mutex None) → old (OfMutex b) ≡ nothing) → (b : ℕ) → Concerns x b → block_at new.memory b ≢ Some (Mutex None) → parts (OfMutex b) ≡ nothing
held_by e no_exchange s new old parts before all offered settled exchanged same held b c other = absurd c
held_by e (to_thread frames d q) s new old parts before all offered settled exchanged same held b c other = absurd c
held_by e (from_mutex d q) s new old parts before all offered settled exchanged same held b c other = ap (λ z. parts (OfMutex z)) c ∙ exchanged
held_by e (to_mutex d q) s new old parts before all offered settled exchanged same held b c other = absurd (other (ap (block_at new.memory) c ∙ settled.0))
held_by e (to_joinable d frames f q) s new old parts before all offered settled exchanged same held b c other = same b (λ h. h) ∙ held b (λ h. none_mutex (sym offered ∙ ap (block_at s.memory) (sym c) ∙ h))
  where
    none_mutex : None ≡ Some (Mutex None) → ⊥
    none_mutex h = cc
held_by e (from_thread d v run argument info) s new old parts before all offered settled exchanged same held b c other = same b (λ h. h) ∙ held b (λ h. mutex_no_handle (sym h ∙ ap (block_at s.memory) c ∙ offered.0))

pub free_by : (e : Environment) (x : Exchange) (s new : State) (parts : Owning) (all : Part) → Fits all new.memory → Settles x s new all → HasExchanged e x s parts → (b : ℕ) (q : Value) → Concerns x b → block_at new.memory b ≡ Some (Mutex None) → IsPositive (all (MutexAt b) (MutexOf q))
    → SatisfiesInvariant e q (parts (OfMutex b))
free_by e no_exchange s new parts all fits settled exchanged b q c there positive = absurd c
free_by e (to_thread frames d r) s new parts all fits settled exchanged b q c there positive = absurd c
free_by e (from_mutex d r) s new parts all fits settled exchanged b q c there positive = absurd (settled.0 (ap (block_at new.memory) (sym c) ∙ there))
free_by e (to_mutex d r) s new parts all fits settled exchanged b q c there positive =
    let same : r ≡ q = mutex_content (fitting_is_consistent all new.memory fits (MutexAt d) (MutexOf r) (MutexOf q) settled.1 (subst (λ z. IsPositive (all (MutexAt z) (MutexOf q))) c positive)) in
    subst (λ z. SatisfiesInvariant e q (parts (OfMutex z))) (sym c) (subst (λ z. SatisfiesInvariant e z (parts (OfMutex d))) same exchanged)
free_by e (to_joinable d frames f r) s new parts all fits settled exchanged b q c there positive = absurd (mutex_no_handle (sym there ∙ ap (block_at new.memory) c ∙ settled.3))
free_by e (from_thread d v run argument info) s new parts all fits settled exchanged b q c there positive = absurd (settled.0 (ap (block_at new.memory) (sym c) ∙ there))

-- the block of an exchange changes
pub changed_by : (x : Exchange) (s new : State) (before all : Part) → Offers x s before → Settles x s new all → (b : ℕ) → Concerns x b → block_at new.memory b ≡ block_at s.memory b → ⊥
changed_by no_exchange s new before all offered settled b c same = c
changed_by (to_thread frames d q) s new before all offered settled b c same = c
changed_by (from_mutex d q) s new before all offered settled b c same = settled.0 (ap (block_at new.memory) (sym c) ∙ same ∙ ap (block_at s.memory) c ∙ offered.0)
changed_by (to_mutex d q) s new before all offered settled b c same = offered.0 (ap (block_at s.memory) (sym c) ∙ sym same ∙ ap (block_at new.memory) c ∙ settled.0)
changed_by (to_joinable d frames f q) s new before all offered settled b c same = none_handle (sym offered ∙ ap (block_at s.memory) (sym c) ∙ sym same ∙ ap (block_at new.memory) c ∙ settled.3)
  where
    none_handle : {u : ℕ} {k : Identity} {argument : Value} → None ≡ Some (Handle u k argument) → ⊥
    none_handle h = cc
changed_by (from_thread d v run argument info) s new before all offered settled b c same =
    settled.1 (handle_is (block_at new.memory d) v run argument (ap (block_at new.memory) (sym c) ∙ same ∙ ap (block_at s.memory) c ∙ offered.0))

-- ---- handles
handle_same : {u v : ℕ} {k l : Identity} {a c : Value} → Some (Handle u k a) ≡ Some (Handle v l c) → (u ≡ v) × (k ≡ l) × (a ≡ c)
handle_same h = (cc, cc, cc)

-- a handle stays but for that of a thread that is joined
pub handle_kept : (x : Exchange) (s new : State) (before : Part) → Offers x s before → (b u : ℕ) → Concerns x b → (Joins x u → ⊥) → IsHandleOf s b u → ⊥
handle_kept no_exchange s new before offered b u c none h = c
handle_kept (to_thread frames d q) s new before offered b u c none h = c
handle_kept (from_mutex d q) s new before offered b u c none (k, argument, is) = mutex_no_handle (sym offered.0 ∙ ap (block_at s.memory) (sym c) ∙ is)
handle_kept (to_mutex d q) s new before offered b u c none (k, argument, is) = offered.1 (handle_is (block_at s.memory d) u k argument (ap (block_at s.memory) (sym c) ∙ is))
handle_kept (to_joinable d frames f q) s new before offered b u c none (k, argument, is) = none_handle (sym offered ∙ ap (block_at s.memory) (sym c) ∙ is)
  where
    none_handle : {u : ℕ} {k : Identity} {argument : Value} → None ≡ Some (Handle u k argument) → ⊥
    none_handle h = cc
handle_kept (from_thread d v run argument info) s new before offered b u c none (k, a, is) = none ((handle_same (sym is ∙ ap (block_at s.memory) c ∙ offered.0)).0)

-- a handle was made in an exchange
abbrev pub Makes : Exchange → State → ℕ → ℕ → Type 0
Makes (to_joinable d frames f q) s b u = (b ≡ d) × (u ≡ length s.threads)
Makes _ s b u = ⊥

-- a handle on the block of an exchange was made in it
pub handle_made : (x : Exchange) (s new : State) (all : Part) → Settles x s new all → (b u : ℕ) → Concerns x b → IsHandleOf new b u → Makes x s b u
handle_made no_exchange s new all settled b u c h = absurd c
handle_made (to_thread frames d q) s new all settled b u c h = absurd c
handle_made (from_mutex d q) s new all settled b u c (k, argument, is) = absurd (settled.1 (handle_is (block_at new.memory d) u k argument (ap (block_at new.memory) (sym c) ∙ is)))
handle_made (to_mutex d q) s new all settled b u c (k, argument, is) = absurd (mutex_no_handle (sym settled.0 ∙ ap (block_at new.memory) (sym c) ∙ is))
handle_made (from_thread d v run argument info) s new all settled b u c (k, a, is) = absurd (settled.1 (handle_is (block_at new.memory d) u k a (ap (block_at new.memory) (sym c) ∙ is)))
handle_made (to_joinable d frames f q) s new all settled b u c (k, a, is) = (c, (handle_same (sym is ∙ ap (block_at new.memory) c ∙ settled.3)).0)

pub makes_starts : (x : Exchange) (s : State) (b u : ℕ) → Makes x s b u → Starts x s u
makes_starts (to_joinable d frames f q) s b u h = h.1
makes_starts no_exchange s b u h = absurd h
makes_starts (to_thread frames d q) s b u h = absurd h
makes_starts (from_mutex d q) s b u h = absurd h
makes_starts (to_mutex d q) s b u h = absurd h
makes_starts (from_thread d v run argument info) s b u h = absurd h

pub makes_one : (x : Exchange) (s : State) (b c u v : ℕ) → Makes x s b u → Makes x s c v → b ≡ c
makes_one (to_joinable d frames f q) s b c u v h k = h.0 ∙ sym k.0
makes_one no_exchange s b c u v h k = absurd h
makes_one (to_thread frames d q) s b c u v h k = absurd h
makes_one (from_mutex d q) s b c u v h k = absurd h
makes_one (to_mutex d q) s b c u v h k = absurd h
makes_one (from_thread d v0 run argument info) s b c u v h k = absurd h

function_same : {k l : Identity} {a c i j : Value} → HandleOf (values.Function k) a i ≡ HandleOf (values.Function l) c j → i ≡ j
function_same h = cc

-- a handle that was made has what its thread owes by
pub made_joinable : (x : Exchange) (s new : State) (all : Part) → Fits all new.memory → Settles x s new all → (b u : ℕ) (run : Identity) (argument info : Value) → Makes x s b u → block_at new.memory b ≡ Some (Handle u run argument)
    → IsPositive (all (HandleAt b) (HandleOf (values.Function run) argument info)) → (d : Duty) → first_duty x ≡ Some d → IsJoinable d run argument info
made_joinable (to_joinable c frames f q) s new all fits (k, a, i, there, positive0, joinable) b u run argument info made is positive d first =
    let same = handle_same (sym there ∙ ap (block_at new.memory) (sym made.0) ∙ is) in
    let content = fitting_is_consistent all new.memory fits (HandleAt c) (HandleOf (values.Function k) a i) (HandleOf (values.Function run) argument info) positive0 (subst (λ z. IsPositive (all (HandleAt z) (HandleOf (values.Function run) argument info))) made.0 positive) in
    subst (λ z. IsJoinable z run argument info) (some_same first) (subst (λ z. IsJoinable f run argument z) (function_same content) (subst (λ z. IsJoinable f run z i) same.2 (subst (λ z. IsJoinable f z a i) same.1 joinable)))
made_joinable no_exchange s new all fits settled b u run argument info made is positive d first = absurd made
made_joinable (to_thread frames f q) s new all fits settled b u run argument info made is positive d first = absurd made
made_joinable (from_mutex c q) s new all fits settled b u run argument info made is positive d first = absurd made
made_joinable (to_mutex c q) s new all fits settled b u run argument info made is positive d first = absurd made
made_joinable (from_thread c v k a i) s new all fits settled b u run argument info made is positive d first = absurd made

-- a thread that is started owes nothing but its end, or has a handle
pub begun_watched : (x : Exchange) (s new : State) (before all : Part) → Offers x s before → Settles x s new all → (u : ℕ) → Starts x s u → (d : Duty) → first_duty x ≡ Some d → IsPlain d ⊎ ((b : ℕ) × IsHandleOf new b u)
begun_watched (to_thread frames f q) s new before all offered settled u starts d first = inl (subst IsPlain (some_same first) offered)
begun_watched (to_joinable c frames f q) s new before all offered (k, a, i, there, positive, joinable) u starts d first = inr (c, (k, a, there ∙ ap (λ z. Some (Handle z k a)) (sym starts)))
begun_watched no_exchange s new before all offered settled u starts d first = absurd starts
begun_watched (from_mutex c q) s new before all offered settled u starts d first = absurd starts
begun_watched (to_mutex c q) s new before all offered settled u starts d first = absurd starts
begun_watched (from_thread c v run argument info) s new before all offered settled u starts d first = absurd starts

-- a thread that is joined has ended, and its handle is gone
pub joined_ended : (x : Exchange) (s : State) (before : Part) → Offers x s before → (u : ℕ) → Joins x u → Ended s u
joined_ended (from_thread c v run argument info) s before offered u h = subst (Ended s) (sym h) offered.1
joined_ended no_exchange s before offered u h = absurd h
joined_ended (to_thread frames d q) s before offered u h = absurd h
joined_ended (to_joinable c frames d q) s before offered u h = absurd h
joined_ended (from_mutex c q) s before offered u h = absurd h
joined_ended (to_mutex c q) s before offered u h = absurd h

pub joined_handle : (x : Exchange) (s : State) (before : Part) → Offers x s before → (u : ℕ) → Joins x u → (b : ℕ) × IsHandleOf s b u × Concerns x b
joined_handle (from_thread c v run argument info) s before offered u h = (c, (run, argument, offered.0 ∙ ap (λ z. Some (Handle z run argument)) (sym h)), refl)
joined_handle no_exchange s before offered u h = absurd h
joined_handle (to_thread frames d q) s before offered u h = absurd h
joined_handle (to_joinable c frames d q) s before offered u h = absurd h
joined_handle (from_mutex c q) s before offered u h = absurd h
joined_handle (to_mutex c q) s before offered u h = absurd h

pub joined_nothing : (e : Environment) (x : Exchange) (s : State) (parts : Owning) → HasExchanged e x s parts → (u : ℕ) → Joins x u → parts (OfThread u) ≡ nothing
joined_nothing e (from_thread c v run argument info) s parts exchanged u h = ap (λ z. parts (OfThread z)) h ∙ exchanged
joined_nothing e no_exchange s parts exchanged u h = absurd h
joined_nothing e (to_thread frames d q) s parts exchanged u h = absurd h
joined_nothing e (to_joinable c frames d q) s parts exchanged u h = absurd h
joined_nothing e (from_mutex c q) s parts exchanged u h = absurd h
joined_nothing e (to_mutex c q) s parts exchanged u h = absurd h
