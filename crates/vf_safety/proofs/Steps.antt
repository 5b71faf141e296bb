-- One step of a thread over parts of memory, with no symbolic state.
use Rattle.std.proofs.Common.{◌≡◌, ◌≢◌, ℕ, zero, suc, List, [], ◌∷◌, length, slice_get, slice_set, Option, Some, None, refl, sym, ap, subst, ◌∙◌, inl, inr}
use Rattle.std.specs.Prelude.{IsFalse}
use Rattle.vf_base.specs.declared.place.Place.{Place}
use Rattle.vf_tree.specs.Core.{Identity, StepTree, Set, Load, Store, Allocate, Free, Offset, LoadAt, StoreAt, AllocateInts, FreeInts, Call, CallPointer, If, Return, FunctionTree, ProgramTree}
use Rattle.vf_model.specs.declared.words.FaultKind.{FaultKind}
use Rattle.vf_model.specs.Values.{Dyadic, Value}
use Rattle.vf_model.specs.Memory.{Memory, Cell, block_at}
use Rattle.vf_model.specs.State.{Frame, Thread, State, Turn, with_frames, over_memory}
use Rattle.vf_model.specs.Acts.{Touch, Act, Goes, Touches, Faults}
use Rattle.vf_model.specs.Races.{TouchesCell}
use Rattle.vf_model.specs.Steps.{act_of, act_at, act_in, act_by, next_act}
use Rattle.vf_model.specs.Runs.{happens, after_unended, after, is_wait}
use Rattle.vf_model.specs.PreludeFunctions.{PreludeFunction, ThreadStart, ThreadStartJoinable, prelude_named}
use Rattle.vf_meaning.specs.Fractions.{IsPositive}
use Rattle.vf_meaning.specs.Assertions.{Environment}
use Rattle.vf_meaning.specs.Parts.{Location, block_of, Content, Part, nothing, single, ◌⊕◌, IsSum}
use Rattle.vf_meaning.specs.Fits.{Fits}
use Rattle.vf_meaning.specs.ShareOuts.{location_in, OwnsFor}
use Rattle.vf_meaning.specs.Kept.{IsAt, Returns, Promise, CallsPointer, StartsThread, StartsWith, plain, joinable}
use Rattle.vf_meaning.proofs.Parts.{sums_turn, sums_regroup, nothing_is_neutral, nothing-⊕, in_left, in_right, in_either, single_only, not_nought}
use Rattle.vf_rules.specs.Types.{IsTypedContent, IsTypedPart}
use Rattle.vf_safety.specs.Safe.{Duties, Within, duties_same, event_of, IsShared, IsSharedPlace, IsShaped, Exchange, no_exchange, Concerns, IsGiven, Settles, HasBegun, Went, Exchanged, Secure}

some_same : {A : Type 0} {x y : A} → Some x ≡ Some y → x ≡ y
some_same e = cc

none_some : {A B : Type 0} {x : A} → None ≡ Some x → B
none_some e = cc

-- ---- lists of threads
pub set_own : {A : Type 0} (xs : List A) (i : ℕ) (y z : A) → slice_get xs i ≡ Some z → slice_get (slice_set xs i y) i ≡ Some y
set_own [] i y z h = none_some h
set_own (x ∷ xs) zero y z h = refl
set_own (x ∷ xs) (suc i) y z h = set_own xs i y z h

pub set_other : {A : Type 0} (xs : List A) (i j : ℕ) (y : A) → j ≢ i → slice_get (slice_set xs i y) j ≡ slice_get xs j
set_other [] i j y h = refl
set_other (x ∷ xs) zero zero y h = absurd (h refl)
set_other (x ∷ xs) zero (suc j) y h = refl
set_other (x ∷ xs) (suc i) zero y h = refl
set_other (x ∷ xs) (suc i) (suc j) y h = set_other xs i j y (λ e. h (ap suc e))

-- ---- where a thread is
pub record Here (p : ProgramTree) (s : State) (t : ℕ) (f : FunctionTree) (frame : Frame) (callers : Thread) (step : StepTree) : Type 0 where
  pub going : s.end ≡ None
  pub frames : slice_get s.threads t ≡ Some (frame ∷ callers)
  pub function : slice_get p.functions frame.function ≡ Some f
  pub found : slice_get f.steps frame.step ≡ Some step

abbrev pub turn_of : State → ℕ → Frame → Thread → Turn
turn_of s t frame callers = record { state = s; thread = t; frame = frame; callers = callers }

pub act_here : (p : ProgramTree) (s : State) (t : ℕ) (f : FunctionTree) (frame : Frame) (callers : Thread) (step : StepTree) → Here p s t f frame callers step
    → next_act p s t ≡ act_of p (turn_of s t frame callers) step
act_here p s t f frame callers step h =
    ap (act_by p s t) h.frames ∙ ap (act_in p (turn_of s t frame callers)) h.function ∙ ap (act_at p (turn_of s t frame callers) f.closing) h.found

pub after_here : (p : ProgramTree) (s : State) (t grant : ℕ) (act : Act) → s.end ≡ None → next_act p s t ≡ act → after p s (event_of t grant) ≡ happens s grant act
after_here p s t grant act going is = ap (after_unended p s (event_of t grant)) going ∙ ap (happens s grant) is

heads_same : {x y : Frame} {xs ys : Thread} → Some (x ∷ xs) ≡ Some (y ∷ ys) → (x ≡ y) × (xs ≡ ys)
heads_same e = (cc, cc)

-- what is known of where a thread is, is where it is
pub record Same (f f' : FunctionTree) (frame frame' : Frame) (callers callers' : Thread) (step step' : StepTree) : Type 0 where
  pub functions : f' ≡ f
  pub frames : frame' ≡ frame
  pub callers_are : callers' ≡ callers
  pub steps : step' ≡ step

pub same_place : (p : ProgramTree) (s : State) (t : ℕ) (f f' : FunctionTree) (frame frame' : Frame) (callers callers' : Thread) (step step' : StepTree) → Here p s t f frame callers step → IsAt p s t f' frame' callers' step'
    → Same f f' frame frame' callers callers' step step'
same_place p s t f f' frame frame' callers callers' step step' h k =
    let heads = heads_same (sym k.frames ∙ h.frames) in
    let functions : f' ≡ f = some_same (sym k.function ∙ ap (λ z. slice_get p.functions z.function) heads.0 ∙ h.function) in
    record {
      functions = functions;
      frames = heads.0;
      callers_are = heads.1;
      steps = some_same (sym k.found ∙ ap (λ z. slice_get f'.steps z.step) heads.0 ∙ ap (λ z. slice_get z.steps frame.step) functions ∙ h.found);
    }

-- ---- parts of parts
pub apart : (a r own rest all : Part) → IsSum a r own → IsSum own rest all → (f : Part) × IsSum r rest f × IsSum a f all
apart a r own rest all h k = sums_regroup a r own rest all h k

pub together : (a r rest f all : Part) → IsSum r rest f → IsSum a f all → (own : Part) × IsSum a r own × IsSum own rest all
together a r rest f all h k =
    let other = sums_regroup rest r f a all (sums_turn r rest f h) (sums_turn a f all k) in
    (other.0, sums_turn r a other.0 other.1, sums_turn rest other.0 all other.2)

-- duties of different calls of a thread that has not ended
pub record InCall (frames : Thread) (duties : Duties) : Type 0 where
  pub within : Within (length frames) duties
  pub some_frames : frames ≡ [] → ⊥

cons_nil : {x : Frame} {xs : Thread} → x ∷ xs ≡ [] → ⊥
cons_nil h = cc

pub in_call : {frame : Frame} {callers : Thread} {duties : Duties} → Within (suc (length callers)) duties → InCall (frame ∷ callers) duties
in_call h = record { within = h; some_frames = λ none. cons_nil none }

-- a called function is none that starts a thread
abbrev pub StartsNone : Option PreludeFunction → Type 0
StartsNone (Some ThreadStart) = ⊥
StartsNone (Some ThreadStartJoinable) = ⊥
StartsNone _ = Unit {0}

starts_known : (g type : Identity) → StartsWith g type → StartsNone (prelude_named g) → ⊥
starts_known g type plain h = h
starts_known g type joinable h = h

-- ---- steps that are no call through a pointer, start no thread and do not return
abbrev pub IsDirect : StepTree → Type 0
IsDirect (CallPointer target pointer signature operands place next) = ⊥
IsDirect (Call target g operands place next) = StartsNone (prelude_named g)
IsDirect _ = Unit {0}

-- steps that start no thread
abbrev pub IsUnstarting : StepTree → Type 0
IsUnstarting (Call target g operands place next) = StartsNone (prelude_named g)
IsUnstarting _ = Unit {0}

pub direct_starts_none : (step : StepTree) → IsDirect step → IsUnstarting step
direct_starts_none (CallPointer target pointer signature operands place next) h = absurd h
direct_starts_none (Call target g operands place next) h = h
direct_starts_none (Set x a next) h = tt
direct_starts_none (Load x a f place next) h = tt
direct_starts_none (Store a f b place next) h = tt
direct_starts_none (Allocate x g next) h = tt
direct_starts_none (Free a g place next) h = tt
direct_starts_none (Offset x a i place next) h = tt
direct_starts_none (LoadAt x a i place next) h = tt
direct_starts_none (StoreAt a i b place next) h = tt
direct_starts_none (AllocateInts x a place next) h = tt
direct_starts_none (FreeInts a place next) h = tt
direct_starts_none (If c a b y n) h = tt
direct_starts_none (Return x) h = tt

abbrev pub IsInside : StepTree → Type 0
IsInside (Return x) = ⊥
IsInside _ = Unit {0}

-- mutexes and handles, and what is known of them, are as before but for an exchange
pub record Unshared (x : Exchange) (m new : Memory) (before all : Part) : Type 0 where
  pub unshared : (b : ℕ) → (Concerns x b → ⊥) → IsShared (block_at new b) → block_at new b ≡ block_at m b
  pub unmoved : (b : ℕ) → (Concerns x b → ⊥) → IsShared (block_at m b) → block_at new b ≡ block_at m b
  pub known : (l : Location) (c : Content) → IsSharedPlace l → (Concerns x (block_of l) → ⊥) → IsPositive (all l c) → IsPositive (before l c)

-- what a thread gives goes over to the others
pub record HandsOver (e : Environment) (x : Exchange) (rest own all : Part) : Type 0 where
  pub given : Part
  pub others : Part
  pub handed : IsGiven e x given
  pub given_up : IsSum rest given others
  pub sums : IsSum own others all

module _ (e : Environment) (p : ProgramTree) (t : ℕ) (duties : Duties) (S : ℕ → Duties → Thread → Part → Type 0) where
  all_left : (taken remaining rest : Part) → taken ≡ nothing → IsSum taken remaining rest → rest ≡ remaining
  all_left taken remaining rest is sums = sums.adds ∙ ap (λ z. z ⊕ remaining) is ∙ nothing-⊕ remaining

  -- a step that starts no thread starts none
  pub not_started : (s : State) (f : FunctionTree) (frame : Frame) (callers : Thread) (step : StepTree) → Here p s t f frame callers step → IsUnstarting step → (grant : ℕ) (call : Promise) → StartsThread p s (event_of t grant) call → ⊥
  not_started s f frame callers step here direct grant call h = starts_known h.starter call.type h.type (subst IsUnstarting (sym (same_place p s t f h.f frame h.frame callers h.callers step _ here h.at).steps) direct)

  -- an event with no exchange
  pub quietly : (s new : State) (rest before : Part) → ((grant : ℕ) (call : Promise) → after p s (event_of t grant) ≡ new → StartsThread p s (event_of t grant) call → ⊥) → Went e p t S no_exchange duties s new rest before → Exchanged e p t S duties s new rest before
  quietly s new rest before unstarted w = record {
    exchange = no_exchange;
    offered = tt;
    started = unstarted;
    went = λ taken remaining is sums. subst (λ z. Went e p t S no_exchange duties s new z before) (all_left taken remaining rest is sums) w;
  }

  -- a step that has an act, by what the act is
  pub secure_by : (s : State) (f : FunctionTree) (frame : Frame) (callers : Thread) (step : StepTree) (own rest all : Part) (act : Act) → Here p s t f frame callers step
      → act_of p (turn_of s t frame callers) step ≡ act
      → ((kind : FaultKind) (place : Place) → act ≡ Faults kind place → ⊥)
      → ((touch : Touch) (new : State) (c : Cell) (l : Location) → act ≡ Touches touch new → TouchesCell s.memory touch c → location_in (block_at s.memory c.block) c ≡ Some l → OwnsFor touch own l)
      → ((grant : ℕ) → IsFalse (is_wait act) → Exchanged e p t S duties s (happens s grant act) rest all) → Secure e p t S duties s own rest all
  secure_by s f frame callers step own rest all act here is faultless owned goes =
      let now : next_act p s t ≡ act = act_here p s t f frame callers step here ∙ is in
      record {
        faultless = λ kind place h. faultless kind place (sym now ∙ h);
        owned = λ touch new c l h. owned touch new c l (sym now ∙ h);
        goes = λ grant going. subst (λ z. Exchanged e p t S duties s z rest all) (sym (after_here p s t grant act here.going now)) (goes grant (subst (λ z. IsFalse (is_wait z)) now going));
      }

  -- the same without an exchange
  pub secure : (s : State) (f : FunctionTree) (frame : Frame) (callers : Thread) (step : StepTree) (own rest all : Part) (act : Act) → Here p s t f frame callers step → IsUnstarting step
      → act_of p (turn_of s t frame callers) step ≡ act
      → ((kind : FaultKind) (place : Place) → act ≡ Faults kind place → ⊥)
      → ((touch : Touch) (new : State) (c : Cell) (l : Location) → act ≡ Touches touch new → TouchesCell s.memory touch c → location_in (block_at s.memory c.block) c ≡ Some l → OwnsFor touch own l)
      → ((grant : ℕ) → Went e p t S no_exchange duties s (happens s grant act) rest all) → Secure e p t S duties s own rest all
  secure s f frame callers step own rest all act here direct is faultless owned goes =
      secure_by s f frame callers step own rest all act here is faultless owned (λ grant going. quietly s (happens s grant act) rest all (λ grant0 call same h. not_started s f frame callers step here direct grant0 call h) (goes grant))

  -- inside of a body nothing is returned
  pub not_left : (s : State) (f : FunctionTree) (frame : Frame) (callers : Thread) (step : StepTree) → Here p s t f frame callers step → IsInside step → {A : Type 0} → (result : Option Value) → Returns p s t result → A
  not_left s f frame callers step here inside result r = absurd (subst IsInside (sym (same_place p s t f r.f frame r.frame callers r.callers step _ here r.at).steps) inside)

  -- a step that is no call through a pointer calls through none
  pub not_called : (s : State) (f : FunctionTree) (frame : Frame) (callers : Thread) (step : StepTree) → Here p s t f frame callers step → IsDirect step → {A : Type 0} → (grant : ℕ) (call : Promise) → CallsPointer e p s (event_of t grant) call → A
  not_called s f frame callers step here direct grant call c = absurd (subst IsDirect (sym (same_place p s t f c.f frame c.frame callers c.callers step _ here c.at).steps) direct)

  -- a thread with other frames and the same memory
  pub went_local : (s : State) (f : FunctionTree) (frame : Frame) (callers : Thread) (step : StepTree) (frames : Thread) (own rest all : Part) → Here p s t f frame callers step → IsDirect step → IsInside step → InCall frames duties → IsSum own rest all → Fits all s.memory → IsTypedPart e p all → IsShaped p s.memory
      → S t duties frames own
      → Went e p t S no_exchange duties s (with_frames (turn_of s t frame callers) frames) rest all
  went_local s f frame callers step frames own rest all here direct inside within sums fits typed shaped safe = record {
    frames = frames;
    own = own;
    given = nothing;
    leaked = nothing;
    unleaked = λ none. refl;
    lost = nothing;
    handed = refl;
    parted = nothing_is_neutral nothing;
    others = rest;
    all = all;
    given_up = sums_turn nothing rest rest (nothing_is_neutral rest);
    sums = sums;
    fits = fits;
    typed = typed;
    shaped = shaped;
    now = set_own s.threads t frames (frame ∷ callers) here.frames;
    alone = λ u other unstarted. set_other s.threads t u frames other;
    begun = tt;
    unshared = λ b apart h. refl;
    unmoved = λ b apart h. refl;
    known = λ l c shared apart h. h;
    settled = tt;
    owing = duties;
    within = within.within;
    owes = duties_same duties;
    going = λ h. safe;
    called = λ grant call h. not_called s f frame callers step here direct grant call h;
    leaves = λ result r n h. not_left s f frame callers step here inside result r;
    finished = λ none. absurd (within.some_frames none);
  }

  goes_fault : {new : State} {kind : FaultKind} {place : Place} → Goes new ≡ Faults kind place → ⊥
  goes_fault h = cc

  goes_touch : {new new' : State} {touch : Touch} {A : Type 0} → Goes new ≡ Touches touch new' → A
  goes_touch h = cc

  -- a step to other frames
  pub local_secure : (s : State) (f : FunctionTree) (frame : Frame) (callers : Thread) (step : StepTree) (frames : Thread) (own rest all : Part) → Here p s t f frame callers step → IsDirect step → IsInside step → InCall frames duties
      → act_of p (turn_of s t frame callers) step ≡ Goes (with_frames (turn_of s t frame callers) frames) → IsSum own rest all → Fits all s.memory → IsTypedPart e p all → IsShaped p s.memory → S t duties frames own → Secure e p t S duties s own rest all
  local_secure s f frame callers step frames own rest all here direct inside within is sums fits typed shaped safe =
      secure s f frame callers step own rest all (Goes (with_frames (turn_of s t frame callers) frames)) here (direct_starts_none step direct) is
      (λ kind place h. goes_fault h) (λ touch new c l h. goes_touch h)
      (λ grant. went_local s f frame callers step frames own rest all here direct inside within sums fits typed shaped safe)

  touches_fault : {touch : Touch} {new : State} {kind : FaultKind} {place : Place} → Touches touch new ≡ Faults kind place → ⊥
  touches_fault h = cc

  touches_same : {touch touch' : Touch} {new new' : State} → Touches touch new ≡ Touches touch' new' → touch ≡ touch'
  touches_same h = cc

  -- a step that touches and goes to other frames, over the same memory
  pub reading_secure : (s : State) (f : FunctionTree) (frame : Frame) (callers : Thread) (step : StepTree) (touch : Touch) (frames : Thread) (own rest all : Part) → Here p s t f frame callers step → IsDirect step → IsInside step → InCall frames duties
      → act_of p (turn_of s t frame callers) step ≡ Touches touch (with_frames (turn_of s t frame callers) frames) → IsSum own rest all → Fits all s.memory → IsTypedPart e p all → IsShaped p s.memory
      → ((c : Cell) (l : Location) → TouchesCell s.memory touch c → location_in (block_at s.memory c.block) c ≡ Some l → OwnsFor touch own l) → S t duties frames own → Secure e p t S duties s own rest all
  reading_secure s f frame callers step touch frames own rest all here direct inside within is sums fits typed shaped owned safe =
      secure s f frame callers step own rest all (Touches touch (with_frames (turn_of s t frame callers) frames)) here (direct_starts_none step direct) is
      (λ kind place h. touches_fault h) (λ touch' new c l h covers at. subst (λ z. OwnsFor z own l) (touches_same h) (owned c l (subst (λ z. TouchesCell s.memory z c) (sym (touches_same h)) covers) at))
      (λ grant. went_local s f frame callers step frames own rest all here direct inside within sums fits typed shaped safe)

  -- a thread with other frames, another part and another memory, in some exchange
  pub went_exchanging : (x : Exchange) (s : State) (f : FunctionTree) (frame : Frame) (callers : Thread) (step : StepTree) (frames : Thread) (m : Memory) (own rest before all : Part) → Here p s t f frame callers step → IsDirect step → IsInside step → InCall frames duties
      → HandsOver e x rest own all → Fits all m → IsTypedPart e p all → IsShaped p m → Unshared x s.memory m before all
      → Settles x s (with_frames (over_memory (turn_of s t frame callers) m) frames) all → HasBegun S x s (with_frames (over_memory (turn_of s t frame callers) m) frames) → S t duties frames own → Went e p t S x duties s (with_frames (over_memory (turn_of s t frame callers) m) frames) rest before
  went_exchanging x s f frame callers step frames m own rest before all here direct inside within over fits typed shaped as_before settled begun safe = record {
    frames = frames;
    own = own;
    given = over.given;
    leaked = nothing;
    unleaked = λ none. refl;
    lost = over.given;
    handed = over.handed;
    parted = sums_turn nothing over.given over.given (nothing_is_neutral over.given);
    others = over.others;
    all = all;
    given_up = over.given_up;
    sums = over.sums;
    fits = fits;
    typed = typed;
    shaped = shaped;
    now = set_own s.threads t frames (frame ∷ callers) here.frames;
    alone = λ u other unstarted. set_other s.threads t u frames other;
    begun = begun;
    unshared = as_before.unshared;
    unmoved = as_before.unmoved;
    known = as_before.known;
    settled = settled;
    owing = duties;
    within = within.within;
    owes = duties_same duties;
    going = λ h. safe;
    called = λ grant call h. not_called s f frame callers step here direct grant call h;
    leaves = λ result r n h. not_left s f frame callers step here inside result r;
    finished = λ none. absurd (within.some_frames none);
  }

  -- a thread with other frames, another part and another memory, in which the mutexes and handles are as before
  pub went_over : (s : State) (f : FunctionTree) (frame : Frame) (callers : Thread) (step : StepTree) (frames : Thread) (m : Memory) (own rest before all : Part) → Here p s t f frame callers step → IsDirect step → IsInside step → InCall frames duties
      → IsSum own rest all → Fits all m → IsTypedPart e p all → IsShaped p m → Unshared no_exchange s.memory m before all
      → S t duties frames own → Went e p t S no_exchange duties s (with_frames (over_memory (turn_of s t frame callers) m) frames) rest before
  went_over s f frame callers step frames m own rest before all here direct inside within sums fits typed shaped as_before safe =
      went_exchanging no_exchange s f frame callers step frames m own rest before all here direct inside within
      (record { given = nothing; others = rest; handed = refl; given_up = sums_turn nothing rest rest (nothing_is_neutral rest); sums = sums }) fits typed shaped as_before tt tt safe

  -- a step that touches and goes to another memory
  pub writing_secure : (s : State) (f : FunctionTree) (frame : Frame) (callers : Thread) (step : StepTree) (touch : Touch) (frames : Thread) (m : Memory) (own rest all own' all' : Part) → Here p s t f frame callers step → IsDirect step → IsInside step → InCall frames duties
      → act_of p (turn_of s t frame callers) step ≡ Touches touch (with_frames (over_memory (turn_of s t frame callers) m) frames) → IsSum own' rest all' → Fits all' m → IsTypedPart e p all' → IsShaped p m
      → Unshared no_exchange s.memory m all all'
      → ((c : Cell) (l : Location) → TouchesCell s.memory touch c → location_in (block_at s.memory c.block) c ≡ Some l → OwnsFor touch own l) → S t duties frames own' → Secure e p t S duties s own rest all
  writing_secure s f frame callers step touch frames m own rest all own' all' here direct inside within is sums fits typed shaped as_before owned safe =
      secure s f frame callers step own rest all (Touches touch (with_frames (over_memory (turn_of s t frame callers) m) frames)) here (direct_starts_none step direct) is
      (λ kind place h. touches_fault h) (λ touch' new c l h covers at. subst (λ z. OwnsFor z own l) (touches_same h) (owned c l (subst (λ z. TouchesCell s.memory z c) (sym (touches_same h)) covers) at))
      (λ grant. went_over s f frame callers step frames m own' rest all all' here direct inside within sums fits typed shaped as_before safe)

-- ---- typed parts
pub typed_sum : (e : Environment) (p : ProgramTree) (q f all : Part) → IsSum q f all → IsTypedPart e p q → IsTypedPart e p f → IsTypedPart e p all
typed_sum e p q f all s h k l c x = elim (in_either q f all s l c x) [ inl y ↦ h l c y | inr y ↦ k l c y ]

pub typed_single : (e : Environment) (p : ProgramTree) (l : Location) (c : Content) (x : Dyadic) → IsTypedContent e p l c → IsTypedPart e p (single l c x)
typed_single e p l c x h k d y = let at = single_only l c x k d y in subst (λ z. IsTypedContent e p z d) (sym at.0) (subst (λ z. IsTypedContent e p l z) (sym at.1) h)

pub typed_of_left : (e : Environment) (p : ProgramTree) (q f all : Part) → IsSum q f all → IsTypedPart e p all → IsTypedPart e p q
typed_of_left e p q f all s h l c x = h l c (in_left q f all s l c x)

pub typed_of_right : (e : Environment) (p : ProgramTree) (q f all : Part) → IsSum q f all → IsTypedPart e p all → IsTypedPart e p f
typed_of_right e p q f all s h l c x = h l c (in_right q f all s l c x)

pub nothing_typed : (e : Environment) (p : ProgramTree) → IsTypedPart e p nothing
unfolding nothing
nothing_typed e p l c positive = absurd (not_nought (nothing l c) refl positive)

-- what is positive beside one location is positive in what is beside it
pub known_beside : (l : Location) (c : Content) (x : Dyadic) (f all : Part) (k : Location) (d : Content) → k ≢ l → IsSum (single l c x) f all → {A : Type 0} → (IsPositive (f k d) → A) → IsPositive (all k d) → A
known_beside l c x f all k d other sums go h = elim (in_either (single l c x) f all sums k d h) [ inl y ↦ absurd (other (single_only l c x k d y).0) | inr y ↦ go y ]
