-- Calls of the prelude's functions for threads: what is given to a thread that is started, and taken from one that is joined.
use Rattle.std.proofs.Common.{◌≡◌, ◌≢◌, ℕ, zero, suc, ◌<◌, ◌+◌, ◌==◌, pos, Bool, true, false, cond, List, [], ◌∷◌, ◌++◌, length, slice_get, Option, Some, None, refl, sym, ap, ap₂, subst, ◌∙◌, inl, inr, arith}
use Rattle.std.specs.Prelude.{IsTrue, not, nat_lt}
use Rattle.std.specs.List.{position, position_or_len}
use Rattle.std.specs.FinMap as finite
use Rattle.std.proofs.lemmas.Bool.{false≢true, cases_Bool, cases_eq}
use Rattle.vf_base.specs.declared.place.Place.{Place}
use Rattle.vf_tree.specs.Core.{Identity, Void, ExpressionTree, Call, CallPointer, Signature, FunctionTree, ProgramTree}
use Rattle.vf_model.specs.Values.{Dyadic, Value, same_identity}
use Rattle.vf_model.specs.Values as values
use Rattle.vf_model.specs.Memory.{Memory, Struct, Mutex, Handle, block_at, granted_block, pointed_at, block_number}
use Rattle.vf_model.specs.State.{Frame, Thread, State, Turn, Aborted, entered, function_named, at_step, with_frames, over_memory, after_start, goes_on, ended}
use Rattle.vf_model.specs.State as state
use Rattle.vf_model.specs.Evaluation.{Gives, evaluate_all}
use Rattle.vf_model.specs.Acts.{Goes, Allocates, Waits}
use Rattle.vf_model.specs.Steps.{act_of}
use Rattle.vf_model.specs.PreludeFunctions.{ThreadStart, ThreadStartJoinable, ThreadJoin, prelude_named, run_signature, pointer_to_thread}
use Rattle.vf_model.specs.Calls.{argument, argument_of, has_ended, joins, run_of, numbered, with_signature, starts, starts_joinable}
use Rattle.vf_model.proofs.Equality.{identities_told}
use Rattle.vf_meaning.specs.Fractions.{whole, product, IsPositive}
use Rattle.vf_meaning.specs.Ghost.{Pointers, Anything, Numbered, Result, This, CurrentThread}
use Rattle.vf_meaning.specs.Valuations.{Valuation, in_row, count, value_at}
use Rattle.vf_meaning.specs.Assertions.{ContractTree, Environment}
use Rattle.vf_meaning.specs.Sorts.{HasSort, AreOfSorts}
use Rattle.vf_meaning.specs.Parts.{Location, FieldCell, IndexCell, StructBlock, IntBlock, MutexAt, HeldAt, HandleAt, HandleOf, block_of, Part, nothing, single, IsSum, HasJust}
use Rattle.vf_meaning.specs.Fits.{FitsAt, Fits}
use Rattle.vf_meaning.specs.FitLaws.{IsAllOf}
use Rattle.vf_meaning.specs.Chunks.{Just, start_of}
use Rattle.vf_meaning.specs.Satisfaction.{Satisfies, SatisfiesFamily, MeansAt, BeginsWith}
use Rattle.vf_meaning.specs.ShareOuts.{SatisfiesPost}
use Rattle.vf_meaning.specs.Kept.{Promise, CallsPointer, StartsThread, StartsWith, plain, joinable, Ensures}
use Rattle.vf_meaning.proofs.Parts.{sums_turn, nothing_is_neutral, in_left, in_right, single_here, singles_have_just_that}
use Rattle.vf_meaning.proofs.FitSteps.{handles_are_there, blocks_are_added, blocks_are_freed, block_here, block_elsewhere, removed_here, removed_elsewhere, single_nought}
use Rattle.vf_rules.specs.Types.{IsTypedPart}
use Rattle.vf_rules.specs.Threads.{thread_run, thread_run_joinable, thread_run_data, thread_run_pre, thread_run_post, run, run_joinable, start, start_joinable, join, HasSignature, IsRunType}
use Rattle.vf_safety.specs.Safe.{Duty, Duties, duties_same, event_of, IsShaped, IsHandle, Exchange, to_thread, to_joinable, from_thread, Starts, Settles, HasBegun, Promised, Went, Exchanged, Secure}
use Rattle.vf_safety.proofs.Steps.{StartsNone, InCall, in_call, not_started, Here, turn_of, same_place, apart, together, Unshared, HandsOver, known_beside, quietly, secure_by, went_exchanging, not_left, typed_sum, typed_single, typed_of_left, typed_of_right, set_own, set_other}
use Rattle.vf_safety.proofs.Prelude.{prelude_act, ended_went, result_then_step}
use Rattle.vf_safety.proofs.Calls.{claimed_function, own_signature}
use Rattle.vf_safety.proofs.Allocations.{granted_free, removed_shaped}
use Rattle.vf_safety.proofs.Mutexes.{Asks, Follows, without_result, positive_whole, full_is, none_taken, gives_out, goes_fault, goes_touch, waits_fault, waits_touch, allocates_fault, allocates_touch}

some_same : {A : Type 0} {x y : A} → Some x ≡ Some y → x ≡ y
some_same e = cc

none_some : {A B : Type 0} {x : A} → None ≡ Some x → B
none_some e = cc

-- ---- lists of threads
in_front : {A : Type 0} (xs : List A) (y : A) (i : ℕ) (x : A) → slice_get xs i ≡ Some x → slice_get (xs ++ y ∷ []) i ≡ Some x
in_front [] y i x h = none_some h
in_front (z ∷ xs) y zero x h = h
in_front (z ∷ xs) y (suc i) x h = in_front xs y i x h

at_end : {A : Type 0} (xs : List A) (y : A) → slice_get (xs ++ y ∷ []) (length xs) ≡ Some y
at_end [] y = refl
at_end (z ∷ xs) y = at_end xs y

before_end : {A : Type 0} (xs : List A) (y : A) (i : ℕ) → i ≢ length xs → slice_get (xs ++ y ∷ []) i ≡ slice_get xs i
before_end [] y zero other = absurd (other refl)
before_end [] y (suc i) other = refl
before_end (z ∷ xs) y zero other = refl
before_end (z ∷ xs) y (suc i) other = before_end xs y i (λ h. other (ap suc h))

not_end : {A : Type 0} (xs : List A) (i : ℕ) (x : A) → slice_get xs i ≡ Some x → length xs ≢ i
not_end [] i x h same = none_some h
not_end (z ∷ xs) zero x h same = cc
not_end (z ∷ xs) (suc i) x h same = not_end xs i x h (fewer same)
  where
    fewer : {a b : ℕ} → suc a ≡ suc b → a ≡ b
    fewer h = omega (arith, h)

-- ---- functions by their identity
-- the element at the first place that passes passes
passes_first : {A : Type 0} (t : A → Bool) (xs : List A) (x : A) → slice_get xs (position_or_len t xs) ≡ Some x → t x ≡ true
passes_first t [] x h = none_some h
passes_first t (y ∷ xs) x h = by_test (t y) refl (subst (λ z. slice_get (y ∷ xs) z ≡ Some x) (counted (t y)) h) (λ k. passes_first t xs x k)
  where
    one_suc : (n : ℕ) → 1 + n ≡ suc n
    one_suc n = omega arith

    counted : (b : Bool) → cond (not b) (1 + position_or_len t xs) 0 ≡ cond b 0 (suc (position_or_len t xs))
    counted true = refl
    counted false = one_suc (position_or_len t xs)

    by_test : (b : Bool) → t y ≡ b → slice_get (y ∷ xs) (cond b 0 (suc (position_or_len t xs))) ≡ Some x → (slice_get xs (position_or_len t xs) ≡ Some x → t x ≡ true) → t x ≡ true
    by_test true is h go = ap t (sym (some_same h)) ∙ is
    by_test false is h go = go h

placed : {A : Type 0} (t : A → Bool) (xs : List A) (n : ℕ) → position t xs ≡ Some n → position_or_len t xs ≡ n
placed t xs n h = by_test (nat_lt (position_or_len t xs) (length xs)) h
  where
    by_test : (b : Bool) → cond b (Some (position_or_len t xs)) None ≡ Some n → position_or_len t xs ≡ n
    by_test true h = some_same h
    by_test false h = none_some h

own_name : (p : ProgramTree) (g : Identity) (number : ℕ) (f : FunctionTree) → function_named p g ≡ Some number → slice_get p.functions number ≡ Some f → f.identity ≡ g
own_name p g number f named is =
    let t : FunctionTree → Bool = λ z. same_identity z.identity g in
    (identities_told f.identity g).0 (passes_first t p.functions f (ap (slice_get p.functions) (placed t p.functions number named) ∙ is))

-- the function in which a thread is started
run_found : (p : ProgramTree) (g : Identity) (h : HasSignature p g run_signature) → run_of p (values.Function g) ≡ Some (h.number, h.function)
run_found p g h = ap (numbered p run_signature) h.named ∙ ap (with_signature run_signature h.number) h.is ∙ ap (λ z. cond z (Some (h.number, h.function)) None) (own_signature run_signature (h.function).signature h.signature_is)

-- an argument of a call by its place
argument_is : (names : Valuation) (ws : List Value) (j : ℕ) → j < length ws → ((j : ℕ) (w : Value) → slice_get ws j ≡ Some w → names (Numbered j) ≡ w) → argument ws j ≡ names (Numbered j)
argument_is names ws j l begins = let x = there ws j l in ap argument_of x.1 ∙ sym (begins j x.0 x.1)
  where
    there : (ws : List Value) (j : ℕ) → j < length ws → (w : Value) × (slice_get ws j ≡ Some w)
    there [] j l = absurd (none j l)
      where
        none : (j : ℕ) → j < 0 → ⊥
        none j l = omega (arith, l)
    there (w ∷ ws) zero l = (w, refl)
    there (w ∷ ws) (suc j) l = there ws j (omega (arith, l))

-- ---- what a started thread's names are
-- the names of the contract of a thread's function, by those of the call that starts it
abbrev run_names : Valuation → Identity → ℕ → Valuation
run_names names g u (Numbered zero) = names (Numbered 1)
run_names names g u (Numbered (suc k)) = names (Numbered (suc (suc k)))
run_names names g u This = values.Function g
run_names names g u CurrentThread = values.Number (pos u)
run_names names g u Result = names Result

run_sorted : (e : Environment) (names : Valuation) (g : Identity) (u : ℕ) → AreOfSorts e names start.sorts → AreOfSorts e (run_names names g u) run.sorts
run_sorted e names g u h zero s is = subst (HasSort e (names (Numbered 1))) (some_same is) (h 1 Pointers refl)
run_sorted e names g u h (suc k) s is = none_some is

joinable_sorted : (e : Environment) (names : Valuation) (g : Identity) (u : ℕ) → AreOfSorts e names start_joinable.sorts → AreOfSorts e (run_names names g u) run_joinable.sorts
joinable_sorted e names g u h zero s is = subst (HasSort e (names (Numbered 1))) (some_same is) (h 1 Pointers refl)
joinable_sorted e names g u h (suc zero) s is = subst (HasSort e (names (Numbered 2))) (some_same is) (h 2 Anything refl)
joinable_sorted e names g u h (suc (suc k)) s is = none_some is

-- what a call that starts a thread passes to it
record AsksStart (e : Environment) (names : Valuation) (u : ℕ) (type : Identity) (contract : ContractTree) (off : Part) : Type 0 where
  function : Identity
  callee : names (Numbered 0) ≡ values.Function function
  claimed : IsTrue (e.claims function type)
  required : Satisfies e whole contract.requires_this (run_names names function u) off

start_asks : (e : Environment) (names : Valuation) (u : ℕ) (off : Part) → Satisfies e whole start.requires_this names off → AsksStart e names u thread_run run off
start_asks e names u off (n, (none, rest, sums, (empty, claims), (c, share, family))) =
    let (g, is, claimed) = claimed_function e thread_run (names (Numbered 0)) claims in
    record {
      function = g;
      callee = is;
      claimed = claimed;
      required = (
        n,
        (
          c,
          record { is = share.is; positive = share.positive },
          subst (SatisfiesFamily (MeansAt e n) (product whole c) thread_run_data (values.Function g) (Just (names (Numbered 1)) ∷ [])) (sym (none_taken none rest off empty sums))
              (subst (λ z. SatisfiesFamily (MeansAt e n) (product whole c) thread_run_data z (Just (names (Numbered 1)) ∷ []) rest) is family),
        ),
      );
    }

joinable_asks : (e : Environment) (names : Valuation) (u : ℕ) (off : Part) → Satisfies e whole start_joinable.requires_this names off → AsksStart e names u thread_run_joinable run_joinable off
joinable_asks e names u off (n, (none, rest, sums, (empty, claims), (c, share, family))) =
    let (g, is, claimed) = claimed_function e thread_run_joinable (names (Numbered 0)) claims in
    record {
      function = g;
      callee = is;
      claimed = claimed;
      required = (
        n,
        (
          c,
          record { is = share.is; positive = share.positive },
          subst (SatisfiesFamily (MeansAt e n) (product whole c) thread_run_pre (values.Function g) (Just (names (Numbered 1)) ∷ Just (names (Numbered 2)) ∷ [])) (sym (none_taken none rest off empty sums))
              (subst (λ z. SatisfiesFamily (MeansAt e n) (product whole c) thread_run_pre z (Just (names (Numbered 1)) ∷ Just (names (Numbered 2)) ∷ []) rest) is family),
        ),
      );
    }

-- of a handle all is owned
record OwnsHandle (names : Valuation) (off : Part) : Type 0 where
  block : ℕ
  begins : names (Numbered 0) ≡ start_of block
  owns : off ≡ single (HandleAt block) (HandleOf (names (Numbered 1)) (names (Numbered 2)) (names (Numbered 3))) whole

join_asks : (e : Environment) (names : Valuation) (off : Part) → Satisfies e whole join.requires_this names off → OwnsHandle names off
join_asks e names off (n, (c, share, m)) = record {
  block = m.block;
  begins = sym (m.meet).0;
  owns = m.owns ∙ ap (single (HandleAt m.block) (HandleOf m.run m.argument m.info)) (full_is share.is) ∙ ap (λ z. single (HandleAt m.block) (HandleOf z m.argument m.info) whole) ((m.meet).1).0
      ∙ ap₂ (λ y z. single (HandleAt m.block) (HandleOf (names (Numbered 1)) y z) whole) (((m.meet).1).1).0 ((((m.meet).1).1).1).0;
}

-- ---- what each contract ensures
start_ensures : (e : Environment) (names : Valuation) → AreOfSorts e names start.sorts → Ensures e start names None nothing
start_ensures e names of_sorts = record { later = names; fixed = λ y h. refl; sorts = of_sorts; satisfies = (0, refl) }

joinable_ensures : (e : Environment) (names : Valuation) (b : ℕ) (g : Identity) (q : Part) → AreOfSorts e names start_joinable.sorts → names (Numbered 0) ≡ values.Function g
    → q ≡ single (HandleAt b) (HandleOf (values.Function g) (names (Numbered 1)) (names (Numbered 2))) whole → Ensures e start_joinable names (Some (start_of b)) q
joinable_ensures e names b g q of_sorts callee owns = record {
  later = names;
  fixed = λ y h. refl;
  sorts = of_sorts;
  satisfies = (0, (whole, record { is = refl; positive = positive_whole }, record { block = b; run = values.Function g; argument = names (Numbered 1); info = names (Numbered 2); meet = (refl, (sym callee, (refl, (refl, tt)))); owns = owns }));
}

join_ensures : (e : Environment) (names : Valuation) (g : Identity) (q : Part) → AreOfSorts e names join.sorts → names (Numbered 1) ≡ values.Function g → SatisfiesPost e g (names (Numbered 2)) (names (Numbered 3)) q → Ensures e join names None q
join_ensures e names g q of_sorts callee (n, post) = record {
  later = names;
  fixed = λ y h. refl;
  sorts = of_sorts;
  satisfies = (n, (whole, record { is = refl; positive = positive_whole }, subst (λ z. SatisfiesFamily (MeansAt e n) whole thread_run_post z (Just (names (Numbered 2)) ∷ Just (names (Numbered 3)) ∷ []) q) (sym callee) post));
}

-- the one handle of a block
handle_alone : (b u : ℕ) (g : Identity) (argument info : Value) → IsAllOf b (Handle u g argument) (single (HandleAt b) (HandleOf (values.Function g) argument info) whole)
handle_alone b u g argument info = record { here = here; elsewhere = λ l other c. single_nought (HandleAt b) l (HandleOf (values.Function g) argument info) c whole (λ same. other (ap block_of same)) }
  where
    here : (l : Location) → block_of l ≡ b → FitsAt (single (HandleAt b) (HandleOf (values.Function g) argument info) whole) (Some (Handle u g argument)) l
    here (HandleAt c) same = (info, subst (λ z. HasJust (single (HandleAt b) (HandleOf (values.Function g) argument info) whole) (HandleAt z) (HandleOf (values.Function g) argument info) whole) (sym same) (singles_have_just_that (HandleAt b) (HandleOf (values.Function g) argument info) whole).0)
    here (HeldAt c) same = λ d. single_nought (HandleAt b) (HeldAt c) (HandleOf (values.Function g) argument info) d whole (λ h. cc)
    here (MutexAt c) same = λ d. single_nought (HandleAt b) (MutexAt c) (HandleOf (values.Function g) argument info) d whole (λ h. cc)
    here (FieldCell c k i) same = λ d. single_nought (HandleAt b) (FieldCell c k i) (HandleOf (values.Function g) argument info) d whole (λ h. cc)
    here (IndexCell c i) same = λ d. single_nought (HandleAt b) (IndexCell c i) (HandleOf (values.Function g) argument info) d whole (λ h. cc)
    here (StructBlock c k) same = λ d. single_nought (HandleAt b) (StructBlock c k) (HandleOf (values.Function g) argument info) d whole (λ h. cc)
    here (IntBlock c) same = λ d. single_nought (HandleAt b) (IntBlock c) (HandleOf (values.Function g) argument info) d whole (λ h. cc)

handle_shaped : (p : ProgramTree) (m : Memory) (b u : ℕ) (k : Identity) (argument : Value) → IsShaped p m → IsShaped p (finite.insert m b (Handle u k argument))
handle_shaped p m b u k argument h d g cells is =
    elim (cases_eq d b) [
      | inl e ↦ absurd (no_struct (sym (block_here m b (Handle u k argument)) ∙ ap (block_at (finite.insert m b (Handle u k argument))) (sym e) ∙ is))
      | inr other ↦ h d g cells (sym (block_elsewhere m b d (Handle u k argument) other) ∙ is)
    ]
  where
    no_struct : Some (Handle u k argument) ≡ Some (Struct g cells) → ⊥
    no_struct e = cc

joined_act : (turn : Turn) (p : Value) (place : Place) (next thread : ℕ) (g : Identity) (argument : Value) (ended : Bool) → has_ended (slice_get turn.state.threads thread) ≡ ended
    → joins turn p place next (Some (Handle thread g argument)) ≡ cond ended (Goes (goes_on (over_memory turn (finite.remove turn.state.memory (block_number p))) next)) Waits
joined_act turn p place next thread g argument ended is = ap (λ z. cond z (Goes (goes_on (over_memory turn (finite.remove turn.state.memory (block_number p))) next)) Waits) is

-- ---- which call starts a thread
call_same : {target target' : Option ℕ} {g g' : Identity} {operands operands' : List ExpressionTree} {place place' : Place} {next next' : ℕ} → Call target g operands place next ≡ Call target' g' operands' place' next' → (g ≡ g') × (operands ≡ operands')
call_same h = (cc, cc)

no_pointer : {target target' : Option ℕ} {g : Identity} {operands operands' : List ExpressionTree} {place place' : Place} {next next' : ℕ} {a : ExpressionTree} {signature : Signature} {A : Type 0}
    → Call target g operands place next ≡ CallPointer target' a signature operands' place' next' → A
no_pointer h = cc

gives_both : {us ws : List Value} → Gives us ≡ Gives ws → us ≡ ws
gives_both h = cc

not_joinable : Some ThreadStartJoinable ≡ Some ThreadStart → ⊥
not_joinable h = cc

not_plain : Some ThreadStart ≡ Some ThreadStartJoinable → ⊥
not_plain h = cc

plain_type : (starter type : Identity) → StartsWith starter type → prelude_named starter ≡ Some ThreadStart → type ≡ thread_run
plain_type _ _ plain h = refl
plain_type _ _ joinable h = absurd (not_joinable h)

joinable_type : (starter type : Identity) → StartsWith starter type → prelude_named starter ≡ Some ThreadStartJoinable → type ≡ thread_run_joinable
joinable_type _ _ plain h = absurd (not_plain h)
joinable_type _ _ joinable h = refl

module _ (e : Environment) (p : ProgramTree) (t : ℕ) (duties : Duties) (S : ℕ → Duties → Thread → Part → Type 0) where
  -- a thread that is started in a function which claims a type is safe with a part that satisfies the type's precondition
  abbrev pub ThreadsBegin : Type 0
  ThreadsBegin =
      (g type : Identity) (contract : ContractTree) → IsTrue (e.claims g type) → e.types type ≡ Some contract → (number : ℕ) (f : FunctionTree) → function_named p g ≡ Some number → slice_get p.functions number ≡ Some f → f.signature ≡ run_signature
      → (u : ℕ) (w : Value) (names : Valuation) (own : Part) → contract.parameters ≡ 1 → HasSort e w Pointers → names (Numbered 0) ≡ w → names CurrentThread ≡ values.Number (pos u) → names This ≡ values.Function g → AreOfSorts e names contract.sorts
      → Satisfies e whole contract.requires_this names own → IsTypedPart e p own
      → S u (record { contract = contract; names = names; rest = nothing; below = 0 } ∷ []) (entered number f (w ∷ []) None ∷ []) own

  -- a step that is a call by name calls through no pointer
  pub call_not_called : (s : State) (f : FunctionTree) (frame : Frame) (callers : Thread) (target : Option ℕ) (g : Identity) (operands : List ExpressionTree) (place : Place) (next : ℕ) → Here p s t f frame callers (Call target g operands place next)
      → {A : Type 0} → (grant : ℕ) (call : Promise) → CallsPointer e p s (event_of t grant) call → A
  call_not_called s f frame callers target g operands place next here grant call c = no_pointer (sym (same_place p s t f c.f frame c.frame callers c.callers (Call target g operands place next) _ here c.at).steps)

  -- the state in which a thread has been started
  abbrev started_state : State → Frame → Thread → Frame → Memory → Thread → State
  started_state s frame callers first m frames = with_frames (over_memory (after_start (turn_of s t frame callers) first) m) frames

  started_went : (x : Exchange) (s : State) (f : FunctionTree) (frame : Frame) (callers : Thread) (target : Option ℕ) (g : Identity) (operands : List ExpressionTree) (place : Place) (next : ℕ) (first : Frame) (m : Memory) (frames : Thread) (own rest before all : Part)
      → Here p s t f frame callers (Call target g operands place next) → InCall frames duties
      → HandsOver e x rest own all → Fits all m → IsTypedPart e p all → IsShaped p m → Unshared x s.memory m before all
      → Settles x s (started_state s frame callers first m frames) all → ((u : ℕ) → u ≡ length s.threads → Starts x s u)
      → (slice_get (started_state s frame callers first m frames).threads (length s.threads) ≡ Some (first ∷ []) → HasBegun S x s (started_state s frame callers first m frames)) → S t duties frames own
      → Went e p t S x duties s (started_state s frame callers first m frames) rest before
  started_went x s f frame callers target g operands place next first m frames own rest before all here within over fits typed shaped as_before settled starts begun safe = record {
    frames = frames;
    own = own;
    given = over.given;
    leaked = nothing;
    unleaked = λ none. refl;
    lost = over.given;
    handed = over.handed;
    parted = sums_turn nothing over.given over.given (nothing_is_neutral over.given);
    others = over.others;
    all = all;
    given_up = over.given_up;
    sums = over.sums;
    fits = fits;
    typed = typed;
    shaped = shaped;
    now = set_own (s.threads ++ (first ∷ []) ∷ []) t frames (frame ∷ callers) (in_front s.threads (first ∷ []) t (frame ∷ callers) here.frames);
    alone = λ u other old. set_other (s.threads ++ (first ∷ []) ∷ []) t u frames other ∙ before_end s.threads (first ∷ []) u (λ h. old (starts u h));
    begun = begun (set_other (s.threads ++ (first ∷ []) ∷ []) t (length s.threads) frames (not_end s.threads t (frame ∷ callers) here.frames) ∙ at_end s.threads (first ∷ []));
    unshared = as_before.unshared;
    unmoved = as_before.unmoved;
    known = as_before.known;
    settled = settled;
    owing = duties;
    within = within.within;
    owes = duties_same duties;
    going = λ h. safe;
    called = λ grant call h. call_not_called s f frame callers target g operands place next here grant call h;
    leaves = λ result r n h. not_left e p t duties S s f frame callers (Call target g operands place next) here tt result r;
    finished = λ none. absurd (within.some_frames none);
  }

  module _ (s : State) (f : FunctionTree) (frame : Frame) (callers : Thread) (target : Option ℕ) (g : Identity) (operands : List ExpressionTree) (place : Place) (next : ℕ) (ws : List Value) (names : Valuation) (off inner own rest all : Part) where
    -- the call that the machine sees starts the thread with what was passed
    start_promised : (type : Identity) (contract : ContractTree) (a : AsksStart e names (length s.threads) type contract off) → Here p s t f frame callers (Call target g operands place next) → evaluate_all frame.locals operands ≡ Gives ws
        → ((j : ℕ) (w : Value) → slice_get ws j ≡ Some w → names (Numbered j) ≡ w) → e.types type ≡ Some contract → contract.parameters ≡ 1 → AreOfSorts e (run_names names a.function (length s.threads)) contract.sorts
        → ((starter other : Identity) → StartsWith starter other → starter ≡ g → other ≡ type) → (grant : ℕ) (call : Promise) → StartsThread p s (event_of t grant) call
        → Promised e call [] (record { contract = contract; names = run_names names a.function (length s.threads); rest = nothing; below = 0 } ∷ []) off
    start_promised type contract a at value begins of_type one of_sorts typed grant call h =
        let same_at = same_place p s t f h.f frame h.frame callers h.callers (Call target g operands place next) _ at h.at in
        let parts = call_same (sym same_at.steps) in
        let values_are : ws ≡ call.callee ∷ h.argument ∷ [] = gives_both (sym value ∙ ap₂ (λ (z : Frame) x. evaluate_all z.locals x) (sym same_at.frames) parts.1 ∙ h.evaluated) in
        let type_is : call.type ≡ type = typed h.starter call.type h.type (sym parts.0) in
        let callee_is : names (Numbered 0) ≡ call.callee = begins 0 call.callee (ap (λ z. slice_get z 0) values_are) in
        let argument_at : names (Numbered 1) ≡ h.argument = begins 1 h.argument (ap (λ z. slice_get z 1) values_are) in
        record {
          duty = record { contract = contract; names = run_names names a.function (length s.threads); rest = nothing; below = 0 };
          pushed = refl;
          function = a.function;
          callee = sym callee_is ∙ a.callee;
          claimed = subst (λ z. IsTrue (e.claims a.function z)) (sym type_is) a.claimed;
          of_type = subst (λ z. e.types z ≡ Some contract) (sym type_is) of_type;
          valued = record {
            this_one = refl;
            current = ap (λ z. values.Number (pos z)) (sym h.thread);
            number = ap count h.arguments ∙ sym one;
            begins = subst (BeginsWith (run_names names a.function (length s.threads))) (sym h.arguments) (λ k l. first_begins h.argument (length s.threads) a.function k l argument_at);
            sorts = of_sorts;
          };
          passed = off;
          required = a.required;
          sums = sums_turn nothing off off (nothing_is_neutral off);
          below = sym h.below;
        }
      where
        first_begins : (argument : Value) (u : ℕ) (k0 : Identity) (k : ℕ) → k < 1 → names (Numbered 1) ≡ argument → run_names names k0 u (Numbered k) ≡ value_at (in_row (argument ∷ [])) k
        first_begins argument u k0 zero l is = is
        first_begins argument u k0 (suc k) l is = absurd (none k l)
          where
            none : (k : ℕ) → suc k < 1 → ⊥
            none k l = omega (arith, l)

    -- a thread is started that nobody joins
    pub start_secure : Here p s t f frame callers (Call target g operands place next) → evaluate_all frame.locals operands ≡ Gives ws → prelude_named g ≡ Some ThreadStart → IsRunType e p thread_run run → Asks e p t duties start s callers ws names off inner own rest all
        → ThreadsBegin → Follows e p t duties S start Void names inner target frame next callers → Secure e p t S duties s own rest all
    start_secure at value named type asks begin go =
        let u = length s.threads in
        let a = start_asks e names u off asks.required in
        let sig = type.claimants a.function a.claimed in
        let first = entered sig.number sig.function (names (Numbered 1) ∷ []) None in
        let turn = turn_of s t frame callers in
        let d : Duty = record { contract = run; names = run_names names a.function u; rest = nothing; below = 0 } in
        let (outer, beside, sums) = apart off inner own rest all asks.parted asks.sums in
        let (others, away, left) = apart inner rest outer off all beside (sums_turn off outer all sums) in
        let act = prelude_act p s t frame callers target g operands place next ThreadStart ws value named
        ∙ ap₂ (λ y z. starts turn y place next (run_of p z)) (argument_is names ws 1 (two_one (length ws) asks.long) asks.begins) (argument_is names ws 0 (two_zero (length ws) asks.long) asks.begins ∙ a.callee)
        ∙ ap (starts turn (names (Numbered 1)) place next) (run_found p a.function sig) in
        secure_by e p t duties S s f frame callers (Call target g operands place next) own rest all (Goes (goes_on (after_start turn first) next)) at act (λ kind place h. goes_fault h) (λ touch new c l h. goes_touch h)
        (λ grant going. record {
          exchange = to_thread (first ∷ []) d off;
          offered = record { contract = refl; rest = refl };
          started = λ grant0 call same h. start_promised thread_run run a at value asks.begins type.of_type refl (run_sorted e names a.function u asks.of_sorts) (λ starter other with_it is. plain_type starter other with_it (ap prelude_named is ∙ named)) grant0 call h;
          went = λ taken remaining is parted. subst (λ z. Went e p t S (to_thread (first ∷ []) d off) duties s (started_state s frame callers first s.memory (at_step frame next ∷ callers)) z all) (none_taken taken remaining rest is parted)
              (started_went (to_thread (first ∷ []) d off) s f frame callers target g operands place next first s.memory (at_step frame next ∷ callers) inner rest all all at (in_call asks.within)
              (record { given = off; others = others; handed = refl; given_up = away; sums = left })
              asks.fits asks.typed asks.shaped (record { unshared = λ b apart1 h. refl; unmoved = λ b apart1 h. refl; known = λ k c shared apart1 h. h }) tt (λ v h. h)
              (λ there. record {
                there = there;
                one = refl;
                first = refl;
                rest = refl;
                going = begin a.function thread_run run a.claimed type.of_type sig.number sig.function sig.named sig.is sig.signature_is u (names (Numbered 1)) (run_names names a.function u) off refl (asks.of_sorts 1 Pointers refl) refl refl refl
                    (run_sorted e names a.function u asks.of_sorts) a.required (typed_of_left e p off outer all sums asks.typed);
              })
              (subst (λ z. S t duties (z ∷ callers) inner) (without_result e p t duties S (at_step frame next) target) (go None nothing inner refl (start_ensures e names asks.of_sorts) (typed_of_left e p inner others all left asks.typed) (nothing_is_neutral inner))));
        })
      where
        two_one : (n : ℕ) → n ≡ 2 → 1 < n
        two_one n h = omega (arith, h)

        two_zero : (n : ℕ) → n ≡ 2 → 0 < n
        two_zero n h = omega (arith, h)

    -- the run aborts where there is no block for a handle
    aborted : Here p s t f frame callers (Call target g operands place next) → Asks e p t duties start_joinable s callers ws names off inner own rest all → Exchanged e p t S duties s (ended s Aborted) rest all
    aborted at asks =
        quietly e p t duties S s (ended s Aborted) rest all (λ grant call same h. no_more (length s.threads) (ap (λ (z : State). length z.threads) (sym same) ∙ h.started))
        (ended_went e p t duties S s (frame ∷ callers) own rest all Aborted asks.sums asks.fits asks.typed asks.shaped at.frames (in_call asks.within)
        (λ grant0 call c. call_not_called s f frame callers target g operands place next at grant0 call c)
        (λ result back. not_left e p t duties S s f frame callers (Call target g operands place next) at tt result back))
      where
        no_more : (n : ℕ) → n ≡ suc n → ⊥
        no_more n h = omega (arith, h)

    -- with a block for its handle the thread is started
    joinable_begun : (b : ℕ) → block_at s.memory b ≡ None → Here p s t f frame callers (Call target g operands place next) → evaluate_all frame.locals operands ≡ Gives ws → prelude_named g ≡ Some ThreadStartJoinable → (type : IsRunType e p thread_run_joinable run_joinable)
        → (asks : Asks e p t duties start_joinable s callers ws names off inner own rest all) → ThreadsBegin → Follows e p t duties S start_joinable pointer_to_thread names inner target frame next callers
        → Exchanged e p t S duties s (started_state s frame callers (entered (type.claimants (joinable_asks e names (length s.threads) off asks.required).function (joinable_asks e names (length s.threads) off asks.required).claimed).number (type.claimants (joinable_asks e names (length s.threads) off asks.required).function (joinable_asks e names (length s.threads) off asks.required).claimed).function (names (Numbered 1) ∷ []) None)
        (finite.insert s.memory b (Handle (length s.threads) (joinable_asks e names (length s.threads) off asks.required).function (names (Numbered 1)))) (at_step (state.with_result frame target (Some (start_of b))) next ∷ callers)) rest all
    joinable_begun b free at value named type asks begin go =
        let u = length s.threads in
        let a = joinable_asks e names u off asks.required in
        let k = a.function in
        let sig = type.claimants k a.claimed in
        let first = entered sig.number sig.function (names (Numbered 1) ∷ []) None in
        let d : Duty = record { contract = run_joinable; names = run_names names k u; rest = nothing; below = 0 } in
        let content = HandleOf (values.Function k) (names (Numbered 1)) (names (Numbered 2)) in
        let new = single (HandleAt b) content whole in
        let m = finite.insert s.memory b (Handle u k (names (Numbered 1))) in
        let frames = at_step (state.with_result frame target (Some (start_of b))) next ∷ callers in
        let (outer, beside, sums) = apart off inner own rest all asks.parted asks.sums in
        let now = blocks_are_added s.memory b (Handle u k (names (Numbered 1))) new all asks.fits free (handle_alone b u k (names (Numbered 1)) (names (Numbered 2))) in
        let x = gives_out new off inner rest outer all now.all sums beside now.sums in
        let typed_new = typed_single e p (HandleAt b) content whole (subst (λ z. HasSort e z Pointers) a.callee (asks.of_sorts 0 Pointers refl), asks.of_sorts 1 Pointers refl, asks.of_sorts 2 Anything refl) in
        let typed = typed_sum e p new all now.all now.sums typed_new asks.typed in
        record {
          exchange = to_joinable b (first ∷ []) d off;
          offered = free;
          started = λ grant0 call same h. start_promised thread_run_joinable run_joinable a at value asks.begins type.of_type refl (joinable_sorted e names k u asks.of_sorts) (λ starter other with_it is. joinable_type starter other with_it (ap prelude_named is ∙ named)) grant0 call h;
          went = λ taken remaining is parted. subst (λ z. Went e p t S (to_joinable b (first ∷ []) d off) duties s (started_state s frame callers first m frames) z all) (none_taken taken remaining rest is parted)
              (started_went (to_joinable b (first ∷ []) d off) s f frame callers target g operands place next first m frames x.own rest all now.all at (in_call asks.within)
              (record { given = off; others = x.others; handed = refl; given_up = x.away; sums = x.sums })
              now.fits typed (handle_shaped p s.memory b u k (names (Numbered 1)) asks.shaped)
              (record {
                unshared = λ c other shared. block_elsewhere s.memory b c (Handle u k (names (Numbered 1))) other;
                unmoved = λ c other shared. block_elsewhere s.memory b c (Handle u k (names (Numbered 1))) other;
                known = λ l c shared other h. known_beside (HandleAt b) content whole all now.all l c (λ same. other (ap block_of same)) now.sums (λ y. y) h;
              }) (
                k,
                names (Numbered 1),
                names (Numbered 2),
                block_here s.memory b (Handle u k (names (Numbered 1))),
                in_left new all now.all now.sums (HandleAt b) content (subst IsPositive (sym (single_here (HandleAt b) content whole)) positive_whole),
                record { contract = refl; rest = refl; this_one = refl; argument_is = refl; info_is = refl },
              )
              (λ v h. h)
              (λ there. record {
                there = there;
                one = refl;
                first = refl;
                rest = refl;
                going = begin k thread_run_joinable run_joinable a.claimed type.of_type sig.number sig.function sig.named sig.is sig.signature_is u (names (Numbered 1)) (run_names names k u) off refl (asks.of_sorts 1 Pointers refl) refl refl refl
                    (joinable_sorted e names k u asks.of_sorts) a.required (typed_of_left e p off outer all sums asks.typed);
              })
              (subst (λ z. S t duties (z ∷ callers) x.own) (result_then_step frame next target (start_of b))
              (go (Some (start_of b)) new x.own tt (joinable_ensures e names b k new asks.of_sorts a.callee refl) (typed_of_left e p x.own x.others now.all x.sums typed) x.within)));
        }

    -- a thread is started that is joined, or the run aborts
    pub start_joinable_secure : Here p s t f frame callers (Call target g operands place next) → evaluate_all frame.locals operands ≡ Gives ws → prelude_named g ≡ Some ThreadStartJoinable → IsRunType e p thread_run_joinable run_joinable
        → Asks e p t duties start_joinable s callers ws names off inner own rest all → ThreadsBegin → Follows e p t duties S start_joinable pointer_to_thread names inner target frame next callers → Secure e p t S duties s own rest all
    start_joinable_secure at value named type asks begin go =
        let u = length s.threads in
        let a = joinable_asks e names u off asks.required in
        let sig = type.claimants a.function a.claimed in
        let first = entered sig.number sig.function (names (Numbered 1) ∷ []) None in
        let turn = turn_of s t frame callers in
        let named_so = own_name p a.function sig.number sig.function sig.named sig.is in
        let granted : ℕ → State = λ b. started_state s frame callers first (finite.insert s.memory b (Handle u a.function (names (Numbered 1)))) (at_step (state.with_result frame target (Some (start_of b))) next ∷ callers) in
        let act = prelude_act p s t frame callers target g operands place next ThreadStartJoinable ws value named
        ∙ ap₂ (λ y z. starts_joinable turn target y place next (run_of p z)) (argument_is names ws 1 (two_one (length ws) asks.long) asks.begins) (argument_is names ws 0 (two_zero (length ws) asks.long) asks.begins ∙ a.callee)
        ∙ ap (starts_joinable turn target (names (Numbered 1)) place next) (run_found p a.function sig)
        ∙ ap (λ k. Allocates (ended s Aborted) (λ b. started_state s frame callers first (finite.insert s.memory b (Handle u k (names (Numbered 1)))) (at_step (state.with_result frame target (Some (start_of b))) next ∷ callers))) named_so in
        secure_by e p t duties S s f frame callers (Call target g operands place next) own rest all (Allocates (ended s Aborted) granted) at act (λ kind place h. allocates_fault h) (λ touch new c l h. allocates_touch h)
        (λ grant going. elim (cases_Bool (grant == 0)) [
          | inl none ↦ subst (λ z. Exchanged e p t S duties s (cond z (ended s Aborted) (granted (granted_block s.memory grant))) rest all) (sym none)
              (aborted at asks)
          | inr some1 ↦ subst (λ z. Exchanged e p t S duties s (cond z (ended s Aborted) (granted (granted_block s.memory grant))) rest all) (sym some1)
              (joinable_begun (granted_block s.memory grant) (granted_free s.memory grant) at value named type asks begin go)
        ])
      where
        two_one : (n : ℕ) → n ≡ 2 → 1 < n
        two_one n h = omega (arith, h)

        two_zero : (n : ℕ) → n ≡ 2 → 0 < n
        two_zero n h = omega (arith, h)

    -- a thread is joined that has ended, and waited for where it has not
    pub join_secure : Here p s t f frame callers (Call target g operands place next) → evaluate_all frame.locals operands ≡ Gives ws → prelude_named g ≡ Some ThreadJoin → Asks e p t duties join s callers ws names off inner own rest all
        → Follows e p t duties S join Void names inner target frame next callers → Secure e p t S duties s own rest all
    join_secure at value named asks go =
        let h = join_asks e names off asks.required in
        let b = h.block in
        let content = HandleOf (names (Numbered 1)) (names (Numbered 2)) (names (Numbered 3)) in
        let (outer, beside, sums) = apart off inner own rest all asks.parted asks.sums in
        let sums1 : IsSum (single (HandleAt b) content whole) outer all = subst (λ z. IsSum z outer all) h.owns sums in
        let positive : IsPositive (all (HandleAt b) content) = in_left (single (HandleAt b) content whole) outer all sums1 (HandleAt b) content (subst IsPositive (sym (single_here (HandleAt b) content whole)) positive_whole) in
        let (u, k, there, is) = handles_are_there all s.memory b (names (Numbered 1)) (names (Numbered 2)) (names (Numbered 3)) asks.fits positive in
        let act = prelude_act p s t frame callers target g operands place next ThreadJoin ws value named ∙ ap (λ w. joins (turn_of s t frame callers) w place next (pointed_at s.memory w)) (argument_is names ws 0 (some_argument (length ws) asks.long) asks.begins ∙ h.begins)
        ∙ ap (joins (turn_of s t frame callers) (start_of b) place next) there in
        by_end b outer beside u k there is (subst (λ z. IsSum (single (HandleAt b) (HandleOf z (names (Numbered 2)) (names (Numbered 3))) whole) outer all) is sums1) (subst (λ z. IsPositive (all (HandleAt b) (HandleOf z (names (Numbered 2)) (names (Numbered 3))))) is positive)
        (has_ended (slice_get s.threads u)) refl act at named asks go
      where
        some_argument : (n : ℕ) → n ≡ 1 → 0 < n
        some_argument n h = omega (arith, h)

        no_block : None ≡ Some (Mutex None) → ⊥
        no_block h = cc

        by_end : (b : ℕ) (outer : Part) → IsSum inner rest outer → (u : ℕ) (k : Identity) → block_at s.memory b ≡ Some (Handle u k (names (Numbered 2))) → names (Numbered 1) ≡ values.Function k
            → IsSum (single (HandleAt b) (HandleOf (values.Function k) (names (Numbered 2)) (names (Numbered 3))) whole) outer all → IsPositive (all (HandleAt b) (HandleOf (values.Function k) (names (Numbered 2)) (names (Numbered 3))))
            → (ended : Bool) → has_ended (slice_get s.threads u) ≡ ended → act_of p (turn_of s t frame callers) (Call target g operands place next) ≡ joins (turn_of s t frame callers) (start_of b) place next (Some (Handle u k (names (Numbered 2))))
            → Here p s t f frame callers (Call target g operands place next) → prelude_named g ≡ Some ThreadJoin → Asks e p t duties join s callers ws names off inner own rest all → Follows e p t duties S join Void names inner target frame next callers → Secure e p t S duties s own rest all
        by_end b outer beside u k there callee sums positive false ended act at named asks go =
            secure_by e p t duties S s f frame callers (Call target g operands place next) own rest all Waits at (act ∙ joined_act (turn_of s t frame callers) (start_of b) place next u k (names (Numbered 2)) false ended)
            (λ kind place h. waits_fault h) (λ touch new c l h. waits_touch h) (λ grant going. absurd (false≢true (sym going)))
        by_end b outer beside u k there callee sums positive true ended act at named asks go =
            let content = HandleOf (values.Function k) (names (Numbered 2)) (names (Numbered 3)) in
            let old = single (HandleAt b) content whole in
            let freed = blocks_are_freed s.memory b (Handle u k (names (Numbered 2))) old outer (record { all = all; sums = sums; fits = asks.fits }) there tt (handle_alone b u k (names (Numbered 2)) (names (Numbered 3))) in
            let typed = typed_of_right e p old outer all sums asks.typed in
            secure_by e p t duties S s f frame callers (Call target g operands place next) own rest all (Goes (goes_on (over_memory (turn_of s t frame callers) (finite.remove s.memory b)) next)) at
            (act ∙ joined_act (turn_of s t frame callers) (start_of b) place next u k (names (Numbered 2)) true ended)
            (λ kind place h. goes_fault h) (λ touch new c l h. goes_touch h)
            (λ grant going. record {
              exchange = from_thread b u k (names (Numbered 2)) (names (Numbered 3));
              offered = (there, ended, positive);
              started = λ grant0 call same h. not_started e p t duties S s f frame callers (Call target g operands place next) at (subst StartsNone (sym named) tt) grant0 call h;
              went = λ taken remaining is parted.
                  let (others, left, out) = apart taken remaining rest inner outer parted (sums_turn inner rest outer beside) in
                  let (mine, within, all_is) = together taken inner remaining others outer (sums_turn remaining inner others left) out in
                  went_exchanging e p t duties S (from_thread b u k (names (Numbered 2)) (names (Numbered 3))) s f frame callers (Call target g operands place next) (at_step frame next ∷ callers) (finite.remove s.memory b) mine remaining all outer at (subst StartsNone (sym named) tt) tt (in_call asks.within)
                  (record { given = nothing; others = remaining; handed = refl; given_up = sums_turn nothing remaining remaining (nothing_is_neutral remaining); sums = all_is })
                  freed typed (removed_shaped p s.memory b asks.shaped)
                  (record {
                    unshared = λ d other shared. removed_elsewhere s.memory b d other;
                    unmoved = λ d other shared. removed_elsewhere s.memory b d other;
                    known = λ l c shared other h. in_right old outer all sums l c h;
                  })
                  ((λ h. no_block (sym (removed_here s.memory b) ∙ h)), (λ h. subst IsHandle (removed_here s.memory b) h)) tt
                  (subst (λ z. S t duties (z ∷ callers) mine) (without_result e p t duties S (at_step frame next) target)
                  (go None taken mine refl (join_ensures e names k taken asks.of_sorts callee is) (typed_of_left e p mine remaining outer all_is typed) within));
            })
