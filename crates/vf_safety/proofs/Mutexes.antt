-- Calls of the prelude's functions for mutexes: what is taken from a mutex and given to it.
use Rattle.std.proofs.Common.{◌≡◌, ◌≢◌, ℕ, zero, suc, ◌==◌, pos, cond, List, [], ◌∷◌, length, slice_get, Option, Some, None, refl, sym, ap, subst, ◌∙◌, inl, inr, arith}
use Rattle.std.specs.FinMap as finite
use Rattle.std.proofs.lemmas.Bool.{false≢true, cases_Bool, cases_eq, eq-eqb}
use Rattle.vf_base.specs.declared.place.Place.{Place}
use Rattle.vf_tree.specs.Core.{Identity, TypeTree, Void, ExpressionTree, Call, FunctionTree, ProgramTree}
use Rattle.vf_model.specs.declared.words.FaultKind.{FaultKind}
use Rattle.vf_model.specs.declared.words.FaultKind.TheVariants as faults
use Rattle.vf_model.specs.Values.{Dyadic, Value, Values}
use Rattle.vf_model.specs.Values as values
use Rattle.vf_model.specs.Memory.{Memory, Struct, Mutex, block_at, granted_block, pointed_at}
use Rattle.vf_model.specs.State.{Frame, Thread, State, Turn, Aborted, at_step, with_frames, over_memory, goes_on, ended}
use Rattle.vf_model.specs.State as state
use Rattle.vf_model.specs.Evaluation.{Gives, evaluate_all}
use Rattle.vf_model.specs.Acts.{Touch, Goes, Touches, Allocates, Waits, Faults}
use Rattle.vf_model.specs.Steps.{act_of}
use Rattle.vf_model.specs.PreludeFunctions.{CreateMutex, MutexAcquire, MutexRelease, MutexDispose, prelude_named, pointer_to_mutex}
use Rattle.vf_model.specs.Calls.{argument, acquires, releases, disposes}
use Rattle.vf_meaning.specs.Fractions.{whole, sum, product, IsPositive, AtMost}
use Rattle.vf_meaning.specs.Ghost.{Numbered, CurrentThread, Fractions}
use Rattle.vf_meaning.specs.Valuations.{Valuation, fraction_in}
use Rattle.vf_meaning.specs.Assertions.{Plain, ContractTree, Environment}
use Rattle.vf_meaning.specs.Sorts.{HasSort, AreOfSorts}
use Rattle.vf_meaning.specs.Parts.{Location, FieldCell, IndexCell, StructBlock, IntBlock, MutexAt, HeldAt, HandleAt, MutexOf, HeldOf, block_of, Part, nothing, single, ◌⊕◌, IsSum, HasJust}
use Rattle.vf_meaning.specs.Fits.{HoldsMutex, FitsMutex, FitsAt, Fits}
use Rattle.vf_meaning.specs.FitLaws.{IsAllOf}
use Rattle.vf_meaning.specs.Chunks.{product_if, start_of}
use Rattle.vf_meaning.specs.Satisfaction.{Satisfies, SatisfiesValue, SatisfiesIf, MeansAt}
use Rattle.vf_meaning.specs.ShareOuts.{SatisfiesInvariant}
use Rattle.vf_meaning.specs.Kept.{Ensures}
use Rattle.vf_meaning.proofs.Fractions.{whole_scales_nothing, sum_associates}
use Rattle.vf_meaning.proofs.Parts.{sums_turn, nothing_is_neutral, nothing-⊕, in_left, in_right, single_here, not_nought, positive_right, no_more, sum_at, singles_have_just_that, same_or_not}
use Rattle.vf_meaning.proofs.FitSteps.{mutexes_are_there, held_are_there, mutexes_are_acquired, mutexes_are_released, blocks_are_added, blocks_are_freed, block_here, block_elsewhere, removed_here, removed_elsewhere, single_nought}
use Rattle.vf_rules.specs.Types.{IsTypedPart}
use Rattle.vf_rules.specs.Mutexes.{create_mutex_ghost_arg_name, ghost_arg_body, invariants, creation, acquisition, release, disposal}
use Rattle.vf_safety.specs.Safe.{Duties, Within, IsSharedPlace, IsShaped, IsHandle, from_mutex, to_mutex, Went, Exchanged, Secure, IsResult}
use Rattle.vf_safety.proofs.Steps.{StartsNone, in_call, not_started, Here, turn_of, apart, together, known_beside, quietly, secure_by, went_exchanging, not_left, not_called, typed_sum, typed_single, typed_of_left, typed_of_right}
use Rattle.vf_safety.proofs.Prelude.{prelude_act, ended_went, result_then_step}
use Rattle.vf_safety.proofs.Allocations.{granted_free, removed_shaped}

some_same : {A : Type 0} {x y : A} → Some x ≡ Some y → x ≡ y
some_same e = cc

pub positive_whole : IsPositive whole
positive_whole = omega arith

-- ---- values and fractions
-- a value that has a fraction is that fraction
fraction_is : (w : Value) (x : Dyadic) → fraction_in w ≡ Some x → w ≡ values.Fraction x
fraction_is (values.Fraction d) x h = ap values.Fraction (some_same h)
fraction_is (values.Number z) x h = absurd (none_some h)
  where
    none_some : None ≡ Some x → ⊥
    none_some e = cc
fraction_is (values.Truth b) x h = absurd (none_some h)
  where
    none_some : None ≡ Some x → ⊥
    none_some e = cc
fraction_is values.Null x h = absurd (none_some h)
  where
    none_some : None ≡ Some x → ⊥
    none_some e = cc
fraction_is (values.Pointer b o) x h = absurd (none_some h)
  where
    none_some : None ≡ Some x → ⊥
    none_some e = cc
fraction_is (values.Function g) x h = absurd (none_some h)
  where
    none_some : None ≡ Some x → ⊥
    none_some e = cc
fraction_is (values.Constructed c vs) x h = absurd (none_some h)
  where
    none_some : None ≡ Some x → ⊥
    none_some e = cc
fraction_is (values.Predicate q vs) x h = absurd (none_some h)
  where
    none_some : None ≡ Some x → ⊥
    none_some e = cc

number_same : {a b : ℕ} → values.Number (pos a) ≡ values.Number (pos b) → a ≡ b
number_same h = cc

-- ---- what each contract asks, in a part
-- of a mutex a fraction is owned
record OwnsMutex (names : Valuation) (pointer invariant share : ℕ) (q : Part) : Type 0 where
  block : ℕ
  fraction : Dyadic
  begins : names (Numbered pointer) ≡ start_of block
  share_is : names (Numbered share) ≡ values.Fraction fraction
  positive : IsPositive fraction
  owns : q ≡ single (MutexAt block) (MutexOf (names (Numbered invariant))) fraction

acquisition_asks : (e : Environment) (names : Valuation) (off : Part) → Satisfies e whole acquisition.requires_this names off → OwnsMutex names 0 2 1 off
acquisition_asks e names off (n, (c, share, m)) = record {
  block = m.block;
  fraction = c;
  begins = sym (m.meet).0;
  share_is = fraction_is (names (Numbered 1)) c share.is;
  positive = share.positive;
  owns = m.owns ∙ ap (λ x. single (MutexAt m.block) (MutexOf m.invariant) x) (whole_scales_nothing c) ∙ ap (λ z. single (MutexAt m.block) (MutexOf z) c) ((m.meet).1).0;
}

-- all of a mutex is owned
record OwnsAllMutex (names : Valuation) (pointer invariant : ℕ) (q : Part) : Type 0 where
  block : ℕ
  begins : names (Numbered pointer) ≡ start_of block
  owns : q ≡ single (MutexAt block) (MutexOf (names (Numbered invariant))) whole

pub full_is : {c : Dyadic} → Some whole ≡ Some c → product whole c ≡ whole
full_is {c} h = ap (product whole) (sym (some_same h))

disposal_asks : (e : Environment) (names : Valuation) (off : Part) → Satisfies e whole disposal.requires_this names off → OwnsAllMutex names 0 1 off
disposal_asks e names off (n, (c, share, m)) = record {
  block = m.block;
  begins = sym (m.meet).0;
  owns = m.owns ∙ ap (λ x. single (MutexAt m.block) (MutexOf m.invariant) x) (full_is share.is) ∙ ap (λ z. single (MutexAt m.block) (MutexOf z) whole) ((m.meet).1).0;
}

-- that a mutex is held by a thread is owned, and a part that satisfies its predicate value
record OwnsHeld (e : Environment) (names : Valuation) (t : ℕ) (pointer invariant share : ℕ) (off : Part) : Type 0 where
  block : ℕ
  fraction : Dyadic
  held : Part
  inside : Part
  sums : IsSum held inside off
  begins : names (Numbered pointer) ≡ start_of block
  share_is : names (Numbered share) ≡ values.Fraction fraction
  owns : held ≡ single (HeldAt block) (HeldOf (names (Numbered invariant)) t fraction) whole
  satisfies : SatisfiesInvariant e (names (Numbered invariant)) inside

release_asks : (e : Environment) (names : Valuation) (t : ℕ) (off : Part) → names CurrentThread ≡ values.Number (pos t) → Satisfies e whole release.requires_this names off → OwnsHeld e names t 0 1 2 off
release_asks e names t off thread (n, (held, inside, sums, (c, share, m), (d, other, inv))) = record {
  block = m.block;
  fraction = m.given;
  held = held;
  inside = inside;
  sums = sums;
  begins = sym (m.meet).0;
  share_is = sym (((((m.meet).1).1).1).0);
  owns = m.owns ∙ ap (λ x. single (HeldAt m.block) (HeldOf m.invariant m.holder m.given) x) (full_is share.is) ∙ ap (λ z. single (HeldAt m.block) (HeldOf z m.holder m.given) whole) ((m.meet).1).0
      ∙ ap (λ z. single (HeldAt m.block) (HeldOf (names (Numbered 1)) z m.given) whole) (number_same ((((m.meet).1).1).0 ∙ thread));
  satisfies = (n, subst (λ x. SatisfiesValue (MeansAt e n) x (names (Numbered 1)) [] inside) (full_is other.is) inv);
}

-- what names the predicate value of a new mutex owns nothing
argument_is_nothing : (e : Environment) (n : ℕ) (x : Dyadic) (vs : Values) (q : Part) → e.bodies (Plain create_mutex_ghost_arg_name) ≡ Some ghost_arg_body → MeansAt e n x (Plain create_mutex_ghost_arg_name) vs q → q ≡ nothing
argument_is_nothing e zero x vs q body h = absurd h
argument_is_nothing e (suc n) x vs q body h = ((subst (λ b. SatisfiesIf e (MeansAt e n) x b vs q) body h).satisfies).0

-- what a creation asks for satisfies the predicate value
creation_asks : (e : Environment) (names : Valuation) (off : Part) → e.bodies (Plain create_mutex_ghost_arg_name) ≡ Some ghost_arg_body → Satisfies e whole creation.requires_this names off → SatisfiesInvariant e (names (Numbered 0)) off
creation_asks e names off body (n, (beside, inside, sums, (c, share, (vs, meet, named)), (d, other, inv))) =
    let none = argument_is_nothing e n (product whole c) vs beside body named in
    let all_is : off ≡ inside = sums.adds ∙ ap (λ z. z ⊕ inside) none ∙ nothing-⊕ inside in
    (n, subst (SatisfiesValue (MeansAt e n) whole (names (Numbered 0)) []) (sym all_is) (subst (λ x. SatisfiesValue (MeansAt e n) x (names (Numbered 0)) [] inside) (full_is other.is) inv))

-- ---- what each contract ensures of a part
acquisition_ensures : (e : Environment) (names : Valuation) (t b : ℕ) (x : Dyadic) (held taken q : Part) → AreOfSorts e names acquisition.sorts → names (Numbered 0) ≡ start_of b → names (Numbered 1) ≡ values.Fraction x → names CurrentThread ≡ values.Number (pos t)
    → held ≡ single (HeldAt b) (HeldOf (names (Numbered 2)) t x) whole → SatisfiesInvariant e (names (Numbered 2)) taken → IsSum held taken q → Ensures e acquisition names None q
acquisition_ensures e names t b x held taken q of_sorts begins share thread owns (n, inv) sums = record {
  later = names;
  fixed = λ y h. refl;
  sorts = of_sorts;
  satisfies = (
    n,
    (
      held,
      taken,
      sums,
      (whole, record { is = refl; positive = positive_whole }, record { block = b; invariant = names (Numbered 2); holder = t; given = x; meet = (sym begins, (refl, (sym thread, (sym share, tt)))); owns = owns }),
      (whole, record { is = refl; positive = positive_whole }, inv),
    ),
  );
}

release_ensures : (e : Environment) (names : Valuation) (b : ℕ) (x : Dyadic) (q : Part) → AreOfSorts e names release.sorts → names (Numbered 0) ≡ start_of b → names (Numbered 2) ≡ values.Fraction x → IsPositive x
    → q ≡ single (MutexAt b) (MutexOf (names (Numbered 1))) x → Ensures e release names None q
release_ensures e names b x q of_sorts begins share positive owns = record {
  later = names;
  fixed = λ y h. refl;
  sorts = of_sorts;
  satisfies = (
    0,
    (
      product whole x,
      record { is = ap (λ w. product_if (Some whole) (fraction_in w)) share; positive = subst IsPositive (sym (whole_scales_nothing x)) positive },
      record {
        block = b;
        invariant = names (Numbered 1);
        meet = (sym begins, (refl, tt));
        owns = owns ∙ ap (λ z. single (MutexAt b) (MutexOf (names (Numbered 1))) z) (sym (whole_scales_nothing (product whole x) ∙ whole_scales_nothing x));
      },
    ),
  );
}

creation_ensures : (e : Environment) (names : Valuation) (b : ℕ) (q : Part) → AreOfSorts e names creation.sorts → q ≡ single (MutexAt b) (MutexOf (names (Numbered 0))) whole → Ensures e creation names (Some (start_of b)) q
creation_ensures e names b q of_sorts owns = record {
  later = names;
  fixed = λ y h. refl;
  sorts = of_sorts;
  satisfies = (0, (whole, record { is = refl; positive = positive_whole }, record { block = b; invariant = names (Numbered 0); meet = (refl, (refl, tt)); owns = owns }));
}

disposal_ensures : (e : Environment) (names : Valuation) (taken : Part) → AreOfSorts e names disposal.sorts → SatisfiesInvariant e (names (Numbered 1)) taken → Ensures e disposal names None taken
disposal_ensures e names taken of_sorts (n, inv) = record {
  later = names;
  fixed = λ y h. refl;
  sorts = of_sorts;
  satisfies = (n, (whole, record { is = refl; positive = positive_whole }, inv));
}

-- ---- parts
-- what was taken out of the rest comes to what a thread has
pub record TakesIn (held taken inner remaining all : Part) : Type 0 where
  pub passed : Part
  pub own : Part
  pub both : IsSum held taken passed
  pub within : IsSum passed inner own
  pub sums : IsSum own remaining all

pub takes_in : (held taken inner rest remaining outer all : Part) → IsSum taken remaining rest → IsSum inner rest outer → IsSum held outer all → TakesIn held taken inner remaining all
takes_in held taken inner rest remaining outer all one two three =
    let (others, left, out) = apart taken remaining rest inner outer one (sums_turn inner rest outer two) in
    let (passed, both, further) = together held taken others outer all out three in
    let (own, within, sums) = together passed inner remaining others all (sums_turn remaining inner others left) further in
    record { passed = passed; own = own; both = both; within = within; sums = sums }

-- what was given goes to the rest
pub record GivesOut (new given inner rest all : Part) : Type 0 where
  pub others : Part
  pub own : Part
  pub away : IsSum rest given others
  pub within : IsSum new inner own
  pub sums : IsSum own others all

pub gives_out : (new given inner rest outer beside all : Part) → IsSum given outer beside → IsSum inner rest outer → IsSum new beside all → GivesOut new given inner rest all
gives_out new given inner rest outer beside all one two three =
    let (others, away, left) = apart inner rest outer given beside two (sums_turn given outer beside one) in
    let (own, within, sums) = together new inner others beside all left three in
    record { others = others; own = own; away = away; within = within; sums = sums }

-- the one mutex of a block
mutex_alone : (b : ℕ) (q : Value) → IsAllOf b (Mutex None) (single (MutexAt b) (MutexOf q) whole)
mutex_alone b q = record { here = here; elsewhere = λ l other c. single_nought (MutexAt b) l (MutexOf q) c whole (λ same. other (ap block_of same)) }
  where
    here : (l : Location) → block_of l ≡ b → FitsAt (single (MutexAt b) (MutexOf q) whole) (Some (Mutex None)) l
    here (MutexAt c) same = (q, subst (λ z. HasJust (single (MutexAt b) (MutexOf q) whole) (MutexAt z) (MutexOf q) whole) (sym same) (singles_have_just_that (MutexAt b) (MutexOf q) whole).0)
    here (HeldAt c) same = λ d. single_nought (MutexAt b) (HeldAt c) (MutexOf q) d whole (λ h. cc)
    here (HandleAt c) same = λ d. single_nought (MutexAt b) (HandleAt c) (MutexOf q) d whole (λ h. cc)
    here (FieldCell c g i) same = λ d. single_nought (MutexAt b) (FieldCell c g i) (MutexOf q) d whole (λ h. cc)
    here (IndexCell c i) same = λ d. single_nought (MutexAt b) (IndexCell c i) (MutexOf q) d whole (λ h. cc)
    here (StructBlock c g) same = λ d. single_nought (MutexAt b) (StructBlock c g) (MutexOf q) d whole (λ h. cc)
    here (IntBlock c) same = λ d. single_nought (MutexAt b) (IntBlock c) (MutexOf q) d whole (λ h. cc)

at_most_self : (x : Dyadic) → AtMost x x
at_most_self x = omega arith

-- of a mutex that is held not the whole is owned
none_held : (all outer : Part) (m : Memory) (b u : ℕ) (q : Value) → IsSum (single (MutexAt b) (MutexOf q) whole) outer all → HoldsMutex all b u → ⊥
none_held all outer m b u q sums h =
    let here : all (MutexAt b) (MutexOf q) ≡ sum whole (outer (MutexAt b) (MutexOf q)) = sum_at (single (MutexAt b) (MutexOf q) whole) outer all sums (MutexAt b) (MutexOf q) ∙ ap (λ x. sum x (outer (MutexAt b) (MutexOf q))) (single_here (MutexAt b) (MutexOf q) whole) in
    let positive = in_left (single (MutexAt b) (MutexOf q) whole) outer all sums (MutexAt b) (MutexOf q) (subst IsPositive (sym (single_here (MutexAt b) (MutexOf q) whole)) positive_whole) in
    elim (same_or_not (MutexOf q) (MutexOf h.invariant)) [
      | inl same ↦
          let left_is : h.left ≡ sum whole (outer (MutexAt b) (MutexOf q)) = sym (h.mutex).here ∙ ap (all (MutexAt b)) (sym same) ∙ here in
          let over : sum whole (sum (outer (MutexAt b) (MutexOf q)) h.given) ≡ whole = sym (sum_associates whole (outer (MutexAt b) (MutexOf q)) h.given) ∙ ap (λ x. sum x h.given) (sym left_is) ∙ h.parted in
          not_nought (sum (outer (MutexAt b) (MutexOf q)) h.given) (no_more (sum (outer (MutexAt b) (MutexOf q)) h.given) (subst (λ x. AtMost x whole) (sym over) (at_most_self whole))) (positive_right (outer (MutexAt b) (MutexOf q)) h.given h.positive)
      | inr other ↦ not_nought (all (MutexAt b) (MutexOf q)) ((h.mutex).else (MutexOf q) other) positive
    ]

-- a mutex of which the whole is owned is free
whole_free : (all outer : Part) (m : Memory) (b : ℕ) (q : Value) → IsSum (single (MutexAt b) (MutexOf q) whole) outer all → Fits all m → block_at m b ≡ Some (Mutex None)
whole_free all outer m b q sums fits =
    let there = mutexes_are_there all m b (MutexOf q) fits (in_left (single (MutexAt b) (MutexOf q) whole) outer all sums (MutexAt b) (MutexOf q) (subst IsPositive (sym (single_here (MutexAt b) (MutexOf q) whole)) positive_whole)) in
    free there.0 there.1
  where
    free : (holder : Option ℕ) → block_at m b ≡ Some (Mutex holder) → block_at m b ≡ Some (Mutex None)
    free None is = is
    free (Some u) is = absurd (none_held all outer m b u q sums (subst (λ z. FitsMutex all b z) is (fits (MutexAt b))))

-- ---- memories
other_held : (b : ℕ) (k : Location) → IsSharedPlace k → k ≢ HeldAt b
other_held b (MutexAt c) shared h = cc
other_held b (HandleAt c) shared h = cc
other_held b (FieldCell c g i) shared h = absurd shared
other_held b (IndexCell c i) shared h = absurd shared
other_held b (StructBlock c g) shared h = absurd shared
other_held b (IntBlock c) shared h = absurd shared
other_held b (HeldAt c) shared h = absurd shared

mutex_shaped : (p : ProgramTree) (m : Memory) (b : ℕ) (holder : Option ℕ) → IsShaped p m → IsShaped p (finite.insert m b (Mutex holder))
mutex_shaped p m b holder h d g cells is =
    elim (cases_eq d b) [
      | inl e ↦ absurd (no_struct (sym (block_here m b (Mutex holder)) ∙ ap (block_at (finite.insert m b (Mutex holder))) (sym e) ∙ is))
      | inr other ↦ h d g cells (sym (block_elsewhere m b d (Mutex holder) other) ∙ is)
    ]
  where
    no_struct : Some (Mutex holder) ≡ Some (Struct g cells) → ⊥
    no_struct e = cc

free_held : {t : ℕ} → Some (Mutex (Some t)) ≡ Some (Mutex None) → ⊥
free_held h = cc

none_free : None ≡ Some (Mutex None) → ⊥
none_free h = cc

-- nothing is taken from the rest
pub none_taken : (taken remaining rest : Part) → taken ≡ nothing → IsSum taken remaining rest → rest ≡ remaining
none_taken taken remaining rest is sums = sums.adds ∙ ap (λ z. z ⊕ remaining) is ∙ nothing-⊕ remaining

-- ---- acts
pub goes_fault : {new : State} {kind : FaultKind} {place : Place} → Goes new ≡ Faults kind place → ⊥
goes_fault h = cc

pub goes_touch : {new new' : State} {touch : Touch} {A : Type 0} → Goes new ≡ Touches touch new' → A
goes_touch h = cc

pub waits_fault : {kind : FaultKind} {place : Place} → Waits ≡ Faults kind place → ⊥
waits_fault h = cc

pub waits_touch : {new' : State} {touch : Touch} {A : Type 0} → Waits ≡ Touches touch new' → A
waits_touch h = cc

pub allocates_fault : {denied : State} {granted : ℕ → State} {kind : FaultKind} {place : Place} → Allocates denied granted ≡ Faults kind place → ⊥
allocates_fault h = cc

pub allocates_touch : {denied : State} {granted : ℕ → State} {touch : Touch} {new : State} {A : Type 0} → Allocates denied granted ≡ Touches touch new → A
allocates_touch h = cc

-- the first of some arguments
first_argument : (names : Valuation) (ws : List Value) → length ws ≡ 1 → ((j : ℕ) (w : Value) → slice_get ws j ≡ Some w → names (Numbered j) ≡ w) → argument ws 0 ≡ names (Numbered 0)
first_argument names [] long begins = absurd (none long)
  where
    none : zero ≡ suc zero → ⊥
    none h = cc
first_argument names (w ∷ ws) long begins = sym (begins 0 w refl)

-- what a call of a prelude function is made with
pub record Asks (e : Environment) (p : ProgramTree) (t : ℕ) (duties : Duties) (contract : ContractTree) (s : State) (callers : Thread) (ws : List Value) (names : Valuation) (off inner own rest all : Part) : Type 0 where
  pub long : length ws ≡ contract.parameters
  pub begins : (j : ℕ) (w : Value) → slice_get ws j ≡ Some w → names (Numbered j) ≡ w
  pub thread : names CurrentThread ≡ values.Number (pos t)
  pub of_sorts : AreOfSorts e names contract.sorts
  pub required : Satisfies e whole contract.requires_this names off
  pub parted : IsSum off inner own
  pub sums : IsSum own rest all
  pub fits : Fits all s.memory
  pub typed : IsTypedPart e p all
  pub shaped : IsShaped p s.memory
  pub within : Within (suc (length callers)) duties

module _ (e : Environment) (p : ProgramTree) (t : ℕ) (duties : Duties) (S : ℕ → Duties → Thread → Part → Type 0) where
  -- what is safe after a call of a prelude function
  abbrev pub Follows : ContractTree → TypeTree → Valuation → Part → Option ℕ → Frame → ℕ → Thread → Type 0
  Follows contract type names inner target frame next callers =
      (result : Option Value) (q own : Part) → IsResult e p t type result → Ensures e contract names result q → IsTypedPart e p own → IsSum q inner own → S t duties (state.with_result (at_step frame next) target result ∷ callers) own

  pub without_result : (frame : Frame) (target : Option ℕ) → state.with_result frame target None ≡ frame
  without_result frame None = refl
  without_result frame (Some x) = refl

  module _ (s : State) (f : FunctionTree) (frame : Frame) (callers : Thread) (target : Option ℕ) (g : Identity) (operands : List ExpressionTree) (place : Place) (next : ℕ) (ws : List Value) (names : Valuation) (off inner own rest all : Part) where
    -- a mutex is acquired where it is free, and waited for where it is held
    pub acquire_secure : Here p s t f frame callers (Call target g operands place next) → evaluate_all frame.locals operands ≡ Gives ws → prelude_named g ≡ Some MutexAcquire → Asks e p t duties acquisition s callers ws names off inner own rest all
        → Follows acquisition Void names inner target frame next callers → Secure e p t S duties s own rest all
    acquire_secure at value named asks go =
        let m = acquisition_asks e names off asks.required in
        let q = names (Numbered 2) in
        let b = m.block in
        let turn = turn_of s t frame callers in
        let (outer, beside, sums) = apart off inner own rest all asks.parted asks.sums in
        let sums1 : IsSum (single (MutexAt b) (MutexOf q) m.fraction) outer all = subst (λ z. IsSum z outer all) m.owns sums in
        let positive : IsPositive (all (MutexAt b) (MutexOf q)) = in_left (single (MutexAt b) (MutexOf q) m.fraction) outer all sums1 (MutexAt b) (MutexOf q) (subst IsPositive (sym (single_here (MutexAt b) (MutexOf q) m.fraction)) m.positive) in
        let there = mutexes_are_there all s.memory b (MutexOf q) asks.fits positive in
        let act = prelude_act p s t frame callers target g operands place next MutexAcquire ws value named ∙ ap (λ w. acquires turn w place next (pointed_at s.memory w)) (first_argument names ws asks.long asks.begins ∙ m.begins) in
        by_holder m outer beside sums1 positive there.0 there.1 (act ∙ ap (acquires turn (start_of b) place next) there.1) at named asks go
      where
        by_holder : (m : OwnsMutex names 0 2 1 off) (outer : Part) → IsSum inner rest outer → IsSum (single (MutexAt m.block) (MutexOf (names (Numbered 2))) m.fraction) outer all → IsPositive (all (MutexAt m.block) (MutexOf (names (Numbered 2)))) → (holder : Option ℕ)
            → block_at s.memory m.block ≡ Some (Mutex holder) → act_of p (turn_of s t frame callers) (Call target g operands place next) ≡ acquires (turn_of s t frame callers) (start_of m.block) place next (Some (Mutex holder)) → Here p s t f frame callers (Call target g operands place next)
            → prelude_named g ≡ Some MutexAcquire → Asks e p t duties acquisition s callers ws names off inner own rest all → Follows acquisition Void names inner target frame next callers → Secure e p t S duties s own rest all
        by_holder m outer beside sums positive (Some u) there act at named asks go =
            secure_by e p t duties S s f frame callers (Call target g operands place next) own rest all Waits at act (λ kind place h. waits_fault h) (λ touch new c l h. waits_touch h) (λ grant going. absurd (false≢true (sym going)))
        by_holder m outer beside sums positive None there act at named asks go =
            let q = names (Numbered 2) in
            let b = m.block in
            let held = single (HeldAt b) (HeldOf q t m.fraction) whole in
            let now = mutexes_are_acquired s.memory b t q m.fraction outer m.positive there (record { all = all; sums = sums; fits = asks.fits }) in
            let typed_held = typed_single e p (HeldAt b) (HeldOf q t m.fraction) whole (asks.of_sorts 2 invariants refl, m.positive) in
            let typed = typed_sum e p held outer now.all now.sums typed_held (typed_of_right e p (single (MutexAt b) (MutexOf q) m.fraction) outer all sums asks.typed) in
            secure_by e p t duties S s f frame callers (Call target g operands place next) own rest all (Goes (goes_on (over_memory (turn_of s t frame callers) (finite.insert s.memory b (Mutex (Some t)))) next)) at act
            (λ kind place h. goes_fault h) (λ touch new c l h. goes_touch h)
            (λ grant going. record {
              exchange = from_mutex b q;
              offered = (there, positive);
              started = λ grant0 call same h. not_started e p t duties S s f frame callers (Call target g operands place next) at (subst StartsNone (sym named) tt) grant0 call h;
              went = λ taken remaining is parted.
                  let x = takes_in held taken inner rest remaining outer now.all parted beside now.sums in
                  went_exchanging e p t duties S (from_mutex b q) s f frame callers (Call target g operands place next) (at_step frame next ∷ callers) (finite.insert s.memory b (Mutex (Some t))) x.own remaining all now.all at (subst StartsNone (sym named) tt) tt (in_call asks.within)
                  (record { given = nothing; others = remaining; handed = refl; given_up = sums_turn nothing remaining remaining (nothing_is_neutral remaining); sums = x.sums })
                  now.fits typed (mutex_shaped p s.memory b (Some t) asks.shaped)
                  (record {
                    unshared = λ d other shared. block_elsewhere s.memory b d (Mutex (Some t)) other;
                    unmoved = λ d other shared. block_elsewhere s.memory b d (Mutex (Some t)) other;
                    known = λ k c shared other h. known_beside (HeldAt b) (HeldOf q t m.fraction) whole outer now.all k c (other_held b k shared) now.sums (in_right (single (MutexAt b) (MutexOf q) m.fraction) outer all sums k c) h;
                  })
                  ((λ h. free_held (sym (block_here s.memory b (Mutex (Some t))) ∙ h)), (λ h. subst IsHandle (block_here s.memory b (Mutex (Some t))) h)) tt
                  (subst (λ z. S t duties (z ∷ callers) x.own) (without_result (at_step frame next) target)
                  (go None x.passed x.own refl (acquisition_ensures e names t b m.fraction held taken x.passed asks.of_sorts m.begins m.share_is asks.thread refl is x.both) (typed_of_left e p x.own remaining now.all x.sums typed) x.within));
            })

    -- a held mutex is released by the thread that holds it
    pub release_secure : Here p s t f frame callers (Call target g operands place next) → evaluate_all frame.locals operands ≡ Gives ws → prelude_named g ≡ Some MutexRelease → Asks e p t duties release s callers ws names off inner own rest all
        → Follows release Void names inner target frame next callers → Secure e p t S duties s own rest all
    release_secure at value named asks go =
        let m = release_asks e names t off asks.thread asks.required in
        let q = names (Numbered 1) in
        let b = m.block in
        let turn = turn_of s t frame callers in
        let held = single (HeldAt b) (HeldOf q t m.fraction) whole in
        let new = single (MutexAt b) (MutexOf q) m.fraction in
        let sorted : HasSort e (values.Fraction m.fraction) Fractions = subst (λ z. HasSort e z Fractions) m.share_is (asks.of_sorts 2 Fractions refl) in
        let positive : IsPositive m.fraction = sorted.1 in
        let (outer, beside, sums) = apart off inner own rest all asks.parted asks.sums in
        let (further, inside, apart_is) = apart m.held m.inside off outer all m.sums sums in
        let sums1 : IsSum held further all = subst (λ z. IsSum z further all) m.owns apart_is in
        let there = held_are_there all s.memory b t q m.fraction asks.fits (in_left held further all sums1 (HeldAt b) (HeldOf q t m.fraction) (subst IsPositive (sym (single_here (HeldAt b) (HeldOf q t m.fraction) whole)) positive_whole)) in
        let act = prelude_act p s t frame callers target g operands place next MutexRelease ws value named ∙ ap (λ w. releases turn w place next (pointed_at s.memory w)) (first_argument names ws asks.long asks.begins ∙ m.begins)
        ∙ ap (releases turn (start_of b) place next) there ∙ ap (λ z. cond z (Goes (goes_on (over_memory turn (finite.insert s.memory b (Mutex None))) next)) (Faults faults.Mutex place)) (eq-eqb t t refl) in
        let now = mutexes_are_released s.memory b t q m.fraction further (record { all = all; sums = sums1; fits = asks.fits }) in
        let x = gives_out new m.inside inner rest outer further now.all inside beside now.sums in
        let typed = typed_sum e p new further now.all now.sums (typed_single e p (MutexAt b) (MutexOf q) m.fraction (asks.of_sorts 1 invariants refl)) (typed_of_right e p held further all sums1 asks.typed) in
        secure_by e p t duties S s f frame callers (Call target g operands place next) own rest all (Goes (goes_on (over_memory turn (finite.insert s.memory b (Mutex None))) next)) at act
        (λ kind place h. goes_fault h) (λ touch new c l h. goes_touch h)
        (λ grant going. record {
          exchange = to_mutex b q;
          offered = ((λ h. free_held (sym there ∙ h)), (λ h. subst IsHandle there h));
          started = λ grant0 call same h. not_started e p t duties S s f frame callers (Call target g operands place next) at (subst StartsNone (sym named) tt) grant0 call h;
          went = λ taken remaining is parted. subst (λ z. Went e p t S (to_mutex b q) duties s (with_frames (over_memory turn (finite.insert s.memory b (Mutex None))) (at_step frame next ∷ callers)) z all) (none_taken taken remaining rest is parted)
              (went_exchanging e p t duties S (to_mutex b q) s f frame callers (Call target g operands place next) (at_step frame next ∷ callers) (finite.insert s.memory b (Mutex None)) x.own rest all now.all at (subst StartsNone (sym named) tt) tt (in_call asks.within)
              (record { given = m.inside; others = x.others; handed = m.satisfies; given_up = x.away; sums = x.sums })
              now.fits typed (mutex_shaped p s.memory b None asks.shaped)
              (record {
                unshared = λ d other shared. block_elsewhere s.memory b d (Mutex None) other;
                unmoved = λ d other shared. block_elsewhere s.memory b d (Mutex None) other;
                known = λ k c shared other h. known_beside (MutexAt b) (MutexOf q) m.fraction further now.all k c (λ same. other (ap block_of same)) now.sums (in_right held further all sums1 k c) h;
              })
              (block_here s.memory b (Mutex None), in_left new further now.all now.sums (MutexAt b) (MutexOf q) (subst IsPositive (sym (single_here (MutexAt b) (MutexOf q) m.fraction)) positive)) tt
              (subst (λ z. S t duties (z ∷ callers) x.own) (without_result (at_step frame next) target)
              (go None new x.own refl (release_ensures e names b m.fraction new asks.of_sorts m.begins m.share_is positive refl) (typed_of_left e p x.own x.others now.all x.sums typed) x.within)));
        })

    -- a mutex is created, or the run aborts
    pub create_secure : e.bodies (Plain create_mutex_ghost_arg_name) ≡ Some ghost_arg_body → Here p s t f frame callers (Call target g operands place next) → slice_get s.threads t ≡ Some (frame ∷ callers) → evaluate_all frame.locals operands ≡ Gives ws → prelude_named g ≡ Some CreateMutex → Asks e p t duties creation s callers ws names off inner own rest all
        → Follows creation pointer_to_mutex names inner target frame next callers → Secure e p t S duties s own rest all
    create_secure body at frames value named asks go =
        let turn = turn_of s t frame callers in
        let granted : ℕ → State = λ b. with_frames (over_memory turn (finite.insert s.memory b (Mutex None))) (at_step (state.with_result frame target (Some (start_of b))) next ∷ callers) in
        secure_by e p t duties S s f frame callers (Call target g operands place next) own rest all (Allocates (ended s Aborted) granted) at (prelude_act p s t frame callers target g operands place next CreateMutex ws value named)
        (λ kind place h. allocates_fault h) (λ touch new c l h. allocates_touch h)
        (λ grant going. elim (cases_Bool (grant == 0)) [
          | inl none ↦ subst (λ z. Exchanged e p t S duties s (cond z (ended s Aborted) (granted (granted_block s.memory grant))) rest all) (sym none)
              (quietly e p t duties S s (ended s Aborted) rest all (λ grant0 call same h. not_started e p t duties S s f frame callers (Call target g operands place next) at (subst StartsNone (sym named) tt) grant0 call h) (ended_went e p t duties S s (frame ∷ callers) own rest all Aborted asks.sums asks.fits asks.typed asks.shaped frames (in_call asks.within)
              (λ grant0 call c. not_called e p t duties S s f frame callers (Call target g operands place next) at (subst StartsNone (sym named) tt) grant0 call c)
              (λ result back. not_left e p t duties S s f frame callers (Call target g operands place next) at tt result back)))
          | inr some1 ↦ subst (λ z. Exchanged e p t S duties s (cond z (ended s Aborted) (granted (granted_block s.memory grant))) rest all) (sym some1)
              (created (granted_block s.memory grant) (granted_free s.memory grant) at named asks go)
        ])
      where
        created : (b : ℕ) → block_at s.memory b ≡ None → Here p s t f frame callers (Call target g operands place next) → prelude_named g ≡ Some CreateMutex → Asks e p t duties creation s callers ws names off inner own rest all → Follows creation pointer_to_mutex names inner target frame next callers
            → Exchanged e p t S duties s (with_frames (over_memory (turn_of s t frame callers) (finite.insert s.memory b (Mutex None))) (at_step (state.with_result frame target (Some (start_of b))) next ∷ callers)) rest all
        created b free at named asks go =
            let q = names (Numbered 0) in
            let new = single (MutexAt b) (MutexOf q) whole in
            let (outer, beside, sums) = apart off inner own rest all asks.parted asks.sums in
            let now = blocks_are_added s.memory b (Mutex None) new all asks.fits free (mutex_alone b q) in
            let x = gives_out new off inner rest outer all now.all sums beside now.sums in
            let typed = typed_sum e p new all now.all now.sums (typed_single e p (MutexAt b) (MutexOf q) whole (asks.of_sorts 0 invariants refl)) asks.typed in
            record {
              exchange = to_mutex b q;
              offered = ((λ h. none_free (sym free ∙ h)), (λ h. subst IsHandle free h));
              started = λ grant0 call same h. not_started e p t duties S s f frame callers (Call target g operands place next) at (subst StartsNone (sym named) tt) grant0 call h;
              went = λ taken remaining is parted. subst (λ z. Went e p t S (to_mutex b q) duties s (with_frames (over_memory (turn_of s t frame callers) (finite.insert s.memory b (Mutex None))) (at_step (state.with_result frame target (Some (start_of b))) next ∷ callers)) z all) (none_taken taken remaining rest is parted)
                  (went_exchanging e p t duties S (to_mutex b q) s f frame callers (Call target g operands place next) (at_step (state.with_result frame target (Some (start_of b))) next ∷ callers) (finite.insert s.memory b (Mutex None)) x.own rest all now.all at (subst StartsNone (sym named) tt) tt (in_call asks.within)
                  (record { given = off; others = x.others; handed = creation_asks e names off body asks.required; given_up = x.away; sums = x.sums })
                  now.fits typed (mutex_shaped p s.memory b None asks.shaped)
                  (record {
                    unshared = λ d other shared. block_elsewhere s.memory b d (Mutex None) other;
                    unmoved = λ d other shared. block_elsewhere s.memory b d (Mutex None) other;
                    known = λ k c shared other h. known_beside (MutexAt b) (MutexOf q) whole all now.all k c (λ same. other (ap block_of same)) now.sums (λ y. y) h;
                  })
                  (block_here s.memory b (Mutex None), in_left new all now.all now.sums (MutexAt b) (MutexOf q) (subst IsPositive (sym (single_here (MutexAt b) (MutexOf q) whole)) positive_whole)) tt
                  (subst (λ z. S t duties (z ∷ callers) x.own) (result_then_step frame next target (start_of b))
                  (go (Some (start_of b)) new x.own tt (creation_ensures e names b new asks.of_sorts refl) (typed_of_left e p x.own x.others now.all x.sums typed) x.within)));
            }

    -- a mutex of which all is owned is disposed
    pub dispose_secure : Here p s t f frame callers (Call target g operands place next) → evaluate_all frame.locals operands ≡ Gives ws → prelude_named g ≡ Some MutexDispose → Asks e p t duties disposal s callers ws names off inner own rest all
        → Follows disposal Void names inner target frame next callers → Secure e p t S duties s own rest all
    dispose_secure at value named asks go =
        let m = disposal_asks e names off asks.required in
        let q = names (Numbered 1) in
        let b = m.block in
        let turn = turn_of s t frame callers in
        let old = single (MutexAt b) (MutexOf q) whole in
        let (outer, beside, sums) = apart off inner own rest all asks.parted asks.sums in
        let sums1 : IsSum old outer all = subst (λ z. IsSum z outer all) m.owns sums in
        let there = whole_free all outer s.memory b q sums1 asks.fits in
        let positive : IsPositive (all (MutexAt b) (MutexOf q)) = in_left old outer all sums1 (MutexAt b) (MutexOf q) (subst IsPositive (sym (single_here (MutexAt b) (MutexOf q) whole)) positive_whole) in
        let act = prelude_act p s t frame callers target g operands place next MutexDispose ws value named ∙ ap (λ w. disposes turn w place next (pointed_at s.memory w)) (first_argument names ws asks.long asks.begins ∙ m.begins)
        ∙ ap (disposes turn (start_of b) place next) there in
        let freed = blocks_are_freed s.memory b (Mutex None) old outer (record { all = all; sums = sums1; fits = asks.fits }) there tt (mutex_alone b q) in
        let typed = typed_of_right e p old outer all sums1 asks.typed in
        secure_by e p t duties S s f frame callers (Call target g operands place next) own rest all (Goes (goes_on (over_memory turn (finite.remove s.memory b)) next)) at act
        (λ kind place h. goes_fault h) (λ touch new c l h. goes_touch h)
        (λ grant going. record {
          exchange = from_mutex b q;
          offered = (there, positive);
          started = λ grant0 call same h. not_started e p t duties S s f frame callers (Call target g operands place next) at (subst StartsNone (sym named) tt) grant0 call h;
          went = λ taken remaining is parted.
              let (others, left, out) = apart taken remaining rest inner outer parted (sums_turn inner rest outer beside) in
              let (mine, within, all_is) = together taken inner remaining others outer (sums_turn remaining inner others left) out in
              went_exchanging e p t duties S (from_mutex b q) s f frame callers (Call target g operands place next) (at_step frame next ∷ callers) (finite.remove s.memory b) mine remaining all outer at (subst StartsNone (sym named) tt) tt (in_call asks.within)
              (record { given = nothing; others = remaining; handed = refl; given_up = sums_turn nothing remaining remaining (nothing_is_neutral remaining); sums = all_is })
              freed typed (removed_shaped p s.memory b asks.shaped)
              (record {
                unshared = λ d other shared. removed_elsewhere s.memory b d other;
                unmoved = λ d other shared. removed_elsewhere s.memory b d other;
                known = λ k c shared other h. in_right old outer all sums1 k c h;
              })
              ((λ h. none_free (sym (removed_here s.memory b) ∙ h)), (λ h. subst IsHandle (removed_here s.memory b) h)) tt
              (subst (λ z. S t duties (z ∷ callers) mine) (without_result (at_step frame next) target)
              (go None taken mine refl (disposal_ensures e names taken asks.of_sorts is) (typed_of_left e p mine remaining outer all_is typed) within));
        })
