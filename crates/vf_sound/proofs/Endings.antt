-- A step ends a run by a fault only where it has one.
use Rattle.std.proofs.Common.{◌≡◌, refl, sym, ap, subst, ℕ, zero, suc, ◌<◌, ◌≤◌, List, [], ◌∷◌, length, take, Bool, true, false, cond, ◌==◌, Option, Some, None, slice_get, arith}
use Rattle.std.specs.Prelude.{ℤ, pos, int_lt}
use Rattle.std.specs.Ordering.{int_eq}
use Rattle.vf_base.specs.declared.place.Place.{Place}
use Rattle.vf_tree.specs.Core.{Identity, Signature, ExpressionTree, StepTree, Set, Load, Store, Allocate, Free, Offset, LoadAt, StoreAt, AllocateInts, FreeInts, Call, CallPointer, If, Return, FunctionTree, ProgramTree}
use Rattle.vf_model.specs.declared.words.Event.{Event}
use Rattle.vf_model.specs.declared.words.FaultKind.{FaultKind}
use Rattle.vf_model.specs.declared.words.Outcome.TheVariants as outcomes
use Rattle.vf_model.specs.Values.{Value, number_of}
use Rattle.vf_model.specs.Values as values
use Rattle.vf_model.specs.Memory.{Block, Mutex, Handle, Cell, block_at, granted_block, pointed_at, content, field_cell, element_cell, is_struct_block, is_int_block, is_place_in}
use Rattle.vf_model.specs.State.{Frame, Thread, End, Returned, Aborted, Faulted, State, Turn, function_named}
use Rattle.vf_model.specs.Evaluation.{Evaluated, Gives, Fails}
use Rattle.vf_model.specs.Acts.{Act, Goes, Touches, Allocates, Waits, Faults, given}
use Rattle.vf_model.specs.Accesses.{loads, loads_content, stores, allocates_ints, frees, frees_block, offsets, offset_from, offset_within}
use Rattle.vf_model.specs.PreludeFunctions.{PreludeFunction, Abort, PutChar, PrintInt, ThreadStart, ThreadStartJoinable, ThreadJoin, CreateMutex, MutexAcquire, MutexRelease, MutexDispose, prelude_named}
use Rattle.vf_model.specs.Calls.{acquires, releases, disposes, joins, starts, starts_joinable, run_of, calls_prelude, calls_body, calls_number, calls_named, calls, calls_pointer, has_signature, returns_to, has_ended, argument}
use Rattle.vf_model.specs.Steps.{value, all_values, returns_value, act_of, act_at, act_in, act_by, next_act}
use Rattle.vf_model.specs.Runs.{after_unended, happens, reach, standing, some_can_step, outcome_by, outcome_of, Fault}
use Rattle.vf_meaning.specs.Kept.{before, IsSafe}
use Rattle.vf_sound.specs.Laws.{SafeRunsShowNoFault}
use Rattle.vf_sound.proofs.Runs.{events_follow}

-- a run has not ended by a fault
abbrev pub EndsWell : Option End → Type 0
EndsWell None = Unit {0}
EndsWell (Some (Returned z)) = Unit {0}
EndsWell (Some Aborted) = Unit {0}
EndsWell (Some (Faulted kind place)) = ⊥

-- an act leads only to states that have not ended by a fault
abbrev ActsWell : Act → Type 0
ActsWell (Goes new) = EndsWell new.end
ActsWell (Touches touch new) = EndsWell new.end
ActsWell (Allocates denied granted) = EndsWell denied.end × ((b : ℕ) → EndsWell (granted b).end)
ActsWell Waits = Unit {0}
ActsWell (Faults kind place) = Unit {0}

given_well : {A : Type 0} (x : Evaluated A) (act : A → Act) → ((v : A) → ActsWell (act v)) → ActsWell (given x act)
given_well (Gives v) act h = h v
given_well (Fails kind place) act h = tt

if_well : (b : Bool) (a c : Act) → ActsWell a → ActsWell c → ActsWell (cond b a c)
if_well true a c h k = h
if_well false a c h k = k

module _ (p : ProgramTree) (turn : Turn) (w : EndsWell turn.state.end) where
  content_loads_well : (x : ℕ) (c : Cell) (place : Place) (next : ℕ) (o : Option (Option Value)) → ActsWell (loads_content turn x c place next o)
  content_loads_well x c place next None = tt
  content_loads_well x c place next (Some None) = tt
  content_loads_well x c place next (Some (Some v)) = w

  loads_well : (x : ℕ) (place : Place) (next : ℕ) (o : Option Cell) → ActsWell (loads turn x place next o)
  loads_well x place next None = tt
  loads_well x place next (Some c) = content_loads_well x c place next (content turn.state.memory c)

  stores_well : (v : Value) (place : Place) (next : ℕ) (o : Option Cell) → ActsWell (stores turn v place next o)
  stores_well v place next None = tt
  stores_well v place next (Some c) = w

  block_frees_well : (v : Value) (place : Place) (next : ℕ) (b : Bool) → ActsWell (frees_block turn v place next b)
  block_frees_well v place next true = w
  block_frees_well v place next false = tt

  frees_well : (v : Value) (place : Place) (next : ℕ) (test : Option Block → Bool) → ActsWell (frees turn v place next test)
  frees_well values.Null place next test = w
  frees_well (values.Number z) place next test = block_frees_well (values.Number z) place next (test None)
  frees_well (values.Truth b) place next test = block_frees_well (values.Truth b) place next (test None)
  frees_well (values.Pointer b o) place next test = block_frees_well (values.Pointer b o) place next (test (pointed_at turn.state.memory (values.Pointer b o)))
  frees_well (values.Function g) place next test = block_frees_well (values.Function g) place next (test None)
  frees_well (values.Constructed c vs) place next test = block_frees_well (values.Constructed c vs) place next (test None)
  frees_well (values.Predicate q vs) place next test = block_frees_well (values.Predicate q vs) place next (test None)
  frees_well (values.Fraction d) place next test = block_frees_well (values.Fraction d) place next (test None)

  within_offsets_well : (x b : ℕ) (o : ℤ) (place : Place) (next : ℕ) (inside : Bool) → ActsWell (offset_within turn x b o place next inside)
  within_offsets_well x b o place next true = w
  within_offsets_well x b o place next false = tt

  from_offsets_well : (x : ℕ) (v : Value) (i : ℤ) (place : Place) (next : ℕ) → ActsWell (offset_from turn x v i place next)
  from_offsets_well x (values.Pointer b o) i place next = within_offsets_well x b _ place next (is_place_in _ (block_at turn.state.memory b))
  from_offsets_well x _ i place next = tt

  offsets_well : (x : ℕ) (v : Value) (i : ℤ) (place : Place) (next : ℕ) → ActsWell (offsets turn x v i place next)
  offsets_well x v i place next = if_well (int_eq i (pos 0)) _ _ w (from_offsets_well x v i place next)

  int_allocates_well : (x : ℕ) (n : ℤ) (place : Place) (next : ℕ) → ActsWell (allocates_ints turn x n place next)
  int_allocates_well x n place next = if_well (int_lt n (pos 0)) _ _ tt (w, λ b. w)

  -- ---- calls
  acquires_well : (v : Value) (place : Place) (next : ℕ) (o : Option Block) → ActsWell (acquires turn v place next o)
  acquires_well v place next (Some (Mutex None)) = w
  acquires_well v place next (Some (Mutex (Some t))) = tt
  acquires_well v place next _ = tt

  releases_well : (v : Value) (place : Place) (next : ℕ) (o : Option Block) → ActsWell (releases turn v place next o)
  releases_well v place next (Some (Mutex (Some t))) = if_well (t == turn.thread) _ _ w tt
  releases_well v place next _ = tt

  disposes_well : (v : Value) (place : Place) (next : ℕ) (o : Option Block) → ActsWell (disposes turn v place next o)
  disposes_well v place next (Some (Mutex None)) = w
  disposes_well v place next _ = tt

  joins_well : (v : Value) (place : Place) (next : ℕ) (o : Option Block) → ActsWell (joins turn v place next o)
  joins_well v place next (Some (Handle t run given)) = if_well (has_ended (slice_get turn.state.threads t)) _ _ w tt
  joins_well v place next _ = tt

  starts_well : (v : Value) (place : Place) (next : ℕ) (o : Option (ℕ × FunctionTree)) → ActsWell (starts turn v place next o)
  starts_well v place next None = tt
  starts_well v place next (Some run) = w

  joinable_starts_well : (target : Option ℕ) (v : Value) (place : Place) (next : ℕ) (o : Option (ℕ × FunctionTree)) → ActsWell (starts_joinable turn target v place next o)
  joinable_starts_well target v place next None = tt
  joinable_starts_well target v place next (Some run) = (tt, λ b. w)

  prelude_calls_well : (target : Option ℕ) (vs : List Value) (place : Place) (next : ℕ) (f : PreludeFunction) → ActsWell (calls_prelude p turn target vs place next f)
  prelude_calls_well target vs place next Abort = tt
  prelude_calls_well target vs place next PutChar = w
  prelude_calls_well target vs place next PrintInt = w
  prelude_calls_well target vs place next ThreadStart = starts_well (argument vs 1) place next (run_of p (argument vs 0))
  prelude_calls_well target vs place next ThreadStartJoinable = joinable_starts_well target (argument vs 1) place next (run_of p (argument vs 0))
  prelude_calls_well target vs place next ThreadJoin = joins_well (argument vs 0) place next (pointed_at turn.state.memory (argument vs 0))
  prelude_calls_well target vs place next CreateMutex = (tt, λ b. w)
  prelude_calls_well target vs place next MutexAcquire = acquires_well (argument vs 0) place next (pointed_at turn.state.memory (argument vs 0))
  prelude_calls_well target vs place next MutexRelease = releases_well (argument vs 0) place next (pointed_at turn.state.memory (argument vs 0))
  prelude_calls_well target vs place next MutexDispose = disposes_well (argument vs 0) place next (pointed_at turn.state.memory (argument vs 0))

  body_calls_well : (target : Option ℕ) (vs : List Value) (place : Place) (next number : ℕ) (o : Option FunctionTree) → ActsWell (calls_body turn target vs place next number o)
  body_calls_well target vs place next number None = tt
  body_calls_well target vs place next number (Some f) = w

  number_calls_well : (target : Option ℕ) (vs : List Value) (place : Place) (next : ℕ) (o : Option ℕ) → ActsWell (calls_number p turn target vs place next o)
  number_calls_well target vs place next None = tt
  number_calls_well target vs place next (Some number) = body_calls_well target vs place next number (slice_get p.functions number)

  named_calls_well : (target : Option ℕ) (g : Identity) (vs : List Value) (place : Place) (next : ℕ) (o : Option PreludeFunction) → ActsWell (calls_named p turn target g vs place next o)
  named_calls_well target g vs place next (Some f) = prelude_calls_well target vs place next f
  named_calls_well target g vs place next None = number_calls_well target vs place next (function_named p g)

  calls_well : (target : Option ℕ) (g : Identity) (vs : List Value) (place : Place) (next : ℕ) → ActsWell (calls p turn target g vs place next)
  calls_well target g vs place next = named_calls_well target g vs place next (prelude_named g)

  pointer_calls_well : (target : Option ℕ) (v : Value) (want : Signature) (vs : List Value) (place : Place) (next : ℕ) → ActsWell (calls_pointer p turn target v want vs place next)
  pointer_calls_well target (values.Function g) want vs place next = if_well (has_signature p g want (prelude_named g)) _ _ (calls_well target g vs place next) tt
  pointer_calls_well target _ want vs place next = tt

  -- ---- returns
  thread_ends_well : (v : Option Value) (b : Bool) (over : State) → EndsWell over.end → (z : ℤ) → EndsWell (cond b (record over { end = Some (Returned z) }) over).end
  thread_ends_well v true over h z = tt
  thread_ends_well v false over h z = h

  returns_well : (v : Option Value) (callers : List Frame) → EndsWell (returns_to turn v callers).end
  returns_well v [] = thread_ends_well v _ _ w _
  returns_well v (caller ∷ callers) = w

  value_returns_well : (o : Option ExpressionTree) → ActsWell (returns_value turn o)
  value_returns_well None = returns_well None turn.callers
  value_returns_well (Some e) = given_well (value turn e) _ (λ v. returns_well (Some v) turn.callers)

  step_acts_well : (step : StepTree) → ActsWell (act_of p turn step)
  step_acts_well (Set x e next) = given_well (value turn e) _ (λ v. w)
  step_acts_well (Load x e f place next) = given_well (value turn e) _ (λ v. loads_well x place next (field_cell turn.state.memory v f))
  step_acts_well (Store e f new place next) = given_well (value turn e) _ (λ v. given_well (value turn new) _ (λ u. stores_well u place next (field_cell turn.state.memory v f)))
  step_acts_well (Allocate x g next) = (w, λ b. w)
  step_acts_well (Free e g place next) = given_well (value turn e) _ (λ v. frees_well v place next (is_struct_block g))
  step_acts_well (Offset x e i place next) = given_well (value turn e) _ (λ v. given_well (value turn i) _ (λ n. offsets_well x v (number_of n) place next))
  step_acts_well (LoadAt x e i place next) = given_well (value turn e) _ (λ v. given_well (value turn i) _ (λ n. loads_well x place next (element_cell turn.state.memory v (number_of n))))
  step_acts_well (StoreAt e i new place next) =
      given_well (value turn e) _ (λ v. given_well (value turn i) _ (λ n. given_well (value turn new) _ (λ u. stores_well u place next (element_cell turn.state.memory v (number_of n)))))
  step_acts_well (AllocateInts x n place next) = given_well (value turn n) _ (λ v. int_allocates_well x (number_of v) place next)
  step_acts_well (FreeInts e place next) = given_well (value turn e) _ (λ v. frees_well v place next is_int_block)
  step_acts_well (Call target g es place next) = given_well (all_values turn es) _ (λ vs. calls_well target g vs place next)
  step_acts_well (CallPointer target e want es place next) = given_well (value turn e) _ (λ v. given_well (all_values turn es) _ (λ vs. pointer_calls_well target v want vs place next))
  step_acts_well (If comparison left right so_step else_step) = given_well (value turn left) _ (λ v. given_well (value turn right) _ (λ u. w))
  step_acts_well (Return e) = value_returns_well e

  found_acts_well : (closing : Place) (o : Option StepTree) → ActsWell (act_at p turn closing o)
  found_acts_well closing None = tt
  found_acts_well closing (Some step) = step_acts_well step

  function_acts_well : (o : Option FunctionTree) → ActsWell (act_in p turn o)
  function_acts_well None = tt
  function_acts_well (Some f) = found_acts_well f.closing (slice_get f.steps turn.frame.step)

thread_acts_well : (p : ProgramTree) (s : State) (t : ℕ) → EndsWell s.end → (o : Option Thread) → ActsWell (act_by p s t o)
thread_acts_well p s t w None = tt
thread_acts_well p s t w (Some []) = tt
thread_acts_well p s t w (Some (frame ∷ callers)) = function_acts_well p (record { state = s; thread = t; frame = frame; callers = callers }) w (slice_get p.functions frame.function)

either_well : (b : Bool) (r u : State) → EndsWell r.end → EndsWell u.end → EndsWell (cond b r u).end
either_well true r u h k = h
either_well false r u h k = k

-- what happens ends well where no thread has a fault
happens_well : (p : ProgramTree) (s : State) (t grant : ℕ) (a : Act) → EndsWell s.end → next_act p s t ≡ a → ((kind : FaultKind) (place : Place) → next_act p s t ≡ Faults kind place → ⊥) → ActsWell a → EndsWell (happens s grant a).end
happens_well p s t grant (Goes new) w is none h = h
happens_well p s t grant (Touches touch new) w is none h = h
happens_well p s t grant (Allocates denied granted) w is none h = either_well (grant == 0) denied (granted (granted_block s.memory grant)) h.0 (h.1 (granted_block s.memory grant))
happens_well p s t grant Waits w is none h = w
happens_well p s t grant (Faults kind place) w is none h = absurd (none kind place is)

after_well : (p : ProgramTree) (s : State) (event : Event) (end : Option End) → s.end ≡ end → EndsWell s.end → ((t : ℕ) (kind : FaultKind) (place : Place) → Fault p s t kind place → ⊥) → EndsWell (after_unended p s event end).end
after_well p s event (Some end) is w none = w
after_well p s event None is w none =
    happens_well p s event.thread event.grant (next_act p s event.thread) w refl
    (λ kind place faults. none event.thread kind place (record { going = is; faults = faults }))
    (thread_acts_well p s event.thread w (slice_get s.threads event.thread))

-- ---- runs
item_at : {A : Type 0} (xs : List A) (k : ℕ) → k < length xs → (x : A) × (slice_get xs k ≡ Some x)
item_at [] k low = absurd (omega arith)
item_at (x ∷ xs) zero low = (x, refl)
item_at (x ∷ xs) (suc k) low = item_at xs k (omega arith)

ends_well : (p : ProgramTree) (events : List Event) → IsSafe p events → (k : ℕ) → k ≤ length events → EndsWell (before p events k).end
ends_well p events safe zero low = tt
ends_well p events safe (suc k) low =
    let event = item_at events k (omega arith) in
    subst (λ (s : State). EndsWell s.end) (sym ((events_follow p events).1 k event.0 event.1))
    (after_well p (before p events k) event.0 (before p events k).end refl (ends_well p events safe k (omega arith)) (λ t kind place fault. safe.faultless k t kind place (omega arith) fault))

no_fault_stands : (b : Bool) (kind : FaultKind) (place : Place) → standing b ≡ outcomes.Fault kind place → ⊥
no_fault_stands true kind place e = cc
no_fault_stands false kind place e = cc

no_fault_comes : (p : ProgramTree) (s : State) (kind : FaultKind) (place : Place) (o : Option End) → EndsWell o → outcome_by p s o ≡ outcomes.Fault kind place → ⊥
no_fault_comes p s kind place None w e = no_fault_stands (some_can_step p s) kind place e
no_fault_comes p s kind place (Some (Returned z)) w e = cc
no_fault_comes p s kind place (Some Aborted) w e = cc
no_fault_comes p s kind place (Some (Faulted k q)) w e = w

all_taken : {A : Type 0} (xs : List A) → take (length xs) xs ≡ xs
all_taken [] = refl
all_taken (x ∷ xs) = ap (λ ys. x ∷ ys) (all_taken xs)

pub safe_runs_show_no_fault : SafeRunsShowNoFault
safe_runs_show_no_fault p events safe kind place =
    subst (λ es. outcome_of p (reach p es) ≡ outcomes.Fault kind place → ⊥) (all_taken events)
    (no_fault_comes p (before p events (length events)) kind place _ (ends_well p events safe (length events) (omega arith)))
