-- The program that calls through a pointer and starts a thread keeps what it owes.
use Rattle.std.proofs.Common.{◌≡◌, ℕ, zero, suc, ◌<◌, ◌≤◌, true, false, List, [], ◌∷◌, ◌++◌, length, map, Option, Some, None, slice_get, pos, inl, refl, sym, ap, subst, ◌∙◌, arith}
use Rattle.std.specs.Prelude.{codes, IsTrue}
use Rattle.std.specs.List.{range_with_len}
use Rattle.std.specs.Ordering.{nat_cmp}
use Rattle.std.specs.FinMap as finite
use Rattle.std.specs.Cmp.Lexicographic.{bytes_decides}
use Rattle.vf_base.specs.declared.place.Place.{Place}
use Rattle.vf_tree.specs.Core.{Identity, Signature, ExpressionTree, StepTree, Call, CallPointer, Return, FunctionTree, ProgramTree}
use Rattle.vf_model.specs.declared.words.Event.{Event}
use Rattle.vf_model.specs.Values.{Value}
use Rattle.vf_model.specs.Values as values
use Rattle.vf_model.specs.Memory.{Memory, Block, block_at}
use Rattle.vf_model.specs.State.{Frame, State}
use Rattle.vf_model.specs.Evaluation.{Evaluated, Gives, evaluate, evaluate_all}
use Rattle.vf_model.specs.Races.{next_touch}
use Rattle.vf_meaning.specs.Fractions.{whole}
use Rattle.vf_meaning.specs.Ghost.{Numbered, Result, This, CurrentThread, Sort}
use Rattle.vf_meaning.specs.Ghost as ghost
use Rattle.vf_meaning.specs.Valuations.{Valuation, no_value, in_row, count, value_at}
use Rattle.vf_meaning.specs.Assertions.{Pure, Environment}
use Rattle.vf_meaning.specs.Sorts.{HasSort, AreOfSorts}
use Rattle.vf_meaning.specs.Parts.{Part, nothing}
use Rattle.vf_meaning.specs.Fits.{Fits}
use Rattle.vf_meaning.specs.Satisfaction.{Satisfies}
use Rattle.vf_meaning.specs.ShareOuts.{ShareOut, SumsTo, IsShareOut}
use Rattle.vf_meaning.specs.Kept.{before, depth, with_result, IsAt, Promise, CallsPointer, StartsThread, StartsWith, IsKept, Kept}
use Rattle.vf_examples.specs.KeptCalls.{callback, thread_run, called_function, run_function, main_function, program, truth, claims, environment, events, CallsAreKept}
use Rattle.vf_meaning.proofs.Parts.{nothing_is_neutral, nothing_fits_empty}

none_some : {A B : Type 0} {x : A} → None ≡ Some x → B
none_some e = cc

some_same : {A : Type 0} {x y : A} → Some x ≡ Some y → x ≡ y
some_same e = cc

-- ---- nobody has anything
empty_out : ShareOut
empty_out = record { threads = λ t. nothing; mutexes = λ b. nothing; leaked = nothing }

nothings : (bs : List ℕ) → SumsTo (map (λ b. nothing) bs) nothing
nothings [] = refl
nothings (b ∷ bs) = (nothing, nothings bs, nothing_is_neutral nothing)

nothings_more : (ts bs : List ℕ) → SumsTo (map (λ t. nothing) ts ++ map (λ b. nothing) bs) nothing
nothings_more [] bs = nothings bs
nothings_more (t ∷ ts) bs = (nothing, nothings_more ts bs, nothing_is_neutral nothing)

no_block : {A : Type 0} (m : Memory) (b : ℕ) (block : Block) → m ≡ finite.empty → block_at m b ≡ Some block → A
no_block m b block e h = none_some (sym (finite.get-empty nat_cmp b) ∙ sym (ap (λ z. block_at z b) e) ∙ h)

none_shared : (e : Environment) (p : ProgramTree) (s : State) → s.memory ≡ finite.empty → ((t : ℕ) → next_touch p s t ≡ None) → IsShareOut e p s empty_out
unfolding empty_out
none_shared e p s empty untouched = record {
  all = nothing;
  sums = (nothing, nothings_more (range_with_len 0 (length s.threads)) (finite.keys s.memory), nothing_is_neutral nothing);
  fits = subst (λ m. Fits nothing m) (sym empty) nothing_fits_empty;
  joined = λ t other ended none. refl;
  held = λ b other. refl;
  free = λ b q is positive. no_block s.memory b _ empty is;
  left = λ b t run argument info is ended positive. no_block s.memory b _ empty is;
  access = λ t touch c l touches covers is. none_some (sym (untouched t) ∙ touches);
}

true_holds : (e : Environment) (v : Valuation) → Satisfies e whole (Pure (ghost.Truth true)) v nothing
true_holds e v = (0, (refl, refl))

-- ---- the states that the run comes to have no memory, and no step touches any
no_memory : (k : ℕ) → (before program events k).memory ≡ finite.empty
no_memory zero = refl
no_memory (suc zero) = refl
no_memory (suc (suc zero)) = refl
no_memory (suc (suc (suc zero))) = refl
no_memory (suc (suc (suc (suc zero)))) = refl
no_memory (suc (suc (suc (suc (suc zero))))) = refl
no_memory (suc (suc (suc (suc (suc (suc k)))))) = refl

untouched : (k t : ℕ) → next_touch program (before program events k) t ≡ None
untouched zero zero = refl
untouched zero (suc t) = refl
untouched (suc zero) zero = refl
untouched (suc zero) (suc t) = refl
untouched (suc (suc zero)) zero = refl
untouched (suc (suc zero)) (suc t) = refl
untouched (suc (suc (suc zero))) zero = refl
untouched (suc (suc (suc zero))) (suc zero) = refl
untouched (suc (suc (suc zero))) (suc (suc t)) = refl
untouched (suc (suc (suc (suc zero)))) zero = refl
untouched (suc (suc (suc (suc zero)))) (suc zero) = refl
untouched (suc (suc (suc (suc zero)))) (suc (suc t)) = refl
untouched (suc (suc (suc (suc (suc zero))))) t = refl
untouched (suc (suc (suc (suc (suc (suc k)))))) t = refl

-- ---- which step an event is
record Found (frame frame' : Frame) (callers callers' : List Frame) (f f' : FunctionTree) (step step' : StepTree) : Type 0 where
  frame_is : frame ≡ frame'
  callers_are : callers ≡ callers'
  function_is : f ≡ f'
  step_is : step ≡ step'

heads_same : {x y : Frame} {xs ys : List Frame} → Some (x ∷ xs) ≡ Some (y ∷ ys) → x ≡ y
heads_same e = cc

tails_same : {x y : Frame} {xs ys : List Frame} → Some (x ∷ xs) ≡ Some (y ∷ ys) → xs ≡ ys
tails_same e = cc

found : (p : ProgramTree) (s : State) (t : ℕ) (frame' : Frame) (callers' : List Frame) (f' : FunctionTree) (step' : StepTree)
    → slice_get s.threads t ≡ Some (frame' ∷ callers') → slice_get p.functions frame'.function ≡ Some f' → slice_get f'.steps frame'.step ≡ Some step'
    → (f : FunctionTree) (frame : Frame) (callers : List Frame) (step : StepTree) → IsAt p s t f frame callers step → Found frame frame' callers callers' f f' step step'
found p s t frame' callers' f' step' a b c f frame callers step h =
    let same_frame : frame ≡ frame' = heads_same (sym h.frames ∙ a) in
    let same_function : f ≡ f' = some_same (sym h.function ∙ ap (λ z. slice_get p.functions z.function) same_frame ∙ b) in
    record {
      frame_is = same_frame;
      callers_are = tails_same (sym h.frames ∙ a);
      function_is = same_function;
      step_is = some_same (sym h.found ∙ ap (λ z. slice_get f.steps z.step) same_frame ∙ ap (λ z. slice_get z.steps frame'.step) same_function ∙ c);
    }

-- the frames of main, of the called function and of the thread
main_at : ℕ → Frame
main_at k = record { function = 0; step = k; locals = []; target = None }

called_frame : Frame
called_frame = record { function = 1; step = 0; locals = []; target = None }

run_frame : Frame
run_frame = record { function = 2; step = 0; locals = Some values.Null ∷ []; target = None }

abbrev first_event : Event
first_event = record { thread = 0; grant = 1 }

abbrev second_event : Event
second_event = record { thread = 1; grant = 1 }

same_event : (event event' : Event) → Some event' ≡ Some event → event.thread ≡ event'.thread
same_event event event' e = ap (λ z. z.thread) (sym (some_same e))

-- ---- no other step is such a call
return_pointer : {target : Option ℕ} {pointer : ExpressionTree} {signature : Signature} {operands : List ExpressionTree} {place : Place} {next : ℕ} {e : Option ExpressionTree} {A : Type 0}
    → CallPointer target pointer signature operands place next ≡ Return e → A
return_pointer h = cc

return_call : {target : Option ℕ} {g : Identity} {operands : List ExpressionTree} {place : Place} {next : ℕ} {e : Option ExpressionTree} {A : Type 0} → Call target g operands place next ≡ Return e → A
return_call h = cc

call_pointer : {target target' : Option ℕ} {pointer : ExpressionTree} {signature : Signature} {g : Identity} {operands operands' : List ExpressionTree} {place place' : Place} {next next' : ℕ} {A : Type 0}
    → CallPointer target pointer signature operands place next ≡ Call target' g operands' place' next' → A
call_pointer h = cc

pointer_call : {target target' : Option ℕ} {pointer : ExpressionTree} {signature : Signature} {g : Identity} {operands operands' : List ExpressionTree} {place place' : Place} {next next' : ℕ} {A : Type 0}
    → Call target' g operands' place' next' ≡ CallPointer target pointer signature operands place next → A
pointer_call h = cc

-- ---- valuations of calls
for_call : Identity → Promise → Valuation
for_call g call This = values.Function g
for_call g call CurrentThread = values.Number (pos call.thread)
for_call g call (Numbered k) = value_at call.arguments k
for_call g call Result = no_value

-- a call of a function that claims the type keeps it, where its contract asks nothing and promises nothing
keeps : (k : ℕ) (call : Promise) (g : Identity) (sorts : List Sort) (parameters : ℕ) → call.callee ≡ values.Function g → IsTrue (claims g call.type)
    → environment.types call.type ≡ Some (truth sorts parameters None) → count call.arguments ≡ parameters → AreOfSorts environment (for_call g call) sorts
    → IsKept environment program events (λ k. empty_out) k call nothing
unfolding empty_out for_call
keeps k call g sorts parameters callee claimed of_type number of_sorts = record {
  function = g;
  callee = callee;
  claimed = claimed;
  contract = truth sorts parameters None;
  of_type = of_type;
  under = for_call g call;
  valued = record { this_one = refl; current = refl; number = number; begins = λ k l. refl; sorts = of_sorts };
  passed = nothing;
  required = true_holds environment (for_call g call);
  sums = nothing_is_neutral nothing;
  back = λ j result returns. (nothing, record { later = for_call g call; fixed = λ x h. refl; sorts = of_sorts; satisfies = true_holds environment (with_result (for_call g call) result) }, nothing_is_neutral nothing);
}

no_sorts : (v : Valuation) → AreOfSorts environment v []
no_sorts v k s known = none_some known

same_pointer : {target : Option ℕ} {pointer pointer' : ExpressionTree} {signature signature' : Signature} {operands operands' : List ExpressionTree} {place place' : Place} {next next' : ℕ} {target' : Option ℕ}
    → CallPointer target pointer signature operands place next ≡ CallPointer target' pointer' signature' operands' place' next' → (pointer ≡ pointer') × (operands ≡ operands')
same_pointer h = (cc, cc)

same_call : {target target' : Option ℕ} {g g' : Identity} {operands operands' : List ExpressionTree} {place place' : Place} {next next' : ℕ}
    → Call target g operands place next ≡ Call target' g' operands' place' next' → (g ≡ g') × (operands ≡ operands')
same_call h = (cc, cc)

gives_same : {A : Type 0} {x y : A} → Gives x ≡ Gives y → x ≡ y
gives_same e = cc

-- ---- the call through the pointer
evaluate_one : Frame → ExpressionTree → Evaluated Value
evaluate_one frame e = evaluate frame.locals e

call_kept : (event : Event) (call : Promise) → event.thread ≡ 0 → CallsPointer environment program (before program events 0) event call → IsKept environment program events (λ k. empty_out) 0 call nothing
unfolding main_at evaluate_one
call_kept event call own h =
    let is = found program (before program events 0) 0 (main_at 0) [] main_function _ refl refl refl h.f h.frame h.callers _
    (subst (λ t. IsAt program (before program events 0) t h.f h.frame h.callers (CallPointer h.target h.pointer h.signature h.operands h.place h.next)) own h.at) in
    let parts = same_pointer is.step_is in
    let callee : call.callee ≡ values.Function called_function.identity = gives_same (sym h.callee ∙ ap (λ z. evaluate_one h.frame z) parts.0) in
    let type : callback ≡ call.type = some_same h.type in
    let no_values : h.values ≡ [] = gives_same (sym h.evaluated ∙ ap (λ z. evaluate_all (h.frame).locals z) parts.1) in
    keeps 0 call called_function.identity [] 0 callee (subst (λ z. IsTrue (claims called_function.identity z)) type refl)
    (subst (λ z. environment.types z ≡ Some (truth [] 0 None)) type refl) (ap count (h.arguments ∙ ap in_row no_values)) (no_sorts (for_call called_function.identity call))

-- ---- the start of the thread
is_run : (starter type : Identity) → starter ≡ codes "<threading.h>#thread_start" → StartsWith starter type → thread_run ≡ type
is_run starter type e StartsWith.plain = refl
is_run starter type e StartsWith.joinable = absurd (clash ((bytes_decides (codes "<threading.h>#thread_start_joinable") (codes "<threading.h>#thread_start")).1 e))
  where
    clash : false ≡ true → ⊥
    clash e = cc

two_same : {v w v' w' : Value} → (v ∷ w ∷ []) ≡ (v' ∷ w' ∷ []) → (v ≡ v') × (w ≡ w')
two_same e = (cc, cc)

of_null : (call : Promise) → call.arguments ≡ in_row (values.Null ∷ []) → AreOfSorts environment (for_call run_function.identity call) (ghost.Pointers ∷ [])
unfolding for_call
of_null call e zero s known = subst (λ z. HasSort environment (value_at z 0) s) (sym e) (subst (λ z. HasSort environment values.Null z) (some_same known) (inl refl))
of_null call e (suc k) s known = none_some known

start_kept : (event : Event) (call : Promise) → event.thread ≡ 0 → StartsThread program (before program events 2) event call → IsKept environment program events (λ k. empty_out) 2 call nothing
unfolding main_at
start_kept event call own h =
    let is = found program (before program events 2) 0 (main_at 1) [] main_function _ refl refl refl h.f h.frame h.callers _
    (subst (λ t. IsAt program (before program events 2) t h.f h.frame h.callers (Call h.target h.starter h.operands h.place h.next)) own h.at) in
    let parts = same_call is.step_is in
    let type = is_run h.starter call.type parts.0 h.type in
    let values_are = two_same (gives_same (sym h.evaluated ∙ ap (λ z. evaluate_all (h.frame).locals z) parts.1)) in
    let arguments : call.arguments ≡ in_row (values.Null ∷ []) = h.arguments ∙ ap (λ z. in_row (z ∷ [])) values_are.1 in
    keeps 2 call run_function.identity (ghost.Pointers ∷ []) 1 values_are.0 (subst (λ z. IsTrue (claims run_function.identity z)) type refl)
    (subst (λ z. environment.types z ≡ Some (truth (ghost.Pointers ∷ []) 1 None)) type refl) (ap count arguments) (of_null call arguments)

-- ---- every event
beyond : {A : Type 0} (k : ℕ) (event : Event) → slice_get events (suc (suc (suc (suc (suc k))))) ≡ Some event → A
beyond k event e = none_some e

calls_kept : (k : ℕ) (event : Event) (call : Promise) → slice_get events k ≡ Some event → CallsPointer environment program (before program events k) event call
    → (rest : Part) × IsKept environment program events (λ k. empty_out) k call rest
unfolding main_at called_frame run_frame
calls_kept zero event call is h = (nothing, call_kept event call (same_event event first_event is) h)
calls_kept (suc zero) event call is h =
    return_pointer (found program (before program events 1) 0 called_frame (main_at 1 ∷ []) called_function _ refl refl refl h.f h.frame h.callers _
    (subst (λ t. IsAt program (before program events 1) t h.f h.frame h.callers (CallPointer h.target h.pointer h.signature h.operands h.place h.next)) (same_event event first_event is) h.at)).step_is
calls_kept (suc (suc zero)) event call is h =
    call_pointer (found program (before program events 2) 0 (main_at 1) [] main_function _ refl refl refl h.f h.frame h.callers _
    (subst (λ t. IsAt program (before program events 2) t h.f h.frame h.callers (CallPointer h.target h.pointer h.signature h.operands h.place h.next)) (same_event event first_event is) h.at)).step_is
calls_kept (suc (suc (suc zero))) event call is h =
    return_pointer (found program (before program events 3) 1 run_frame [] run_function _ refl refl refl h.f h.frame h.callers _
    (subst (λ t. IsAt program (before program events 3) t h.f h.frame h.callers (CallPointer h.target h.pointer h.signature h.operands h.place h.next)) (same_event event second_event is) h.at)).step_is
calls_kept (suc (suc (suc (suc zero)))) event call is h =
    return_pointer (found program (before program events 4) 0 (main_at 2) [] main_function _ refl refl refl h.f h.frame h.callers _
    (subst (λ t. IsAt program (before program events 4) t h.f h.frame h.callers (CallPointer h.target h.pointer h.signature h.operands h.place h.next)) (same_event event first_event is) h.at)).step_is
calls_kept (suc (suc (suc (suc (suc k))))) event call is h = beyond k event is

starts_kept : (k : ℕ) (event : Event) (call : Promise) → slice_get events k ≡ Some event → StartsThread program (before program events k) event call → IsKept environment program events (λ k. empty_out) k call nothing
unfolding main_at called_frame run_frame
starts_kept zero event call is h =
    pointer_call (found program (before program events 0) 0 (main_at 0) [] main_function _ refl refl refl h.f h.frame h.callers _
    (subst (λ t. IsAt program (before program events 0) t h.f h.frame h.callers (Call h.target h.starter h.operands h.place h.next)) (same_event event first_event is) h.at)).step_is
starts_kept (suc zero) event call is h =
    return_call (found program (before program events 1) 0 called_frame (main_at 1 ∷ []) called_function _ refl refl refl h.f h.frame h.callers _
    (subst (λ t. IsAt program (before program events 1) t h.f h.frame h.callers (Call h.target h.starter h.operands h.place h.next)) (same_event event first_event is) h.at)).step_is
starts_kept (suc (suc zero)) event call is h = start_kept event call (same_event event first_event is) h
starts_kept (suc (suc (suc zero))) event call is h =
    return_call (found program (before program events 3) 1 run_frame [] run_function _ refl refl refl h.f h.frame h.callers _
    (subst (λ t. IsAt program (before program events 3) t h.f h.frame h.callers (Call h.target h.starter h.operands h.place h.next)) (same_event event second_event is) h.at)).step_is
starts_kept (suc (suc (suc (suc zero)))) event call is h =
    return_call (found program (before program events 4) 0 (main_at 2) [] main_function _ refl refl refl h.f h.frame h.callers _
    (subst (λ t. IsAt program (before program events 4) t h.f h.frame h.callers (Call h.target h.starter h.operands h.place h.next)) (same_event event first_event is) h.at)).step_is
starts_kept (suc (suc (suc (suc (suc k))))) event call is h = beyond k event is

kept : Kept environment program events
unfolding empty_out
kept = record {
  outs = λ k. empty_out;
  share_outs = λ k within. none_shared environment program (before program events k) (no_memory k) (untouched k);
  main = main_function;
  is_main = refl;
  contract = truth [] 0 (Some ghost.Integers);
  of_main = refl;
  under = λ x. no_value;
  current = refl;
  sorts = no_sorts (λ x. no_value);
  begins_empty = refl;
  required = true_holds environment (λ x. no_value);
  unleaked = refl;
  changes = λ k event is. record { threads = λ u other known same. refl; mutexes = λ b same. refl };
  leaks = λ k event is. record { more = nothing; sums = nothing_is_neutral nothing; unleaked = λ none. refl };
  calls = calls_kept;
  starts = starts_kept;
  ensured = λ j event result is main returns last. record { later = λ x. no_value; fixed = λ x h. refl; sorts = no_sorts (λ x. no_value); satisfies = true_holds environment (with_result (λ x. no_value) result) };
}

-- ---- the call, its return, the start and the end of the thread
between : (P : ℕ → Type 0) (k : ℕ) → P (suc k) → (i : ℕ) → k < i → i ≤ suc k → P i
between P k h i l m = subst P (one k i l m) h
  where
    one : (k i : ℕ) → k < i → i ≤ suc k → suc k ≡ i
    one k i l m = omega (arith, l, m)

pub calls_are_kept : CallsAreKept
unfolding main_at called_frame run_frame
calls_are_kept = record {
  kept = kept;
  calls = record {
    f = main_function;
    frame = main_at 0;
    callers = [];
    target = None;
    pointer = _;
    signature = _;
    operands = [];
    place = _;
    next = 1;
    at = record { steps = refl; frames = refl; function = refl; found = refl };
    type = refl;
    callee = refl;
    values = [];
    evaluated = refl;
    arguments = refl;
    thread = refl;
    below = refl;
  };
  returns = record {
    later = omega arith;
    event = first_event;
    is = refl;
    thread = refl;
    returns = record { f = called_function; frame = called_frame; callers = main_at 1 ∷ []; expression = None; at = record { steps = refl; frames = refl; function = refl; found = refl }; returned = refl };
    last = refl;
    inside = between (λ i. 1 < depth (before program events i) 0) 0 (omega arith);
  };
  starts = record {
    f = main_function;
    frame = main_at 1;
    callers = [];
    target = None;
    starter = _;
    operands = _;
    place = _;
    next = 2;
    at = record { steps = refl; frames = refl; function = refl; found = refl };
    type = StartsWith.plain;
    argument = values.Null;
    evaluated = refl;
    arguments = refl;
    thread = refl;
    started = refl;
    below = refl;
  };
  ends = record {
    later = omega arith;
    event = second_event;
    is = refl;
    thread = refl;
    returns = record { f = run_function; frame = run_frame; callers = []; expression = None; at = record { steps = refl; frames = refl; function = refl; found = refl }; returned = refl };
    last = refl;
    inside = between (λ i. 0 < depth (before program events i) 1) 2 (omega arith);
  };
  outcome = refl;
}
