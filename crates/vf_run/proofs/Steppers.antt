-- Who can step.
use Rattle.std.proofs.Common.{◌≡◌, ℕ, Bool, true, false, not, ◌&&◌, List, Option, Some, None, IsSome, is_none, Result, Ok, Err, slice_get, refl, sym, ap, subst, ◌∙◌, ⊎_elim}
use Rattle.std.proofs.lemmas.Bool.{true≢false, false≢true, and_from, not_from_false}
use Rattle.std.specs.Option.{option_map}
use Rattle.std.proofs.lemmas.Option.{slice_get-map}
use Rattle.vf_tree.specs.Core.{Identity, FunctionTree, ProgramTree}
use Rattle.vf_model.specs.declared.words.Event.{Event}
use Rattle.vf_model.specs.Values as values
use Rattle.vf_model.specs.State as model
use Rattle.vf_model.specs.State.{State, Turn}
use Rattle.vf_model.specs.Acts.{Waits}
use Rattle.vf_model.specs.Steps.{next_act, act_by, act_in}
use Rattle.vf_model.specs.Runs.{after, after_unended, happens, is_wait, can_step}
use Rattle.vf_engine.specs.States.{state_of, turn_of, callers_of, frames_with, thread_of, end_of}
use Rattle.vf_engine.specs.Effects.{act_of_effect, act_of_result, enters_found, starts_found, joinable_found}
use Rattle.vf_engine.specs.declared.state.Frame.{Frame}
use Rattle.vf_engine.specs.declared.state.Thread.{Thread}
use Rattle.vf_engine.specs.declared.state.Running.{Running}
use Rattle.vf_engine.specs.declared.effect.Effect.{Effect}
use Rattle.vf_engine.specs.declared.effect.Effect.TheVariants as effects
use Rattle.vf_engine.specs.declared.expressions.Trouble.{Trouble}
use Rattle.vf_run.specs.Acting.{IsKnown, InFrame, Acts, FramedOrWaits, KnownOrFault, top_in, top_frame}
use Rattle.vf_run.proofs.Counting.{on_turn}

enters : (turn : Turn) (number : ℕ) (target : Option ℕ) (vs : List values.Value) (next : ℕ) (o : Option FunctionTree) → IsSome o → is_wait (enters_found turn number target vs next o) ≡ false
enters turn number target vs next None h = absurd (false≢true h)
enters turn number target vs next (Some f) h = refl

starts : (turn : Turn) (number : ℕ) (given : values.Value) (next : ℕ) (o : Option FunctionTree) → IsSome o → is_wait (starts_found turn number given next o) ≡ false
starts turn number given next None h = absurd (false≢true h)
starts turn number given next (Some f) h = refl

joinable : (turn : Turn) (number : ℕ) (target : Option ℕ) (given : values.Value) (next : ℕ) (o : Option FunctionTree) → IsSome o → is_wait (joinable_found turn number target given next o) ≡ false
joinable turn number target given next None h = absurd (false≢true h)
joinable turn number target given next (Some f) h = refl

-- an effect other than waiting is no waiting
moves : (names : List Identity) (p : ProgramTree) (turn : Turn) (e : Effect) → IsKnown p e → (e ≡ effects.Wait → ⊥) → is_wait (act_of_effect names p turn e) ≡ false
moves names p turn (effects.Goto next) known h = refl
moves names p turn (effects.Set x v next) known h = refl
moves names p turn (effects.Load x v cell place next) known h = refl
moves names p turn (effects.Store cell v place next) known h = refl
moves names p turn (effects.Allocate x name next) known h = refl
moves names p turn (effects.AllocateInts x n next) known h = refl
moves names p turn (effects.Free b place next) known h = refl
moves names p turn (effects.Enter number target arguments next) known h = enters turn number target _ next (slice_get p.functions number) known
moves names p turn (effects.Return value) known h = refl
moves names p turn effects.Abort known h = refl
moves names p turn (effects.PutChar byte target next) known h = refl
moves names p turn (effects.PrintInt z next) known h = refl
moves names p turn (effects.Start run given next) known h = starts turn run _ next (slice_get p.functions run) known
moves names p turn (effects.StartJoinable run given target next) known h = joinable turn run target _ next (slice_get p.functions run) known
moves names p turn (effects.Remove b next) known h = refl
moves names p turn (effects.CreateMutex target next) known h = refl
moves names p turn (effects.Acquire b next) known h = refl
moves names p turn (effects.Release b next) known h = refl
moves names p turn effects.Wait known h = absurd (h refl)

-- what was found is no waiting
acts : (names : List Identity) (p : ProgramTree) (turn : Turn) (found : Result Effect Trouble) → KnownOrFault p found → (found ≡ Ok effects.Wait → ⊥) → is_wait (act_of_result names p turn found) ≡ false
acts names p turn (Ok e) known h = moves names p turn e known (λ is. h (ap Ok is))
acts names p turn (Err trouble) known h = refl

-- the thread has a frame
pub in_frame : (r : Running) (thread : ℕ) (found : Result Effect Trouble) → FramedOrWaits r thread found → (found ≡ Ok effects.Wait → ⊥) → InFrame r thread
in_frame r thread found framed h = ⊎_elim (λ f. f) (λ w. absurd (h w)) framed

-- a thread whose next step was found, and is not waiting, can step
pub steps_by : (names : List Identity) (p : ProgramTree) (r : Running) (thread : ℕ) (found : Result Effect Trouble) → r.end ≡ None
    → Acts names p r thread found → FramedOrWaits r thread found → KnownOrFault p found → (found ≡ Ok effects.Wait → ⊥) → can_step p (state_of names r) thread ≡ true
steps_by names p r thread found going act framed known h =
    let f = in_frame r thread found framed h in
    let is = act f.of f.frame f.at f.framed in
    and_from _ _ (ap (λ e. is_none (end_of e)) going) (not_from_false _ (ap is_wait is ∙ acts names p _ found known h))

-- a thread whose next step is waiting cannot step
pub waits_by : (p : ProgramTree) (s : State) (thread : ℕ) → next_act p s thread ≡ Waits → can_step p s thread ≡ false
waits_by p s thread waits = ap (λ a. is_none s.end && not (is_wait a)) waits ∙ none (is_none s.end)
  where
    none : (b : Bool) → (b && false) ≡ false
    none true = refl
    none false = refl

-- the state after an event of a thread whose next step is waiting
pub after_wait : (p : ProgramTree) (s : State) (e : Event) → s.end ≡ None → next_act p s e.thread ≡ Waits → after p s e ≡ s
after_wait p s e going waits = ap (after_unended p s e) going ∙ ap (happens s e.grant) waits

-- the state after an event of a thread whose next step was found
pub after_found : (names : List Identity) (p : ProgramTree) (r : Running) (e : Event) (found : Result Effect Trouble) → r.end ≡ None → (f : InFrame r e.thread) → Acts names p r e.thread found
    → after p (state_of names r) e ≡ happens (state_of names r) e.grant (act_of_result names p (turn_of names r e.thread f.frame (callers_of names f.of.callers.items)) found)
after_found names p r e found going f act =
    ap (λ o. after_unended p (state_of names r) e (end_of o)) going ∙ ap (happens (state_of names r) e.grant) (act f.of f.frame f.at f.framed)

-- no value is some value
pub none_is_none : {A : Type 0} {x : A} → ◌≡◌ {A = Option A} None (Some x) → ⊥
none_is_none h = true≢false (ap is_none h)

framed_in : (r : Running) (thread : ℕ) (frame : Frame) (o : Option Thread) → slice_get r.threads.items thread ≡ o → top_in o ≡ Some frame → InFrame r thread
framed_in r thread frame None at h = absurd (none_is_none h)
framed_in r thread frame (Some of) at h = record { of = of; frame = frame; at = at; framed = h }

-- a thread with an innermost frame
pub framed_by : (r : Running) (thread : ℕ) (frame : Frame) → top_frame r thread ≡ Some frame → InFrame r thread
framed_by r thread frame h = framed_in r thread frame (slice_get r.threads.items thread) refl h

idle_in : (names : List Identity) (p : ProgramTree) (s : State) (thread : ℕ) (o : Option Thread) → top_in o ≡ None → act_by p s thread (option_map (thread_of names) o) ≡ Waits
idle_in names p s thread None h = refl
idle_in names p s thread (Some of) h = ap (λ f. act_by p s thread (Some (frames_with names f of.callers.items))) h

-- a thread without a frame waits
pub idle_by : (names : List Identity) (p : ProgramTree) (r : Running) (thread : ℕ) → top_frame r thread ≡ None → next_act p (state_of names r) thread ≡ Waits
idle_by names p r thread h =
    ap (act_by p (state_of names r) thread) (slice_get-map (thread_of names) r.threads.items thread) ∙ idle_in names p (state_of names r) thread (slice_get r.threads.items thread) h

-- no thread without a frame is in one
pub none_acts : (names : List Identity) (p : ProgramTree) (r : Running) (thread : ℕ) (found : Result Effect Trouble) → top_frame r thread ≡ None → Acts names p r thread found
none_acts names p r thread found h of frame at framed = absurd (none_is_none (sym h ∙ ap top_in at ∙ framed))

-- what the frame's step does is what was found
pub acts_by : (names : List Identity) (p : ProgramTree) (r : Running) (thread : ℕ) (top : Frame) (found known : Result Effect Trouble) → top_frame r thread ≡ Some top
    → ((callers : List model.Frame) → act_in p (turn_of names r thread top callers) (slice_get p.functions top.function) ≡ act_of_result names p (turn_of names r thread top callers) found)
    → ((turn : Turn) → act_of_result names p turn found ≡ act_of_result names p turn known)
    → Acts names p r thread known
acts_by names p r thread top found known h act same of frame at framed =
    let callers = callers_of names of.callers.items in
    let is : Some top ≡ Some frame = sym h ∙ ap top_in at ∙ framed in
    let one : top ≡ frame = cc in
    ap (act_by p (state_of names r) thread) (on_turn names r thread of frame at framed)
    ∙ subst (λ f. act_in p (turn_of names r thread f callers) (slice_get p.functions f.function) ≡ act_of_result names p (turn_of names r thread f callers) found) one (act callers)
    ∙ same (turn_of names r thread frame callers)
