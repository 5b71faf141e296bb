-- What is found of a thread's next step.
use Rattle.std.proofs.Common.{◌≡◌, ℕ, List, [], Option, Some, None, is_none, is_ok, Result, Ok, Err, slice_get, refl, sym, ap, ◌∙◌, ⊎_elim}
use Rattle.std.proofs.lemmas.Bool.{true≢false, false≢true}
use Rattle.vf_tree.specs.Core.{Identity, FunctionTree, ProgramTree}
use Rattle.vf_model.specs.Values as values
use Rattle.vf_model.specs.State.{State, Turn}
use Rattle.vf_model.specs.Acts as acts
use Rattle.vf_model.specs.Acts.{Act, Goes, Touches, Allocates, Waits, Faults}
use Rattle.vf_model.specs.Steps.{next_act}
use Rattle.vf_model.specs.Races.{touch_in, touch_unended, next_touch}
use Rattle.vf_engine.specs.States.{state_of, turn_of, callers_of, end_of}
use Rattle.vf_engine.specs.Effects.{act_of_effect, act_of_result, enters_found, starts_found, joinable_found}
use Rattle.vf_engine.specs.declared.state.End.{End}
use Rattle.vf_engine.specs.declared.state.End.TheVariants as ends
use Rattle.vf_engine.specs.declared.state.Running.{Running}
use Rattle.vf_engine.specs.declared.effect.Effect.{Effect}
use Rattle.vf_engine.specs.declared.effect.Effect.TheVariants as effects
use Rattle.vf_engine.specs.declared.expressions.Trouble.{Trouble}
use Rattle.vf_run.specs.Acting.{Acts, FramedOrWaits}
use Rattle.vf_run.proofs.Steppers.{in_frame}

-- the fault of an act
abbrev pub fault_in : Act → Option Trouble
fault_in (Goes new) = None
fault_in (Touches touch new) = None
fault_in (Allocates denied granted) = None
fault_in Waits = None
fault_in (Faults kind place) = Some (record { kind = kind; place = place })

enters : (turn : Turn) (number : ℕ) (target : Option ℕ) (vs : List values.Value) (next : ℕ) (o : Option FunctionTree) → fault_in (enters_found turn number target vs next o) ≡ None
enters turn number target vs next None = refl
enters turn number target vs next (Some f) = refl

starts : (turn : Turn) (number : ℕ) (given : values.Value) (next : ℕ) (o : Option FunctionTree) → fault_in (starts_found turn number given next o) ≡ None
starts turn number given next None = refl
starts turn number given next (Some f) = refl

joinable : (turn : Turn) (number : ℕ) (target : Option ℕ) (given : values.Value) (next : ℕ) (o : Option FunctionTree) → fault_in (joinable_found turn number target given next o) ≡ None
joinable turn number target given next None = refl
joinable turn number target given next (Some f) = refl

-- an effect is no fault
effect_faultless : (names : List Identity) (p : ProgramTree) (turn : Turn) (e : Effect) → fault_in (act_of_effect names p turn e) ≡ None
effect_faultless names p turn (effects.Goto next) = refl
effect_faultless names p turn (effects.Set x v next) = refl
effect_faultless names p turn (effects.Load x v cell place next) = refl
effect_faultless names p turn (effects.Store cell v place next) = refl
effect_faultless names p turn (effects.Allocate x name next) = refl
effect_faultless names p turn (effects.AllocateInts x n next) = refl
effect_faultless names p turn (effects.Free b place next) = refl
effect_faultless names p turn (effects.Enter number target arguments next) = enters turn number target _ next (slice_get p.functions number)
effect_faultless names p turn (effects.Return value) = refl
effect_faultless names p turn effects.Abort = refl
effect_faultless names p turn (effects.PutChar byte target next) = refl
effect_faultless names p turn (effects.PrintInt z next) = refl
effect_faultless names p turn (effects.Start run given next) = starts turn run _ next (slice_get p.functions run)
effect_faultless names p turn (effects.StartJoinable run given target next) = joinable turn run target _ next (slice_get p.functions run)
effect_faultless names p turn (effects.Remove b next) = refl
effect_faultless names p turn (effects.CreateMutex target next) = refl
effect_faultless names p turn (effects.Acquire b next) = refl
effect_faultless names p turn (effects.Release b next) = refl
effect_faultless names p turn effects.Wait = refl

-- a thread whose step has an effect has no fault
pub faultless : (names : List Identity) (p : ProgramTree) (r : Running) (thread : ℕ) (found : Result Effect Trouble) (e : Effect) → found ≡ Ok e
    → Acts names p r thread found → FramedOrWaits r thread found → (found ≡ Ok effects.Wait → next_act p (state_of names r) thread ≡ Waits)
    → fault_in (next_act p (state_of names r) thread) ≡ None
faultless names p r thread found e is act framed waits =
    ⊎_elim
    (λ f. let turn = turn_of names r thread f.frame (callers_of names f.of.callers.items) in
    ap fault_in (act f.of f.frame f.at f.framed ∙ ap (act_of_result names p turn) is) ∙ effect_faultless names p turn e)
    (λ w. ap fault_in (waits w))
    framed

-- no value is some value
pub none_is_none : {A : Type 0} {x : A} → ◌≡◌ {A = Option A} None (Some x) → ⊥
none_is_none h = true≢false (ap is_none h)

-- what has ended is not going on
pub ended_for_good : (o : Option End) (x : End) → o ≡ Some x → end_of o ≡ None → ⊥
ended_for_good o (ends.Returned z) is h = none_is_none (sym h ∙ ap end_of is)
ended_for_good o ends.Aborted is h = none_is_none (sym h ∙ ap end_of is)
ended_for_good o (ends.Fault kind place) is h = none_is_none (sym h ∙ ap end_of is)

-- what has ended touches nothing
pub touches_nothing : (p : ProgramTree) (s : State) (thread : ℕ) (o : Option End) (x : End) → o ≡ Some x → None ≡ touch_unended p s thread (end_of o)
touches_nothing p s thread o (ends.Returned z) is = sym (ap (λ e. touch_unended p s thread (end_of e)) is)
touches_nothing p s thread o ends.Aborted is = sym (ap (λ e. touch_unended p s thread (end_of e)) is)
touches_nothing p s thread o (ends.Fault kind place) is = sym (ap (λ e. touch_unended p s thread (end_of e)) is)

-- a turn of a thread without a frame
abbrev pub no_turn : State → Turn
no_turn s = record { state = s; thread = 0; frame = record { function = 0; step = 0; locals = []; target = None }; callers = [] }

-- what is touched by the effect that was found is what the next step touches
pub touched : (names : List Identity) (p : ProgramTree) (r : Running) (thread : ℕ) (found : Result Effect Trouble) (e : Effect) (touch : Option acts.Touch) → r.end ≡ None → found ≡ Ok e
    → Acts names p r thread found → FramedOrWaits r thread found → (found ≡ Ok effects.Wait → next_act p (state_of names r) thread ≡ Waits)
    → ((turn : Turn) → touch ≡ touch_in (act_of_effect names p turn e)) → touch ≡ next_touch p (state_of names r) thread
touched names p r thread found e touch going is act framed waits told =
    let s = state_of names r in
    let by_act : touch_in (next_act p s thread) ≡ next_touch p s thread = sym (ap (λ o. touch_unended p s thread (end_of o)) going) in
    ⊎_elim
    (λ f. let turn = turn_of names r thread f.frame (callers_of names f.of.callers.items) in
    told turn ∙ sym (ap touch_in (act f.of f.frame f.at f.framed ∙ ap (act_of_result names p turn) is)) ∙ by_act)
    (λ w. told (no_turn s) ∙ ap (λ x. touch_in (act_of_result names p (no_turn s) x)) (sym is ∙ w) ∙ sym (ap touch_in (waits w)) ∙ by_act)
    framed

-- an error is not waiting
err_waits : (found : Result Effect Trouble) (t : Trouble) → found ≡ Err t → found ≡ Ok effects.Wait → ⊥
err_waits found t is w = false≢true (ap is_ok (sym is ∙ w))

-- the fault that was found is that of the next step
pub of_err : (names : List Identity) (p : ProgramTree) (r : Running) (thread : ℕ) (found : Result Effect Trouble) (t : Trouble) → found ≡ Err t
    → Acts names p r thread found → FramedOrWaits r thread found → next_act p (state_of names r) thread ≡ Faults t.kind t.place
of_err names p r thread found t is act framed =
    let f = in_frame r thread found framed (err_waits found t is) in
    act f.of f.frame f.at f.framed ∙ ap (act_of_result names p (turn_of names r thread f.frame (callers_of names f.of.callers.items))) is

-- a fault touches nothing
pub err_touches : (names : List Identity) (p : ProgramTree) (r : Running) (thread : ℕ) (found : Result Effect Trouble) (t : Trouble) → r.end ≡ None → found ≡ Err t
    → Acts names p r thread found → FramedOrWaits r thread found → None ≡ next_touch p (state_of names r) thread
err_touches names p r thread found t going is act framed =
    sym (ap (λ o. touch_unended p (state_of names r) thread (end_of o)) going ∙ ap touch_in (of_err names p r thread found t is act framed))
