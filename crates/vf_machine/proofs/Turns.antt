-- What the machine's fields say of the next step of thread 0 and of the others.
use Rattle.std.proofs.Common.{◌≡◌, ℕ, zero, suc, List, [], ◌∷◌, map, length, replicate, Option, Some, None, slice_get, ℤ, refl, sym, ap, ◌∙◌}
use Rattle.std.specs.Option.{option_map}
use Rattle.std.proofs.Math.Nat.{sub-zero}
use Rattle.std.proofs.lemmas.Option.{slice_get-map}
use Rattle.std.proofs.lemmas.List.{length-replicate}
use Rattle.vf_base.specs.declared.int_type.IntType.TheVariants as types
use Rattle.vf_tree.specs.Core.{Integer, ProgramTree}
use Rattle.vf_tree.specs.Shown.{function_of, step_of}
use Rattle.vf_tree.specs.declared.unit.Function.{Function}
use Rattle.vf_model.specs.State.{Turn, locals_of}
use Rattle.vf_model.specs.Acts.{Waits}
use Rattle.vf_model.specs.Steps.{act_at, act_in, next_act}
use Rattle.vf_model.specs.Steps as steps
use Rattle.vf_model.specs.Runs.{happens, main_frames}
use Rattle.vf_machine.specs.Machine.{values_of, frames_of, machine_program, machine_state}
use Rattle.vf_machine.specs.Effects.{turn_of, act_of_effect, act_with, act_by, state_with, effect_state}
use Rattle.vf_machine.specs.declared.machine.Frame.{Frame}
use Rattle.vf_machine.specs.declared.machine.Machine.{Machine}
use Rattle.vf_machine.specs.declared.effect.Effect.{Effect}
use Rattle.vf_machine.specs.declared.effect.Effect.TheVariants as effects

-- the next step of thread 0, where it has a frame and the program its main
pub next_is : (m : Machine) (frame : Frame) (f : Function) (effect : Effect)
    → m.frame ≡ Some frame → slice_get m.program.plain.functions m.program.plain.main ≡ Some f
    → ((p : ProgramTree) (turn : Turn) → turn.frame.locals ≡ values_of frame.locals.items
    → act_at p turn f.closing (option_map step_of (slice_get f.steps frame.step)) ≡ act_of_effect turn effect)
    → next_act (machine_program m) (machine_state m) 0 ≡ act_by m (Some effect)
next_is m frame f effect e1 e2 h =
    let p = machine_program m in
    let turn = turn_of m frame in
    ap (λ (o : Option Frame). steps.act_by p (machine_state m) 0 (Some (frames_of m.program.plain.main o))) e1
    ∙ ap (act_in p turn) (slice_get-map function_of m.program.plain.functions m.program.plain.main ∙ ap (option_map function_of) e2)
    ∙ ap (act_at p turn f.closing) (slice_get-map step_of f.steps frame.step)
    ∙ h p turn refl
    ∙ sym (ap (λ (o : Option Frame). act_with m o (Some effect)) e1)

-- no other thread was ever started
pub others_wait : (m : Machine) (t : ℕ) → (t ≡ 0 → ⊥) → next_act (machine_program m) (machine_state m) t ≡ Waits
others_wait m zero apart = absurd (apart refl)
others_wait m (suc t) apart = refl

happens_with : (m : Machine) (frame : Option Frame) (effect : Effect) (grant : ℕ) → happens (machine_state m) grant (act_with m frame (Some effect)) ≡ state_with m frame effect
happens_with m None effect grant = refl
happens_with m (Some frame) (effects.Set x z next) grant = refl
happens_with m (Some frame) (effects.Return z) grant = refl
happens_with m (Some frame) (effects.Fault trouble) grant = refl

-- an effect happens whatever the grant
pub effect_happens : (m : Machine) (effect : Effect) (grant : ℕ) → happens (machine_state m) grant (act_by m (Some effect)) ≡ effect_state m effect
effect_happens m effect grant = happens_with m m.frame effect grant

no_values : (n : ℕ) → values_of (replicate n None) ≡ replicate n None
no_values zero = refl
no_values (suc n) = ap (λ rest. None ∷ rest) (no_values n)

unset_locals : (f : Function) → locals_of (function_of f) [] ≡ replicate f.locals None
unset_locals f = ap (λ n. replicate n None) (sub-zero (length (replicate f.locals (Integer types.Int))) ∙ length-replicate f.locals (Integer types.Int))

-- the frame before main's first step, all its locals unset
pub main_frame_is : (functions : List Function) (main : ℕ) (f : Function) (locals : List (Option ℤ))
    → Some f ≡ slice_get functions main → locals ≡ replicate f.locals None
    → record { function = main; step = 0; locals = values_of locals; target = None } ∷ [] ≡ main_frames main (slice_get (map function_of functions) main)
main_frame_is functions main f locals h e =
    let values : values_of locals ≡ locals_of (function_of f) [] = ap values_of e ∙ no_values f.locals ∙ sym (unset_locals f) in
    let found : slice_get (map function_of functions) main ≡ Some (function_of f) = slice_get-map function_of functions main ∙ ap (option_map function_of) (sym h) in
    ap (λ ls. record { function = main; step = 0; locals = ls; target = None } ∷ []) values ∙ sym (ap (main_frames main) found)
