use Rattle.std.proofs.Common.{◌≡◌, [], length, map, slice_set, rules, arith, sym, ap, ap₂, ◌∙◌, ⊎_elim, FitsSigned, eq-eqb}
use Rattle.std.specs.Int.{w128}
use Rattle.std.specs.Option.{option_map}
use Rattle.std.proofs.lemmas.Option.{get_or_from_slice_get}
use Rattle.std.proofs.lemmas.List.{nil_from_length, length-map, length-reverse}
use Rattle.std.proofs.lemmas.Bool.{eqb-true, eqb-false, cond-true, cond-false, ne_eqb}
use Rattle.std.proofs.lemmas.Int.{to_z-of_z}
use Rattle.vf_model.specs.State.{Returned, with_frames, ended}
use Rattle.vf_model.specs.Calls.{returns_to}
use Rattle.vf_engine.specs.Values.{value_of}
use Rattle.vf_engine.specs.States.{frame_of, turn_of, callers_of, thread_of}
use Rattle.vf_engine.specs.Changes.{frames_after}
use Rattle.vf_effects.proofs.Steps.{returns_below, over_threads}
use Rattle.vf_effects.proofs.calls.leave.Goals as goal

pub returns-then-thread-eq0 : goal.returns-then-thread-eq0
returns-then-thread-eq0 c = λ names p grant of frame at framed.
    let items = c.args.running.now.threads.items in
    let t = c.args.thread in
    let turn = turn_of names c.args.running.now t frame (callers_of names of.callers.items) in
    let v = option_map (value_of names) c.args.value in
    let here : c.index.result.now ≡ of = c.index.ensures ∙ get_or_from_slice_get items t of _ at in
    let empty : length of.callers.items ≡ 0 = ap (λ th. length th.callers.items) (sym here) ∙ sym (c.index.result.now.callers.ok.0) ∙ eqb-true _ 0 (sym c.is_empty-last.ensures ∙ c.if-last.true) in
    let none : callers_of names of.callers.items ≡ [] = ap (callers_of names) (nil_from_length of.callers.items empty) in
    let fits : FitsSigned w128 c.returned.result = search rules in
    ap₂ (λ ts z. ended ((over_threads turn ts).state) (Returned z))
    (c.leave_at.ensures names of frame at framed ∙ ap (λ cs. slice_set (map (thread_of names) items) t (frames_after frame.target v cs)) none)
    (to_z-of_z w128 c.returned.result fits ∙ c.returned.ensures names)
    ∙ sym (ap (returns_to turn v) none ∙ cond-true _ _ _ (eq-eqb t 0 c.if-thread-eq0.true))

pub returns-else-last : goal.returns-else-last
returns-else-last c = λ names p grant of frame at framed.
    let items = c.args.running.now.threads.items in
    let t = c.args.thread in
    let turn = turn_of names c.args.running.now t frame (callers_of names of.callers.items) in
    let v = option_map (value_of names) c.args.value in
    let here : c.index.result.now ≡ of = c.index.ensures ∙ get_or_from_slice_get items t of _ at in
    let count : c.index.result.now.callers.len ≡ length of.callers.items = c.index.result.now.callers.ok.0 ∙ ap (λ th. length th.callers.items) here in
    let left = ap (λ ts. (over_threads turn ts).state) (c.leave_at.ensures names of frame at framed) in
    ⊎_elim
    (λ w. let empty : length of.callers.items ≡ 0 = sym count ∙ eqb-true _ 0 (sym c.is_empty-last.ensures ∙ w.0) in
    let none : callers_of names of.callers.items ≡ [] = ap (callers_of names) (nil_from_length of.callers.items empty) in
    left ∙ ap (λ cs. with_frames turn (frames_after frame.target v cs)) none
    ∙ sym (ap (returns_to turn v) none ∙ cond-false _ _ _ (ne_eqb t 0 w.1)))
    (λ w. let some : c.index.result.now.callers.len ≡ 0 → ⊥ = eqb-false _ 0 (sym c.is_empty-last.ensures ∙ w) in
    let long : length (callers_of names of.callers.items) ≡ length of.callers.items = length-reverse (map (frame_of names) of.callers.items) ∙ length-map of.callers.items (frame_of names) in
    left ∙ sym (returns_below turn v (callers_of names of.callers.items) (omega (arith, some, long, count))))
    c.else-last.either
