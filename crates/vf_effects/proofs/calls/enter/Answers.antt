use Rattle.std.proofs.Common.{◌≡◌, ◌∷◌, map, slice_get, Some, sym, ap, ◌∙◌}
use Rattle.std.specs.Option.{option_map, option_copied}
use Rattle.std.proofs.lemmas.Option.{slice_get-map, get_or_from_slice_get}
use Rattle.vf_model.specs.State.{at_step, entered, with_frames}
use Rattle.vf_model.specs.Steps.{all_values}
use Rattle.vf_model.specs.Runs.{happens}
use Rattle.vf_core.specs.Shown.{expressions_of, function_of}
use Rattle.vf_engine.specs.States.{state_of, turn_of, callers_of}
use Rattle.vf_engine.specs.Effects.{values_or_none, enters_found}
use Rattle.vf_effects.proofs.Steps.{on_ok, over_threads}
use Rattle.vf_effects.proofs.calls.enter.Goals as goal

pub returns-clause-happened : goal.returns-clause-happened
returns-clause-happened c =
    let names = c.args.program.now.unit.names in
    let funs = c.args.program.now.unit.functions in
    let items = c.args.running.now.threads.items in
    let there : slice_get funs c.args.number ≡ Some c.in-Some.function.now = sym c.get.ensures ∙ ap option_copied c.in-Some.is in
    let found : slice_get (map (function_of names) funs) c.args.number ≡ Some (function_of names c.in-Some.function.now) = slice_get-map (function_of names) funs c.args.number ∙ ap (option_map (function_of names)) there in
    on_ok c.enter_at.result _ _
    (λ h grant of frame at framed.
    let callers = callers_of names of.callers.items in
    let turn = turn_of names c.args.running.now c.args.thread frame callers in
    let own : (c.index-caller.result.now).frame ≡ Some frame = ap (λ th. th.frame) (c.index-caller.ensures ∙ get_or_from_slice_get items c.args.thread of _ at) ∙ framed in
    ap (λ ts. (over_threads turn ts).state) (h names of frame at framed)
    ∙ ap (λ f. with_frames turn (f ∷ at_step turn.frame c.args.next ∷ callers)) (c.in_ok-new.ensures names frame own)
    ∙ ap (λ es. with_frames turn (entered c.args.number (function_of names c.in-Some.function.now) (values_or_none (all_values turn (expressions_of names es))) c.args.target ∷ at_step turn.frame c.args.next ∷ callers)) c.as_slice.ensures
    ∙ sym (ap (λ o. happens (state_of names c.args.running.now) grant (enters_found turn c.args.number c.args.target (values_or_none (all_values turn (expressions_of names c.args.arguments.now))) c.args.next o)) found))
    c.enter_at.ensures.entered
