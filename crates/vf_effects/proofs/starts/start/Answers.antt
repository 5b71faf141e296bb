use Rattle.std.proofs.Common.{◌≡◌, map, slice_get, Some, sym, ap, ◌∙◌}
use Rattle.std.specs.Option.{option_map, option_copied}
use Rattle.std.proofs.lemmas.Option.{slice_get-map}
use Rattle.vf_model.specs.State.{goes_on}
use Rattle.vf_model.specs.Runs.{happens}
use Rattle.vf_core.specs.Shown.{function_of}
use Rattle.vf_engine.specs.Values.{value_of}
use Rattle.vf_engine.specs.States.{state_of, turn_of, callers_of}
use Rattle.vf_engine.specs.Effects.{starts_found}
use Rattle.vf_effects.proofs.Steps.{still_there, one_more_thread, over_threads}
use Rattle.vf_effects.proofs.starts.start.Goals as goal

pub returns-clause-happened : goal.returns-clause-happened
returns-clause-happened c = λ grant of frame at framed.
    let names = c.args.program.now.unit.names in
    let funs = c.args.program.now.unit.functions in
    let items = c.args.running.now.threads.items in
    let turn = turn_of names c.args.running.now c.args.thread frame (callers_of names of.callers.items) in
    let there : slice_get funs c.args.number ≡ Some c.in-Some.function.now = sym c.get.ensures ∙ ap option_copied c.in-Some.is in
    let found : slice_get (map (function_of names) funs) c.args.number ≡ Some (function_of names c.in-Some.function.now) = slice_get-map (function_of names) funs c.args.number ∙ ap (option_map (function_of names)) there in
    c.go.ensures names of frame (still_there items c.push.new.self.items c.in_ok-new.new c.args.thread of c.in_ok-push.ensures.items at) framed
    ∙ ap (λ ts. goes_on (over_threads turn ts) c.args.next) (one_more_thread names items c.push.new.self.items c.in_ok-new.new _ c.in_ok-push.ensures.items (c.in_ok-new.ensures names))
    ∙ sym (ap (λ o. happens (state_of names c.args.running.now) grant (starts_found turn c.args.number (value_of names c.args.argument) c.args.next o)) found)
