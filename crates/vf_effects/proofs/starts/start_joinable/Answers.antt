use Rattle.std.proofs.Common.{◌≡◌, [], map, slice_get, Some, length, pos, sym, ap, ap₂, ◌∙◌, eq-eqb}
use Rattle.std.specs.FinMap as finite
use Rattle.std.specs.Option.{option_map, option_copied}
use Rattle.std.proofs.lemmas.Option.{slice_get-map}
use Rattle.std.proofs.lemmas.List.{length-map}
use Rattle.std.proofs.lemmas.Bool.{cond-true, cond-false, ne_eqb}
use Rattle.vf_model.specs.Values.{Pointer}
use Rattle.vf_model.specs.Memory.{Handle, granted_block}
use Rattle.vf_model.specs.State.{receives, over_memory}
use Rattle.vf_model.specs.Runs.{happens}
use Rattle.vf_core.specs.Shown.{identity_of, function_of}
use Rattle.vf_engine.specs.Values.{value_of}
use Rattle.vf_engine.specs.Memories.{memory_of}
use Rattle.vf_engine.specs.States.{state_of, turn_of, callers_of, thread_of}
use Rattle.vf_engine.specs.Effects.{joinable_found}
use Rattle.vf_effects.proofs.Steps.{still_there, one_more_thread, over_threads}
use Rattle.vf_effects.proofs.starts.start_joinable.Goals as goal

pub returns-then-grant-eq0-clause-happened : goal.returns-then-grant-eq0-clause-happened
returns-then-grant-eq0-clause-happened c = λ of frame at framed.
    let names = c.args.program.now.unit.names in
    let funs = c.args.program.now.unit.functions in
    let turn = turn_of names c.args.running.now c.args.thread frame (callers_of names of.callers.items) in
    let there : slice_get funs c.args.number ≡ Some c.in-Some.function.now = sym c.get.ensures ∙ ap option_copied c.in-Some.is in
    let found : slice_get (map (function_of names) funs) c.args.number ≡ Some (function_of names c.in-Some.function.now) = slice_get-map (function_of names) funs c.args.number ∙ ap (option_map (function_of names)) there in
    c.abort.ensures names (record { functions = []; structs = []; main = 0 }) c.args.thread c.args.grant of frame at framed
    ∙ sym (ap (λ o. happens (state_of names c.args.running.now) c.args.grant (joinable_found turn c.args.number c.args.target (value_of names c.args.argument) c.args.next o)) found
    ∙ cond-true _ _ _ (eq-eqb c.args.grant 0 c.if-grant-eq0.true))

pub returns-in-Ok-clause-happened : goal.returns-in-Ok-clause-happened
returns-in-Ok-clause-happened c = λ of frame at framed.
    let names = c.args.program.now.unit.names in
    let funs = c.args.program.now.unit.functions in
    let items = c.args.running.now.threads.items in
    let memory = memory_of names c.args.running.now.blocks in
    let b = granted_block memory c.args.grant in
    let turn = turn_of names c.args.running.now c.args.thread frame (callers_of names of.callers.items) in
    let there : slice_get funs c.args.number ≡ Some c.in-Some.function.now = sym c.get.ensures ∙ ap option_copied c.in-Some.is in
    let found : slice_get (map (function_of names) funs) c.args.number ≡ Some (function_of names c.in-Some.function.now) = slice_get-map (function_of names) funs c.args.number ∙ ap (option_map (function_of names)) there in
    let count : c.len.result ≡ length (map (thread_of names) items) = c.len.ensures ∙ c.args.running.now.threads.ok.0 ∙ sym (length-map items (thread_of names)) in
    c.in-Ok.ensures.placed names of frame (still_there items c.push.new.self.items c.in_ok-new.new c.args.thread of c.in_ok-push.ensures.items at) framed
    ∙ ap₂ (λ ts n. receives (over_memory (over_threads turn ts) (finite.insert memory b (Handle n (identity_of names (c.in-Some.function.now).identity) (value_of names c.args.argument)))) c.args.target (Pointer b (pos 0)) c.args.next)
    (one_more_thread names items c.push.new.self.items c.in_ok-new.new _ c.in_ok-push.ensures.items (c.in_ok-new.ensures names)) count
    ∙ sym (ap (λ o. happens (state_of names c.args.running.now) c.args.grant (joinable_found turn c.args.number c.args.target (value_of names c.args.argument) c.args.next o)) found
    ∙ cond-false _ _ _ (ne_eqb c.args.grant 0 c.if-grant-eq0.false))
