use Rattle.std.proofs.Common.{◌≡◌, ap₂, ◌∙◌, pos, to_z, arith}
use Rattle.std.specs.Int.{w128}
use Rattle.std.proofs.lemmas.Int.{ints}
use Rattle.vf_model.specs.Values.{Number}
use Rattle.vf_model.specs.State.{receives}
use Rattle.vf_engine.specs.States.{turn_of, callers_of}
use Rattle.vf_effects.proofs.output.put_char.Goals as goal

pub returns-clause-happened : goal.returns-clause-happened
returns-clause-happened c = λ names p grant of frame at framed.
    let turn = turn_of names c.args.running.now c.args.thread frame (callers_of names of.callers.items) in
    let same : to_z w128 c.args.byte ≡ pos c.args.byte = let h = c.ranges.byte.fits in omega (arith, ints, h) in
    c.go.ensures names of frame at framed
    ∙ ap₂ (λ out z. receives (record turn { state = record turn.state { output = out } }) c.args.target (Number z) c.args.next) c.in_ok-push.ensures.pushed same
