use Rattle.std.proofs.Common.{rules, ◌≡◌, Some, slice_get, map, refl, arith}
use Rattle.std.proofs.lemmas.List.{length-map}
use Rattle.std.proofs.lemmas.Option.{slice_get_read}
use Rattle.vf_core.specs.Shown.{step_of}
use Rattle.vf_steps.specs.Shown.{node_of, nodes_of}
use Rattle.vf_flow.specs.Named.{naming_of}
use Rattle.vf_flow.specs.Shown.{number_in}
use Rattle.vf_flow.proofs.Making.{shown_at, steps_end, steps_more}
use Rattle.vf_flow.proofs.steps.all_steps.Goals as goal

pub loop-at-preserved : goal.loop-at-preserved
loop-at-preserved c =
    let items = c.args.nodes.now.items in
    let names = c.args.naming.now.names.now in
    let here : slice_get (nodes_of items) c.loop-at.at ≡ Some (node_of c.index.result.now) = shown_at items c.loop-at.at c.index.result.now (slice_get_read items _ c.loop-at.at c.index.result.now refl (search rules) c.index.ensures) in
    steps_more (naming_of c.args.naming.now) (number_in c.args.numbers.now) (nodes_of items) c.loop-at.at (node_of c.index.result.now) (map (step_of names) c.loop-at.steps) (map (step_of names) c.add_step.new.steps) _ here c.in_ok-add_step.ensures c.loop-at.invariant

pub returns : goal.returns
returns c =
    let items = c.args.nodes.now.items in
    let count = length-map items node_of in
    steps_end (naming_of c.args.naming.now) (number_in c.args.numbers.now) (nodes_of items) c.loop-at.at (map (step_of c.args.naming.now.names.now) c.loop-at.steps) _ (omega (arith, count)) c.loop-at.invariant
