use Rattle.std.proofs.Common.{rules, ◌<◌, length}
use Rattle.std.specs.Prelude.{slice_index_or}
use Rattle.std.proofs.lemmas.List.{get_or_default}
use Rattle.vf_trail.specs.declared.node.Node.{Node}
use Rattle.vf_prover.proofs.Stepping.{next_child}
use Rattle.vf_prover.proofs.along.descend.Goals as goal

pub step_to-requires-clause-child : goal.step_to-requires-clause-child
step_to-requires-clause-child c =
    let root : Node = record { number = 0 } in
    let n = slice_index_or c.args.line.now c.loop-i.i root in
    let l : c.loop-i.i < length c.args.line.now = search rules in
    next_child c.args.trail.now.facts c.args.line.now c.loop-i.nodes.items c.loop-i.i n c.requires.linked c.loop-i.invariant.nodes l c.loop-i.invariant.long (get_or_default c.args.line.now c.loop-i.i root n l)
