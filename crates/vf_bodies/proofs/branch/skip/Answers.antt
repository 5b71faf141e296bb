use Rattle.std.proofs.Common.{◌≡◌, length, sym, ap, ◌∙◌}
use Rattle.std.proofs.lemmas.List.{length-map}
use Rattle.vf_steps.specs.Shown.{node_of, nodes_of}
use Rattle.vf_lower.specs.Branches.{if_step, node}
use Rattle.vf_lower.specs.Did.{drawn}
use Rattle.vf_lower.specs.Lowering.{does}
use Rattle.vf_lower.specs.Shown.{test_of}
use Rattle.vf_bodies.proofs.Nodes.{added}
use Rattle.vf_bodies.proofs.branch.skip.Goals as goal

pub returns-clause-nodes : goal.returns-clause-nodes
unfolding does
returns-clause-nodes c =
    let part = c.args.part.nodes in
    let count : c.len.result ≡ length (nodes_of part.items) = c.len.ensures ∙ part.ok.0 ∙ sym (length-map part.items node_of) in
    added (drawn c.args.draft.now) _ _ (nodes_of part.items) _ _ c.in_ok-add.ensures.nodes (ap (node c.args.statement) (c.into_if.ensures ∙ ap (if_step (test_of c.args.test)) count)) c.in_ok-append.ensures.nodes
