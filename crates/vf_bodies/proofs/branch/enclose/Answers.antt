use Rattle.std.proofs.Common.{◌≡◌, ℕ, ◌+◌, length, sym, ap, ◌∙◌}
use Rattle.std.proofs.lemmas.List.{append-nil, length-map}
use Rattle.vf_steps.specs.Shown.{node_of, nodes_of}
use Rattle.vf_steps.specs.Tree as steps
use Rattle.vf_lower.specs.Branches.{node}
use Rattle.vf_lower.specs.Did.{drawn}
use Rattle.vf_lower.specs.Lowering.{does}
use Rattle.vf_bodies.proofs.Nodes.{enclosed}
use Rattle.vf_bodies.proofs.branch.enclose.Goals as goal

pub returns-clause-nodes : goal.returns-clause-nodes
unfolding does
returns-clause-nodes c =
    let p = c.args.statement in
    let inside = c.args.inside in
    let count : c.len-count.result ≡ length (nodes_of inside.items) = c.len-count.ensures ∙ inside.ok.0 ∙ sym (length-map inside.items node_of) in
    enclosed (drawn c.args.draft.now) (nodes_of inside.items) _ _ _ _ _ _ _ _ _ c.in_ok-add.ensures.nodes (ap (λ (n : ℕ). node p (steps.loop c.args.invariant.now (n + 1) c.args.last)) count) c.in_ok-append.ensures.nodes c.in_ok-add-2.ensures.nodes (ap (λ (n : ℕ). node p (steps.back n)) count) c.in_ok-add-3.ensures.nodes

pub returns-clause-locals : goal.returns-clause-locals
unfolding does
returns-clause-locals c = c.in_ok-add-3.ensures.locals ∙ append-nil _ ∙ c.in_ok-add-2.ensures.locals ∙ append-nil _ ∙ c.in_ok-append.ensures.locals ∙ c.in_ok-add.ensures.locals ∙ append-nil _
