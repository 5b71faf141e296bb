use Rattle.std.proofs.Common.{◌≡◌, ◌+◌, ◌∷◌, [], ◌++◌, length, sym, ap, ◌∙◌, length-append}
use Rattle.std.proofs.lemmas.List.{length-map}
use Rattle.vf_steps.specs.Shown.{action_of, node_of, nodes_of}
use Rattle.vf_steps.specs.Tree as steps
use Rattle.vf_lower.specs.Branches.{if_step, node}
use Rattle.vf_lower.specs.Did.{drawn}
use Rattle.vf_lower.specs.Lowering.{does}
use Rattle.vf_lower.specs.Shown.{test_of}
use Rattle.vf_lower.proofs.Parts.{joined_nodes, tested_node, nodes_more}
use Rattle.vf_lower.proofs.draft.Draft.join.Goals as goal

pub returns-clause-nodes : goal.returns-clause-nodes
unfolding does
returns-clause-nodes c =
    let first = c.args.first.items in
    let second = c.args.second.nodes.items in
    let after : c.len.result ≡ length (nodes_of second) = c.len.ensures ∙ c.args.second.nodes.ok.0 ∙ sym (length-map second node_of) in
    let jump : nodes_of c.push.new.self.items ≡ nodes_of first ++ node c.args.statement (steps.jump (length (nodes_of second))) ∷ [] = nodes_more first _ _ c.in_ok-push.ensures.items ∙ ap (λ n. nodes_of first ++ node c.args.statement (steps.jump n) ∷ []) after in
    let count : c.len-2.result ≡ length first + 1 = c.len-2.ensures ∙ c.push.new.self.ok.0 ∙ ap length c.in_ok-push.ensures.items ∙ length-append first _ in
    let step : node c.args.statement (action_of c.into_if.result) ≡ node c.args.statement (if_step (test_of c.args.test) (length (nodes_of first) + 1)) = tested_node c.args.statement (test_of c.args.test) _ first c.len-2.result c.into_if.ensures count in
    joined_nodes (drawn c.args.self.now) (nodes_of first) (nodes_of second) _ _ _ _ _ _ (c.in_ok-add.ensures.nodes ∙ ap (λ x. drawn c.args.self.now ++ x ∷ []) step) jump c.in_ok-append.ensures.nodes c.in_ok-append-2.ensures.nodes
