use Rattle.std.proofs.Common.{◌≡◌, ◌+◌, ◌≤◌, length, sym, ap, ◌∙◌, arith}
use Rattle.vf_flow.specs.Leads.{count_steps, step_number}
use Rattle.vf_flow.proofs.Nodes.{count_all, leads_past}
use Rattle.vf_flow.proofs.Tables.{length_more, lists_more, lists_none}
use Rattle.vf_flow.proofs.follow.number_nodes.Goals as goal

pub loop-node-init : goal.loop-node-init
loop-node-init c = record {
  size = ap length c.new-numbers.ensures;
  right = lists_none (step_number c.args.flows.now) _ c.new-numbers.ensures;
}

pub loop-node-preserved : goal.loop-node-preserved
loop-node-preserved c =
    let fs = c.args.flows.now in
    let value : c.follow-number.result ≡ step_number fs (length c.loop-node.numbers) = c.follow-number.ensures ∙ ap (step_number fs) (sym c.loop-node.invariant.size) in
    record {
      size = length_more c.loop-node.numbers c.push.new.self c.follow-number.result c.in_ok-push.ensures.pushed ∙ ap (λ k. k + 1) c.loop-node.invariant.size;
      right = lists_more (step_number fs) c.loop-node.numbers c.push.new.self c.follow-number.result c.in_ok-push.ensures.pushed value c.loop-node.invariant.right;
    }

pub returns : goal.returns
returns c =
    let fs = c.args.flows.now in
    let end : length fs ≤ c.loop-node.node = omega arith in
    let size : length c.loop-node.numbers ≡ c.loop-node.node = c.loop-node.invariant.size in
    let all : c.len.result ≡ length fs = c.len.ensures in
    let whole : c.at-end.result ≡ count_steps fs = c.at-end.ensures ∙ c.in_ok-counts.ensures c.len.result ∙ sym (count_all c.len.result fs (omega (arith, all))) in
    c.new.ensures (step_number fs) c.loop-node.invariant.right (λ i h. whole ∙ sym (leads_past (length fs) i fs (omega (arith, end, size, h))))
