use Rattle.std.proofs.Common.{◌≡◌, ◌+◌, ◌-◌, length, ap, ◌∙◌, arith}
use Rattle.vf_flow.specs.Tables.{reached_backward}
use Rattle.vf_flow.proofs.Nodes.{reached_first, reached_more}
use Rattle.vf_flow.proofs.Tables.{length_more, lists_more, lists_none}
use Rattle.vf_flow.proofs.reach.reach_all.Goals as goal

pub loop-done-init : goal.loop-done-init
loop-done-init c =
    let fs = c.args.flows.now in
    let size : length c.new-all.result ≡ 0 = ap length c.new-all.ensures in
    record {
      size = length_more c.new-all.result c.push.new.self c.len-count.result c.in_ok-push.ensures.pushed ∙ ap (λ k. k + 1) size;
      right = lists_more (reached_backward fs) c.new-all.result c.push.new.self c.len-count.result c.in_ok-push.ensures.pushed (c.len-count.ensures ∙ reached_first fs (length c.new-all.result) size) (lists_none (reached_backward fs) c.new-all.result c.new-all.ensures);
    }

pub loop-done-preserved : goal.loop-done-preserved
loop-done-preserved c =
    let fs = c.args.flows.now in
    let all = c.loop-done.all in
    let size : length all ≡ c.loop-done.done + 1 = c.loop-done.invariant.size in
    let value : c.reach-reached.result ≡ reached_backward fs (length all) = reached_more fs all c.len-count.result c.loop-done.done (c.len-count.result - 1 - c.loop-done.done) c.reach-reached.result c.flow_at-flow.result c.skips-skipped.result c.len-count.ensures (omega arith) size c.loop-done.invariant.right c.flow_at-flow.ensures c.skips-skipped.ensures c.reach-reached.ensures in
    record {
      size = length_more all c.push-in-loop-done.new.self c.reach-reached.result c.in_ok-push-2.ensures.pushed ∙ ap (λ k. k + 1) size;
      right = lists_more (reached_backward fs) all c.push-in-loop-done.new.self c.reach-reached.result c.in_ok-push-2.ensures.pushed value c.loop-done.invariant.right;
    }

pub returns : goal.returns
returns c =
    let size : length c.loop-done.all ≡ c.loop-done.done + 1 = c.loop-done.invariant.size in
    let count : c.len-count.result ≡ length c.args.flows.now = c.len-count.ensures in
    record { size = omega (arith, size, count); right = c.loop-done.invariant.right }
