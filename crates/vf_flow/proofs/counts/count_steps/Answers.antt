use Rattle.std.proofs.Common.{◌≡◌, ◌+◌, ◌≤◌, suc, length, if◌then◌else◌, sym, refl, ap, ◌∙◌, arith}
use Rattle.vf_flow.specs.Leads.{is_step}
use Rattle.vf_flow.specs.Tables.{steps_before}
use Rattle.vf_flow.proofs.Nodes.{count_all, count_more, most_more}
use Rattle.vf_flow.proofs.Tables.{length_more, lists_more, lists_none}
use Rattle.vf_flow.proofs.counts.count_steps.Goals as goal

pub loop-at-init : goal.loop-at-init
loop-at-init c = record {
  size = ap length c.new-numbers.ensures;
  right = lists_none (steps_before c.args.flows.now) _ c.new-numbers.ensures;
  next = refl;
  most = omega arith;
}

pub loop-at-preserved : goal.loop-at-preserved
loop-at-preserved c =
    let fs = c.args.flows.now in
    let f = c.flow_at-flow.result in
    let one : c.counted-count.result ≡ (if is_step f then suc c.loop-at.count else c.loop-at.count) = c.counted-count.ensures in
    let next : c.loop-at.count ≡ steps_before fs c.loop-at.at = c.loop-at.invariant.next in
    let value : c.in_ok-number.number ≡ steps_before fs (length c.loop-at.numbers) = c.in_ok-number.ensures ∙ next ∙ ap (steps_before fs) (sym c.loop-at.invariant.size) in
    record {
      size = length_more c.loop-at.numbers c.push.new.self c.in_ok-number.number c.in_ok-push.ensures.pushed ∙ ap (λ k. k + 1) c.loop-at.invariant.size;
      right = lists_more (steps_before fs) c.loop-at.numbers c.push.new.self c.in_ok-number.number c.in_ok-push.ensures.pushed value c.loop-at.invariant.right;
      next = one ∙ ap (λ k. if is_step f then suc k else k) next ∙ sym (count_more c.loop-at.at fs f c.flow_at-flow.ensures);
      most = most_more c.loop-at.count c.loop-at.at c.counted-count.result (is_step f) c.loop-at.invariant.most one;
    }

pub returns : goal.returns
returns c =
    let fs = c.args.flows.now in
    let end : length fs ≤ c.loop-at.at = omega arith in
    let size : length c.loop-at.numbers ≡ c.loop-at.at = c.loop-at.invariant.size in
    let whole : c.in_ok-end.end ≡ steps_before fs c.loop-at.at = c.in_ok-end.ensures ∙ c.loop-at.invariant.next in
    c.new.ensures (steps_before fs) c.loop-at.invariant.right (λ i h. whole ∙ sym (count_all c.loop-at.at fs end) ∙ count_all i fs (omega (arith, end, size, h)))
