use Rattle.std.proofs.Common.{rules, ◌≡◌, ◌≤◌, length, Err, sym, arith}
use Rattle.vf_binding.proofs.Lists.{all_below_more}
use Rattle.vf_binding.proofs.Steps.{heads_end, heads_halt, heads_next}
use Rattle.vf_binding.proofs.heads.heads_checked.Goals as goal

pub loop-at-init : goal.loop-at-init
loop-at-init c = record { below = c.requires.below; on = λ r k a. a }

pub loop-at-preserved : goal.loop-at-preserved
loop-at-preserved c =
    record {
      below = all_below_more _ _ c.in_ok-head_checked.ensures.answers.0 _ c.loop-at.invariant.below;
      on = λ r k a. c.loop-at.invariant.on r k (heads_next c.args.sorts.now c.args.patterns.now c.loop-at.at (sym c.in-Some.ensures) (sym c.in-Some-get.ensures) c.in_ok-head_checked.ensures a);
    }

pub returns-in_err-head_checked : goal.returns-in_err-head_checked
returns-in_err-head_checked c =
    let e : c.from_residual.result ≡ Err c.in_err-head_checked.field-0.0 = search rules in
    c.loop-at.invariant.on _ _ (heads_halt c.args.sorts.now c.args.patterns.now c.loop-at.at _ (sym c.in-Some.ensures) (sym c.in-Some-get.ensures) c.in_err-head_checked.ensures e)

pub returns : goal.returns
returns c =
    let m : length c.args.patterns.now ≤ c.loop-at.at = search rules in
    let n = c.requires.count in
    let l : length c.args.sorts.now ≤ c.loop-at.at = omega (arith, m, n) in
    c.loop-at.invariant.on _ _ (heads_end c.args.sorts.now c.args.patterns.now c.loop-at.at l m)
