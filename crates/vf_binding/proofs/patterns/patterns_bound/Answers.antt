use Rattle.std.proofs.Common.{rules, ◌≡◌, ◌≤◌, length, Err, sym, arith}
use Rattle.vf_binding.proofs.Lists.{all_below_more}
use Rattle.vf_binding.proofs.Steps.{bound_end, bound_halt, bound_next}
use Rattle.vf_binding.proofs.patterns.patterns_bound.Goals as goal

pub loop-at-init : goal.loop-at-init
loop-at-init c = record { below = c.requires.below; on = λ r k b a. a }

pub loop-at-preserved : goal.loop-at-preserved
loop-at-preserved c =
    record {
      below = all_below_more _ _ c.in_ok-pattern_bound.ensures.answers.0 _ c.loop-at.invariant.below;
      on = λ r k b a. c.loop-at.invariant.on r k b (bound_next c.args.sorts.now c.args.patterns.now c.loop-at.at (sym c.in-Some.ensures) (sym c.in-Some-get.ensures) c.in_ok-pattern_bound.ensures a);
    }

pub returns-in_err-pattern_bound : goal.returns-in_err-pattern_bound
returns-in_err-pattern_bound c =
    let e : c.from_residual.result ≡ Err c.in_err-pattern_bound.field-0.0 = search rules in
    c.loop-at.invariant.on _ _ _ (bound_halt c.args.sorts.now c.args.patterns.now c.loop-at.at _ (sym c.in-Some.ensures) (sym c.in-Some-get.ensures) c.in_err-pattern_bound.ensures e)

pub returns : goal.returns
returns c =
    let m : length c.args.patterns.now ≤ c.loop-at.at = search rules in
    let n = c.requires.count in
    let l : length c.args.sorts.now ≤ c.loop-at.at = omega (arith, m, n) in
    c.loop-at.invariant.on _ _ _ (bound_end c.args.sorts.now c.args.patterns.now c.loop-at.at l m)
