use Rattle.std.proofs.Common.{rules, ◌≡◌, ◌≤◌, ◌<◌, length, slice_get, None, Err, sym, arith}
use Rattle.vf_sorting.proofs.Checks.{passed_end, passed_halt, passed_next}
use Rattle.vf_sorting.proofs.Lists.{none_past}
use Rattle.vf_binding.specs.Chunks.{values_of}
use Rattle.vf_binding.proofs.Lists.{values_length}
use Rattle.vf_binding.proofs.truths.values_passed.Goals as goal

pub loop-at-init : goal.loop-at-init
loop-at-init c = record { room = c.requires.first; on = λ r k a. a }

pub returns-in_default-value_at : goal.returns-in_default-value_at
returns-in_default-value_at c =
    let n : slice_get (values_of c.args.patterns.now) c.loop-at.at ≡ None = sym c.in_default-value_at.ensures in
    let m = none_past (values_of c.args.patterns.now) c.loop-at.at n in
    let v = values_length c.args.patterns.now c.requires.values in
    let l : c.loop-at.at < length c.args.patterns.now = search rules in
    absurd (omega (arith, m, v, l))

pub loop-at-preserved : goal.loop-at-preserved
loop-at-preserved c =
    let l = c.loop-at.invariant.room in
    let m = c.in_ok-checked.ensures.answers.0 in
    record {
      room = omega (arith, l, m);
      on = λ r k a. c.loop-at.invariant.on r k (passed_next c.args.scheme.now.arguments (values_of c.args.patterns.now) c.loop-at.at (sym c.in-Some.ensures) (sym c.in-Some-value_at.ensures) c.in_ok-wanted.ensures c.in_ok-checked.ensures a);
    }

pub returns-in_err-checked : goal.returns-in_err-checked
returns-in_err-checked c =
    let e : c.from_residual-in_err-checked.result ≡ Err c.in_err-checked.field-0.0 = search rules in
    c.loop-at.invariant.on _ _ (passed_halt c.args.scheme.now.arguments (values_of c.args.patterns.now) c.loop-at.at _ (sym c.in-Some.ensures) (sym c.in-Some-value_at.ensures) c.in_ok-wanted.ensures c.in_err-checked.ensures e)

pub returns : goal.returns
returns c =
    let m : length c.args.patterns.now ≤ c.loop-at.at = search rules in
    let n = c.requires.count in
    let v = values_length c.args.patterns.now c.requires.values in
    let l : length c.args.scheme.now.arguments ≤ c.loop-at.at = omega (arith, m, n) in
    c.loop-at.invariant.on _ _ (passed_end c.args.scheme.now.arguments (values_of c.args.patterns.now) c.loop-at.at l (omega (arith, m, v)))
