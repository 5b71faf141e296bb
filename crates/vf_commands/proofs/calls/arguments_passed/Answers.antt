use Rattle.std.proofs.Common.{rules, ◌≡◌, ◌≤◌, length, Err, sym, arith}
use Rattle.vf_sorting.proofs.Checks.{passed_end, passed_halt, passed_next}
use Rattle.vf_commands.proofs.calls.arguments_passed.Goals as goal

pub loop-at-init : goal.loop-at-init
loop-at-init c = record { room = c.requires.first; on = λ r k a. a }

pub loop-at-preserved : goal.loop-at-preserved
loop-at-preserved c =
    let l = c.loop-at.invariant.room in
    let m = c.in_ok-checked.ensures.answers.0 in
    record {
      room = omega (arith, l, m);
      on = λ r k a. c.loop-at.invariant.on r k (passed_next c.args.callee.now.arguments c.args.arguments.now c.loop-at.at (sym c.in-Some.ensures) (sym c.in-Some-get.ensures) c.in_ok-wanted.ensures c.in_ok-checked.ensures a);
    }

pub returns-in_err-checked : goal.returns-in_err-checked
returns-in_err-checked c =
    let e : c.from_residual-in_err-checked.result ≡ Err c.in_err-checked.field-0.0 = search rules in
    c.loop-at.invariant.on _ _ (passed_halt c.args.callee.now.arguments c.args.arguments.now c.loop-at.at _ (sym c.in-Some.ensures) (sym c.in-Some-get.ensures) c.in_ok-wanted.ensures c.in_err-checked.ensures e)

pub returns : goal.returns
returns c =
    let m : length c.args.arguments.now ≤ c.loop-at.at = search rules in
    let n = c.requires.count in
    let l : length c.args.callee.now.arguments ≤ c.loop-at.at = omega (arith, m, n) in
    c.loop-at.invariant.on _ _ (passed_end c.args.callee.now.arguments c.args.arguments.now c.loop-at.at l m)
