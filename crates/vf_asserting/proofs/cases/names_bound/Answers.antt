use Rattle.std.proofs.Common.{rules, ◌≡◌, ◌≤◌, length, Err, sym, arith}
use Rattle.vf_asserting.proofs.Steps.{names_end, names_halt, names_next}
use Rattle.vf_asserting.proofs.cases.names_bound.Goals as goal

pub loop-at-init : goal.loop-at-init
loop-at-init c = λ r b a. a

pub loop-at-preserved : goal.loop-at-preserved
loop-at-preserved c = λ r b a. c.loop-at.invariant r b (names_next c.args.names.now c.args.sorts.now c.loop-at.at (sym c.in-Some.ensures) (sym c.in-Some-get.ensures) c.in_ok-name_bound.ensures a)

pub returns-in_err-name_bound : goal.returns-in_err-name_bound
returns-in_err-name_bound c =
    let e : c.from_residual.result ≡ Err c.in_err-name_bound.field-0.0 = search rules in
    c.loop-at.invariant _ _ (names_halt c.args.names.now c.args.sorts.now c.loop-at.at _ (sym c.in-Some.ensures) (sym c.in-Some-get.ensures) c.in_err-name_bound.ensures e)

pub returns : goal.returns
returns c =
    let m : length c.args.names.now ≤ c.loop-at.at = search rules in
    let n = c.requires in
    let l : length c.args.sorts.now ≤ c.loop-at.at = omega (arith, m, n) in
    c.loop-at.invariant _ _ (names_end c.args.names.now c.args.sorts.now c.loop-at.at m l)
