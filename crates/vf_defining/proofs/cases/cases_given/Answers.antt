use Rattle.std.proofs.Common.{rules, ◌≡◌, ◌≤◌, length, Err, sym}
use Rattle.vf_equations.proofs.Giving.{cases_end, cases_halt, cases_next}
use Rattle.vf_defining.proofs.cases.cases_given.Goals as goal

pub loop-at-init : goal.loop-at-init
loop-at-init c = λ r s k a. a

pub loop-at-preserved : goal.loop-at-preserved
loop-at-preserved c = λ r s k a. c.loop-at.invariant r s k (cases_next c.args.cases.now c.loop-at.at (sym c.in-Some.ensures) c.in_ok-case_given.ensures a)

pub returns-in_err-case_given : goal.returns-in_err-case_given
returns-in_err-case_given c =
    let e : c.from_residual.result ≡ Err c.in_err-case_given.field-0.0 = search rules in
    c.loop-at.invariant _ _ _ (cases_halt c.args.cases.now c.loop-at.at _ (sym c.in-Some.ensures) c.in_err-case_given.ensures e)

pub returns : goal.returns
returns c =
    let m : length c.args.cases.now ≤ c.loop-at.at = search rules in
    c.loop-at.invariant _ _ _ (cases_end c.args.cases.now c.loop-at.at m)
