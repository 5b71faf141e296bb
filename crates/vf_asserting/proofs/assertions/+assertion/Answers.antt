use Rattle.std.proofs.Common.{rules, ◌≡◌, ◌≤◌, length, Err, refl, sym}
use Rattle.vf_asserting.proofs.Wholes.{body_refused, case_gives, cases_end, cases_halt, cases_next, names_refused, parts_end, parts_halt, parts_next}
use Rattle.vf_asserting.proofs.assertions.+assertion.Goals as goal

pub cases_given-loop-at-init : goal.cases_given-loop-at-init
cases_given-loop-at-init t c = λ r s k a. a

pub cases_given-loop-at-preserved : goal.cases_given-loop-at-preserved
cases_given-loop-at-preserved t c = λ r s k a. c.loop-at.invariant r s k (cases_next c.args.cases.now c.loop-at.at (sym c.in-Some.ensures) c.in_ok-case_given.ensures a)

pub cases_given-returns-in_err-case_given : goal.cases_given-returns-in_err-case_given
cases_given-returns-in_err-case_given t c =
    let e : c.from_residual.result ≡ Err c.in_err-case_given.field-0.0 = search rules in
    c.loop-at.invariant _ _ _ (cases_halt c.args.cases.now c.loop-at.at _ (sym c.in-Some.ensures) c.in_err-case_given.ensures e)

pub cases_given-returns : goal.cases_given-returns
cases_given-returns t c =
    let m : length c.args.cases.now ≤ c.loop-at.at = search rules in
    c.loop-at.invariant _ _ _ (cases_end c.args.cases.now c.loop-at.at m)

pub assertion_given-loop-at-init : goal.assertion_given-loop-at-init
assertion_given-loop-at-init t c = λ r s k a. a

pub assertion_given-loop-at-preserved : goal.assertion_given-loop-at-preserved
assertion_given-loop-at-preserved t c = λ r s k a. c.loop-at.invariant r s k (parts_next c.args.assertion.now c.loop-at.at (sym c.in-Some.ensures) c.in_ok-part_given.ensures a)

pub assertion_given-returns-in_err-part_given : goal.assertion_given-returns-in_err-part_given
assertion_given-returns-in_err-part_given t c =
    let e : c.from_residual.result ≡ Err c.in_err-part_given.field-0.0 = search rules in
    c.loop-at.invariant _ _ _ (parts_halt c.args.assertion.now c.loop-at.at _ (sym c.in-Some.ensures) c.in_err-part_given.ensures e)

pub assertion_given-returns : goal.assertion_given-returns
assertion_given-returns t c =
    let m : length c.args.assertion.now ≤ c.loop-at.at = search rules in
    c.loop-at.invariant _ _ _ (parts_end c.args.assertion.now c.loop-at.at m)

pub body_given-returns-in_err-named : goal.body_given-returns-in_err-named
body_given-returns-in_err-named t c =
    let e : c.from_residual-in_err-named.result ≡ Err c.in_err-named.field-0.0 = search rules in
    names_refused _ c.in_ok-arguments.ensures c.in_ok-sorts.ensures refl c.in_err-named.ensures e

pub body_given-returns-in_err-assertion_given : goal.body_given-returns-in_err-assertion_given
body_given-returns-in_err-assertion_given t c =
    let e : c.from_residual-in_err-assertion_given.result ≡ Err c.in_err-assertion_given.field-0.0 = search rules in
    body_refused _ c.in_ok-arguments.ensures c.in_ok-sorts.ensures c.in_ok-named.ensures c.in_ok-declare_names.ensures c.in_err-assertion_given.ensures e

pub body_given-returns : goal.body_given-returns
body_given-returns t c = case_gives c.in_ok-arguments.ensures c.in_ok-sorts.ensures c.in_ok-named.ensures c.in_ok-declare_names.ensures c.in_ok-assertion_given.ensures c.len-many.ensures c.leave.ensures
