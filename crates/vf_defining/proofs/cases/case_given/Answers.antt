use Rattle.std.proofs.Common.{rules, ◌≡◌, Err, refl}
use Rattle.vf_equations.proofs.Giving.{case_gives, names_refused, value_refused}
use Rattle.vf_defining.proofs.cases.case_given.Goals as goal

pub returns-in_err-named : goal.returns-in_err-named
returns-in_err-named c =
    let e : c.from_residual-in_err-named.result ≡ Err c.in_err-named.field-0.0 = search rules in
    names_refused _ c.in_ok-arguments.ensures c.in_ok-sorts.ensures refl c.in_err-named.ensures e

pub returns-in_err-value_checked : goal.returns-in_err-value_checked
returns-in_err-value_checked c =
    let e : c.from_residual-in_err-value_checked.result ≡ Err c.in_err-value_checked.field-0.0 = search rules in
    value_refused _ c.in_ok-arguments.ensures c.in_ok-sorts.ensures c.in_ok-named.ensures c.in_ok-declare_names.ensures c.in_err-value_checked.ensures e

pub returns : goal.returns
returns c = case_gives c.in_ok-arguments.ensures c.in_ok-sorts.ensures c.in_ok-named.ensures c.in_ok-declare_names.ensures c.in_ok-value_checked.ensures c.len-before.ensures c.leave.ensures
