use Rattle.std.proofs.Common.{rules, ◌≡◌, Err}
use Rattle.vf_defining.proofs.Defined.{switch_stops, cases_alone}
use Rattle.vf_defining.proofs.fixpoints.switch_defined.Goals as goal

pub returns-in_err-count-clause-defined : goal.returns-in_err-count-clause-defined
returns-in_err-count-clause-defined c =
    let e : c.from_residual-in_err-count.result ≡ Err c.in_err-count.field-0.0 = search rules in
    switch_stops _ c.in_err-count.ensures e

pub returns-clause-rest : goal.returns-clause-rest
returns-clause-rest c = cases_alone c.cases_read.new.scope c.in_ok-cases_given.ensures c.in_ok-cases.ensures.rest
