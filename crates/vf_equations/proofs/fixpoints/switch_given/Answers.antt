use Rattle.std.proofs.Common.{rules, ◌≡◌, Err}
use Rattle.vf_equations.proofs.Wholes.{switch_stops}
use Rattle.vf_equations.proofs.fixpoints.switch_given.Goals as goal

pub returns-in_err-many : goal.returns-in_err-many
returns-in_err-many c =
    let e : c.from_residual-in_err-many.result ≡ Err c.in_err-many.field-0.0 = search rules in
    switch_stops c.in_err-many.field-0.0 c.in_err-many.ensures e
