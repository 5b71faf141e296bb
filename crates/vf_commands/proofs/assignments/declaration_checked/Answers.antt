use Rattle.std.proofs.Common.{rules, ◌≡◌, Err}
use Rattle.vf_commands.proofs.Locals.{declares, name_fails, sort_fails, value_fails, written_below}
use Rattle.vf_commands.proofs.assignments.declaration_checked.Goals as goal

pub returns-in_err-sort : goal.returns-in_err-sort
returns-in_err-sort c =
    let e : c.from_residual.result ≡ Err c.in_err-sort.field-0.0 = search rules in
    sort_fails _ c.in_err-sort.ensures e

pub returns-in_err-name_bound : goal.returns-in_err-name_bound
returns-in_err-name_bound c =
    let e : c.from_residual-in_err-name_bound.result ≡ Err c.in_err-name_bound.field-0.0 = search rules in
    name_fails _ c.in_ok-sort.ensures c.no_names-bound.ensures c.in_err-name_bound.ensures e

pub checked-requires : goal.checked-requires
checked-requires c = record { wanted = written_below c.args.unknowns.now c.args.scope.now c.args.around.now.parameters c.args.written.now _ c.in_ok-sort.ensures }

pub returns-in_err-checked : goal.returns-in_err-checked
returns-in_err-checked c =
    let e : c.from_residual-in_err-checked.result ≡ Err c.in_err-checked.field-0.0 = search rules in
    value_fails _ c.in_ok-sort.ensures c.no_names-bound.ensures c.in_ok-name_bound.ensures c.in_err-checked.ensures e

pub returns : goal.returns
returns c = declares c.in_ok-sort.ensures c.no_names-bound.ensures c.in_ok-name_bound.ensures c.in_ok-checked.ensures
