use Rattle.std.proofs.Common.{rules, ◌≡◌, [], Ok, Err}
use Rattle.vf_datatypes.specs.Walking.{Gives}
use Rattle.vf_heads.specs.Parameters.{none_taken, parameters_behind}
use Rattle.vf_resolved_items.proofs.Steps.{body_resolves, first_stop, others_stop}
use Rattle.vf_resolved_items.proofs.items.predicate_resolved.Goals as goal

pub returns-in_err-declare_parameters : goal.returns-in_err-declare_parameters
returns-in_err-declare_parameters c =
    let e : c.from_residual.result ≡ Err c.in_err-declare_parameters.field-0.0 = search rules in
    let h : Gives (Err c.in_err-declare_parameters.field-0.0) (record { scope = c.declare_parameters.new.scope; sorts = c.declare_parameters.new.sorts }) (parameters_behind [] c.args.first.now (none_taken c.args.scope)) = search rules in
    first_stop _ _ h e

pub returns-in_err-declare_parameters-2 : goal.returns-in_err-declare_parameters-2
returns-in_err-declare_parameters-2 c =
    let e : c.from_residual-in_err-declare_parameters-2.result ≡ Err c.in_err-declare_parameters-2.field-0.0 = search rules in
    let h : parameters_behind [] c.args.first.now (none_taken c.args.scope) ≡ Ok (record { scope = c.declare_parameters.new.scope; sorts = c.declare_parameters.new.sorts }) = search rules in
    let k : Gives (Err c.in_err-declare_parameters-2.field-0.0) (record { scope = c.declare_parameters-2.new.scope; sorts = c.declare_parameters-2.new.sorts }) (parameters_behind [] c.args.others.now (record { scope = c.declare_parameters.new.scope; sorts = c.declare_parameters.new.sorts })) = search rules in
    others_stop _ _ h k e

pub returns : goal.returns
returns c =
    let h : parameters_behind [] c.args.first.now (none_taken c.args.scope) ≡ Ok (record { scope = c.declare_parameters.new.scope; sorts = c.declare_parameters.new.sorts }) = search rules in
    let k : parameters_behind [] c.args.others.now (record { scope = c.declare_parameters.new.scope; sorts = c.declare_parameters.new.sorts }) ≡ Ok (record { scope = c.declare_parameters-2.new.scope; sorts = c.declare_parameters-2.new.sorts }) = search rules in
    body_resolves h k c.around_body-context.ensures c.body_resolved.ensures
