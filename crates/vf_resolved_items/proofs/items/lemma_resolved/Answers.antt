use Rattle.std.proofs.Common.{rules, ◌≡◌, Ok, Err}
use Rattle.vf_datatypes.specs.Walking.{Gives}
use Rattle.vf_heads.specs.Parameters.{none_taken, parameters_behind}
use Rattle.vf_resolved_items.proofs.Steps.{contract_resolves, parameters_stop}
use Rattle.vf_resolved_items.proofs.items.lemma_resolved.Goals as goal

pub returns-in_err-declare_parameters : goal.returns-in_err-declare_parameters
returns-in_err-declare_parameters c =
    let e : c.from_residual.result ≡ Err c.in_err-declare_parameters.field-0.0 = search rules in
    let h : Gives (Err c.in_err-declare_parameters.field-0.0) (record { scope = c.declare_parameters.new.scope; sorts = c.declare_parameters.new.sorts }) (parameters_behind c.args.type_parameters.now c.args.parameters.now (none_taken c.args.scope)) = search rules in
    parameters_stop _ _ h e

pub returns : goal.returns
returns c =
    let h : parameters_behind c.args.type_parameters.now c.args.parameters.now (none_taken c.args.scope) ≡ Ok (record { scope = c.declare_parameters.new.scope; sorts = c.declare_parameters.new.sorts }) = search rules in
    contract_resolves h c.around_contract-context.ensures c.contract_resolved.ensures
