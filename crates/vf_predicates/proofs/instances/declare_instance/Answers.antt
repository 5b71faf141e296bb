use Rattle.std.proofs.Common.{rules, ◌≡◌, [], Err}
use Rattle.vf_syntax.specs.AssertionTree.{part_list}
use Rattle.vf_datatypes.specs.Walking.{Gives}
use Rattle.vf_heads.specs.Parameters.{none_taken, parameters_behind}
use Rattle.vf_predicates.proofs.Naming.{parameters_fail}
use Rattle.vf_predicates.proofs.instances.declare_instance.Goals as goal

pub returns-in_err-declare_parameters : goal.returns-in_err-declare_parameters
returns-in_err-declare_parameters c =
    let e : c.from_residual-in_err-declare_parameters.result ≡ Err c.in_err-declare_parameters.field-0.0 = search rules in
    let h : Gives (Err c.in_err-declare_parameters.field-0.0) (record { scope = c.declare_parameters-2.new.scope; sorts = c.declare_parameters-2.new.sorts }) (parameters_behind [] c.args.parameters.now (none_taken c.args.scope.now)) = search rules in
    parameters_fail c.args.family.now c.args.function.now c.args.parameters.now (part_list c.args.body.now) c.args.scope.now _ c.in_ok-instance.instance _ _ _ c.in_ok-instance.ensures h e
