use Rattle.std.proofs.Common.{rules, ◌≡◌, Err, sym}
use Rattle.vf_heads.proofs.Loops.{parameters_more, parameters_stop}
use Rattle.vf_heads.proofs.parameters.declare_parameters.Goals as goal

pub returns-in_err-declare_parameter : goal.returns-in_err-declare_parameter
returns-in_err-declare_parameter c =
    let e : c.from_residual.result ≡ Err c.in_err-declare_parameter.field-0.0 = search rules in
    parameters_stop c.args.type_parameters.now c.args.written.now c.loop-at.at c.in-Some.parameter.now _ _ _ _ _ _ (sym c.in-Some.ensures) c.in_err-declare_parameter.ensures e c.loop-at.invariant

pub loop-at-preserved : goal.loop-at-preserved
loop-at-preserved c = parameters_more c.args.type_parameters.now c.args.written.now c.loop-at.at _ _ _ _ (sym c.in-Some.ensures) c.in_ok-declare_parameter.ensures c.loop-at.invariant
