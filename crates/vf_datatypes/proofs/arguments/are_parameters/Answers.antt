use Rattle.std.proofs.Common.{rules, ◌≡◌, true, sym}
use Rattle.vf_datatypes.specs.Arguments.{is_parameter}
use Rattle.vf_datatypes.proofs.Parameters.{parameters_more}
use Rattle.vf_datatypes.proofs.arguments.are_parameters.Goals as goal

pub loop-at-preserved : goal.loop-at-preserved
loop-at-preserved c =
    let is : is_parameter c.loop-at.at c.in-Some.sort.now ≡ true = search rules in
    parameters_more c.args.sorts.now c.loop-at.at c.in-Some.sort.now _ (sym c.in-Some.ensures) is c.loop-at.invariant
