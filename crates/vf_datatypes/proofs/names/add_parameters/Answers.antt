use Rattle.std.proofs.Common.{rules, ◌≡◌, [], ◌∷◌, ◌++◌, None, sym}
use Rattle.vf_datatypes.specs.NewNames.{parameter_refusal}
use Rattle.vf_datatypes.proofs.Loops.{parameters_more, parameters_stop}
use Rattle.vf_datatypes.proofs.names.add_parameters.Goals as goal

pub returns-in-Some-parameter_refusal : goal.returns-in-Some-parameter_refusal
returns-in-Some-parameter_refusal c = parameters_stop c.args.scope.now c.args.written.now c.loop-at.at c.in-Some.name.now c.loop-at.parameters _ _ (sym c.in-Some.ensures) (sym c.in-Some-parameter_refusal.ensures) c.loop-at.invariant

pub loop-at-preserved : goal.loop-at-preserved
loop-at-preserved c =
    let none : parameter_refusal c.args.scope.now c.loop-at.parameters c.in-Some.name.now ≡ None = search rules in
    let more : c.push.new.self ≡ c.loop-at.parameters ++ c.in-Some.name.now.text ∷ [] = search rules in
    parameters_more c.args.scope.now c.args.written.now c.loop-at.at c.in-Some.name.now c.loop-at.parameters c.push.new.self _ (sym c.in-Some.ensures) none more c.loop-at.invariant
