use Rattle.std.proofs.Common.{◌≡◌, ◌<◌, true, sym, ap, ◌∙◌, length, rules, arith}
use Rattle.std.proofs.lemmas.Option.{slice_get_within}
use Rattle.std.proofs.lemmas.Grind.{common_steps}
use Rattle.vf_model.specs.Values.{same_identity}
use Rattle.vf_core.specs.Shown.{identity_of, function_of}
use Rattle.vf_core.proofs.Positions.{position_found, position_missing}
use Rattle.vf_core.proofs.resolve.body_named.Goals as goal

pub returns-in-loop-i : goal.returns-in-loop-i
returns-in-loop-i c =
    let u = c.args.unit.now in
    let is : same_identity (identity_of u.names c.in-Some.function.now.identity) c.args.text.now ≡ true = search rules in
    sym (position_found (function_of u.names) (λ f. same_identity f.identity c.args.text.now) u.functions c.loop-i.i c.in-Some.function.now (sym c.in-Some.ensures) is c.loop-i.invariant)

pub returns : goal.returns
returns c =
    let u = c.args.unit.now in
    sym (position_missing (function_of u.names) (λ f. same_identity f.identity c.args.text.now) u.functions
    (λ k f at. let within : k < length u.functions = slice_get_within u.functions k f at in c.loop-i.invariant k f (omega arith) at))
