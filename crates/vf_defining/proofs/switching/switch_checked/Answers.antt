use Rattle.std.proofs.Common.{rules, ◌≡◌, ◌∙◌, ap, refl, Err}
use Rattle.vf_equations.specs.Switching.{are_constructors}
use Rattle.vf_equations.proofs.Fronts.{switch_fails, switch_passes}
use Rattle.vf_defining.proofs.switching.switch_checked.Goals as goal

pub returns-in_err-sort : goal.returns-in_err-sort
returns-in_err-sort c =
    let e : c.from_residual.result ≡ Err c.in_err-sort.field-0.0 = search rules in
    switch_fails c.in_err-sort.field-0.0 c.in_err-sort.ensures e

pub returns : goal.returns
returns c = switch_passes c.requires c.in_ok-sort.ensures (c.if-not-has.ensures.0 refl) c.datatype_in.ensures c.in-Some.is (c.are_constructors.ensures ∙ ap (are_constructors c.args.scope.now c.in-Some.datatype) c.as_slice.ensures) c.if-not-are_constructors.false c.parameter_count-count.ensures c.in_ok-whole.ensures c.in_ok-first.ensures.first c.in_ok-first.ensures.added c.in_ok-wanted.ensures c.in_ok-equate.ensures
