use Rattle.std.proofs.Common.{rules, ◌≡◌, Err}
use Rattle.vf_sorting.proofs.Wholes.{applied_sorted, scheme_fails}
use Rattle.vf_binding.proofs.truths.application_sorted.Goals as goal

pub returns-in_err-scheme : goal.returns-in_err-scheme
returns-in_err-scheme c =
    let e : c.from_residual-in_err-scheme.result ≡ Err c.in_err-scheme.field-0.0 = search rules in
    scheme_fails _ c.in_ok-names_predicate.ensures c.if-branch.false c.in_err-scheme.ensures e

pub returns : goal.returns
returns c = applied_sorted c.in_ok-names_predicate.ensures c.if-branch.false c.in_ok-scheme.ensures c.has_scheme.ensures c.if-not-has_scheme.false c.in_ok-first.ensures.first c.in_ok-first.ensures.added c.in_ok-values_passed.ensures c.in_ok-sort.ensures
