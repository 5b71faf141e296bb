use Rattle.std.proofs.Common.{rules, ◌≡◌, Err}
use Rattle.vf_sorting.proofs.Steps.{name_refused, name_sorted}
use Rattle.vf_sorting.proofs.words.named.Goals as goal

pub returns-in_err-scheme : goal.returns-in_err-scheme
returns-in_err-scheme c = let e : c.from_residual.result ≡ Err c.in_err-scheme.field-0.0 = search rules in name_refused _ c.in_err-scheme.ensures e

pub returns : goal.returns
returns c = name_sorted c.in_ok-scheme.ensures c.has_scheme.ensures c.if-not-has_scheme.false c.in_ok-first.ensures.first c.in_ok-first.ensures.added c.in_ok-sort.ensures
