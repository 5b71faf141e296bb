use Rattle.std.proofs.Common.{rules, ◌≡◌, None, Err}
use Rattle.vf_commands.proofs.Opens.{close_passes, close_stray, close_values_fail}
use Rattle.vf_commands.proofs.opening.close_checked.Goals as goal

pub returns-then-not-has_chunk : goal.returns-then-not-has_chunk
returns-then-not-has_chunk c =
    let m : c.share_binds.result ≡ None = search rules in
    close_stray c.share_binds.ensures m c.no_names-bound.ensures c.in_ok-share_bound.ensures c.in_ok-taken.ensures c.in-Some-2.is c.has_chunk.ensures c.if-not-has_chunk.true c.refused-then-not-has_chunk.ensures

pub returns-in_err-values_checked : goal.returns-in_err-values_checked
returns-in_err-values_checked c =
    let m : c.share_binds.result ≡ None = search rules in
    let e : c.from_residual-in_err-values_checked.result ≡ Err c.in_err-values_checked.field-0.0 = search rules in
    close_values_fail _ c.share_binds.ensures m c.no_names-bound.ensures c.in_ok-share_bound.ensures c.in_ok-taken.ensures c.in-Some-2.is c.has_chunk.ensures c.if-not-has_chunk.false c.in_err-values_checked.ensures e

pub returns : goal.returns
returns c =
    let m : c.share_binds.result ≡ None = search rules in
    close_passes c.share_binds.ensures m c.no_names-bound.ensures c.in_ok-share_bound.ensures c.in_ok-taken.ensures c.in-Some-2.is c.has_chunk.ensures c.if-not-has_chunk.false c.in_ok-values_checked.ensures
