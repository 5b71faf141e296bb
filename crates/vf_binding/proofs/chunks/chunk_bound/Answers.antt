use Rattle.std.proofs.Common.{rules, ◌≡◌, Err}
use Rattle.vf_binding.proofs.Parts.{chunk_taken_binds, chunk_taken_fails}
use Rattle.vf_binding.proofs.chunks.chunk_bound.Goals as goal

pub returns-in_err-taken_bound-in-Some : goal.returns-in_err-taken_bound-in-Some
returns-in_err-taken_bound-in-Some c =
    let e : c.from_residual-in_err-taken_bound-in-Some.result ≡ Err c.in_err-taken_bound-in-Some.field-0.0 = search rules in
    chunk_taken_fails _ c.in_ok-share_bound.ensures c.in_ok-taken.ensures c.in-Some.is c.in_err-taken_bound-in-Some.ensures e

pub returns-in_ok-taken_bound-in-Some : goal.returns-in_ok-taken_bound-in-Some
returns-in_ok-taken_bound-in-Some c = chunk_taken_binds c.in_ok-share_bound.ensures c.in_ok-taken.ensures c.in-Some.is c.in_ok-taken_bound-in-Some.ensures
