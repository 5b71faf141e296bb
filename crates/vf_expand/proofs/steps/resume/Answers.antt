use Rattle.std.proofs.Common.{refl, reverse}
use Rattle.std.proofs.lemmas.Result.{err_from_is_err_and}
use Rattle.vf_preproc.specs.Scopes.{header_of}
use Rattle.vf_preproc.specs.Units.{unit_of}
use Rattle.vf_expand.specs.Walks.{pause_of, pauses_of}
use Rattle.vf_expand.proofs.Remembering.{walk_resumes}
use Rattle.vf_expand.proofs.Walking.{resumed_fails, fails_own}
use Rattle.vf_expand.proofs.steps.resume.Goals as goal

pub returns-in_err-with_header-clause-exact : goal.returns-in_err-with_header-clause-exact
returns-in_err-with_header-clause-exact c = λ library.
    let p = err_from_is_err_and c.from_residual.result c.from_residual.ensures.1 in
    rw (p.1, p.2) (resumed_fails library (pause_of c.args.waiting) (pauses_of c.args.stack.items) (unit_of c.args.unit) (header_of c.args.header) c.in_err-with_header.field-0.0 c.in_err-with_header.ensures)

pub returns-in_err-with_header-clause-own : goal.returns-in_err-with_header-clause-own
returns-in_err-with_header-clause-own c =
    let p = err_from_is_err_and c.from_residual.result c.from_residual.ensures.1 in
    rw (p.1, p.2) (fails_own c.in_err-with_header.field-0.0 _ c.in_err-with_header.ensures)

pub returns-clause-remembers : goal.returns-clause-remembers
returns-clause-remembers c =
    walk_resumes c.args.unit c.finish.new.unit c.args.waiting (reverse c.args.stack.items)
    (record { unit = c.finish.new.unit; stack = c.args.stack; current = record c.args.waiting.file { scope = c.with_header.new.scope } })
    (header_of c.args.header) c.requires.named c.requires.below c.requires.remembers c.in_ok-with_header.ensures c.finish.ensures.finished refl refl refl
