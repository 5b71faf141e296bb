use Rattle.std.proofs.Common.{◌<◌, ◌∷◌, length, sym, subst}
use Rattle.std.proofs.lemmas.Result.{err_from_is_err_and}
use Rattle.vf_preproc.specs.Joins.{AreBelow}
use Rattle.vf_preproc.specs.Scopes.{header_of, scope_of}
use Rattle.vf_preproc.specs.Units.{unit_of}
use Rattle.vf_expand.specs.Walks.{going_of, pauses_of}
use Rattle.vf_expand.specs.Weights.{left_of, lefts_of, weight, weight_of}
use Rattle.vf_expand.proofs.Weighing.{ended_weighs}
use Rattle.vf_expand.proofs.Remembering.{closed_files}
use Rattle.vf_expand.proofs.Walking.{end_fails, end_last, fails_own}
use Rattle.vf_expand.proofs.steps.end.Goals as goal

pub returns-in_err-header-clause-exact : goal.returns-in_err-header-clause-exact
returns-in_err-header-clause-exact c = λ library.
    let p = err_from_is_err_and c.from_residual.result c.from_residual.ensures.1 in
    rw (p.1, p.2) (end_fails library (pauses_of c.args.walk.stack.items) (going_of c.args.walk.current) (unit_of c.args.walk.unit) c.in_err-header.field-0.0 c.requires.done (c.in_err-header.ensures (unit_of c.args.walk.unit)))

pub returns-in_err-header-clause-own : goal.returns-in_err-header-clause-own
returns-in_err-header-clause-own c =
    let p = err_from_is_err_and c.from_residual.result c.from_residual.ensures.1 in
    rw (p.1, p.2) (fails_own c.in_err-header.field-0.0 _ (c.in_err-header.ensures (unit_of c.args.walk.unit)))

pub returns-in-None-clause-exact : goal.returns-in-None-clause-exact
returns-in-None-clause-exact c = λ library.
    record {
      before = unit_of c.args.walk.unit;
      header = header_of c.in_ok-header.header;
      gives = end_last library (pauses_of c.args.walk.stack.items) (going_of c.args.walk.current) (unit_of c.args.walk.unit) (header_of c.in_ok-header.header) c.in-None.ensures.pauses c.requires.done (c.in_ok-header.ensures (unit_of c.args.walk.unit));
      complete = c.finish.ensures.finished;
    }

pub returns-in_ok-walk-in-Some-clause-falls : goal.returns-in_ok-walk-in-Some-clause-falls
returns-in_ok-walk-in-Some-clause-falls c =
    subst (λ n. n < weight c.args.walk) (sym c.in_ok-walk-in-Some.ensures.weighs)
    (subst (λ ns. weight_of (left_of c.in-Some.waiting.file ∷ lefts_of c.wake.new.stack.items) < weight_of (left_of c.args.walk.current ∷ ns)) (sym c.in-Some.ensures.lefts)
    (ended_weighs (left_of c.args.walk.current) (left_of c.in-Some.waiting.file) (lefts_of c.wake.new.stack.items)))

pub resume-requires-clause-below : goal.resume-requires-clause-below
resume-requires-clause-below c =
    let same = closed_files (unit_of c.args.walk.unit) (scope_of c.args.walk.current.scope) (scope_of c.args.walk.current.scope).groups (header_of c.in_ok-header.header) (c.in_ok-header.ensures (unit_of c.args.walk.unit)) in
    subst (AreBelow (length c.args.walk.unit.paths)) (sym same) c.requires.remembers.current.files
