use Rattle.std.proofs.Common.{◌<◌, suc, List, length, arith, sym, subst}
use Rattle.std.proofs.lemmas.Result.{err_from_is_err_and}
use Rattle.vf_preproc.specs.Scopes.{scope_of}
use Rattle.vf_preproc.specs.Units.{unit_of}
use Rattle.vf_expand.specs.Walks.{Pause, going_of, pauses_of}
use Rattle.vf_expand.specs.Weights.{left_of, lefts_of}
use Rattle.vf_expand.proofs.Weighing.{fewer_weigh}
use Rattle.vf_expand.proofs.Remembering.{number_below}
use Rattle.vf_expand.proofs.Walking.{pauses_size, old_goes, old_fails, fails_own}
use Rattle.vf_expand.proofs.steps.include_old.Goals as goal

pub returns-in_err-join_old-clause-exact : goal.returns-in_err-join_old-clause-exact
returns-in_err-join_old-clause-exact c = λ library.
    let ps : List Pause = pauses_of c.args.walk.stack.items in
    let shallow : length ps < 32 = subst (λ n. n < 32) (sym (pauses_size c.args.walk.stack.items)) c.requires.shallow in
    let p = err_from_is_err_and c.from_residual.result c.from_residual.ensures.1 in
    rw (p.1, p.2) (old_fails library ps c.args.include (going_of c.args.walk.current) (unit_of c.args.walk.unit) c.args.number c.in_err-join_old.field-0.0 shallow c.requires.old c.in_err-join_old.ensures.exact)

pub returns-in_err-join_old-clause-own : goal.returns-in_err-join_old-clause-own
returns-in_err-join_old-clause-own c =
    let p = err_from_is_err_and c.from_residual.result c.from_residual.ensures.1 in
    rw (p.1, p.2) (fails_own c.in_err-join_old.field-0.0 _ c.in_err-join_old.ensures.exact)

pub returns-clause-exact : goal.returns-clause-exact
returns-clause-exact c = λ library.
    let ps : List Pause = pauses_of c.args.walk.stack.items in
    let shallow : length ps < 32 = subst (λ n. n < 32) (sym (pauses_size c.args.walk.stack.items)) c.requires.shallow in
    old_goes library ps c.args.include (going_of c.args.walk.current) (unit_of c.args.walk.unit) (unit_of c.args.walk.unit) c.args.number (scope_of c.join_old.new.scope) shallow c.requires.old c.in_ok-join_old.ensures.exact

pub returns-clause-falls : goal.returns-clause-falls
returns-clause-falls c = fewer_weigh (left_of c.args.walk.current) (suc (left_of c.args.walk.current)) (lefts_of c.args.walk.stack.items) (omega arith)

pub join_old-requires-clause-below : goal.join_old-requires-clause-below
join_old-requires-clause-below c = number_below c.args.walk.unit.paths c.args.include.path c.args.number c.requires.old
