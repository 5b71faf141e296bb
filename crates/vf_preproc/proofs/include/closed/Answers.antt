use Rattle.std.proofs.Common.{rules, ◌≤◌, length, sym, subst, refl}
use Rattle.vf_preproc.specs.Answers.{Fails}
use Rattle.vf_preproc.specs.Scopes.{scope_of}
use Rattle.vf_preproc.specs.UnitText.{closed}
use Rattle.vf_preproc.proofs.Ending.{closed_first}
use Rattle.vf_preproc.proofs.include.closed.Goals as goal

pub returns-then-not-is_empty : goal.returns-then-not-is_empty
returns-then-not-is_empty c = λ unit.
    let some : 1 ≤ length c.args.scope.groups.items = search rules in
    let first = closed_first unit (scope_of c.args.scope) c.args.scope.groups.items c.index-first.result.now some c.index-first.ensures in
    subst (λ e. Fails e (closed unit (scope_of c.args.scope) (scope_of c.args.scope).groups)) (sym c.directive.ensures) (first, refl)
