use Rattle.std.proofs.Common.{rules, true, false, sym}
use Rattle.std.specs.List.{list_all}
use Rattle.std.specs.Option.{option_copied}
use Rattle.vf_declared.specs.Scopes.{ghost_of}
use Rattle.vf_datatypes.specs.Inhabited.{can_build, earlier, has_value}
use Rattle.vf_datatypes.proofs.Bases.{any_here, any_further}
use Rattle.vf_datatypes.proofs.Told.{all_further, all_stop, of_constructor, of_datatype, told_more}
use Rattle.vf_datatypes.proofs.inhabited.+values.Goals as goal

pub have_values-loop-at-preserved : goal.have_values-loop-at-preserved
have_values-loop-at-preserved t c = told_more (earlier c.args.depth c.args.scope.now) c.args.own c.args.told.now c.args.sorts.now c.loop-at.at c.in-Some.sort.now c.loop-at.all c.push.new.self _ c.in_ok-has.has (sym c.in-Some.ensures) c.in_ok-has.ensures c.in_ok-push.ensures.pushed c.loop-at.invariant

pub one_builds-returns-then-branch : goal.one_builds-returns-then-branch
one_builds-returns-then-branch t c =
    of_datatype (earlier c.args.depth c.args.scope.now) c.args.scope.now c.args.number c.args.told.now c.in-Some.datatype.now true c.in-Some.ensures
    (any_here (λ x. can_build (earlier c.args.depth c.args.scope.now) c.args.number c.args.told.now (ghost_of c.args.scope.now x)) c.in-Some.datatype.now.constructors c.loop-at.at c.in-Some-get.constructor.now _ (sym c.in-Some-get.ensures) (search rules) c.loop-at.invariant)

pub one_builds-loop-at-preserved : goal.one_builds-loop-at-preserved
one_builds-loop-at-preserved t c =
    any_further (λ x. can_build (earlier c.args.depth c.args.scope.now) c.args.number c.args.told.now (ghost_of c.args.scope.now x)) c.in-Some.datatype.now.constructors c.loop-at.at c.in-Some-get.constructor.now _ (sym c.in-Some-get.ensures) (search rules) c.loop-at.invariant

pub can_build-returns-then-not-branch : goal.can_build-returns-then-not-branch
can_build-returns-then-not-branch t c =
    of_constructor (earlier c.args.depth c.args.scope.now) c.args.own c.args.told.now (option_copied c.args.declaration) c.in-Some-Constructor.constructor false (search rules)
    (all_stop (has_value (earlier c.args.depth c.args.scope.now) c.args.own c.args.told.now) c.in-Some-Constructor.constructor.arguments c.loop-at.at c.in-Some.sort.now (list_all (has_value (earlier c.args.depth c.args.scope.now) c.args.own c.args.told.now) c.in-Some-Constructor.constructor.arguments) (sym c.in-Some.ensures) (search rules) c.loop-at.invariant)

pub can_build-loop-at-preserved : goal.can_build-loop-at-preserved
can_build-loop-at-preserved t c =
    all_further (has_value (earlier c.args.depth c.args.scope.now) c.args.own c.args.told.now) c.in-Some-Constructor.constructor.arguments c.loop-at.at c.in-Some.sort.now _ (sym c.in-Some.ensures) (search rules) c.loop-at.invariant
