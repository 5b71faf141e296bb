use Rattle.std.proofs.Common.{rules, ◌≡◌, ◌≤◌, length, Ok, Err, refl, sym, subst, arith}
use Rattle.vf_sorting.proofs.Checks.{joined_linked, links_end, links_halt, links_next, met_alike, passed_end, passed_halt, passed_next, right_fails}
use Rattle.vf_syntax.specs.GhostExprTree.{GhostLinkTree}
use Rattle.vf_sorting.specs.Answers.{IsLinked}
use Rattle.vf_sorting.proofs.Wholes.{applied_sorted, scheme_below, scheme_fails, scheme_first}
use Rattle.vf_sorting.proofs.sorts.+sorts.Goals as goal

pub all_linked-loop-at-init : goal.all_linked-loop-at-init
all_linked-loop-at-init t c = record { place = refl; below = c.requires.start; on = λ r k a. a }

pub all_linked-loop-at-preserved : goal.all_linked-loop-at-preserved
all_linked-loop-at-preserved t c =
    record {
      place = refl;
      below = c.in_ok-sort.ensures.answers.1;
      on = λ r k a. c.loop-at.invariant.on r k (links_next c.args.links.now c.loop-at.at (sym c.in-Some.ensures) c.loop-at.invariant.place c.in_ok-sort.ensures a);
    }

pub all_linked-returns-in_err-sort : goal.all_linked-returns-in_err-sort
all_linked-returns-in_err-sort t c =
    let e : c.from_residual.result ≡ Err c.in_err-sort.field-0.0 = search rules in
    c.loop-at.invariant.on _ _ (links_halt c.args.links.now c.loop-at.at _ (sym c.in-Some.ensures) c.in_err-sort.ensures e)

pub all_linked-returns : goal.all_linked-returns
all_linked-returns t c =
    let l : length c.args.links.now ≤ c.loop-at.at = search rules in
    c.loop-at.invariant.on _ _ (links_end c.args.links.now c.loop-at.at l c.loop-at.invariant.below)

pub passed-loop-at-init : goal.passed-loop-at-init
passed-loop-at-init t c = record { room = c.requires.first; on = λ r k a. a }

pub passed-loop-at-preserved : goal.passed-loop-at-preserved
passed-loop-at-preserved t c =
    let l = c.loop-at.invariant.room in
    let m = c.in_ok-checked.ensures.answers.0 in
    record {
      room = omega (arith, l, m);
      on = λ r k a. c.loop-at.invariant.on r k (passed_next c.args.scheme.now.arguments c.args.arguments.now c.loop-at.at (sym c.in-Some.ensures) (sym c.in-Some-get.ensures) c.in_ok-wanted.ensures c.in_ok-checked.ensures a);
    }

pub passed-returns-in_err-checked : goal.passed-returns-in_err-checked
passed-returns-in_err-checked t c =
    let e : c.from_residual-in_err-checked.result ≡ Err c.in_err-checked.field-0.0 = search rules in
    c.loop-at.invariant.on _ _ (passed_halt c.args.scheme.now.arguments c.args.arguments.now c.loop-at.at _ (sym c.in-Some.ensures) (sym c.in-Some-get.ensures) c.in_ok-wanted.ensures c.in_err-checked.ensures e)

pub passed-returns : goal.passed-returns
passed-returns t c =
    let m : length c.args.arguments.now ≤ c.loop-at.at = search rules in
    let n = c.requires.count in
    let l : length c.args.scheme.now.arguments ≤ c.loop-at.at = omega (arith, m, n) in
    c.loop-at.invariant.on _ _ (passed_end c.args.scheme.now.arguments c.args.arguments.now c.loop-at.at l m)

pub applied-returns-in_err-scheme : goal.applied-returns-in_err-scheme
applied-returns-in_err-scheme t c =
    let e : c.from_residual-in_err-scheme.result ≡ Err c.in_err-scheme.field-0.0 = search rules in
    scheme_fails _ c.in_ok-names_predicate.ensures c.if-branch.false c.in_err-scheme.ensures e

pub applied-returns : goal.applied-returns
applied-returns t c = applied_sorted c.in_ok-names_predicate.ensures c.if-branch.false c.in_ok-scheme.ensures c.has_scheme.ensures c.if-not-has_scheme.false c.in_ok-first.ensures.first c.in_ok-first.ensures.added c.in_ok-passed.ensures c.in_ok-sort.ensures

pub applied-passed-requires : goal.applied-passed-requires
applied-passed-requires t c =
    let a = c.len.ensures in
    let b = c.len-2.ensures in
    let n = c.if-len.false in
    (search rules, (scheme_below c.args.unknowns.now c.in_ok-scheme.scheme _ _ c.has_scheme.ensures c.if-not-has_scheme.false c.in_ok-first.ensures.first, (scheme_first c.args.unknowns.now _ _ _ c.in_ok-first.ensures.first c.in_ok-first.ensures.added, (c.in_ok-first.ensures.fits, omega (arith, a, b, n)))))

pub linked-returns-in_err-checked-2 : goal.linked-returns-in_err-checked-2
linked-returns-in_err-checked-2 t c =
    let e : c.from_residual-in_err-checked-2.result ≡ Err c.in_err-checked-2.field-0.0 = search rules in
    subst (λ (x : GhostLinkTree). IsLinked c.args.scope.now c.args.context.now c.args.unknowns.now c.args.left.is_null c.args.left.place c.args.left.sort x c.from_residual-in_err-checked-2.result c.checked-2.new.unknowns) c.link.view_is
    (right_fails _ c.is_equality.ensures c.if-is_equality.false c.in_ok-resolved.ensures c.moves.ensures c.if-moves.false c.operand_sort-wanted.ensures c.in_ok-equate.ensures c.in_err-checked-2.ensures e)

pub linked-returns : goal.linked-returns
linked-returns t c =
    subst (λ (x : GhostLinkTree). IsLinked c.args.scope.now c.args.context.now c.args.unknowns.now c.args.left.is_null c.args.left.place c.args.left.sort x (Ok c.result_sort.result) c.checked-2.new.unknowns) c.link.view_is
    (joined_linked c.is_equality.ensures c.if-is_equality.false c.in_ok-resolved.ensures c.moves.ensures c.if-moves.false c.operand_sort-wanted.ensures c.in_ok-equate.ensures c.in_ok-checked-2.ensures c.result_sort.ensures)

pub met-returns : goal.met-returns
met-returns t c = met_alike c.requires.left c.in_ok-first.ensures c.is_null.ensures c.is_null_beside.ensures c.if-is_null_beside.false c.in_ok-right.ensures c.in_ok-second.ensures c.is_null_beside-2.ensures c.if-is_null_beside-2.false c.in_ok-first-2.ensures c.either_any.ensures c.if-either_any.false c.in_ok-equate.ensures
