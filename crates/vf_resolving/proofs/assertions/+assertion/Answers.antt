use Rattle.std.proofs.Common.{◌≡◌, ◌+◌, ◌++◌, drop, Some, slice_get, sym, ap, ◌∙◌}
use Rattle.vf_syntax.specs.AssertionTree.{assertion_case_list, part_list}
use Rattle.vf_resolving.specs.Standings.{around_of, standing_of}
use Rattle.vf_resolving.specs.Assertions.{cases_resolved, parts_resolved}
use Rattle.vf_resolving.proofs.Lists.{more_branches, more_parts, put_branches, put_parts}
use Rattle.vf_resolving.proofs.Wholes.{conditional_told}
use Rattle.vf_resolving.proofs.assertions.+assertion.Goals as goal

pub assertion_resolved-loop-at-preserved : goal.assertion_resolved-loop-at-preserved
assertion_resolved-loop-at-preserved t c =
    let a = around_of c.args.around.now in
    let xs = c.args.assertion.now in
    let i = c.loop-at.at in
    let there : slice_get xs i ≡ Some c.in-Some.part.now = sym c.in-Some.ensures in
    ap (λ ys. put_parts ys (parts_resolved a (standing_of c.part_resolved.new.standing) (part_list (drop (i + 1) xs)))) c.in_ok-push.ensures
    ∙ more_parts a (standing_of c.loop-at.standing) (standing_of c.part_resolved.new.standing) xs i c.in-Some.part.now c.loop-at.all c.in_ok-part.part _ there c.in_ok-part.ensures c.loop-at.invariant

pub cases_resolved-loop-at-preserved : goal.cases_resolved-loop-at-preserved
cases_resolved-loop-at-preserved t c =
    let a = around_of c.args.around.now in
    let w = c.args.over in
    let xs = c.args.cases.now in
    let i = c.loop-at.at in
    let there : slice_get xs i ≡ Some c.in-Some.case.now = sym c.in-Some.ensures in
    ap (λ ys. put_branches ys (cases_resolved a w (standing_of c.case_resolved.new.standing) (assertion_case_list (drop (i + 1) xs)))) c.in_ok-push.ensures
    ∙ more_branches a w (standing_of c.loop-at.standing) (standing_of c.case_resolved.new.standing) xs i c.in-Some.case.now c.loop-at.all c.in_ok-branch.branch _ there c.in_ok-branch.ensures c.loop-at.invariant

pub conditional_resolved-returns : goal.conditional_resolved-returns
conditional_resolved-returns t c =
    conditional_told (around_of c.args.around.now) (standing_of c.args.standing.now) (standing_of c.branch_resolved.new.standing) (standing_of c.branch_resolved-2.new.standing)
    c.args.place c.args.test.now (part_list c.args.yes.now) (part_list c.args.no.now) c.in_ok-test.test c.in_ok-yes.yes c.in_ok-no.no c.in_ok-test.ensures c.in_ok-yes.ensures c.in_ok-no.ensures
