use Rattle.std.proofs.Common.{rules, ◌≡◌, ◌∙◌, ◌≤◌, length, Err, sym, ap}
use Rattle.vf_syntax.specs.SortTree.{sort_list}
use Rattle.vf_sorting.specs.Spelling.{written_sorts}
use Rattle.vf_sorting.proofs.Spelled.{behind, sorts_begin, sorts_end, sorts_on, sorts_stop}
use Rattle.vf_sorting.proofs.written.+written.Goals as goal

pub written_sorts-loop-at-init : goal.written_sorts-loop-at-init
written_sorts-loop-at-init t c = sorts_begin _ ∙ ap (λ ts. behind ts (written_sorts c.args.scope.now c.args.parameters.now (sort_list c.args.written.now))) (sym c.new-all.ensures)

pub written_sorts-returns-in_err-sort : goal.written_sorts-returns-in_err-sort
written_sorts-returns-in_err-sort t c =
    let e : c.from_residual.result ≡ Err c.in_err-sort.field-0.0 = search rules in
    sorts_stop c.args.scope.now c.args.parameters.now c.args.written.now c.loop-at.at c.in-Some.one.now c.loop-at.all _ _ (sym c.in-Some.ensures) c.in_err-sort.ensures e c.loop-at.invariant

pub written_sorts-loop-at-preserved : goal.written_sorts-loop-at-preserved
written_sorts-loop-at-preserved t c = sorts_on c.args.scope.now c.args.parameters.now c.args.written.now c.loop-at.at c.in-Some.one.now c.loop-at.all c.push.new.self c.in_ok-sort.sort (sym c.in-Some.ensures) c.in_ok-sort.ensures c.in_ok-push.ensures.pushed c.loop-at.invariant

pub written_sorts-returns : goal.written_sorts-returns
written_sorts-returns t c =
    let l : length c.args.written.now ≤ c.loop-at.at = search rules in
    sorts_end c.args.scope.now c.args.parameters.now c.args.written.now c.loop-at.at c.loop-at.all l c.loop-at.invariant
