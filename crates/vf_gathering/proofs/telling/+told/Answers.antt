use Rattle.std.proofs.Common.{rules, ◌≤◌, length, sym}
use Rattle.vf_gathering.proofs.Sorting.{sorts_end, sorts_on}
use Rattle.vf_gathering.proofs.telling.+told.Goals as goal

pub told_all-loop-at-preserved : goal.told_all-loop-at-preserved
told_all-loop-at-preserved t c = sorts_on c.args.ahead.now c.args.written.now c.loop-at.at c.in-Some.one.now c.loop-at.all c.push.new.self c.in_ok-sort.sort (sym c.in-Some.ensures) c.in_ok-sort.ensures c.in_ok-push.ensures.pushed c.loop-at.invariant

pub told_all-returns : goal.told_all-returns
told_all-returns t c =
    let l : length c.args.written.now ≤ c.loop-at.at = search rules in
    sorts_end c.args.ahead.now c.args.written.now c.loop-at.at c.loop-at.all l c.loop-at.invariant
