use Rattle.std.proofs.Common.{take}
use Rattle.vf_sorts.specs.Sorts.{row, size_of, size_of_row}
use Rattle.vf_predicates.specs.Earlier.{AreSame}
use Rattle.vf_predicates.proofs.alike.+alike.Given as goal

abbrev pub decreases-is_alike : goal.decreases-is_alike
decreases-is_alike l = size_of l.first.now

abbrev pub decreases-are_same : goal.decreases-are_same
decreases-are_same l = size_of_row (row l.first.now)

-- so far the sorts are alike
abbrev pub invariant-are_same-loop-at : goal.invariant-are_same-loop-at
invariant-are_same-loop-at l = AreSame (take l.at l.fn.first) (take l.at l.fn.second)
