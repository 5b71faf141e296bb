use Rattle.std.proofs.Common.{◌≡◌, ◌+◌, ◌*◌, ◌++◌, drop}
use Rattle.vf_sorts.specs.Sorts.{row, size_of, size_of_row}
use Rattle.vf_manifest.specs.Trees.{sorts_text}
use Rattle.vf_promises.specs.Signatures.{trees_of}
use Rattle.vf_promises.proofs.Commas.{left_sorts}
use Rattle.vf_promises.proofs.signature.+sorts.Given as goal

abbrev pub decreases-push_sort : goal.decreases-push_sort
decreases-push_sort l = 3 * size_of l.sort.now

abbrev pub decreases-push_brackets : goal.decreases-push_brackets
decreases-push_brackets l = 3 * size_of_row (row l.sorts.now) + 1

abbrev pub decreases-push_sorts : goal.decreases-push_sorts
decreases-push_sorts l = 3 * size_of_row (row l.sorts.now)

-- what is written and what is left come to all
abbrev pub invariant-push_sorts-loop-at : goal.invariant-push_sorts-loop-at
invariant-push_sorts-loop-at l = l.out ++ left_sorts l.names l.at (drop l.at l.sorts) ≡ l.fn.out ++ sorts_text (trees_of l.names (row l.sorts))
