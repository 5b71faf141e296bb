use Rattle.std.proofs.Common.{◌≡◌, ◌≤◌, ◌+◌, ◌-◌, ◌++◌, drop, length}
use Rattle.vf_normal.specs.Sums.{together}
use Rattle.vf_formula.proofs.linear.together.Given as goal

abbrev pub invariant-loop-at : goal.invariant-loop-at
invariant-loop-at l = record {
  merged : l.all.items ++ together (drop l.at.left l.left) (drop l.at.right l.right) ≡ together l.left l.right;
  left_end : l.at.left ≤ length l.left;
  right_end : l.at.right ≤ length l.right;
}

abbrev pub decreases-loop-at : goal.decreases-loop-at
decreases-loop-at l = (length l.left + length l.right) - (l.at.left + l.at.right)
