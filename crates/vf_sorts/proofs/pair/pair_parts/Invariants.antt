use Rattle.std.proofs.Common.{◌≡◌, ◌++◌, ◌≤◌, drop, length, reverse}
use Rattle.vf_sorts.specs.Pairs.{paired}
use Rattle.vf_sorts.proofs.pair.pair_parts.Given as goal

abbrev pub invariant-loop-i : goal.invariant-loop-i
invariant-loop-i l = record {
  most : l.i ≤ length l.left;
  paired : l.pairs.items ≡ l.fn.pairs.items ++ reverse (drop l.i (paired l.left l.right));
}

abbrev pub decreases-loop-i : goal.decreases-loop-i
decreases-loop-i l = l.i
