use Rattle.std.proofs.Common.{◌≡◌, drop}
use Rattle.vf_sorts.specs.Sorts.{row}
use Rattle.vf_sorts.specs.Unknowns.{all_numbered_below}
use Rattle.vf_sorts.proofs.occurrence.+numbered_below.Given as goal

abbrev pub invariant-all_numbered_below-loop-item : goal.invariant-all_numbered_below-loop-item
invariant-all_numbered_below-loop-item l = all_numbered_below l.count (row (drop l.item-index l.item-items)) ≡ all_numbered_below l.count (row l.item-items)
