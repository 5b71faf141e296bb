use Rattle.std.proofs.Common.{◌≡◌, drop}
use Rattle.vf_sorts.specs.Sorts.{row}
use Rattle.vf_sorts.specs.Unknowns.{is_in_some}
use Rattle.vf_sorts.proofs.occurrence.+is_in.Given as goal

abbrev pub invariant-is_in_some-loop-item : goal.invariant-is_in_some-loop-item
invariant-is_in_some-loop-item l = is_in_some l.number (row (drop l.item-index l.item-items)) ≡ is_in_some l.number (row l.item-items)
