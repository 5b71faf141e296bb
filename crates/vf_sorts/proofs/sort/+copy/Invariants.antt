use Rattle.std.proofs.Common.{◌≡◌, take}
use Rattle.vf_sorts.proofs.sort.+copy.Given as goal

abbrev pub invariant-SortList::copy-loop-item : goal.invariant-SortList::copy-loop-item
invariant-SortList::copy-loop-item l = l.all ≡ take l.item-index l.item-items
