use Rattle.std.proofs.Common.{◌≡◌, take}
use Rattle.vf_sorts.proofs.sort.+same.Given as goal

abbrev pub invariant-SortList::same-loop-i : goal.invariant-SortList::same-loop-i
invariant-SortList::same-loop-i l = take l.i l.self-inside.items.items ≡ take l.i l.other-inside.items.items
