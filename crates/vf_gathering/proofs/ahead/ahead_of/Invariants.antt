use Rattle.std.proofs.Common.{◌≡◌, drop}
use Rattle.vf_gathering.specs.Ahead.{nothing, with_items}
use Rattle.vf_gathering.proofs.ahead.ahead_of.Given as goal

-- with the items that are left it is what all items come to
abbrev pub invariant-loop-item : goal.invariant-loop-item
invariant-loop-item l = with_items l.ahead (drop l.item-index l.fn.items) ≡ with_items nothing l.fn.items
