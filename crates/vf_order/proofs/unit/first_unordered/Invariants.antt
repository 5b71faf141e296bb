use Rattle.std.proofs.Common.{◌≡◌, drop}
use Rattle.std.specs.Option.{option_or}
use Rattle.vf_order.specs.Statements.{first_unordered}
use Rattle.vf_order.proofs.unit.first_unordered.Given as goal

-- what is refused and the items that are left come to the same
abbrev pub invariant-loop-at : goal.invariant-loop-at
invariant-loop-at l = option_or l.refused (first_unordered (drop l.at l.fn.unit.items)) ≡ first_unordered l.fn.unit.items
