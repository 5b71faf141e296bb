use Rattle.std.proofs.Common.{◌≡◌, drop}
use Rattle.vf_recursion.specs.Faults.{fault_among}
use Rattle.vf_recursion.proofs.fixpoints.check_fixpoints.Given as goal

-- the first fault of the items that are left is the first of all
abbrev pub invariant-loop-item : goal.invariant-loop-item
invariant-loop-item l = fault_among l.items (drop l.item-index l.items) ≡ fault_among l.items l.items
