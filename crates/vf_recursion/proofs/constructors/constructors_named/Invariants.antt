use Rattle.std.proofs.Common.{◌≡◌, drop}
use Rattle.vf_recursion.specs.Faults.{constructors_named}
use Rattle.vf_recursion.proofs.constructors.constructors_named.Given as goal

-- what is found among the items that are left is what is found
abbrev pub invariant-loop-item : goal.invariant-loop-item
invariant-loop-item l = constructors_named l.name (drop l.item-index l.items) ≡ constructors_named l.name l.items
