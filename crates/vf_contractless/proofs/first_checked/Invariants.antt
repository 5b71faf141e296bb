use Rattle.std.proofs.Common.{◌≡◌, drop}
use Rattle.std.specs.List.{find}
use Rattle.vf_contractless.specs.Missing.{is_checked}
use Rattle.vf_contractless.proofs.first_checked.Given as goal

-- the first of the items that are left is the first of all
abbrev pub invariant-loop-at : goal.invariant-loop-at
invariant-loop-at l = find is_checked (drop l.at l.fn.items) ≡ find is_checked l.fn.items
