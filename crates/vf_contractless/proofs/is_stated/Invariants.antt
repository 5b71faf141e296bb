use Rattle.std.proofs.Common.{◌≡◌, drop}
use Rattle.std.specs.List.{list_any}
use Rattle.vf_contractless.specs.Missing.{states}
use Rattle.vf_contractless.proofs.is_stated.Given as goal

-- one of the items that are left passes where one of all does
abbrev pub invariant-loop-at : goal.invariant-loop-at
invariant-loop-at l = list_any (states l.fn.name) (drop l.at l.fn.items) ≡ list_any (states l.fn.name) l.fn.items
