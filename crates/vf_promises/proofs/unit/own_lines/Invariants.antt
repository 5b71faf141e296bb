use Rattle.std.proofs.Common.{◌≡◌, [], ◌++◌, drop}
use Rattle.vf_promises.specs.Lines.{item_lines}
use Rattle.vf_promises.specs.Required.{along}
use Rattle.vf_promises.proofs.unit.own_lines.Given as goal

-- with the lines that are still to come they are all
abbrev pub invariant-loop-item : goal.invariant-loop-item
invariant-loop-item l = l.all ++ along (item_lines l.snapshot l.scope l.names) l.known (drop l.item-index l.items) ≡ along (item_lines l.snapshot l.scope l.names) [] l.items
