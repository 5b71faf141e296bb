use Rattle.std.proofs.Common.{◌≡◌, drop}
use Rattle.vf_gathering.specs.Foretold.{none_foretold, with_items}
use Rattle.vf_gathering.proofs.foretold.predicates_of.Given as goal

-- with the items that are left it is what all items come to
abbrev pub invariant-loop-item : goal.invariant-loop-item
invariant-loop-item l = with_items l.fn.ahead l.foretold (drop l.item-index l.fn.items) ≡ with_items l.fn.ahead none_foretold l.fn.items
