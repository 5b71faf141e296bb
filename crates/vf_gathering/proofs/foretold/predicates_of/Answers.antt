use Rattle.std.proofs.Common.{rules, ap, ◌≤◌, length, sym, ◌∙◌}
use Rattle.std.proofs.lemmas.List.{drop_all}
use Rattle.vf_gathering.specs.Foretold.{with_items}
use Rattle.vf_gathering.proofs.Sorting.{predicates_told}
use Rattle.vf_gathering.proofs.foretold.predicates_of.Goals as goal

pub returns-clause-tells : goal.returns-clause-tells
returns-clause-tells c =
    let m : length c.args.items.now ≤ c.loop-item.item-index = search rules in
    predicates_told c.args.ahead.now c.args.items.now c.loop-item.foretold (ap (with_items c.args.ahead.now c.loop-item.foretold) (sym (drop_all c.loop-item.item-index c.args.items.now m)) ∙ c.loop-item.invariant)
