use Rattle.std.proofs.Common.{rules, ap, ◌≤◌, length, sym, ◌∙◌}
use Rattle.std.proofs.lemmas.List.{drop_all}
use Rattle.vf_gathering.specs.Named.{datatypes_in}
use Rattle.vf_gathering.specs.Standing.{with_names}
use Rattle.vf_gathering.proofs.Tables.{all_told}
use Rattle.vf_gathering.proofs.items.datatypes_of.Goals as goal

pub returns-clause-tells : goal.returns-clause-tells
returns-clause-tells c =
    let m : length c.args.items.now ≤ c.loop-item.item-index = search rules in
    all_told (datatypes_in c.args.items.now) (ap (λ xs. with_names c.loop-item.stated (datatypes_in xs)) (sym (drop_all c.loop-item.item-index c.args.items.now m)) ∙ c.loop-item.invariant)

pub returns-clause-is : goal.returns-clause-is
returns-clause-is c =
    let m : length c.args.items.now ≤ c.loop-item.item-index = search rules in
    ap (λ xs. with_names c.loop-item.stated (datatypes_in xs)) (sym (drop_all c.loop-item.item-index c.args.items.now m)) ∙ c.loop-item.invariant
