use Rattle.std.proofs.Common.{◌≡◌, subst}
use Rattle.vf_table.specs.declared.node.Node.{Node}
use Rattle.vf_table.specs.Tables.{IsOfIntegers}
use Rattle.vf_table.proofs.Reading.{item_read, item_missing}
use Rattle.vf_table.proofs.node.is_integer.Goals as goal

pub returns-in-Some : goal.returns-in-Some
returns-in-Some c =
    let x = item_read c.args.nodes.now c.args.x c.in-Some.node.now c.in-Some.ensures.lookup.0 c.in-Some.ensures.lookup.1 in (
      λ t. (c.in-Some.node.now, x, c.is_of_integers.ensures.0 t),
      λ h. let p = h.1 in let i : h.0 ≡ c.in-Some.node.now = cc in c.is_of_integers.ensures.1 (subst (λ (z : Node). IsOfIntegers z.head) i h.2),
    )

pub returns-in-None : goal.returns-in-None
returns-in-None c = (λ t. absurd (cc), λ h. absurd (item_missing c.args.nodes.now c.args.x h.0 c.in-None.ensures.lookup.0 h.1))
