use Rattle.std.proofs.Common.{◌≡◌, subst, rules}
use Rattle.std.proofs.lemmas.Int.{to_z-of_z}
use Rattle.vf_table.specs.declared.node.Head.TheVariants.{Number}
use Rattle.vf_table.specs.declared.node.Node.{Node}
use Rattle.vf_table.proofs.Reading.{item_read}
use Rattle.vf_table.proofs.node.number_at.Goals as goal

pub returns-in-Number : goal.returns-in-Number
returns-in-Number c =
    let f : mir.Val.SFits mir.Syntax.w128 c.in-Number.c = search rules in
    simp to_z-of_z (c.in_ok-c.field-0.now, item_read c.args.nodes.now c.args.x c.in_ok-c.field-0.now c.in_ok-c.ensures.lookup.0 c.in_ok-c.ensures.lookup.1, c.in-Number.is)

pub returns-in_default : goal.returns-in_default
returns-in_default c = λ k h.
    let x = item_read c.args.nodes.now c.args.x c.in_ok-c.field-0.now c.in_ok-c.ensures.lookup.0 c.in_ok-c.ensures.lookup.1 in
    let p = h.1 in let i : h.0 ≡ c.in_ok-c.field-0.now = cc in c.in_default.not-Number k (subst (λ (z : Node). z.head ≡ Number k) i h.2)
