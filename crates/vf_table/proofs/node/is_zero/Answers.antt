use Rattle.std.proofs.Common.{◌≡◌, subst, arith, rules}
use Rattle.std.specs.Prelude.{ℤ, pos}
use Rattle.std.proofs.lemmas.Int.{ints}
use Rattle.vf_table.specs.declared.node.Head.TheVariants.{Number}
use Rattle.vf_table.specs.declared.node.Node.{Node}
use Rattle.vf_table.proofs.Reading.{item_read, item_missing}
use Rattle.vf_table.proofs.node.is_zero.Goals as goal

pub returns-in-Number : goal.returns-in-Number
returns-in-Number c =
    let x = item_read c.args.nodes.now c.args.x c.in-Some.node.now c.in-Some.ensures.lookup.0 c.in-Some.ensures.lookup.1 in
    let g : mir.Val.SFits mir.Syntax.w128 c.in-Number.c = search rules in (
      λ t. let l : c.in-Number.c ≡ pos 0 = grind (arith, ints) in (c.in-Some.node.now, x, subst (λ (z : ℤ). c.in-Some.node.now.head ≡ Number z) l c.in-Number.is),
      λ h. let p = h.1 in let i : h.0 ≡ c.in-Some.node.now = cc in
          let j : c.in-Some.node.now.head ≡ Number (pos 0) = subst (λ (z : Node). z.head ≡ Number (pos 0)) i h.2 in
          let q = c.in-Number.is in let l : c.in-Number.c ≡ pos 0 = cc in grind (arith, ints),
    )

pub returns-in_default : goal.returns-in_default
returns-in_default c =
    let x = item_read c.args.nodes.now c.args.x c.in-Some.node.now c.in-Some.ensures.lookup.0 c.in-Some.ensures.lookup.1 in (
      λ t. absurd (cc),
      λ h. let p = h.1 in let i : h.0 ≡ c.in-Some.node.now = cc in absurd (c.in_default.not-Number (pos 0) (subst (λ (z : Node). z.head ≡ Number (pos 0)) i h.2)),
    )

pub returns-in-None : goal.returns-in-None
returns-in-None c = (λ t. absurd (cc), λ h. absurd (item_missing c.args.nodes.now c.args.x h.0 c.in-None.ensures.lookup.0 h.1))
