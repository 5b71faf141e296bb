use Rattle.std.proofs.Common.{◌≡◌, subst}
use Rattle.vf_table.specs.declared.node.Node.{Node}
use Rattle.vf_table.specs.Tables.{AreClashing}
use Rattle.vf_table.proofs.Reading.{item_read, item_missing}
use Rattle.vf_table.proofs.node.have_clashing_heads.Goals as goal

pub returns-in-Some-get : goal.returns-in-Some-get
returns-in-Some-get c =
    let x = item_read c.args.nodes.now c.args.x c.in-Some.m.now c.in-Some.ensures.lookup.0 c.in-Some.ensures.lookup.1 in
    let y = item_read c.args.nodes.now c.args.y c.in-Some-get.n.now c.in-Some-get.ensures.lookup.0 c.in-Some-get.ensures.lookup.1 in (
      λ t. (c.in-Some.m.now, c.in-Some-get.n.now, x, y, c.are_clashing.ensures.0 t),
      λ h. let p = h.2 in let q = h.3 in
          let i : h.0 ≡ c.in-Some.m.now = cc in let j : h.1 ≡ c.in-Some-get.n.now = cc in
          c.are_clashing.ensures.1 (subst (λ (z : Node). AreClashing z.head c.in-Some-get.n.now.head) i (subst (λ (z : Node). AreClashing h.0.head z.head) j h.4)),
    )

pub returns-in-None-get : goal.returns-in-None-get
returns-in-None-get c = (λ t. absurd (cc), λ h. absurd (item_missing c.args.nodes.now c.args.y h.1 c.in-None-get.ensures.lookup.0 h.3))

pub returns-in-None : goal.returns-in-None
returns-in-None c = (λ t. absurd (cc), λ h. absurd (item_missing c.args.nodes.now c.args.x h.0 c.in-None.ensures.lookup.0 h.2))
