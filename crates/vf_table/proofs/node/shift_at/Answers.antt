use Rattle.std.proofs.Common.{arith, rules, subst, sym}
use Rattle.std.proofs.lemmas.Int.{to_z-of_z}
use Rattle.vf_table.specs.Tables.{IsNumber}
use Rattle.vf_table.proofs.Reading.{item_read, number_read, same_node}
use Rattle.vf_table.proofs.node.shift_at.Goals as goal

pub returns-in_err-number : goal.returns-in_err-number
returns-in_err-number c = rw c.from_residual-in_err-number.ensures (λ q k p.
    let x = item_read c.args.nodes.now c.args.a c.in_ok-node.node.now c.in_ok-node.ensures.lookup.0 c.in_ok-node.ensures.lookup.1 in
    let r = number_read c.in_ok-node.node.now.parts.items 1 c.index.result.now (omega (arith, c.if-len-ne2.false, c.len.ensures)) c.index.ensures in
    c.in_err-number.ensures k (subst (λ z. IsNumber c.args.nodes.now z k) r (same_node c.args.nodes.now c.args.a q c.in_ok-node.node.now k p x)))

pub returns : goal.returns
returns c =
    let x = item_read c.args.nodes.now c.args.a c.in_ok-node.node.now c.in_ok-node.ensures.lookup.0 c.in_ok-node.ensures.lookup.1 in
    let n : mir.Val.SFits mir.Syntax.w128 c.in_ok-number.number = search rules in
    let r = number_read c.in_ok-node.node.now.parts.items 1 c.index.result.now (omega (arith, c.if-len-ne2.false, c.len.ensures)) c.index.ensures in
    let s = number_read c.in_ok-node.node.now.parts.items 0 c.index-2.result.now (omega (arith, c.if-len-ne2.false, c.len.ensures)) c.index-2.ensures in
    simp to_z-of_z (record {
      node = c.in_ok-node.node.now;
      found = x;
      head = c.is_plus.ensures.0 (search rules);
      two = omega (arith, c.if-len-ne2.false, c.len.ensures);
      part = s;
      number = subst (λ z. IsNumber c.args.nodes.now z c.in_ok-number.number) (sym r) c.in_ok-number.ensures;
    })
