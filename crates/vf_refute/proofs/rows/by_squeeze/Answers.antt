use Rattle.std.proofs.Common.{◌≡◌, true, false, subst}
use Rattle.vf_table.specs.Tables.{IsInteger}
use Rattle.vf_refute.proofs.rows.by_squeeze.Goals as goal

pub returns-then-not-is_integer : goal.returns-then-not-is_integer
returns-then-not-is_integer c = λ d h l.
    let known = c.in_ok-p.ensures in
    let has = h.first in
    let e : h.x ≡ c.in_ok-p.p.left = cc in
    let f : false ≡ true = c.if-not-is_integer.ensures.1 (subst (IsInteger c.args.nodes.now) e h.left) in cc

pub returns-then-not-is_integer-2 : goal.returns-then-not-is_integer-2
returns-then-not-is_integer-2 c = λ d h l.
    let known = c.in_ok-p.ensures in
    let has = h.first in
    let e : h.y ≡ c.in_ok-p.p.right = cc in
    let f : false ≡ true = c.if-not-is_integer-2.ensures.1 (subst (IsInteger c.args.nodes.now) e h.right) in cc
