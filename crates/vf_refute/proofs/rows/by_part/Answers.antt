use Rattle.std.proofs.Common.{◌≡◌, subst}
use Rattle.vf_refute.specs.Refutations.{AreParts}
use Rattle.vf_refute.proofs.rows.by_part.Goals as goal

pub returns-in_err-parts : goal.returns-in_err-parts
returns-in_err-parts c = rw c.from_residual-in_err-parts.ensures (λ d h l.
    let known = c.in_ok-p.ensures in
    let has = h.equal in
    let e : h.x ≡ c.in_ok-p.p.left = cc in
    let f : h.y ≡ c.in_ok-p.p.right = cc in
    c.in_err-parts.ensures h.p h.q
    (subst (λ z. AreParts c.args.nodes.now c.in_ok-p.p.left z c.args.i h.p h.q) f
    (subst (λ z. AreParts c.args.nodes.now z h.y c.args.i h.p h.q) e h.parts)))
