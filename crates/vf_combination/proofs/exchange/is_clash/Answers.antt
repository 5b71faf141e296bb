use Rattle.std.proofs.Common.{◌≡◌, refl, true, false}
use Rattle.vf_combination.proofs.exchange.is_clash.Goals as goal

pub returns-then-have_clashing_heads : goal.returns-then-have_clashing_heads
returns-then-have_clashing_heads c = let h = rw c.nodes.ensures at c.if-have_clashing_heads.ensures in
    (λ t. record { heads = h.0 refl; same = c.same.ensures.0 t }, λ p. c.same.ensures.1 p.same)

pub returns-else-have_clashing_heads : goal.returns-else-have_clashing_heads
returns-else-have_clashing_heads c = let h = rw c.nodes.ensures at c.if-have_clashing_heads.ensures in
    let e = c.if-have_clashing_heads.false in
    (λ t. absurd (cc), λ p. absurd (let g : false ≡ true = h.1 p.heads in cc))
