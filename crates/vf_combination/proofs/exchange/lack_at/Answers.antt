use Rattle.std.proofs.Common.{◌≡◌, refl, true, false}
use Rattle.vf_combination.proofs.exchange.lack_at.Goals as goal

pub returns-then-not-are_integers : goal.returns-then-not-are_integers
returns-then-not-are_integers c = let n = rw c.nodes.ensures at c.if-not-are_integers.ensures in record {
  level = λ i j s. absurd (let e : false ≡ true = n.1 (i, j) in cc);
  squeezed = λ i j h k. absurd (let e : false ≡ true = n.1 (i, j) in cc);
}

pub returns-then-same : goal.returns-then-same
returns-then-same c = let n = rw c.nodes.ensures at c.if-not-are_integers.ensures in let i = n.0 refl in
    (i.0, i.1, c.if-same.ensures.0 refl, λ h. let e : false ≡ true = c.if-is_near.ensures.1 h in cc)

pub returns-then-are_level : goal.returns-then-are_level
returns-then-are_level c = let n = rw c.nodes.ensures at c.if-not-are_integers.ensures in let i = n.0 refl in let l = c.if-are_level.ensures.0 refl in
    (i.0, i.1, l.0, l.1, λ h. let e : false ≡ true = c.if-same.ensures.1 h in cc)
