use Rattle.std.proofs.Common.{◌≡◌, true, false, refl, below_more, arith}
use Rattle.vf_ground.specs.Held.{Clash}
use Rattle.vf_refuting.proofs.verdict.clash_beside.Goals as goal

pub loop-y-preserved : goal.loop-y-preserved
loop-y-preserved c = below_more (λ k. Clash c.args.classes.now.nodes c.args.classes.now.merged c.args.x k → ⊥) c.loop-y.y c.loop-y.invariant
    (λ p. let e : false ≡ true = c.if-is_clash.ensures.1 p in cc)

pub returns-then-is_clash : goal.returns-then-is_clash
returns-then-is_clash c = (omega arith, c.if-is_clash.ensures.0 refl)
