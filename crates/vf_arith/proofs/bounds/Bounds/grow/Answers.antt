use Rattle.std.proofs.Common.{◌∙◌, ap, refl, length}
use Rattle.std.specs.Prelude.{◌*◌}
use Rattle.vf_arith.proofs.Histories.{kept_point, kept_wider, full}
use Rattle.vf_arith.proofs.bounds.Bounds.grow.Goals as goal

pub invariant_of-self-then-point-self : goal.invariant_of-self-then-point-self
invariant_of-self-then-point-self c = rw c.in_ok-push.ensures.items
    (kept_point c.self.inside.size c.self.inside.width c.self.inside.edges.items c.self.inside.cyclic c.self.inside.matrix.items c.self.inside.layers.items _ c.self.invariant c.if-point-self.true refl refl c.new.ensures.items)

pub invariant_of-self-2 : goal.invariant_of-self-2
invariant_of-self-2 c = rw c.in_ok-push-2.ensures.items
    (kept_wider c.self.inside.size c.self.inside.width c.more_room-width.result c.self.inside.edges.items c.self.inside.cyclic c.self.inside.matrix.items c.deref.result.now c.in_ok-matrix.matrix.items c.self.inside.layers.items _ c.self.invariant
    c.if-point-self.false c.more_room-width.ensures.more c.more_room-width.ensures.few c.deref.ensures.value c.in_ok-matrix.ensures.long c.in_ok-matrix.ensures.entries refl refl c.new.ensures.items)

pub widened-requires-clause-long : goal.widened-requires-clause-long
widened-requires-clause-long c = ap length c.deref.ensures.value ∙ c.self.invariant.long
    ∙ ap (λ k. k * k) (full c.self.inside.size c.self.inside.width c.self.inside.edges.items c.self.inside.cyclic c.self.inside.matrix.items c.self.inside.layers.items c.self.invariant c.if-point-self.false)
