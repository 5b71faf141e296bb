use Rattle.std.proofs.Common.{◌≡◌, length, drop, arith}
use Rattle.vf_arith.specs.Matrices.{distance}
use Rattle.vf_arith.proofs.Entries.{written}
use Rattle.vf_arith.proofs.Histories.{popped_kept, kept_back, points_back, saved_points, saved_one}
use Rattle.vf_arith.proofs.bounds.Bounds.undo_last.Goals as goal

pub points_before-self-inside-requires : goal.points_before-self-inside-requires
points_before-self-inside-requires c = points_back c.self.inside.size c.self.inside.width c.self.inside.edges.items c.self.inside.cyclic c.self.inside.matrix.items c.self.inside.layers.items c.pop.new.self.items c.in-Some.layer c.self.invariant c.in-Some.ensures.items

pub restore-requires-clause-points : goal.restore-requires-clause-points
restore-requires-clause-points c =
    let p = popped_kept c.self.inside.size c.self.inside.width c.self.inside.edges.items c.self.inside.cyclic c.self.inside.matrix.items c.self.inside.layers.items c.pop.new.self.items c.in-Some.layer c.self.invariant c.in-Some.ensures.items in
    saved_points c.self.inside.width c.in-Some.layer.saved.items c.deref.result.now p.distances (distance c.self.inside.width c.self.inside.matrix.items) p.saved c.deref.ensures.value

pub restore-requires-clause-one : goal.restore-requires-clause-one
restore-requires-clause-one c =
    let p = popped_kept c.self.inside.size c.self.inside.width c.self.inside.edges.items c.self.inside.cyclic c.self.inside.matrix.items c.self.inside.layers.items c.pop.new.self.items c.in-Some.layer c.self.invariant c.in-Some.ensures.items in
    saved_one c.self.inside.width c.in-Some.layer.saved.items c.deref.result.now p.distances (distance c.self.inside.width c.self.inside.matrix.items) p.saved c.deref.ensures.value

pub invariant_of-self : goal.invariant_of-self
invariant_of-self c =
    let long : length c.restore.new.matrix ≡ length c.self.inside.matrix.items = omega (arith, c.restore.auto.matrix, c.deref_mut.ensures.len, c.self.inside.matrix.ok.0) in
    let back = written c.self.inside.matrix.len c.restore.new.matrix (drop (length c.restore.new.matrix) c.self.inside.matrix.items) (omega (arith, c.self.inside.matrix.ok.0, long)) in
    rw (back, c.points_before-self-inside.ensures, c.take_back.ensures)
    (kept_back c.self.inside.size c.self.inside.width c.self.inside.edges.items c.self.inside.cyclic c.self.inside.matrix.items c.restore.new.matrix c.self.inside.layers.items c.pop.new.self.items c.in-Some.layer c.self.invariant c.in-Some.ensures.items long
    (rw c.deref.ensures.value at c.restore.ensures.put)
    (rw (c.deref.ensures.value, c.deref_mut.ensures.value) at c.restore.ensures.each))
