use Rattle.std.proofs.Common.{ap}
use Rattle.vf_arith.specs.Paths.{Network}
use Rattle.vf_arith.proofs.Histories.{matrix_of, within}
use Rattle.vf_arith.proofs.bounds.Bounds.edges.Goals as goal

pub returns-clause-points : goal.returns-clause-points
returns-clause-points c =
    rw (← ap (λ (a : Network). a.size) c.self.view_is, ← ap (λ (a : Network). a.edges) c.self.view_is)
    (λ e m. let p = (within c.self.inside.size c.self.inside.width c.self.inside.edges.items c.self.inside.cyclic c.self.inside.matrix.items c.self.inside.layers.items c.self.invariant).1 e m in (p.0, p.1, (matrix_of c.self.inside.size c.self.inside.width c.self.inside.edges.items c.self.inside.cyclic c.self.inside.matrix.items c.self.inside.layers.items c.self.invariant).small e m))
