use Rattle.std.proofs.Common.{ap}
use Rattle.vf_arith.specs.Paths.{Network}
use Rattle.vf_arith.proofs.Entries.{cycle_iff}
use Rattle.vf_arith.proofs.Histories.{matrix_of}
use Rattle.vf_arith.proofs.bounds.Bounds.conflict.Goals as goal

pub returns : goal.returns
returns c = rw (← ap (λ (a : Network). a.edges) c.self.view_is) (cycle_iff c.self.inside.width c.self.inside.edges.items c.self.inside.cyclic c.self.inside.matrix.items (matrix_of c.self.inside.size c.self.inside.width c.self.inside.edges.items c.self.inside.cyclic c.self.inside.matrix.items c.self.inside.layers.items c.self.invariant))
