use Rattle.std.proofs.Common.{arith}
use Rattle.vf_growing.proofs.growing.GrowingClasses.why.Goals as goal

pub derive_equality-requires-clause-terms : goal.derive_equality-requires-clause-terms
derive_equality-requires-clause-terms c = λ x y w.
    let t = c.self.invariant.least.terms x y (rw c.deref-2.ensures.value at w) in
    let e = c.self.invariant.least.long in
    rw c.deref.ensures.value (omega arith, omega arith)
