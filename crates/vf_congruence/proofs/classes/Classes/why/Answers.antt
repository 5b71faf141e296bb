use Rattle.std.proofs.Common.{arith}
use Rattle.vf_congruence.proofs.classes.Classes.why.Goals as goal

pub derive_equality-requires-clause-terms : goal.derive_equality-requires-clause-terms
derive_equality-requires-clause-terms c = λ x y w.
    let t = c.self.invariant.terms x y (rw c.deref-2.ensures.value at w) in
    let e = c.self.invariant.long in
    rw c.deref.ensures.value (omega arith, omega arith)
