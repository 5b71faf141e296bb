use Rattle.std.proofs.Common.{arith}
use Rattle.vf_congruence.proofs.classes.derive_equality.Goals as goal

pub derive_from-requires-clause-terms : goal.derive_from-requires-clause-terms
derive_from-requires-clause-terms c = λ x y w.
    let t = c.requires.terms x y w in
    let e = c.in_ok-labels.ensures.0 in
    (omega (arith, c.deref_mut.ensures.len, c.in_ok-labels.labels.ok.0), omega (arith, c.deref_mut.ensures.len, c.in_ok-labels.labels.ok.0))
