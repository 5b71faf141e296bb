use Rattle.std.proofs.Common.{List, subst}
use Rattle.std.specs.Prelude.{IsTrue, ◌↔◌}
use Rattle.vf_closure.specs.Literals as pure
use Rattle.vf_closure.specs.Closure.{Conflict}
use Rattle.vf_unfolding.proofs.deciding.refuted.Goals as goal

pub returns-in-Some : goal.returns-in-Some
returns-in-Some g c =
    let u = g.U.Unfolder.unfoldings c.args.unfolder.now in
    let h = rw c.in-Some.is at c.in_ok-path.ensures in
    (h.0, subst (λ (ls : List pure.Literal). IsTrue c.refuted.result ↔ Conflict u ls) h.1 (c.refuted.ensures u h.2))
