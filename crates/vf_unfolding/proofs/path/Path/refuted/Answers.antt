use Rattle.std.proofs.Common.{map, subst}
use Rattle.std.specs.Prelude.{IsTrue, ◌↔◌}
use Rattle.vf_closure.specs.Closure.{Unfoldings, Conflict}
use Rattle.vf_formula.specs.Literals.{shown_literal}
use Rattle.vf_unfolding.specs.Rounds.{AreEnough}
use Rattle.vf_unfolding.specs.Walked.{Walked}
use Rattle.vf_unfolding.proofs.Looping.{refuted_is}
use Rattle.vf_unfolding.proofs.path.Path.refuted.Goals as goal

pub returns : goal.returns
returns c =
    subst (λ (w : Walked). (u : Unfoldings) → AreEnough u w.now.facts w.now.made → IsTrue c.refuted.result ↔ Conflict u w.now.facts) c.self.view_is
    (refuted_is c.self.inside.interning.literals (map shown_literal c.self.inside.facts.items) c.self.inside.made.items c.self.inside.asked.items c.refuted.result c.self.invariant.now c.refuted.ensures)
