use Rattle.std.proofs.Common.{subst}
use Rattle.std.specs.Prelude.{◌↔◌, IsTrue}
use Rattle.vf_closure.specs.Closure.{no_unfoldings, Conflict}
use Rattle.vf_question.proofs.Bounded.{both}
use Rattle.vf_interning.specs.Interned.{Interned}
use Rattle.vf_interning.proofs.Deciding.{conflicts_agree}
use Rattle.vf_interning.proofs.interning.Interning.refuted.Goals as goal

pub returns : goal.returns
returns c = subst (λ (v : Interned). IsTrue c.refuted.result ↔ Conflict no_unfoldings v.literals) c.self.view_is
    (both c.refuted.ensures (conflicts_agree c.self.inside.combination.nodes c.self.inside.combination.facts c.self.inside.terms.items c.self.invariant.now c.closures_agree.ensures))
