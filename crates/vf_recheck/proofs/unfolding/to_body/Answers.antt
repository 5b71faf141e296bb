use Rattle.std.proofs.Common.{List, sym, subst}
use Rattle.vf_closure.specs.Terms.{Term}
use Rattle.vf_recheck.specs.Refutations.{IsBodyAt}
use Rattle.vf_recheck.proofs.unfolding.to_body.Goals as goal

pub returns-clause-told : goal.returns-clause-told
returns-clause-told g c = λ d ts h w. (rw c.in-None.is at c.in_ok-body.ensures) h.body (subst (λ (us : List Term). IsBodyAt (g.U.Unfolder.unfoldings c.args.unfolder.now) us c.args.number h.body) (sym c.deref.ensures.value) h.is)
