use Rattle.std.proofs.Common.{sym, subst, below_more}
use Rattle.std.specs.Prelude.{slice_index}
use Rattle.vf_closure.specs.Terms.{Term}
use Rattle.vf_question.specs.Plain.{IsPlain}
use Rattle.vf_question.specs.Questions.{at}
use Rattle.vf_unfolding.specs.Searched.{IsUnfolded}
use Rattle.vf_unfolding.proofs.Standing.{at_index}
use Rattle.vf_unfolding.proofs.searching.find_next.Goals as goal

pub next_of-requires-clause-application : goal.next_of-requires-clause-application
next_of-requires-clause-application g c = subst IsPlain (sym c.index-terms-i.is) (c.requires.plain c.loop-i.i c.index-terms-i.result c.loop-i-test.true)

pub loop-i-preserved : goal.loop-i-preserved
loop-i-preserved g c =
    below_more (λ k. IsUnfolded (g.U.Unfolder.unfoldings c.args.unfolder.now) c.args.made.now c.args.interning.now.literals c.args.terms.now c.args.depths.now (at c.args.terms.now k) (slice_index c.args.depths.now k)) c.loop-i.i c.loop-i.invariant
    (subst (λ (t : Term). IsUnfolded (g.U.Unfolder.unfoldings c.args.unfolder.now) c.args.made.now c.args.interning.now.literals c.args.terms.now c.args.depths.now t (slice_index c.args.depths.now c.loop-i.i))
    (sym (at_index c.args.terms.now c.loop-i.i c.index-terms-i.result c.loop-i-test.true c.index-terms-i.is)) (rw c.in_default.is at c.in_ok-next.ensures))
