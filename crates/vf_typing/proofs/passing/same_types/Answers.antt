use Rattle.std.proofs.Common.{sym, ◌∙◌}
use Rattle.vf_typing.proofs.Signatures.{same_more}
use Rattle.vf_typing.proofs.passing.same_types.Goals as goal

pub loop-at-preserved : goal.loop-at-preserved
loop-at-preserved c = same_more c.args.first.now c.args.second.now c.loop-at.at c.in-Some-Some.one.now c.in-Some-Some.other.now _ (sym c.in-Some-Some.ensures) (sym c.in-Some-Some.ensures') (sym c.same.ensures ∙ c.if-not-same.false) c.loop-at.invariant
