use Rattle.std.proofs.Common.{sym}
use Rattle.vf_resolving.proofs.Lists.{place_on}
use Rattle.vf_resolving.proofs.cases.place_among.Goals as goal

pub loop-at-preserved : goal.loop-at-preserved
loop-at-preserved c = place_on c.args.numbers.now c.loop-at.at c.in-Some.one.now c.args.number (sym c.in-Some.ensures) c.if-one-number.false c.loop-at.invariant
