use Rattle.std.proofs.Common.{sym, ◌∙◌}
use Rattle.vf_declared.proofs.Loops.{has_here, has_more}
use Rattle.vf_declared.proofs.lookup.has.Goals as goal

pub returns-then-one-number : goal.returns-then-one-number
returns-then-one-number c = sym (has_here c.args.numbers.now c.loop-at.at c.in-Some.one.now c.args.number (sym c.in-Some.ensures) c.if-one-number.true) ∙ c.loop-at.invariant

pub loop-at-preserved : goal.loop-at-preserved
loop-at-preserved c = has_more c.args.numbers.now c.loop-at.at c.in-Some.one.now c.args.number _ (sym c.in-Some.ensures) c.if-one-number.false c.loop-at.invariant
