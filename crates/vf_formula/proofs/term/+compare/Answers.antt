use Rattle.std.proofs.Common.{arith}
use Rattle.std.proofs.lemmas.Grind.{common_steps}
use Rattle.vf_formula.proofs.Comparing.{rows_ended}
use Rattle.vf_formula.proofs.term.+compare.Goals as goal

pub TermList::compare-returns : goal.TermList::compare-returns
TermList::compare-returns t c =
    let e = rows_ended c.loop-i.i c.self.inside.items.items c.other.inside.items.items (omega arith) in
    grind (arith, common_steps, e)
