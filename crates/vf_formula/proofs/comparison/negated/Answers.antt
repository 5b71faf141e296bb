use Rattle.std.proofs.Common.{sym, ◌∙◌, subst}
use Rattle.std.proofs.lemmas.Bool.{false≢true}
use Rattle.vf_formula.specs.Linears.{IsSum}
use Rattle.vf_formula.proofs.Calculating.{negated_sum}
use Rattle.vf_formula.proofs.comparison.negated.Goals as goal

pub unreachable-requires : goal.unreachable-requires
unreachable-requires c =
    let e = rw c.in-None.is at c.in_ok-all.ensures in
    false≢true (sym e ∙ (negated_sum c.args.atoms.now c.requires).small)

pub returns-clause-sum : goal.returns-clause-sum
returns-clause-sum c =
    let e = rw c.in-Some.is at c.in_ok-all.ensures in
    subst IsSum (sym e) (negated_sum c.args.atoms.now c.requires)
