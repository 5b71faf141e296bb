use Rattle.std.proofs.Common.{◌++◌, ap, ◌∙◌, arith}
use Rattle.vf_formula.specs.Rows.{row}
use Rattle.vf_formula.proofs.Merging.{take_whole}
use Rattle.vf_definitions.proofs.Rows.{row_followed}
use Rattle.vf_definitions.proofs.unfolding.followed_by.Goals as goal

pub returns : goal.returns
returns c =
    ap row (c.loop-other.invariant ∙ ap (λ us. c.args.terms.now ++ us) (take_whole c.loop-other.other-index c.as_slice-other-items.result.now (omega (arith, c.loop-other-test.false)) ∙ c.as_slice-other-items.ensures))
    ∙ row_followed c.args.terms.now c.args.others.now
