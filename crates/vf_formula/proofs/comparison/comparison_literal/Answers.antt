use Rattle.std.proofs.Common.{sym, subst}
use Rattle.vf_normal.specs.Sums.{Linear}
use Rattle.vf_formula.specs.Linears.{IsSum}
use Rattle.vf_formula.proofs.Calculating.{form_is_sum}
use Rattle.vf_formula.proofs.comparison.comparison_literal.Goals as goal

pub by_difference-requires-clause-left_sum : goal.by_difference-requires-clause-left_sum
by_difference-requires-clause-left_sum c =
    subst (λ (f : Linear). IsSum f.atoms) (sym c.in_ok-first.ensures) (form_is_sum c.args.left.now c.requires.left)

pub by_difference-requires-clause-right_sum : goal.by_difference-requires-clause-right_sum
by_difference-requires-clause-right_sum c =
    subst (λ (f : Linear). IsSum f.atoms) (sym c.in_ok-second.ensures) (form_is_sum c.args.right.now c.requires.right)
