use Rattle.std.proofs.Common.{sym, subst}
use Rattle.vf_normal.specs.NormalForms.{IsNormal}
use Rattle.vf_truths.specs.Truths.{Statement}
use Rattle.vf_truths.proofs.Bared.{bare_normal}
use Rattle.vf_truths.proofs.truth.truth_literal.Goals as goal

pub bare_literal-requires : goal.bare_literal-requires
bare_literal-requires c = subst (λ (s : Statement). IsNormal s.subject) (sym c.bare-statement.ensures) (bare_normal c.args.term.now c.requires)
