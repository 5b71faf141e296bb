use Rattle.std.proofs.Common.{sym, ap, ◌∙◌}
use Rattle.std.proofs.lemmas.Bool.{false≢true}
use Rattle.vf_formula.specs.Heads.{shown_head}
use Rattle.vf_question.proofs.Plainness.{not_over}
use Rattle.vf_question.proofs.plain.is_plain_over.Goals as goal

pub returns-then-not-is_empty : goal.returns-then-not-is_empty
returns-then-not-is_empty c =
    (λ k. absurd (false≢true k), λ k. absurd (not_over (shown_head c.args.head.now) c.in-Number.z c.args.parts.now (ap shown_head c.in-Number.is) (λ e. false≢true (sym c.if-not-is_empty.true ∙ c.is_empty.ensures.1 e)) k))
