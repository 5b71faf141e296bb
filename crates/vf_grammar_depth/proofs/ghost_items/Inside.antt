-- What stands inside of contracts, invariants and ghost items.
use Rattle.std.proofs.Common.{ℕ}
use Rattle.vf_parse_term.specs.Sorts.{sort_at}
use Rattle.vf_parse_term.specs.Terms.{term_at}
use Rattle.vf_parse_assertion.specs.Parsers.{assertion_at}
use Rattle.vf_parse_command.specs.Commands.{body_at}
use Rattle.vf_grammar_depth.proofs.expressions.Deeper.{Deeper}

-- what stands inside of a ghost item goes past what was too deep at depth d, where it may nest m deep
pub record Inside (j d m : ℕ) : Type 0 where
  pub sorts : Deeper j (sort_at d) (sort_at m)
  pub terms : Deeper j (term_at d) (term_at m)
  pub assertions : Deeper j (assertion_at d) (assertion_at m)
  pub lemma_bodies : Deeper j (body_at d) (body_at m)
