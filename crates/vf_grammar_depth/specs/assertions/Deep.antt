-- What is answered where assertions may nest deeper.
use Rattle.std.specs.Prelude.{ℕ, suc, ◌+◌, ◌<◌, List, length}
use Rattle.vf_lexer.specs.declared.token.Token.{Token}
use Rattle.vf_parse_assertion.specs.Parsers.{assertion_at}
use Rattle.vf_grammar_depth.specs.expressions.Deep.{Deepens, IsNotTooDeep}

-- where two more may nest, an assertion is answered alike, but past each token that was too deep; and nothing is too deep where more may nest than twice as many as there are tokens, and one
abbrev pub AssertionsDeepen : Type 0
AssertionsDeepen = (d m : ℕ) (ts : List Token) → suc d < m → Deepens (assertion_at d ts) (assertion_at m ts) × (suc (length ts + length ts) < m → IsNotTooDeep (assertion_at m ts))
