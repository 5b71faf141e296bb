-- What is answered where ghost commands may nest deeper.
use Rattle.std.specs.Prelude.{ℕ, suc, ◌+◌, ◌<◌, List, length}
use Rattle.vf_lexer.specs.declared.token.Token.{Token}
use Rattle.vf_parse_command.specs.Commands.{command_at, body_at}
use Rattle.vf_grammar_depth.specs.expressions.Deep.{Deepens, IsNotTooDeep}

-- where two more may nest, a ghost command is answered alike, but past each token that was too deep; and nothing is too deep where more may nest than twice as many as there are tokens, and one
abbrev pub CommandsDeepen : Type 0
CommandsDeepen = (d m : ℕ) (ts : List Token) → suc d < m → Deepens (command_at d ts) (command_at m ts) × (suc (length ts + length ts) < m → IsNotTooDeep (command_at m ts))

-- the same of the body of a lemma
abbrev pub GhostBodiesDeepen : Type 0
GhostBodiesDeepen = (d m : ℕ) (ts : List Token) → suc d < m → Deepens (body_at d ts) (body_at m ts) × (suc (length ts + length ts) < m → IsNotTooDeep (body_at m ts))
