-- What is answered where statements may nest deeper.
use Rattle.std.specs.Prelude.{ℕ, ◌<◌, List, length}
use Rattle.vf_lexer.specs.declared.token.Token.{Token}
use Rattle.vf_syntax.specs.declared.side.Grammar.TheVariants.{Plain}
use Rattle.vf_parse_expression.specs.Parsers.{expr_at, postfix_at}
use Rattle.vf_parse_simple.specs.Simples.{simple_at}
use Rattle.vf_parse_statement.specs.Annotations.{reads_none}
use Rattle.vf_parse_statement.specs.Parsers.{stmt_at, body_at}
use Rattle.vf_grammar_depth.specs.expressions.Deep.{Deepens, IsNotTooDeep}

-- where more may nest, an assignment or a call is answered alike, but past each token that was too deep; and nothing is too deep where more may nest than there are tokens
abbrev pub SimplesDeepen : Type 0
SimplesDeepen = (d m : ℕ) (ts : List Token) → d < m → Deepens (simple_at (expr_at d) (postfix_at d) ts) (simple_at (expr_at m) (postfix_at m) ts) × (length ts < m → IsNotTooDeep (simple_at (expr_at m) (postfix_at m) ts))

-- the same of a statement without annotations
abbrev pub PlainStatementsDeepen : Type 0
PlainStatementsDeepen = (d m : ℕ) (ts : List Token) → d < m → Deepens (stmt_at Plain reads_none reads_none d ts) (stmt_at Plain reads_none reads_none m ts) × (length ts < m → IsNotTooDeep (stmt_at Plain reads_none reads_none m ts))

-- the same of the body of a function
abbrev pub PlainBodiesDeepen : Type 0
PlainBodiesDeepen = (d m : ℕ) (ts : List Token) → d < m → Deepens (body_at Plain reads_none reads_none d ts) (body_at Plain reads_none reads_none m ts) × (length ts < m → IsNotTooDeep (body_at Plain reads_none reads_none m ts))
