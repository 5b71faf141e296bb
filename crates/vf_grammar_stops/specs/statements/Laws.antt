-- Where a token is refused, no statement could go on.
use Rattle.std.specs.Prelude.{◌≡◌, ℕ, false, List, Some, Err}
use Rattle.vf_lexer.specs.declared.token.Token.{Token}
use Rattle.vf_syntax.specs.declared.keyword.Keyword.TheVariants.{Else}
use Rattle.vf_syntax.specs.declared.side.Side.TheVariants.{Real, Ghost}
use Rattle.vf_syntax.specs.declared.side.Grammar.TheVariants.{Plain}
use Rattle.vf_syntax.specs.declared.item.Body.{Body}
use Rattle.vf_syntax.specs.StmtTree.{StmtTree}
use Rattle.vf_syntax.specs.Walks.{head_has, is_word}
use Rattle.vf_syntax.specs.Statements.{stmt}
use Rattle.vf_syntax.specs.Units.{body}
use Rattle.vf_cursor.specs.declared.fault.Fault.TheVariants.{Syntax}
use Rattle.vf_parse_statement.specs.Annotations.{reads_none}
use Rattle.vf_parse_statement.specs.Parsers.{stmt_at, body_at}
use Rattle.vf_grammar_stops.specs.types.Stops.{BeginsUpTo}

-- a token is refused in a statement without annotations only where no tokens that are alike up to it begin with such a statement, however deep it nests, before what is no `else`
abbrev pub PlainStatementsStopAlike : Type 0
PlainStatementsStopAlike = (d : ℕ) (ts other rest : List Token) (k : ℕ) (x : StmtTree) → stmt_at Plain reads_none reads_none d ts ≡ Err (Syntax k) → BeginsUpTo ts k other → stmt Plain x other ≡ Some rest
    → head_has (is_word Real Else) rest ≡ false → head_has (is_word Ghost Else) rest ≡ false → ⊥

-- the same of the body of a function, whatever stands behind it
abbrev pub PlainBodiesStopAlike : Type 0
PlainBodiesStopAlike = (d : ℕ) (ts other rest : List Token) (k : ℕ) (x : Body) → body_at Plain reads_none reads_none d ts ≡ Err (Syntax k) → BeginsUpTo ts k other → body Plain x other ≡ Some rest → ⊥
