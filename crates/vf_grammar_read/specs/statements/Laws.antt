-- What is spelled is read.
use Rattle.std.specs.Prelude.{◌≡◌, ℕ, ◌+◌, ◌≤◌, true, false, List, Some}
use Rattle.vf_lexer.specs.declared.token.Token.{Token}
use Rattle.vf_lexer.specs.declared.punctuator.Punctuator.TheVariants.{CloseBrace}
use Rattle.vf_syntax.specs.declared.keyword.Keyword.TheVariants.{Else}
use Rattle.vf_syntax.specs.declared.side.Side.TheVariants.{Real, Ghost}
use Rattle.vf_syntax.specs.declared.side.Grammar.{Grammar}
use Rattle.vf_syntax.specs.declared.side.Grammar.TheVariants.{Plain}
use Rattle.vf_syntax.specs.declared.contract.Invariant.{Invariant}
use Rattle.vf_syntax.specs.declared.item.Body.{Body}
use Rattle.vf_syntax.specs.GhostCommandTree.{GhostCommandTree}
use Rattle.vf_syntax.specs.StmtTree.{StmtTree, stmt_list}
use Rattle.vf_syntax.specs.Walks.{head_has, is_mark, is_word}
use Rattle.vf_syntax.specs.Statements.{stmt, stmt_nesting, stmts, stmts_nesting}
use Rattle.vf_syntax.specs.Units.{body}
use Rattle.vf_cursor.specs.Parsing.{Parser, ok}
use Rattle.vf_parse_statement.specs.Parsers.{stmt_at, stmts_at, body_at}
use Rattle.vf_grammar_read.specs.statements.Annotations.{FullTexts}

-- where what is spelled in annotations is read: a statement that tokens spell, and that nests no deeper than it may, is read from them, where no `else` stands behind it
abbrev pub StatementsAreRead : Type 0
StatementsAreRead = (g : Grammar) (c : ℕ → Parser GhostCommandTree) (i : ℕ → Parser Invariant) → FullTexts g c i
    → (d : ℕ) (x : StmtTree) (ts rest : List Token) → stmt g x ts ≡ Some rest → stmt_nesting x + 1 ≤ d → head_has (is_word Real Else) rest ≡ false → head_has (is_word Ghost Else) rest ≡ false → stmt_at g c i d ts ≡ ok x rest

-- the same of statements one after another, before "}"
abbrev pub ListsAreRead : Type 0
ListsAreRead = (g : Grammar) (c : ℕ → Parser GhostCommandTree) (i : ℕ → Parser Invariant) → FullTexts g c i
    → (d : ℕ) (xs : List StmtTree) (ts rest : List Token) → stmts g (stmt_list xs) ts ≡ Some rest → stmts_nesting (stmt_list xs) ≤ d → head_has (is_mark Real CloseBrace) rest ≡ true → stmts_at g c i d ts ≡ ok xs rest

-- the same of the body of a function, whatever stands behind it
abbrev pub BodiesAreRead : Type 0
BodiesAreRead = (g : Grammar) (c : ℕ → Parser GhostCommandTree) (i : ℕ → Parser Invariant) → FullTexts g c i
    → (d : ℕ) (x : Body) (ts rest : List Token) → body g x ts ≡ Some rest → stmts_nesting (stmt_list x.statements) ≤ d → body_at g c i d ts ≡ ok x rest

-- two bodies without annotations that the same tokens spell are one, places included
abbrev pub PlainBodiesHaveOneReading : Type 0
PlainBodiesHaveOneReading = (x y : Body) (ts rest : List Token) → body Plain x ts ≡ Some rest → body Plain y ts ≡ Some rest → x ≡ y
