-- What is known of what is read.
use Rattle.std.specs.Prelude.{◌≡◌, ℕ, ◌+◌, ◌≤◌, List, Some}
use Rattle.vf_lexer.specs.declared.token.Token.{Token}
use Rattle.vf_syntax.specs.declared.side.Grammar.{Grammar}
use Rattle.vf_syntax.specs.declared.contract.Invariant.{Invariant}
use Rattle.vf_syntax.specs.declared.item.Body.{Body}
use Rattle.vf_syntax.specs.GhostCommandTree.{GhostCommandTree}
use Rattle.vf_syntax.specs.StmtTree.{StmtTree, stmt_list}
use Rattle.vf_syntax.specs.Statements.{stmt, stmt_nesting, stmts, stmts_nesting}
use Rattle.vf_syntax.specs.Units.{body}
use Rattle.vf_cursor.specs.Parsing.{Parser, ok}
use Rattle.vf_parse_statement.specs.Annotations.{ReadsCommands, ReadsInvariants}
use Rattle.vf_parse_statement.specs.Parsers.{stmt_at, stmts_at, body_at}

-- where what is read of annotations is spelled, the tokens that were taken spell the statement, which nests no deeper than it may
abbrev pub StatementsAreSpelled : Type 0
StatementsAreSpelled = (g : Grammar) (c : ℕ → Parser GhostCommandTree) (i : ℕ → Parser Invariant) → ReadsCommands c → ReadsInvariants i
    → (d : ℕ) (ts : List Token) (x : StmtTree) (rest : List Token) → stmt_at g c i d ts ≡ ok x rest → (stmt g x ts ≡ Some rest) × (stmt_nesting x + 1 ≤ d)

-- the same of statements one after another
abbrev pub ListsAreSpelled : Type 0
ListsAreSpelled = (g : Grammar) (c : ℕ → Parser GhostCommandTree) (i : ℕ → Parser Invariant) → ReadsCommands c → ReadsInvariants i
    → (d : ℕ) (ts : List Token) (xs : List StmtTree) (rest : List Token) → stmts_at g c i d ts ≡ ok xs rest → (stmts g (stmt_list xs) ts ≡ Some rest) × (stmts_nesting (stmt_list xs) ≤ d)

-- the same of the body of a function
abbrev pub BodiesAreSpelled : Type 0
BodiesAreSpelled = (g : Grammar) (c : ℕ → Parser GhostCommandTree) (i : ℕ → Parser Invariant) → ReadsCommands c → ReadsInvariants i
    → (d : ℕ) (ts : List Token) (x : Body) (rest : List Token) → body_at g c i d ts ≡ ok x rest → (body g x ts ≡ Some rest) × (stmts_nesting (stmt_list x.statements) ≤ d)
