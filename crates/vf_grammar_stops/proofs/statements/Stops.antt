-- Where a token is refused, no statement could go on.
use Rattle.std.proofs.Common.{◌≡◌, ℕ, ◌+◌, false, List, Some, Err, sym, ◌∙◌, arith}
use Rattle.vf_lexer.specs.declared.token.Token.{Token}
use Rattle.vf_syntax.specs.declared.keyword.Keyword.TheVariants.{Else}
use Rattle.vf_syntax.specs.declared.side.Side.TheVariants.{Real, Ghost}
use Rattle.vf_syntax.specs.declared.side.Grammar.TheVariants.{Plain}
use Rattle.vf_syntax.specs.declared.item.Body.{Body}
use Rattle.vf_syntax.specs.StmtTree.{StmtTree, stmt_list}
use Rattle.vf_syntax.specs.Walks.{head_has, is_word}
use Rattle.vf_syntax.specs.Statements.{stmt, stmt_nesting, stmts_nesting}
use Rattle.vf_syntax.specs.Units.{body}
use Rattle.vf_cursor.specs.declared.fault.Fault.TheVariants.{Syntax}
use Rattle.vf_parse_statement.specs.Annotations.{reads_none}
use Rattle.vf_parse_statement.specs.NoGhosts.{no_commands, no_invariants}
use Rattle.vf_parse_statement.specs.Parsers.{stmt_at, body_at}
use Rattle.vf_grammar_read.proofs.statements.StmtFull.{plain_texts, statement_full, bodies_full}
use Rattle.vf_grammar_stops.specs.types.Stops.{BeginsUpTo}
use Rattle.vf_grammar_stops.proofs.types.Local.{fail_like, stops_too}
use Rattle.vf_grammar_stops.proofs.simple_statements.Stops.{apart}
use Rattle.vf_grammar_stops.proofs.statements.StmtAlike.{Alike, statement_like, bodies_like}

-- what reads nothing stops at once
none_alike : {A : Type 0} → Alike (reads_none {A = A})
none_alike d m le = fail_like

pub statements_stop : (d : ℕ) (ts other rest : List Token) (k : ℕ) (x : StmtTree) → stmt_at Plain reads_none reads_none d ts ≡ Err (Syntax k) → BeginsUpTo ts k other → stmt Plain x other ≡ Some rest
    → head_has (is_word Real Else) rest ≡ false → head_has (is_word Ghost Else) rest ≡ false → ⊥
statements_stop d ts other rest k x e begins h real ghost =
    let m = d + (stmt_nesting x + 1) in
    let stop = stops_too {b = false} (statement_like Plain reads_none reads_none no_commands no_invariants none_alike none_alike d m (omega arith)) (Syntax k) tt ts other e begins in
    let read = statement_full Plain reads_none reads_none (plain_texts reads_none reads_none) m x other rest h (omega arith) (record { real = real; ghost = ghost }) in
    apart x rest stop.0 (sym read ∙ stop.1)

pub bodies_stop : (d : ℕ) (ts other rest : List Token) (k : ℕ) (x : Body) → body_at Plain reads_none reads_none d ts ≡ Err (Syntax k) → BeginsUpTo ts k other → body Plain x other ≡ Some rest → ⊥
bodies_stop d ts other rest k x e begins h =
    let m = d + stmts_nesting (stmt_list x.statements) in
    let stop = stops_too {b = false} (bodies_like Plain reads_none reads_none no_commands no_invariants none_alike none_alike d m (omega arith)) (Syntax k) tt ts other e begins in
    let read = bodies_full Plain reads_none reads_none (plain_texts reads_none reads_none) m x other rest h (omega arith) in
    apart x rest stop.0 (sym read ∙ stop.1)
