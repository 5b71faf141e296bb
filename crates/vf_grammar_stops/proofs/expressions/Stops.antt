-- Where a token is refused, no expression could go on.
use Rattle.std.proofs.Common.{◌≡◌, ℕ, ◌+◌, true, false, List, Some, Err, sym, ◌∙◌, arith}
use Rattle.std.proofs.lemmas.Bool.{leb-true}
use Rattle.vf_lexer.specs.declared.token.Token.{Token}
use Rattle.vf_syntax.specs.ExprTree.{ExprTree}
use Rattle.vf_syntax.specs.Walks.{head_has}
use Rattle.vf_syntax.specs.Expressions.{expr, nesting, rank, is_within}
use Rattle.vf_cursor.specs.declared.fault.Fault.TheVariants.{Syntax}
use Rattle.vf_cursor.specs.Parsing.{ok}
use Rattle.vf_parse_expression.specs.Operands.{is_part}
use Rattle.vf_parse_expression.specs.Parsers.{expr_at, postfix_at}
use Rattle.vf_grammar_read.specs.expressions.Laws.{goes_on_with}
use Rattle.vf_grammar_read.proofs.expressions.ExprFull.{expr_full, postfix_full, at_most}
use Rattle.vf_grammar_read.proofs.expressions.Behind.{ended, partless}
use Rattle.vf_grammar_stops.specs.types.Stops.{BeginsUpTo}
use Rattle.vf_grammar_stops.proofs.types.Local.{stops_too}
use Rattle.vf_grammar_stops.proofs.expressions.ExprAlike.{expr_like, postfix_like}

apart : (x : ExprTree) (rest : List Token) (m : ℕ) → ok x rest ≡ Err (Syntax m) → ⊥
apart x rest m e = cc

pub expressions_stop : (d : ℕ) (ts other rest : List Token) (n : ℕ) (x : ExprTree) → expr_at d ts ≡ Err (Syntax n) → BeginsUpTo ts n other → expr x other ≡ Some rest → goes_on_with rest ≡ false → ⊥
expressions_stop d ts other rest n x e begins h free =
    let m = d + (nesting x + 1) in
    let stop = stops_too {b = false} (expr_like d m (omega arith)) (Syntax n) tt ts other e begins in
    let read = expr_full m x other rest h (omega arith) (at_most x) (ended rest free) in
    apart x rest stop.0 (sym read ∙ stop.1)

pub postfixes_stop : (d : ℕ) (ts other rest : List Token) (n : ℕ) (x : ExprTree) → postfix_at d ts ≡ Err (Syntax n) → BeginsUpTo ts n other → expr x other ≡ Some rest → is_within 1 x ≡ true → head_has is_part rest ≡ false → ⊥
postfixes_stop d ts other rest n x e begins h close free =
    let m = d + nesting x in
    let stop = stops_too {b = false} (postfix_like d m (omega arith)) (Syntax n) tt ts other e begins in
    let read = postfix_full m x other rest h (omega arith) (leb-true (rank x) 1 close) (partless rest free) in
    apart x rest stop.0 (sym read ∙ stop.1)
