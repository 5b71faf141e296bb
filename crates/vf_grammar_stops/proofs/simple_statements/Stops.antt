-- Where a token is refused, nothing of the kind could go on.
use Rattle.std.proofs.Common.{◌≡◌, ℕ, ◌+◌, false, List, Option, Some, Err, sym, ◌∙◌, arith}
use Rattle.vf_lexer.specs.declared.punctuator.Punctuator.TheVariants.{Becomes}
use Rattle.vf_lexer.specs.declared.token.Token.{Token}
use Rattle.vf_syntax.specs.declared.side.Side.TheVariants.{Real}
use Rattle.vf_syntax.specs.declared.simple.Simple.{Simple}
use Rattle.vf_syntax.specs.declared.simple.First.{First}
use Rattle.vf_syntax.specs.declared.written.CType.{CType}
use Rattle.vf_syntax.specs.declared.written.Name.{Name}
use Rattle.vf_syntax.specs.ExprTree.{ExprTree}
use Rattle.vf_syntax.specs.Walks.{◌⨾◌, head_has, is_mark}
use Rattle.vf_syntax.specs.Written.{name, ctype}
use Rattle.vf_syntax.specs.Lists.{optional, or_none}
use Rattle.vf_syntax.specs.Statements.{simple, simple_nesting, first, first_nesting, initializer, whole_nesting}
use Rattle.vf_cursor.specs.declared.fault.Fault.TheVariants.{Syntax}
use Rattle.vf_cursor.specs.Parsing.{ok}
use Rattle.vf_parse_expression.specs.Parsers.{expr_at, postfix_at}
use Rattle.vf_parse_simple.specs.Simples.{declared_at, optional_value_at, simple_at, first_at}
use Rattle.vf_grammar_read.specs.expressions.Laws.{goes_on_with}
use Rattle.vf_grammar_read.proofs.expressions.ExprFull.{expr_full, postfix_full}
use Rattle.vf_grammar_read.proofs.expressions.Behind.{ended}
use Rattle.vf_grammar_read.specs.simple_statements.Laws.{goes_on_with_simple}
use Rattle.vf_grammar_read.proofs.simple_statements.SimplesFull.{closed, declared_full, optional_value_full, simple_full, first_full}
use Rattle.vf_grammar_stops.specs.types.Stops.{BeginsUpTo}
use Rattle.vf_grammar_stops.proofs.types.Local.{stops_too}
use Rattle.vf_grammar_stops.proofs.expressions.ExprAlike.{expr_like, postfix_like}
use Rattle.vf_grammar_stops.proofs.simple_statements.SimplesAlike.{declared_like, optional_value_like, simple_like, first_like, post_named}

-- what was read was not refused
pub apart : {A : Type 0} (x : A) (rest : List Token) (m : ℕ) → ok x rest ≡ Err (Syntax m) → ⊥
apart x rest m e = cc

pub declared_stop : (ts other rest : List Token) (k : ℕ) (t : CType) (n : Name) → declared_at ts ≡ Err (Syntax k) → BeginsUpTo ts k other → (ctype Real t ⨾ name Real n) other ≡ Some rest → ⊥
declared_stop ts other rest k t n e begins h =
    let stop = stops_too {b = false} (declared_like {b = false}) (Syntax k) tt ts other e begins in
    apart (t, n) rest stop.0 (sym (declared_full t n other rest h) ∙ stop.1)

pub values_stop : (d : ℕ) (ts other rest : List Token) (k : ℕ) (x : Option ExprTree) → optional_value_at (expr_at d) ts ≡ Err (Syntax k) → BeginsUpTo ts k other → optional initializer x other ≡ Some rest
    → goes_on_with rest ≡ false → head_has (is_mark Real Becomes) rest ≡ false → ⊥
values_stop d ts other rest k x e begins h free none =
    let m = d + or_none whole_nesting x in
    let stop = stops_too {b = false} (optional_value_like (expr_like d m (omega arith))) (Syntax k) tt ts other e begins in
    let read = optional_value_full (expr_at m) m (expr_full m) x other rest h (omega arith) (ended rest free) none in
    apart x rest stop.0 (sym read ∙ stop.1)

pub simples_stop : (d : ℕ) (ts other rest : List Token) (k : ℕ) (x : Simple) → simple_at (expr_at d) (postfix_at d) ts ≡ Err (Syntax k) → BeginsUpTo ts k other → simple x other ≡ Some rest → goes_on_with_simple rest ≡ false → ⊥
simples_stop d ts other rest k x e begins h free =
    let m = d + simple_nesting x in
    let stop = stops_too {b = false} (simple_like (expr_like d m (omega arith)) (postfix_like d m (omega arith))) (Syntax k) tt ts other e begins in
    let read = simple_full (expr_at m) (postfix_at m) m (expr_full m) (postfix_full m) x other rest h (omega arith) (closed rest free) in
    apart x rest stop.0 (sym read ∙ stop.1)

pub firsts_stop : (d : ℕ) (ts other rest : List Token) (k : ℕ) (x : First) → first_at (expr_at d) (postfix_at d) ts ≡ Err (Syntax k) → BeginsUpTo ts k other → first x other ≡ Some rest → goes_on_with_simple rest ≡ false → ⊥
firsts_stop d ts other rest k x e begins h free =
    let m = d + first_nesting x in
    let stop = stops_too {b = false} (first_like (expr_like d m (omega arith)) (postfix_like d m (omega arith)) (post_named d)) (Syntax k) tt ts other e begins in
    let read = first_full (expr_at m) (postfix_at m) m (expr_full m) (postfix_full m) x other rest h (omega arith) (closed rest free) in
    apart x rest stop.0 (sym read ∙ stop.1)
