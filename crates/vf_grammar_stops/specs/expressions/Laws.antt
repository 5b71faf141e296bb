-- Where a token is refused, no expression could go on.
use Rattle.std.specs.Prelude.{◌≡◌, ℕ, true, false, List, Some, Err}
use Rattle.vf_lexer.specs.declared.token.Token.{Token}
use Rattle.vf_syntax.specs.ExprTree.{ExprTree}
use Rattle.vf_syntax.specs.Walks.{head_has}
use Rattle.vf_syntax.specs.Expressions.{expr, is_within}
use Rattle.vf_cursor.specs.declared.fault.Fault.TheVariants.{Syntax}
use Rattle.vf_parse_expression.specs.Operands.{is_part}
use Rattle.vf_parse_expression.specs.Parsers.{expr_at, postfix_at}
use Rattle.vf_grammar_read.specs.expressions.Laws.{goes_on_with}
use Rattle.vf_grammar_stops.specs.types.Stops.{BeginsUpTo}

-- a token is refused in an expression only where no tokens that are alike up to it begin with an expression, however deep it nests, before what does not go on with it
abbrev pub ExpressionsStopAlike : Type 0
ExpressionsStopAlike = (d : ℕ) (ts other rest : List Token) (n : ℕ) (x : ExprTree) → expr_at d ts ≡ Err (Syntax n) → BeginsUpTo ts n other → expr x other ≡ Some rest → goes_on_with rest ≡ false → ⊥

-- the same of a primary expression with what stands behind it, before what is no further part
abbrev pub PostfixesStopAlike : Type 0
PostfixesStopAlike = (d : ℕ) (ts other rest : List Token) (n : ℕ) (x : ExprTree) → postfix_at d ts ≡ Err (Syntax n) → BeginsUpTo ts n other → expr x other ≡ Some rest → is_within 1 x ≡ true → head_has is_part rest ≡ false → ⊥
