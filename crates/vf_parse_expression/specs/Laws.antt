-- What is known of what is read.
use Rattle.std.specs.Prelude.{◌≡◌, ℕ, ◌≤◌, true, List, Some}
use Rattle.vf_lexer.specs.declared.token.Token.{Token}
use Rattle.vf_syntax.specs.ExprTree.{ExprTree}
use Rattle.vf_syntax.specs.Expressions.{expr, nesting, expr_nesting, is_within}
use Rattle.vf_cursor.specs.Parsing.{ok}
use Rattle.vf_parse_expression.specs.Parsers.{expr_at, postfix_at}

-- the tokens that were taken spell the expression, which nests no deeper than it may
abbrev pub ExpressionsAreSpelled : Type 0
ExpressionsAreSpelled = (d : ℕ) (ts : List Token) (x : ExprTree) (rest : List Token) → expr_at d ts ≡ ok x rest → (expr x ts ≡ Some rest) × (expr_nesting x ≤ d)

-- the same of a primary expression with what stands behind it, of which itself does not count
abbrev pub PostfixesAreSpelled : Type 0
PostfixesAreSpelled = (d : ℕ) (ts : List Token) (x : ExprTree) (rest : List Token) → postfix_at d ts ≡ ok x rest → (expr x ts ≡ Some rest) × (nesting x ≤ d) × (is_within 1 x ≡ true)
