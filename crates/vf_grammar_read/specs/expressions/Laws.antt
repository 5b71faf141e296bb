-- What is spelled is read.
use Rattle.std.specs.Prelude.{◌≡◌, ℕ, ◌≤◌, Bool, true, false, ◌||◌, List, Some}
use Rattle.vf_lexer.specs.declared.punctuator.Punctuator.TheVariants.{Question, Star}
use Rattle.vf_lexer.specs.declared.token.Token.{Token}
use Rattle.vf_syntax.specs.declared.side.Side.{Side}
use Rattle.vf_syntax.specs.declared.side.Side.TheVariants.{Real}
use Rattle.vf_syntax.specs.declared.written.CType.{CType}
use Rattle.vf_syntax.specs.ExprTree.{ExprTree}
use Rattle.vf_syntax.specs.Walks.{head_has, is_mark}
use Rattle.vf_syntax.specs.Written.{binary_of, ctype}
use Rattle.vf_syntax.specs.Expressions.{expr, nesting, expr_nesting, is_within}
use Rattle.vf_cursor.specs.Parsing.{ok, is_there}
use Rattle.vf_cursor.specs.Types.{next_mark, found_then, is_width, ctype_at}
use Rattle.vf_parse_expression.specs.Operands.{is_part}
use Rattle.vf_parse_expression.specs.Parsers.{expr_at, postfix_at}

-- the next token goes on with an expression in front of it: it begins a part behind an operand, or it is an operator between operands or the `?` of a conditional
unfoldable pub goes_on_with : List Token → Bool
goes_on_with ts = head_has is_part ts || (is_there (found_then (next_mark Real ts) binary_of) || head_has (is_mark Real Question) ts)

-- an expression that tokens spell, and that nests no deeper than it may, is read from them, where what stands behind does not go on with it
abbrev pub ExpressionsAreRead : Type 0
ExpressionsAreRead = (d : ℕ) (x : ExprTree) (ts rest : List Token) → expr x ts ≡ Some rest → expr_nesting x ≤ d → goes_on_with rest ≡ false → expr_at d ts ≡ ok x rest

-- two expressions that the same tokens spell are one, places included
abbrev pub ExpressionsHaveOneReading : Type 0
ExpressionsHaveOneReading = (x y : ExprTree) (ts rest : List Token) → expr x ts ≡ Some rest → expr y ts ≡ Some rest → goes_on_with rest ≡ false → x ≡ y

-- the same of a primary expression with what stands behind it, of which itself does not count, before what is no further part
abbrev pub PostfixesAreRead : Type 0
PostfixesAreRead = (d : ℕ) (x : ExprTree) (ts rest : List Token) → expr x ts ≡ Some rest → nesting x ≤ d → is_within 1 x ≡ true → head_has is_part rest ≡ false → postfix_at d ts ≡ ok x rest

-- a type that tokens spell is read from them, before what is neither a word of an integer type nor a `*`
abbrev pub TypesAreRead : Type 0
TypesAreRead = (s : Side) (t : CType) (ts rest : List Token) → ctype s t ts ≡ Some rest → head_has (is_width s) rest ≡ false → head_has (is_mark s Star) rest ≡ false → ctype_at s ts ≡ ok t rest
