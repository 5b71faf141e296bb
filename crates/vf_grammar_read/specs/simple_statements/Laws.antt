-- What is spelled is read.
use Rattle.std.specs.Prelude.{◌≡◌, ℕ, ◌≤◌, Bool, false, ◌||◌, List, Option, Some}
use Rattle.vf_lexer.specs.declared.punctuator.Punctuator.TheVariants.{Becomes}
use Rattle.vf_lexer.specs.declared.token.Token.{Token}
use Rattle.vf_syntax.specs.declared.side.Side.TheVariants.{Real}
use Rattle.vf_syntax.specs.declared.simple.Simple.{Simple}
use Rattle.vf_syntax.specs.declared.simple.First.{First}
use Rattle.vf_syntax.specs.declared.written.CType.{CType}
use Rattle.vf_syntax.specs.declared.written.Name.{Name}
use Rattle.vf_syntax.specs.ExprTree.{ExprTree}
use Rattle.vf_syntax.specs.Walks.{◌⨾◌, head_has, is_mark}
use Rattle.vf_syntax.specs.Written.{name, ctype}
use Rattle.vf_syntax.specs.Lists.{optional, or_none}
use Rattle.vf_syntax.specs.Statements.{simple, simple_nesting, first, first_nesting, initializer, whole_nesting}
use Rattle.vf_cursor.specs.Parsing.{ok, is_there}
use Rattle.vf_cursor.specs.Types.{next_assignment, next_step}
use Rattle.vf_parse_expression.specs.Parsers.{expr_at, postfix_at}
use Rattle.vf_parse_simple.specs.Simples.{declared_at, optional_value_at, simple_at, first_at}
use Rattle.vf_grammar_read.specs.expressions.Laws.{goes_on_with}

-- the next token goes on with an assignment or a call in front of it: it goes on with an expression, or it is an operator of an assignment, `++` or `--`
unfoldable pub goes_on_with_simple : List Token → Bool
goes_on_with_simple ts = goes_on_with ts || (is_there (next_assignment ts) || is_there (next_step ts))

-- a type and a name that tokens spell are read from them
abbrev pub DeclaredAreRead : Type 0
DeclaredAreRead = (t : CType) (n : Name) (ts rest : List Token) → (ctype Real t ⨾ name Real n) ts ≡ Some rest → declared_at ts ≡ ok (t, n) rest

-- a value behind `=` that tokens spell, or none, and that nests no deeper than it may, is read from them, where what stands behind does not go on with it and is no `=`
abbrev pub ValuesAreRead : Type 0
ValuesAreRead = (d : ℕ) (x : Option ExprTree) (ts rest : List Token) → optional initializer x ts ≡ Some rest → or_none whole_nesting x ≤ d → goes_on_with rest ≡ false → head_has (is_mark Real Becomes) rest ≡ false
    → optional_value_at (expr_at d) ts ≡ ok x rest

-- the same of an assignment or a call
abbrev pub SimplesAreRead : Type 0
SimplesAreRead = (d : ℕ) (x : Simple) (ts rest : List Token) → simple x ts ≡ Some rest → simple_nesting x ≤ d → goes_on_with_simple rest ≡ false → simple_at (expr_at d) (postfix_at d) ts ≡ ok x rest

-- the same of what stands first in a `for`
abbrev pub FirstsAreRead : Type 0
FirstsAreRead = (d : ℕ) (x : First) (ts rest : List Token) → first x ts ≡ Some rest → first_nesting x ≤ d → goes_on_with_simple rest ≡ false → first_at (expr_at d) (postfix_at d) ts ≡ ok x rest

-- two assignments or calls that the same tokens spell are one, places included
abbrev pub SimplesHaveOneReading : Type 0
SimplesHaveOneReading = (x y : Simple) (ts rest : List Token) → simple x ts ≡ Some rest → simple y ts ≡ Some rest → goes_on_with_simple rest ≡ false → x ≡ y
