-- What is known of what is read.
use Rattle.std.specs.Prelude.{◌≡◌, ℕ, ◌≤◌, List, Option, Some}
use Rattle.vf_lexer.specs.declared.token.Token.{Token}
use Rattle.vf_syntax.specs.declared.side.Side.TheVariants.{Real}
use Rattle.vf_syntax.specs.declared.simple.Simple.{Simple}
use Rattle.vf_syntax.specs.declared.simple.First.{First}
use Rattle.vf_syntax.specs.declared.written.CType.{CType}
use Rattle.vf_syntax.specs.declared.written.Name.{Name}
use Rattle.vf_syntax.specs.ExprTree.{ExprTree}
use Rattle.vf_syntax.specs.Walks.{◌⨾◌}
use Rattle.vf_syntax.specs.Written.{name, ctype}
use Rattle.vf_syntax.specs.Lists.{optional, or_none}
use Rattle.vf_syntax.specs.Statements.{simple, simple_nesting, first, first_nesting, initializer, whole_nesting}
use Rattle.vf_cursor.specs.Parsing.{ok}
use Rattle.vf_parse_expression.specs.Parsers.{expr_at, postfix_at}
use Rattle.vf_parse_simple.specs.Simples.{declared_at, optional_value_at, simple_at, first_at}

-- the tokens that were taken spell the type and the name
abbrev pub DeclaredAreSpelled : Type 0
DeclaredAreSpelled = (ts : List Token) (x : CType × Name) (rest : List Token) → declared_at ts ≡ ok x rest → (ctype Real x.0 ⨾ name Real x.1) ts ≡ Some rest

-- the tokens that were taken spell the value behind `=`, or there are none, and it nests no deeper than it may
abbrev pub ValuesAreSpelled : Type 0
ValuesAreSpelled = (d : ℕ) (ts : List Token) (x : Option ExprTree) (rest : List Token) → optional_value_at (expr_at d) ts ≡ ok x rest → (optional initializer x ts ≡ Some rest) × (or_none whole_nesting x ≤ d)

-- the same of an assignment or a call
abbrev pub SimplesAreSpelled : Type 0
SimplesAreSpelled = (d : ℕ) (ts : List Token) (x : Simple) (rest : List Token) → simple_at (expr_at d) (postfix_at d) ts ≡ ok x rest → (simple x ts ≡ Some rest) × (simple_nesting x ≤ d)

-- the same of what stands first in a `for`
abbrev pub FirstsAreSpelled : Type 0
FirstsAreSpelled = (d : ℕ) (ts : List Token) (x : First) (rest : List Token) → first_at (expr_at d) (postfix_at d) ts ≡ ok x rest → (first x ts ≡ Some rest) × (first_nesting x ≤ d)
