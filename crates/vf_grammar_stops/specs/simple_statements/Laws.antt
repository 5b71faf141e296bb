-- Where a token is refused, nothing of the kind could go on.
use Rattle.std.specs.Prelude.{◌≡◌, ℕ, false, List, Option, Some, Err}
use Rattle.vf_lexer.specs.declared.punctuator.Punctuator.TheVariants.{Becomes}
use Rattle.vf_lexer.specs.declared.token.Token.{Token}
use Rattle.vf_syntax.specs.declared.side.Side.TheVariants.{Real}
use Rattle.vf_syntax.specs.declared.simple.Simple.{Simple}
use Rattle.vf_syntax.specs.declared.simple.First.{First}
use Rattle.vf_syntax.specs.declared.written.CType.{CType}
use Rattle.vf_syntax.specs.declared.written.Name.{Name}
use Rattle.vf_syntax.specs.ExprTree.{ExprTree}
use Rattle.vf_syntax.specs.Walks.{◌⨾◌, head_has, is_mark}
use Rattle.vf_syntax.specs.Written.{name, ctype}
use Rattle.vf_syntax.specs.Lists.{optional}
use Rattle.vf_syntax.specs.Statements.{simple, first, initializer}
use Rattle.vf_cursor.specs.declared.fault.Fault.TheVariants.{Syntax}
use Rattle.vf_parse_expression.specs.Parsers.{expr_at, postfix_at}
use Rattle.vf_parse_simple.specs.Simples.{declared_at, optional_value_at, simple_at, first_at}
use Rattle.vf_grammar_read.specs.expressions.Laws.{goes_on_with}
use Rattle.vf_grammar_read.specs.simple_statements.Laws.{goes_on_with_simple}
use Rattle.vf_grammar_stops.specs.types.Stops.{BeginsUpTo}

-- a token is refused in a type and a name only where no tokens that are alike up to it begin with a type and a name
abbrev pub DeclaredStopAlike : Type 0
DeclaredStopAlike = (ts other rest : List Token) (k : ℕ) (t : CType) (n : Name) → declared_at ts ≡ Err (Syntax k) → BeginsUpTo ts k other → (ctype Real t ⨾ name Real n) other ≡ Some rest → ⊥

-- a token is refused in a value behind `=`, or none, only where no tokens that are alike up to it begin with one, however deep it nests, before what does not go on with it and is no `=`
abbrev pub ValuesStopAlike : Type 0
ValuesStopAlike = (d : ℕ) (ts other rest : List Token) (k : ℕ) (x : Option ExprTree) → optional_value_at (expr_at d) ts ≡ Err (Syntax k) → BeginsUpTo ts k other → optional initializer x other ≡ Some rest
    → goes_on_with rest ≡ false → head_has (is_mark Real Becomes) rest ≡ false → ⊥

-- the same of an assignment or a call, before what does not go on with it
abbrev pub SimplesStopAlike : Type 0
SimplesStopAlike = (d : ℕ) (ts other rest : List Token) (k : ℕ) (x : Simple) → simple_at (expr_at d) (postfix_at d) ts ≡ Err (Syntax k) → BeginsUpTo ts k other → simple x other ≡ Some rest → goes_on_with_simple rest ≡ false → ⊥

-- the same of what stands first in a `for`
abbrev pub FirstsStopAlike : Type 0
FirstsStopAlike = (d : ℕ) (ts other rest : List Token) (k : ℕ) (x : First) → first_at (expr_at d) (postfix_at d) ts ≡ Err (Syntax k) → BeginsUpTo ts k other → first x other ≡ Some rest → goes_on_with_simple rest ≡ false → ⊥
