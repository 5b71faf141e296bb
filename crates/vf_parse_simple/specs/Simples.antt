-- Parsers of assignments, calls and declarations. e reads an expression, f a primary expression with what stands behind it.
use Rattle.std.specs.Prelude.{Bool, ◌&&◌, ◌||◌, List, Option, Some, None, if◌then◌else◌}
use Rattle.vf_lexer.specs.declared.punctuator.Punctuator.TheVariants as punctuators
use Rattle.vf_lexer.specs.declared.token.Token.{Token}
use Rattle.vf_syntax.specs.declared.side.Side.TheVariants.{Real}
use Rattle.vf_syntax.specs.declared.operator.AssignmentOperator.{AssignmentOperator}
use Rattle.vf_syntax.specs.declared.operator.StepOperator.{StepOperator}
use Rattle.vf_syntax.specs.declared.simple.Simple.{Simple}
use Rattle.vf_syntax.specs.declared.simple.Simple.TheVariants as simples
use Rattle.vf_syntax.specs.declared.simple.First.{First}
use Rattle.vf_syntax.specs.declared.simple.First.TheVariants as firsts
use Rattle.vf_syntax.specs.declared.written.CType.{CType}
use Rattle.vf_syntax.specs.declared.written.Name.{Name}
use Rattle.vf_syntax.specs.ExprTree.{ExprTree}
use Rattle.vf_syntax.specs.Walks.{head_has, is_mark, is_name}
use Rattle.vf_syntax.specs.Written.{assignment_mark, step_mark}
use Rattle.vf_syntax.specs.Statements.{is_call, is_left_side}
use Rattle.vf_cursor.specs.Parsing.{Parser, ok, ◌>>=◌, fails_at, mark_at, name_at}
use Rattle.vf_cursor.specs.Types.{is_type_word, next_assignment, next_step, ctype_at}
use Rattle.vf_parse_expression.specs.Operands.{after}

-- a declaration comes next: a type, and no expression could stand there
unfoldable pub sees_declaration : List Token → Bool
sees_declaration ts = head_has (is_type_word Real) ts || (head_has (is_name Real) ts && head_has (is_mark Real punctuators.Star) (after ts))

-- type NAME
unfoldable pub declared_at : Parser (CType × Name)
declared_at ts = ctype_at Real ts >>= λ t. name_at Real t.1 >>= λ n. ok (t.0, n.0) n.1

-- "=" expression
unfoldable pub value_at : Parser ExprTree → Parser ExprTree
value_at e ts = mark_at Real punctuators.Becomes ts >>= λ m. e m.1

-- a value behind `=`, or none
unfoldable pub optional_value_at : Parser ExprTree → Parser (Option ExprTree)
optional_value_at e ts = if head_has (is_mark Real punctuators.Becomes) ts then (value_at e ts >>= λ x. ok (Some x.0) x.1) else ok None ts

-- an assignment to what was read
unfoldable pub assigned_at : Parser ExprTree → ExprTree → AssignmentOperator → Parser Simple
assigned_at e a o ts = if is_left_side a then (mark_at Real (assignment_mark o) ts >>= λ m. e m.1 >>= λ b. ok (simples.Assignment a o m.0 b.0) b.1) else fails_at ts

-- `++` or `--` behind what was read
unfoldable pub step_after_at : ExprTree → StepOperator → Parser Simple
step_after_at a o ts = if is_left_side a then (mark_at Real (step_mark o) ts >>= λ m. ok (simples.StepAfter a o m.0) m.1) else fails_at ts

-- `++` or `--`, and what it changes
unfoldable pub step_before_at : Parser ExprTree → StepOperator → Parser Simple
step_before_at f o ts = mark_at Real (step_mark o) ts >>= λ m. f m.1 >>= λ a. if is_left_side a.0 then ok (simples.StepBefore m.0 o a.0) a.1 else fails_at a.1

-- what was read is a call, if no operator stands behind it
unfoldable pub called_at : ExprTree → Parser Simple
called_at a ts = if is_call a then ok (simples.Call a) ts else fails_at ts

-- what stands behind what was read, where `++` and `--` were looked for
abbrev pub stepped_by : ExprTree → Option StepOperator → Parser Simple
stepped_by a None ts = called_at a ts
stepped_by a (Some o) ts = step_after_at a o ts

-- what stands behind what was read, where an operator of an assignment was looked for
abbrev pub behind_by : Parser ExprTree → ExprTree → Option AssignmentOperator → Parser Simple
behind_by e a None ts = stepped_by a (next_step ts) ts
behind_by e a (Some o) ts = assigned_at e a o ts

-- what stands behind what was read
unfoldable pub behind_at : Parser ExprTree → ExprTree → Parser Simple
behind_at e a ts = behind_by e a (next_assignment ts) ts

-- an assignment or a call, where `++` and `--` were looked for
abbrev pub simple_by : Parser ExprTree → Parser ExprTree → Option StepOperator → Parser Simple
simple_by e f None ts = f ts >>= λ a. behind_at e a.0 a.1
simple_by e f (Some o) ts = step_before_at f o ts

-- an assignment or a call
unfoldable pub simple_at : Parser ExprTree → Parser ExprTree → Parser Simple
simple_at e f ts = simple_by e f (next_step ts) ts

-- a declaration that stands first in a `for`
unfoldable pub first_declaration_at : Parser ExprTree → Parser First
first_declaration_at e ts = declared_at ts >>= λ d. value_at e d.1 >>= λ x. ok (firsts.Declaration d.0.0 d.0.1 x.0) x.1

-- what stands first in a `for`
unfoldable pub first_at : Parser ExprTree → Parser ExprTree → Parser First
first_at e f ts = if sees_declaration ts then first_declaration_at e ts else (simple_at e f ts >>= λ x. ok (firsts.Simple x.0) x.1)
