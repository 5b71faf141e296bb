-- Operators in terms.
use Rattle.std.specs.Prelude.{pos}
use Rattle.vf_tree.specs.Core.{Comparison, Add, Subtract, Multiply, Divide, Remainder}
use Rattle.vf_tree.specs.Core as core
use Rattle.vf_closure.specs.Terms.{Head, Arithmetic, Compare, Not, And, Or, Term, term, no_terms, and_term, number}
use Rattle.vf_syntax.specs.declared.operator.BinaryOperator.{BinaryOperator}
use Rattle.vf_syntax.specs.declared.operator.BinaryOperator.TheVariants as operators
use Rattle.vf_syntax.specs.declared.operator.UnaryOperator.{UnaryOperator}
use Rattle.vf_syntax.specs.declared.operator.UnaryOperator.TheVariants as unaries

-- a head over two parts
abbrev pub over_two : Head → Term → Term → Term
over_two h a b = term h (and_term a (and_term b no_terms))

-- the head of an operator between two operands, none of which it moves
abbrev pub operator_head : BinaryOperator → Head
operator_head operators.Times = Arithmetic Multiply
operator_head operators.Divide = Arithmetic Divide
operator_head operators.Remainder = Arithmetic Remainder
operator_head operators.Plus = Arithmetic Add
operator_head operators.Minus = Arithmetic Subtract
operator_head operators.Less = Compare core.Less
operator_head operators.LessOrEqual = Compare core.LessEqual
operator_head operators.Greater = Compare core.Greater
operator_head operators.GreaterOrEqual = Compare core.GreaterEqual
operator_head operators.Equal = Compare core.Equal
operator_head operators.NotEqual = Compare core.NotEqual
operator_head operators.And = And
operator_head operators.Or = Or

-- an operator in front of its operand: `-x` is 0 less x
abbrev pub prefixed_term : UnaryOperator → Term → Term
prefixed_term unaries.Minus t = over_two (Arithmetic Subtract) (number (pos 0)) t
prefixed_term unaries.Not t = term Not (and_term t no_terms)
