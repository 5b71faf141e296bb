-- What the trees of the code stand for in the pure data of the core.
use Rattle.std.specs.Prelude.{ℕ, List, [], map, Option, Some, fold, replicate}
use Rattle.vf_base.specs.declared.int_type.IntType.TheVariants.{Int}
use Rattle.vf_tree.specs.Core.{TypeTree, Integer, ArithmeticOperator, Add, Subtract, ExpressionTree, Read, Number, Arithmetic, StepTree, Set, Return, FunctionTree, ProgramTree}
use Rattle.vf_tree.specs.declared.unit.Operator.{Operator}
use Rattle.vf_tree.specs.declared.unit.Operator.TheVariants as operators
use Rattle.vf_tree.specs.declared.unit.Operand.{Operand}
use Rattle.vf_tree.specs.declared.unit.Operand.TheVariants as operands
use Rattle.vf_tree.specs.declared.unit.Link.{Link}
use Rattle.vf_tree.specs.declared.unit.Expression.{Expression}
use Rattle.vf_tree.specs.declared.unit.CoreStep.{CoreStep}
use Rattle.vf_tree.specs.declared.unit.CoreStep.TheVariants as steps
use Rattle.vf_tree.specs.declared.unit.Function.{Function}
use Rattle.vf_tree.specs.declared.unit.Plain.{Plain}

abbrev pub operator_of : Operator → ArithmeticOperator
operator_of operators.Add = Add
operator_of operators.Subtract = Subtract

abbrev pub operand_of : Operand → ExpressionTree
operand_of (operands.Number n) = Number n
operand_of (operands.Local local place) = Read local place

-- a sum with one more operand on its right
abbrev pub linked : ExpressionTree → Link → ExpressionTree
linked left link = Arithmetic (operator_of link.operator) Int left (operand_of link.operand) link.place

-- a sum, its operators grouping to the left
abbrev pub expression_of : Expression → ExpressionTree
expression_of e = fold linked (operand_of e.first) e.rest

abbrev pub step_of : CoreStep → StepTree
step_of (steps.Set local value next) = Set local (expression_of value) next
step_of (steps.Return value) = Return (Some (expression_of value))

-- a function without parameters that returns an int, its locals of type int
abbrev pub function_of : Function → FunctionTree
function_of f = record {
  identity = f.identity;
  signature = record { result = Integer Int; parameters = [] };
  locals = replicate f.locals (Integer Int);
  steps = map step_of f.steps;
  closing = f.closing;
}

-- the program of one unit
abbrev pub program_of : Plain → ProgramTree
program_of p = record { functions = map function_of p.functions; structs = []; main = p.main }
