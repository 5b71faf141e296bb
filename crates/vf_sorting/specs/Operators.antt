-- Operators and forms of ghost expressions.
use Rattle.std.specs.Prelude.{ℕ, Bool, true, false, ◌&&◌, ◌+◌, nat_eq}
use Rattle.vf_base.specs.declared.place.Place.{Place}
use Rattle.vf_sorts.specs.Sorts.{Sort}
use Rattle.vf_syntax.specs.declared.operator.BinaryOperator.{BinaryOperator}
use Rattle.vf_syntax.specs.declared.operator.BinaryOperator.TheVariants as operators
use Rattle.vf_syntax.specs.declared.operator.UnaryOperator.{UnaryOperator}
use Rattle.vf_syntax.specs.declared.operator.UnaryOperator.TheVariants as unaries
use Rattle.vf_syntax.specs.GhostExprTree.{GhostExprTree, GhostExprTrees, no_ghost_expr, more_ghost_expr}
use Rattle.vf_syntax.specs.GhostExprTree as tree
use Rattle.vf_sorting.specs.Kinds.{bool_sort, int_sort, is_pointer}

-- the place of the first token of an expression
abbrev pub place_of : GhostExprTree → Place
place_of (tree.number p n i) = p
place_of (tree.true_ p) = p
place_of (tree.false_ p) = p
place_of (tree.result p) = p
place_of (tree.this_ p) = p
place_of (tree.current_thread p) = p
place_of (tree.name_ p x) = p
place_of (tree.application p f xs) = p
place_of (tree.parenthesized p a) = p
place_of (tree.conditional p a b d) = p
place_of (tree.unary p o a) = p
place_of (tree.chain p l a xs) = p

-- how many arguments there are
abbrev pub count : GhostExprTrees → ℕ
count no_ghost_expr = 0
count (more_ghost_expr x xs) = count xs + 1

-- an expression is a `0`, in parentheses or not, which is the null pointer where a pointer is wanted
abbrev pub is_null : GhostExprTree → Bool
is_null (tree.number p n i) = nat_eq n 0
is_null (tree.parenthesized p a) = is_null a
is_null e = false

-- what is wanted of an expression goes to its parts: in parentheses always, and where it is a pointer also at a `0` and at a choice
abbrev pub goes_inside : Bool → GhostExprTree → Bool
goes_inside wanted (tree.parenthesized p a) = true
goes_inside wanted (tree.number p n i) = wanted && nat_eq n 0
goes_inside wanted (tree.conditional p a b d) = wanted
goes_inside wanted e = false

-- the sort of the operand behind an operator, and of the whole
abbrev pub prefix_sort : UnaryOperator → Sort
prefix_sort unaries.Minus = int_sort
prefix_sort unaries.Not = bool_sort

-- an operator is `==` or `!=`
abbrev pub is_equality : BinaryOperator → Bool
is_equality operators.Equal = true
is_equality operators.NotEqual = true
is_equality o = false

-- an operator is `+`
abbrev pub is_plus : BinaryOperator → Bool
is_plus operators.Plus = true
is_plus o = false

-- an operator moves a left operand of a sort by its right operand: a `+` moves pointers
abbrev pub moves : BinaryOperator → Sort → Bool
moves o t = is_plus o && is_pointer t

-- the sort of both operands of an operator other than `==` and `!=`
abbrev pub operand_sort : BinaryOperator → Sort
operand_sort operators.And = bool_sort
operand_sort operators.Or = bool_sort
operand_sort o = int_sort

-- the sort of what an operator makes of two operands
abbrev pub result_sort : BinaryOperator → Sort
result_sort operators.Times = int_sort
result_sort operators.Divide = int_sort
result_sort operators.Remainder = int_sort
result_sort operators.Plus = int_sort
result_sort operators.Minus = int_sort
result_sort o = bool_sort
