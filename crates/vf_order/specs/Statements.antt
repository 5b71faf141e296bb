-- Where assignments, calls, statements and items are refused, since the order of two operands matters.
use Rattle.std.specs.Prelude.{List, [], ◌∷◌, Option, Some, None}
use Rattle.std.specs.Option.{option_or}
use Rattle.vf_base.specs.declared.place.Place.{Place}
use Rattle.vf_syntax.specs.declared.operator.AssignmentOperator.{AssignmentOperator}
use Rattle.vf_syntax.specs.declared.operator.AssignmentOperator.TheVariants as assignment_operators
use Rattle.vf_syntax.specs.declared.simple.Simple.{Simple}
use Rattle.vf_syntax.specs.declared.simple.Simple.TheVariants as simples
use Rattle.vf_syntax.specs.declared.simple.First.{First}
use Rattle.vf_syntax.specs.declared.simple.First.TheVariants as firsts
use Rattle.vf_syntax.specs.declared.item.Item.{Item}
use Rattle.vf_syntax.specs.declared.item.Item.TheVariants as items
use Rattle.vf_syntax.specs.ExprTree.{ExprTree, PostfixTrees, no_postfix, more_postfix}
use Rattle.vf_syntax.specs.ExprTree as expr_tree
use Rattle.vf_syntax.specs.StmtTree.{StmtTree, StmtTrees, no_stmt, more_stmt, stmt_list}
use Rattle.vf_syntax.specs.StmtTree as tree
use Rattle.vf_order.specs.Marks.{Mark, clash, marks, operand_marks, part_marks}
use Rattle.vf_order.specs.Order.{unordered}

-- what the operands of the last of some reads and calls hold, where those of the one before hold the first and itself the second
abbrev pub last_operand_marks : Place → List Mark → List Mark → PostfixTrees → List Mark
last_operand_marks p os ms no_postfix = os
last_operand_marks p os ms (more_postfix x xs) = last_operand_marks p (operand_marks ms x) (part_marks p ms x) xs

-- what a left side holds besides the field or array element itself: what its pointer and its index hold
abbrev pub target_marks : ExprTree → List Mark
target_marks (expr_tree.postfix p a b) = last_operand_marks p (marks a) (marks a) b
target_marks e = marks e

-- what a left side holds under an operator: each but `=` reads it too
abbrev pub left_marks : AssignmentOperator → ExprTree → List Mark
left_marks assignment_operators.Becomes e = target_marks e
left_marks o e = marks e

-- where an assignment or a call is refused first
abbrev pub unordered_simple : Simple → Option Place
unordered_simple (simples.Assignment a o q e) = option_or (unordered a) (option_or (clash (left_marks o a) (marks e)) (unordered e))
unordered_simple (simples.StepAfter a o q) = unordered a
unordered_simple (simples.StepBefore q o a) = unordered a
unordered_simple (simples.Call e) = unordered e

-- where what stands first in a `for` is refused first
abbrev pub unordered_first : First → Option Place
unordered_first (firsts.Declaration t n e) = unordered e
unordered_first (firsts.Simple s) = unordered_simple s

-- the same of a part that may be absent
abbrev pub if_there : {A : Type 0} → (A → Option Place) → Option A → Option Place
if_there f None = None
if_there f (Some x) = f x

abbrev mutual
  -- where a statement is refused first: in a `for` the body stands before the step
  pub unordered_stmt : StmtTree → Option Place
  unordered_stmt (tree.declaration p t n e last) = if_there unordered e
  unordered_stmt (tree.simple p s last) = unordered_simple s
  unordered_stmt (tree.if_ p c a) = option_or (unordered c) (unordered_stmt a)
  unordered_stmt (tree.if_else p c a b) = option_or (unordered c) (option_or (unordered_stmt a) (unordered_stmt b))
  unordered_stmt (tree.while_ p c i body) = option_or (unordered c) (unordered_stmt body)
  unordered_stmt (tree.for_ p f c s i body) = option_or (if_there unordered_first f) (option_or (if_there unordered c) (option_or (unordered_stmt body) (if_there unordered_simple s)))
  unordered_stmt (tree.return_ p e last) = if_there unordered e
  unordered_stmt (tree.block p xs last) = unordered_stmts xs
  unordered_stmt (tree.empty_ p) = None
  unordered_stmt (tree.ghost p c) = None

  -- where some statements are refused first
  pub unordered_stmts : StmtTrees → Option Place
  unordered_stmts no_stmt = None
  unordered_stmts (more_stmt x xs) = option_or (unordered_stmt x) (unordered_stmts xs)

-- where an item is refused first: only the body of a function has expressions of real text
abbrev pub unordered_item : Item → Option Place
unordered_item (items.Function s k c b) = unordered_stmts (stmt_list b.statements)
unordered_item i = None

-- where some items are refused first
abbrev pub first_unordered : List Item → Option Place
first_unordered [] = None
first_unordered (x ∷ xs) = option_or (unordered_item x) (first_unordered xs)
