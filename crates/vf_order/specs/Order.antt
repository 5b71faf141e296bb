-- Where an expression is refused, since the order of two of its operands matters: the first place, what stands in an operand before what stands behind it.
use Rattle.std.specs.Prelude.{Bool, true, false, if◌then◌else◌, List, ◌++◌, Option, None}
use Rattle.std.specs.Option.{option_or}
use Rattle.vf_base.specs.declared.place.Place.{Place}
use Rattle.vf_syntax.specs.declared.operator.BinaryOperator.{BinaryOperator}
use Rattle.vf_syntax.specs.declared.operator.BinaryOperator.TheVariants as binary_operators
use Rattle.vf_syntax.specs.ExprTree.{ExprTree, ExprTrees, no_expr, more_expr, LinkTree, LinkTrees, no_link, more_link, PostfixTree, PostfixTrees, no_postfix, more_postfix}
use Rattle.vf_syntax.specs.ExprTree as tree
use Rattle.vf_order.specs.Marks.{Mark, clash, marks, one_link_marks, part_marks}

-- an operator that evaluates its left operand first
abbrev pub orders : BinaryOperator → Bool
orders binary_operators.And = true
orders binary_operators.Or = true
orders o = false

abbrev mutual
  -- where an expression is refused first
  pub unordered : ExprTree → Option Place
  unordered (tree.number p a b) = None
  unordered (tree.character p a) = None
  unordered (tree.true_ p) = None
  unordered (tree.false_ p) = None
  unordered (tree.name_ p a) = None
  unordered (tree.parenthesized p a) = unordered a
  unordered (tree.malloc p a) = None
  unordered (tree.malloc_ints p a b) = unordered a
  unordered (tree.postfix p a b) = option_or (unordered a) (unordered_parts p (marks a) b)
  unordered (tree.unary p a b) = unordered b
  unordered (tree.cast p a b) = unordered b
  unordered (tree.chain p a b c) = option_or (unordered b) (unordered_links (marks b) c)
  unordered (tree.conditional p a b c) = option_or (unordered a) (option_or (unordered b) (unordered c))

  -- the same of arguments, behind operands that hold these
  pub unordered_all : List Mark → ExprTrees → Option Place
  unordered_all ms no_expr = None
  unordered_all ms (more_expr x xs) = option_or (option_or (clash ms (marks x)) (unordered x)) (unordered_all (ms ++ marks x) xs)

  -- the same of an operand and its operator, behind operands that hold these
  pub unordered_link : List Mark → LinkTree → Option Place
  unordered_link ms (tree.link p a b) = option_or (if orders a then None else clash ms (marks b)) (unordered b)

  -- the same of operands and their operators
  pub unordered_links : List Mark → LinkTrees → Option Place
  unordered_links ms no_link = None
  unordered_links ms (more_link x xs) = option_or (unordered_link ms x) (unordered_links (ms ++ one_link_marks x) xs)

  -- the same of a read or call, whose pointer or what it calls holds these
  pub unordered_part : List Mark → PostfixTree → Option Place
  unordered_part ms (tree.field_ q a) = None
  unordered_part ms (tree.index_ q a) = option_or (clash ms (marks a)) (unordered a)
  unordered_part ms (tree.call_ q a) = unordered_all ms a

  -- the same of some reads and calls, each of what stands before it
  pub unordered_parts : Place → List Mark → PostfixTrees → Option Place
  unordered_parts p ms no_postfix = None
  unordered_parts p ms (more_postfix x xs) = option_or (unordered_part ms x) (unordered_parts p (part_marks p ms x) xs)
