-- Which expressions have no two operands out of order, over all pairs of operands.
use Rattle.std.specs.Prelude.{◌≡◌, ◌⊎◌, ◌↔◌, ⊤, IsTrue, IsFalse, List, [], ◌∷◌, None}
use Rattle.vf_base.specs.declared.place.Place.{Place}
use Rattle.vf_syntax.specs.ExprTree.{ExprTree, ExprTrees, no_expr, more_expr, LinkTree, LinkTrees, no_link, more_link, PostfixTree, PostfixTrees, no_postfix, more_postfix}
use Rattle.vf_syntax.specs.ExprTree as tree
use Rattle.vf_order.specs.Marks.{Mark, holds_call, is_held, marks, one_link_marks, part_marks}
use Rattle.vf_order.specs.Order.{orders, unordered}

-- of two operands one holds a call, and the other a call or a read
abbrev pub AreUnordered : List Mark → List Mark → Type 0
AreUnordered ms ns = (IsTrue (holds_call ms) × IsTrue (is_held ns)) ⊎ (IsTrue (is_held ms) × IsTrue (holds_call ns))

-- an operand is out of order with none of those before it
abbrev pub IsInOrder : List (List Mark) → List Mark → Type 0
IsInOrder [] ns = ⊤
IsInOrder (ms ∷ before) ns = (AreUnordered ms ns → ⊥) × IsInOrder before ns

abbrev mutual
  -- no two operands anywhere in an expression are out of order
  pub IsOrdered : ExprTree → Type 0
  IsOrdered (tree.number p a b) = ⊤
  IsOrdered (tree.character p a) = ⊤
  IsOrdered (tree.true_ p) = ⊤
  IsOrdered (tree.false_ p) = ⊤
  IsOrdered (tree.name_ p a) = ⊤
  IsOrdered (tree.parenthesized p a) = IsOrdered a
  IsOrdered (tree.malloc p a) = ⊤
  IsOrdered (tree.malloc_ints p a b) = IsOrdered a
  IsOrdered (tree.postfix p a b) = IsOrdered a × ArePartsOrdered p (marks a) b
  IsOrdered (tree.unary p a b) = IsOrdered b
  IsOrdered (tree.cast p a b) = IsOrdered b
  IsOrdered (tree.chain p a b c) = IsOrdered b × AreLinksOrdered (marks b ∷ []) c
  IsOrdered (tree.conditional p a b c) = IsOrdered a × IsOrdered b × IsOrdered c

  -- the same of arguments, and no two of them or of the operands before them are out of order
  pub AreArgumentsOrdered : List (List Mark) → ExprTrees → Type 0
  AreArgumentsOrdered before no_expr = ⊤
  AreArgumentsOrdered before (more_expr x xs) = IsInOrder before (marks x) × IsOrdered x × AreArgumentsOrdered (marks x ∷ before) xs

  -- the same of an operand, unless its operator orders it
  pub IsLinkOrdered : List (List Mark) → LinkTree → Type 0
  IsLinkOrdered before (tree.link p a b) = (IsFalse (orders a) → IsInOrder before (marks b)) × IsOrdered b

  -- the same of operands behind others
  pub AreLinksOrdered : List (List Mark) → LinkTrees → Type 0
  AreLinksOrdered before no_link = ⊤
  AreLinksOrdered before (more_link x xs) = IsLinkOrdered before x × AreLinksOrdered (one_link_marks x ∷ before) xs

  -- the same of a read or call, whose pointer or what it calls holds these
  pub IsPartOrdered : List Mark → PostfixTree → Type 0
  IsPartOrdered ms (tree.field_ q a) = ⊤
  IsPartOrdered ms (tree.index_ q a) = (AreUnordered ms (marks a) → ⊥) × IsOrdered a
  IsPartOrdered ms (tree.call_ q a) = AreArgumentsOrdered (ms ∷ []) a

  -- the same of some reads and calls, each of what stands before it
  pub ArePartsOrdered : Place → List Mark → PostfixTrees → Type 0
  ArePartsOrdered p ms no_postfix = ⊤
  ArePartsOrdered p ms (more_postfix x xs) = IsPartOrdered ms x × ArePartsOrdered p (part_marks p ms x) xs

-- an expression is refused nowhere exactly where no two operands are out of order
abbrev pub RefusalsAreOfPairs : Type 0
RefusalsAreOfPairs = (e : ExprTree) → (unordered e ≡ None) ↔ IsOrdered e
