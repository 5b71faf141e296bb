-- What an expression holds that its order of evaluation may change, or be changed by: calls, and reads of fields and array elements.
use Rattle.std.specs.Prelude.{Bool, true, false, ◌&&◌, ◌||◌, if◌then◌else◌, List, [], ◌∷◌, ◌++◌, Option, Some, None}
use Rattle.vf_base.specs.declared.place.Place.{Place}
use Rattle.vf_syntax.specs.ExprTree.{ExprTree, ExprTrees, no_expr, more_expr, LinkTree, LinkTrees, no_link, more_link, PostfixTree, PostfixTrees, no_postfix, more_postfix}
use Rattle.vf_syntax.specs.ExprTree as tree

-- a call or `malloc`, at the first token of what is called, or a read of a field or an array element, at its `->` or `[`
pub data Mark : Type 0 where
  call : Place → Mark
  read : Place → Mark

-- where it stands
abbrev pub place_of : Mark → Place
place_of (call p) = p
place_of (read p) = p

-- it is a call or `malloc`
abbrev pub is_call : Mark → Bool
is_call (call p) = true
is_call (read p) = false

-- one of some is a call or `malloc`
abbrev pub holds_call : List Mark → Bool
holds_call [] = false
holds_call (m ∷ ms) = is_call m || holds_call ms

-- there are some
abbrev pub is_held : List Mark → Bool
is_held [] = false
is_held (m ∷ ms) = true

-- where the first of some stands
abbrev pub first_place : List Mark → Option Place
first_place [] = None
first_place (m ∷ ms) = Some (place_of m)

-- where the later of two operands is refused: at the first that it holds, if the earlier one holds something too, and one of the two a call
abbrev pub clash : List Mark → List Mark → Option Place
clash ms ns = if is_held ms && (holds_call ms || holds_call ns) then first_place ns else None

abbrev mutual
  -- what an expression holds, in the order of the text, a call in front of what is called
  pub marks : ExprTree → List Mark
  marks (tree.number p a b) = []
  marks (tree.character p a) = []
  marks (tree.true_ p) = []
  marks (tree.false_ p) = []
  marks (tree.name_ p a) = []
  marks (tree.parenthesized p a) = marks a
  marks (tree.malloc p a) = call p ∷ []
  marks (tree.malloc_ints p a b) = call p ∷ marks a
  marks (tree.postfix p a b) = parts_marks p (marks a) b
  marks (tree.unary p a b) = marks b
  marks (tree.cast p a b) = marks b
  marks (tree.chain p a b c) = marks b ++ link_marks c
  marks (tree.conditional p a b c) = marks a ++ (marks b ++ marks c)

  -- what some expressions hold
  pub all_marks : ExprTrees → List Mark
  all_marks no_expr = []
  all_marks (more_expr x xs) = marks x ++ all_marks xs

  -- what the operand behind an operator holds
  pub one_link_marks : LinkTree → List Mark
  one_link_marks (tree.link p a b) = marks b

  -- what the operands behind some operators hold
  pub link_marks : LinkTrees → List Mark
  link_marks no_link = []
  link_marks (more_link x xs) = one_link_marks x ++ link_marks xs

  -- what the operands of a read or call hold, where its pointer or what it calls holds these
  pub operand_marks : List Mark → PostfixTree → List Mark
  operand_marks ms (tree.field_ q a) = ms
  operand_marks ms (tree.index_ q a) = ms ++ marks a
  operand_marks ms (tree.call_ q a) = ms ++ all_marks a

  -- what a read or call holds, whose pointer or what it calls begins at a place and holds these
  pub part_marks : Place → List Mark → PostfixTree → List Mark
  part_marks p ms (tree.field_ q a) = ms ++ read q ∷ []
  part_marks p ms (tree.index_ q a) = ms ++ read q ∷ marks a
  part_marks p ms (tree.call_ q a) = call p ∷ (ms ++ all_marks a)

  -- the same of some reads and calls, each of what stands before it
  pub parts_marks : Place → List Mark → PostfixTrees → List Mark
  parts_marks p ms no_postfix = ms
  parts_marks p ms (more_postfix x xs) = parts_marks p (part_marks p ms x) xs
