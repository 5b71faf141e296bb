-- Written by tools/gen_syntax.py: change it there.
-- Pure data of expressions of real text: no pointers, and in front of each the place of its first token.
use Rattle.std.specs.Prelude.{ℕ, ◌+◌, ◌≤◌, List, [], ◌∷◌, Option}
use Rattle.std.proofs.Common.{arith}
use denote.Param.Weighed.{most}
use Rattle.vf_syntax.specs.declared.operator.BinaryOperator.{BinaryOperator}
use Rattle.vf_syntax.specs.declared.written.CType.{CType}
use Rattle.vf_base.specs.declared.int_type.IntType.{IntType}
use Rattle.vf_syntax.specs.declared.operator.Level.{Level}
use Rattle.vf_syntax.specs.declared.written.Name.{Name}
use Rattle.vf_base.specs.declared.place.Place.{Place}
use Rattle.vf_syntax.specs.declared.operator.UnaryOperator.{UnaryOperator}

mutual
  -- An expression of real text, and the place of its first token (C11 6.5).
  pub data ExprTree : Type 0 where
    number : Place → ℕ → IntType → ExprTree
    character : Place → ℕ → ExprTree
    true_ : Place → ExprTree
    false_ : Place → ExprTree
    name_ : Place → List ℕ → ExprTree
    parenthesized : Place → ExprTree → ExprTree
    malloc : Place → Name → ExprTree
    malloc_ints : Place → ExprTree → Place → ExprTree
    postfix : Place → ExprTree → PostfixTrees → ExprTree
    unary : Place → UnaryOperator → ExprTree → ExprTree
    cast : Place → CType → ExprTree → ExprTree
    chain : Place → Level → ExprTree → LinkTrees → ExprTree
    conditional : Place → ExprTree → ExprTree → ExprTree → ExprTree

  -- a list of these
  pub data ExprTrees : Type 0 where
    no_expr : ExprTrees
    more_expr : ExprTree → ExprTrees → ExprTrees

  -- An operator, its place, and the operand behind it.
  pub data LinkTree : Type 0 where
    link : Place → BinaryOperator → ExprTree → LinkTree

  -- a list of these
  pub data LinkTrees : Type 0 where
    no_link : LinkTrees
    more_link : LinkTree → LinkTrees → LinkTrees

  -- What stands behind an operand, and the place of its `->`, `[` or `(`.
  pub data PostfixTree : Type 0 where
    field_ : Place → Name → PostfixTree
    index_ : Place → ExprTree → PostfixTree
    call_ : Place → ExprTrees → PostfixTree

  -- a list of these
  pub data PostfixTrees : Type 0 where
    no_postfix : PostfixTrees
    more_postfix : PostfixTree → PostfixTrees → PostfixTrees

-- the pure data of a list
abbrev pub expr_list : List ExprTree → ExprTrees
expr_list [] = no_expr
expr_list (x ∷ xs) = more_expr x (expr_list xs)

-- the pure data of a list
abbrev pub link_list : List LinkTree → LinkTrees
link_list [] = no_link
link_list (x ∷ xs) = more_link x (link_list xs)

-- the pure data of a list
abbrev pub postfix_list : List PostfixTree → PostfixTrees
postfix_list [] = no_postfix
postfix_list (x ∷ xs) = more_postfix x (postfix_list xs)

abbrev mutual
  -- how many nodes it has
  pub expr_nodes : ExprTree → ℕ
  expr_nodes (number p a b) = 1
  expr_nodes (character p a) = 1
  expr_nodes (true_ p) = 1
  expr_nodes (false_ p) = 1
  expr_nodes (name_ p a) = 1
  expr_nodes (parenthesized p a) = expr_nodes a + 1
  expr_nodes (malloc p a) = 1
  expr_nodes (malloc_ints p a b) = expr_nodes a + 1
  expr_nodes (postfix p a b) = expr_nodes a + postfix_nodes_all b + 1
  expr_nodes (unary p a b) = expr_nodes b + 1
  expr_nodes (cast p a b) = expr_nodes b + 1
  expr_nodes (chain p a b c) = expr_nodes b + link_nodes_all c + 1
  expr_nodes (conditional p a b c) = expr_nodes a + expr_nodes b + expr_nodes c + 1

  -- how many nodes a list of these has
  pub expr_nodes_all : ExprTrees → ℕ
  expr_nodes_all no_expr = 0
  expr_nodes_all (more_expr x xs) = expr_nodes x + expr_nodes_all xs + 1

  -- how many nodes it has
  pub link_nodes : LinkTree → ℕ
  link_nodes (link p a b) = expr_nodes b + 1

  -- how many nodes a list of these has
  pub link_nodes_all : LinkTrees → ℕ
  link_nodes_all no_link = 0
  link_nodes_all (more_link x xs) = link_nodes x + link_nodes_all xs + 1

  -- how many nodes it has
  pub postfix_nodes : PostfixTree → ℕ
  postfix_nodes (field_ p a) = 1
  postfix_nodes (index_ p a) = expr_nodes a + 1
  postfix_nodes (call_ p a) = expr_nodes_all a + 1

  -- how many nodes a list of these has
  pub postfix_nodes_all : PostfixTrees → ℕ
  postfix_nodes_all no_postfix = 0
  postfix_nodes_all (more_postfix x xs) = postfix_nodes x + postfix_nodes_all xs + 1

-- each item of a list has fewer nodes than the list
pub most_le-expr_nodes_all : (xs : List ExprTree) → most (λ x. expr_nodes x + 1) xs ≤ expr_nodes_all (expr_list xs)
most_le-expr_nodes_all [] = omega arith
most_le-expr_nodes_all (x ∷ xs) = omega (arith, most_le-expr_nodes_all xs)

-- each item of a list has fewer nodes than the list
pub most_le-link_nodes_all : (xs : List LinkTree) → most (λ x. link_nodes x + 1) xs ≤ link_nodes_all (link_list xs)
most_le-link_nodes_all [] = omega arith
most_le-link_nodes_all (x ∷ xs) = omega (arith, most_le-link_nodes_all xs)

-- each item of a list has fewer nodes than the list
pub most_le-postfix_nodes_all : (xs : List PostfixTree) → most (λ x. postfix_nodes x + 1) xs ≤ postfix_nodes_all (postfix_list xs)
most_le-postfix_nodes_all [] = omega arith
most_le-postfix_nodes_all (x ∷ xs) = omega (arith, most_le-postfix_nodes_all xs)
