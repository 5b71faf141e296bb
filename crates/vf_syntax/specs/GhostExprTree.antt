-- Written by tools/gen_syntax.py: change it there.
-- Pure data of expressions of ghost text: no pointers, and in front of each the place of its first token.
use Rattle.std.specs.Prelude.{ℕ, ◌+◌, ◌≤◌, List, [], ◌∷◌, Option}
use Rattle.std.proofs.Common.{arith}
use denote.Param.Weighed.{most}
use Rattle.vf_syntax.specs.declared.operator.BinaryOperator.{BinaryOperator}
use Rattle.vf_base.specs.declared.int_type.IntType.{IntType}
use Rattle.vf_syntax.specs.declared.operator.Level.{Level}
use Rattle.vf_base.specs.declared.place.Place.{Place}
use Rattle.vf_syntax.specs.declared.operator.UnaryOperator.{UnaryOperator}

mutual
  -- An expression of ghost text, and the place of its first token.
  pub data GhostExprTree : Type 0 where
    number : Place → ℕ → IntType → GhostExprTree
    true_ : Place → GhostExprTree
    false_ : Place → GhostExprTree
    result : Place → GhostExprTree
    this_ : Place → GhostExprTree
    current_thread : Place → GhostExprTree
    name_ : Place → List ℕ → GhostExprTree
    application : Place → List ℕ → GhostExprTrees → GhostExprTree
    parenthesized : Place → GhostExprTree → GhostExprTree
    conditional : Place → GhostExprTree → GhostExprTree → GhostExprTree → GhostExprTree
    unary : Place → UnaryOperator → GhostExprTree → GhostExprTree
    chain : Place → Level → GhostExprTree → GhostLinkTrees → GhostExprTree

  -- a list of these
  pub data GhostExprTrees : Type 0 where
    no_ghost_expr : GhostExprTrees
    more_ghost_expr : GhostExprTree → GhostExprTrees → GhostExprTrees

  -- An operator, its place, and the operand behind it.
  pub data GhostLinkTree : Type 0 where
    ghost_link : Place → BinaryOperator → GhostExprTree → GhostLinkTree

  -- a list of these
  pub data GhostLinkTrees : Type 0 where
    no_ghost_link : GhostLinkTrees
    more_ghost_link : GhostLinkTree → GhostLinkTrees → GhostLinkTrees

-- the pure data of a list
abbrev pub ghost_expr_list : List GhostExprTree → GhostExprTrees
ghost_expr_list [] = no_ghost_expr
ghost_expr_list (x ∷ xs) = more_ghost_expr x (ghost_expr_list xs)

-- the pure data of a list
abbrev pub ghost_link_list : List GhostLinkTree → GhostLinkTrees
ghost_link_list [] = no_ghost_link
ghost_link_list (x ∷ xs) = more_ghost_link x (ghost_link_list xs)

abbrev mutual
  -- how many nodes it has
  pub ghost_expr_nodes : GhostExprTree → ℕ
  ghost_expr_nodes (number p a b) = 1
  ghost_expr_nodes (true_ p) = 1
  ghost_expr_nodes (false_ p) = 1
  ghost_expr_nodes (result p) = 1
  ghost_expr_nodes (this_ p) = 1
  ghost_expr_nodes (current_thread p) = 1
  ghost_expr_nodes (name_ p a) = 1
  ghost_expr_nodes (application p a b) = ghost_expr_nodes_all b + 1
  ghost_expr_nodes (parenthesized p a) = ghost_expr_nodes a + 1
  ghost_expr_nodes (conditional p a b c) = ghost_expr_nodes a + ghost_expr_nodes b + ghost_expr_nodes c + 1
  ghost_expr_nodes (unary p a b) = ghost_expr_nodes b + 1
  ghost_expr_nodes (chain p a b c) = ghost_expr_nodes b + ghost_link_nodes_all c + 1

  -- how many nodes a list of these has
  pub ghost_expr_nodes_all : GhostExprTrees → ℕ
  ghost_expr_nodes_all no_ghost_expr = 0
  ghost_expr_nodes_all (more_ghost_expr x xs) = ghost_expr_nodes x + ghost_expr_nodes_all xs + 1

  -- how many nodes it has
  pub ghost_link_nodes : GhostLinkTree → ℕ
  ghost_link_nodes (ghost_link p a b) = ghost_expr_nodes b + 1

  -- how many nodes a list of these has
  pub ghost_link_nodes_all : GhostLinkTrees → ℕ
  ghost_link_nodes_all no_ghost_link = 0
  ghost_link_nodes_all (more_ghost_link x xs) = ghost_link_nodes x + ghost_link_nodes_all xs + 1

-- each item of a list has fewer nodes than the list
pub most_le-ghost_expr_nodes_all : (xs : List GhostExprTree) → most (λ x. ghost_expr_nodes x + 1) xs ≤ ghost_expr_nodes_all (ghost_expr_list xs)
most_le-ghost_expr_nodes_all [] = omega arith
most_le-ghost_expr_nodes_all (x ∷ xs) = omega (arith, most_le-ghost_expr_nodes_all xs)

-- each item of a list has fewer nodes than the list
pub most_le-ghost_link_nodes_all : (xs : List GhostLinkTree) → most (λ x. ghost_link_nodes x + 1) xs ≤ ghost_link_nodes_all (ghost_link_list xs)
most_le-ghost_link_nodes_all [] = omega arith
most_le-ghost_link_nodes_all (x ∷ xs) = omega (arith, most_le-ghost_link_nodes_all xs)
