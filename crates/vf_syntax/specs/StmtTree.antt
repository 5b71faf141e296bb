-- Written by tools/gen_syntax.py: change it there.
-- Pure data of statements: no pointers, and in front of each the place of its first token.
use Rattle.std.specs.Prelude.{ℕ, ◌+◌, ◌≤◌, List, [], ◌∷◌, Option}
use Rattle.std.proofs.Common.{arith}
use denote.Param.Weighed.{most}
use Rattle.vf_syntax.specs.declared.written.CType.{CType}
use Rattle.vf_syntax.specs.declared.simple.First.{First}
use Rattle.vf_syntax.specs.declared.contract.Invariant.{Invariant}
use Rattle.vf_syntax.specs.declared.written.Name.{Name}
use Rattle.vf_base.specs.declared.place.Place.{Place}
use Rattle.vf_syntax.specs.declared.simple.Simple.{Simple}
use Rattle.vf_syntax.specs.ExprTree.{ExprTree}
use Rattle.vf_syntax.specs.GhostCommandTree.{GhostCommandTree}

mutual
  -- A statement, and the place of its first token (C11 6.8).
  pub data StmtTree : Type 0 where
    declaration : Place → CType → Name → Option ExprTree → Place → StmtTree
    simple : Place → Simple → Place → StmtTree
    if_ : Place → ExprTree → StmtTree → StmtTree
    if_else : Place → ExprTree → StmtTree → StmtTree → StmtTree
    while_ : Place → ExprTree → Option Invariant → StmtTree → StmtTree
    for_ : Place → Option First → Option ExprTree → Option Simple → Option Invariant → StmtTree → StmtTree
    return_ : Place → Option ExprTree → Place → StmtTree
    block : Place → StmtTrees → Place → StmtTree
    empty_ : Place → StmtTree
    ghost : Place → GhostCommandTree → StmtTree

  -- a list of these
  pub data StmtTrees : Type 0 where
    no_stmt : StmtTrees
    more_stmt : StmtTree → StmtTrees → StmtTrees

-- the pure data of a list
abbrev pub stmt_list : List StmtTree → StmtTrees
stmt_list [] = no_stmt
stmt_list (x ∷ xs) = more_stmt x (stmt_list xs)

abbrev mutual
  -- how many nodes it has
  pub stmt_nodes : StmtTree → ℕ
  stmt_nodes (declaration p a b c d) = 1
  stmt_nodes (simple p a b) = 1
  stmt_nodes (if_ p a b) = stmt_nodes b + 1
  stmt_nodes (if_else p a b c) = stmt_nodes b + stmt_nodes c + 1
  stmt_nodes (while_ p a b c) = stmt_nodes c + 1
  stmt_nodes (for_ p a b c d f) = stmt_nodes f + 1
  stmt_nodes (return_ p a b) = 1
  stmt_nodes (block p a b) = stmt_nodes_all a + 1
  stmt_nodes (empty_ p) = 1
  stmt_nodes (ghost p a) = 1

  -- how many nodes a list of these has
  pub stmt_nodes_all : StmtTrees → ℕ
  stmt_nodes_all no_stmt = 0
  stmt_nodes_all (more_stmt x xs) = stmt_nodes x + stmt_nodes_all xs + 1

-- each item of a list has fewer nodes than the list
pub most_le-stmt_nodes_all : (xs : List StmtTree) → most (λ x. stmt_nodes x + 1) xs ≤ stmt_nodes_all (stmt_list xs)
most_le-stmt_nodes_all [] = omega arith
most_le-stmt_nodes_all (x ∷ xs) = omega (arith, most_le-stmt_nodes_all xs)
