-- Written by tools/gen_syntax.py: change it there.
-- Pure data of assertions: no pointers, and in front of each the place of its first token.
use Rattle.std.specs.Prelude.{ℕ, ◌+◌, ◌≤◌, List, [], ◌∷◌, Option}
use Rattle.std.proofs.Common.{arith}
use denote.Param.Weighed.{most}
use Rattle.vf_resolved.specs.declared.head.CellField.{CellField}
use Rattle.vf_resolved.specs.declared.head.Head.{Head}
use Rattle.vf_resolved.specs.declared.pattern.Pattern.{Pattern}
use Rattle.vf_base.specs.declared.place.Place.{Place}
use Rattle.vf_resolved.specs.declared.pattern.Share.{Share}
use Rattle.vf_resolved.specs.declared.pattern.Slot.{Slot}
use Rattle.vf_closure.specs.Terms.{Term}
use Rattle.vf_resolved.specs.TruthTree.{TruthTree}

mutual
  -- A part of an assertion, and the place of its first token.
  pub data PartTree : Type 0 where
    pure : Place → TruthTree → PartTree
    empty_ : Place → PartTree
    group : Place → PartTrees → PartTree
    conditional : Place → TruthTree → PartTrees → PartTrees → PartTree
    switch_ : Place → Term → BranchTrees → PartTree
    cell : Place → Option Share → Term → CellField → Pattern → PartTree
    chunk : Place → Option Share → Head → List Pattern → PartTree

  -- a list of these
  pub data PartTrees : Type 0 where
    no_part : PartTrees
    more_part : PartTree → PartTrees → PartTrees

  -- A case of a `switch`, and the place of its `case`: the identity of its constructor, the place of that among the constructors of the datatype, counted from 0, and the names of its arguments.
  pub data BranchTree : Type 0 where
    branch : Place → List ℕ → ℕ → List Slot → PartTrees → BranchTree

  -- a list of these
  pub data BranchTrees : Type 0 where
    no_branch : BranchTrees
    more_branch : BranchTree → BranchTrees → BranchTrees

-- the pure data of a list
abbrev pub part_list : List PartTree → PartTrees
part_list [] = no_part
part_list (x ∷ xs) = more_part x (part_list xs)

-- the pure data of a list
abbrev pub branch_list : List BranchTree → BranchTrees
branch_list [] = no_branch
branch_list (x ∷ xs) = more_branch x (branch_list xs)

abbrev mutual
  -- how many nodes it has
  pub part_nodes : PartTree → ℕ
  part_nodes (pure p a) = 1
  part_nodes (empty_ p) = 1
  part_nodes (group p a) = part_nodes_all a + 1
  part_nodes (conditional p a b c) = part_nodes_all b + part_nodes_all c + 1
  part_nodes (switch_ p a b) = branch_nodes_all b + 1
  part_nodes (cell p a b c d) = 1
  part_nodes (chunk p a b c) = 1

  -- how many nodes a list of these has
  pub part_nodes_all : PartTrees → ℕ
  part_nodes_all no_part = 0
  part_nodes_all (more_part x xs) = part_nodes x + part_nodes_all xs + 1

  -- how many nodes it has
  pub branch_nodes : BranchTree → ℕ
  branch_nodes (branch p a b c d) = part_nodes_all d + 1

  -- how many nodes a list of these has
  pub branch_nodes_all : BranchTrees → ℕ
  branch_nodes_all no_branch = 0
  branch_nodes_all (more_branch x xs) = branch_nodes x + branch_nodes_all xs + 1

-- each item of a list has fewer nodes than the list
pub most_le-part_nodes_all : (xs : List PartTree) → most (λ x. part_nodes x + 1) xs ≤ part_nodes_all (part_list xs)
most_le-part_nodes_all [] = omega arith
most_le-part_nodes_all (x ∷ xs) = omega (arith, most_le-part_nodes_all xs)

-- each item of a list has fewer nodes than the list
pub most_le-branch_nodes_all : (xs : List BranchTree) → most (λ x. branch_nodes x + 1) xs ≤ branch_nodes_all (branch_list xs)
most_le-branch_nodes_all [] = omega arith
most_le-branch_nodes_all (x ∷ xs) = omega (arith, most_le-branch_nodes_all xs)
