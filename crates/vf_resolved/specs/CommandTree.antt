-- Written by tools/gen_syntax.py: change it there.
-- Pure data of ghost commands: no pointers, and in front of each the place of its first token.
use Rattle.std.specs.Prelude.{ℕ, ◌+◌, ◌≤◌, List, [], ◌∷◌, Option}
use Rattle.std.proofs.Common.{arith}
use denote.Param.Weighed.{most}
use Rattle.vf_resolved.specs.declared.pattern.Argument.{Argument}
use Rattle.vf_resolved.specs.declared.head.Head.{Head}
use Rattle.vf_resolved.specs.declared.pattern.Pattern.{Pattern}
use Rattle.vf_base.specs.declared.place.Place.{Place}
use Rattle.vf_resolved.specs.declared.pattern.Share.{Share}
use Rattle.vf_resolved.specs.declared.pattern.Slot.{Slot}
use Rattle.vf_resolved.specs.AssertionTree.{PartTree}
use Rattle.vf_closure.specs.Terms.{Term}
use Rattle.vf_resolved.specs.TruthTree.{TruthTree}

mutual
  -- A ghost command, and the place of its first token.
  pub data CommandTree : Type 0 where
    open_ : Place → Option Share → Head → List Pattern → CommandTree
    close_ : Place → Option Share → Head → List Argument → CommandTree
    leak_ : Place → List PartTree → CommandTree
    assert_ : Place → List PartTree → CommandTree
    set : Place → Term → Term → CommandTree
    call_ : Place → List ℕ → List Term → CommandTree
    call_real : Place → CommandTree
    if_ : Place → TruthTree → CommandTrees → CommandTrees → CommandTree
    switch_ : Place → Term → CommandBranchTrees → CommandTree
    block : Place → CommandTrees → CommandTree

  -- a list of these
  pub data CommandTrees : Type 0 where
    no_command : CommandTrees
    more_command : CommandTree → CommandTrees → CommandTrees

  -- A case of a `switch` among ghost commands, and the place of its `case`, as a branch of an assertion has it.
  pub data CommandBranchTree : Type 0 where
    command_branch : Place → List ℕ → ℕ → List Slot → CommandTrees → CommandBranchTree

  -- a list of these
  pub data CommandBranchTrees : Type 0 where
    no_command_branch : CommandBranchTrees
    more_command_branch : CommandBranchTree → CommandBranchTrees → CommandBranchTrees

-- the pure data of a list
abbrev pub command_list : List CommandTree → CommandTrees
command_list [] = no_command
command_list (x ∷ xs) = more_command x (command_list xs)

-- the pure data of a list
abbrev pub command_branch_list : List CommandBranchTree → CommandBranchTrees
command_branch_list [] = no_command_branch
command_branch_list (x ∷ xs) = more_command_branch x (command_branch_list xs)

abbrev mutual
  -- how many nodes it has
  pub command_nodes : CommandTree → ℕ
  command_nodes (open_ p a b c) = 1
  command_nodes (close_ p a b c) = 1
  command_nodes (leak_ p a) = 1
  command_nodes (assert_ p a) = 1
  command_nodes (set p a b) = 1
  command_nodes (call_ p a b) = 1
  command_nodes (call_real p) = 1
  command_nodes (if_ p a b c) = command_nodes_all b + command_nodes_all c + 1
  command_nodes (switch_ p a b) = command_branch_nodes_all b + 1
  command_nodes (block p a) = command_nodes_all a + 1

  -- how many nodes a list of these has
  pub command_nodes_all : CommandTrees → ℕ
  command_nodes_all no_command = 0
  command_nodes_all (more_command x xs) = command_nodes x + command_nodes_all xs + 1

  -- how many nodes it has
  pub command_branch_nodes : CommandBranchTree → ℕ
  command_branch_nodes (command_branch p a b c d) = command_nodes_all d + 1

  -- how many nodes a list of these has
  pub command_branch_nodes_all : CommandBranchTrees → ℕ
  command_branch_nodes_all no_command_branch = 0
  command_branch_nodes_all (more_command_branch x xs) = command_branch_nodes x + command_branch_nodes_all xs + 1

-- each item of a list has fewer nodes than the list
pub most_le-command_nodes_all : (xs : List CommandTree) → most (λ x. command_nodes x + 1) xs ≤ command_nodes_all (command_list xs)
most_le-command_nodes_all [] = omega arith
most_le-command_nodes_all (x ∷ xs) = omega (arith, most_le-command_nodes_all xs)

-- each item of a list has fewer nodes than the list
pub most_le-command_branch_nodes_all : (xs : List CommandBranchTree) → most (λ x. command_branch_nodes x + 1) xs ≤ command_branch_nodes_all (command_branch_list xs)
most_le-command_branch_nodes_all [] = omega arith
most_le-command_branch_nodes_all (x ∷ xs) = omega (arith, most_le-command_branch_nodes_all xs)
