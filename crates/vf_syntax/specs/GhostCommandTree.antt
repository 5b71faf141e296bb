-- Written by tools/gen_syntax.py: change it there.
-- Pure data of ghost commands: no pointers, and in front of each the place of its first token.
use Rattle.std.specs.Prelude.{ℕ, ◌+◌, ◌≤◌, List, [], ◌∷◌, Option}
use Rattle.std.proofs.Common.{arith}
use denote.Param.Weighed.{most}
use Rattle.vf_syntax.specs.declared.pattern.CasePattern.{CasePattern}
use Rattle.vf_syntax.specs.declared.written.Name.{Name}
use Rattle.vf_syntax.specs.declared.pattern.Pattern.{Pattern}
use Rattle.vf_base.specs.declared.place.Place.{Place}
use Rattle.vf_syntax.specs.declared.pattern.Share.{Share}
use Rattle.vf_syntax.specs.GhostExprTree.{GhostExprTree}
use Rattle.vf_syntax.specs.AssertionTree.{PartTree}
use Rattle.vf_syntax.specs.SortTree.{SortTree}

mutual
  -- A ghost command, and the place of its first token.
  pub data GhostCommandTree : Type 0 where
    open_ : Place → Option Share → Name → List Pattern → Option (List Pattern) → GhostCommandTree
    close_ : Place → Option Share → Name → List Pattern → Option (List Pattern) → GhostCommandTree
    leak_ : Place → List PartTree → GhostCommandTree
    assert_ : Place → List PartTree → GhostCommandTree
    declaration : Place → SortTree → Name → GhostExprTree → GhostCommandTree
    assignment : Place → List ℕ → GhostExprTree → GhostCommandTree
    call_ : Place → List ℕ → List GhostExprTree → GhostCommandTree
    if_ : Place → GhostExprTree → GhostCommandTrees → GhostCommandTree
    if_else : Place → GhostExprTree → GhostCommandTrees → GhostCommandTrees → GhostCommandTree
    switch_ : Place → GhostExprTree → CommandCaseTrees → GhostCommandTree
    block : Place → GhostCommandTrees → GhostCommandTree

  -- a list of these
  pub data GhostCommandTrees : Type 0 where
    no_ghost_command : GhostCommandTrees
    more_ghost_command : GhostCommandTree → GhostCommandTrees → GhostCommandTrees

  -- A case of a `switch` among ghost commands, and the place of its `case`.
  pub data CommandCaseTree : Type 0 where
    command_case : Place → CasePattern → GhostCommandTrees → CommandCaseTree

  -- a list of these
  pub data CommandCaseTrees : Type 0 where
    no_command_case : CommandCaseTrees
    more_command_case : CommandCaseTree → CommandCaseTrees → CommandCaseTrees

-- the pure data of a list
abbrev pub ghost_command_list : List GhostCommandTree → GhostCommandTrees
ghost_command_list [] = no_ghost_command
ghost_command_list (x ∷ xs) = more_ghost_command x (ghost_command_list xs)

-- the pure data of a list
abbrev pub command_case_list : List CommandCaseTree → CommandCaseTrees
command_case_list [] = no_command_case
command_case_list (x ∷ xs) = more_command_case x (command_case_list xs)

abbrev mutual
  -- how many nodes it has
  pub ghost_command_nodes : GhostCommandTree → ℕ
  ghost_command_nodes (open_ p a b c d) = 1
  ghost_command_nodes (close_ p a b c d) = 1
  ghost_command_nodes (leak_ p a) = 1
  ghost_command_nodes (assert_ p a) = 1
  ghost_command_nodes (declaration p a b c) = 1
  ghost_command_nodes (assignment p a b) = 1
  ghost_command_nodes (call_ p a b) = 1
  ghost_command_nodes (if_ p a b) = ghost_command_nodes_all b + 1
  ghost_command_nodes (if_else p a b c) = ghost_command_nodes_all b + ghost_command_nodes_all c + 1
  ghost_command_nodes (switch_ p a b) = command_case_nodes_all b + 1
  ghost_command_nodes (block p a) = ghost_command_nodes_all a + 1

  -- how many nodes a list of these has
  pub ghost_command_nodes_all : GhostCommandTrees → ℕ
  ghost_command_nodes_all no_ghost_command = 0
  ghost_command_nodes_all (more_ghost_command x xs) = ghost_command_nodes x + ghost_command_nodes_all xs + 1

  -- how many nodes it has
  pub command_case_nodes : CommandCaseTree → ℕ
  command_case_nodes (command_case p a b) = ghost_command_nodes_all b + 1

  -- how many nodes a list of these has
  pub command_case_nodes_all : CommandCaseTrees → ℕ
  command_case_nodes_all no_command_case = 0
  command_case_nodes_all (more_command_case x xs) = command_case_nodes x + command_case_nodes_all xs + 1

-- each item of a list has fewer nodes than the list
pub most_le-ghost_command_nodes_all : (xs : List GhostCommandTree) → most (λ x. ghost_command_nodes x + 1) xs ≤ ghost_command_nodes_all (ghost_command_list xs)
most_le-ghost_command_nodes_all [] = omega arith
most_le-ghost_command_nodes_all (x ∷ xs) = omega (arith, most_le-ghost_command_nodes_all xs)

-- each item of a list has fewer nodes than the list
pub most_le-command_case_nodes_all : (xs : List CommandCaseTree) → most (λ x. command_case_nodes x + 1) xs ≤ command_case_nodes_all (command_case_list xs)
most_le-command_case_nodes_all [] = omega arith
most_le-command_case_nodes_all (x ∷ xs) = omega (arith, most_le-command_case_nodes_all xs)
