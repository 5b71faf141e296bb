-- Written by tools/gen_syntax.py: change it there.
-- Pure data of assertions: no pointers, and in front of each the place of its first token.
use Rattle.std.specs.Prelude.{ℕ, ◌+◌, ◌≤◌, List, [], ◌∷◌, Option}
use Rattle.std.proofs.Common.{arith}
use denote.Param.Weighed.{most}
use Rattle.vf_syntax.specs.declared.pattern.CasePattern.{CasePattern}
use Rattle.vf_syntax.specs.declared.written.Name.{Name}
use Rattle.vf_syntax.specs.declared.pattern.Pattern.{Pattern}
use Rattle.vf_base.specs.declared.place.Place.{Place}
use Rattle.vf_syntax.specs.declared.pattern.Share.{Share}
use Rattle.vf_syntax.specs.GhostExprTree.{GhostExprTree}

mutual
  -- A part of an assertion, and the place of its first token.
  pub data PartTree : Type 0 where
    conditional : Place → GhostExprTree → PartTrees → PartTrees → PartTree
    switch_ : Place → GhostExprTree → AssertionCaseTrees → PartTree
    cell : Place → Option Share → GhostExprTree → Name → Pattern → PartTree
    chunk : Place → Option Share → Name → List Pattern → Option (List Pattern) → PartTree
    empty_ : Place → PartTree
    pure : Place → GhostExprTree → PartTree
    group : Place → PartTrees → PartTree

  -- a list of these
  pub data PartTrees : Type 0 where
    no_part : PartTrees
    more_part : PartTree → PartTrees → PartTrees

  -- A case of a `switch` in an assertion, and the place of its `case`.
  pub data AssertionCaseTree : Type 0 where
    assertion_case : Place → CasePattern → PartTrees → AssertionCaseTree

  -- a list of these
  pub data AssertionCaseTrees : Type 0 where
    no_assertion_case : AssertionCaseTrees
    more_assertion_case : AssertionCaseTree → AssertionCaseTrees → AssertionCaseTrees

-- the pure data of a list
abbrev pub part_list : List PartTree → PartTrees
part_list [] = no_part
part_list (x ∷ xs) = more_part x (part_list xs)

-- the pure data of a list
abbrev pub assertion_case_list : List AssertionCaseTree → AssertionCaseTrees
assertion_case_list [] = no_assertion_case
assertion_case_list (x ∷ xs) = more_assertion_case x (assertion_case_list xs)

abbrev mutual
  -- how many nodes it has
  pub part_nodes : PartTree → ℕ
  part_nodes (conditional p a b c) = part_nodes_all b + part_nodes_all c + 1
  part_nodes (switch_ p a b) = assertion_case_nodes_all b + 1
  part_nodes (cell p a b c d) = 1
  part_nodes (chunk p a b c d) = 1
  part_nodes (empty_ p) = 1
  part_nodes (pure p a) = 1
  part_nodes (group p a) = part_nodes_all a + 1

  -- how many nodes a list of these has
  pub part_nodes_all : PartTrees → ℕ
  part_nodes_all no_part = 0
  part_nodes_all (more_part x xs) = part_nodes x + part_nodes_all xs + 1

  -- how many nodes it has
  pub assertion_case_nodes : AssertionCaseTree → ℕ
  assertion_case_nodes (assertion_case p a b) = part_nodes_all b + 1

  -- how many nodes a list of these has
  pub assertion_case_nodes_all : AssertionCaseTrees → ℕ
  assertion_case_nodes_all no_assertion_case = 0
  assertion_case_nodes_all (more_assertion_case x xs) = assertion_case_nodes x + assertion_case_nodes_all xs + 1

-- each item of a list has fewer nodes than the list
pub most_le-part_nodes_all : (xs : List PartTree) → most (λ x. part_nodes x + 1) xs ≤ part_nodes_all (part_list xs)
most_le-part_nodes_all [] = omega arith
most_le-part_nodes_all (x ∷ xs) = omega (arith, most_le-part_nodes_all xs)

-- each item of a list has fewer nodes than the list
pub most_le-assertion_case_nodes_all : (xs : List AssertionCaseTree) → most (λ x. assertion_case_nodes x + 1) xs ≤ assertion_case_nodes_all (assertion_case_list xs)
most_le-assertion_case_nodes_all [] = omega arith
most_le-assertion_case_nodes_all (x ∷ xs) = omega (arith, most_le-assertion_case_nodes_all xs)
