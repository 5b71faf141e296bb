-- Written by tools/gen_syntax.py: change it there.
-- Pure data of sorts: no pointers, and in front of each the place of its first token.
use Rattle.std.specs.Prelude.{ℕ, ◌+◌, ◌≤◌, List, [], ◌∷◌, Option}
use Rattle.std.proofs.Common.{arith}
use denote.Param.Weighed.{most}
use Rattle.vf_syntax.specs.declared.written.CType.{CType}
use Rattle.vf_base.specs.declared.place.Place.{Place}

mutual
  -- A sort of ghost text, and the place of its first token.
  pub data SortTree : Type 0 where
    real_ : Place → SortTree
    any_ : Place → SortTree
    type_ : Place → CType → SortTree
    name_ : Place → List ℕ → SortTrees → SortTree
    predicate_ : Place → SortTrees → SortTree

  -- a list of these
  pub data SortTrees : Type 0 where
    no_sort : SortTrees
    more_sort : SortTree → SortTrees → SortTrees

-- the pure data of a list
abbrev pub sort_list : List SortTree → SortTrees
sort_list [] = no_sort
sort_list (x ∷ xs) = more_sort x (sort_list xs)

abbrev mutual
  -- how many nodes it has
  pub sort_nodes : SortTree → ℕ
  sort_nodes (real_ p) = 1
  sort_nodes (any_ p) = 1
  sort_nodes (type_ p a) = 1
  sort_nodes (name_ p a b) = sort_nodes_all b + 1
  sort_nodes (predicate_ p a) = sort_nodes_all a + 1

  -- how many nodes a list of these has
  pub sort_nodes_all : SortTrees → ℕ
  sort_nodes_all no_sort = 0
  sort_nodes_all (more_sort x xs) = sort_nodes x + sort_nodes_all xs + 1

-- each item of a list has fewer nodes than the list
pub most_le-sort_nodes_all : (xs : List SortTree) → most (λ x. sort_nodes x + 1) xs ≤ sort_nodes_all (sort_list xs)
most_le-sort_nodes_all [] = omega arith
most_le-sort_nodes_all (x ∷ xs) = omega (arith, most_le-sort_nodes_all xs)
