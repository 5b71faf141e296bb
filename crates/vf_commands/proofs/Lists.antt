-- Lists that a loop goes over, by their nodes.
use Rattle.std.proofs.Common.{◌≡◌, ℕ, zero, suc, ◌<◌, List, [], ◌∷◌, Some, slice_get, sym, arith}
use Rattle.vf_syntax.specs.GhostCommandTree.{GhostCommandTree, ghost_command_list, ghost_command_nodes, ghost_command_nodes_all, CommandCaseTree, command_case_list, command_case_nodes, command_case_nodes_all}

-- an item of a list has fewer nodes than the list
pub command_smaller : (xs : List GhostCommandTree) (i : ℕ) (x : GhostCommandTree) → slice_get xs i ≡ Some x → ghost_command_nodes x < ghost_command_nodes_all (ghost_command_list xs)
command_smaller [] i x h = absurd cc
command_smaller (y ∷ xs) zero x h = let e : y ≡ x = cc in rw (sym e) (omega arith)
command_smaller (y ∷ xs) (suc i) x h = let rest = command_smaller xs i x h in omega (arith, rest)

-- the same
pub case_smaller : (xs : List CommandCaseTree) (i : ℕ) (x : CommandCaseTree) → slice_get xs i ≡ Some x → command_case_nodes x < command_case_nodes_all (command_case_list xs)
case_smaller [] i x h = absurd cc
case_smaller (y ∷ xs) zero x h = let e : y ≡ x = cc in rw (sym e) (omega arith)
case_smaller (y ∷ xs) (suc i) x h = let rest = case_smaller xs i x h in omega (arith, rest)
