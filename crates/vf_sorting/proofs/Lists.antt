-- Lists that a loop goes over: what is left of them, and by their nodes.
use Rattle.std.proofs.Common.{◌≡◌, ℕ, zero, suc, ◌+◌, ◌<◌, ◌≤◌, List, [], ◌∷◌, length, drop, Some, None, slice_get, refl, sym, arith}
use Rattle.vf_syntax.specs.GhostExprTree.{GhostExprTree, ghost_expr_list, ghost_expr_nodes, ghost_expr_nodes_all, GhostLinkTree, ghost_link_list, ghost_link_nodes, ghost_link_nodes_all}

-- what is left at an item begins with it
pub left_at : {A : Type 0} (xs : List A) (i : ℕ) (x : A) → slice_get xs i ≡ Some x → drop i xs ≡ x ∷ drop (i + 1) xs
left_at [] i x h = absurd cc
left_at (y ∷ xs) zero x h = let e : y ≡ x = cc in rw e refl
left_at (y ∷ xs) (suc i) x h = let step : suc i + 1 ≡ suc (i + 1) = omega arith in rw step (left_at xs i x h)

-- an item stands at each index below the length
pub none_past : {A : Type 0} (xs : List A) (i : ℕ) → slice_get xs i ≡ None → length xs ≤ i
none_past [] i h = omega arith
none_past (x ∷ xs) zero h = absurd cc
none_past (x ∷ xs) (suc i) h = let r = none_past xs i h in omega (arith, r)

-- nothing is left behind the end
pub left_end : {A : Type 0} (xs : List A) (i : ℕ) → length xs ≤ i → drop i xs ≡ []
left_end [] zero h = refl
left_end [] (suc i) h = refl
left_end (x ∷ xs) zero h = absurd (omega arith)
left_end (x ∷ xs) (suc i) h = left_end xs i (omega arith)

-- an item of a list has fewer nodes than the list
pub expr_smaller : (xs : List GhostExprTree) (i : ℕ) (x : GhostExprTree) → slice_get xs i ≡ Some x → ghost_expr_nodes x < ghost_expr_nodes_all (ghost_expr_list xs)
expr_smaller [] i x h = absurd cc
expr_smaller (y ∷ xs) zero x h = let e : y ≡ x = cc in rw (sym e) (omega arith)
expr_smaller (y ∷ xs) (suc i) x h = let rest = expr_smaller xs i x h in omega (arith, rest)

-- the same
pub link_smaller : (xs : List GhostLinkTree) (i : ℕ) (x : GhostLinkTree) → slice_get xs i ≡ Some x → ghost_link_nodes x < ghost_link_nodes_all (ghost_link_list xs)
link_smaller [] i x h = absurd cc
link_smaller (y ∷ xs) zero x h = let e : y ≡ x = cc in rw (sym e) (omega arith)
link_smaller (y ∷ xs) (suc i) x h = let rest = link_smaller xs i x h in omega (arith, rest)
