-- Lists that a loop goes over: what is left of them, and by their nodes.
use Rattle.std.proofs.Common.{◌≡◌, ℕ, zero, suc, ◌+◌, ◌<◌, ◌≤◌, List, [], ◌∷◌, length, drop, Some, None, slice_get, refl, sym, arith}
use Rattle.vf_syntax.specs.ExprTree.{ExprTree, expr_list, expr_nodes, expr_nodes_all, LinkTree, link_list, link_nodes, link_nodes_all, PostfixTree, postfix_list, postfix_nodes, postfix_nodes_all}

-- what is left at an item begins with it
pub left_at : {A : Type 0} (xs : List A) (i : ℕ) (x : A) → slice_get xs i ≡ Some x → drop i xs ≡ x ∷ drop (i + 1) xs
left_at [] i x h = absurd cc
left_at (y ∷ xs) zero x h = let e : y ≡ x = cc in rw e refl
left_at (y ∷ xs) (suc i) x h = let step : suc i + 1 ≡ suc (i + 1) = omega arith in rw step (left_at xs i x h)

-- nothing is left where no item stands
pub left_none : {A : Type 0} (xs : List A) (i : ℕ) → slice_get xs i ≡ None → drop i xs ≡ []
left_none [] zero h = refl
left_none [] (suc i) h = refl
left_none (x ∷ xs) zero h = absurd cc
left_none (x ∷ xs) (suc i) h = left_none xs i h

-- nothing is left behind the end
pub left_end : {A : Type 0} (xs : List A) (i : ℕ) → length xs ≤ i → drop i xs ≡ []
left_end [] zero h = refl
left_end [] (suc i) h = refl
left_end (x ∷ xs) zero h = absurd (omega arith)
left_end (x ∷ xs) (suc i) h = left_end xs i (omega arith)

-- an item of a list has fewer nodes than the list
pub expr_smaller : (xs : List ExprTree) (i : ℕ) (x : ExprTree) → slice_get xs i ≡ Some x → expr_nodes x < expr_nodes_all (expr_list xs)
expr_smaller [] i x h = absurd cc
expr_smaller (y ∷ xs) zero x h = let e : y ≡ x = cc in rw (sym e) (omega arith)
expr_smaller (y ∷ xs) (suc i) x h = let rest = expr_smaller xs i x h in omega (arith, rest)

-- the same
pub link_smaller : (xs : List LinkTree) (i : ℕ) (x : LinkTree) → slice_get xs i ≡ Some x → link_nodes x < link_nodes_all (link_list xs)
link_smaller [] i x h = absurd cc
link_smaller (y ∷ xs) zero x h = let e : y ≡ x = cc in rw (sym e) (omega arith)
link_smaller (y ∷ xs) (suc i) x h = let rest = link_smaller xs i x h in omega (arith, rest)

-- the same
pub postfix_smaller : (xs : List PostfixTree) (i : ℕ) (x : PostfixTree) → slice_get xs i ≡ Some x → postfix_nodes x < postfix_nodes_all (postfix_list xs)
postfix_smaller [] i x h = absurd cc
postfix_smaller (y ∷ xs) zero x h = let e : y ≡ x = cc in rw (sym e) (omega arith)
postfix_smaller (y ∷ xs) (suc i) x h = let rest = postfix_smaller xs i x h in omega (arith, rest)
