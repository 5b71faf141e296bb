-- Lists that a loop goes over: what is left of them, and by their nodes.
use Rattle.std.proofs.Common.{◌≡◌, ℕ, zero, suc, ◌+◌, ◌<◌, ◌≤◌, List, [], ◌∷◌, length, drop, Some, None, slice_get, refl, sym, arith}
use Rattle.vf_syntax.specs.ExprTree.{ExprTree, expr_list, expr_nodes, expr_nodes_all, LinkTree, link_list, link_nodes, link_nodes_all, PostfixTree, postfix_list, postfix_nodes, postfix_nodes_all}
use Rattle.vf_syntax.specs.GhostExprTree.{GhostExprTree, ghost_expr_list, ghost_expr_nodes, ghost_expr_nodes_all, GhostLinkTree, ghost_link_list, ghost_link_nodes, ghost_link_nodes_all}
use Rattle.vf_syntax.specs.AssertionTree.{PartTree, part_list, part_nodes, part_nodes_all, AssertionCaseTree, assertion_case_list, assertion_case_nodes, assertion_case_nodes_all}
use Rattle.vf_syntax.specs.GhostCommandTree.{GhostCommandTree, ghost_command_list, ghost_command_nodes, ghost_command_nodes_all, CommandCaseTree, command_case_list, command_case_nodes, command_case_nodes_all}
use Rattle.vf_syntax.specs.StmtTree.{StmtTree, stmt_list, stmt_nodes, stmt_nodes_all}

-- what is left at an item begins with it
pub left_at : {A : Type 0} (xs : List A) (i : ℕ) (x : A) → slice_get xs i ≡ Some x → drop i xs ≡ x ∷ drop (i + 1) xs
left_at [] i x h = absurd cc
left_at (y ∷ xs) zero x h = let e : y ≡ x = cc in rw e refl
left_at (y ∷ xs) (suc i) x h = let step : suc i + 1 ≡ suc (i + 1) = omega arith in rw step (left_at xs i x h)

-- nothing is left where no item stands
pub left_none : {A : Type 0} (xs : List A) (i : ℕ) → slice_get xs i ≡ None → drop i xs ≡ []
left_none [] zero h = refl
left_none [] (suc i) h = refl
left_none (x ∷ xs) zero h = absurd cc
left_none (x ∷ xs) (suc i) h = left_none xs i h

-- nothing is left behind the end
pub left_end : {A : Type 0} (xs : List A) (i : ℕ) → length xs ≤ i → drop i xs ≡ []
left_end [] zero h = refl
left_end [] (suc i) h = refl
left_end (x ∷ xs) zero h = absurd (omega arith)
left_end (x ∷ xs) (suc i) h = left_end xs i (omega arith)

-- an item of a list has fewer nodes than the list
pub expr_smaller : (xs : List ExprTree) (i : ℕ) (x : ExprTree) → slice_get xs i ≡ Some x → expr_nodes x < expr_nodes_all (expr_list xs)
expr_smaller [] i x h = absurd cc
expr_smaller (y ∷ xs) zero x h = let e : y ≡ x = cc in rw (sym e) (omega arith)
expr_smaller (y ∷ xs) (suc i) x h = let rest = expr_smaller xs i x h in omega (arith, rest)

-- the same
pub link_smaller : (xs : List LinkTree) (i : ℕ) (x : LinkTree) → slice_get xs i ≡ Some x → link_nodes x < link_nodes_all (link_list xs)
link_smaller [] i x h = absurd cc
link_smaller (y ∷ xs) zero x h = let e : y ≡ x = cc in rw (sym e) (omega arith)
link_smaller (y ∷ xs) (suc i) x h = let rest = link_smaller xs i x h in omega (arith, rest)

-- the same
pub postfix_smaller : (xs : List PostfixTree) (i : ℕ) (x : PostfixTree) → slice_get xs i ≡ Some x → postfix_nodes x < postfix_nodes_all (postfix_list xs)
postfix_smaller [] i x h = absurd cc
postfix_smaller (y ∷ xs) zero x h = let e : y ≡ x = cc in rw (sym e) (omega arith)
postfix_smaller (y ∷ xs) (suc i) x h = let rest = postfix_smaller xs i x h in omega (arith, rest)

-- the same
pub ghost_expr_smaller : (xs : List GhostExprTree) (i : ℕ) (x : GhostExprTree) → slice_get xs i ≡ Some x → ghost_expr_nodes x < ghost_expr_nodes_all (ghost_expr_list xs)
ghost_expr_smaller [] i x h = absurd cc
ghost_expr_smaller (y ∷ xs) zero x h = let e : y ≡ x = cc in rw (sym e) (omega arith)
ghost_expr_smaller (y ∷ xs) (suc i) x h = let rest = ghost_expr_smaller xs i x h in omega (arith, rest)

-- the same
pub ghost_link_smaller : (xs : List GhostLinkTree) (i : ℕ) (x : GhostLinkTree) → slice_get xs i ≡ Some x → ghost_link_nodes x < ghost_link_nodes_all (ghost_link_list xs)
ghost_link_smaller [] i x h = absurd cc
ghost_link_smaller (y ∷ xs) zero x h = let e : y ≡ x = cc in rw (sym e) (omega arith)
ghost_link_smaller (y ∷ xs) (suc i) x h = let rest = ghost_link_smaller xs i x h in omega (arith, rest)

-- the same
pub part_smaller : (xs : List PartTree) (i : ℕ) (x : PartTree) → slice_get xs i ≡ Some x → part_nodes x < part_nodes_all (part_list xs)
part_smaller [] i x h = absurd cc
part_smaller (y ∷ xs) zero x h = let e : y ≡ x = cc in rw (sym e) (omega arith)
part_smaller (y ∷ xs) (suc i) x h = let rest = part_smaller xs i x h in omega (arith, rest)

-- the same
pub assertion_case_smaller : (xs : List AssertionCaseTree) (i : ℕ) (x : AssertionCaseTree) → slice_get xs i ≡ Some x → assertion_case_nodes x < assertion_case_nodes_all (assertion_case_list xs)
assertion_case_smaller [] i x h = absurd cc
assertion_case_smaller (y ∷ xs) zero x h = let e : y ≡ x = cc in rw (sym e) (omega arith)
assertion_case_smaller (y ∷ xs) (suc i) x h = let rest = assertion_case_smaller xs i x h in omega (arith, rest)

-- the same
pub command_smaller : (xs : List GhostCommandTree) (i : ℕ) (x : GhostCommandTree) → slice_get xs i ≡ Some x → ghost_command_nodes x < ghost_command_nodes_all (ghost_command_list xs)
command_smaller [] i x h = absurd cc
command_smaller (y ∷ xs) zero x h = let e : y ≡ x = cc in rw (sym e) (omega arith)
command_smaller (y ∷ xs) (suc i) x h = let rest = command_smaller xs i x h in omega (arith, rest)

-- the same
pub command_case_smaller : (xs : List CommandCaseTree) (i : ℕ) (x : CommandCaseTree) → slice_get xs i ≡ Some x → command_case_nodes x < command_case_nodes_all (command_case_list xs)
command_case_smaller [] i x h = absurd cc
command_case_smaller (y ∷ xs) zero x h = let e : y ≡ x = cc in rw (sym e) (omega arith)
command_case_smaller (y ∷ xs) (suc i) x h = let rest = command_case_smaller xs i x h in omega (arith, rest)

-- the same
pub stmt_smaller : (xs : List StmtTree) (i : ℕ) (x : StmtTree) → slice_get xs i ≡ Some x → stmt_nodes x < stmt_nodes_all (stmt_list xs)
stmt_smaller [] i x h = absurd cc
stmt_smaller (y ∷ xs) zero x h = let e : y ≡ x = cc in rw (sym e) (omega arith)
stmt_smaller (y ∷ xs) (suc i) x h = let rest = stmt_smaller xs i x h in omega (arith, rest)
