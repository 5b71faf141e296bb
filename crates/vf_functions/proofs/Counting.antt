-- How many nodes erasing leaves.
use Rattle.std.proofs.Common.{◌≡◌, suc, ◌+◌, Bool, true, false, if◌then◌else◌, List, [], ◌∷◌, ◌++◌, length, Some, None, refl, ap, ◌∙◌, length-append, arith}
use Rattle.vf_steps.specs.Tree.{NodeTree}
use Rattle.vf_functions.specs.Erased.{count_kept, erased_behind, erased_node, is_kept, kept_node, shortened}
use Rattle.vf_functions.specs.Laws.{AsManyAreLeft}

-- how many nodes are kept in front of others
pub count_behind : (xs ys : List NodeTree) → count_kept (xs ++ ys) ≡ count_kept xs + count_kept ys
count_behind [] ys = omega arith
count_behind (x ∷ xs) ys = by_test (is_kept x.action) (count_behind xs ys)
  where
    by_test : (b : Bool) → count_kept (xs ++ ys) ≡ count_kept xs + count_kept ys → (if b then suc (count_kept (xs ++ ys)) else count_kept (xs ++ ys)) ≡ (if b then suc (count_kept xs) else count_kept xs) + count_kept ys
    by_test true h = ap suc h ∙ omega arith
    by_test false h = omega (arith, h)

-- as many nodes come out as are kept
pub count_erased : (before xs : List NodeTree) → length (erased_behind before xs) ≡ count_kept xs
count_erased before [] = refl
count_erased before (x ∷ xs) = length-append (erased_node before x xs) (erased_behind (before ++ x ∷ []) xs) ∙ by_test (is_kept x.action) (count_erased (before ++ x ∷ []) xs)
  where
    by_test : (b : Bool) → length (erased_behind (before ++ x ∷ []) xs) ≡ count_kept xs → length (kept_node x (if b then Some (shortened before x.action xs) else None)) + length (erased_behind (before ++ x ∷ []) xs) ≡ (if b then suc (count_kept xs) else count_kept xs)
    by_test true h = omega (arith, h)
    by_test false h = omega (arith, h)

-- as many nodes are left as are kept
pub as_many_are_left : AsManyAreLeft
as_many_are_left ns = count_erased [] ns
