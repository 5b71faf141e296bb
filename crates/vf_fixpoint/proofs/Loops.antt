-- Loops over arguments and operands.
use Rattle.std.proofs.Common.{◌≡◌, ℕ, zero, suc, ◌+◌, List, [], ◌∷◌, drop, false, Some, None, slice_get, refl, sym, ap, ◌∙◌}
use Rattle.std.specs.Option.{option_or}
use Rattle.vf_base.specs.declared.place.Place.{Place}
use Rattle.vf_syntax.specs.declared.written.Name.{Name}
use Rattle.vf_syntax.specs.GhostExprTree.{GhostExprTree, ghost_expr_list, GhostLinkTree, ghost_link_list}
use Rattle.vf_fixpoint.specs.Calls.{Recursion, first_stray, first_stray_of, first_stray_behind, first_stray_in, is_component, is_component_at}
use Rattle.vf_fixpoint.proofs.Lists.{left_at}

-- what is found at an argument
pub here_of : (r : Recursion) (xs : List GhostExprTree) (i : ℕ) (x : GhostExprTree) (p : Place) → slice_get xs i ≡ Some x → Some p ≡ first_stray r x
    → first_stray_of r (ghost_expr_list (drop i xs)) ≡ first_stray_of r (ghost_expr_list xs) → Some p ≡ first_stray_of r (ghost_expr_list xs)
here_of r xs i x p at found inv =
    ap (λ o. option_or o (first_stray_of r (ghost_expr_list (drop (i + 1) xs)))) found
    ∙ sym (ap (λ (ys : List GhostExprTree). first_stray_of r (ghost_expr_list ys)) (left_at xs i x at)) ∙ inv

-- nothing is found at an argument
pub more_of : (r : Recursion) (xs : List GhostExprTree) (i : ℕ) (x : GhostExprTree) → slice_get xs i ≡ Some x → first_stray r x ≡ None
    → first_stray_of r (ghost_expr_list (drop i xs)) ≡ first_stray_of r (ghost_expr_list xs) → first_stray_of r (ghost_expr_list (drop (i + 1) xs)) ≡ first_stray_of r (ghost_expr_list xs)
more_of r xs i x at none inv =
    sym (ap (λ o. option_or o (first_stray_of r (ghost_expr_list (drop (i + 1) xs)))) none)
    ∙ sym (ap (λ (ys : List GhostExprTree). first_stray_of r (ghost_expr_list ys)) (left_at xs i x at)) ∙ inv

-- the same of operands
pub here_in : (r : Recursion) (xs : List GhostLinkTree) (i : ℕ) (x : GhostLinkTree) (p : Place) → slice_get xs i ≡ Some x → Some p ≡ first_stray_behind r x
    → first_stray_in r (ghost_link_list (drop i xs)) ≡ first_stray_in r (ghost_link_list xs) → Some p ≡ first_stray_in r (ghost_link_list xs)
here_in r xs i x p at found inv =
    ap (λ o. option_or o (first_stray_in r (ghost_link_list (drop (i + 1) xs)))) found
    ∙ sym (ap (λ (ys : List GhostLinkTree). first_stray_in r (ghost_link_list ys)) (left_at xs i x at)) ∙ inv

pub more_in : (r : Recursion) (xs : List GhostLinkTree) (i : ℕ) (x : GhostLinkTree) → slice_get xs i ≡ Some x → first_stray_behind r x ≡ None
    → first_stray_in r (ghost_link_list (drop i xs)) ≡ first_stray_in r (ghost_link_list xs) → first_stray_in r (ghost_link_list (drop (i + 1) xs)) ≡ first_stray_in r (ghost_link_list xs)
more_in r xs i x at none inv =
    sym (ap (λ o. option_or o (first_stray_in r (ghost_link_list (drop (i + 1) xs)))) none)
    ∙ sym (ap (λ (ys : List GhostLinkTree). first_stray_in r (ghost_link_list ys)) (left_at xs i x at)) ∙ inv

-- ---- the argument at a place
pub component_there : (names : List Name) (xs : List GhostExprTree) (k : ℕ) (x : GhostExprTree) → slice_get xs k ≡ Some x → is_component_at names k (ghost_expr_list xs) ≡ is_component names x
component_there names [] k x h = absurd cc
component_there names (y ∷ xs) zero x h = let e : y ≡ x = cc in ap (is_component names) e
component_there names (y ∷ xs) (suc k) x h = component_there names xs k x h

pub no_component_there : (names : List Name) (xs : List GhostExprTree) (k : ℕ) → slice_get xs k ≡ None → is_component_at names k (ghost_expr_list xs) ≡ false
no_component_there names [] k h = refl
no_component_there names (y ∷ xs) zero h = absurd cc
no_component_there names (y ∷ xs) (suc k) h = no_component_there names xs k h
