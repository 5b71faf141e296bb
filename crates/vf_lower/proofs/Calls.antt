-- Calls of `free`.
use Rattle.std.proofs.Common.{◌≡◌, ◌<◌, List, [], ◌∷◌, length, Option, Some, None, slice_get, refl, sym, ap, arith}
use Rattle.vf_base.specs.declared.place.Place.{Place}
use Rattle.vf_syntax.specs.ExprTree.{ExprTree, no_expr, more_expr, expr_list, expr_nodes, PostfixTree, PostfixTrees, no_postfix, more_postfix, postfix_list, postfix_nodes, postfix_nodes_all}
use Rattle.vf_syntax.specs.ExprTree as tree
use Rattle.vf_lower.specs.Lowering.{Lowering, ◌⨾◌}
use Rattle.vf_lower.specs.Settings.{Setting}
use Rattle.vf_lower.specs.Operands.{Outcome}
use Rattle.vf_lower.specs.Expressions.{argument_of, behind, first, freed, only_argument, outcome, parts}

-- one argument is there
pub one_there : (q : Place) (xs : List ExprTree) → length xs ≡ 1 → slice_get xs 0 ≡ argument_of (tree.call_ q (expr_list xs))
one_there q [] n = absurd (omega (arith, n))
one_there q (y ∷ []) n = refl
one_there q (y ∷ z ∷ xs) n = absurd (omega (arith, n))

-- not one argument
pub not_one : (q : Place) (xs : List ExprTree) → (length xs ≡ 1 → ⊥) → None ≡ argument_of (tree.call_ q (expr_list xs))
not_one q [] h = refl
not_one q (x ∷ []) h = absurd (h refl)
not_one q (x ∷ y ∷ xs) h = refl

-- the first of some parts has the first argument
pub first_there : (xs : List PostfixTree) (x : PostfixTree) → slice_get xs 0 ≡ Some x → only_argument (postfix_list xs) ≡ argument_of x
first_there [] x h = absurd cc
first_there (y ∷ xs) x h = let e : y ≡ x = cc in rw e refl

-- no parts have no first argument
pub first_none : (xs : List PostfixTree) → slice_get xs 0 ≡ None → only_argument (postfix_list xs) ≡ None
first_none [] h = refl
first_none (y ∷ xs) h = absurd cc

-- the argument of a part has fewer nodes than it
part_smaller : (x : PostfixTree) (y : ExprTree) → argument_of x ≡ Some y → expr_nodes y < postfix_nodes x
part_smaller (tree.field_ p n) y h = absurd cc
part_smaller (tree.index_ p a) y h = absurd cc
part_smaller (tree.call_ p no_expr) y h = absurd cc
part_smaller (tree.call_ p (more_expr z no_expr)) y h = let e : z ≡ y = cc in rw (sym e) (omega arith)
part_smaller (tree.call_ p (more_expr z (more_expr w zs))) y h = absurd cc

-- the first argument has fewer nodes than the parts
pub argument_smaller : (xs : List PostfixTree) (y : ExprTree) → only_argument (postfix_list xs) ≡ Some y → expr_nodes y < postfix_nodes_all (postfix_list xs)
argument_smaller [] y h = absurd cc
argument_smaller (x ∷ xs) y h = omega (arith, part_smaller x y h)

-- a call of `free`, in the part that it is
free_part : (c : Setting) (p q : Place) (a b : ExprTree) (m : Lowering Outcome) (x : PostfixTree) (xs : PostfixTrees) → argument_of x ≡ Some b → behind c p (Some q) a m (more_postfix x xs) ≡ freed c q b (outcome c b)
free_part c p q a b m (tree.field_ d n) xs h = absurd cc
free_part c p q a b m (tree.index_ d e) xs h = absurd cc
free_part c p q a b m (tree.call_ d no_expr) xs h = absurd cc
free_part c p q a b m (tree.call_ d (more_expr z no_expr)) xs h = let e : z ≡ b = cc in ap (λ y. freed c q y (outcome c y)) e
free_part c p q a b m (tree.call_ d (more_expr z (more_expr w zs))) xs h = absurd cc

-- a call of `free`
pub free_called : (c : Setting) (p q : Place) (a b : ExprTree) (m : Lowering Outcome) (xs : List PostfixTree) → only_argument (postfix_list xs) ≡ Some b → behind c p (Some q) a m (postfix_list xs) ≡ freed c q b (outcome c b)
free_called c p q a b m [] h = absurd cc
free_called c p q a b m (x ∷ xs) h = free_part c p q a b m x (postfix_list xs) h

-- reads and calls behind what is not the name `free`
pub not_free : (c : Setting) (p : Place) (a : ExprTree) (m : Lowering Outcome) (xs : PostfixTrees) → behind c p None a m xs ≡ m ⨾ (λ o. parts c p (first c a o) xs)
not_free c p a m no_postfix = refl
not_free c p a m (more_postfix x xs) = refl

-- reads and calls that do not begin with a call of one argument
pub not_called : (c : Setting) (p : Place) (q : Option Place) (a : ExprTree) (m : Lowering Outcome) (xs : PostfixTrees) → only_argument xs ≡ None → behind c p q a m xs ≡ m ⨾ (λ o. parts c p (first c a o) xs)
not_called c p None a m xs h = not_free c p a m xs
not_called c p (Some q) a m no_postfix h = refl
not_called c p (Some q) a m (more_postfix (tree.field_ d n) xs) h = refl
not_called c p (Some q) a m (more_postfix (tree.index_ d b) xs) h = refl
not_called c p (Some q) a m (more_postfix (tree.call_ d no_expr) xs) h = refl
not_called c p (Some q) a m (more_postfix (tree.call_ d (more_expr b no_expr)) xs) h = absurd cc
not_called c p (Some q) a m (more_postfix (tree.call_ d (more_expr b (more_expr e ys))) xs) h = refl
