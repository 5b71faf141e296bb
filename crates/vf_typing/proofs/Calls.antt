-- Calls of `free`, and the arguments of calls.
use Rattle.std.proofs.Common.{◌≡◌, true, ◌<◌, ◌≤◌, List, [], ◌∷◌, length, drop, Option, Some, None, Result, Err, slice_get, if◌then◌else◌, refl, sym, ap, ◌∙◌, arith}
use Rattle.std.proofs.lemmas.Bool.{eq-eqb, ne_eqb}
use Rattle.vf_base.specs.declared.place.Place.{Place}
use Rattle.vf_base.specs.declared.refusal.Refusal.{Refusal}
use Rattle.vf_base.specs.declared.rule.Rule.TheVariants as rules
use Rattle.vf_declared.specs.declared.declaration.Signature.{Signature}
use Rattle.vf_declared.specs.declared.scope.Scope.{Scope}
use Rattle.vf_syntax.specs.ExprTree.{ExprTree, ExprTrees, no_expr, more_expr, expr_list, expr_nodes_all, PostfixTree, PostfixTrees, no_postfix, more_postfix, postfix_list, postfix_nodes, postfix_nodes_all}
use Rattle.vf_syntax.specs.ExprTree as tree
use Rattle.vf_typing.specs.declared.operand.Operand.{Operand}
use Rattle.vf_typing.specs.Refusals.{refused}
use Rattle.vf_typing.specs.Parts.{call, count, freed, returned}
use Rattle.vf_typing.specs.Typed.{typed, arguments_of, first_arguments, typed_postfix, typed_free, typed_parts}
use Rattle.vf_typing.proofs.Loops.{parts_refused}

-- the first of some parts has the first arguments
pub first_there : (xs : List PostfixTree) (x : PostfixTree) → slice_get xs 0 ≡ Some x → first_arguments (postfix_list xs) ≡ arguments_of x
first_there [] x h = absurd cc
first_there (y ∷ xs) x h = let e : y ≡ x = cc in rw e refl

-- no parts have no first arguments
pub first_none : (xs : List PostfixTree) → slice_get xs 0 ≡ None → first_arguments (postfix_list xs) ≡ None
first_none [] h = refl
first_none (y ∷ xs) h = absurd cc

-- the arguments of a part have fewer nodes than it
arguments_smaller : (x : PostfixTree) (ys : ExprTrees) → arguments_of x ≡ Some ys → expr_nodes_all ys < postfix_nodes x
arguments_smaller (tree.field_ p n) ys h = absurd cc
arguments_smaller (tree.index_ p a) ys h = absurd cc
arguments_smaller (tree.call_ p zs) ys h = let e : zs ≡ ys = cc in rw (sym e) (omega arith)

-- the first arguments have fewer nodes than the parts
pub first_smaller : (xs : List PostfixTree) (ys : ExprTrees) → first_arguments (postfix_list xs) ≡ Some ys → expr_nodes_all ys < postfix_nodes_all (postfix_list xs)
first_smaller [] ys h = absurd cc
first_smaller (x ∷ xs) ys h = omega (arith, arguments_smaller x ys h)

-- what follows a first part has no more nodes than the parts
pub behind_first : (xs : List PostfixTree) → postfix_nodes_all (postfix_list (drop 1 xs)) ≤ postfix_nodes_all (postfix_list xs)
behind_first [] = omega arith
behind_first (x ∷ xs) = omega arith

-- a part that is a call, behind the name `free`
free_part : (s : Scope) (p q : Place) (r : Result Operand Refusal) (x : PostfixTree) (xs : PostfixTrees) (ys : ExprTrees) → arguments_of x ≡ Some ys → typed_postfix s p (Some q) r (more_postfix x xs) ≡ typed_parts s (typed_free s p q ys) xs
free_part s p q r (tree.field_ c n) xs ys h = absurd cc
free_part s p q r (tree.index_ c a) xs ys h = absurd cc
free_part s p q r (tree.call_ c zs) xs ys h = let e : zs ≡ ys = cc in ap (λ a. typed_parts s (typed_free s p q a) xs) e

-- a call of `free`
pub free_called : (s : Scope) (p q : Place) (r : Result Operand Refusal) (xs : List PostfixTree) (ys : ExprTrees) → first_arguments (postfix_list xs) ≡ Some ys → typed_postfix s p (Some q) r (postfix_list xs) ≡ typed_parts s (typed_free s p q ys) (postfix_list (drop 1 xs))
free_called s p q r [] ys h = absurd cc
free_called s p q r (x ∷ xs) ys h = free_part s p q r x (postfix_list xs) ys h

-- a part behind something else than the name `free`
pub no_free : (s : Scope) (p : Place) (r : Result Operand Refusal) (xs : PostfixTrees) → typed_postfix s p None r xs ≡ typed_parts s r xs
no_free s p r no_postfix = refl
no_free s p r (more_postfix (tree.field_ c n) xs) = refl
no_free s p r (more_postfix (tree.index_ c a) xs) = refl
no_free s p r (more_postfix (tree.call_ c ys) xs) = refl

-- a part that is no call
pub no_call : (s : Scope) (p : Place) (q : Option Place) (r : Result Operand Refusal) (xs : PostfixTrees) → first_arguments xs ≡ None → typed_postfix s p q r xs ≡ typed_parts s r xs
no_call s p q r no_postfix h = refl
no_call s p None r xs h = no_free s p r xs
no_call s p (Some q) r (more_postfix (tree.field_ c n) xs) h = refl
no_call s p (Some q) r (more_postfix (tree.index_ c a) xs) h = refl
no_call s p (Some q) r (more_postfix (tree.call_ c ys) xs) h = absurd cc

-- one argument
pub one_argument : (xs : List ExprTree) (x : ExprTree) → length xs ≡ 1 → slice_get xs 0 ≡ Some x → expr_list xs ≡ more_expr x no_expr
one_argument [] x n h = absurd cc
one_argument (y ∷ []) x n h = let e : y ≡ x = cc in rw e refl
one_argument (y ∷ z ∷ xs) x n h = absurd (omega (arith, n))

-- one argument is there
pub one_missing : (xs : List ExprTree) → length xs ≡ 1 → slice_get xs 0 ≡ None → ⊥
one_missing [] n h = absurd (omega (arith, n))
one_missing (y ∷ xs) n h = absurd cc

-- not one argument
pub not_one : (s : Scope) (p q : Place) (xs : List ExprTree) → (length xs ≡ 1 → ⊥) → typed_free s p q (expr_list xs) ≡ (if s.has_stdlib then Err (refused rules.Typing p) else Err (refused rules.Name q))
not_one s p q [] h = refl
not_one s p q (x ∷ []) h = absurd (h refl)
not_one s p q (x ∷ y ∷ xs) h = refl

-- how many arguments a list has
pub count_is : (xs : List ExprTree) → count (expr_list xs) ≡ length xs
count_is [] = refl
count_is (x ∷ xs) = let e = count_is xs in omega (arith, e)

-- a call with as many arguments as it takes
pub call_agrees : (p : Place) (g : Signature) (xs : List ExprTree) (r : Option Refusal) → length g.parameters ≡ length xs → call p (Some g) (count (expr_list xs)) r ≡ returned p g.result r
call_agrees p g xs r h = ap (λ b. if b then returned p g.result r else Err (refused rules.Typing p)) (eq-eqb (length g.parameters) (count (expr_list xs)) (h ∙ sym (count_is xs)))

-- a call with another number of arguments
pub call_differs : (p : Place) (g : Signature) (xs : List ExprTree) (r : Option Refusal) → (length g.parameters ≡ length xs → ⊥) → call p (Some g) (count (expr_list xs)) r ≡ Err (refused rules.Typing p)
call_differs p g xs r h = ap (λ b. if b then returned p g.result r else Err (refused rules.Typing p)) (ne_eqb (length g.parameters) (count (expr_list xs)) (λ e. h (e ∙ count_is xs)))

-- a call of `free` that is refused
pub free_refused : (s : Scope) (p q : Place) (r : Result Operand Refusal) (x : Refusal) (xs : List PostfixTree) (ys : ExprTrees) → first_arguments (postfix_list xs) ≡ Some ys → Err x ≡ typed_free s p q ys → Err x ≡ typed_postfix s p (Some q) r (postfix_list xs)
free_refused s p q r x xs ys h e = sym (free_called s p q r xs ys h ∙ ap (λ a. typed_parts s a (postfix_list (drop 1 xs))) (sym e) ∙ parts_refused s x (postfix_list (drop 1 xs)))

-- one argument with `<stdlib.h>`
pub free_typed : (s : Scope) (p q : Place) (xs : List ExprTree) (x : ExprTree) → s.has_stdlib ≡ true → length xs ≡ 1 → slice_get xs 0 ≡ Some x → freed s p (typed s x) ≡ typed_free s p q (expr_list xs)
free_typed s p q xs x a n h = sym (ap (typed_free s p q) (one_argument xs x n h) ∙ ap (λ b. if b then freed s p (typed s x) else Err (refused rules.Name q)) a)
