-- Loops over lists: what was done so far, and what is left of the list becomes, come to the whole.
use Rattle.std.proofs.Common.{◌≡◌, ℕ, ◌+◌, ◌≤◌, List, [], ◌∷◌, ◌++◌, length, drop, Some, None, slice_get, refl, sym, ap, ◌∙◌, subst, append_assoc}
use Rattle.std.proofs.lemmas.List.{append-nil, map-append}
use Rattle.vf_base.specs.declared.place.Place.{Place}
use Rattle.vf_declared.specs.declared.ctype.CType.{CType}
use Rattle.vf_syntax.specs.ExprTree.{ExprTree, ExprTrees, no_expr, expr_list, LinkTree, link_list, PostfixTree, postfix_list}
use Rattle.vf_steps.specs.declared.value.Value.{Value}
use Rattle.vf_steps.specs.Tree.{ValueTree}
use Rattle.vf_steps.specs.Shown.{value_of, values_of}
use Rattle.vf_lower.specs.declared.draft.Draft.{Draft}
use Rattle.vf_lower.specs.Lowering.{Lowering, gives}
use Rattle.vf_lower.specs.Settings.{Setting}
use Rattle.vf_lower.specs.Operands.{Outcome, Left, left}
use Rattle.vf_lower.specs.Expressions.{arguments, link, link_type, links, part, part_type, parts, value_as}
use Rattle.vf_lower.specs.Did.{Did}
use Rattle.vf_lower.proofs.Lists.{left_at, left_end, left_none}
use Rattle.vf_lower.proofs.Parts.{did_give, did_given, did_then}

-- one more operand
pub links_more : (s : Setting) (p : Place) (l n : Left) (o : Outcome) (xs : List LinkTree) (i : ℕ) (x : LinkTree) (d e f : Draft) (a : Outcome) → slice_get xs i ≡ Some x → Did (link s p l x) d e o → n ≡ left o (link_type s l.kind.ctype x) → Did (links s p n (link_list (drop (i + 1) xs))) e f a → Did (links s p l (link_list (drop i xs))) d f a
links_more s p l n o xs i x d e f a h one same rest = subst (λ ys. Did (links s p l (link_list ys)) d f a) (sym (left_at xs i x h)) (did_then _ _ _ _ _ _ _ one (subst (λ m. Did (links s p m (link_list (drop (i + 1) xs))) e f a) same rest))

-- no operand is left
pub links_end : (s : Setting) (p : Place) (l : Left) (xs : List LinkTree) (i : ℕ) (d : Draft) → length xs ≤ i → Did (links s p l (link_list (drop i xs))) d d l.outcome
links_end s p l xs i d h = subst (λ ys. Did (links s p l (link_list ys)) d d l.outcome) (sym (left_end xs i h)) (did_give d l.outcome)

-- one more read or call
pub parts_more : (s : Setting) (p : Place) (l n : Left) (o : Outcome) (xs : List PostfixTree) (i : ℕ) (x : PostfixTree) (d e f : Draft) (a : Outcome) → slice_get xs i ≡ Some x → Did (part s p l x) d e o → n ≡ left o (part_type s l.kind.ctype x) → Did (parts s p n (postfix_list (drop (i + 1) xs))) e f a → Did (parts s p l (postfix_list (drop i xs))) d f a
parts_more s p l n o xs i x d e f a h one same rest = subst (λ ys. Did (parts s p l (postfix_list ys)) d f a) (sym (left_at xs i x h)) (did_then _ _ _ _ _ _ _ one (subst (λ m. Did (parts s p m (postfix_list (drop (i + 1) xs))) e f a) same rest))

-- no read or call is left
pub parts_end : (s : Setting) (p : Place) (l : Left) (xs : List PostfixTree) (i : ℕ) (d : Draft) → length xs ≤ i → Did (parts s p l (postfix_list (drop i xs))) d d l.outcome
parts_end s p l xs i d h = subst (λ ys. Did (parts s p l (postfix_list ys)) d d l.outcome) (sym (left_end xs i h)) (did_give d l.outcome)

-- one more argument
pub arguments_more : (s : Setting) (ts : List CType) (xs : List ExprTree) (i : ℕ) (t : CType) (x : ExprTree) (d e f : Draft) (v : ValueTree) (vs : List ValueTree) → slice_get ts i ≡ Some t → slice_get xs i ≡ Some x → Did (value_as s t x) d e v → Did (arguments s (drop (i + 1) ts) (expr_list (drop (i + 1) xs))) e f vs → Did (arguments s (drop i ts) (expr_list (drop i xs))) d f (v ∷ vs)
arguments_more s ts xs i t x d e f v vs ht hx one rest =
    let family = λ (us : List CType) (ys : List ExprTree). Did (arguments s us (expr_list ys)) d f (v ∷ vs) in
    subst (λ us. family us (drop i xs)) (sym (left_at ts i t ht)) (subst (λ ys. family (t ∷ drop (i + 1) ts) ys) (sym (left_at xs i x hx)) (did_then _ _ _ _ _ _ _ one (did_then _ _ _ _ _ _ _ rest (did_give _ _))))

-- no arguments are nothing
no_arguments : (s : Setting) (ts : List CType) → arguments s ts no_expr ≡ gives []
no_arguments s [] = refl
no_arguments s (t ∷ ts) = refl

-- no argument is left
pub arguments_end : (s : Setting) (ts : List CType) (xs : List ExprTree) (i : ℕ) (d : Draft) → length xs ≤ i → Did (arguments s ts (expr_list (drop i xs))) d d []
arguments_end s ts xs i d h = did_given _ _ _ (ap (λ ys. arguments s ts (expr_list ys)) (left_end xs i h) ∙ no_arguments s ts)

-- no parameter is left
pub parameters_end : (s : Setting) (ts : List CType) (xs : ExprTrees) (i : ℕ) (d : Draft) → slice_get ts i ≡ None → Did (arguments s (drop i ts) xs) d d []
parameters_end s ts xs i d h = did_given _ _ _ (ap (λ us. arguments s us xs) (left_none ts i h))

-- one more value
pub values_more : (old new : List Value) (x : Value) (vs : List ValueTree) → new ≡ old ++ x ∷ [] → values_of old ++ (value_of x ∷ vs) ≡ values_of new ++ vs
values_more old new x vs e = sym (append_assoc (values_of old) (value_of x ∷ []) vs) ∙ ap (λ l. l ++ vs) (sym (ap values_of e ∙ map-append value_of old (x ∷ [])))

-- the values so far are all
pub values_end : (m : Lowering (List ValueTree)) (d e : Draft) (vs : List ValueTree) → Did m d e (vs ++ []) → Did m d e vs
values_end m d e vs h = subst (λ l. Did m d e l) (append-nil vs) h
