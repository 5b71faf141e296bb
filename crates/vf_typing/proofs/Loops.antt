-- Loops over lists: what is typed, and what is left of the list, come to the same after each item.
use Rattle.std.proofs.Common.{◌≡◌, ℕ, ◌+◌, ◌≤◌, List, [], ◌∷◌, length, drop, Option, Some, None, Result, Ok, Err, slice_get, refl, sym, ap, ◌∙◌}
use Rattle.std.specs.Option.{option_or}
use Rattle.vf_base.specs.declared.refusal.Refusal.{Refusal}
use Rattle.vf_declared.specs.declared.ctype.CType.{CType}
use Rattle.vf_declared.specs.declared.scope.Scope.{Scope}
use Rattle.vf_syntax.specs.ExprTree.{ExprTree, expr_list, LinkTree, LinkTrees, no_link, more_link, link_list, PostfixTree, PostfixTrees, no_postfix, more_postfix, postfix_list}
use Rattle.vf_typing.specs.declared.operand.Operand.{Operand}
use Rattle.vf_typing.specs.Operands.{assigned_refusal}
use Rattle.vf_typing.specs.Typed.{typed, typed_link, typed_links, typed_part, typed_parts, refused_argument}
use Rattle.vf_typing.proofs.Lists.{left_at, left_none, left_end}

-- what a left operand may be: one, or a refusal
abbrev Left : Type 0
Left = Result Operand Refusal

-- a refusal stays
pub links_refused : (s : Scope) (x : Refusal) (xs : LinkTrees) → typed_links s (Err x) xs ≡ Err x
links_refused s x no_link = refl
links_refused s x (more_link y xs) = links_refused s x xs

-- one more operand
links_step : (s : Scope) (xs : List LinkTree) (i : ℕ) (x : LinkTree) (r t : Left) → slice_get xs i ≡ Some x → t ≡ typed_link s r x → typed_links s r (link_list (drop i xs)) ≡ typed_links s t (link_list (drop (i + 1) xs))
links_step s xs i x r t h ht = ap (λ ys. typed_links s r (link_list ys)) (left_at xs i x h) ∙ sym (ap (λ a. typed_links s a (link_list (drop (i + 1) xs))) ht)

-- the same, that is typed
pub links_more : (s : Scope) (xs : List LinkTree) (i : ℕ) (x : LinkTree) (l o : Operand) (whole : Left) → slice_get xs i ≡ Some x → Ok o ≡ typed_link s (Ok l) x → typed_links s (Ok l) (link_list (drop i xs)) ≡ whole → typed_links s (Ok o) (link_list (drop (i + 1) xs)) ≡ whole
links_more s xs i x l o whole h ht kept = sym (links_step s xs i x (Ok l) (Ok o) h ht) ∙ kept

-- the same, that is refused
pub links_stop : (s : Scope) (xs : List LinkTree) (i : ℕ) (x : LinkTree) (l : Operand) (e : Refusal) (whole : Left) → slice_get xs i ≡ Some x → Err e ≡ typed_link s (Ok l) x → typed_links s (Ok l) (link_list (drop i xs)) ≡ whole → Err e ≡ whole
links_stop s xs i x l e whole h ht kept = sym (links_refused s e (link_list (drop (i + 1) xs))) ∙ sym (links_step s xs i x (Ok l) (Err e) h ht) ∙ kept

-- no operand stands at an index
pub links_none : (s : Scope) (xs : List LinkTree) (i : ℕ) (r : Left) → slice_get xs i ≡ None → typed_links s r (link_list (drop i xs)) ≡ r
links_none s xs i r h = ap (λ ys. typed_links s r (link_list ys)) (left_none xs i h)

-- the list is done
pub links_end : (s : Scope) (xs : List LinkTree) (i : ℕ) (r : Left) → length xs ≤ i → typed_links s r (link_list (drop i xs)) ≡ r
links_end s xs i r h = ap (λ ys. typed_links s r (link_list ys)) (left_end xs i h)

-- a refusal stays
pub parts_refused : (s : Scope) (x : Refusal) (xs : PostfixTrees) → typed_parts s (Err x) xs ≡ Err x
parts_refused s x no_postfix = refl
parts_refused s x (more_postfix y xs) = parts_refused s x xs

-- one more read or call
parts_step : (s : Scope) (xs : List PostfixTree) (i : ℕ) (x : PostfixTree) (r t : Left) → slice_get xs i ≡ Some x → t ≡ typed_part s r x → typed_parts s r (postfix_list (drop i xs)) ≡ typed_parts s t (postfix_list (drop (i + 1) xs))
parts_step s xs i x r t h ht = ap (λ ys. typed_parts s r (postfix_list ys)) (left_at xs i x h) ∙ sym (ap (λ a. typed_parts s a (postfix_list (drop (i + 1) xs))) ht)

-- the same, that is typed
pub parts_more : (s : Scope) (xs : List PostfixTree) (i : ℕ) (x : PostfixTree) (l o : Operand) (whole : Left) → slice_get xs i ≡ Some x → Ok o ≡ typed_part s (Ok l) x → typed_parts s (Ok l) (postfix_list (drop i xs)) ≡ whole → typed_parts s (Ok o) (postfix_list (drop (i + 1) xs)) ≡ whole
parts_more s xs i x l o whole h ht kept = sym (parts_step s xs i x (Ok l) (Ok o) h ht) ∙ kept

-- the same, that is refused
pub parts_stop : (s : Scope) (xs : List PostfixTree) (i : ℕ) (x : PostfixTree) (l : Operand) (e : Refusal) (whole : Left) → slice_get xs i ≡ Some x → Err e ≡ typed_part s (Ok l) x → typed_parts s (Ok l) (postfix_list (drop i xs)) ≡ whole → Err e ≡ whole
parts_stop s xs i x l e whole h ht kept = sym (parts_refused s e (postfix_list (drop (i + 1) xs))) ∙ sym (parts_step s xs i x (Ok l) (Err e) h ht) ∙ kept

-- no read or call stands at an index
pub parts_none : (s : Scope) (xs : List PostfixTree) (i : ℕ) (r : Left) → slice_get xs i ≡ None → typed_parts s r (postfix_list (drop i xs)) ≡ r
parts_none s xs i r h = ap (λ ys. typed_parts s r (postfix_list ys)) (left_none xs i h)

-- the list is done
pub parts_end : (s : Scope) (xs : List PostfixTree) (i : ℕ) (r : Left) → length xs ≤ i → typed_parts s r (postfix_list (drop i xs)) ≡ r
parts_end s xs i r h = ap (λ ys. typed_parts s r (postfix_list ys)) (left_end xs i h)

-- what is not some is none
pub none_is : {A : Type 0} (o : Option A) → ((x : A) → o ≡ Some x → ⊥) → o ≡ None
none_is None h = refl
none_is (Some x) h = absurd (h x refl)

-- one more argument
arguments_step : (s : Scope) (ts : List CType) (xs : List ExprTree) (i : ℕ) (t : CType) (x : ExprTree) (r : Option Refusal) → slice_get ts i ≡ Some t → slice_get xs i ≡ Some x → r ≡ assigned_refusal s t (typed s x) → refused_argument s (drop i ts) (expr_list (drop i xs)) ≡ option_or r (refused_argument s (drop (i + 1) ts) (expr_list (drop (i + 1) xs)))
arguments_step s ts xs i t x r ht hx hr = (λ j. refused_argument s (left_at ts i t ht j) (expr_list (left_at xs i x hx j))) ∙ sym (ap (λ a. option_or a (refused_argument s (drop (i + 1) ts) (expr_list (drop (i + 1) xs)))) hr)

-- the same, that is taken
pub arguments_more : (s : Scope) (ts : List CType) (xs : List ExprTree) (i : ℕ) (t : CType) (x : ExprTree) (whole : Option Refusal) → slice_get ts i ≡ Some t → slice_get xs i ≡ Some x → None ≡ assigned_refusal s t (typed s x) → refused_argument s (drop i ts) (expr_list (drop i xs)) ≡ whole → refused_argument s (drop (i + 1) ts) (expr_list (drop (i + 1) xs)) ≡ whole
arguments_more s ts xs i t x whole ht hx hr kept = sym (arguments_step s ts xs i t x None ht hx hr) ∙ kept

-- the same, that is refused
pub arguments_stop : (s : Scope) (ts : List CType) (xs : List ExprTree) (i : ℕ) (t : CType) (x : ExprTree) (e : Refusal) (whole : Option Refusal) → slice_get ts i ≡ Some t → slice_get xs i ≡ Some x → Some e ≡ assigned_refusal s t (typed s x) → refused_argument s (drop i ts) (expr_list (drop i xs)) ≡ whole → Some e ≡ whole
arguments_stop s ts xs i t x e whole ht hx hr kept = sym (arguments_step s ts xs i t x (Some e) ht hx hr) ∙ kept

-- no argument is left
pub arguments_left : (s : Scope) (ts : List CType) → refused_argument s ts (expr_list []) ≡ None
arguments_left s [] = refl
arguments_left s (t ∷ ts) = refl

-- no argument stands at an index
pub arguments_none : (s : Scope) (ts : List CType) (xs : List ExprTree) (i : ℕ) → slice_get xs i ≡ None → refused_argument s (drop i ts) (expr_list (drop i xs)) ≡ None
arguments_none s ts xs i h = ap (λ ys. refused_argument s (drop i ts) (expr_list ys)) (left_none xs i h) ∙ arguments_left s (drop i ts)

-- no parameter stands at an index
pub parameters_none : (s : Scope) (ts : List CType) (xs : List ExprTree) (i : ℕ) → slice_get ts i ≡ None → refused_argument s (drop i ts) (expr_list (drop i xs)) ≡ None
parameters_none s ts xs i h = ap (λ us. refused_argument s us (expr_list (drop i xs))) (left_none ts i h)

-- the list is done
pub arguments_end : (s : Scope) (ts : List CType) (xs : List ExprTree) (i : ℕ) → length xs ≤ i → refused_argument s (drop i ts) (expr_list (drop i xs)) ≡ None
arguments_end s ts xs i h = ap (λ ys. refused_argument s (drop i ts) (expr_list ys)) (left_end xs i h) ∙ arguments_left s (drop i ts)
