-- Values of arguments, from left to right.
use Rattle.std.proofs.Common.{◌≡◌, ℕ, ◌+◌, ◌<◌, List, [], ◌∷◌, ◌++◌, map, Option, Some, None, refl, sym, ap, ◌∙◌, append_assoc, add-one, get_or, drop, drop-cons, length, zero, suc, replicate}
use Rattle.std.proofs.lemmas.List.{append-nil}
use Rattle.vf_base.specs.declared.place.Place.{Place}
use Rattle.vf_tree.specs.Core.{ExpressionTree}
use Rattle.vf_model.specs.declared.words.FaultKind.{FaultKind}
use Rattle.vf_model.specs.Values.{Value}
use Rattle.vf_model.specs.Evaluation.{Evaluated, Gives, Fails, and_then, evaluate, evaluate_all}
use Rattle.vf_tree.specs.Core.{Identity}
use Rattle.vf_engine.specs.Values.{cells_of}
use Rattle.vf_engine.specs.Effects.{values_or_none}

-- cells, and after them the values that are given
abbrev pub after_cells : List (Option Value) → Evaluated (List Value) → Evaluated (List (Option Value))
after_cells cells r = and_then r (λ vs. Gives (cells ++ map Some vs))

shifted : (cells : List (Option Value)) (v : Value) (r : Evaluated (List Value))
    → after_cells cells (and_then r (λ vs. Gives (v ∷ vs))) ≡ after_cells (cells ++ Some v ∷ []) r
shifted cells v (Gives vs) = ap Gives (sym (append_assoc cells (Some v ∷ []) (map Some vs)))
shifted cells v (Fails kind place) = refl

-- one value more
pub one_more : (locals cells : List (Option Value)) (e : ExpressionTree) (es : List ExpressionTree) (v : Value)
    → evaluate locals e ≡ Gives v → after_cells cells (evaluate_all locals (e ∷ es)) ≡ after_cells (cells ++ Some v ∷ []) (evaluate_all locals es)
one_more locals cells e es v h =
    ap (λ r. after_cells cells (and_then r (λ w. and_then (evaluate_all locals es) (λ vs. Gives (w ∷ vs))))) h ∙ shifted cells v (evaluate_all locals es)

-- all values are there
pub all_given : (cells : List (Option Value)) (r : Evaluated (List Value)) → after_cells [] r ≡ Gives cells → cells ≡ map Some (values_or_none r)
all_given cells (Gives vs) h = cc
all_given cells (Fails kind place) h = cc

-- where an argument has a fault, no values are there
pub none_given : (locals cells : List (Option Value)) (e : ExpressionTree) (es : List ExpressionTree) (kind : FaultKind) (place : Place) (r : Evaluated (List Value))
    → evaluate locals e ≡ Fails kind place → after_cells [] r ≡ after_cells cells (evaluate_all locals (e ∷ es)) → [] ≡ map Some (values_or_none r)
none_given locals cells e es kind place (Gives vs) h k = let f : after_cells cells (evaluate_all locals (e ∷ es)) ≡ Fails kind place = rw h refl in cc
none_given locals cells e es kind place (Fails other at) h k = refl

-- what is left of a list begins with the item
pub dropped : {A : Type 0} (xs : List A) (i : ℕ) (x : A) → x ≡ get_or xs i x → i < length xs → drop i xs ≡ x ∷ drop (i + 1) xs
dropped xs i x is within = drop-cons xs i x within ∙ ap (λ y. y ∷ drop (suc i) xs) (sym is) ∙ ap (λ n. x ∷ drop n xs) (sym (add-one i))

-- nothing after no arguments
pub nothing_more : (locals cells : List (Option Value)) → after_cells cells (evaluate_all locals []) ≡ Gives cells
nothing_more locals cells = ap Gives (append-nil cells)

-- one copy more
pub replicate_more : {A : Type 0} (n : ℕ) (x : A) → replicate n x ++ x ∷ [] ≡ replicate (n + 1) x
replicate_more zero x = refl
replicate_more (suc n) x = ap (λ xs. x ∷ xs) (replicate_more n x) ∙ ap (λ k. x ∷ replicate k x) (add-one n) ∙ ap (λ k. replicate k x) (sym (add-one (suc n)))

-- unset cells hold no value
pub no_cells : (names : List Identity) (n : ℕ) → cells_of names (replicate n None) ≡ replicate n None
no_cells names zero = refl
no_cells names (suc n) = ap (λ xs. None ∷ xs) (no_cells names n)
