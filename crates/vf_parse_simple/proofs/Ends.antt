-- What a list of parts ends in is told by its last part.
use Rattle.std.proofs.Common.{◌≡◌, suc, ◌-◌, false, not, List, [], ◌∷◌, length, Some, refl, sym, ◌∙◌, ap, arith, slice_get}
use Rattle.vf_syntax.specs.ExprTree.{PostfixTree, postfix_list}
use Rattle.vf_syntax.specs.Statements.{is_call_part, ends_in_call, ends_in_place}

some_same : {A : Type 0} {a b : A} → Some a ≡ Some b → a ≡ b
some_same e = cc

-- the last item of a list
last_get : (y z : PostfixTree) (ys : List PostfixTree) → slice_get (y ∷ z ∷ ys) (length (y ∷ z ∷ ys) - 1) ≡ slice_get (z ∷ ys) (length (z ∷ ys) - 1)
last_get y z ys = let k : length (y ∷ z ∷ ys) - 1 ≡ suc (length (z ∷ ys) - 1) = omega arith in rw k refl

pub none_calls : (xs : List PostfixTree) → length xs ≡ 0 → ends_in_call (postfix_list xs) ≡ false
none_calls [] h = refl
none_calls (x ∷ xs) h = absurd (omega (arith, h))

pub none_places : (xs : List PostfixTree) → length xs ≡ 0 → ends_in_place (postfix_list xs) ≡ false
none_places [] h = refl
none_places (x ∷ xs) h = absurd (omega (arith, h))

pub last_calls : (xs : List PostfixTree) (x : PostfixTree) → slice_get xs (length xs - 1) ≡ Some x → ends_in_call (postfix_list xs) ≡ is_call_part x
last_calls [] x h = absurd cc
last_calls (y ∷ []) x h = let same : y ≡ x = some_same h in ap is_call_part same
last_calls (y ∷ z ∷ ys) x h = last_calls (z ∷ ys) x (sym (last_get y z ys) ∙ h)

pub last_places : (xs : List PostfixTree) (x : PostfixTree) → slice_get xs (length xs - 1) ≡ Some x → ends_in_place (postfix_list xs) ≡ not (is_call_part x)
last_places [] x h = absurd cc
last_places (y ∷ []) x h = let same : y ≡ x = some_same h in ap (λ (z : PostfixTree). not (is_call_part z)) same
last_places (y ∷ z ∷ ys) x h = last_places (z ∷ ys) x (sym (last_get y z ys) ∙ h)
