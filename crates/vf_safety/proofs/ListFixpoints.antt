-- What the fixpoints on lists of numbers give: the first numbers, those behind them, and the numbers of two lists.
use Rattle.std.proofs.Common.{◌≡◌, ℕ, suc, pos, false, cond, List, [], ◌∷◌, ◌++◌, length, ap, ◌∙◌, arith}
use Rattle.std.specs.Prelude.{ℤ, ◌-ℤ◌, int_le, Contains, codes}
use Rattle.std.proofs.lemmas.Int.{ints}
use Rattle.vf_tree.specs.Core.{Identity}
use Rattle.vf_model.specs.Values.{Value, Values, none, more}
use Rattle.vf_model.specs.Values as values
use Rattle.vf_meaning.specs.Ghost.{FixpointTree}
use Rattle.vf_meaning.specs.GhostValues.{by_body, interpreted}
use Rattle.vf_meaning.specs.Assertions.{Environment}
use Rattle.vf_meaning.specs.Chunks.{list_of}
use Rattle.vf_meaning.proofs.Ordered.{listed_fixpoints_meet_equations}
use Rattle.vf_safety.specs.ArrayLaws.{take_name, drop_name, append_name, take_fixpoint, drop_fixpoint, append_fixpoint, DeclaresLists}

above : (n : ℕ) → int_le (pos (suc n)) (pos 0) ≡ false
above n = grind (arith, ints)

less : (n : ℕ) → pos (suc n) -ℤ pos 1 ≡ pos n
less n = grind (arith, ints)

module _ (e : Environment) (lists : DeclaresLists e) where
  -- a fixpoint's value at two arguments
  abbrev pub at_two : Identity → Value → Value → Value
  at_two f a b = (interpreted e.claims e.fixpoints).fixpoint f (more a (more b none))

  abbrev cell : ℤ → Value → Value
  cell z rest = values.Constructed (codes "<vf_arrays.h>#ints_cons") (more (values.Number z) (more rest none))

  equation : (f : FixpointTree) → Contains e.fixpoints f → (a b : Value) → at_two f.identity a b ≡ by_body (interpreted e.claims e.fixpoints) f.body (more a (more b none))
  equation f there a b = listed_fixpoints_meet_equations e.claims e.fixpoints f (more a (more b none)) lists.ordered there

  pub takes : (xs ys : List ℤ) → at_two take_name (list_of (xs ++ ys)) (values.Number (pos (length xs))) ≡ list_of xs
  takes [] [] = equation take_fixpoint lists.takes (list_of []) (values.Number (pos 0))
  takes [] (y ∷ ys) = equation take_fixpoint lists.takes (list_of (y ∷ ys)) (values.Number (pos 0))
  takes (x ∷ xs) ys =
      equation take_fixpoint lists.takes (list_of (x ∷ (xs ++ ys))) (values.Number (pos (suc (length xs))))
      ∙ ap (λ b. cond b (list_of []) (cell x (at_two take_name (list_of (xs ++ ys)) (values.Number (pos (suc (length xs)) -ℤ pos 1))))) (above (length xs))
      ∙ ap (λ z. cell x (at_two take_name (list_of (xs ++ ys)) (values.Number z))) (less (length xs))
      ∙ ap (cell x) (takes xs ys)

  pub drops : (xs ys : List ℤ) → at_two drop_name (list_of (xs ++ ys)) (values.Number (pos (length xs))) ≡ list_of ys
  drops [] [] = equation drop_fixpoint lists.drops (list_of []) (values.Number (pos 0))
  drops [] (y ∷ ys) = equation drop_fixpoint lists.drops (list_of (y ∷ ys)) (values.Number (pos 0))
  drops (x ∷ xs) ys =
      equation drop_fixpoint lists.drops (list_of (x ∷ (xs ++ ys))) (values.Number (pos (suc (length xs))))
      ∙ ap (λ b. cond b (cell x (list_of (xs ++ ys))) (at_two drop_name (list_of (xs ++ ys)) (values.Number (pos (suc (length xs)) -ℤ pos 1)))) (above (length xs))
      ∙ ap (λ z. at_two drop_name (list_of (xs ++ ys)) (values.Number z)) (less (length xs))
      ∙ drops xs ys

  pub appends : (xs ys : List ℤ) → at_two append_name (list_of xs) (list_of ys) ≡ list_of (xs ++ ys)
  appends [] ys = equation append_fixpoint lists.appends (list_of []) (list_of ys)
  appends (x ∷ xs) ys = equation append_fixpoint lists.appends (list_of (x ∷ xs)) (list_of ys) ∙ ap (cell x) (appends xs ys)
