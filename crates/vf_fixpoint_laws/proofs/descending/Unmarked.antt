-- The names that a unit declares are those of its items.
use Rattle.std.proofs.Common.{◌≡◌, refl, sym, ap, ◌∙◌, ℕ, Bool, true, false, List, [], ◌∷◌, ◌++◌, Option, Some, None, is_some}
use Rattle.std.specs.Prelude.{◌||◌}
use Rattle.std.specs.List.{flat_map, list_any}
use Rattle.std.specs.Str.{bytes_eq}
use Rattle.std.proofs.lemmas.Slice.Eq.{bytes_eq-Decides}
use Rattle.vf_names.specs.Names.{number_of}
use Rattle.vf_syntax.specs.declared.item.Item.{Item}
use Rattle.vf_env.specs.Named.{named}
use Rattle.vf_env.specs.Trees.{is_among}
use Rattle.vf_env_laws.proofs.Laws.{names_are_declared}
use Rattle.vf_env_laws.proofs.Putting.{only_names_of_items, place_among}
use Rattle.vf_fixpoint_laws.specs.descending.Laws.{UnmarkedItemsHavePlainNames}
use Rattle.vf_fixpoint_laws.specs.well_declared.Names.{AreUnmarked, is_marked}

-- ---- parts of lists
none_first : (f : List ℕ → Bool) (xs ys : List (List ℕ)) → list_any f (xs ++ ys) ≡ false → list_any f xs ≡ false
none_first f [] ys e = refl
none_first f (x ∷ xs) ys e = by (f x) e (none_first f xs ys)
  where
    by : (b : Bool) → (b || list_any f (xs ++ ys)) ≡ false → (list_any f (xs ++ ys) ≡ false → list_any f xs ≡ false) → (b || list_any f xs) ≡ false
    by true e h = absurd cc
    by false e h = h e

none_second : (f : List ℕ → Bool) (xs ys : List (List ℕ)) → list_any f (xs ++ ys) ≡ false → list_any f ys ≡ false
none_second f [] ys e = e
none_second f (x ∷ xs) ys e = by (f x) e (none_second f xs ys)
  where
    by : (b : Bool) → (b || list_any f (xs ++ ys)) ≡ false → (list_any f (xs ++ ys) ≡ false → list_any f ys ≡ false) → list_any f ys ≡ false
    by true e h = absurd cc
    by false e h = h e

-- what is so of none of some names is not so of one of them
none_at : (f : List ℕ → Bool) (xs : List (List ℕ)) (x : List ℕ) → list_any f xs ≡ false → is_among xs x ≡ true → f x ≡ false
none_at f [] x e h = absurd cc
none_at f (y ∷ xs) x e h = by (f y) refl e (bytes_eq x y) refl h (none_at f xs x)
  where
    by : (b : Bool) → f y ≡ b → (b || list_any f xs) ≡ false → (c : Bool) → bytes_eq x y ≡ c → (c || is_among xs x) ≡ true → (list_any f xs ≡ false → is_among xs x ≡ true → f x ≡ false) → f x ≡ false
    by true p e c q h k = absurd cc
    by false p e true q h k = ap f ((bytes_eq-Decides x y).0 q) ∙ p
    by false p e false q h k = k e h

-- a name that one of some items declares is unmarked
unmarked_at : (xs : List Item) (x : List ℕ) → AreUnmarked xs → list_any (λ item. is_among (named item) x) xs ≡ true → is_marked x ≡ false
unmarked_at [] x e h = absurd cc
unmarked_at (y ∷ xs) x e h = by (is_among (named y) x) refl h (unmarked_at xs x (none_second is_marked (named y) (flat_map named xs) e))
  where
    by : (b : Bool) → is_among (named y) x ≡ b → (b || list_any (λ item. is_among (named item) x) xs) ≡ true → (list_any (λ item. is_among (named item) x) xs ≡ true → is_marked x ≡ false) → is_marked x ≡ false
    by true p h k = none_at is_marked (named y) x (none_first is_marked (named y) (flat_map named xs) e) p
    by false p h k = k h

pub unmarked_items_have_plain_names : UnmarkedItemsHavePlainNames
unmarked_items_have_plain_names f xs s come unmarked x = by (number_of s.names x) refl
  where
    by : (o : Option ℕ) → number_of s.names x ≡ o → is_some o ≡ true → is_marked x ≡ false
    by None e h = absurd cc
    by (Some k) e h = unmarked_at xs x unmarked (sym (only_names_of_items named xs x) ∙ (ap (λ ns. is_among ns x) (sym (names_are_declared f xs s come).names) ∙ place_among s.names x k e))
