-- Names that come one after the other, each once.
use Rattle.std.proofs.Common.{◌≡◌, refl, sym, ap, subst, ◌∙◌, ◌⊎◌, inl, inr, ℕ, zero, suc, ◌+◌, Bool, true, false, ◌||◌, cond, List, [], ◌∷◌, ◌++◌, length, map, slice_get, Option, Some, None, arith}
use Rattle.std.specs.List.{flat_map, list_any, position_from}
use Rattle.std.specs.Str.{bytes_eq}
use Rattle.std.specs.Cmp.Lexicographic.{bytes_decides}
use Rattle.std.proofs.lemmas.List.Folds.{list_any-append}
use Rattle.vf_names.specs.Names.{number_of, put, put_found}
use Rattle.vf_names.proofs.Numbering.{found-push, number_of-push}
use Rattle.vf_syntax.specs.declared.item.Item.{Item}
use Rattle.vf_env.specs.Trees.{is_among, numbers_where}
use Rattle.vf_env_laws.specs.Declared.{declared_by, put_all}

-- ---- one name
pub put_new : (names : List (List ℕ)) (x : List ℕ) → number_of names x ≡ None → put names x ≡ names ++ x ∷ []
put_new names x h = ap (put_found names x) h

pub put_known : (names : List (List ℕ)) (x : List ℕ) (k : ℕ) → number_of names x ≡ Some k → put names x ≡ names
put_known names x k h = ap (put_found names x) h

-- ---- some names, and then others
pub put_both : (names xs ys : List (List ℕ)) → put_all names (xs ++ ys) ≡ put_all (put_all names xs) ys
put_both names [] ys = refl
put_both names (x ∷ xs) ys = put_both (put names x) xs ys

-- ---- each stands once
-- where a name stands is its number
abbrev pub StandsOnce : List (List ℕ) → Type 0
StandsOnce names = (x : List ℕ) (k : ℕ) → slice_get names k ≡ Some x → number_of names x ≡ Some k

at_place : {A : Type 0} (xs : List A) (y z : A) (k : ℕ) → slice_get (xs ++ y ∷ []) k ≡ Some z → (slice_get xs k ≡ Some z) ⊎ ((k ≡ length xs) × (y ≡ z))
at_place [] y z zero e = inr (refl, cc)
at_place [] y z (suc k) e = absurd cc
at_place (x ∷ xs) y z zero e = inl e
at_place (x ∷ xs) y z (suc k) e = behind (at_place xs y z k e)
  where
    behind : (slice_get xs k ≡ Some z) ⊎ ((k ≡ length xs) × (y ≡ z)) → (slice_get xs k ≡ Some z) ⊎ ((suc k ≡ suc (length xs)) × (y ≡ z))
    behind (inl h) = inl h
    behind (inr h) = inr (ap suc h.0, h.1)

once_new : (names : List (List ℕ)) (y : List ℕ) → number_of names y ≡ None → StandsOnce names → StandsOnce (names ++ y ∷ [])
once_new names y none h x k e = by (at_place names y x k e)
  where
    by : (slice_get names k ≡ Some x) ⊎ ((k ≡ length names) × (y ≡ x)) → number_of (names ++ y ∷ []) x ≡ Some k
    by (inl there) = found-push (bytes_eq x) 0 names y k (h x k there)
    by (inr last) = subst (λ z. number_of (names ++ y ∷ []) z ≡ Some k) last.1 (number_of-push names y none ∙ ap Some (sym last.0))

once_put : (names : List (List ℕ)) (y : List ℕ) (o : Option ℕ) → number_of names y ≡ o → StandsOnce names → StandsOnce (put_found names y o)
once_put names y None e h = once_new names y e h
once_put names y (Some k) e h = h

once_all : (xs names : List (List ℕ)) → StandsOnce names → StandsOnce (put_all names xs)
once_all [] names h = h
once_all (x ∷ xs) names h = once_all xs (put names x) (once_put names x (number_of names x) refl h)

pub names_stand_once : (declared : Item → List (List ℕ)) (xs : List Item) → StandsOnce (declared_by declared xs)
names_stand_once declared xs = once_all (flat_map declared xs) [] (λ x k e. absurd cc)

-- ---- and no others stand there
found_is : (test : List ℕ → Bool) (i : ℕ) (xs : List (List ℕ)) (k : ℕ) → position_from test i xs ≡ Some k → list_any test xs ≡ true
found_is test i [] k e = absurd cc
found_is test i (x ∷ xs) k e = by (test x) e (found_is test (i + 1) xs k)
  where
    by : (b : Bool) → cond b (Some i) (position_from test (i + 1) xs) ≡ Some k → (position_from test (i + 1) xs ≡ Some k → list_any test xs ≡ true) → (b || list_any test xs) ≡ true
    by true e h = refl
    by false e h = h e

or_false : (a b : Bool) → (a || (b || false)) ≡ (a || b)
or_false true b = refl
or_false false true = refl
or_false false false = refl

or_true : (a b : Bool) → (b ≡ true → a ≡ true) → a ≡ (a || b)
or_true true b h = refl
or_true false true h = absurd (let e : false ≡ true = h refl in cc)
or_true false false h = refl

or_assoc : (a b c : Bool) → ((a || b) || c) ≡ (a || (b || c))
or_assoc true b c = refl
or_assoc false b c = refl

among_found : (names : List (List ℕ)) (y x : List ℕ) (o : Option ℕ) → number_of names y ≡ o → is_among (put_found names y o) x ≡ (is_among names x || bytes_eq x y)
among_found names y x None e = list_any-append (bytes_eq x) names (y ∷ []) ∙ or_false (is_among names x) (bytes_eq x y)
among_found names y x (Some k) e = or_true (is_among names x) (bytes_eq x y) (λ b. ap (is_among names) ((bytes_decides x y).0 b) ∙ found_is (bytes_eq y) 0 names k e)

among_all : (names ys : List (List ℕ)) (x : List ℕ) → is_among (put_all names ys) x ≡ (is_among names x || is_among ys x)
among_all names [] x = or_true (is_among names x) false (λ e. absurd cc)
among_all names (y ∷ ys) x = among_all (put names y) ys x ∙ ap (λ b. b || is_among ys x) (among_found names y x (number_of names y) refl) ∙ or_assoc (is_among names x) (bytes_eq x y) (is_among ys x)

among_items : (declared : Item → List (List ℕ)) (xs : List Item) (x : List ℕ) → is_among (flat_map declared xs) x ≡ list_any (λ item. is_among (declared item) x) xs
among_items declared [] x = refl
among_items declared (y ∷ ys) x = list_any-append (bytes_eq x) (declared y) (flat_map declared ys) ∙ ap (λ b. is_among (declared y) x || b) (among_items declared ys x)

pub only_names_of_items : (declared : Item → List (List ℕ)) (xs : List Item) (x : List ℕ) → is_among (declared_by declared xs) x ≡ list_any (λ item. is_among (declared item) x) xs
only_names_of_items declared xs x = among_all [] (flat_map declared xs) x ∙ among_items declared xs x

-- ---- the first item that declares a name
-- what stands at a place is among names
pub place_among : (names : List (List ℕ)) (x : List ℕ) (k : ℕ) → number_of names x ≡ Some k → is_among names x ≡ true
place_among names x k e = found_is (bytes_eq x) 0 names k e

-- a number that a list begins with is that of the first thing that passes a test
pub record Begins {A : Type 0} (test : A → Bool) (n : ℕ) (xs : List A) : Type 0 where
  pub first : ℕ
  pub more : List ℕ
  pub whole : numbers_where test n xs ≡ first ∷ more
  pub is_first : position_from test n xs ≡ Some first

begins_if : {A : Type 0} (test : A → Bool) (n : ℕ) (x : A) (xs : List A) (b : Bool) → test x ≡ b → (b || list_any test xs) ≡ true → (list_any test xs ≡ true → Begins test (suc n) xs) → Begins test n (x ∷ xs)
begins_if test n x xs true t e h = record {
  first = n;
  more = numbers_where test (suc n) xs;
  whole = ap (λ c. cond c (n ∷ numbers_where test (suc n) xs) (numbers_where test (suc n) xs)) t;
  is_first = ap (λ c. cond c (Some n) (position_from test (n + 1) xs)) t;
}
begins_if test n x xs false t e h =
    let b = h e in
    record {
      first = b.first;
      more = b.more;
      whole = ap (λ c. cond c (n ∷ numbers_where test (suc n) xs) (numbers_where test (suc n) xs)) t ∙ b.whole;
      is_first = ap (λ c. cond c (Some n) (position_from test (n + 1) xs)) t ∙ ap (λ m. position_from test m xs) (let s : n + 1 ≡ suc n = omega arith in s) ∙ b.is_first;
    }

pub begins : {A : Type 0} (test : A → Bool) (n : ℕ) (xs : List A) → list_any test xs ≡ true → Begins test n xs
begins test n [] e = absurd cc
begins test n (x ∷ xs) e = begins_if test n x xs (test x) refl e (begins test (suc n) xs)

-- ---- lists beside names
-- what stands at the place of each item is given by it
pub by_places : {A B : Type 0} (f : A → B) (xs : List A) (ys : List B) → length ys ≡ length xs → ((x : A) (k : ℕ) → slice_get xs k ≡ Some x → slice_get ys k ≡ Some (f x)) → ys ≡ map f xs
by_places f [] [] e h = refl
by_places f [] (y ∷ ys) e h = absurd (grind (arith, e))
by_places f (x ∷ xs) [] e h = absurd (grind (arith, e))
by_places f (x ∷ xs) (y ∷ ys) e h =
    let first : Some y ≡ Some (f x) = h x 0 refl in
    let same : y ≡ f x = cc in
    let rest : ys ≡ map f xs = by_places f xs ys (grind (arith, e)) (λ z k there. h z (suc k) there) in
    λ i. same i ∷ rest i
