-- The files that were begun, each with its number.
use Rattle.std.proofs.Common.{◌≡◌, ℕ, zero, suc, ◌+◌, Bool, true, false, cond, List, [], ◌∷◌, ◌++◌, length, slice_get, Some, None, Ok, refl, sym, ap, subst, ◌∙◌}
use Rattle.std.specs.List.{position_from}
use Rattle.std.specs.Str.{bytes_eq}
use Rattle.std.specs.Cmp.Lexicographic.{bytes_decides}
use Rattle.vf_base.specs.declared.place.Place.{Place}
use Rattle.vf_lexer.specs.declared.token.Token.{Token}
use Rattle.vf_names.specs.Names.{number_of}
use Rattle.vf_preproc.specs.declared.sources.Loaded.{Loaded}
use Rattle.vf_preproc.specs.UnitText.{Absent, Faulty, Library, loaded, Source, Text, TooLong, Unknown}
use Rattle.vf_expand.specs.Wholes.{named}
use Rattle.vf_header_laws.proofs.included.Files.{at_end, none_some, some_same}

-- a library tells the text of a path's file, under a number
pub record IsTold (library : Library) (path : List ℕ) (number : ℕ) : Type 0 where
  pub bytes : List ℕ
  pub tokens : List Token
  pub is : library path ≡ Text number bytes tokens

-- no path was begun twice, and each has the number that the library tells: the unit's own file first, and then its headers
pub record IsNumbered (library : Library) (own : ℕ) (paths : List (List ℕ)) (headers : List ℕ) : Type 0 where
  pub apart : (i j : ℕ) (path : List ℕ) → slice_get paths i ≡ Some path → slice_get paths j ≡ Some path → i ≡ j
  pub told : (i : ℕ) (path : List ℕ) (number : ℕ) → slice_get paths i ≡ Some path → slice_get (own ∷ headers) i ≡ Some number → IsTold library path number

-- what was read is told
pub loaded_told : (hash : Place) (library : Library) (path : List ℕ) (file : Loaded) → loaded hash (library path) ≡ Ok file → IsTold library path file.number
loaded_told hash library path file h = by_source (library path) refl h
  where
    by_source : (s : Source) → library path ≡ s → loaded hash s ≡ Ok file → IsTold library path file.number
    by_source (Text number bytes tokens) e h = subst (λ (f : Loaded). IsTold library path f.number) (same h) (record { bytes = bytes; tokens = tokens; is = e })
      where
        same : loaded hash (Text number bytes tokens) ≡ Ok file → record { number = number; bytes = bytes; tokens = tokens } ≡ file
        same k = cc
    by_source (Faulty place) e h = absurd cc
    by_source (TooLong number) e h = absurd cc
    by_source Absent e h = absurd cc
    by_source Unknown e h = absurd cc

pub named_told : (library : Library) (path : List ℕ) (file : Loaded) → named (library path) ≡ Ok file → IsTold library path file.number
named_told library path file h = by_source (library path) refl h
  where
    by_source : (s : Source) → library path ≡ s → named s ≡ Ok file → IsTold library path file.number
    by_source (Text number bytes tokens) e h = subst (λ (f : Loaded). IsTold library path f.number) (same h) (record { bytes = bytes; tokens = tokens; is = e })
      where
        same : named (Text number bytes tokens) ≡ Ok file → record { number = number; bytes = bytes; tokens = tokens } ≡ file
        same k = cc
    by_source (Faulty place) e h = absurd cc
    by_source (TooLong number) e h = absurd cc
    by_source Absent e h = absurd cc
    by_source Unknown e h = absurd cc

-- the unit's own file alone
pub numbered_start : (library : Library) (own : ℕ) (path : List ℕ) → IsTold library path own → IsNumbered library own (path ∷ []) []
numbered_start library own path is = record { apart = one; told = first }
  where
    one : (i j : ℕ) (p : List ℕ) → slice_get (path ∷ []) i ≡ Some p → slice_get (path ∷ []) j ≡ Some p → i ≡ j
    one zero zero p e h = refl
    one zero (suc j) p e h = none_some h
    one (suc i) j p e h = none_some e

    first : (i : ℕ) (p : List ℕ) (n : ℕ) → slice_get (path ∷ []) i ≡ Some p → slice_get (own ∷ []) i ≡ Some n → IsTold library p n
    first zero p n e h = subst (IsTold library p) (some_same h) (subst (λ x. IsTold library x own) (some_same e) is)
    first (suc i) p n e h = none_some e

-- ---- one more file
data OneOf {A : Type 0} (xs : List A) (x : A) (n : ℕ) (y : A) : Type 0 where
  before : slice_get xs n ≡ Some y → OneOf xs x n y
  last : n ≡ length xs → x ≡ y → OneOf xs x n y

one_of : {A : Type 0} (xs : List A) (x : A) (n : ℕ) (y : A) → slice_get (xs ++ x ∷ []) n ≡ Some y → OneOf xs x n y
one_of [] x zero y h = last refl (some_same h)
one_of [] x (suc n) y h = none_some h
one_of (z ∷ xs) x zero y h = before h
one_of {A} (z ∷ xs) x (suc n) y h = further (one_of xs x n y h)
  where
    further : OneOf xs x n y → OneOf (z ∷ xs) x (suc n) y
    further (before e) = before e
    further (last e k) = last (ap suc e) k

-- a name without a number stands nowhere
nowhere : {B : Type 0} (k : ℕ) (xs : List (List ℕ)) (x : List ℕ) (n : ℕ) → position_from (bytes_eq x) k xs ≡ None → slice_get xs n ≡ Some x → B
nowhere k [] x n h e = none_some e
nowhere {B} k (y ∷ xs) x zero h e = none_some (sym h ∙ ap (λ b. cond b (Some k) (position_from (bytes_eq x) (k + 1) xs)) ((bytes_decides x y).1 (sym (some_same e))))
nowhere {B} k (y ∷ xs) x (suc n) h e = by_test (bytes_eq x y) h (λ i. nowhere (k + 1) xs x n i e)
  where
    by_test : (b : Bool) → cond b (Some k) (position_from (bytes_eq x) (k + 1) xs) ≡ None → (position_from (bytes_eq x) (k + 1) xs ≡ None → B) → B
    by_test true h f = none_some (sym h)
    by_test false h f = f h

past : {A B : Type 0} (xs : List A) (n : ℕ) (x : A) → n ≡ length xs → slice_get xs n ≡ Some x → B
past xs n x e h = none_some (sym (at_end xs) ∙ sym (ap (slice_get xs) e) ∙ h)

pub numbered_more : (library : Library) (own : ℕ) (paths : List (List ℕ)) (headers : List ℕ) (path : List ℕ) (number : ℕ) → suc (length headers) ≡ length paths → IsNumbered library own paths headers → number_of paths path ≡ None → IsTold library path number → IsNumbered library own (paths ++ path ∷ []) (headers ++ number ∷ [])
numbered_more library own paths headers path number even g fresh is = record {
  apart = λ i j p e h. both_paths i j p (one_of paths path i p e) (one_of paths path j p h);
  told = λ i p n e h. both_told i p n (one_of paths path i p e) (one_of (own ∷ headers) number i n h);
}
  where
    both_paths : (i j : ℕ) (p : List ℕ) → OneOf paths path i p → OneOf paths path j p → i ≡ j
    both_paths i j p (before e) (before h) = g.apart i j p e h
    both_paths i j p (before e) (last h k) = nowhere 0 paths path i fresh (e ∙ ap Some (sym k))
    both_paths i j p (last e k) (before h) = nowhere 0 paths path j fresh (h ∙ ap Some (sym k))
    both_paths i j p (last e k) (last h q) = e ∙ sym h

    both_told : (i : ℕ) (p : List ℕ) (n : ℕ) → OneOf paths path i p → OneOf (own ∷ headers) number i n → IsTold library p n
    both_told i p n (before e) (before h) = g.told i p n e h
    both_told i p n (before e) (last h k) = past paths i p (h ∙ even) e
    both_told i p n (last e k) (before h) = past (own ∷ headers) i n (e ∙ sym even) h
    both_told i p n (last e k) (last h q) = subst (IsTold library p) q (subst (λ x. IsTold library x number) k is)
