-- Names by numbers of a table.
use Rattle.std.proofs.Common.{◌≡◌, ℕ, zero, suc, ◌+◌, ◌<◌, ◌≤◌, List, [], ◌∷◌, ◌++◌, length, take, slice_get, refl, sym, ap, ◌∙◌, arith}
use Rattle.std.proofs.lemmas.List.{length-append, map-append}
use Rattle.vf_tree.specs.Core.{Identity}
use Rattle.vf_core.specs.Shown.{identity_of, text_or_empty}
use Rattle.vf_core.specs.declared.words.Name.{Name}
use Rattle.vf_flow.specs.Named.{identities}

-- what stands at an index behind others
get_behind : {A : Type 0} (xs ys : List A) (n : ℕ) → slice_get (xs ++ ys) (length xs + n) ≡ slice_get ys n
get_behind [] ys n = let e : 0 + n ≡ n = omega arith in ap (slice_get ys) e
get_behind (x ∷ xs) ys n = let e : suc (length xs) + n ≡ suc (length xs + n) = omega arith in ap (slice_get (x ∷ (xs ++ ys))) e ∙ get_behind xs ys n

-- what stands at an index in front of others
get_front : {A : Type 0} (xs ys : List A) (n : ℕ) → n < length xs → slice_get (xs ++ ys) n ≡ slice_get xs n
get_front [] ys n l = absurd (omega arith)
get_front (x ∷ xs) ys zero l = refl
get_front (x ∷ xs) ys (suc n) l = get_front xs ys n (omega arith)

-- one more of the first items
take_one : (xs : List Identity) (i : ℕ) → i < length xs → take (i + 1) xs ≡ take i xs ++ text_or_empty (slice_get xs i) ∷ []
take_one [] i l = absurd (omega arith)
take_one (x ∷ xs) zero l = refl
take_one (x ∷ xs) (suc i) l = let step : suc i + 1 ≡ suc (i + 1) = omega arith in rw step (ap (λ ys. x ∷ ys) (take_one xs i (omega arith)))

-- the name at an index of the texts in a table
there : (before texts behind : List Identity) (first at : ℕ) → length before ≡ first → at < length texts → slice_get (before ++ texts ++ behind) (first + at) ≡ slice_get texts at
there before texts behind first at begins l =
    ap (λ n. slice_get (before ++ texts ++ behind) (n + at)) (sym begins)
    ∙ get_front (before ++ texts) behind (length before + at) (let sum = length-append before texts in omega (arith, sum, l))
    ∙ get_behind before texts at

-- one name more
pub names_more : (first at count : ℕ) (names : List Name) (name : Name) → at < count → name.number ≡ first + at
    → ((before texts behind : List Identity) → length before ≡ first → length texts ≡ count → identities (before ++ texts ++ behind) names ≡ take at texts)
    → (before texts behind : List Identity) → length before ≡ first → length texts ≡ count → identities (before ++ texts ++ behind) (names ++ name ∷ []) ≡ take (at + 1) texts
names_more first at count names name less is so before texts behind begins many =
    let within : at < length texts = omega (arith, less, many) in
    let table = before ++ texts ++ behind in
    map-append (identity_of table) names (name ∷ [])
    ∙ ap (λ l. l ++ identity_of table name ∷ []) (so before texts behind begins many)
    ∙ ap (λ n. take at texts ++ text_or_empty (slice_get table n) ∷ []) is
    ∙ ap (λ o. take at texts ++ text_or_empty o ∷ []) (there before texts behind first at begins within)
    ∙ sym (take_one texts at within)

take_whole : {A : Type 0} (xs : List A) (n : ℕ) → length xs ≤ n → take n xs ≡ xs
take_whole [] zero l = refl
take_whole [] (suc n) l = refl
take_whole (x ∷ xs) zero l = absurd (omega arith)
take_whole (x ∷ xs) (suc n) l = ap (λ ys. x ∷ ys) (take_whole xs n (omega arith))

-- all names
pub names_end : (first at count : ℕ) (names : List Name) → count ≤ at
    → ((before texts behind : List Identity) → length before ≡ first → length texts ≡ count → identities (before ++ texts ++ behind) names ≡ take at texts)
    → (before texts behind : List Identity) → length before ≡ first → length texts ≡ count → identities (before ++ texts ++ behind) names ≡ texts
names_end first at count names all so before texts behind begins many = so before texts behind begins many ∙ take_whole texts at (omega (arith, all, many))

-- names of texts of which one list stands in front of the others
pub first_of_three : (a b c : List Identity) (names : List Name) → ((before texts behind : List Identity) → length before ≡ 0 → length texts ≡ length a → identities (before ++ texts ++ behind) names ≡ texts) → identities (([] ++ a ++ b) ++ c) names ≡ a
first_of_three a b c names so = ap (λ l. identities l names) (assoc a b c) ∙ so [] a (b ++ c) refl refl
  where
    assoc : (a b c : List Identity) → ([] ++ a ++ b) ++ c ≡ [] ++ a ++ (b ++ c)
    assoc [] b c = refl
    assoc (x ∷ a) b c = ap (λ l. x ∷ l) (assoc a b c)
