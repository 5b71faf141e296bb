-- How the files in which names stand are found.
use Rattle.std.proofs.Common.{◌≡◌, ◌<◌, ℕ, zero, suc, ◌+◌, arith, refl, sym, ap, subst, ◌∙◌, cond, Bool, true, false, ◌&&◌, ◌||◌, List, [], ◌∷◌, ◌++◌, length, take, get_or, slice_get, slice_set, nat_eq, add-one, Option, Some, None, is_some, Result, Ok, Err, OnOk}
use Rattle.std.specs.Prelude.{unwrap_or}
use Rattle.std.specs.List.{list_any}
use Rattle.std.specs.Str.{bytes_eq}
use Rattle.std.specs.Cmp.Lexicographic.{bytes_decides}
use Rattle.std.proofs.Math.Seq.{take-suc}
use Rattle.std.proofs.lemmas.Bool.{eq-eqb, eqb-true}
use Rattle.std.proofs.lemmas.List.{length-append}
use Rattle.std.proofs.lemmas.List.Folds.{list_any-append}
use Rattle.std.proofs.lemmas.Option.{slice_get_within}
use Rattle.vf_names.specs.Names.{number_of}
use Rattle.vf_names.proofs.Numbering.{found-push, missed-push, name_there, number_of-push, number_of-push_other}
use Rattle.vf_preproc.specs.declared.name_table.Index.{Index}
use Rattle.vf_preproc.specs.UnitText.{is_among}
use Rattle.vf_preproc.specs.Joins.{stands_in}
use Rattle.vf_preproc.specs.NameTables.{Adds, Indexed, IsEvenIndex, places, places_at}

any_or : {A : Type 0} (p q : A → Bool) (xs : List A) → list_any (λ x. p x || q x) xs ≡ (list_any p xs || list_any q xs)
any_or p q [] = refl
any_or p q (x ∷ xs) = ap (λ b. p x || q x || b) (any_or p q xs) ∙ turned (p x) (q x) (list_any p xs) (list_any q xs)
  where
    turned : (a b c d : Bool) → ((a || b) || (c || d)) ≡ ((a || c) || (b || d))
    turned true b c d = refl
    turned false true true d = refl
    turned false true false d = refl
    turned false false c d = refl

any_same : {A : Type 0} (p q : A → Bool) (xs : List A) → ((x : A) → p x ≡ q x) → list_any p xs ≡ list_any q xs
any_same p q [] same = refl
any_same p q (x ∷ xs) same = rw (same x) (ap (λ b. q x || b) (any_same p q xs same))

any_never : {A : Type 0} (xs : List A) → list_any (λ _. false) xs ≡ false
any_never [] = refl
any_never (x ∷ xs) = any_never xs

nat_eq_turned : (a b : ℕ) → nat_eq a b ≡ nat_eq b a
nat_eq_turned a b = by_first (nat_eq a b) refl
  where
    by_second : nat_eq a b ≡ false → (c : Bool) → nat_eq b a ≡ c → false ≡ c
    by_second is false e = refl
    by_second is true e = let same : a ≡ b = sym (eqb-true b a e) in let no : nat_eq a b ≡ true = eq-eqb a b same in absurd cc

    by_first : (c : Bool) → nat_eq a b ≡ c → c ≡ nat_eq b a
    by_first true e = sym (eq-eqb b a (sym (eqb-true a b e)))
    by_first false e = by_second e (nat_eq b a) refl

-- one of some files is among others where one of these is among those
among_turned : (xs ys : List ℕ) → list_any (λ y. is_among xs y) ys ≡ list_any (λ x. is_among ys x) xs
among_turned xs [] = sym (any_never xs)
among_turned xs (y ∷ ys) =
    ap (λ b. is_among xs y || b) (among_turned xs ys)
    ∙ ap (λ b. b || list_any (λ x. is_among ys x) xs) (any_same (nat_eq y) (λ x. nat_eq x y) xs (λ x. nat_eq_turned y x))
    ∙ sym (any_or (λ x. nat_eq x y) (λ x. is_among ys x) xs)

-- a name stands in one of some files where one of them is among its places
pub stands_told : (own : List (List (List ℕ))) (index : Index) (files : List ℕ) (name : List ℕ) → Indexed own index → list_any (λ f. is_among files f) (places index name) ≡ list_any (stands_in own name) files
stands_told own index files name known = among_turned files (places index name) ∙ any_same (λ f. is_among (places index name) f) (stands_in own name) files (λ f. known.same name f)

or_false : (a : Bool) → a || false ≡ a
or_false true = refl
or_false false = refl

-- an item stays where it stands when one more comes
item_stays : {A : Type 0} (xs : List A) (z : A) (k : ℕ) → k < length xs → slice_get (xs ++ z ∷ []) k ≡ slice_get xs k
item_stays [] z k within = absurd (omega arith)
item_stays (x ∷ xs) z zero within = refl
item_stays (x ∷ xs) z (suc k) within = item_stays xs z k (omega arith)

item_last : {A : Type 0} (xs : List A) (z : A) → slice_get (xs ++ z ∷ []) (length xs) ≡ Some z
item_last [] z = refl
item_last (x ∷ xs) z = item_last xs z

item_behind : {A : Type 0} (xs : List A) → slice_get xs (length xs) ≡ None
item_behind [] = refl
item_behind (x ∷ xs) = item_behind xs

-- elsewhere nothing comes
item_apart : {A : Type 0} (xs : List A) (z : A) (k : ℕ) → (k ≡ length xs → ⊥) → slice_get (xs ++ z ∷ []) k ≡ slice_get xs k
item_apart [] z zero apart = absurd (apart refl)
item_apart [] z (suc k) apart = refl
item_apart (x ∷ xs) z zero apart = refl
item_apart (x ∷ xs) z (suc k) apart = item_apart xs z k (λ same. apart (omega arith))

item_other : {A : Type 0} (xs : List A) (z : A) (k : ℕ) → nat_eq k (length xs) ≡ false → slice_get (xs ++ z ∷ []) k ≡ slice_get xs k
item_other xs z k other = item_apart xs z k (λ same. let is : nat_eq k (length xs) ≡ true = eq-eqb k (length xs) same in absurd cc)

-- an item that is written, and another one
item_written : {A : Type 0} (xs : List A) (k : ℕ) (z : A) → k < length xs → slice_get (slice_set xs k z) k ≡ Some z
item_written [] k z within = absurd (omega arith)
item_written (x ∷ xs) zero z within = refl
item_written (x ∷ xs) (suc k) z within = item_written xs k z (omega arith)

item_unwritten : {A : Type 0} (xs : List A) (k j : ℕ) (z : A) → (j ≡ k → ⊥) → slice_get (slice_set xs k z) j ≡ slice_get xs j
item_unwritten [] zero j z apart = refl
item_unwritten [] (suc k) j z apart = refl
item_unwritten (x ∷ xs) zero zero z apart = absurd (apart refl)
item_unwritten (x ∷ xs) zero (suc j) z apart = refl
item_unwritten (x ∷ xs) (suc k) zero z apart = refl
item_unwritten (x ∷ xs) (suc k) (suc j) z apart = item_unwritten xs k j z (λ same. apart (omega arith))

length_written : {A : Type 0} (xs : List A) (k : ℕ) (z : A) → length (slice_set xs k z) ≡ length xs
length_written [] zero z = refl
length_written [] (suc k) z = refl
length_written (x ∷ xs) zero z = refl
length_written (x ∷ xs) (suc k) z = ap suc (length_written xs k z)

-- a name that has files stands in one more
pub adds_at : (name : List ℕ) (file at : ℕ) (old new : Index) → IsEvenIndex old → number_of old.names name ≡ Some at → new.names ≡ old.names → new.files.items ≡ slice_set old.files.items at (unwrap_or (slice_get old.files.items at) [] ++ file ∷ []) → Adds name file old new
adds_at name file at old new even is names files = record {
  even = ap length names ∙ even ∙ sym (length_written old.files.items at (unwrap_or (slice_get old.files.items at) [] ++ file ∷ [])) ∙ ap length (sym files);
  same = λ x f. ap (λ ns. is_among (places_at new.files.items (number_of ns x)) f) names ∙ ap (λ fs. is_among (places_at fs (number_of old.names x)) f) files ∙ by_name x f (bytes_eq x name) refl;
}
  where
    more : List ℕ
    more = unwrap_or (slice_get old.files.items at) [] ++ file ∷ []

    within : at < length old.files.items
    within = subst (λ n. at < n) even (slice_get_within old.names at name (name_there old.names name at is))

    others : (x : List ℕ) (f : ℕ) → bytes_eq x name ≡ false → (o : Option ℕ) → number_of old.names x ≡ o → is_among (places_at (slice_set old.files.items at more) o) f ≡ (is_among (places_at old.files.items o) f || false)
    others x f apart None e = refl
    others x f apart (Some n) e =
        ap (λ o. is_among (unwrap_or o []) f) (item_unwritten old.files.items at n more (λ same.
        let one : Some x ≡ Some name = sym (name_there old.names x n e) ∙ ap (λ k. slice_get old.names k) same ∙ name_there old.names name at is in
        let alike : x ≡ name = cc in
        let no : bytes_eq x name ≡ true = (bytes_decides x name).1 alike in
        absurd cc))
        ∙ sym (or_false (is_among (unwrap_or (slice_get old.files.items n) []) f))

    by_name : (x : List ℕ) (f : ℕ) (b : Bool) → bytes_eq x name ≡ b → is_among (places_at (slice_set old.files.items at more) (number_of old.names x)) f ≡ (is_among (places_at old.files.items (number_of old.names x)) f || (b && nat_eq f file))
    by_name x f false e = others x f e (number_of old.names x) refl
    by_name x f true e =
        let same : x ≡ name = (bytes_decides x name).0 e in
        let there : number_of old.names x ≡ Some at = ap (number_of old.names) same ∙ is in
        ap (λ o. is_among (places_at (slice_set old.files.items at more) o) f) there
        ∙ ap (λ o. is_among (unwrap_or o []) f) (item_written old.files.items at more within)
        ∙ list_any-append (nat_eq f) (unwrap_or (slice_get old.files.items at) []) (file ∷ [])
        ∙ ap (λ b. is_among (unwrap_or (slice_get old.files.items at) []) f || b) (or_false (nat_eq f file))
        ∙ ap (λ o. is_among (places_at old.files.items o) f || nat_eq f file) (sym there)

-- a name that has none gets its first
pub adds_new : (name : List ℕ) (file : ℕ) (old new : Index) → IsEvenIndex old → number_of old.names name ≡ None → new.names ≡ old.names ++ name ∷ [] → new.files.items ≡ old.files.items ++ (file ∷ []) ∷ [] → Adds name file old new
adds_new name file old new even none names files = record {
  even = ap length names ∙ length-append old.names (name ∷ []) ∙ ap (λ n. n + 1) even ∙ sym (length-append old.files.items ((file ∷ []) ∷ [])) ∙ ap length (sym files);
  same = λ x f. ap (λ ns. is_among (places_at new.files.items (number_of ns x)) f) names ∙ ap (λ fs. is_among (places_at fs (number_of (old.names ++ name ∷ []) x)) f) files ∙ by_name x f (bytes_eq x name) refl;
}
  where
    others : (x : List ℕ) (f : ℕ) (o : Option ℕ) → number_of old.names x ≡ o → is_among (places_at (old.files.items ++ (file ∷ []) ∷ []) o) f ≡ (is_among (places_at old.files.items o) f || false)
    others x f None e = refl
    others x f (Some n) e =
        ap (λ o. is_among (unwrap_or o []) f) (item_stays old.files.items (file ∷ []) n (subst (λ m. n < m) even (slice_get_within old.names n x (name_there old.names x n e))))
        ∙ sym (or_false (is_among (unwrap_or (slice_get old.files.items n) []) f))

    by_name : (x : List ℕ) (f : ℕ) (b : Bool) → bytes_eq x name ≡ b → is_among (places_at (old.files.items ++ (file ∷ []) ∷ []) (number_of (old.names ++ name ∷ []) x)) f ≡ (is_among (places_at old.files.items (number_of old.names x)) f || (b && nat_eq f file))
    by_name x f false e = ap (λ o. is_among (places_at (old.files.items ++ (file ∷ []) ∷ []) o) f) (number_of-push_other old.names name x e) ∙ others x f (number_of old.names x) refl
    by_name x f true e =
        let same : x ≡ name = (bytes_decides x name).0 e in
        let gone : number_of old.names x ≡ None = ap (number_of old.names) same ∙ none in
        let last : number_of (old.names ++ name ∷ []) x ≡ Some (length old.files.items) = ap (number_of (old.names ++ name ∷ [])) same ∙ number_of-push old.names name none ∙ ap Some even in
        ap (λ o. is_among (places_at (old.files.items ++ (file ∷ []) ∷ []) o) f) last
        ∙ ap (λ o. is_among (unwrap_or o []) f) (item_last old.files.items (file ∷ []))
        ∙ or_false (nat_eq f file)
        ∙ ap (λ o. is_among (places_at old.files.items o) f || nat_eq f file) (sym gone)

-- a name has a number where it had one or is the one that came
some_push : (names : List (List ℕ)) (name x : List ℕ) → is_some (number_of (names ++ name ∷ []) x) ≡ (is_some (number_of names x) || bytes_eq x name)
some_push names name x = by_number (number_of names x) refl
  where
    by_test : (b : Bool) → is_some (cond b (Some (0 + length names)) None) ≡ b
    by_test true = refl
    by_test false = refl

    by_number : (o : Option ℕ) → number_of names x ≡ o → is_some (number_of (names ++ name ∷ []) x) ≡ (is_some o || bytes_eq x name)
    by_number (Some n) e = ap is_some (found-push (bytes_eq x) 0 names name n e)
    by_number None e = ap is_some (missed-push (bytes_eq x) 0 names name e) ∙ by_test (bytes_eq x name)

-- an index to which some of a file's names were added
abbrev pub IsAdded : List (List (List ℕ)) → List (List ℕ) → ℕ → Index → Type 0
IsAdded own names file index = IsEvenIndex index × ((x : List ℕ) (f : ℕ) → is_among (places index x) f ≡ (stands_in own x f || (is_some (number_of names x) && nat_eq f file)))

pub added_none : (own : List (List (List ℕ))) (file : ℕ) (index : Index) → Indexed own index → IsAdded own [] file index
added_none own file index known = (known.even, λ x f. known.same x f ∙ sym (or_false (stands_in own x f)))

pub added_one : (own : List (List (List ℕ))) (names : List (List ℕ)) (name : List ℕ) (file n : ℕ) (old new : Index) → n < length names → get_or names n name ≡ name → IsAdded own (take n names) file old → Adds name file old new → IsAdded own (take (n + 1) names) file new
added_one own names name file n old new within is was adds = (
  adds.even,
  λ x f. adds.same x f ∙ ap (λ b. b || (bytes_eq x name && nat_eq f file)) (was.1 x f)
      ∙ turned (stands_in own x f) (is_some (number_of (take n names) x)) (bytes_eq x name) (nat_eq f file)
      ∙ ap (λ b. stands_in own x f || (b && nat_eq f file)) (sym (some_push (take n names) name x))
      ∙ ap (λ ns. stands_in own x f || (is_some (number_of ns x) && nat_eq f file)) (sym cut),
)
  where
    cut : take (n + 1) names ≡ take n names ++ name ∷ []
    cut = rw add-one (take-suc names n name within ∙ ap (λ y. take n names ++ y ∷ []) is)

    turned : (s a b e : Bool) → ((s || (a && e)) || (b && e)) ≡ (s || ((a || b) && e))
    turned true a b e = refl
    turned false true true true = refl
    turned false true true false = refl
    turned false true false true = refl
    turned false true false false = refl
    turned false false b e = refl

pub added_all : (own : List (List (List ℕ))) (names : List (List ℕ)) (file : ℕ) (index : Index) → file ≡ length own → IsAdded own names file index → Indexed (own ++ names ∷ []) index
added_all own names file index last was = record {
  even = was.0;
  same = λ x f. was.1 x f ∙ ap (λ n. stands_in own x f || (is_some (number_of names x) && nat_eq f n)) last ∙ by_file x f (nat_eq f (length own)) refl;
}
  where
    and_true : (a : Bool) → (false || (a && true)) ≡ a
    and_true true = refl
    and_true false = refl

    and_false : (s a : Bool) → (s || (a && false)) ≡ s
    and_false true a = refl
    and_false false true = refl
    and_false false false = refl

    by_file : (x : List ℕ) (f : ℕ) (b : Bool) → nat_eq f (length own) ≡ b → (stands_in own x f || (is_some (number_of names x) && b)) ≡ stands_in (own ++ names ∷ []) x f
    by_file x f false e = and_false (stands_in own x f) (is_some (number_of names x)) ∙ ap (λ o. is_some (number_of (unwrap_or o []) x)) (sym (item_other own names f e))
    by_file x f true e =
        let here : f ≡ length own = eqb-true f (length own) e in
        ap (λ o. is_some (number_of (unwrap_or o []) x) || (is_some (number_of names x) && true)) (ap (slice_get own) here ∙ item_behind own)
        ∙ and_true (is_some (number_of names x))
        ∙ ap (λ o. is_some (number_of (unwrap_or o []) x)) (sym (ap (slice_get (own ++ names ∷ [])) here ∙ item_last own names))

-- what holds where a call went well
pub on_ok : {U E : Type 0} (P Q : Type 0) (r : Result U E) → (P → Q) → OnOk r P → OnOk r Q
on_ok P Q (Ok u) go h = go h
on_ok P Q (Err e) go h = tt
