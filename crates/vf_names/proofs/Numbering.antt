-- How the numbers of names go on when one more comes.
use Rattle.std.proofs.Common.{◌≡◌, ℕ, ◌+◌, suc, arith, refl, sym, ap, subst, ◌∙◌, cond, Bool, true, false, List, [], ◌∷◌, ◌++◌, length, slice_get, Option, Some, None, IfSome, Result, Ok, Err, IfOk, OnOk}
use Rattle.std.specs.List.{position_from}
use Rattle.std.specs.Str.{bytes_eq}
use Rattle.std.specs.Map.{KeepsOthers, lookup}
use Rattle.std.specs.BTreeMap.{BTreeMap, UpdatesBy, get_by}
use Rattle.std.specs.Ordering.{nat_cmp, is_eq, eq_by_cmp}
use Rattle.std.specs.Cmp.{eq_by_cmp_equiv}
use Rattle.std.specs.Cmp.Lexicographic.{slice_cmp, nat_list_cmp_total, bytes_decides, nat_list_eq_equiv}
use Rattle.std.specs.Global.{Vec}
use Rattle.std.proofs.lemmas.Map.Text.{is_eq-slice_cmp}
use Rattle.vf_names.specs.Names.{number_of}
use Rattle.vf_names.specs.Kept.{Numbers}

-- behind a test that answers first, an answer stays
kept_found : (b : Bool) (i : ℕ) (o p : Option ℕ) (n : ℕ) → (o ≡ Some n → p ≡ Some n) → cond b (Some i) o ≡ Some n → cond b (Some i) p ≡ Some n
kept_found true i o p n go h = h
kept_found false i o p n go h = go h

kept_missed : (b : Bool) (i : ℕ) (o p m : Option ℕ) → (o ≡ None → p ≡ m) → cond b (Some i) o ≡ None → cond b (Some i) p ≡ m
kept_missed true i o p m go h = absurd cc
kept_missed false i o p m go h = go h

-- what stands among names stands there also with one more behind
pub found-push : {A : Type 0} (t : A → Bool) (i : ℕ) (xs : List A) (x : A) (n : ℕ) → position_from t i xs ≡ Some n → position_from t i (xs ++ x ∷ []) ≡ Some n
found-push t i [] x n h = absurd cc
found-push t i (y ∷ ys) x n h = kept_found (t y) i _ _ n (found-push t (i + 1) ys x n) h

-- what does not stand there is the one behind, or none
pub missed-push : {A : Type 0} (t : A → Bool) (i : ℕ) (xs : List A) (x : A) → position_from t i xs ≡ None → position_from t i (xs ++ x ∷ []) ≡ cond (t x) (Some (i + length xs)) None
missed-push t i [] x h = ap (λ n. cond (t x) (Some n) None) (let e : i ≡ i + 0 = omega arith in e)
missed-push t i (y ∷ ys) x h =
    let sum : i + 1 + length ys ≡ i + length (y ∷ ys) = omega arith in
    kept_missed (t y) i _ _ _ (λ none. missed-push t (i + 1) ys x none ∙ ap (λ n. cond (t x) (Some n) None) sum) h

-- what is found at a place behind a first item is found one place on
found_behind : {A : Type 0} (t : A → Bool) (i : ℕ) (x : A) (xs : List A) (n : ℕ) → (k : ℕ) × (y : A) × (n ≡ i + 1 + k) × (slice_get xs k ≡ Some y) × (t y ≡ true)
    → (k : ℕ) × (y : A) × (n ≡ i + k) × (slice_get (x ∷ xs) k ≡ Some y) × (t y ≡ true)
found_behind t i x xs n (k, y, at, is, passes) = (suc k, y, omega arith, is, passes)

-- a test is found to pass at the first item, or behind it
found_at : {A : Type 0} (t : A → Bool) (i : ℕ) (x : A) (xs : List A) (n : ℕ) (b : Bool) → t x ≡ b → cond b (Some i) (position_from t (i + 1) xs) ≡ Some n
    → (position_from t (i + 1) xs ≡ Some n → (k : ℕ) × (y : A) × (n ≡ i + 1 + k) × (slice_get xs k ≡ Some y) × (t y ≡ true))
    → (k : ℕ) × (y : A) × (n ≡ i + k) × (slice_get (x ∷ xs) k ≡ Some y) × (t y ≡ true)
found_at t i x xs n true passes h go = let same : n ≡ i = cc in (0, x, omega arith, refl, passes)
found_at t i x xs n false passes h go = found_behind t i x xs n (go h)

-- where a test is found to pass, an item stands that passes it
pub found-there : {A : Type 0} (t : A → Bool) (i : ℕ) (xs : List A) (n : ℕ) → position_from t i xs ≡ Some n → (k : ℕ) × (y : A) × (n ≡ i + k) × (slice_get xs k ≡ Some y) × (t y ≡ true)
found-there t i [] n h = absurd cc
found-there t i (x ∷ xs) n h = found_at t i x xs n (t x) refl h (found-there t (i + 1) xs n)

-- a name stands where its number says
pub name_there : (names : List (List ℕ)) (name : List ℕ) (n : ℕ) → number_of names name ≡ Some n → slice_get names n ≡ Some name
name_there names name n h = told (found-there (bytes_eq name) 0 names n h)
  where
    told : (k : ℕ) × (y : List ℕ) × (n ≡ 0 + k) × (slice_get names k ≡ Some y) × (bytes_eq name y ≡ true) → slice_get names n ≡ Some name
    told (k, y, at, is, passes) =
        let place : n ≡ k = omega arith in
        ap (λ j. slice_get names j) place ∙ is ∙ ap Some (sym ((bytes_decides name y).0 passes))

pub there : (names : List (List ℕ)) (name : List ℕ) (o : Option ℕ) → o ≡ number_of names name → IfSome o (λ n. slice_get names n ≡ Some name)
there names name None e = tt
there names name (Some n) e = name_there names name n (sym e)

-- the number of a new name is how many there were
pub number_of-push : (names : List (List ℕ)) (name : List ℕ) → number_of names name ≡ None → number_of (names ++ name ∷ []) name ≡ Some (length names)
number_of-push names name none =
    missed-push (bytes_eq name) 0 names name none
    ∙ ap (λ b. cond b (Some (0 + length names)) None) ((bytes_decides name name).1 refl)
    ∙ ap Some (let e : 0 + length names ≡ length names = omega arith in e)

-- another name keeps its number, or has none
pub number_of-push_other : (names : List (List ℕ)) (name other : List ℕ) → bytes_eq other name ≡ false → number_of (names ++ name ∷ []) other ≡ number_of names other
number_of-push_other names name other apart = by_number (number_of names other) refl
  where
    by_number : (o : Option ℕ) → number_of names other ≡ o → number_of (names ++ name ∷ []) other ≡ number_of names other
    by_number None e = missed-push (bytes_eq other) 0 names name e ∙ ap (λ b. cond b (Some (0 + length names)) None) apart ∙ sym e
    by_number (Some n) e = found-push (bytes_eq other) 0 names name n e ∙ sym e

-- a key that is a name is found by no other name
apart_in_order : (name other key : List ℕ) → bytes_eq name other ≡ false → is_eq (slice_cmp nat_cmp name key) ≡ true → is_eq (slice_cmp nat_cmp other key) ≡ false
apart_in_order name other key n y =
    let same : bytes_eq name key ≡ true = sym (is_eq-slice_cmp name key) ∙ y in
    is_eq-slice_cmp other key ∙ nat_list_eq_equiv.symm other key ∙ sym (nat_list_eq_equiv.congr name key other same) ∙ n

-- what the map has at another name stays
others_stay : {X : Type 0} (name other : List ℕ) (old new : List (Vec ℕ × X)) → bytes_eq name other ≡ false
    → KeepsOthers (eq_by_cmp (λ (x y : Vec ℕ). slice_cmp nat_cmp x.items y.items)) (λ (k : Vec ℕ). is_eq (slice_cmp nat_cmp name k.items)) old new
    → lookup (λ (k : Vec ℕ). is_eq (slice_cmp nat_cmp other k.items)) new ≡ lookup (λ (k : Vec ℕ). is_eq (slice_cmp nat_cmp other k.items)) old
unfolding KeepsOthers
others_stay name other old new apart h = h _ (λ x y. (eq_by_cmp_equiv nat_list_cmp_total).congr other x.items y.items) (λ k. apart_in_order name other k.items apart)

-- the map with one more name and its number
pub Numbers-push : (names : List (List ℕ)) (key : Vec ℕ) (name : List ℕ) (n : ℕ) (old new : BTreeMap (Vec ℕ) ℕ) → key.items ≡ name → n ≡ length names → number_of names name ≡ None → Numbers names old
    → UpdatesBy (λ (x y : Vec ℕ). slice_cmp nat_cmp x.items y.items) (λ (k : Vec ℕ). slice_cmp nat_cmp key.items k.items) old new (Some n)
    → Numbers (names ++ name ∷ []) new
Numbers-push names key name n old new is last none kept h = record { found = λ q. by_name q (bytes_eq name q) refl }
  where
    by_name : (q : List ℕ) (b : Bool) → bytes_eq name q ≡ b → get_by (λ (k : Vec ℕ). slice_cmp nat_cmp q k.items) new ≡ number_of (names ++ name ∷ []) q
    by_name q true e =
        let same : name ≡ q = (bytes_decides name q).0 e in
        subst (λ m. get_by (λ (k : Vec ℕ). slice_cmp nat_cmp m k.items) new ≡ number_of (names ++ name ∷ []) m) same
        (subst (λ m. get_by (λ (k : Vec ℕ). slice_cmp nat_cmp m k.items) new ≡ Some n) is h.1 ∙ ap Some last ∙ sym (number_of-push names name none))
    by_name q false e =
        let apart : bytes_eq key.items q ≡ false = ap (λ n. bytes_eq n q) is ∙ e in
        let apart_back : bytes_eq q name ≡ false = nat_list_eq_equiv.symm q name ∙ e in
        others_stay key.items q old.entries new.entries apart h.3 ∙ kept.found q ∙ sym (number_of-push_other names name q apart_back)

-- what a call gives that puts a new name
pub number_put : {E : Type 0} (r : Result ℕ E) (old new : List (List ℕ)) (name : List ℕ) → number_of old name ≡ None → IfOk r (λ n. n ≡ length old) → OnOk r (new ≡ old ++ name ∷ []) → IfOk r (λ n. number_of new name ≡ Some n)
number_put (Ok n) old new name none is made = ap (λ names. number_of names name) made ∙ number_of-push old name none ∙ ap Some (sym is)
number_put (Err e) old new name none is made = tt

-- the end of a list has no item
no_end : {A : Type 0} (xs : List A) → slice_get xs (length xs) ≡ None
no_end [] = refl
no_end (x ∷ xs) = no_end xs

-- a name whose number is that of the last place stands nowhere before it
pub number_of-last : (kept : List (List ℕ)) (name : List ℕ) → number_of (kept ++ name ∷ []) name ≡ Some (length kept) → number_of kept name ≡ None
number_of-last kept name h = by_number (number_of kept name) refl
  where
    by_number : (o : Option ℕ) → number_of kept name ≡ o → number_of kept name ≡ None
    by_number None e = e
    by_number (Some n) e =
        let whole : number_of (kept ++ name ∷ []) name ≡ Some n = found-push (bytes_eq name) 0 kept name n e in
        let end : n ≡ length kept = cc in
        let there_ : slice_get kept n ≡ Some name = name_there kept name n e in
        let none : slice_get kept n ≡ None = ap (λ k. slice_get kept k) end ∙ no_end kept in
        absurd cc

-- a name whose number is another stands before the last place
pub number_of-before : (kept : List (List ℕ)) (name : List ℕ) (o : Option ℕ) → number_of (kept ++ name ∷ []) name ≡ o → (o ≡ Some (length kept) → ⊥) → number_of kept name ≡ o
number_of-before kept name o h other = by_number (number_of kept name) refl
  where
    by_number : (p : Option ℕ) → number_of kept name ≡ p → number_of kept name ≡ o
    by_number None e = absurd (other (sym h ∙ number_of-push kept name e))
    by_number (Some n) e = e ∙ sym (found-push (bytes_eq name) 0 kept name n e) ∙ h

-- the map without the last name, where its number is that of the last place
pub Numbers-pop : (names : List (List ℕ)) (kept : List (List ℕ)) (name : List ℕ) (old new : BTreeMap (Vec ℕ) ℕ) → names ≡ kept ++ name ∷ [] → Numbers names old
    → get_by (λ (k : Vec ℕ). slice_cmp nat_cmp name k.items) old ≡ Some (length kept)
    → UpdatesBy (λ (x y : Vec ℕ). slice_cmp nat_cmp x.items y.items) (λ (k : Vec ℕ). slice_cmp nat_cmp name k.items) old new None
    → Numbers kept new
Numbers-pop names kept name old new whole is last h = record { found = λ q. by_name q (bytes_eq name q) refl }
  where
    number : number_of (kept ++ name ∷ []) name ≡ Some (length kept)
    number = sym (ap (λ ns. number_of ns name) whole) ∙ sym (is.found name) ∙ last

    by_name : (q : List ℕ) (b : Bool) → bytes_eq name q ≡ b → get_by (λ (k : Vec ℕ). slice_cmp nat_cmp q k.items) new ≡ number_of kept q
    by_name q true e =
        let same : name ≡ q = (bytes_decides name q).0 e in
        subst (λ m. get_by (λ (k : Vec ℕ). slice_cmp nat_cmp m k.items) new ≡ number_of kept m) same (h.1 ∙ sym (number_of-last kept name number))
    by_name q false e =
        let apart_back : bytes_eq q name ≡ false = nat_list_eq_equiv.symm q name ∙ e in
        others_stay name q old.entries new.entries e h.3 ∙ is.found q ∙ ap (λ ns. number_of ns q) whole ∙ number_of-push_other kept name q apart_back

-- the same map without the last name, where an earlier place has the name too
pub Numbers-pop_other : (names : List (List ℕ)) (kept : List (List ℕ)) (name : List ℕ) (old : BTreeMap (Vec ℕ) ℕ) → names ≡ kept ++ name ∷ [] → Numbers names old
    → (get_by (λ (k : Vec ℕ). slice_cmp nat_cmp name k.items) old ≡ Some (length kept) → ⊥)
    → Numbers kept old
Numbers-pop_other names kept name old whole is other = record { found = λ q. by_name q (bytes_eq name q) refl }
  where
    by_name : (q : List ℕ) (b : Bool) → bytes_eq name q ≡ b → get_by (λ (k : Vec ℕ). slice_cmp nat_cmp q k.items) old ≡ number_of kept q
    by_name q true e =
        let same : name ≡ q = (bytes_decides name q).0 e in
        let number : number_of (kept ++ name ∷ []) name ≡ get_by (λ (k : Vec ℕ). slice_cmp nat_cmp name k.items) old = sym (ap (λ ns. number_of ns name) whole) ∙ sym (is.found name) in
        subst (λ m. get_by (λ (k : Vec ℕ). slice_cmp nat_cmp m k.items) old ≡ number_of kept m) same (sym (number_of-before kept name _ number other))
    by_name q false e =
        let apart_back : bytes_eq q name ≡ false = nat_list_eq_equiv.symm q name ∙ e in
        is.found q ∙ ap (λ ns. number_of ns q) whole ∙ number_of-push_other kept name q apart_back

-- the same map with a name at the end that is there already
pub Numbers-push_again : (names : List (List ℕ)) (name : List ℕ) (n : ℕ) (numbers : BTreeMap (Vec ℕ) ℕ) → number_of names name ≡ Some n → Numbers names numbers → Numbers (names ++ name ∷ []) numbers
Numbers-push_again names name n numbers known is = record { found = λ q. by_name q (bytes_eq name q) refl }
  where
    by_name : (q : List ℕ) (b : Bool) → bytes_eq name q ≡ b → get_by (λ (k : Vec ℕ). slice_cmp nat_cmp q k.items) numbers ≡ number_of (names ++ name ∷ []) q
    by_name q true e =
        let same : name ≡ q = (bytes_decides name q).0 e in
        subst (λ m. get_by (λ (k : Vec ℕ). slice_cmp nat_cmp m k.items) numbers ≡ number_of (names ++ name ∷ []) m) same (is.found name ∙ known ∙ sym (found-push (bytes_eq name) 0 names name n known))
    by_name q false e =
        let apart_back : bytes_eq q name ≡ false = nat_list_eq_equiv.symm q name ∙ e in
        is.found q ∙ sym (number_of-push_other names name q apart_back)
