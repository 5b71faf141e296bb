-- No replacement of macros is cut short: one within another there are at most as many as there are macros.
use Rattle.std.proofs.Common.{◌≡◌, ℕ, zero, suc, ◌+◌, ◌-◌, ◌<◌, ◌≤◌, arith, refl, sym, ap, ap₂, subst, ◌∙◌, cond, Bool, true, false, ◌||◌, List, [], ◌∷◌, ◌++◌, length, map, Option, Some, None, nat_eq}
use Rattle.std.specs.List.{list_any, flat_map, IsDistinct, AllByRecursion}
use Rattle.std.proofs.lemmas.Option.{slice_get_within}
use Rattle.std.proofs.lemmas.Map.Steps.{length-le_from_distinct_below}
use Rattle.std.proofs.lemmas.Bool.{eqb-true}
use Rattle.vf_lexer.specs.declared.token.Token.{Token}
use Rattle.vf_names.specs.Names.{number_of}
use Rattle.vf_names.proofs.Numbering.{name_there}
use Rattle.vf_preproc.specs.Macros.{Table, body, is_name, unless_among, macro_at, in_place, replaced, at_use, expansion}

-- all of these numbers are below a limit, and none stands twice
record AreFew (limit : ℕ) (hidden : List ℕ) : Type 0 where
  distinct : IsDistinct nat_eq hidden
  below : (q : ℕ) → list_any (nat_eq q) hidden ≡ true → q < limit

apart_by : (k y : ℕ) (ys : List ℕ) (b : Bool) → nat_eq k y ≡ b → b || list_any (nat_eq k) ys ≡ false → (list_any (nat_eq k) ys ≡ false → AllByRecursion (λ z. nat_eq k z ≡ false) ys)
    → (nat_eq k y ≡ false) × AllByRecursion (λ z. nat_eq k z ≡ false) ys
apart_by k y ys true is found go = absurd cc
apart_by k y ys false is found go = (is, go found)

apart_from : (k : ℕ) (hidden : List ℕ) → list_any (nat_eq k) hidden ≡ false → AllByRecursion (λ y. nat_eq k y ≡ false) hidden
apart_from k [] h = tt
apart_from k (y ∷ ys) h = apart_by k y ys (nat_eq k y) refl h (apart_from k ys)

-- one more number, which is none of them
few_more : (limit k : ℕ) (hidden : List ℕ) → AreFew limit hidden → list_any (nat_eq k) hidden ≡ false → k < limit → AreFew limit (k ∷ hidden)
unfolding IsDistinct
few_more limit k hidden few apart below = record {
  distinct = (apart_from k hidden apart, few.distinct);
  below = λ q found. by_test q (nat_eq q k) refl found;
}
  where
    by_test : (q : ℕ) (b : Bool) → nat_eq q k ≡ b → b || list_any (nat_eq q) hidden ≡ true → q < limit
    by_test q true is found = let same : q ≡ k = eqb-true q k is in omega arith
    by_test q false is found = few.below q found

-- where as many numbers as can be are hidden, each is
all_hidden : (limit k : ℕ) (hidden : List ℕ) → AreFew limit hidden → limit ≤ length hidden → k < limit → list_any (nat_eq k) hidden ≡ true
all_hidden limit k hidden few full below = by_test (list_any (nat_eq k) hidden) refl
  where
    by_test : (b : Bool) → list_any (nat_eq k) hidden ≡ b → list_any (nat_eq k) hidden ≡ true
    by_test true is = is
    by_test false is =
        let more = few_more limit k hidden few is below in
        let size : length (k ∷ hidden) ≤ limit = length-le_from_distinct_below (k ∷ hidden) limit more.distinct more.below in
        absurd (omega arith)

number_below : (names : List (List ℕ)) (name : List ℕ) (k : ℕ) → number_of names name ≡ Some k → k < length names
number_below names name k h = slice_get_within names k name (name_there names name k h)

-- a macro that replaces a token is none of those that are hidden, and is one of the table
record IsReplacing (table : Table) (hidden : List ℕ) (k : ℕ) : Type 0 where
  apart : list_any (nat_eq k) hidden ≡ false
  below : k < length table.names

replacing_found : (table : Table) (hidden : List ℕ) (o : Option ℕ) (k : ℕ) → ((n : ℕ) → o ≡ Some n → n < length table.names) → unless_among hidden o ≡ Some k → IsReplacing table hidden k
replacing_found table hidden None k within h = absurd cc
replacing_found table hidden (Some n) k within h = by_test (list_any (nat_eq n) hidden) refl h
  where
    by_test : (b : Bool) → list_any (nat_eq n) hidden ≡ b → cond b None (Some n) ≡ Some k → IsReplacing table hidden k
    by_test true is found = absurd cc
    by_test false is found =
        let same : n ≡ k = cc in
        subst (IsReplacing table hidden) same (record { apart = is; below = within n refl })

is_replacing : (table : Table) (hidden : List ℕ) (t : Token) (k : ℕ) → macro_at table hidden t ≡ Some k → IsReplacing table hidden k
is_replacing table hidden t k h = by_name (is_name t) h
  where
    by_name : (b : Bool) → cond b (unless_among hidden (number_of table.names t.text)) None ≡ Some k → IsReplacing table hidden k
    by_name true found = replacing_found table hidden (number_of table.names t.text) k (λ n is. number_below table.names t.text n is) found
    by_name false found = absurd cc

-- where all macros are hidden none replaces a token
none_replaces : (table : Table) (hidden : List ℕ) (t : Token) → AreFew (length table.names) hidden → length table.names ≤ length hidden → macro_at table hidden t ≡ None
none_replaces table hidden t few full = by_number (macro_at table hidden t) refl
  where
    by_number : (o : Option ℕ) → macro_at table hidden t ≡ o → macro_at table hidden t ≡ None
    by_number None is = is
    by_number (Some k) is =
        let found = is_replacing table hidden t k is in
        let hides = all_hidden (length table.names) k hidden few full found.below in
        let no : true ≡ false = sym hides ∙ found.apart in
        absurd cc

-- replacing goes token by token
each_alike : (f g : Token → List Token) → ((t : Token) → f t ≡ g t) → (ts : List Token) → flat_map f ts ≡ flat_map g ts
each_alike f g same [] = refl
each_alike f g same (t ∷ ts) = ap₂ (λ x y. x ++ y) (same t) (each_alike f g same ts)

each_kept : (f : Token → List Token) → ((t : Token) → f t ≡ t ∷ []) → (ts : List Token) → flat_map f ts ≡ ts
each_kept f same [] = refl
each_kept f same (t ∷ ts) = ap₂ (λ x y. x ++ y) (same t) (each_kept f same ts)

alike_in_place : (t : Token) (f g : ℕ → List Token) (o : Option ℕ) → ((k : ℕ) → o ≡ Some k → f k ≡ g k) → in_place o t f ≡ in_place o t g
alike_in_place t f g None same = refl
alike_in_place t f g (Some k) same = same k refl

-- one more level makes no difference, where those that are hidden and the levels are as many as the macros
deeper : (n : ℕ) (table : Table) (hidden : List ℕ) (ts : List Token) → AreFew (length table.names) hidden → length table.names ≤ n + length hidden → replaced (suc n) table hidden ts ≡ replaced n table hidden ts
deeper zero table hidden ts few enough =
    each_kept _ (λ t. ap (λ o. in_place o t (λ k. map (at_use t) (body table k))) (none_replaces table hidden t few (omega arith))) ts
deeper (suc n) table hidden ts few enough =
    each_alike _ _ (λ t. alike_in_place t _ _ (macro_at table hidden t) (λ k is.
    let found = is_replacing table hidden t k is in
    deeper n table (k ∷ hidden) (map (at_use t) (body table k)) (few_more (length table.names) k hidden few found.apart found.below) (omega arith))) ts

none_hidden : (limit : ℕ) → AreFew limit []
unfolding IsDistinct
none_hidden limit = record { distinct = tt; below = λ q found. absurd cc }

by_levels : (n : ℕ) (table : Table) (ts : List Token) → replaced (n + length table.names) table [] ts ≡ expansion table ts
by_levels zero table ts =
    let none : 0 + length table.names ≡ length table.names = omega arith in
    ap (λ m. replaced m table [] ts) none
by_levels (suc n) table ts =
    let one : suc n + length table.names ≡ suc (n + length table.names) = omega arith in
    ap (λ m. replaced m table [] ts) one ∙ deeper (n + length table.names) table [] ts (none_hidden (length table.names)) (omega arith) ∙ by_levels n table ts

pub uncut : (n : ℕ) (table : Table) (ts : List Token) → length table.names ≤ n → replaced n table [] ts ≡ expansion table ts
uncut n table ts enough =
    let levels : n ≡ (n - length table.names) + length table.names = omega arith in
    ap (λ m. replaced m table [] ts) levels ∙ by_levels (n - length table.names) table ts
