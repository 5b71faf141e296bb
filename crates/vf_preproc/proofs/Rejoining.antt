-- What a header that has joined a file leaves to do for a further include of it.
use Rattle.std.proofs.Common.{◌≡◌, ◌<◌, ◌≤◌, ◌⊎◌, inl, inr, ⊎_elim, ℕ, zero, suc, ◌+◌, arith, refl, sym, ap, subst, ◌∙◌, cond, Bool, true, false, not, ◌&&◌, ◌||◌, List, [], ◌∷◌, ◌++◌, length, fold, slice_get, nat_eq, Option, Some, None, is_some, Result, Ok, Err, IsTrue}
use Rattle.std.specs.List.{list_any, position_from}
use Rattle.std.specs.Str.{bytes_eq}
use Rattle.std.specs.Cmp.Lexicographic.{bytes_decides}
use Rattle.std.proofs.lemmas.List.{length-append}
use Rattle.std.proofs.lemmas.List.Folds.{list_any-append}
use Rattle.std.proofs.lemmas.Option.{slice_get_within}
use Rattle.std.proofs.lemmas.Bool.{cases_order, cond-true, eq-eqb}
use Rattle.vf_base.specs.declared.place.Place.{Place}
use Rattle.vf_lexer.specs.declared.token.Token.{Token}
use Rattle.vf_names.specs.Names.{number_of}
use Rattle.vf_names.proofs.Numbering.{found-push, missed-push, name_there, number_of-push}
use Rattle.vf_preproc.specs.declared.join.Join.{Join}
use Rattle.vf_preproc.specs.Macros.{Table, body, body_of, body_found, with_macro}
use Rattle.vf_preproc.specs.Directives.{Fault, ◌>>=◌, defined, is_alike, no_directive}
use Rattle.vf_preproc.specs.UnitText.{Header, Scope, is_among, names_of, with_file, joined, clashes, with_header}
use Rattle.vf_preproc.specs.Joins.{IsEven, AreAmong, AreBelow, IsDefined, AreDefined, AreApart, IsJoined, Defines, no_more, one_more, Grows, serves, is_foreign, stands_in}

-- a number is below another, or it is not
pub order : (a b : ℕ) → (a < b) ⊎ (b ≤ a)
order a b = ⊎_elim (λ same. inr (omega arith)) (λ apart. ⊎_elim (λ less. inl less) (λ more. inr (omega arith)) apart) (cases_order a b)

-- an item at which a test passes is found
passes_at : {A : Type 0} (t : A → Bool) (i : ℕ) (xs : List A) (k : ℕ) (y : A) → slice_get xs k ≡ Some y → t y ≡ true → is_some (position_from t i xs) ≡ true
passes_at t i [] k y at passes = absurd cc
passes_at t i (x ∷ xs) zero y at passes = let same : x ≡ y = cc in rw (same, passes) refl
passes_at t i (x ∷ xs) (suc k) y at passes = by_first (t x) (passes_at t (i + 1) xs k y at passes)
  where
    by_first : (b : Bool) → is_some (position_from t (i + 1) xs) ≡ true → is_some (cond b (Some i) (position_from t (i + 1) xs)) ≡ true
    by_first true h = refl
    by_first false h = h

-- what stands among names has a number
pub among_names : (names : List (List ℕ)) (k : ℕ) (name : List ℕ) → slice_get names k ≡ Some name → is_some (number_of names name) ≡ true
among_names names k name at = passes_at (bytes_eq name) 0 names k name at ((bytes_decides name name).1 refl)

-- what has a number has one
numbered : {A : Type 0} (o : Option A) → is_some o ≡ true → (n : A) × (o ≡ Some n)
numbered None h = absurd cc
numbered (Some n) h = (n, refl)

-- a macro is defined where its name has a number
pub defined_numbered : (table : Table) (o : Option ℕ) → is_some (body_found table o) ≡ is_some o
defined_numbered table None = refl
defined_numbered table (Some n) = refl

any_at : {A : Type 0} (p : A → Bool) (xs : List A) (k : ℕ) (x : A) → slice_get xs k ≡ Some x → p x ≡ true → list_any p xs ≡ true
any_at p [] k x at passes = absurd cc
any_at p (y ∷ ys) zero x at passes = let same : y ≡ x = cc in rw (same, passes) refl
any_at p (y ∷ ys) (suc k) x at passes = by_first (p y) (any_at p ys k x at passes)
  where
    by_first : (b : Bool) → list_any p ys ≡ true → b || list_any p ys ≡ true
    by_first true h = refl
    by_first false h = h

any_none : {A : Type 0} (p : A → Bool) (xs : List A) → ((k : ℕ) (x : A) → slice_get xs k ≡ Some x → p x ≡ false) → list_any p xs ≡ false
any_none p [] none = refl
any_none p (y ∷ ys) none = rw (none 0 y refl) (any_none p ys (λ k x at. none (suc k) x at))

found_later : {A : Type 0} (p : A → Bool) (y : A) (ys : List A) → ((k : ℕ) × (x : A) × (slice_get ys k ≡ Some x) × (p x ≡ true)) → (k : ℕ) × (x : A) × (slice_get (y ∷ ys) k ≡ Some x) × (p x ≡ true)
found_later p y ys (k, x, at, passes) = (suc k, x, at, passes)

found_first : {A : Type 0} (p : A → Bool) (y : A) (ys : List A) (b : Bool) → p y ≡ b → b || list_any p ys ≡ true → (list_any p ys ≡ true → (k : ℕ) × (x : A) × (slice_get ys k ≡ Some x) × (p x ≡ true)) → (k : ℕ) × (x : A) × (slice_get (y ∷ ys) k ≡ Some x) × (p x ≡ true)
found_first p y ys true is h later = (0, y, refl, is)
found_first p y ys false is h later = found_later p y ys (later h)

-- a test that some item passes is passed by one
any_found : {A : Type 0} (p : A → Bool) (xs : List A) → list_any p xs ≡ true → (k : ℕ) × (x : A) × (slice_get xs k ≡ Some x) × (p x ≡ true)
any_found p [] h = absurd cc
any_found p (x ∷ xs) h = found_first p x xs (p x) refl h (any_found p xs)

both : (a b : Bool) → a && b ≡ true → (a ≡ true) × (b ≡ true)
both true true h = (refl, refl)
both true false h = absurd cc
both false b h = absurd cc

-- a macro that would clash with a header does
pub found_clashes : (names : List (List (List ℕ))) (table : Table) (header : Header) (k : ℕ) (name : List ℕ) → slice_get table.names k ≡ Some name → is_foreign names header name ≡ true → clashes names table header ≡ true
found_clashes names table header k name at foreign =
    let parts = both (list_any (stands_in names name) header.files) (not (is_some (body_of header.macros name))) foreign in
    let file = any_found (stands_in names name) header.files parts.0 in
    let has = numbered (number_of (names_of names file.1) name) file.3 in
    let one : is_some (body_of table name) && not (is_some (body_of header.macros name)) ≡ true = rw (defined_numbered table (number_of table.names name), among_names table.names k name at) parts.1 in
    any_at (λ f. list_any (λ x. is_some (body_of table x) && not (is_some (body_of header.macros x))) (names_of names f)) header.files file.0 file.1 file.2
    (any_at (λ x. is_some (body_of table x) && not (is_some (body_of header.macros x))) (names_of names file.1) has.0 name (name_there (names_of names file.1) name has.0 has.1) one)

-- where no macro behind the first few would clash, none does
pub none_clash : (known : ℕ) (names : List (List (List ℕ))) (table : Table) (header : Header) → AreApart known names table header → ((k : ℕ) (name : List ℕ) → known ≤ k → k < length table.names → slice_get table.names k ≡ Some name → is_foreign names header name ≡ false)
    → clashes names table header ≡ false
none_clash known names table header apart none = any_none (λ f. list_any (λ x. is_some (body_of table x) && not (is_some (body_of header.macros x))) (names_of names f)) header.files
    (λ j f there. any_none (λ x. is_some (body_of table x) && not (is_some (body_of header.macros x))) (names_of names f) (each j f there))
  where
    late : (a b c : Bool) → a ≡ true → a && b ≡ false → c && b ≡ false
    late true true c is h = absurd cc
    late true false true is h = refl
    late true false false is h = refl
    late false b c is h = absurd cc

    each : (j f : ℕ) → slice_get header.files j ≡ Some f → (k : ℕ) (x : List ℕ) → slice_get (names_of names f) k ≡ Some x → is_some (body_of table x) && not (is_some (body_of header.macros x)) ≡ false
    each j f there k x at = by_number (number_of table.names x) refl
      where
        apart_at : (i : ℕ) → slice_get table.names i ≡ Some x → is_foreign names header x ≡ false
        apart_at i is = ⊎_elim (λ early. apart i x early is) (λ behind. none i x behind (slice_get_within table.names i x is) is) (order i known)

        by_number : (o : Option ℕ) → number_of table.names x ≡ o → is_some (body_of table x) && not (is_some (body_of header.macros x)) ≡ false
        by_number None is = rw (defined_numbered table (number_of table.names x), is) refl
        by_number (Some i) is = late (list_any (stands_in names x) header.files) (not (is_some (body_of header.macros x))) (is_some (body_of table x))
            (any_at (stands_in names x) header.files j f there (among_names (names_of names f) k x at))
            (apart_at i (name_there table.names x i is))

-- where nothing clashes, no macro would
pub not_foreign : (names : List (List (List ℕ))) (table : Table) (header : Header) (x : List ℕ) → clashes names table header ≡ false → is_some (number_of table.names x) ≡ true → is_foreign names header x ≡ false
not_foreign names table header x none there = by_test (is_foreign names header x) refl
  where
    by_test : (b : Bool) → is_foreign names header x ≡ b → is_foreign names header x ≡ false
    by_test false is = is
    by_test true is =
        let n = numbered (number_of table.names x) there in
        let found = found_clashes names table header n.0 x (name_there table.names x n.0 n.1) is in
        absurd cc

pub defines_then : (t u v : Table) → Defines t u → Defines u v → Defines t v
defines_then t u v (no_more x) d = d
defines_then t u v (one_more x y name tokens new more) d = one_more t v name tokens new (defines_then (with_macro t name tokens) u v more d)

pub even_more : (t : Table) (name : List ℕ) (tokens : List Token) → IsEven t → IsEven (with_macro t name tokens)
even_more t name tokens even = length-append t.names (name ∷ []) ∙ ap (λ n. n + 1) even ∙ sym (length-append t.bodies (tokens ∷ []))

pub defines_even : (t u : Table) → Defines t u → IsEven t → IsEven u
defines_even t u (no_more x) even = even
defines_even t u (one_more x y name tokens new more) even = defines_even (with_macro t name tokens) u more (even_more t name tokens even)

pub defines_size : (t u : Table) → Defines t u → length t.names ≤ length u.names
defines_size t u (no_more x) = omega arith
defines_size t u (one_more x y name tokens new more) =
    let size = length-append t.names (name ∷ []) in
    let rest = defines_size (with_macro t name tokens) u more in
    omega arith

-- an item stays where it stands when one more comes
stays_at : {A : Type 0} (xs : List A) (z : A) (k : ℕ) → k < length xs → slice_get (xs ++ z ∷ []) k ≡ slice_get xs k
stays_at [] z k within = absurd (omega arith)
stays_at (x ∷ xs) z zero within = refl
stays_at (x ∷ xs) z (suc k) within = stays_at xs z k (omega arith)

-- a macro keeps its tokens
body_stays : (t : Table) (name x : List ℕ) (tokens old : List Token) → IsEven t → body_of t x ≡ Some old → body_of (with_macro t name tokens) x ≡ Some old
body_stays t name x tokens old even has = by_number (number_of t.names x) refl has
  where
    by_number : (o : Option ℕ) → number_of t.names x ≡ o → body_found t o ≡ Some old → body_of (with_macro t name tokens) x ≡ Some old
    by_number None is h = absurd cc
    by_number (Some n) is h =
        let within : n < length t.bodies = subst (λ m. n < m) even (slice_get_within t.names n x (name_there t.names x n is)) in
        rw (found-push (bytes_eq x) 0 t.names name n is, stays_at t.bodies tokens n within) h

pub defined_more : (t : Table) (name : List ℕ) (tokens : List Token) → IsEven t → (names : List (List ℕ)) (bodies : List (List Token)) → AreDefined t names bodies → AreDefined (with_macro t name tokens) names bodies
defined_more t name tokens even [] bodies h = tt
defined_more t name tokens even (x ∷ xs) [] h = tt
defined_more t name tokens even (x ∷ xs) (b ∷ bs) h = (
  record { old = h.0.old; has = body_stays t name x tokens h.0.old even h.0.has; alike = h.0.alike },
  defined_more t name tokens even xs bs h.1,
)

pub defines_defined : (t u : Table) → Defines t u → IsEven t → (names : List (List ℕ)) (bodies : List (List Token)) → AreDefined t names bodies → AreDefined u names bodies
defines_defined t u (no_more x) even names bodies h = h
defines_defined t u (one_more x y name tokens new more) even names bodies h =
    defines_defined (with_macro t name tokens) u more (even_more t name tokens even) names bodies (defined_more t name tokens even names bodies h)

-- a macro keeps its number
defines_stay : (t u : Table) → Defines t u → (i : ℕ) → i < length t.names → slice_get u.names i ≡ slice_get t.names i
defines_stay t u (no_more x) i within = refl
defines_stay t u (one_more x y name tokens new more) i within =
    let size = length-append t.names (name ∷ []) in
    defines_stay (with_macro t name tokens) u more i (omega arith) ∙ stays_at t.names name i within

pub defines_apart : (known : ℕ) (names : List (List (List ℕ))) (t u : Table) (header : Header) → Defines t u → known ≤ length t.names → AreApart known names t header → AreApart known names u header
defines_apart known names t u header d few apart = λ i x below at. apart i x below (sym (defines_stay t u d i (omega arith)) ∙ at)

-- where one more file is begun, the names of the others stay
other_names : (names : List (List (List ℕ))) (own : List (List ℕ)) (x : List ℕ) (files : List ℕ) → AreBelow (length names) files → list_any (stands_in (names ++ own ∷ []) x) files ≡ list_any (stands_in names x) files
other_names names own x [] below = refl
other_names names own x (f ∷ fs) below =
    rw (stays_at names own f below.0) (ap (λ b. stands_in names x f || b) (other_names names own x fs below.1))

pub apart_begun : (known : ℕ) (names : List (List (List ℕ))) (own : List (List ℕ)) (table : Table) (header : Header) → AreBelow (length names) header.files → AreApart known names table header → AreApart known (names ++ own ∷ []) table header
apart_begun known names own table header below apart = λ i x few at. ap (λ b. b && not (is_some (body_of header.macros x))) (other_names names own x header.files below) ∙ apart i x few at

-- files that are all there change nothing when they come
files_same : (files others : List ℕ) → AreAmong files others → fold with_file files others ≡ files
files_same files [] h = refl
files_same files (x ∷ xs) h = ap (λ fs. fold with_file fs xs) (cond-true (is_among files x) files (files ++ x ∷ []) h.0) ∙ files_same files xs h.1

-- a file that is there stays there
file_stays : (files : List ℕ) (x f : ℕ) → IsTrue (is_among files f) → IsTrue (is_among (with_file files x) f)
file_stays files x f there = by_test (is_among files x)
  where
    by_test : (b : Bool) → IsTrue (is_among (cond b files (files ++ x ∷ [])) f)
    by_test true = there
    by_test false = list_any-append (nat_eq f) files (x ∷ []) ∙ ap (λ b. b || is_among (x ∷ []) f) there

files_stay : (files others : List ℕ) (f : ℕ) → IsTrue (is_among files f) → IsTrue (is_among (fold with_file files others) f)
files_stay files [] f there = there
files_stay files (x ∷ xs) f there = files_stay (with_file files x) xs f (file_stays files x f there)

-- a file that came is there
file_there : (files : List ℕ) (x : ℕ) → IsTrue (is_among (with_file files x) x)
file_there files x = by_test (is_among files x) refl
  where
    or_true : (a : Bool) → a || (true || false) ≡ true
    or_true true = refl
    or_true false = refl

    by_test : (b : Bool) → is_among files x ≡ b → IsTrue (is_among (cond b files (files ++ x ∷ [])) x)
    by_test true is = is
    by_test false is = list_any-append (nat_eq x) files (x ∷ []) ∙ ap (λ b. is_among files x || (b || false)) (eq-eqb x x refl) ∙ or_true (is_among files x)

files_there : (files others : List ℕ) → AreAmong (fold with_file files others) others
files_there files [] = tt
files_there files (x ∷ xs) = (files_stay (with_file files x) xs x (file_there files x), files_there (with_file files x) xs)

-- files that come are no others than theirs
file_below : (n : ℕ) (files : List ℕ) (x : ℕ) → AreBelow n files → x < n → AreBelow n (with_file files x)
file_below n files x below is = by_test (is_among files x)
  where
    more : (fs : List ℕ) → AreBelow n fs → AreBelow n (fs ++ x ∷ [])
    more [] h = (is, tt)
    more (f ∷ fs) h = (h.0, more fs h.1)

    by_test : (b : Bool) → AreBelow n (cond b files (files ++ x ∷ []))
    by_test true = below
    by_test false = more files below

files_below : (n : ℕ) (files others : List ℕ) → AreBelow n files → AreBelow n others → AreBelow n (fold with_file files others)
files_below n files [] below h = below
files_below n files (x ∷ xs) below h = files_below n (with_file files x) xs (file_below n files x below h.0) h.1

-- macros that are all defined alike change nothing when they join
joined_same : (hash : Place) (table : Table) (names : List (List ℕ)) (bodies : List (List Token)) → AreDefined table names bodies → joined hash table names bodies ≡ Ok table
joined_same hash table [] bodies h = refl
joined_same hash table (x ∷ xs) [] h = refl
joined_same hash table (x ∷ xs) (b ∷ bs) h = rw (h.0.has, h.0.alike) (joined_same hash table xs bs h.1)

-- a further include of a header that has joined changes nothing, where nothing clashes
pub again_same : (ghost : Bool) (hash : Place) (join : Join) (names : List (List (List ℕ))) (header : Header) (scope : Scope) → IsJoined join names header scope → serves join ghost ≡ true → clashes names scope.macros header ≡ false → with_header ghost hash names header scope ≡ Ok scope
again_same ghost hash join names header scope j serves apart = rw apart (by_mark ghost serves)
  where
    plain : (b : Bool) → false || not b ≡ true → b ≡ false
    plain true h = absurd cc
    plain false h = refl

    by_mark : (g : Bool) → g || not join.is_ghost ≡ true → cond g (Ok (record scope { files = fold with_file scope.files header.files })) (joined hash scope.macros header.macros.names header.macros.bodies >>= λ table. Ok (record scope { macros = table; files = fold with_file scope.files header.files })) ≡ Ok scope
    by_mark true h = ap (λ fs. Ok (record scope { files = fs })) (files_same scope.files header.files j.among)
    by_mark false h = rw (joined_same hash scope.macros header.macros.names header.macros.bodies (j.defined (plain join.is_ghost h)), files_same scope.files header.files j.among) refl

pub grows_then : (a b c : Scope) → Grows a b → Grows b c → Grows a c
grows_then a b c g h = record { files = λ f there. h.files f (g.files f there); macros = defines_then a.macros b.macros c.macros g.macros h.macros }

-- what stays as it was grew
pub stays_grown : (s : Scope) → Grows s s
stays_grown s = record { files = λ f there. there; macros = no_more s.macros }

among_more : (old new : Scope) → Grows old new → (others : List ℕ) → AreAmong old.files others → AreAmong new.files others
among_more old new g [] h = tt
among_more old new g (x ∷ xs) h = (g.files x h.0, among_more old new g xs h.1)

-- a header that has joined a file has joined it when more of the file was followed
pub joined_grown : (join : Join) (names : List (List (List ℕ))) (header : Header) (old new : Scope) → Grows old new → IsEven old.macros → join.known ≤ length old.macros.names → IsJoined join names header old → IsJoined join names header new
joined_grown join names header old new g even few j = record {
  among = among_more old new g header.files j.among;
  defined = λ plain. defines_defined old.macros new.macros g.macros even header.macros.names header.macros.bodies (j.defined plain);
  apart = defines_apart join.known names old.macros new.macros header g.macros few j.apart;
}

-- and when one more file was begun
pub joined_begun : (join : Join) (names : List (List (List ℕ))) (own : List (List ℕ)) (header : Header) (scope : Scope) → AreBelow (length names) header.files → IsJoined join names header scope → IsJoined join (names ++ own ∷ []) header scope
joined_begun join names own header scope below j = record { among = j.among; defined = j.defined; apart = apart_begun join.known names own scope.macros header below j.apart }

-- going on with a value gave one
bound : {A B : Type 0} (r : Result A Fault) (f : A → Result B Fault) (b : B) → r >>= f ≡ Ok b → (a : A) × (r ≡ Ok a) × (f a ≡ Ok b)
bound (Ok a) f b h = (a, refl, h)
bound (Err e) f b h = absurd cc

-- a macro that is defined
pub defined_defines : (place : Place) (name : List ℕ) (tokens : List Token) (table new : Table) → defined place name tokens table (body_of table name) ≡ Ok new → Defines table new
defined_defines place name tokens table new h = by_number (number_of table.names name) refl h
  where
    by_alike : (b : Bool) → cond b (Ok table) (no_directive place) ≡ Ok new → Defines table new
    by_alike true e = let is : table ≡ new = cc in subst (λ t. Defines table t) is (no_more table)
    by_alike false e = absurd cc

    by_number : (o : Option ℕ) → number_of table.names name ≡ o → defined place name tokens table (body_found table o) ≡ Ok new → Defines table new
    by_number None is e = let made : with_macro table name tokens ≡ new = cc in subst (λ t. Defines table t) made (one_more table (with_macro table name tokens) name tokens is (no_more (with_macro table name tokens)))
    by_number (Some n) is e = by_alike (is_alike (body table n) tokens) e

-- it has tokens that look like these
is_alike_self : (tokens : List Token) → is_alike tokens tokens ≡ true
is_alike_self [] = refl
is_alike_self (t ∷ ts) = rw ((bytes_decides t.text t.text).1 refl) (is_alike_self ts)

-- the item behind a list
at_end : {A : Type 0} (xs : List A) (z : A) → slice_get (xs ++ z ∷ []) (length xs) ≡ Some z
at_end [] z = refl
at_end (x ∷ xs) z = at_end xs z

new_is : (table : Table) (name : List ℕ) (tokens : List Token) → IsEven table → number_of table.names name ≡ None → body_of (with_macro table name tokens) name ≡ Some tokens
new_is table name tokens even none =
    let size : length table.names ≡ length table.bodies = even in
    rw (number_of-push table.names name none, size, at_end table.bodies tokens) refl

pub defined_is : (place : Place) (name : List ℕ) (tokens : List Token) (table new : Table) → IsEven table → defined place name tokens table (body_of table name) ≡ Ok new → IsDefined new name tokens
defined_is place name tokens table new even h = by_number (number_of table.names name) refl h
  where
    by_alike : (n : ℕ) → number_of table.names name ≡ Some n → (b : Bool) → is_alike (body table n) tokens ≡ b → cond b (Ok table) (no_directive place) ≡ Ok new → IsDefined new name tokens
    by_alike n is true alike e = let kept : table ≡ new = cc in subst (λ t. IsDefined t name tokens) kept (record { old = body table n; has = ap (body_found table) is; alike = alike })
    by_alike n is false alike e = absurd cc

    by_number : (o : Option ℕ) → number_of table.names name ≡ o → defined place name tokens table (body_found table o) ≡ Ok new → IsDefined new name tokens
    by_number None is e =
        let made : with_macro table name tokens ≡ new = cc in
        subst (λ t. IsDefined t name tokens) made (record { old = tokens; has = new_is table name tokens even is; alike = is_alike_self tokens })
    by_number (Some n) is e = by_alike n is (is_alike (body table n) tokens) refl e

-- macros that join
pub joined_defines : (hash : Place) (table new : Table) (names : List (List ℕ)) (bodies : List (List Token)) → joined hash table names bodies ≡ Ok new → Defines table new
joined_defines hash table new [] bodies h = let is : table ≡ new = cc in subst (λ t. Defines table t) is (no_more table)
joined_defines hash table new (x ∷ xs) [] h = let is : table ≡ new = cc in subst (λ t. Defines table t) is (no_more table)
joined_defines hash table new (x ∷ xs) (b ∷ bs) h =
    let first = bound (defined hash x b table (body_of table x)) (λ t. joined hash t xs bs) new h in
    defines_then table first.0 new (defined_defines hash x b table first.0 first.1) (joined_defines hash first.0 new xs bs first.2)

pub joined_are : (hash : Place) (table new : Table) (names : List (List ℕ)) (bodies : List (List Token)) → IsEven table → joined hash table names bodies ≡ Ok new → AreDefined new names bodies
joined_are hash table new [] bodies even h = tt
joined_are hash table new (x ∷ xs) [] even h = tt
joined_are hash table new (x ∷ xs) (b ∷ bs) even h =
    let first = bound (defined hash x b table (body_of table x)) (λ t. joined hash t xs bs) new h in
    let more = defines_even table first.0 (defined_defines hash x b table first.0 first.1) even in
    let is = defined_is hash x b table first.0 even first.1 in
    let rest = joined_defines hash first.0 new xs bs first.2 in
    ((defines_defined first.0 new rest more (x ∷ []) (b ∷ []) (is, tt)).0, joined_are hash first.0 new xs bs more first.2)

-- a name of a table that some macros made larger was there, or is one of theirs
pub joined_from : (hash : Place) (table new : Table) (names : List (List ℕ)) (bodies : List (List Token)) → joined hash table names bodies ≡ Ok new → (x : List ℕ) → is_some (number_of new.names x) ≡ true → (is_some (number_of table.names x) ≡ true) ⊎ (is_some (number_of names x) ≡ true)
joined_from hash table new [] bodies h x there = let is : table ≡ new = cc in inl (subst (λ (t : Table). is_some (number_of t.names x) ≡ true) (sym is) there)
joined_from hash table new (y ∷ ys) [] h x there = let is : table ≡ new = cc in inl (subst (λ (t : Table). is_some (number_of t.names x) ≡ true) (sym is) there)
joined_from hash table new (y ∷ ys) (b ∷ bs) h x there =
    let first = bound (defined hash y b table (body_of table y)) (λ t. joined hash t ys bs) new h in
    ⊎_elim (λ came. from_first first.0 first.1 came) (λ behind. inr (later behind)) (joined_from hash first.0 new ys bs first.2 x there)
  where
    later : is_some (number_of ys x) ≡ true → is_some (number_of (y ∷ ys) x) ≡ true
    later at = let n = numbered (number_of ys x) at in among_names (y ∷ ys) (suc n.0) x (name_there ys x n.0 n.1)

    by_same : (b : Bool) → bytes_eq x y ≡ b → is_some (cond b (Some (0 + length table.names)) None) ≡ true → is_some (number_of (y ∷ ys) x) ≡ true
    by_same true alike e = rw alike refl
    by_same false alike e = absurd cc

    in_table : (o : Option ℕ) → number_of table.names x ≡ o → is_some (number_of (table.names ++ y ∷ []) x) ≡ true → (is_some (number_of table.names x) ≡ true) ⊎ (is_some (number_of (y ∷ ys) x) ≡ true)
    in_table (Some n) is e = inl (rw is refl)
    in_table None is e = inr (by_same (bytes_eq x y) refl (ap is_some (sym (missed-push (bytes_eq x) 0 table.names y is)) ∙ e))

    by_alike : (t : Table) (b : Bool) → cond b (Ok table) (no_directive hash) ≡ Ok t → is_some (number_of t.names x) ≡ true → is_some (number_of table.names x) ≡ true
    by_alike t true e came = let is : table ≡ t = cc in subst (λ (u : Table). is_some (number_of u.names x) ≡ true) (sym is) came
    by_alike t false e came = absurd cc

    from_defined : (t : Table) (o : Option ℕ) → defined hash y b table (body_found table o) ≡ Ok t → is_some (number_of t.names x) ≡ true → (is_some (number_of table.names x) ≡ true) ⊎ (is_some (number_of (y ∷ ys) x) ≡ true)
    from_defined t None e came = let made : with_macro table y b ≡ t = cc in in_table (number_of table.names x) refl (subst (λ (u : Table). is_some (number_of u.names x) ≡ true) (sym made) came)
    from_defined t (Some n) e came = inl (by_alike t (is_alike (body table n) b) e came)

    from_first : (t : Table) → defined hash y b table (body_of table y) ≡ Ok t → is_some (number_of t.names x) ≡ true → (is_some (number_of table.names x) ≡ true) ⊎ (is_some (number_of (y ∷ ys) x) ≡ true)
    from_first t e came = from_defined t (number_of table.names y) e came

-- what the include of a header makes of a file
pub record Joins (ghost : Bool) (hash : Place) (names : List (List (List ℕ))) (header : Header) (scope new : Scope) : Type 0 where
  pub apart : clashes names scope.macros header ≡ false
  pub files : new.files ≡ fold with_file scope.files header.files
  pub groups : new.groups ≡ scope.groups
  pub macros : ((ghost ≡ true) × (new.macros ≡ scope.macros)) ⊎ ((ghost ≡ false) × (joined hash scope.macros header.macros.names header.macros.bodies ≡ Ok new.macros))

pub with_header_joins : (ghost : Bool) (hash : Place) (names : List (List (List ℕ))) (header : Header) (scope new : Scope) → with_header ghost hash names header scope ≡ Ok new → Joins ghost hash names header scope new
with_header_joins ghost hash names header scope new h = by_clash (clashes names scope.macros header) refl h
  where
    grown : Scope
    grown = record scope { files = fold with_file scope.files header.files }

    by_mark : clashes names scope.macros header ≡ false → (g : Bool) → cond g (Ok grown) (joined hash scope.macros header.macros.names header.macros.bodies >>= λ table. Ok (record grown { macros = table })) ≡ Ok new → Joins g hash names header scope new
    by_mark apart true e = let is : grown ≡ new = cc in subst (Joins true hash names header scope) is (record { apart = apart; files = refl; groups = refl; macros = inl (refl, refl) })
    by_mark apart false e =
        let b = bound (joined hash scope.macros header.macros.names header.macros.bodies) (λ table. Ok (record grown { macros = table })) new e in
        let is : record grown { macros = b.0 } ≡ new = cc in
        subst (Joins false hash names header scope) is (record { apart = apart; files = refl; groups = refl; macros = inr (refl, b.1) })

    by_clash : (b : Bool) → clashes names scope.macros header ≡ b → cond b (no_directive hash) (cond ghost (Ok grown) (joined hash scope.macros header.macros.names header.macros.bodies >>= λ table. Ok (record grown { macros = table }))) ≡ Ok new → Joins ghost hash names header scope new
    by_clash true is e = absurd cc
    by_clash false is e = by_mark is ghost e

-- a file only grows by the include of a header
pub joins_grow : (ghost : Bool) (hash : Place) (names : List (List (List ℕ))) (header : Header) (scope new : Scope) → Joins ghost hash names header scope new → Grows scope new
joins_grow ghost hash names header scope new j = record {
  files = λ f there. subst (λ fs. IsTrue (is_among fs f)) (sym j.files) (files_stay scope.files header.files f there);
  macros = ⊎_elim (λ kept. subst (Defines scope.macros) (sym kept.1) (no_more scope.macros)) (λ came. joined_defines hash scope.macros new.macros header.macros.names header.macros.bodies came.1) j.macros;
}

-- and it consists of files that were begun, as the header does
pub joins_below : (n : ℕ) (ghost : Bool) (hash : Place) (names : List (List (List ℕ))) (header : Header) (scope new : Scope) → Joins ghost hash names header scope new → AreBelow n scope.files → AreBelow n header.files → AreBelow n new.files
joins_below n ghost hash names header scope new j below h = subst (AreBelow n) (sym j.files) (files_below n scope.files header.files below h)

-- behind an include the header has joined
pub joins_joined : (join : Join) (hash : Place) (names : List (List (List ℕ))) (header : Header) (scope new : Scope) → IsEven scope.macros → Joins join.is_ghost hash names header scope new → IsJoined join names header new
joins_joined join hash names header scope new even j = record {
  among = subst (λ fs. AreAmong fs header.files) (sym j.files) (files_there scope.files header.files);
  defined = λ plain. ⊎_elim (λ kept. absurd (clash_marks kept.0 plain)) (λ came. joined_are hash scope.macros new.macros header.macros.names header.macros.bodies even came.1) j.macros;
  apart = λ i x below at. one_apart i x at;
}
  where
    clash_marks : {b : Bool} → b ≡ true → b ≡ false → ⊥
    clash_marks is isnt = absurd cc

    own : (a b : Bool) → b ≡ true → a && not b ≡ false
    own true true is = refl
    own false true is = refl
    own a false is = absurd cc

    came_from : (x : List ℕ) → is_some (number_of new.macros.names x) ≡ true → (is_some (number_of scope.macros.names x) ≡ true) ⊎ (is_some (number_of header.macros.names x) ≡ true)
    came_from x there = ⊎_elim (λ kept. inl (subst (λ (t : Table). is_some (number_of t.names x) ≡ true) kept.1 there)) (λ came. joined_from hash scope.macros new.macros header.macros.names header.macros.bodies came.1 x there) j.macros

    one_apart : (i : ℕ) (x : List ℕ) → slice_get new.macros.names i ≡ Some x → is_foreign names header x ≡ false
    one_apart i x at = ⊎_elim
        (λ before. not_foreign names scope.macros header x j.apart before)
        (λ came. own (list_any (stands_in names x) header.files) (is_some (body_of header.macros x)) (defined_numbered header.macros (number_of header.macros.names x) ∙ came))
        (came_from x (among_names new.macros.names i x at))

-- what is to be remembered behind a further include
pub again_joined : (ghost : Bool) (hash : Place) (join : Join) (names : List (List (List ℕ))) (header : Header) (scope : Scope) (size : ℕ) → IsEven scope.macros → IsJoined join names header scope → with_header ghost hash names header scope ≡ Ok scope → IsJoined (record { known = size; is_ghost = join.is_ghost }) names header scope
again_joined ghost hash join names header scope size even j h =
    let new = joins_joined (record { known = size; is_ghost = ghost }) hash names header scope scope even (with_header_joins ghost hash names header scope scope h) in
    record { among = j.among; defined = j.defined; apart = new.apart }

pub with_joined : (ghost : Bool) (hash : Place) (names : List (List (List ℕ))) (header : Header) (scope new : Scope) (size : ℕ) → IsEven scope.macros → with_header ghost hash names header scope ≡ Ok new → IsJoined (record { known = size; is_ghost = ghost }) names header new
with_joined ghost hash names header scope new size even h = joins_joined (record { known = size; is_ghost = ghost }) hash names header scope new even (with_header_joins ghost hash names header scope new h)
