-- Lists that stand beside names: with one more behind them, and with one changed.
use Rattle.std.proofs.Common.{◌≡◌, ℕ, zero, suc, ◌+◌, ◌≤◌, Bool, true, false, cond, if◌then◌else◌, List, [], ◌∷◌, ◌++◌, length, Option, Some, None, slice_get, refl, sym, ap, ◌∙◌, arith}
use Rattle.std.specs.List.{position_from}
use Rattle.std.specs.Option.{option_map, option_or}
use Rattle.std.specs.Str.{bytes_eq}
use Rattle.std.specs.Cmp.Lexicographic.{bytes_decides}
use Rattle.std.proofs.lemmas.Bool.{false≢true}
use Rattle.vf_names.specs.Names.{number_of}
use Rattle.vf_declared.specs.Scopes.{at_index, at_name}
use Rattle.vf_declared.specs.Writing.{changed, changed_at}

pub longer : {A : Type 0} {n : ℕ} → suc n ≡ 0 → A
longer {n = n} e = absurd (no n e)
  where
    no : (n : ℕ) → suc n ≡ 0 → ⊥
    no n e = grind (arith, e)

pub as_long : {A B : Type 0} (x : A) (xs : List A) (y : B) (ys : List B) → length (x ∷ xs) ≡ length (y ∷ ys) → length xs ≡ length ys
as_long x xs y ys e = grind (arith, e)

pub some_same : {A : Type 0} {a b : A} → ◌≡◌ {A = Option A} (Some a) (Some b) → a ≡ b
some_same h = cc

pub none_some : {A B : Type 0} {a : A} → ◌≡◌ {A = Option A} None (Some a) → B
none_some h = absurd cc

pub is_name : (x y : List ℕ) → bytes_eq x y ≡ true → x ≡ y
is_name x y h = (bytes_decides x y).0 h

-- ---- by the place of a name
-- the item beside the first of some names that is a name
abbrev pub standing : {A : Type 0} → List (List ℕ) → List A → List ℕ → Option A
standing (y ∷ ys) (a ∷ zs) x = if bytes_eq x y then Some a else standing ys zs x
standing ys zs x = None

-- counted from one more a place is one further on
shifted : {A : Type 0} (t : A → Bool) (i : ℕ) (xs : List A) → position_from t (i + 1) xs ≡ option_map suc (position_from t i xs)
shifted t i [] = refl
shifted t i (x ∷ xs) = by_test (t x) (shifted t (i + 1) xs)
  where
    by_test : (b : Bool) → position_from t (i + 1 + 1) xs ≡ option_map suc (position_from t (i + 1) xs) → cond b (Some (i + 1)) (position_from t (i + 1 + 1) xs) ≡ option_map suc (cond b (Some i) (position_from t (i + 1) xs))
    by_test true h = ap Some (let e : i + 1 ≡ suc i = omega arith in e)
    by_test false h = h

none_at : {A : Type 0} (o : Option ℕ) → at_index {A = A} [] o ≡ None
none_at None = refl
none_at (Some n) = refl

behind_at : {A : Type 0} (a : A) (zs : List A) (o : Option ℕ) → at_index (a ∷ zs) (option_map suc o) ≡ at_index zs o
behind_at a zs None = refl
behind_at a zs (Some n) = refl

pub at_standing : {A : Type 0} (ys : List (List ℕ)) (zs : List A) (x : List ℕ) → at_name ys zs x ≡ standing ys zs x
at_standing [] zs x = refl
at_standing (y ∷ ys) [] x = none_at (number_of (y ∷ ys) x)
at_standing (y ∷ ys) (a ∷ zs) x = by_test (bytes_eq x y) (at_standing ys zs x)
  where
    by_test : (b : Bool) → at_name ys zs x ≡ standing ys zs x → at_index (a ∷ zs) (cond b (Some 0) (position_from (bytes_eq x) 1 ys)) ≡ if b then Some a else standing ys zs x
    by_test true h = refl
    by_test false h = ap (at_index (a ∷ zs)) (shifted (bytes_eq x) 0 ys) ∙ behind_at a zs (number_of ys x) ∙ h

-- ---- one more behind them
or_choice : {A : Type 0} (b : Bool) (a : A) (o p q : Option A) → o ≡ option_or p q → (if b then Some a else o) ≡ option_or (if b then Some a else p) q
or_choice true a o p q e = refl
or_choice false a o p q e = e

standing_behind : {A : Type 0} (ys : List (List ℕ)) (zs : List A) (x : List ℕ) (a : A) (y : List ℕ) → length ys ≡ length zs → standing (ys ++ x ∷ []) (zs ++ a ∷ []) y ≡ option_or (standing ys zs y) (if bytes_eq y x then Some a else None)
standing_behind [] [] x a y e = refl
standing_behind [] (b ∷ zs) x a y e = longer (sym e)
standing_behind (z ∷ ys) [] x a y e = longer e
standing_behind (z ∷ ys) (b ∷ zs) x a y e = or_choice (bytes_eq y z) b _ _ _ (standing_behind ys zs x a y (as_long z ys b zs e))

pub at_behind : {A : Type 0} (ys : List (List ℕ)) (zs : List A) (x : List ℕ) (a : A) (y : List ℕ) → length ys ≡ length zs → at_name (ys ++ x ∷ []) (zs ++ a ∷ []) y ≡ option_or (at_name ys zs y) (if bytes_eq y x then Some a else None)
at_behind ys zs x a y e = at_standing (ys ++ x ∷ []) (zs ++ a ∷ []) y ∙ standing_behind ys zs x a y e ∙ ap (λ o. option_or o (if bytes_eq y x then Some a else None)) (sym (at_standing ys zs y))

position_behind : {A : Type 0} (t : A → Bool) (i : ℕ) (xs : List A) (x : A) → position_from t i (xs ++ x ∷ []) ≡ option_or (position_from t i xs) (cond (t x) (Some (i + length xs)) None)
position_behind t i [] x = ap (λ n. cond (t x) (Some n) None) (let e : i ≡ i + 0 = omega arith in e)
position_behind {A} t i (z ∷ xs) x = by_test (t z) (position_behind t (i + 1) xs x)
  where
    counted : i + 1 + length xs ≡ i + suc (length xs)
    counted = omega arith

    by_test : (b : Bool) → position_from t (i + 1) (xs ++ x ∷ []) ≡ option_or (position_from t (i + 1) xs) (cond (t x) (Some (i + 1 + length xs)) None) → cond b (Some i) (position_from t (i + 1) (xs ++ x ∷ [])) ≡ option_or (cond b (Some i) (position_from t (i + 1) xs)) (cond (t x) (Some (i + suc (length xs))) None)
    by_test true h = refl
    by_test false h = h ∙ ap (λ n. option_or (position_from t (i + 1) xs) (cond (t x) (Some n) None)) counted

pub number_behind : (ys : List (List ℕ)) (x y : List ℕ) → number_of (ys ++ x ∷ []) y ≡ option_or (number_of ys y) (if bytes_eq y x then Some (length ys) else None)
number_behind ys x y = position_behind (bytes_eq y) 0 ys x ∙ ap (λ n. option_or (number_of ys y) (cond (bytes_eq y x) (Some n) None)) (let e : 0 + length ys ≡ length ys = omega arith in e)

-- ---- a number is that of one name
position_past : {A : Type 0} (t : A → Bool) (i n : ℕ) (xs : List A) → position_from t i xs ≡ Some n → i ≤ n
position_past t i n [] e = none_some e
position_past t i n (x ∷ xs) e = by_test (t x) e (position_past t (i + 1) n xs)
  where
    by_test : (b : Bool) → cond b (Some i) (position_from t (i + 1) xs) ≡ Some n → (position_from t (i + 1) xs ≡ Some n → i + 1 ≤ n) → i ≤ n
    by_test true e f = let k : i ≡ n = some_same e in omega (arith, k)
    by_test false e f = let k = f e in omega (arith, k)

one_name : (i n : ℕ) (ys : List (List ℕ)) (x z : List ℕ) → position_from (bytes_eq x) i ys ≡ Some n → position_from (bytes_eq z) i ys ≡ Some n → x ≡ z
one_name i n [] x z e h = none_some e
one_name i n (y ∷ ys) x z e h = by_tests (bytes_eq x y) (bytes_eq z y) refl refl e h (one_name (i + 1) n ys x z)
  where
    past : {A : Type 0} → i ≡ n → i + 1 ≤ n → A
    past e k = absurd (omega (arith, e, k))

    by_tests : (b c : Bool) → bytes_eq x y ≡ b → bytes_eq z y ≡ c → cond b (Some i) (position_from (bytes_eq x) (i + 1) ys) ≡ Some n → cond c (Some i) (position_from (bytes_eq z) (i + 1) ys) ≡ Some n → (position_from (bytes_eq x) (i + 1) ys ≡ Some n → position_from (bytes_eq z) (i + 1) ys ≡ Some n → x ≡ z) → x ≡ z
    by_tests true true u v e h f = is_name x y u ∙ sym (is_name z y v)
    by_tests true false u v e h f = past (some_same e) (position_past (bytes_eq z) (i + 1) n ys h)
    by_tests false true u v e h f = past (some_same h) (position_past (bytes_eq x) (i + 1) n ys e)
    by_tests false false u v e h f = f e h

pub same_numbered : (ys : List (List ℕ)) (x z : List ℕ) (n : ℕ) → number_of ys x ≡ Some n → number_of ys z ≡ Some n → x ≡ z
same_numbered ys x z n e h = one_name 0 n ys x z e h

-- ---- an item at an index
pub get_before : {A : Type 0} (xs zs : List A) (n : ℕ) (y : A) → slice_get xs n ≡ Some y → slice_get (xs ++ zs) n ≡ Some y
get_before [] zs n y e = none_some e
get_before (x ∷ xs) zs zero y e = e
get_before (x ∷ xs) zs (suc n) y e = get_before xs zs n y e

pub get_end : {A : Type 0} (xs : List A) (x : A) → slice_get (xs ++ x ∷ []) (length xs) ≡ Some x
get_end [] x = refl
get_end (y ∷ xs) x = get_end xs x

-- what is behind a list is the one more
pub data OneMore {A : Type 0} (xs : List A) (x : A) (n : ℕ) : Type 0 where
  as_before : slice_get (xs ++ x ∷ []) n ≡ slice_get xs n → OneMore xs x n
  is_new : slice_get xs n ≡ None → slice_get (xs ++ x ∷ []) n ≡ Some x → OneMore xs x n

pub one_more : {A : Type 0} (xs : List A) (x : A) (n : ℕ) → OneMore xs x n
one_more [] x zero = is_new refl refl
one_more [] x (suc n) = as_before refl
one_more (z ∷ xs) x zero = as_before refl
one_more {A} (z ∷ xs) x (suc n) = further (one_more xs x n)
  where
    further : OneMore xs x n → OneMore (z ∷ xs) x (suc n)
    further (as_before e) = as_before e
    further (is_new e h) = is_new e h

-- ---- an item that is changed
changed_next : {A : Type 0} (g : A → A) (x : A) (xs : List A) (n : ℕ) → changed g (x ∷ xs) (suc n) ≡ x ∷ changed g xs n
changed_next {A} g x xs n = by_item (slice_get xs n)
  where
    by_item : (o : Option A) → changed_at g (x ∷ xs) (suc n) o ≡ x ∷ changed_at g xs n o
    by_item None = refl
    by_item (Some y) = refl

pub length_changed : {A : Type 0} (g : A → A) (xs : List A) (n : ℕ) → length (changed g xs n) ≡ length xs
length_changed g [] n = refl
length_changed g (x ∷ xs) zero = refl
length_changed g (x ∷ xs) (suc n) = ap length (changed_next g x xs n) ∙ ap suc (length_changed g xs n)

pub get_changed : {A : Type 0} (g : A → A) (xs : List A) (n : ℕ) → slice_get (changed g xs n) n ≡ option_map g (slice_get xs n)
get_changed g [] n = refl
get_changed g (x ∷ xs) zero = refl
get_changed g (x ∷ xs) (suc n) = ap (λ zs. slice_get zs (suc n)) (changed_next g x xs n) ∙ get_changed g xs n

pub get_other : {A : Type 0} (g : A → A) (xs : List A) (n k : ℕ) → (n ≡ k → ⊥) → slice_get (changed g xs k) n ≡ slice_get xs n
get_other g [] n k d = refl
get_other g (x ∷ xs) zero zero d = absurd (d refl)
get_other g (x ∷ xs) (suc n) zero d = refl
get_other g (x ∷ xs) zero (suc k) d = ap (λ zs. slice_get zs 0) (changed_next g x xs k)
get_other g (x ∷ xs) (suc n) (suc k) d = ap (λ zs. slice_get zs (suc n)) (changed_next g x xs k) ∙ get_other g xs n k (λ e. d (ap suc e))

-- ---- an item that is changed where its name is found
abbrev changed_if : {A : Type 0} → (A → A) → List A → Option ℕ → List A
changed_if g ds None = ds
changed_if g ds (Some n) = changed g ds n

abbrev changed_where : {A : Type 0} → (A → A) → List (List ℕ) → List A → List ℕ → List A
changed_where g (y ∷ ys) (d ∷ ds) x = if bytes_eq x y then g d ∷ ds else d ∷ changed_where g ys ds x
changed_where g ys ds x = ds

none_changed : {A : Type 0} (g : A → A) (o : Option ℕ) → changed_if g [] o ≡ []
none_changed g None = refl
none_changed g (Some n) = refl

changed_behind : {A : Type 0} (g : A → A) (d : A) (ds : List A) (o : Option ℕ) → changed_if g (d ∷ ds) (option_map suc o) ≡ d ∷ changed_if g ds o
changed_behind g d ds None = refl
changed_behind g d ds (Some n) = changed_next g d ds n

changed_at_name : {A : Type 0} (g : A → A) (ys : List (List ℕ)) (ds : List A) (x : List ℕ) → changed_if g ds (number_of ys x) ≡ changed_where g ys ds x
changed_at_name g [] ds x = refl
changed_at_name g (y ∷ ys) [] x = none_changed g (number_of (y ∷ ys) x)
changed_at_name g (y ∷ ys) (d ∷ ds) x = by_test (bytes_eq x y) (changed_at_name g ys ds x)
  where
    by_test : (b : Bool) → changed_if g ds (number_of ys x) ≡ changed_where g ys ds x → changed_if g (d ∷ ds) (cond b (Some 0) (position_from (bytes_eq x) 1 ys)) ≡ if b then g d ∷ ds else d ∷ changed_where g ys ds x
    by_test true h = refl
    by_test false h = ap (changed_if g (d ∷ ds)) (shifted (bytes_eq x) 0 ys) ∙ changed_behind g d ds (number_of ys x) ∙ ap (λ zs. d ∷ zs) h

-- the item beside a name is changed, where that is the name
abbrev pub changed_where_is : {A : Type 0} → (A → A) → Bool → Option A → Option A
changed_where_is g true o = option_map g o
changed_where_is g false o = o

standing_changed : {A : Type 0} (g : A → A) (ys : List (List ℕ)) (ds : List A) (x y : List ℕ) → standing ys (changed_where g ys ds x) y ≡ changed_where_is g (bytes_eq y x) (standing ys ds y)
standing_changed {A} g [] ds x y = nothing (bytes_eq y x)
  where
    nothing : (b : Bool) → ◌≡◌ {A = Option A} None (changed_where_is g b None)
    nothing true = refl
    nothing false = refl
standing_changed {A} g (z ∷ ys) [] x y = nothing (bytes_eq y x)
  where
    nothing : (b : Bool) → ◌≡◌ {A = Option A} None (changed_where_is g b None)
    nothing true = refl
    nothing false = refl
standing_changed {A} g (z ∷ ys) (d ∷ ds) x y = by_tests (bytes_eq x z) (bytes_eq y z) (bytes_eq y x) refl refl refl (standing_changed g ys ds x y)
  where
    by_tests : (b c e : Bool) → bytes_eq x z ≡ b → bytes_eq y z ≡ c → bytes_eq y x ≡ e → standing ys (changed_where g ys ds x) y ≡ changed_where_is g (bytes_eq y x) (standing ys ds y) → standing (z ∷ ys) (if b then g d ∷ ds else d ∷ changed_where g ys ds x) y ≡ changed_where_is g e (if c then Some d else standing ys ds y)
    by_tests true true true u v w h = ap (λ t. if t then Some (g d) else standing ys ds y) v
    by_tests true true false u v w h = absurd (false≢true (sym w ∙ ap (bytes_eq y) (is_name x z u) ∙ v))
    by_tests true false true u v w h = absurd (false≢true (sym v ∙ ap (λ k. bytes_eq k z) (is_name y x w) ∙ u))
    by_tests true false false u v w h = ap (λ t. if t then Some (g d) else standing ys ds y) v
    by_tests false true true u v w h = absurd (false≢true (sym u ∙ ap (λ k. bytes_eq k z) (sym (is_name y x w)) ∙ v))
    by_tests false true false u v w h = ap (λ t. if t then Some d else standing ys (changed_where g ys ds x) y) v
    by_tests false false e u v w h = ap (λ t. if t then Some d else standing ys (changed_where g ys ds x) y) v ∙ h ∙ ap (λ t. changed_where_is g t (standing ys ds y)) w

pub at_changed : {A : Type 0} (g : A → A) (ys : List (List ℕ)) (ds : List A) (x : List ℕ) (n : ℕ) (y : List ℕ) → number_of ys x ≡ Some n → at_name ys (changed g ds n) y ≡ changed_where_is g (bytes_eq y x) (at_name ys ds y)
at_changed g ys ds x n y e =
    ap (λ zs. at_name ys zs y) (sym (ap (changed_if g ds) e) ∙ changed_at_name g ys ds x)
    ∙ at_standing ys (changed_where g ys ds x) y
    ∙ standing_changed g ys ds x y
    ∙ ap (changed_where_is g (bytes_eq y x)) (sym (at_standing ys ds y))
