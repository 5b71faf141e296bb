-- Lists that stand beside names, or have an item changed, and what C text sees of them.
use Rattle.std.proofs.Common.{◌≡◌, ℕ, zero, suc, ◌+◌, Bool, true, false, cond, if◌then◌else◌, List, [], ◌∷◌, ◌++◌, length, map, filter, Option, Some, None, slice_get, refl, sym, ap, ◌∙◌, arith}
use Rattle.std.specs.List.{position_from}
use Rattle.std.specs.Option.{option_map}
use Rattle.std.specs.Str.{bytes_eq}
use Rattle.vf_names.specs.Names.{number_of}
use Rattle.vf_declared.specs.declared.ctype.CType.{CType}
use Rattle.vf_declared.specs.declared.declaration.Declaration.{Declaration}
use Rattle.vf_declared.specs.declared.locals.Local.{Local}
use Rattle.vf_declared.specs.declared.locals.Local.TheVariants as locals
use Rattle.vf_declared.specs.Writing.{changed, changed_at}
use Rattle.vf_walk.specs.Items.{real_types}
use Rattle.vf_erasure_laws.specs.seen.Seen.{declares_c, is_real, names_of_c, real_names}
use Rattle.vf_erasure_laws.proofs.seen.Lookups.{standing}
use Rattle.vf_erasure_laws.proofs.erased.WalkingSeen.{as_long, longer}

-- ---- an item at an index
pub get_map : {A B : Type 0} (f : A → B) (xs : List A) (n : ℕ) → slice_get (map f xs) n ≡ option_map f (slice_get xs n)
get_map f [] n = refl
get_map f (x ∷ xs) zero = refl
get_map f (x ∷ xs) (suc n) = get_map f xs n

-- the item behind a list
pub get_end : {A : Type 0} (xs : List A) (x : A) (n : ℕ) → n ≡ length xs → slice_get (xs ++ x ∷ []) n ≡ Some x
get_end {A} xs x n e = ap (slice_get (xs ++ x ∷ [])) e ∙ at_end xs
  where
    at_end : (ys : List A) → slice_get (ys ++ x ∷ []) (length ys) ≡ Some x
    at_end [] = refl
    at_end (y ∷ ys) = at_end ys

-- an item of a list with one more is one of the list, or the one behind it
pub data OneOf {A : Type 0} (xs : List A) (x : A) (n : ℕ) (y : A) : Type 0 where
  before : slice_get xs n ≡ Some y → OneOf xs x n y
  behind : n ≡ length xs → y ≡ x → OneOf xs x n y

pub some_same : {A : Type 0} {a b : A} → ◌≡◌ {A = Option A} (Some a) (Some b) → a ≡ b
some_same h = cc

none_some : {A B : Type 0} {a : A} → ◌≡◌ {A = Option A} None (Some a) → B
none_some h = absurd cc

pub one_of : {A : Type 0} (xs : List A) (x : A) (n : ℕ) (y : A) → slice_get (xs ++ x ∷ []) n ≡ Some y → OneOf xs x n y
one_of [] x zero y h = behind refl (sym (some_same h))
one_of [] x (suc n) y h = none_some h
one_of (z ∷ xs) x zero y h = before h
one_of {A} (z ∷ xs) x (suc n) y h = further (one_of xs x n y h)
  where
    further : OneOf xs x n y → OneOf (z ∷ xs) x (suc n) y
    further (before e) = before e
    further (behind e k) = behind (ap suc e) k

-- ---- an item that is changed
pub changed_next : {A : Type 0} (g : A → A) (x : A) (xs : List A) (n : ℕ) → changed g (x ∷ xs) (suc n) ≡ x ∷ changed g xs n
changed_next {A} g x xs n = by_item (slice_get xs n)
  where
    by_item : (o : Option A) → changed_at g (x ∷ xs) (suc n) o ≡ x ∷ changed_at g xs n o
    by_item None = refl
    by_item (Some y) = refl

pub map_changed : {A B : Type 0} (f : A → B) (g : A → A) (h : B → B) → ((x : A) → f (g x) ≡ h (f x)) → (xs : List A) (n : ℕ) → map f (changed g xs n) ≡ changed h (map f xs) n
map_changed f g h e [] n = refl
map_changed f g h e (x ∷ xs) zero = ap (λ y. y ∷ map f xs) (e x)
map_changed f g h e (x ∷ xs) (suc n) = ap (map f) (changed_next g x xs n) ∙ ap (λ ys. f x ∷ ys) (map_changed f g h e xs n) ∙ sym (changed_next h (f x) (map f xs) n)

pub length_changed : {A : Type 0} (g : A → A) (xs : List A) (n : ℕ) → length (changed g xs n) ≡ length xs
length_changed g [] n = refl
length_changed g (x ∷ xs) zero = refl
length_changed g (x ∷ xs) (suc n) = ap length (changed_next g x xs n) ∙ ap suc (length_changed g xs n)

-- an item of a list in which one is changed is as it was, or is the changed one
pub data OneChanged {A : Type 0} (g : A → A) (xs : List A) (n k : ℕ) (y : A) : Type 0 where
  as_before : slice_get xs k ≡ Some y → OneChanged g xs n k y
  is_changed : (x : A) → slice_get xs k ≡ Some x → k ≡ n → y ≡ g x → OneChanged g xs n k y

pub one_changed : {A : Type 0} (g : A → A) (xs : List A) (n k : ℕ) (y : A) → slice_get (changed g xs n) k ≡ Some y → OneChanged g xs n k y
one_changed g [] n k y h = none_some h
one_changed g (x ∷ xs) zero zero y h = is_changed x refl refl (sym (some_same h))
one_changed g (x ∷ xs) zero (suc k) y h = as_before h
one_changed g (x ∷ xs) (suc n) zero y h = as_before (ap (λ zs. slice_get zs 0) (sym (changed_next g x xs n)) ∙ h)
one_changed g (x ∷ xs) (suc n) (suc k) y h = further (one_changed g xs n k y (ap (λ zs. slice_get zs (suc k)) (sym (changed_next g x xs n)) ∙ h))
  where
    further : OneChanged g xs n k y → OneChanged g (x ∷ xs) (suc n) (suc k) y
    further (as_before e) = as_before e
    further (is_changed z e i r) = is_changed z e (ap suc i) r

-- ---- an item that is changed where its name is found
abbrev pub changed_if : {A : Type 0} → (A → A) → List A → Option ℕ → List A
changed_if g ds None = ds
changed_if g ds (Some n) = changed g ds n

abbrev pub changed_where : {A : Type 0} → (A → A) → List (List ℕ) → List A → List ℕ → List A
changed_where g (y ∷ ys) (d ∷ ds) x = if bytes_eq x y then g d ∷ ds else d ∷ changed_where g ys ds x
changed_where g ys ds x = ds

pub length_changed_if : {A : Type 0} (g : A → A) (ds : List A) (o : Option ℕ) → length (changed_if g ds o) ≡ length ds
length_changed_if g ds None = refl
length_changed_if g ds (Some n) = length_changed g ds n

none_changed : {A : Type 0} (g : A → A) (o : Option ℕ) → changed_if g [] o ≡ []
none_changed g None = refl
none_changed g (Some n) = refl

changed_behind : {A : Type 0} (g : A → A) (d : A) (ds : List A) (o : Option ℕ) → changed_if g (d ∷ ds) (option_map suc o) ≡ d ∷ changed_if g ds o
changed_behind g d ds None = refl
changed_behind g d ds (Some n) = changed_next g d ds n

-- counted from one more a place is one further on
shifted : {A : Type 0} (t : A → Bool) (i : ℕ) (xs : List A) → position_from t (i + 1) xs ≡ option_map suc (position_from t i xs)
shifted t i [] = refl
shifted t i (x ∷ xs) = by_test (t x) (shifted t (i + 1) xs)
  where
    by_test : (b : Bool) → position_from t (i + 1 + 1) xs ≡ option_map suc (position_from t (i + 1) xs) → cond b (Some (i + 1)) (position_from t (i + 1 + 1) xs) ≡ option_map suc (cond b (Some i) (position_from t (i + 1) xs))
    by_test true h = ap Some (let e : i + 1 ≡ suc i = omega arith in e)
    by_test false h = h

pub changed_at_name : {A : Type 0} (g : A → A) (ys : List (List ℕ)) (ds : List A) (x : List ℕ) → changed_if g ds (number_of ys x) ≡ changed_where g ys ds x
changed_at_name g [] ds x = refl
changed_at_name g (y ∷ ys) [] x = none_changed g (number_of (y ∷ ys) x)
changed_at_name g (y ∷ ys) (d ∷ ds) x = by_test (bytes_eq x y) (changed_at_name g ys ds x)
  where
    by_test : (b : Bool) → changed_if g ds (number_of ys x) ≡ changed_where g ys ds x → changed_if g (d ∷ ds) (cond b (Some 0) (position_from (bytes_eq x) 1 ys)) ≡ if b then g d ∷ ds else d ∷ changed_where g ys ds x
    by_test true h = refl
    by_test false h = ap (changed_if g (d ∷ ds)) (shifted (bytes_eq x) 0 ys) ∙ changed_behind g d ds (number_of ys x) ∙ ap (λ zs. d ∷ zs) h

-- ---- declarations of C
pub names_of_c_behind : (xs ys : List (List ℕ)) (ds es : List Declaration) → length xs ≡ length ds → names_of_c (xs ++ ys) (ds ++ es) ≡ names_of_c xs ds ++ names_of_c ys es
names_of_c_behind [] ys [] es e = refl
names_of_c_behind [] ys (d ∷ ds) es e = longer (sym e)
names_of_c_behind (x ∷ xs) ys [] es e = longer e
names_of_c_behind (x ∷ xs) ys (d ∷ ds) es e = by_kind (declares_c d) (names_of_c_behind xs ys ds es (as_long x xs d ds e))
  where
    by_kind : (b : Bool) → names_of_c (xs ++ ys) (ds ++ es) ≡ names_of_c xs ds ++ names_of_c ys es → (if b then x ∷ names_of_c (xs ++ ys) (ds ++ es) else names_of_c (xs ++ ys) (ds ++ es)) ≡ (if b then x ∷ names_of_c xs ds else names_of_c xs ds) ++ names_of_c ys es
    by_kind true h = ap (λ zs. x ∷ zs) h
    by_kind false h = h

-- a name that is not declared is none of C
pub c_missed : (ys : List (List ℕ)) (ds : List Declaration) (x : List ℕ) → standing ys ds x ≡ None → standing (names_of_c ys ds) (filter declares_c ds) x ≡ None
c_missed [] ds x e = refl
c_missed (y ∷ ys) [] x e = refl
c_missed (y ∷ ys) (d ∷ ds) x e = by_test (bytes_eq x y) refl e (c_missed ys ds x)
  where
    by_kind : (k : Bool) → bytes_eq x y ≡ false → standing (names_of_c ys ds) (filter declares_c ds) x ≡ None → standing (if k then y ∷ names_of_c ys ds else names_of_c ys ds) (cond k (d ∷ filter declares_c ds) (filter declares_c ds)) x ≡ None
    by_kind true h f = ap (λ b. if b then Some d else standing (names_of_c ys ds) (filter declares_c ds) x) h ∙ f
    by_kind false h f = f

    by_test : (b : Bool) → bytes_eq x y ≡ b → (if b then Some d else standing ys ds x) ≡ None → (standing ys ds x ≡ None → standing (names_of_c ys ds) (filter declares_c ds) x ≡ None) → standing (names_of_c (y ∷ ys) (d ∷ ds)) (filter declares_c (d ∷ ds)) x ≡ None
    by_test true h e f = absurd cc
    by_test false h e f = by_kind (declares_c d) h (f e)

-- a change that leaves what declarations mean leaves the names of C
module _ (g : Declaration → Declaration) (keeps : (d : Declaration) → declares_c (g d) ≡ declares_c d) where
  pub names_changed : (ys : List (List ℕ)) (ds : List Declaration) (x : List ℕ) → names_of_c ys (changed_where g ys ds x) ≡ names_of_c ys ds
  names_changed [] ds x = refl
  names_changed (y ∷ ys) [] x = refl
  names_changed (y ∷ ys) (d ∷ ds) x = by_test (bytes_eq x y) (names_changed ys ds x)
    where
      by_test : (b : Bool) → names_of_c ys (changed_where g ys ds x) ≡ names_of_c ys ds → names_of_c (y ∷ ys) (if b then g d ∷ ds else d ∷ changed_where g ys ds x) ≡ names_of_c (y ∷ ys) (d ∷ ds)
      by_test true h = ap (λ b. if b then y ∷ names_of_c ys ds else names_of_c ys ds) (keeps d)
      by_test false h = ap (λ ns. if declares_c d then y ∷ ns else ns) h

  -- and changes the same declaration among those of C, where it is one
  pub declarations_changed : (ys : List (List ℕ)) (ds : List Declaration) (x : List ℕ) (e : Declaration) → standing ys ds x ≡ Some e → declares_c e ≡ true → filter declares_c (changed_where g ys ds x) ≡ changed_where g (names_of_c ys ds) (filter declares_c ds) x
  declarations_changed [] ds x e s c = none_some s
  declarations_changed (y ∷ ys) [] x e s c = none_some s
  declarations_changed (y ∷ ys) (d ∷ ds) x e s c = by_test (bytes_eq x y) refl s (λ h. declarations_changed ys ds x e h c)
    where
      by_kind : (b : Bool) → bytes_eq x y ≡ false → filter declares_c (changed_where g ys ds x) ≡ changed_where g (names_of_c ys ds) (filter declares_c ds) x → cond b (d ∷ filter declares_c (changed_where g ys ds x)) (filter declares_c (changed_where g ys ds x)) ≡ changed_where g (if b then y ∷ names_of_c ys ds else names_of_c ys ds) (cond b (d ∷ filter declares_c ds) (filter declares_c ds)) x
      by_kind true h f = ap (λ zs. d ∷ zs) f ∙ sym (ap (λ b. if b then g d ∷ filter declares_c ds else d ∷ changed_where g (names_of_c ys ds) (filter declares_c ds) x) h)
      by_kind false h f = f

      by_test : (b : Bool) → bytes_eq x y ≡ b → (if b then Some d else standing ys ds x) ≡ Some e → (standing ys ds x ≡ Some e → filter declares_c (changed_where g ys ds x) ≡ changed_where g (names_of_c ys ds) (filter declares_c ds) x) → filter declares_c (if b then g d ∷ ds else d ∷ changed_where g ys ds x) ≡ changed_where g (names_of_c (y ∷ ys) (d ∷ ds)) (filter declares_c (d ∷ ds)) x
      by_test true h s f =
          let k : declares_c d ≡ true = ap declares_c (some_same s) ∙ c in
          ap (λ b. cond b (g d ∷ filter declares_c ds) (filter declares_c ds)) (keeps d ∙ k)
          ∙ sym (ap (λ b. changed_where g (if b then y ∷ names_of_c ys ds else names_of_c ys ds) (cond b (d ∷ filter declares_c ds) (filter declares_c ds)) x) k
          ∙ ap (λ b. if b then g d ∷ filter declares_c ds else d ∷ changed_where g (names_of_c ys ds) (filter declares_c ds) x) h)
      by_test false h s f = by_kind (declares_c d) h (f s)

-- ---- locals of C
pub types_of_real : (ls : List Local) → real_types (filter is_real ls) ≡ real_types ls
types_of_real [] = refl
types_of_real (locals.Real t ∷ ls) = ap (λ ts. t ∷ ts) (types_of_real ls)
types_of_real (locals.Ghost g ∷ ls) = types_of_real ls

-- locals of C are given by their types
pub real_by_types : (ls : List Local) → filter is_real ls ≡ map locals.Real (real_types ls)
real_by_types [] = refl
real_by_types (locals.Real t ∷ ls) = ap (λ ks. locals.Real t ∷ ks) (real_by_types ls)
real_by_types (locals.Ghost g ∷ ls) = real_by_types ls

pub types_behind : (ls ks : List Local) → real_types (ls ++ ks) ≡ real_types ls ++ real_types ks
types_behind [] ks = refl
types_behind (locals.Real t ∷ ls) ks = ap (λ ts. t ∷ ts) (types_behind ls ks)
types_behind (locals.Ghost g ∷ ls) ks = types_behind ls ks

pub types_of_types : (ts : List CType) → real_types (map locals.Real ts) ≡ ts
types_of_types [] = refl
types_of_types (t ∷ ts) = ap (λ us. t ∷ us) (types_of_types ts)

pub all_real_names : (xs : List (List ℕ)) (ts : List CType) → length xs ≡ length ts → real_names xs (map locals.Real ts) ≡ xs
all_real_names [] ts e = refl
all_real_names (x ∷ xs) [] e = longer e
all_real_names (x ∷ xs) (t ∷ ts) e = ap (λ ys. x ∷ ys) (all_real_names xs ts (as_long x xs t ts e))

pub all_real : (ts : List CType) → filter is_real (map locals.Real ts) ≡ map locals.Real ts
all_real [] = refl
all_real (t ∷ ts) = ap (λ ls. locals.Real t ∷ ls) (all_real ts)
