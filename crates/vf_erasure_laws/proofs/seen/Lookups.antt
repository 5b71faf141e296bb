-- What is found among names, and among those of C alone.
use Rattle.std.proofs.Common.{◌≡◌, ℕ, suc, ◌+◌, Bool, true, false, cond, if◌then◌else◌, List, [], ◌∷◌, filter, map, is_some, Option, Some, None, refl, sym, ap, ◌∙◌, arith}
use Rattle.std.specs.List.{position_from}
use Rattle.std.specs.Option.{option_map}
use Rattle.std.specs.Str.{bytes_eq}
use Rattle.vf_names.specs.Names.{number_of}
use Rattle.vf_declared.specs.declared.ctype.CType.{CType}
use Rattle.vf_declared.specs.declared.declaration.Declaration.{Declaration}
use Rattle.vf_declared.specs.declared.declaration.Meaning.{Meaning}
use Rattle.vf_declared.specs.declared.locals.Local.{Local}
use Rattle.vf_declared.specs.declared.locals.Local.TheVariants as locals
use Rattle.vf_declared.specs.declared.scope.Scope.{Scope}
use Rattle.vf_declared.specs.Scopes.{at_index, at_name, declaration_of, declared_in, is_visible}
use Rattle.vf_erasure_laws.specs.seen.Seen.{declares_c, is_of_c, is_real, names_of_c, real_locals, real_names, seen, seen_sides}
use Rattle.vf_erasure_laws.proofs.seen.Leading.{Finds}
use Rattle.vf_erasure_laws.proofs.seen.Same.{Names, visible_same, with_names}

-- the item beside the first of some names that is a name
abbrev pub standing : {A : Type 0} → List (List ℕ) → List A → List ℕ → Option A
standing (y ∷ ys) (a ∷ zs) x = if bytes_eq x y then Some a else standing ys zs x
standing ys zs x = None

-- counted from one more a place is one further on
shifted : {A : Type 0} (t : A → Bool) (i : ℕ) (xs : List A) → position_from t (i + 1) xs ≡ option_map suc (position_from t i xs)
shifted t i [] = refl
shifted t i (x ∷ xs) = by_test (t x) (shifted t (i + 1) xs)
  where
    by_test : (b : Bool) → position_from t (i + 1 + 1) xs ≡ option_map suc (position_from t (i + 1) xs) → cond b (Some (i + 1)) (position_from t (i + 1 + 1) xs) ≡ option_map suc (cond b (Some i) (position_from t (i + 1) xs))
    by_test true h = ap Some (let e : i + 1 ≡ suc i = omega arith in e)
    by_test false h = h

none_at : {A : Type 0} (o : Option ℕ) → at_index {A = A} [] o ≡ None
none_at None = refl
none_at (Some n) = refl

behind_at : {A : Type 0} (a : A) (zs : List A) (o : Option ℕ) → at_index (a ∷ zs) (option_map suc o) ≡ at_index zs o
behind_at a zs None = refl
behind_at a zs (Some n) = refl

pub at_standing : {A : Type 0} (ys : List (List ℕ)) (zs : List A) (x : List ℕ) → at_name ys zs x ≡ standing ys zs x
at_standing [] zs x = refl
at_standing (y ∷ ys) [] x = none_at (number_of (y ∷ ys) x)
at_standing (y ∷ ys) (a ∷ zs) x = by_test (bytes_eq x y) (at_standing ys zs x)
  where
    by_test : (b : Bool) → at_name ys zs x ≡ standing ys zs x → at_index (a ∷ zs) (cond b (Some 0) (position_from (bytes_eq x) 1 ys)) ≡ if b then Some a else standing ys zs x
    by_test true h = refl
    by_test false h = ap (at_index (a ∷ zs)) (shifted (bytes_eq x) 0 ys) ∙ behind_at a zs (number_of ys x) ∙ h

-- what a step does: the first item is looked at, or those behind
step : {A : Type 0} (b : Bool) (a : A) (o p : Option A) (c : A) → (o ≡ Some c → p ≡ Some c) → (if b then Some a else o) ≡ Some c → (if b then Some a else p) ≡ Some c
step true a o p c f e = e
step false a o p c f e = f e

-- locals of C are found among them
pub real_found : (ys : List (List ℕ)) (ls : List Local) (x : List ℕ) (t : CType) → standing ys ls x ≡ Some (locals.Real t) → standing (real_names ys ls) (filter is_real ls) x ≡ Some (locals.Real t)
real_found [] ls x t e = absurd cc
real_found (y ∷ ys) [] x t e = absurd cc
real_found (y ∷ ys) (locals.Real u ∷ ls) x t e = step (bytes_eq x y) (locals.Real u) (standing ys ls x) _ (locals.Real t) (real_found ys ls x t) e
real_found (y ∷ ys) (locals.Ghost g ∷ ls) x t e = by_test (bytes_eq x y) (real_found ys ls x t) e
  where
    by_test : (b : Bool) → (standing ys ls x ≡ Some (locals.Real t) → standing (real_names ys ls) (filter is_real ls) x ≡ Some (locals.Real t)) → (if b then Some (locals.Ghost g) else standing ys ls x) ≡ Some (locals.Real t) → standing (real_names ys ls) (filter is_real ls) x ≡ Some (locals.Real t)
    by_test true f e = absurd cc
    by_test false f e = f e

missed : {A : Type 0} (b : Bool) (a : A) (o p : Option A) → (o ≡ None → p ≡ None) → (if b then Some a else o) ≡ None → (if b then Some a else p) ≡ None
missed true a o p f e = absurd cc
missed false a o p f e = f e

pub real_missed : (ys : List (List ℕ)) (ls : List Local) (x : List ℕ) → standing ys ls x ≡ None → standing (real_names ys ls) (filter is_real ls) x ≡ None
real_missed [] ls x e = refl
real_missed (y ∷ ys) [] x e = refl
real_missed (y ∷ ys) (locals.Real u ∷ ls) x e = missed (bytes_eq x y) (locals.Real u) (standing ys ls x) _ (real_missed ys ls x) e
real_missed (y ∷ ys) (locals.Ghost g ∷ ls) x e = by_test (bytes_eq x y) (real_missed ys ls x) e
  where
    by_test : (b : Bool) → (standing ys ls x ≡ None → standing (real_names ys ls) (filter is_real ls) x ≡ None) → (if b then Some (locals.Ghost g) else standing ys ls x) ≡ None → standing (real_names ys ls) (filter is_real ls) x ≡ None
    by_test true f e = absurd cc
    by_test false f e = f e

-- declarations of C are found among them
same_kind : {a d : Declaration} → Some a ≡ Some d → declares_c a ≡ declares_c d
same_kind {d = d} e = ap (kind_or d) e
  where
    kind_or : Declaration → Option Declaration → Bool
    kind_or d None = declares_c d
    kind_or d (Some a) = declares_c a

pub c_found : (ys : List (List ℕ)) (ds : List Declaration) (x : List ℕ) (d : Declaration) → declares_c d ≡ true → standing ys ds x ≡ Some d → standing (names_of_c ys ds) (filter declares_c ds) x ≡ Some d
c_found [] ds x d c e = absurd cc
c_found (y ∷ ys) [] x d c e = absurd cc
c_found (y ∷ ys) (a ∷ ds) x d c e = by_kind (declares_c a) refl (c_found ys ds x d c)
  where
    by_test : (b : Bool) → declares_c a ≡ false → (standing ys ds x ≡ Some d → standing (names_of_c ys ds) (filter declares_c ds) x ≡ Some d) → (if b then Some a else standing ys ds x) ≡ Some d → standing (names_of_c ys ds) (filter declares_c ds) x ≡ Some d
    by_test true h f e = let clash : true ≡ false = sym c ∙ sym (same_kind e) ∙ h in absurd cc
    by_test false h f e = f e

    by_kind : (k : Bool) → declares_c a ≡ k → (standing ys ds x ≡ Some d → standing (names_of_c ys ds) (filter declares_c ds) x ≡ Some d) → standing (if k then y ∷ names_of_c ys ds else names_of_c ys ds) (if k then a ∷ filter declares_c ds else filter declares_c ds) x ≡ Some d
    by_kind true h f = step (bytes_eq x y) a (standing ys ds x) _ d f e
    by_kind false h f = by_test (bytes_eq x y) h f e

-- what is no name of file level is none of C
pub position_missed : (t : List ℕ → Bool) (i j : ℕ) (ys : List (List ℕ)) (ds : List Declaration) → is_some (position_from t i ys) ≡ false → is_some (position_from t j (names_of_c ys ds)) ≡ false
position_missed t i j [] ds e = refl
position_missed t i j (y ∷ ys) [] e = refl
position_missed t i j (y ∷ ys) (d ∷ ds) e = by_test (t y) refl e (λ n. position_missed t (i + 1) n ys ds)
  where
    by_kind : (k : Bool) → t y ≡ false → ((n : ℕ) → is_some (position_from t n (names_of_c ys ds)) ≡ false) → is_some (position_from t j (if k then y ∷ names_of_c ys ds else names_of_c ys ds)) ≡ false
    by_kind true h f = ap (λ b. is_some (cond b (Some j) (position_from t (j + 1) (names_of_c ys ds)))) h ∙ f (j + 1)
    by_kind false h f = f j

    by_test : (b : Bool) → t y ≡ b → is_some (cond b (Some i) (position_from t (i + 1) ys)) ≡ false → ((n : ℕ) → is_some (position_from t (i + 1) ys) ≡ false → is_some (position_from t n (names_of_c ys ds)) ≡ false) → is_some (position_from t j (names_of_c (y ∷ ys) (d ∷ ds))) ≡ false
    by_test true h e f = absurd cc
    by_test false h e f = by_kind (declares_c d) h (λ n. f n e)

-- what C text sees
abbrev pub names_seen : Scope → Names
names_seen s = record {
  locals = real_locals s.locals;
  names = names_of_c s.names s.declarations;
  declarations = filter declares_c s.declarations;
  predicates = [];
  predicate_files = [];
  predicate_sorts = [];
  sides = map seen_sides s.sides;
  ghosts = [];
  ghost_sides = [];
  datatypes = [];
}

-- a declaration that is found and visible is found among those of C
visible_found : (s : Scope) (x : List ℕ) (f : ℕ) (m : Meaning) → is_of_c m ≡ true → (o : Option Declaration) → at_name s.names s.declarations x ≡ o → declared_in s f o ≡ Some m → declaration_of (with_names s (names_seen s)) x f ≡ Some m
visible_found s x f m c None e h = absurd cc
visible_found s x f m c (Some d) e h = by_test (is_visible s f d.files) refl h
  where
    there : declares_c d ≡ true → at_name (names_of_c s.names s.declarations) (filter declares_c s.declarations) x ≡ Some d
    there k = at_standing (names_of_c s.names s.declarations) (filter declares_c s.declarations) x ∙ c_found s.names s.declarations x d k (sym (at_standing s.names s.declarations x) ∙ e)

    meaning_or : Option Meaning → Meaning
    meaning_or None = d.meaning
    meaning_or (Some m) = m

    by_test : (b : Bool) → is_visible s f d.files ≡ b → (if b then Some d.meaning else None) ≡ Some m → declaration_of (with_names s (names_seen s)) x f ≡ Some m
    by_test true v h =
        let same : d.meaning ≡ m = ap meaning_or h in
        ap (declared_in (with_names s (names_seen s)) f) (there (ap is_of_c same ∙ c)) ∙ ap (λ b. if b then Some d.meaning else None) (visible_same s (names_seen s) f d.files ∙ v) ∙ h
    by_test false v h = absurd cc

pub finds_seen : (s : Scope) → Finds s (names_seen s)
unfolding real_locals
finds_seen s = record {
  local = λ x t e. at_standing _ _ x ∙ real_found s.locals.names s.locals.meanings x t (sym (at_standing s.locals.names s.locals.meanings x) ∙ e);
  no_local = λ x e. at_standing _ _ x ∙ real_missed s.locals.names s.locals.meanings x (sym (at_standing s.locals.names s.locals.meanings x) ∙ e);
  declared = λ x f m c e. visible_found s x f m c (at_name s.names s.declarations x) refl e;
  undeclared = λ x e. position_missed (bytes_eq x) 0 0 s.names s.declarations e;
}

pub seen_is : (s : Scope) → seen s ≡ with_names s (names_seen s)
unfolding seen
seen_is s = refl
