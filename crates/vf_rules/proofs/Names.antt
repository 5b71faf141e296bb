-- The names of a branch: bound apart from all others, they have the values of a constructor's arguments.
use Rattle.std.proofs.Common.{◌≡◌, ◌≢◌, ℕ, suc, ◌-◌, cond, List, [], ◌∷◌, map, slice_get, Option, Some, None, refl, sym, ap, ap₂, subst, ◌∙◌, inl, inr}
use Rattle.std.proofs.lemmas.Bool.{cases_Bool}
use Rattle.vf_tree.specs.Core.{ProgramTree}
use Rattle.vf_model.specs.Values.{Value, Values}
use Rattle.vf_model.specs.Values as values
use Rattle.vf_meaning.specs.Ghost.{Sort, Name, Numbered, same_name}
use Rattle.vf_meaning.specs.Valuations.{Valuation, listed, in_row, bound, all_bound}
use Rattle.vf_meaning.specs.GhostValues.{values_of}
use Rattle.vf_meaning.specs.Assertions.{Names, Environment}
use Rattle.vf_meaning.specs.Sorts.{HasSort, AreOfSorts}
use Rattle.vf_meaning.specs.Chunks.{Wanted, Just, wanted}
use Rattle.vf_meaning.specs.Chunks as chunks
use Rattle.vf_meaning.proofs.Values.{tells_names}
use Rattle.vf_rules.specs.Terms.{Term, Store, stored}
use Rattle.vf_rules.specs.Terms as terms
use Rattle.vf_rules.specs.States.{SymbolicState, meaning, wanted_in, StoreMeans}
use Rattle.vf_rules.specs.Fresh.{symbol}
use Rattle.vf_rules.specs.Produce.{known, NamesHaveSorts, ProducePatterns}
use Rattle.vf_rules.proofs.Terms.{stored_own, stored_other}

none_some : {A B : Type 0} {x : A} → None ≡ Some x → B
none_some e = cc

-- a name is none of several
abbrev pub IsNone : Name → List Name → Type 0
IsNone x [] = Unit {0}
IsNone x (y ∷ ys) = (x ≢ y) × IsNone x ys

abbrev pub AreDistinct : List Name → Type 0
AreDistinct [] = Unit {0}
AreDistinct (x ∷ xs) = IsNone x xs × AreDistinct xs

module _ (e : Environment) (prog : ProgramTree) (sorts : List Sort) (scale : Term) (K : List (Option Term) → Store → SymbolicState → Type 0) where
  pub names_unbound : (Has : ℕ → Sort → Type 0) (n : ℕ) (xs : List Name) (s : Store) (st : SymbolicState) (ts : List (Option Term)) → ProducePatterns e prog sorts scale Has n (map (λ x. Names x) xs) s st ts K
      → (x : Name) (t : Term) → s x ≡ Some t → IsNone x xs
  names_unbound Has n [] s st ts k x t h = tt
  names_unbound Has n (y ∷ ys) s st ts k x t h =
      let differs : x ≢ y = λ same. none_some (sym k.2 ∙ ap s (sym same) ∙ h) in
      (differs, names_unbound (λ j. Has (suc j)) (n - 1) ys (stored s y (symbol k.0)) _ _ k.3 x t (stored_other s y x (symbol k.0) differs ∙ h))

  pub names_distinct : (Has : ℕ → Sort → Type 0) (n : ℕ) (xs : List Name) (s : Store) (st : SymbolicState) (ts : List (Option Term)) → ProducePatterns e prog sorts scale Has n (map (λ x. Names x) xs) s st ts K → AreDistinct xs
  names_distinct Has n [] s st ts k = tt
  names_distinct Has n (y ∷ ys) s st ts k =
      (names_unbound (λ j. Has (suc j)) (n - 1) ys (stored s y (symbol k.0)) _ _ k.3 y (symbol k.0) (stored_own s y (symbol k.0)), names_distinct (λ j. Has (suc j)) (n - 1) ys (stored s y (symbol k.0)) _ _ k.3)

-- ---- the valuation with the names' values
bound_own : (w : Valuation) (x : Name) (u : Value) → bound w x u x ≡ u
bound_own w x u = ap (λ b. cond b u (w x)) ((tells_names x x).1 refl)

bound_else : (w : Valuation) (x : Name) (u : Value) (y : Name) → y ≢ x → bound w x u y ≡ w y
bound_else w x u y h =
    elim (cases_Bool (same_name y x)) [ inl t ↦ absurd (h ((tells_names y x).0 t)) | inr t ↦ ap (λ b. cond b u (w y)) t ]

pub else_same : (w : Valuation) (xs : List Name) (ws : Values) (y : Name) → IsNone y xs → all_bound w xs ws y ≡ w y
else_same w [] ws y h = refl
else_same w (x ∷ xs) values.none y h = else_same (bound w x _) xs values.none y h.1 ∙ bound_else w x _ y h.0
else_same w (x ∷ xs) (values.more u us) y h = else_same (bound w x u) xs us y h.1 ∙ bound_else w x u y h.0

pub names_values : (e : Environment) (sorts : List Sort) (w : Valuation) (xs : List Name) (ws : Values) → AreDistinct xs → NamesHaveSorts e sorts xs ws → map (all_bound w xs ws) xs ≡ listed ws
names_values e sorts w [] values.none d h = refl
names_values e sorts w [] (values.more u us) d h = absurd h
names_values e sorts w (x ∷ xs) values.none d h = absurd h
names_values e sorts w (x ∷ xs) (values.more u us) d h =
    ap₂ (λ a b. a ∷ b) (else_same (bound w x u) xs us x d.0 ∙ bound_own w x u) (names_values e sorts (bound w x u) xs us d.1 h.1)

bound_sorted : (e : Environment) (sorts : List Sort) (w : Valuation) (x : Name) (u : Value) → AreOfSorts e w sorts
    → ((k : ℕ) (s : Sort) → x ≡ Numbered k → slice_get sorts k ≡ Some s → HasSort e u s) → AreOfSorts e (bound w x u) sorts
bound_sorted e sorts w x u h own k s known =
    elim (cases_Bool (same_name (Numbered k) x)) [
      | inl t ↦ subst (λ b. HasSort e (cond b u (w (Numbered k))) s) (sym t) (own k s (sym ((tells_names (Numbered k) x).0 t)) known)
      | inr t ↦ subst (λ b. HasSort e (cond b u (w (Numbered k))) s) (sym t) (h k s known)
    ]

pub names_sorted : (e : Environment) (sorts : List Sort) (w : Valuation) (xs : List Name) (ws : Values) → AreOfSorts e w sorts → NamesHaveSorts e sorts xs ws → AreOfSorts e (all_bound w xs ws) sorts
names_sorted e sorts w [] values.none h n = h
names_sorted e sorts w [] (values.more u us) h n = absurd n
names_sorted e sorts w (x ∷ xs) values.none h n = absurd n
names_sorted e sorts w (x ∷ xs) (values.more u us) h n = names_sorted e sorts (bound w x u) xs us (bound_sorted e sorts w x u h n.0) n.1

pub names_mean : (e : Environment) (v : Valuation) (s : Store) (w : Valuation) (xs : List Name) (ws : Values) → ((x : Name) (t : Term) → s x ≡ Some t → IsNone x xs) → StoreMeans e v s w → StoreMeans e v s (all_bound w xs ws)
names_mean e v s w xs ws apart m x t h = m x t h ∙ sym (else_same w xs ws x (apart x t h))

-- ---- what is asked for names
pub asked_of_names : (e : Environment) (w : Valuation) (xs : List Name) → map (wanted (meaning e) w) (map (λ x. Names x) xs) ≡ map (λ u. Just u) (map w xs)
asked_of_names e w [] = refl
asked_of_names e w (x ∷ xs) = ap (λ r. Just (w x) ∷ r) (asked_of_names e w xs)

just_anything : {u : Value} {ws vs : List Wanted} {A : Type 0} → (chunks.Anything ∷ ws) ≡ (Just u ∷ vs) → A
just_anything h = cc

first_just : {a u : Value} {ws vs : List Wanted} → (Just a ∷ ws) ≡ (Just u ∷ vs) → a ≡ u
first_just h = cc

rest_same : {a b : Wanted} {ws vs : List Wanted} → (a ∷ ws) ≡ (b ∷ vs) → ws ≡ vs
rest_same h = cc

cons_nil : {a : Wanted} {ws : List Wanted} {A : Type 0} → (a ∷ ws) ≡ [] → A
cons_nil h = cc

nil_cons : {a : Wanted} {ws : List Wanted} {A : Type 0} → [] ≡ (a ∷ ws) → A
nil_cons h = cc

-- arguments that are all known, as a constructor's arguments stand
pub known_values : (e : Environment) (v : Valuation) (ts : List (Option Term)) (us : List Value) → map (wanted_in e v) ts ≡ map (λ u. Just u) us → values_of (meaning e) v (terms.in_row (known ts)) ≡ in_row us
known_values e v [] [] h = refl
known_values e v [] (u ∷ us) h = nil_cons h
known_values e v (t ∷ ts) [] h = cons_nil h
known_values e v (None ∷ ts) (u ∷ us) h = just_anything h
known_values e v (Some t ∷ ts) (u ∷ us) h = ap₂ (λ a b. values.more a b) (first_just h) (known_values e v ts us (rest_same h))

pub row_listed : (ws : Values) → in_row (listed ws) ≡ ws
row_listed values.none = refl
row_listed (values.more u us) = ap (values.more u) (row_listed us)
