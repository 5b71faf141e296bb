-- Elements of lists, and lists that were made of others.
use Rattle.std.proofs.Common.{◌≡◌, ℕ, zero, suc, ◌+◌, ◌<◌, Bool, true, false, cond, List, [], ◌∷◌, ◌++◌, length, map, take, drop, get_or, Vec, Global, Some, refl, sym, ap, subst, ◌∙◌, inl, inr, arith}
use Rattle.std.specs.Prelude.{Contains, slice_get, filter}
use Rattle.std.proofs.lemmas.List.{append-nil, map_push}
use Rattle.std.proofs.lemmas.List.Elements.{filter_more}
use Rattle.vf_cycles.specs.Graphs.{EachOnce}
use Rattle.vf_cycles.proofs.Lists.{here, there, nowhere, front_or_behind}

pub same_items : {A : Type 0} (v w : Vec A Global) → v ≡ w → v.items ≡ w.items
same_items {A = A} v w e = ap (λ (u : Vec A Global). u.items) e

pub get_at : {A : Type 0} (xs : List A) (i : ℕ) (d : A) → i < length xs → slice_get xs i ≡ Some (get_or xs i d)
get_at [] i d h = absurd (let none : ⊥ = omega arith in none)
get_at (x ∷ xs) zero d h = refl
get_at (x ∷ xs) (suc i) d h = get_at xs i d (omega arith)

pub got_within : {A : Type 0} (xs : List A) (i : ℕ) (x : A) → slice_get xs i ≡ Some x → i < length xs
got_within [] i x h = absurd cc
got_within (y ∷ ys) zero x h = omega arith
got_within (y ∷ ys) (suc i) x h = let more = got_within ys i x h in omega arith

pub got_is : {A : Type 0} (xs : List A) (i : ℕ) (x d : A) → slice_get xs i ≡ Some x → get_or xs i d ≡ x
got_is [] i x d h = absurd cc
got_is (y ∷ ys) zero x d h = cc
got_is (y ∷ ys) (suc i) x d h = got_is ys i x d h

pub contains_at : {A : Type 0} (xs : List A) (i : ℕ) (x d : A) → i < length xs → get_or xs i d ≡ x → Contains xs x
contains_at [] i x d h e = absurd (let none : ⊥ = omega arith in none)
contains_at (y ∷ ys) zero x d h e = (0, omega arith, e)
contains_at (y ∷ ys) (suc i) x d h e = there y x ys (contains_at ys i x d (omega arith) e)

-- an element stands at its place with any default
pub at_place : {A : Type 0} (xs : List A) (x d : A) (c : Contains xs x) → get_or xs c.0 d ≡ x
at_place [] x d (k, within, is) = absurd (let none : ⊥ = omega arith in none)
at_place (y ∷ ys) x d (zero, within, is) = is
at_place (y ∷ ys) x d (suc k, within, is) = at_place ys x d (k, omega arith, is)

pub in_map : {A B : Type 0} (f : A → B) (xs : List A) (x : A) → Contains xs x → Contains (map f xs) (f x)
in_map f [] x c = absurd (nowhere x c)
in_map f (y ∷ ys) x c = elim (front_or_behind y x ys c) [
  | inl same ↦ subst (λ z. Contains (map f (y ∷ ys)) (f z)) same (here (f y) (map f ys))
  | inr rest ↦ there (f y) (f x) (map f ys) (in_map f ys x rest)
]

pub from_map : {A B : Type 0} (f : A → B) (xs : List A) (y : B) → Contains (map f xs) y → (x : A) × Contains xs x × (f x ≡ y)
from_map f [] y c = absurd (nowhere y c)
from_map f (x ∷ xs) y c = elim (front_or_behind (f x) y (map f xs) c) [
  | inl same ↦ (x, here x xs, same)
  | inr rest ↦ let r = from_map f xs y rest in (r.0, there x r.0 xs r.1, r.2)
]

-- ---- what a test keeps

kept_in : {A : Type 0} (p : A → Bool) (x y : A) (xs : List A) (b : Bool) → p y ≡ b → Contains (cond b (y ∷ filter p xs) (filter p xs)) x
    → (Contains (filter p xs) x → Contains xs x × (p x ≡ true)) → Contains (y ∷ xs) x × (p x ≡ true)
kept_in p x y xs true e c more = elim (front_or_behind y x (filter p xs) c) [
  | inl same ↦ (subst (λ z. Contains (y ∷ xs) z) same (here y xs), ap p (sym same) ∙ e)
  | inr rest ↦ let m = more rest in (there y x xs m.0, m.1)
]
kept_in p x y xs false e c more = let m = more c in (there y x xs m.0, m.1)

pub from_filter : {A : Type 0} (p : A → Bool) (xs : List A) (x : A) → Contains (filter p xs) x → Contains xs x × (p x ≡ true)
from_filter p [] x c = absurd (nowhere x c)
from_filter p (y ∷ ys) x c = kept_in p x y ys (p y) refl c (from_filter p ys x)

keeps_front : {A : Type 0} (p : A → Bool) (y : A) (zs : List A) (b : Bool) → b ≡ true → Contains (cond b (y ∷ zs) zs) y
keeps_front p y zs true e = here y zs
keeps_front p y zs false e = absurd cc

keeps_rest : {A : Type 0} (y x : A) (zs : List A) (b : Bool) → Contains zs x → Contains (cond b (y ∷ zs) zs) x
keeps_rest y x zs true c = there y x zs c
keeps_rest y x zs false c = c

pub in_filter : {A : Type 0} (p : A → Bool) (xs : List A) (x : A) → Contains xs x → p x ≡ true → Contains (filter p xs) x
in_filter p [] x c h = absurd (nowhere x c)
in_filter p (y ∷ ys) x c h = elim (front_or_behind y x ys c) [
  | inl same ↦ subst (λ z. Contains (filter p (y ∷ ys)) z) same (keeps_front p y (filter p ys) (p y) (ap p same ∙ h))
  | inr rest ↦ keeps_rest y x (filter p ys) (p y) (in_filter p ys x rest h)
]

-- one more that is kept, and one more that is not
pub kept_more : {A B : Type 0} (f : A → B) (p : A → Bool) (xs : List A) (i : ℕ) (d : A) → i < length xs → p (get_or xs i d) ≡ true
    → map f (filter p (take (i + 1) xs)) ≡ map f (filter p (take i xs)) ++ f (get_or xs i d) ∷ []
kept_more f p xs i d within h =
    ap (map f) (filter_more p xs i d within ∙ ap (λ b. filter p (take i xs) ++ cond b (get_or xs i d ∷ []) []) h) ∙ map_push f (filter p (take i xs)) (get_or xs i d)

pub left_more : {A B : Type 0} (f : A → B) (p : A → Bool) (xs : List A) (i : ℕ) (d : A) → i < length xs → p (get_or xs i d) ≡ false
    → map f (filter p (take (i + 1) xs)) ≡ map f (filter p (take i xs))
left_more f p xs i d within h =
    ap (map f) (filter_more p xs i d within ∙ ap (λ b. filter p (take i xs) ++ cond b (get_or xs i d ∷ []) []) h ∙ append-nil (filter p (take i xs)))

once_kept : {A : Type 0} (p : A → Bool) (x : A) (xs zs : List A) (b : Bool) → (Contains xs x → ⊥) → ((y : A) → Contains zs y → Contains xs y) → EachOnce zs → EachOnce (cond b (x ∷ zs) zs)
once_kept p x xs zs true new within h = (λ c. new (within x c), h)
once_kept p x xs zs false new within h = h

pub once_filter : {A : Type 0} (p : A → Bool) (xs : List A) → EachOnce xs → EachOnce (filter p xs)
once_filter p [] h = tt
once_filter p (x ∷ xs) h = once_kept p x xs (filter p xs) (p x) h.0 (λ y c. (from_filter p xs y c).0) (once_filter p xs h.1)

pub once_map : {A B : Type 0} (f : A → B) (xs : List A) → ((x y : A) → Contains xs x → Contains xs y → f x ≡ f y → x ≡ y) → EachOnce xs → EachOnce (map f xs)
once_map f [] one h = tt
once_map f (x ∷ xs) one h = (
  λ c. let r = from_map f xs (f x) c in
      h.0 (subst (λ z. Contains xs z) (one r.0 x (there x r.0 xs r.1) (here x xs) r.2) r.1),
  once_map f xs (λ y z cy cz e. one y z (there x y xs cy) (there x z xs cz) e) h.1,
)

-- ---- where a list was made of another, so were its parts

pub map_parts : {A B : Type 0} (f : A → B) (xs : List A) (s : List B) (y : B) (t : List B) → map f xs ≡ s ++ y ∷ t
    → (s' : List A) × (x : A) × (t' : List A) × (xs ≡ s' ++ x ∷ t') × (s ≡ map f s') × (y ≡ f x)
map_parts f [] [] y t e = absurd cc
map_parts f [] (z ∷ s) y t e = absurd cc
map_parts f (x ∷ xs) [] y t e = ([], x, xs, refl, refl, cc)
map_parts f (x ∷ xs) (z ∷ s) y t e =
    let r = map_parts f xs s y t (ap (drop 1) e) in
    let front : z ≡ f x = cc in
    (x ∷ r.0, r.1, r.2, ap (λ l. x ∷ l) r.3, ap (λ w. w ∷ s) front ∙ ap (λ l. f x ∷ l) r.4, r.5)

filter_step : {A : Type 0} (p : A → Bool) (x : A) (xs s : List A) (y : A) (t : List A) (b : Bool) → p x ≡ b → cond b (x ∷ filter p xs) (filter p xs) ≡ s ++ y ∷ t
    → ((s₁ : List A) → filter p xs ≡ s₁ ++ y ∷ t → (s' : List A) × (t' : List A) × (xs ≡ s' ++ y ∷ t') × (s₁ ≡ filter p s'))
    → (s' : List A) × (t' : List A) × (x ∷ xs ≡ s' ++ y ∷ t') × (s ≡ filter p s')
filter_step p x xs [] y t true h e more = let same : x ≡ y = cc in ([], xs, ap (λ z. z ∷ xs) same, refl)
filter_step p x xs (z ∷ s) y t true h e more =
    let r = more s cc in
    let same : z ≡ x = cc in
    (x ∷ r.0, r.1, ap (λ l. x ∷ l) r.2, ap (λ w. w ∷ s) same ∙ ap (λ l. x ∷ l) r.3 ∙ ap (λ b. cond b (x ∷ filter p r.0) (filter p r.0)) (sym h))
filter_step p x xs s y t false h e more =
    let r = more s e in
    (x ∷ r.0, r.1, ap (λ l. x ∷ l) r.2, r.3 ∙ ap (λ b. cond b (x ∷ filter p r.0) (filter p r.0)) (sym h))

pub filter_parts : {A : Type 0} (p : A → Bool) (xs s : List A) (y : A) (t : List A) → filter p xs ≡ s ++ y ∷ t
    → (s' : List A) × (t' : List A) × (xs ≡ s' ++ y ∷ t') × (s ≡ filter p s')
filter_parts p [] [] y t e = absurd cc
filter_parts p [] (z ∷ s) y t e = absurd cc
filter_parts p (x ∷ xs) s y t e = filter_step p x xs s y t (p x) refl e (λ s₁. filter_parts p xs s₁ y t)
