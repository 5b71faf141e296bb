-- Elements of lists.
use Rattle.std.proofs.Common.{◌≡◌, ◌⊎◌, zero, suc, List, [], ◌∷◌, ◌++◌, reverse, refl, sym, subst, inl, inr, arith}
use Rattle.std.specs.Prelude.{Contains}
use Rattle.std.proofs.lemmas.List.{reverse-append, reverse-reverse}
use Rattle.std.proofs.lemmas.List.Elements.{Contains-append_left, Contains-append_right, Contains-append_cases, Contains-push, Contains-push_cases}
use Rattle.vf_cycles.specs.Graphs.{EachOnce}

pub here : {A : Type 0} (x : A) (xs : List A) → Contains (x ∷ xs) x
here x xs = (0, omega arith, refl)

pub there : {A : Type 0} (y x : A) (xs : List A) → Contains xs x → Contains (y ∷ xs) x
there y x xs (k, within, is) = (suc k, omega arith, is)

pub nowhere : {A : Type 0} (x : A) → Contains [] x → ⊥
nowhere x (k, within, is) = omega arith

pub front_or_behind : {A : Type 0} (y x : A) (xs : List A) → Contains (y ∷ xs) x → (y ≡ x) ⊎ Contains xs x
front_or_behind y x xs (zero, within, is) = inl is
front_or_behind y x xs (suc k, within, is) = inr (k, omega arith, is)

-- one more between two lists
pub between : {A : Type 0} (s l : List A) (w x : A) → Contains (s ++ l) x → Contains (s ++ w ∷ l) x
between s l w x h = elim (Contains-append_cases s l x h) [
  | inl front ↦ Contains-append_left s (w ∷ l) x front
  | inr behind ↦ Contains-append_right s (w ∷ l) x (there w x l behind)
]

pub between_itself : {A : Type 0} (s l : List A) (w : A) → Contains (s ++ w ∷ l) w
between_itself s l w = Contains-append_right s (w ∷ l) w (here w l)

pub between_cases : {A : Type 0} (s l : List A) (w x : A) → Contains (s ++ w ∷ l) x → (w ≡ x) ⊎ Contains (s ++ l) x
between_cases s l w x h = elim (Contains-append_cases s (w ∷ l) x h) [
  | inl front ↦ inr (Contains-append_left s l x front)
  | inr behind ↦ elim (front_or_behind w x l behind) [
    | inl same ↦ inl same
    | inr rest ↦ inr (Contains-append_right s l x rest)
  ]
]

pub once_between : {A : Type 0} (s l : List A) (w : A) → EachOnce (s ++ l) → (Contains (s ++ l) w → ⊥) → EachOnce (s ++ w ∷ l)
once_between [] l w h new = (new, h)
once_between (x ∷ s) l w h new = (
  λ c. elim (between_cases s l w x c) [
    | inl same ↦ new (subst (λ y. Contains (x ∷ (s ++ l)) y) (sym same) (here x (s ++ l)))
    | inr old ↦ h.0 old
  ],
  once_between s l w h.1 (λ c. new (there x w (s ++ l) c)),
)

pub reverse_push : {A : Type 0} (xs : List A) (x : A) → reverse (xs ++ x ∷ []) ≡ x ∷ reverse xs
reverse_push xs x = reverse-append xs (x ∷ [])

pub in_reverse : {A : Type 0} (xs : List A) (x : A) → Contains xs x → Contains (reverse xs) x
in_reverse [] x h = absurd (nowhere x h)
in_reverse (y ∷ ys) x h =
    let turned : reverse (y ∷ ys) ≡ reverse ys ++ y ∷ [] = reverse-append (y ∷ []) ys in
    elim (front_or_behind y x ys h) [
      | inl same ↦ subst (λ l. Contains l x) (sym turned) (subst (λ z. Contains (reverse ys ++ y ∷ []) z) same (Contains-push (reverse ys) y))
      | inr rest ↦ subst (λ l. Contains l x) (sym turned) (Contains-append_left (reverse ys) (y ∷ []) x (in_reverse ys x rest))
    ]

pub from_reverse : {A : Type 0} (xs : List A) (x : A) → Contains (reverse xs) x → Contains xs x
from_reverse xs x h = subst (λ l. Contains l x) (reverse-reverse xs) (in_reverse (reverse xs) x h)

pub once_apart : {A : Type 0} (s l : List A) (x : A) → EachOnce (s ++ l) → Contains s x → Contains l x → ⊥
once_apart [] l x h cs cl = nowhere x cs
once_apart (y ∷ s) l x h cs cl = elim (front_or_behind y x s cs) [
  | inl same ↦ h.0 (subst (λ z. Contains (s ++ l) z) (sym same) (Contains-append_right s l x cl))
  | inr rest ↦ once_apart s l x h.1 rest cl
]

pub once_front : {A : Type 0} (s l : List A) → EachOnce (s ++ l) → EachOnce s
once_front [] l h = tt
once_front (x ∷ s) l h = (λ c. h.0 (Contains-append_left s l x c), once_front s l h.1)

once_push : {A : Type 0} (xs : List A) (x : A) → EachOnce xs → (Contains xs x → ⊥) → EachOnce (xs ++ x ∷ [])
once_push [] x h new = (λ c. nowhere x c, tt)
once_push (y ∷ ys) x h new = (
  λ c. elim (Contains-push_cases ys x y c) [
    | inl old ↦ h.0 old
    | inr same ↦ new (subst (λ z. Contains (y ∷ ys) z) (sym same) (here y ys))
  ],
  once_push ys x h.1 (λ c. new (there y x ys c)),
)

pub once_reverse : {A : Type 0} (xs : List A) → EachOnce xs → EachOnce (reverse xs)
once_reverse [] h = tt
once_reverse (x ∷ xs) h = subst EachOnce (sym (reverse-append (x ∷ []) xs)) (once_push (reverse xs) x (once_reverse xs h.1) (λ c. h.0 (from_reverse xs x c)))
