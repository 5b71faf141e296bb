-- The first of some punctuators with which a text begins is the longest, where longer ones stand first.
use Rattle.std.proofs.Common.{◌≡◌, ℕ, zero, suc, ◌<◌, ◌≤◌, Bool, true, false, cond, List, [], ◌∷◌, length, Some, refl, subst, arith}
use Rattle.std.specs.Prelude.{nat_eq, nat_le, ◌&&◌, slice_index_or, Contains}
use Rattle.std.specs.List.{starts_with, list_all}
use Rattle.std.proofs.lemmas.Bool.{leb-true}
use Rattle.vf_lexer.specs.declared.punctuator.Punctuator.{Punctuator}
use Rattle.vf_lexer.specs.Punctuators.{spelling, longest_of, punctuator_of, punctuators_in, real_punctuators, ghost_punctuators}
use Rattle.vf_lexer.proofs.Sizes.{and_left, and_right}

abbrev no_longer : Punctuator → Punctuator → Bool
no_longer p q = nat_le (length (spelling q)) (length (spelling p))

abbrev descending : List Punctuator → Bool
descending [] = true
descending (p ∷ ps) = list_all (no_longer p) (p ∷ ps) && descending ps

pub all_at : (test : Punctuator → Bool) (ps : List Punctuator) (k : ℕ) (q : Punctuator) → list_all test ps ≡ true → k < length ps → slice_index_or ps k q ≡ q → test q ≡ true
all_at test [] k q h lt e = absurd (omega arith)
all_at test (x ∷ xs) zero q h lt e = subst (λ y. test y ≡ true) e (and_left (test x) (list_all test xs) h)
all_at test (x ∷ xs) (suc k) q h lt e = all_at test xs k q (and_right (test x) (list_all test xs) h) (omega arith) e

not_both : {B : Type 0} (b : Bool) → b ≡ true → b ≡ false → B
not_both true h k = absurd cc
not_both false h k = absurd cc

by_front : (x : Punctuator) (xs : List Punctuator) (text : List ℕ) (p q : Punctuator) (k : ℕ) (t : Bool) → starts_with nat_eq text (spelling x) ≡ t → descending (x ∷ xs) ≡ true
    → cond t (Some x) (longest_of xs text) ≡ Some p → k < length (x ∷ xs) → slice_index_or (x ∷ xs) k q ≡ q → starts_with nat_eq text (spelling q) ≡ true
    → ((j : ℕ) → longest_of xs text ≡ Some p → j < length xs → slice_index_or xs j q ≡ q → length (spelling q) ≤ length (spelling p))
    → length (spelling q) ≤ length (spelling p)
by_front x xs text p q k true h d f lt e s later =
    let same : x ≡ p = cc in
    let first : list_all (no_longer x) (x ∷ xs) ≡ true = and_left (list_all (no_longer x) (x ∷ xs)) (descending xs) d in
    subst (λ y. length (spelling q) ≤ length (spelling y)) same (leb-true (length (spelling q)) (length (spelling x)) (all_at (no_longer x) (x ∷ xs) k q first lt e))
by_front x xs text p q zero false h d f lt e s later =
    not_both (starts_with nat_eq text (spelling q)) s (subst (λ y. starts_with nat_eq text (spelling y) ≡ false) e h)
by_front x xs text p q (suc k) false h d f lt e s later = later k f (omega arith) e

longest_in : (ps : List Punctuator) (text : List ℕ) (p q : Punctuator) (k : ℕ) → descending ps ≡ true → longest_of ps text ≡ Some p → k < length ps → slice_index_or ps k q ≡ q
    → starts_with nat_eq text (spelling q) ≡ true → length (spelling q) ≤ length (spelling p)
longest_in [] text p q k d f lt e s = absurd cc
longest_in (x ∷ xs) text p q k d f lt e s =
    by_front x xs text p q k (starts_with nat_eq text (spelling x)) refl d f lt e s
    (λ j g l i. longest_in xs text p q j (and_right (list_all (no_longer x) (x ∷ xs)) (descending xs) d) g l i s)

pub longest : (ghost : Bool) (text : List ℕ) (p q : Punctuator) → punctuator_of ghost text ≡ Some p → Contains (punctuators_in ghost) q → starts_with nat_eq text (spelling q) ≡ true
    → length (spelling q) ≤ length (spelling p)
unfolding punctuator_of
longest true text p q f c s = longest_in ghost_punctuators text p q c.0 refl f c.1 c.2 s
longest false text p q f c s = longest_in real_punctuators text p q c.0 refl f c.1 c.2 s
