-- The terms of literals are those that arise of them.
use Rattle.std.proofs.Common.{◌≡◌, ◌⊎◌, inl, inr, ℕ, zero, List, [], ◌∷◌, refl, sym, subst}
use Rattle.std.specs.Prelude.{pos}
use Rattle.vf_closure.specs.Terms.{Head, Term, Terms, term, number, IsAt, here, further_on, IsWithin, itself, below}
use Rattle.vf_closure.specs.Literals.{Literal, compares}
use Rattle.vf_closure.specs.Closure.{no_unfoldings, Arises, asked, zero_arises, deeper, in_body, in_case}
use Rattle.vf_question.specs.Numbered.{with_term, with_all, with_literals, terms_of, all_terms}
use Rattle.vf_question.proofs.Has.{Has, AreOnce, contains_has, has_contains, term_keeps, term_has, term_only, term_once}

-- ---- several terms
pub all_keep : (ss ts : List Term) (u : Term) → Has ts u → Has (with_all ss ts) u
all_keep [] ts u k = k
all_keep (s ∷ ss) ts u k = all_keep ss (with_term s ts) u (term_keeps s ts u k)

pub all_have : (ss ts : List Term) (s u : Term) → Has ss s → IsWithin u s → Has (with_all ss ts) u
all_have [] ts s u h w = absurd h
all_have (r ∷ rs) ts s u (inl e) w = all_keep rs (with_term r ts) u (term_has r ts u (subst (IsWithin u) (sym e) w))
all_have (r ∷ rs) ts s u (inr h) w = all_have rs (with_term r ts) s u h w

-- a term within one of several
pub record IsInOne (u : Term) (ss : List Term) : Type 0 where
  pub whole : Term
  pub stands : Has ss whole
  pub within : IsWithin u whole

all_first : (s : Term) (ss ts : List Term) (u : Term) → Has ts u ⊎ IsWithin u s → Has ts u ⊎ IsInOne u (s ∷ ss)
all_first s ss ts u (inl k) = inl k
all_first s ss ts u (inr w) = inr (record { whole = s; stands = inl refl; within = w })

pub all_only : (ss ts : List Term) (u : Term) → Has (with_all ss ts) u → Has ts u ⊎ IsInOne u ss
all_only [] ts u k = inl k
all_only (s ∷ ss) ts u k = elim (all_only ss (with_term s ts) u k) [ inl r ↦ all_first s ss ts u (term_only s ts u r) | inr w ↦ inr (record { whole = w.whole; stands = inr w.stands; within = w.within }) ]

all_once : (ss ts : List Term) → AreOnce ts → AreOnce (with_all ss ts)
all_once [] ts o = o
all_once (s ∷ ss) ts o = all_once ss (with_term s ts) (term_once s ts o)

-- ---- literals
pub literals_keep : (ls : List Literal) (ts : List Term) (u : Term) → Has ts u → Has (with_literals ls ts) u
literals_keep [] ts u k = k
literals_keep (l ∷ ls) ts u k = literals_keep ls (with_all (compares l) ts) u (all_keep (compares l) ts u k)

pub literals_have : (ls : List Literal) (ts : List Term) (l : Literal) (s u : Term) → Has ls l → Has (compares l) s → IsWithin u s → Has (with_literals ls ts) u
literals_have [] ts l s u h c w = absurd h
literals_have (k ∷ ks) ts l s u (inl e) c w = literals_keep ks (with_all (compares k) ts) u (all_have (compares k) ts s u (subst (λ (x : Literal). Has (compares x) s) (sym e) c) w)
literals_have (k ∷ ks) ts l s u (inr h) c w = literals_have ks (with_all (compares k) ts) l s u h c w

-- a term within what a literal compares
pub record IsAsked (u : Term) (ls : List Literal) : Type 0 where
  pub by : Literal
  pub stands : Has ls by
  pub whole : Term
  pub compared : Has (compares by) whole
  pub within : IsWithin u whole

literals_first : (l : Literal) (ls : List Literal) (ts : List Term) (u : Term) → Has ts u ⊎ IsInOne u (compares l) → Has ts u ⊎ IsAsked u (l ∷ ls)
literals_first l ls ts u (inl k) = inl k
literals_first l ls ts u (inr w) = inr (record { by = l; stands = inl refl; whole = w.whole; compared = w.stands; within = w.within })

pub literals_only : (ls : List Literal) (ts : List Term) (u : Term) → Has (with_literals ls ts) u → Has ts u ⊎ IsAsked u ls
literals_only [] ts u k = inl k
literals_only (l ∷ ls) ts u k = elim (literals_only ls (with_all (compares l) ts) u k) [ inl r ↦ literals_first l ls ts u (all_only (compares l) ts u r) | inr w ↦ inr (record { by = w.by; stands = inr w.stands; whole = w.whole; compared = w.compared; within = w.within }) ]

literals_once : (ls : List Literal) (ts : List Term) → AreOnce ts → AreOnce (with_literals ls ts)
literals_once [] ts o = o
literals_once (l ∷ ls) ts o = literals_once ls (with_all (compares l) ts) (all_once (compares l) ts o)

-- ---- all terms
pub terms_once : (ls : List Literal) → AreOnce (all_terms ls)
terms_once ls = term_once (number (pos 0)) (terms_of ls) (literals_once ls [] tt)

asked_arises : (ls : List Literal) (u : Term) → IsAsked u ls → Arises no_unfoldings ls zero u
asked_arises ls u a = asked (has_contains ls a.by a.stands) (has_contains (compares a.by) a.whole a.compared) a.within

pub within_zero : (ls : List Literal) (u t : Term) → IsWithin u t → t ≡ number (pos 0) → Arises no_unfoldings ls zero u
within_zero ls u t itself e = subst (Arises no_unfoldings ls zero) (sym e) zero_arises
within_zero ls u t (below here w) e = cc
within_zero ls u t (below (further_on a) w) e = cc

from_nothing : (ls : List Literal) (u : Term) → Has [] u ⊎ IsAsked u ls → Arises no_unfoldings ls zero u
from_nothing ls u (inl k) = absurd k
from_nothing ls u (inr a) = asked_arises ls u a

-- each term of the list arises
pub term_arises : (ls : List Literal) (u : Term) → Has (all_terms ls) u → Arises no_unfoldings ls zero u
term_arises ls u h = elim (term_only (number (pos 0)) (terms_of ls) u h) [ inl k ↦ from_nothing ls u (literals_only ls [] u k) | inr w ↦ within_zero ls u (number (pos 0)) w refl ]

-- and each term that arises is in the list
pub has_arising : (ls : List Literal) (d : ℕ) (u : Term) → Arises no_unfoldings ls d u → Has (all_terms ls) u
has_arising ls d u (asked {l} {s} c k w) = term_keeps (number (pos 0)) (terms_of ls) u (literals_have ls [] l s u (contains_has ls l c) (contains_has (compares l) s k) w)
has_arising ls d u zero_arises = term_has (number (pos 0)) (terms_of ls) (number (pos 0)) itself
has_arising ls d u (deeper {d = e} i a) = has_arising ls e u a
has_arising ls d u (in_body i a b w) = cc
has_arising ls d u (in_case i a k s e c w) = cc

-- what is within what is within
pub within_through : {t u s : Term} → IsWithin u t → IsWithin t s → IsWithin u s
within_through w itself = w
within_through w (below a v) = below a (within_through w v)

part_of_zero : (p : Term) (i : ℕ) (h : Head) (ps : Terms) → IsAt p i ps → term h ps ≡ number (pos 0) → ⊥
part_of_zero p i h ps here e = cc
part_of_zero p i h ps (further_on a) e = cc

pub part_arises : (ls : List Literal) (d : ℕ) (h : Head) (ps : Terms) (p : Term) (i : ℕ) (t : Term) → Arises no_unfoldings ls d t → t ≡ term h ps → IsAt p i ps → Arises no_unfoldings ls zero p
part_arises ls d h ps p i t (asked {l} {s} c k w) e a = asked {l = l} {s = s} c k (within_through (below a itself) (subst (λ (x : Term). IsWithin x s) e w))
part_arises ls d h ps p i t zero_arises e a = absurd (part_of_zero p i h ps a (sym e))
part_arises ls d h ps p i t (deeper {d = c} j b) e a = part_arises ls c h ps p i t b e a
part_arises ls d h ps p i t (in_body j b f w) e a = cc
part_arises ls d h ps p i t (in_case j b k s f c w) e a = cc

-- the parts of each term of the list are in the list
pub has_part : (ls : List Literal) (h : Head) (ps : Terms) (p : Term) (i : ℕ) → Has (all_terms ls) (term h ps) → IsAt p i ps → Has (all_terms ls) p
has_part ls h ps p i k a = has_arising ls zero p (part_arises ls zero h ps p i (term h ps) (term_arises ls (term h ps) k) refl a)
