-- What plain literals give.
use Rattle.std.proofs.Common.{◌≡◌, ◌≤◌, ◌<◌, ◌^◌, inl, inr, ℕ, zero, suc, List, [], ◌∷◌, length, get_or, map, refl, sym, ap, ◌∙◌, subst, arith}
use Rattle.std.specs.Prelude.{ℤ, pos, Contains, All}
use Rattle.std.proofs.lemmas.Int.{ints}
use Rattle.std.proofs.lemmas.List.{get_or-map, length-map}
use Rattle.vf_arith.specs.Paths.{IsSmall}
use Rattle.vf_closure.specs.Terms.{Head, Number, Term, Terms, term, no_terms, and_term, number, IsAt, here, further_on, IsWithin, itself, below}
use Rattle.vf_closure.specs.Literals.{Literal, Equal, NotEqual, AtMost, Difference, NotDifference, False, compares, IsInteger}
use Rattle.vf_closure.specs.Closure.{no_unfoldings, Arises, asked, zero_arises, deeper, in_body, in_case}
use Rattle.vf_formula.specs.Rows.{row}
use Rattle.vf_question.specs.Plain.{IsPlainOver, IsPlain, ArePlain, IsPlainLiteral}
use Rattle.vf_question.specs.Questions.{AreLeaves}
use Rattle.vf_question.proofs.Has.{Has, contains_has}

-- a bound or a difference is between integer terms, and its number within 2^100
abbrev pub IsBounded : Literal → Type 0
IsBounded (Equal a b) = Unit {0}
IsBounded (NotEqual a b) = Unit {0}
IsBounded (AtMost p n c) = IsInteger p × IsInteger n × IsSmall (2 ^ 100) c
IsBounded (Difference p n c) = IsInteger p × IsInteger n × IsSmall (2 ^ 100) c
IsBounded (NotDifference p n c) = IsInteger p × IsInteger n × IsSmall (2 ^ 100) c
IsBounded False = Unit {0}

-- each literal is bounded, and each number that arises of them within 2^100
pub record AreBounded (literals : List Literal) : Type 0 where
  pub bounds : (l : Literal) → Contains literals l → IsBounded l
  pub numbers : (z : ℤ) (ps : Terms) → Arises no_unfoldings literals 0 (term (Number z) ps) → IsSmall (2 ^ 100) z

plain_part : (p : Term) (i : ℕ) (ps : Terms) → IsAt p i ps → ArePlain ps → IsPlain p
plain_part p i no_terms a h = elim a [ ]
plain_part p zero (and_term q qs) here h = h.0
plain_part p (suc i) (and_term q qs) (further_on a) h = plain_part p i qs a h.1

plain_within : (u t : Term) → IsWithin u t → IsPlain t → IsPlain u
plain_within u t itself h = h
plain_within u (term h ps) (below {u = p} {i = i} a w) k = plain_within u p w (plain_part p i ps a k.1)

compared_plain : (l : Literal) (t : Term) → Has (compares l) t → IsPlainLiteral l → IsPlain t
compared_plain (Equal a b) t (inl e) h = subst IsPlain e h.0
compared_plain (Equal a b) t (inr (inl e)) h = subst IsPlain e h.1
compared_plain (NotEqual a b) t (inl e) h = subst IsPlain e h.0
compared_plain (NotEqual a b) t (inr (inl e)) h = subst IsPlain e h.1
compared_plain (AtMost p n c) t (inl e) h = subst IsPlain e h.0
compared_plain (AtMost p n c) t (inr (inl e)) h = subst IsPlain e h.1
compared_plain (Difference p n c) t (inl e) h = subst IsPlain e h.0
compared_plain (Difference p n c) t (inr (inl e)) h = subst IsPlain e h.1
compared_plain (NotDifference p n c) t (inl e) h = subst IsPlain e h.0
compared_plain (NotDifference p n c) t (inr (inl e)) h = subst IsPlain e h.1
compared_plain (Equal a b) t (inr (inr k)) h = absurd k
compared_plain (NotEqual a b) t (inr (inr k)) h = absurd k
compared_plain (AtMost p n c) t (inr (inr k)) h = absurd k
compared_plain (Difference p n c) t (inr (inr k)) h = absurd k
compared_plain (NotDifference p n c) t (inr (inr k)) h = absurd k
compared_plain False t k h = absurd k

literal_at : (ls : List Literal) (l : Literal) → All IsPlainLiteral ls → Contains ls l → IsPlainLiteral l
literal_at ls l h c = subst IsPlainLiteral c.2 (h c.0 l c.1)

zero_plain : IsPlain (number (pos 0))
zero_plain = ((refl, record { low = omega (arith, ints); high = omega (arith, ints) }), tt)

-- whatever arises of plain literals is plain
pub arising_plain : (ls : List Literal) (d : ℕ) (t : Term) → All IsPlainLiteral ls → Arises no_unfoldings ls d t → IsPlain t
arising_plain ls d t h (asked {l} {s} c k w) = plain_within t s w (compared_plain l s (contains_has (compares l) s k) (literal_at ls l h c))
arising_plain ls d t h zero_arises = zero_plain
arising_plain ls d t h (deeper {d = e} i a) = arising_plain ls e t h a
arising_plain ls d t h (in_body i a b w) = cc
arising_plain ls d t h (in_case i a k s e c w) = cc

pub leaves : (ls : List Literal) → All IsPlainLiteral ls → AreLeaves ls
leaves ls h z ps a = (arising_plain ls zero (term (Number z) ps) h a).0.0

bounded_literal : (l : Literal) → IsPlainLiteral l → IsBounded l
bounded_literal (Equal a b) h = tt
bounded_literal (NotEqual a b) h = tt
bounded_literal (AtMost p n c) h = (h.2, h.3, h.4)
bounded_literal (Difference p n c) h = (h.2, h.3, h.4)
bounded_literal (NotDifference p n c) h = (h.2, h.3, h.4)
bounded_literal False h = tt

pub bounded : (ls : List Literal) → All IsPlainLiteral ls → AreBounded ls
bounded ls h = record { bounds = λ l c. bounded_literal l (literal_at ls l h c); numbers = λ z ps a. (arising_plain ls zero (term (Number z) ps) h a).0.1 }

row_empty : (ts : List Term) → row ts ≡ no_terms → ts ≡ []
row_empty [] e = refl
row_empty (t ∷ ts) e = cc

-- a number with parts is not plain
pub not_over : (h : Head) (z : ℤ) (ps : List Term) → h ≡ Number z → (ps ≡ [] → ⊥) → IsPlainOver h (row ps) → ⊥
not_over h z ps e n k = let P : Head → Type 0 = λ g. IsPlainOver g (row ps) in n (row_empty ps ((subst P e k).0))

row_plain : (ps : List Term) (i : ℕ) (p : Term) → i < length ps → p ≡ get_or ps i p → ArePlain (row ps) → IsPlain p
row_plain [] i p l e h = absurd (omega arith)
row_plain (q ∷ qs) zero p l e h = subst IsPlain (sym e) h.0
row_plain (q ∷ qs) (suc i) p l e h = row_plain qs i p (omega arith) e h.1

-- a part of a plain term is plain
pub listed_plain : (h : Head) (ps : List Term) (i : ℕ) (p t : Term) → t ≡ term h (row ps) → i < length ps → p ≡ get_or ps i p → IsPlain t → IsPlain p
listed_plain h ps i p t w l e k = row_plain ps i p l e ((subst IsPlain w k).1)

pub one_of_all : {A B : Type 0} (P : B → Type 0) (f : A → B) (xs : List A) (i : ℕ) (x : A) → All P (map f xs) → i < length xs → x ≡ get_or xs i x → P (f x)
one_of_all P f xs i x h l e = subst P (get_or-map f xs i x (f x) l ∙ ap f (sym e)) (h i (f x) (omega (arith, length-map xs f)))

pub all_of_each : {A B : Type 0} (P : B → Type 0) (f : A → B) (xs : List A) (n : ℕ) (a : A) → length xs ≤ n → ((k : ℕ) (d : A) → k < n → P (f (get_or xs k d))) → All P (map f xs)
all_of_each P f xs n a l h k d m =
    let i : k < length xs = omega (arith, length-map xs f) in
    subst P (sym (get_or-map f xs k a d i)) (h k a (omega arith))
