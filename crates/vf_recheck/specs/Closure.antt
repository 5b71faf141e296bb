-- The closure of literals, with fixpoints unfolded to any depth, and its conflicts.
use Rattle.std.specs.Prelude.{◌≡◌, ℤ, pos, negsuc, neg_ℤ, ◌+ℤ◌, ◌≤ℤ◌, ℕ, List, Contains, Some}
use Rattle.vf_tree.specs.Core.{Identity}
use Rattle.vf_closure.specs.Terms.{Head, Constructor, Term, Terms, term, no_terms, and_term, number, plus, count, IsAt, IsWithin}
use Rattle.vf_closure.specs.Literals.{Literal, Equal, NotEqual, AtMost, Difference, NotDifference, False, compares, IsInteger}
use Rattle.vf_closure.specs.Closure.{Unfoldings, AreClashing}

mutual
  -- The terms that arise: those of the literals and their subterms, and 0; and the subterms of what an application that arises is unfolded to
  pub data Arises (u : Unfoldings) (facts : List Literal) : Term → Type 0 where
    asked : {l : Literal} {s t : Term} → Contains facts l → Contains (compares l) s → IsWithin t s → Arises u facts t
    zero_arises : Arises u facts (number (pos 0))
    in_body : {t b s : Term} → Arises u facts t → u.body t ≡ Some b → IsWithin s b → Arises u facts s
    in_case : {c : Identity} {ks : Terms} {t a b s : Term} → Arises u facts t → Arises u facts (term (Constructor c) ks) → u.switched t ≡ Some a → Same u facts a (term (Constructor c) ks) → u.case t (term (Constructor c) ks) ≡ Some b → IsWithin s b → Arises u facts s

  -- The equalities: those given; reflexive, symmetric and transitive; terms of one head with equal parts; parts of equal terms of one constructor; integer terms with bound 0 both ways; and an application with what it is unfolded to
  pub data Same (u : Unfoldings) (facts : List Literal) : Term → Term → Type 0 where
    given : {a b : Term} → Contains facts (Equal a b) → Same u facts a b
    same_self : {a : Term} → Arises u facts a → Same u facts a a
    same_back : {a b : Term} → Same u facts a b → Same u facts b a
    same_through : {a b c : Term} → Same u facts a b → Same u facts b c → Same u facts a c
    congruent : {h : Head} {xs ys : Terms} → Arises u facts (term h xs) → Arises u facts (term h ys) → AllSame u facts xs ys → Same u facts (term h xs) (term h ys)
    injective : {c : Identity} {xs ys : Terms} {i : ℕ} {a b : Term} → Same u facts (term (Constructor c) xs) (term (Constructor c) ys) → count xs ≡ count ys → IsAt a i xs → IsAt b i ys → Same u facts a b
    squeezed : {a b : Term} → IsInteger a → IsInteger b → Bound u facts a b (pos 0) → Bound u facts b a (pos 0) → Same u facts a b
    unfolds : {t b : Term} → Arises u facts t → u.body t ≡ Some b → Same u facts t b
    unfolds_case : {c : Identity} {ks : Terms} {t a b : Term} → Arises u facts t → Arises u facts (term (Constructor c) ks) → u.switched t ≡ Some a → Same u facts a (term (Constructor c) ks) → u.case t (term (Constructor c) ks) ≡ Some b → Same u facts t b

  -- terms in a row are equal, place by place
  pub data AllSame (u : Unfoldings) (facts : List Literal) : Terms → Terms → Type 0 where
    no_more : AllSame u facts no_terms no_terms
    one_more : {a b : Term} {xs ys : Terms} → Same u facts a b → AllSame u facts xs ys → AllSame u facts (and_term a xs) (and_term b ys)

  -- The bounds x - y <= c: those given, a difference as two; 0 between an integer term that arises and itself; weaker ones; chains; a sum Q + c differs from Q by exactly c, and a number k from 0 by exactly k; and equal integer terms have bound 0
  pub data Bound (u : Unfoldings) (facts : List Literal) : Term → Term → ℤ → Type 0 where
    most : {x y : Term} {c : ℤ} → Contains facts (AtMost x y c) → Bound u facts x y c
    difference_up : {x y : Term} {c : ℤ} → Contains facts (Difference x y c) → Bound u facts x y c
    difference_down : {x y : Term} {c : ℤ} → Contains facts (Difference x y c) → Bound u facts y x (neg_ℤ c)
    still : {x : Term} → IsInteger x → Arises u facts x → Bound u facts x x (pos 0)
    weaker : {x y : Term} {c d : ℤ} → c ≤ℤ d → Bound u facts x y c → Bound u facts x y d
    chain : {x y z : Term} {c d : ℤ} → Bound u facts x y c → Bound u facts y z d → Bound u facts x z (c +ℤ d)
    sum_up : {q : Term} {c : ℤ} → Arises u facts (plus q c) → Bound u facts (plus q c) q c
    sum_down : {q : Term} {c : ℤ} → Arises u facts (plus q c) → Bound u facts q (plus q c) (neg_ℤ c)
    number_up : {k : ℤ} → Arises u facts (number k) → Bound u facts (number k) (number (pos 0)) k
    number_down : {k : ℤ} → Arises u facts (number k) → Bound u facts (number (pos 0)) (number k) (neg_ℤ k)
    level : {x y : Term} → IsInteger x → IsInteger y → Same u facts x y → Bound u facts x y (pos 0)

-- what cannot be: a term below itself; two equal terms whose heads clash; an equality beside its negation; a difference beside its negation; `false`
pub data HasConflict (u : Unfoldings) (facts : List Literal) : Type 0 where
  below_itself : {x : Term} → Bound u facts x x (negsuc 0) → HasConflict u facts
  clash : {h k : Head} {xs ys : Terms} → AreClashing h k → Same u facts (term h xs) (term k ys) → HasConflict u facts
  denied_equality : {a b : Term} → Contains facts (NotEqual a b) → Same u facts a b → HasConflict u facts
  denied_difference : {x y : Term} {c : ℤ} → Contains facts (NotDifference x y c) → Bound u facts x y c → Bound u facts y x (neg_ℤ c) → HasConflict u facts
  falsehood : Contains facts False → HasConflict u facts
