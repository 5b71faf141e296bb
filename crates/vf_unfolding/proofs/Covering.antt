-- Literals that cover others, but for the one that 0 is 0, have what follows from these.
use Rattle.std.proofs.Common.{◌≡◌, inl, inr, ℕ, List, [], ◌∷◌, sym, subst}
use Rattle.std.specs.Prelude.{pos, ℤ, Contains}
use Rattle.vf_closure.specs.Terms.{Term, Terms, number}
use Rattle.vf_closure.specs.Literals.{Literal, Equal, NotEqual, AtMost, Difference, NotDifference, False, compares}
use Rattle.vf_closure.specs.Closure.{no_unfoldings, Arises, asked, zero_arises, deeper, in_body, in_case, Same, AllSame, Bound, Conflict}
use Rattle.vf_closure.specs.Closure as c
use Rattle.vf_unfolding.specs.Rounds.{IsCovered}
use Rattle.vf_question.proofs.Has.{contains_has}
use Rattle.vf_question.proofs.Asked.{within_zero}

zero_compared : (l : Literal) (s : Term) → Equal (number (pos 0)) (number (pos 0)) ≡ l → Contains (compares l) s → s ≡ number (pos 0)
zero_compared l s e k = elim (contains_has (number (pos 0) ∷ number (pos 0) ∷ []) s (subst (λ (m : Literal). Contains (compares m) s) (sym e) k)) [
  | inl p ↦ sym p
  | inr r ↦ elim r [ inl p ↦ sym p | inr q ↦ absurd q ]
]

module _ (ls ms : List Literal) (cover : (l : Literal) → Contains ls l → IsCovered ms l) where
  pub arises_over : {d : ℕ} {t : Term} → Arises no_unfoldings ls d t → Arises no_unfoldings ms d t
  arises_over {d} {t} (asked {l} {s} h k w) = elim (cover l h) [
    | inl i ↦ asked {l = l} {s = s} i k w
    | inr e ↦ within_zero ms t s w (zero_compared l s e k)
  ]
  arises_over zero_arises = zero_arises
  arises_over (deeper l a) = deeper l (arises_over a)
  arises_over (in_body l a b w) = cc
  arises_over (in_case l a k s e b w) = cc

  given_over : (a b : Term) → IsCovered ms (Equal a b) → Same no_unfoldings ms a b
  given_over a b (inl i) = c.given i
  given_over a b (inr e) =
      let p : number (pos 0) ≡ a = cc in
      let q : number (pos 0) ≡ b = cc in
      subst (λ (s : Term). Same no_unfoldings ms s b) p (subst (λ (s : Term). Same no_unfoldings ms (number (pos 0)) s) q (c.same_self zero_arises))

  stands : (l : Literal) → (Equal (number (pos 0)) (number (pos 0)) ≡ l → ⊥) → IsCovered ms l → Contains ms l
  stands l n (inl i) = i
  stands l n (inr e) = absurd (n e)

  mutual
    pub same_over : {a b : Term} → Same no_unfoldings ls a b → Same no_unfoldings ms a b
    same_over (c.given {a} {b} h) = given_over a b (cover (Equal a b) h)
    same_over (c.same_self a) = c.same_self (arises_over a)
    same_over (c.same_back h) = c.same_back (same_over h)
    same_over (c.same_through h k) = c.same_through (same_over h) (same_over k)
    same_over (c.congruent a b h) = c.congruent (arises_over a) (arises_over b) (all_over h)
    same_over (c.injective h n p q) = c.injective (same_over h) n p q
    same_over (c.squeezed i j h k) = c.squeezed i j (bound_over h) (bound_over k)
    same_over (c.unfolds l a e) = cc
    same_over (c.unfolds_case l a k s q e) = cc

    all_over : {xs ys : Terms} → AllSame no_unfoldings ls xs ys → AllSame no_unfoldings ms xs ys
    all_over c.no_more = c.no_more
    all_over (c.one_more h k) = c.one_more (same_over h) (all_over k)

    pub bound_over : {x y : Term} {n : ℤ} → Bound no_unfoldings ls x y n → Bound no_unfoldings ms x y n
    bound_over (c.most {x} {y} {c = n} h) = c.most (stands (AtMost x y n) (λ e. cc) (cover (AtMost x y n) h))
    bound_over (c.difference_up {x} {y} {c = n} h) = c.difference_up (stands (Difference x y n) (λ e. cc) (cover (Difference x y n) h))
    bound_over (c.difference_down {x} {y} {c = n} h) = c.difference_down (stands (Difference x y n) (λ e. cc) (cover (Difference x y n) h))
    bound_over (c.still i a) = c.still i (arises_over a)
    bound_over (c.weaker l h) = c.weaker l (bound_over h)
    bound_over (c.chain h k) = c.chain (bound_over h) (bound_over k)
    bound_over (c.sum_up a) = c.sum_up (arises_over a)
    bound_over (c.sum_down a) = c.sum_down (arises_over a)
    bound_over (c.number_up a) = c.number_up (arises_over a)
    bound_over (c.number_down a) = c.number_down (arises_over a)
    bound_over (c.level i j h) = c.level i j (same_over h)

  pub conflict_over : Conflict no_unfoldings ls → Conflict no_unfoldings ms
  conflict_over (c.below_itself h) = c.below_itself (bound_over h)
  conflict_over (c.clash k h) = c.clash k (same_over h)
  conflict_over (c.denied_equality {a} {b} h k) = c.denied_equality (stands (NotEqual a b) (λ e. cc) (cover (NotEqual a b) h)) (same_over k)
  conflict_over (c.denied_difference {x} {y} {c = n} h i j) = c.denied_difference (stands (NotDifference x y n) (λ e. cc) (cover (NotDifference x y n) h)) (bound_over i) (bound_over j)
  conflict_over (c.falsehood h) = c.falsehood (stands False (λ e. cc) (cover False h))
