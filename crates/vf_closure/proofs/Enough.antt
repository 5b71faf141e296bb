-- The closure with unfolding has a conflict exactly where that without has one, over facts and equations.
use Rattle.std.proofs.Common.{◌≡◌, ℕ, zero, ◌≤◌, inl, inr, List, ◌++◌, refl, subst, arith}
use Rattle.std.specs.Prelude.{ℤ, Contains}
use Rattle.std.proofs.lemmas.List.Elements.{Contains-append_left, Contains-append_right, Contains-append_cases}
use Rattle.vf_closure.specs.Terms.{Term, Terms}
use Rattle.vf_closure.specs.Literals.{Literal, Equal, NotEqual, AtMost, Difference, NotDifference, False}
use Rattle.vf_closure.specs.Closure as T
use Rattle.vf_closure.specs.Closure.{Unfoldings, no_unfoldings}
use Rattle.vf_closure.specs.Made.{IsMade, AreAllMade, UnfoldingsAreEnough}

module _ (u : Unfoldings) (facts made : List Literal) (depth : Term → ℕ) (all : AreAllMade u facts made depth) where
  old : (l : Literal) → Contains facts l → Contains (facts ++ made) l
  old l = Contains-append_left facts made l

  new : (l : Literal) → Contains made l → Contains (facts ++ made) l
  new l = Contains-append_right facts made l

  -- a term arises without unfolding, and stands no deeper than this
  record Known (d : ℕ) (t : Term) : Type 0 where
    arises : T.Arises no_unfoldings (facts ++ made) zero t
    under : depth t ≤ d

  mutual
    arises_in : {d : ℕ} {t : Term} → T.Arises u facts d t → Known d t
    arises_in (T.asked {l = l} {s = s} {t = t} h k p) = record { arises = T.asked (old l h) k p; under = all.first t (T.asked h k p) }
    arises_in T.zero_arises = record { arises = T.zero_arises; under = all.first _ T.zero_arises }
    arises_in (T.deeper l h) = let k = arises_in h in record { arises = k.arises; under = let w = k.under in omega arith }
    arises_in (T.in_body {t = t} {b = b} {s = s} l h e p) = let k = arises_in h in
        record {
          arises = T.asked (new (Equal t b) (all.bodies t b k.arises (let w = k.under in omega arith) e)) (1, omega arith, refl) p;
          under = let w = k.under in let z = all.body_depths t b s k.arises (let w = k.under in omega arith) e p in omega arith;
        }
    arises_in (T.in_case {d = d} {c = c} {ks = ks} {t = t} {a = a} {b = b} {s = s} l i j e q f p) = let k = arises_in i in let k' = arises_in j in let r = same_in q in
        record {
          arises = T.asked (new (Equal t b) (all.cases d c ks t a b k.arises k'.arises k.under k'.under l e r f)) (1, omega arith, refl) p;
          under = all.case_depths d c ks t a b s k.arises k'.arises k.under k'.under l e r f p;
        }

    same_in : {s t : Term} → T.Same u facts s t → T.Same no_unfoldings (facts ++ made) s t
    same_in (T.given {a = a} {b = b} h) = T.given (old (Equal a b) h)
    same_in (T.same_self h) = T.same_self (arises_in h).arises
    same_in (T.same_back h) = T.same_back (same_in h)
    same_in (T.same_through h k) = T.same_through (same_in h) (same_in k)
    same_in (T.congruent h k e) = T.congruent (arises_in h).arises (arises_in k).arises (all_in e)
    same_in (T.injective e n p q) = T.injective (same_in e) n p q
    same_in (T.squeezed i j h k) = T.squeezed i j (bound_in h) (bound_in k)
    same_in (T.unfolds {t = t} {b = b} l h e) = let k = arises_in h in T.given (new (Equal t b) (all.bodies t b k.arises (let w = k.under in omega arith) e))
    same_in (T.unfolds_case {d = d} {c = c} {ks = ks} {t = t} {a = a} {b = b} l i j e q f) = let k = arises_in i in let k' = arises_in j in
        T.given (new (Equal t b) (all.cases d c ks t a b k.arises k'.arises k.under k'.under l e (same_in q) f))

    all_in : {xs ys : Terms} → T.AllSame u facts xs ys → T.AllSame no_unfoldings (facts ++ made) xs ys
    all_in T.no_more = T.no_more
    all_in (T.one_more h k) = T.one_more (same_in h) (all_in k)

    bound_in : {s t : Term} {c : ℤ} → T.Bound u facts s t c → T.Bound no_unfoldings (facts ++ made) s t c
    bound_in (T.most {x = x} {y = y} {c = c} h) = T.most (old (AtMost x y c) h)
    bound_in (T.difference_up {x = x} {y = y} {c = c} h) = T.difference_up (old (Difference x y c) h)
    bound_in (T.difference_down {x = x} {y = y} {c = c} h) = T.difference_down (old (Difference x y c) h)
    bound_in (T.still i h) = T.still i (arises_in h).arises
    bound_in (T.weaker l h) = T.weaker l (bound_in h)
    bound_in (T.chain h k) = T.chain (bound_in h) (bound_in k)
    bound_in (T.sum_up h) = T.sum_up (arises_in h).arises
    bound_in (T.sum_down h) = T.sum_down (arises_in h).arises
    bound_in (T.number_up h) = T.number_up (arises_in h).arises
    bound_in (T.number_down h) = T.number_down (arises_in h).arises
    bound_in (T.level i j h) = T.level i j (same_in h)

  made_out : {a b : Term} → Contains made (Equal a b) → T.Same u facts a b
  made_out {a} {b} m = let r = all.right (Equal a b) m in
      subst (λ z. T.Same u facts z b) (let e = r.is in let f : r.application ≡ a = cc in f) (subst (T.Same u facts r.application) (let e = r.is in let f : r.body ≡ b = cc in f) r.follows)

  -- a literal that is no equation was not made
  only : (l : Literal) → (IsMade u facts l → ⊥) → Contains (facts ++ made) l → Contains facts l
  only l none m = elim (Contains-append_cases facts made l m) [ inl k ↦ k | inr k ↦ absurd (none (all.right l k)) ]

  -- without unfolding a term that arises arises at depth 0
  at_first : {d : ℕ} {t : Term} → T.Arises no_unfoldings (facts ++ made) d t → T.Arises no_unfoldings (facts ++ made) zero t
  at_first (T.asked h k p) = T.asked h k p
  at_first T.zero_arises = T.zero_arises
  at_first (T.deeper l h) = at_first h
  at_first (T.in_body l h e p) = absurd (cc)
  at_first (T.in_case l i j e q f p) = absurd (cc)

  reached : {d : ℕ} {t : Term} → T.Arises no_unfoldings (facts ++ made) d t → T.Arises u facts (depth t) t
  reached {d} {t} h = all.reached t (at_first h)

  mutual
    same_out : {s t : Term} → T.Same no_unfoldings (facts ++ made) s t → T.Same u facts s t
    same_out (T.given {a = a} {b = b} h) = elim (Contains-append_cases facts made (Equal a b) h) [ inl k ↦ T.given k | inr k ↦ made_out k ]
    same_out (T.same_self h) = T.same_self (reached h)
    same_out (T.same_back h) = T.same_back (same_out h)
    same_out (T.same_through h k) = T.same_through (same_out h) (same_out k)
    same_out (T.congruent h k e) = T.congruent (reached h) (reached k) (all_out e)
    same_out (T.injective e n p q) = T.injective (same_out e) n p q
    same_out (T.squeezed i j h k) = T.squeezed i j (bound_out h) (bound_out k)
    same_out (T.unfolds l h e) = absurd (cc)
    same_out (T.unfolds_case l i j e q f) = absurd (cc)

    all_out : {xs ys : Terms} → T.AllSame no_unfoldings (facts ++ made) xs ys → T.AllSame u facts xs ys
    all_out T.no_more = T.no_more
    all_out (T.one_more h k) = T.one_more (same_out h) (all_out k)

    bound_out : {s t : Term} {c : ℤ} → T.Bound no_unfoldings (facts ++ made) s t c → T.Bound u facts s t c
    bound_out (T.most {x = x} {y = y} {c = c} h) = T.most (only (AtMost x y c) (λ r. let e = r.is in cc) h)
    bound_out (T.difference_up {x = x} {y = y} {c = c} h) = T.difference_up (only (Difference x y c) (λ r. let e = r.is in cc) h)
    bound_out (T.difference_down {x = x} {y = y} {c = c} h) = T.difference_down (only (Difference x y c) (λ r. let e = r.is in cc) h)
    bound_out (T.still i h) = T.still i (reached h)
    bound_out (T.weaker l h) = T.weaker l (bound_out h)
    bound_out (T.chain h k) = T.chain (bound_out h) (bound_out k)
    bound_out (T.sum_up h) = T.sum_up (reached h)
    bound_out (T.sum_down h) = T.sum_down (reached h)
    bound_out (T.number_up h) = T.number_up (reached h)
    bound_out (T.number_down h) = T.number_down (reached h)
    bound_out (T.level i j h) = T.level i j (same_out h)

  conflict_in : T.Conflict u facts → T.Conflict no_unfoldings (facts ++ made)
  conflict_in (T.below_itself h) = T.below_itself (bound_in h)
  conflict_in (T.clash n e) = T.clash n (same_in e)
  conflict_in (T.denied_equality {a = a} {b = b} m e) = T.denied_equality (old (NotEqual a b) m) (same_in e)
  conflict_in (T.denied_difference {x = x} {y = y} {c = c} m h k) = T.denied_difference (old (NotDifference x y c) m) (bound_in h) (bound_in k)
  conflict_in (T.falsehood m) = T.falsehood (old False m)

  conflict_out : T.Conflict no_unfoldings (facts ++ made) → T.Conflict u facts
  conflict_out (T.below_itself h) = T.below_itself (bound_out h)
  conflict_out (T.clash n e) = T.clash n (same_out e)
  conflict_out (T.denied_equality {a = a} {b = b} m e) = T.denied_equality (only (NotEqual a b) (λ r. let e = r.is in cc) m) (same_out e)
  conflict_out (T.denied_difference {x = x} {y = y} {c = c} m h k) = T.denied_difference (only (NotDifference x y c) (λ r. let e = r.is in cc) m) (bound_out h) (bound_out k)
  conflict_out (T.falsehood m) = T.falsehood (only False (λ r. let e = r.is in cc) m)

pub unfoldings_enough : UnfoldingsAreEnough
unfoldings_enough u facts made depth all = (conflict_in u facts made depth all, conflict_out u facts made depth all)
