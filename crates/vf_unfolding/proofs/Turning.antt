-- Unfoldings that came in turn.
use Rattle.std.proofs.Common.{◌≡◌, ◌≤◌, ◌⊎◌, inl, inr, ℕ, zero, suc, Bool, true, false, cond, List, [], ◌∷◌, ◌++◌, length, take, Option, Some, None, slice_get, refl, sym, ap, subst, arith}
use Rattle.std.specs.Prelude.{Contains}
use Rattle.std.proofs.Math.Seq.{take-length}
use Rattle.std.proofs.lemmas.Bool.{false≢true}
use Rattle.std.proofs.lemmas.List.Elements.{Contains-append_left, Contains-append_right, Contains-append_cases}
use Rattle.vf_closure.specs.Terms.{Constructor, Term, term}
use Rattle.vf_closure.specs.Literals.{Literal}
use Rattle.vf_closure.specs.Closure.{Unfoldings, no_unfoldings}
use Rattle.vf_question.specs.declared.unfolding.Unfolding.{Unfolding}
use Rattle.vf_question.specs.Numbered.{all_terms}
use Rattle.vf_question.specs.Unfolded.{equations, is_in, least_depth, depth_of, AreRight, IsNext, next_body, next_case}
use Rattle.vf_question.proofs.Has.{contains_has}
use Rattle.vf_question.proofs.Asked.{has_arising, term_arises}
use Rattle.vf_question.proofs.Settled.{in_has, has_in, next_right}
use Rattle.vf_unfolding.specs.Rounds.{AreInTurn}
use Rattle.vf_unfolding.proofs.Later.{arises_later, same_later, known_later}

-- ---- fronts of lists
-- with the element at a place the front goes on
front_more : {X : Type 0} (xs : List X) (k : ℕ) (x : X) → slice_get xs k ≡ Some x → take (suc k) xs ≡ take k xs ++ x ∷ []
front_more [] k x e = absurd cc
front_more (y ∷ ys) zero x e = let f : y ≡ x = cc in ap (λ z. z ∷ []) f
front_more (y ∷ ys) (suc k) x e = ap (λ zs. y ∷ zs) (front_more ys k x e)

-- past the end nothing comes
front_whole : {X : Type 0} (xs : List X) (k : ℕ) → slice_get xs k ≡ None → take (suc k) xs ≡ take k xs
front_whole [] zero e = refl
front_whole [] (suc k) e = refl
front_whole (y ∷ ys) zero e = absurd cc
front_whole (y ∷ ys) (suc k) e = ap (λ zs. y ∷ zs) (front_whole ys k e)

-- what stands in a list with one more at its end stood there, before what stood after it, or is the last, after all the others
last_or_before : {X : Type 0} (xs : List X) (x : X) (k : ℕ) (y : X) → slice_get (xs ++ x ∷ []) k ≡ Some y → ((slice_get xs k ≡ Some y) × (take k (xs ++ x ∷ []) ≡ take k xs)) ⊎ ((x ≡ y) × (take k (xs ++ x ∷ []) ≡ xs))
last_or_before [] x zero y e = inr (cc, refl)
last_or_before [] x (suc k) y e = absurd cc
last_or_before (z ∷ zs) x zero y e = inl (e, refl)
last_or_before (z ∷ zs) x (suc k) y e = elim (last_or_before zs x k y e) [ inl h ↦ inl (h.0, ap (λ ws. z ∷ ws) h.1) | inr h ↦ inr (h.0, ap (λ ws. z ∷ ws) h.1) ]

-- ---- in turn and right
pub none_in_turn : (u : Unfoldings) (facts : List Literal) → AreInTurn u facts []
none_in_turn u facts k m e = absurd cc

-- unfoldings stay in turn with one that comes next
pub turn_next : (u : Unfoldings) (facts : List Literal) (made : List Unfolding) (m : Unfolding) → AreInTurn u facts made → IsNext u facts made m → AreInTurn u facts (made ++ m ∷ [])
turn_next u facts made m turn next k n e = elim (last_or_before made m k n e) [
  | inl h ↦ subst (λ (ms : List Unfolding). IsNext u facts ms n) (sym h.1) (turn k n h.0)
  | inr h ↦ subst (λ (ms : List Unfolding). IsNext u facts ms n) (sym h.1) (subst (IsNext u facts made) h.0 next)
]

module _ (u : Unfoldings) (facts : List Literal) (made : List Unfolding) (turn : AreInTurn u facts made) where
  right_on : (k : ℕ) (o : Option Unfolding) → slice_get made k ≡ o → AreRight u facts (take k made) → AreRight u facts (take (suc k) made)
  right_on k None e r = subst (AreRight u facts) (sym (front_whole made k e)) r
  right_on k (Some m) e r = subst (AreRight u facts) (sym (front_more made k m e)) (next_right u facts (take k made) m r (turn k m e))

  front_right : (k : ℕ) → AreRight u facts (take k made)
  front_right zero = record { asked = λ m c. absurd (contains_has [] m c); known = λ m c. absurd (contains_has [] m c) }
  front_right (suc k) = right_on k (slice_get made k) refl (front_right k)

  -- unfoldings that came in turn are right
  pub turn_right : AreRight u facts made
  turn_right = subst (AreRight u facts) (take-length made) (front_right (length made))

-- ---- more facts
depth_case : (b c : Bool) (n : ℕ) → (b ≡ true → c ≡ true) → cond c 0 n ≤ cond b 0 n
depth_case true true n f = omega arith
depth_case true false n f = absurd (false≢true (f refl))
depth_case false true n f = omega arith
depth_case false false n f = omega arith

module _ (facts more : List Literal) (made : List Unfolding) where
  fact_stays : (l : Literal) → Contains facts l → Contains (facts ++ more) l
  fact_stays = Contains-append_left facts more

  stays : (l : Literal) → Contains (facts ++ equations made) l → Contains ((facts ++ more) ++ equations made) l
  stays l c = elim (Contains-append_cases facts (equations made) l c) [
    | inl h ↦ Contains-append_left (facts ++ more) (equations made) l (fact_stays l h)
    | inr h ↦ Contains-append_right (facts ++ more) (equations made) l h
  ]

  term_stays : (t : Term) → is_in t (all_terms facts) ≡ true → is_in t (all_terms (facts ++ more)) ≡ true
  term_stays t e = has_in t (all_terms (facts ++ more)) (has_arising (facts ++ more) zero t (arises_later no_unfoldings facts (facts ++ more) fact_stays (term_arises facts t (in_has t (all_terms facts) e))))

  -- with more facts no term is deeper
  no_deeper : (t : Term) → depth_of (facts ++ more) made t ≤ depth_of facts made t
  no_deeper t = depth_case (is_in t (all_terms facts)) (is_in t (all_terms (facts ++ more))) (least_depth made t) (term_stays t)

  deep_enough : (t : Term) (d : ℕ) → depth_of facts made t ≤ d → depth_of (facts ++ more) made t ≤ d
  deep_enough t d l = omega (arith, l, no_deeper t)

  -- what comes next comes next with more facts
  pub next_later : (u : Unfoldings) (m : Unfolding) → IsNext u facts made m → IsNext u (facts ++ more) made m
  next_later u m (next_body l k d e) = next_body l (known_later facts (facts ++ more) fact_stays made m.application k) (deep_enough m.application m.depth d) e
  next_later u m (next_case {c} {ks} {a} l k j d f q s e) =
      next_case {c = c} {ks = ks} {a = a} l (known_later facts (facts ++ more) fact_stays made m.application k) (known_later facts (facts ++ more) fact_stays made (term (Constructor c) ks) j)
      (deep_enough m.application m.depth d) (deep_enough (term (Constructor c) ks) m.depth f) q (same_later no_unfoldings (facts ++ equations made) ((facts ++ more) ++ equations made) stays s) e

-- unfoldings stay in turn with more facts
pub turn_more : (u : Unfoldings) (facts more : List Literal) (made : List Unfolding) → AreInTurn u facts made → AreInTurn u (facts ++ more) made
turn_more u facts more made turn k m e = next_later facts more (take k made) u m (turn k m e)
