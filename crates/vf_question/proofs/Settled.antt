-- Settled unfoldings are all that the closure asks for.
use Rattle.std.proofs.Common.{◌≡◌, ◌≤◌, ◌<◌, ◌+◌, ◌⊎◌, inl, inr, ℕ, zero, suc, min, Bool, true, false, cond, List, [], ◌∷◌, ◌++◌, length, nat_lt, refl, sym, ap, ◌∙◌, subst, arith}
use Rattle.std.specs.Prelude.{ℤ, ◌-◌, Contains}
use Rattle.std.proofs.lemmas.Bool.{false≢true, lt-ltb, ltb-true, ltb-false}
use Rattle.std.proofs.lemmas.List.Elements.{Contains-append_left, Contains-append_cases}
use Rattle.vf_closure.specs.Terms.{Constructor, Term, Terms, term, IsWithin}
use Rattle.vf_closure.specs.Literals.{Literal, Equal, NotEqual, AtMost, Difference, NotDifference, False, compares}
use Rattle.vf_closure.specs.Closure as T
use Rattle.vf_closure.specs.Closure.{Unfoldings, no_unfoldings, Arises, asked, zero_arises, deeper, in_body, in_case, Same, unfolds, unfolds_case, Conflict}
use Rattle.vf_closure.specs.Made.{IsMade, AreAllMade}
use Rattle.vf_closure.proofs.Enough.{unfoldings_enough}
use Rattle.vf_question.specs.Numbered.{place, with_term, all_terms}
use Rattle.vf_question.specs.declared.unfolding.Unfolding.{Unfolding}
use Rattle.vf_question.specs.Unfolded.{equations, is_in, least_depth, depth_of, IsAskedFor, of_body, of_case, IsKnown, in_question, in_unfolding, AreRight, IsNext, next_body, next_case, NextIsRight, RightIsSound, WasMade, AreSettled, SettledIsEnough}
use Rattle.vf_question.proofs.Has.{Has, contains_has, has_contains, has_place, place_has, term_has, term_only}
use Rattle.vf_question.proofs.Asked.{has_arising, term_arises, within_zero, within_through}

-- ---- membership
pub in_has : (t : Term) (ts : List Term) → is_in t ts ≡ true → Has ts t
in_has t ts e = place_has t ts (ltb-true (place t ts) (length ts) e)

pub has_in : (t : Term) (ts : List Term) → Has ts t → is_in t ts ≡ true
has_in t ts h = lt-ltb (place t ts) (length ts) (has_place t ts h)

pub in_body_within : (t b : Term) → is_in t (with_term b []) ≡ true → IsWithin t b
in_body_within t b e = elim (term_only b [] t (in_has t (with_term b []) e)) [ inl k ↦ absurd k | inr w ↦ w ]

pub within_in_body : (t b : Term) → IsWithin t b → is_in t (with_term b []) ≡ true
within_in_body t b w = has_in t (with_term b []) (term_has b [] t w)

-- ---- depths
-- the least depth is that of an unfolding, or 5
record IsLeast (ms : List Unfolding) (t : Term) (n : ℕ) : Type 0 where
  found : Unfolding
  stands : Has ms found
  within : IsWithin t found.body
  is : n ≡ found.depth + 1

min_case : (x : Bool) (a b : ℕ) → nat_lt a b ≡ x → (min a b ≡ a) ⊎ (min a b ≡ b)
min_case true a b e = let l = ltb-true a b e in inl (omega arith)
min_case false a b e = let l = ltb-false a b e in inr (omega arith)

min_one : (a b : ℕ) → (min a b ≡ a) ⊎ (min a b ≡ b)
min_one a b = min_case (nat_lt a b) a b refl

least_of : (m : Unfolding) (ms : List Unfolding) (t : Term) (n k : ℕ) → IsWithin t m.body → (n ≡ 5) ⊎ IsLeast ms t n → (k ≡ m.depth + 1) ⊎ (k ≡ n) → (k ≡ 5) ⊎ IsLeast (m ∷ ms) t k
least_of m ms t n k w r (inl e) = inr (record { found = m; stands = inl refl; within = w; is = e })
least_of m ms t n k w (inl f) (inr e) = inl (e ∙ f)
least_of m ms t n k w (inr l) (inr e) = inr (record { found = l.found; stands = inr l.stands; within = l.within; is = e ∙ l.is })

least_case : (x : Bool) (m : Unfolding) (ms : List Unfolding) (t : Term) (n : ℕ) → is_in t (with_term m.body []) ≡ x → (n ≡ 5) ⊎ IsLeast ms t n → (cond x (min (m.depth + 1) n) n ≡ 5) ⊎ IsLeast (m ∷ ms) t (cond x (min (m.depth + 1) n) n)
least_case false m ms t n e (inl k) = inl k
least_case false m ms t n e (inr l) = inr (record { found = l.found; stands = inr l.stands; within = l.within; is = l.is })
least_case true m ms t n e r = least_of m ms t n (min (m.depth + 1) n) (in_body_within t m.body e) r (min_one (m.depth + 1) n)

least_is : (ms : List Unfolding) (t : Term) → (least_depth ms t ≡ 5) ⊎ IsLeast ms t (least_depth ms t)
least_is [] t = inl refl
least_is (m ∷ ms) t = least_case (is_in t (with_term m.body [])) m ms t (least_depth ms t) refl (least_is ms t)

-- no unfolding to a term with t within it has a lower one
least_first : (x : Bool) (m : Unfolding) (n : ℕ) → x ≡ true → cond x (min (m.depth + 1) n) n ≤ m.depth + 1
least_first true m n e = omega arith
least_first false m n e = absurd (false≢true e)

least_later : (x : Bool) (d n k : ℕ) → n ≤ k → cond x (min d n) n ≤ k
least_later true d n k l = omega arith
least_later false d n k l = l

least_under : (ms : List Unfolding) (t : Term) (m : Unfolding) → Has ms m → IsWithin t m.body → least_depth ms t ≤ m.depth + 1
least_under [] t m h w = absurd h
least_under (k ∷ ks) t m (inl e) w = subst (λ (x : Unfolding). least_depth (k ∷ ks) t ≤ x.depth + 1) e (least_first (is_in t (with_term k.body [])) k (least_depth ks t) (within_in_body t k.body (subst (λ (x : Unfolding). IsWithin t x.body) (sym e) w)))
least_under (k ∷ ks) t m (inr h) w = least_later (is_in t (with_term k.body [])) (k.depth + 1) (least_depth ks t) (m.depth + 1) (least_under ks t m h w)

depth_case : (x : Bool) (n : ℕ) → cond x 0 n ≤ n
depth_case true n = omega arith
depth_case false n = omega arith

depth_zero : (x : Bool) (n : ℕ) → x ≡ true → cond x 0 n ≤ 0
depth_zero true n e = omega arith
depth_zero false n e = absurd (false≢true e)

-- what stands within an unfolding is at most one deeper
depth_under : (facts : List Literal) (ms : List Unfolding) (t : Term) (m : Unfolding) → Contains ms m → IsWithin t m.body → depth_of facts ms t ≤ m.depth + 1
depth_under facts ms t m c w = omega (arith, depth_case (is_in t (all_terms facts)) (least_depth ms t), least_under ms t m (contains_has ms m c) w)

-- ---- what arises
arises_too : (u : Unfoldings) (facts : List Literal) (d : ℕ) (t : Term) → Arises no_unfoldings facts d t → Arises u facts d t
arises_too u facts d t (asked c k w) = asked c k w
arises_too u facts d t zero_arises = zero_arises
arises_too u facts d t (deeper {d = e} l a) = deeper l (arises_too u facts e t a)
arises_too u facts d t (in_body l a b w) = cc
arises_too u facts d t (in_case l a k s e c w) = cc

arises_within : (facts : List Literal) (d : ℕ) (s t : Term) → Arises no_unfoldings facts d t → IsWithin s t → Arises no_unfoldings facts zero s
arises_within facts d s t (asked c k w) v = asked c k (within_through v w)
arises_within facts d s t zero_arises v = within_zero facts s t v refl
arises_within facts d s t (deeper {d = e} l a) v = arises_within facts e s t a v
arises_within facts d s t (in_body l a b w) v = cc
arises_within facts d s t (in_case l a k r e c w) v = cc

body_arises : (u : Unfoldings) (facts : List Literal) (m : Unfolding) (t : Term) → IsAskedFor u facts m → IsWithin t m.body → Arises u facts (suc m.depth) t
body_arises u facts m t (of_body l a e) w = in_body l a e w
body_arises u facts m t (of_case l a k e q f) w = in_case l a k e q f w

pub below_four : (u : Unfoldings) (facts : List Literal) (m : Unfolding) → IsAskedFor u facts m → m.depth < 4
below_four u facts m (of_body l a e) = l
below_four u facts m (of_case l a k e q f) = l

does_follow : (u : Unfoldings) (facts : List Literal) (m : Unfolding) → IsAskedFor u facts m → Same u facts m.application m.body
does_follow u facts m (of_body l a e) = unfolds l a e
does_follow u facts m (of_case l a k e q f) = unfolds_case l a k e q f

-- an equation is that of an unfolding
record IsEquation (ms : List Unfolding) (l : Literal) : Type 0 where
  found : Unfolding
  stands : Has ms found
  is : Equal found.application found.body ≡ l

equation_of : (ms : List Unfolding) (l : Literal) → Has (equations ms) l → IsEquation ms l
equation_of [] l h = absurd h
equation_of (m ∷ ms) l (inl e) = record { found = m; stands = inl refl; is = e }
equation_of (m ∷ ms) l (inr h) = let r = equation_of ms l h in record { found = r.found; stands = inr r.stands; is = r.is }

pub has_equation : (ms : List Unfolding) (m : Unfolding) → Has ms m → Has (equations ms) (Equal m.application m.body)
has_equation [] m h = absurd h
has_equation (k ∷ ks) m (inl e) = inl (ap (λ (x : Unfolding). Equal x.application x.body) e)
has_equation (k ∷ ks) m (inr h) = inr (has_equation ks m h)

module _ (u : Unfoldings) (facts : List Literal) (made : List Unfolding) (right : AreRight u facts made) where
  known_within : (s t : Term) → IsKnown facts made t → IsWithin s t → IsKnown facts made s
  known_within s t (in_question a) w = in_question (arises_within facts zero s t a w)
  known_within s t (in_unfolding c v) w = in_unfolding c (within_through w v)

  compared_case : (m : Unfolding) (s t : Term) → Contains made m → Has (m.application ∷ m.body ∷ []) s → IsWithin t s → IsKnown facts made t
  compared_case m s t c (inl e) w = known_within t m.application (right.known m c) (subst (IsWithin t) (sym e) w)
  compared_case m s t c (inr (inl e)) w = in_unfolding c (subst (IsWithin t) (sym e) w)
  compared_case m s t c (inr (inr k)) w = absurd k

  compared_known : (m : Unfolding) (l : Literal) (s t : Term) → Contains made m → Equal m.application m.body ≡ l → Has (compares l) s → IsWithin t s → IsKnown facts made t
  compared_known m l s t c e h w = compared_case m s t c (subst (λ (x : Literal). Has (compares x) s) (sym e) h) w

  pub arises_known : (d : ℕ) (t : Term) → Arises no_unfoldings (facts ++ equations made) d t → IsKnown facts made t
  arises_known d t (asked {l} {s} c k w) = elim (Contains-append_cases facts (equations made) l c) [
    | inl q ↦ in_question (asked q k w)
    | inr q ↦ let r = equation_of made l (contains_has (equations made) l q) in compared_known r.found l s t (has_contains made r.found r.stands) r.is (contains_has (compares l) s k) w
  ]
  arises_known d t zero_arises = in_question zero_arises
  arises_known d t (deeper {d = e} l a) = arises_known e t a
  arises_known d t (in_body l a b w) = cc
  arises_known d t (in_case l a k r e c w) = cc

  arises_least : (t : Term) (m : Unfolding) → Contains made m → IsWithin t m.body → (least_depth made t ≡ 5) ⊎ IsLeast made t (least_depth made t) → Arises u facts (least_depth made t) t
  arises_least t m c w (inl e) = let b = below_four u facts m (right.asked m c) in let k = least_under made t m (contains_has made m c) w in absurd (omega arith)
  arises_least t m c w (inr l) =
      let a = body_arises u facts l.found t (right.asked l.found (has_contains made l.found l.stands)) l.within in
      let e : suc l.found.depth ≡ least_depth made t = omega (arith, l.is) in
      subst (λ (n : ℕ). Arises u facts n t) e a

  arises_case : (x : Bool) (t : Term) → is_in t (all_terms facts) ≡ x → IsKnown facts made t → Arises u facts (cond x 0 (least_depth made t)) t
  arises_case true t e k = arises_too u facts zero t (term_arises facts t (in_has t (all_terms facts) e))
  arises_case false t e (in_question a) = absurd (false≢true (sym e ∙ has_in t (all_terms facts) (has_arising facts zero t a)))
  arises_case false t e (in_unfolding {m} c w) = arises_least t m c w (least_is made t)

  -- a term that is known arises at its depth
  pub known_arises : (t : Term) → IsKnown facts made t → Arises u facts (depth_of facts made t) t
  known_arises t k = arises_case (is_in t (all_terms facts)) t refl k

  made_right : (l : Literal) → Contains (equations made) l → IsMade u facts l
  made_right l c =
      let r = equation_of made l (contains_has (equations made) l c) in
      record { application = r.found.application; body = r.found.body; is = sym r.is; follows = does_follow u facts r.found (right.asked r.found (has_contains made r.found r.stands)) }

  was_equation : (t b : Term) (d : ℕ) → WasMade made t b d → Contains (equations made) (Equal t b)
  was_equation t b d w =
      let h = has_equation made w.found (contains_has made w.found w.stands) in
      has_contains (equations made) (Equal t b) (subst (λ (x : Term). Has (equations made) (Equal t x)) w.body (subst (λ (x : Term). Has (equations made) (Equal x w.found.body)) w.application h))

  was_depth : (t b s : Term) (d : ℕ) → WasMade made t b d → IsWithin s b → depth_of facts made s ≤ suc d
  was_depth t b s d w v = omega (arith, w.depth, depth_under facts made s w.found w.stands (subst (IsWithin s) (sym w.body) v))

  all_made : AreSettled u facts made → AreAllMade u facts (equations made) (depth_of facts made)
  all_made settled = record {
    right = made_right;
    reached = λ t a. known_arises t (arises_known zero t a);
    first = λ t a. depth_zero (is_in t (all_terms facts)) (least_depth made t) (has_in t (all_terms facts) (has_arising facts zero t a));
    bodies = λ t b a l e. was_equation t b (depth_of facts made t) (settled (record { application = t; body = b; depth = depth_of facts made t }) (next_body l (arises_known zero t a) (omega arith) e));
    body_depths = λ t b s a l e w. was_depth t b s (depth_of facts made t) (settled (record { application = t; body = b; depth = depth_of facts made t }) (next_body l (arises_known zero t a) (omega arith) e)) w;
    cases = λ d c ks t a b i j m n l e q f. was_equation t b d (settled (record { application = t; body = b; depth = d }) (next_case l (arises_known zero t i) (arises_known zero (term (Constructor c) ks) j) m n e q f));
    case_depths = λ d c ks t a b s i j m n l e q f w. was_depth t b s d (settled (record { application = t; body = b; depth = d }) (next_case l (arises_known zero t i) (arises_known zero (term (Constructor c) ks) j) m n e q f)) w;
  }

pub settled_enough : SettledIsEnough
settled_enough u facts made right settled = unfoldings_enough u facts (equations made) (depth_of facts made) (all_made u facts made right settled)

-- ---- one more
raise : (u : Unfoldings) (facts : List Literal) (t : Term) (n e d : ℕ) → e + n ≡ d → d ≤ 4 → Arises u facts e t → Arises u facts d t
raise u facts t zero e d h l a = let k : e ≡ d = omega arith in subst (λ (x : ℕ). Arises u facts x t) k a
raise u facts t (suc n) e d h l a = raise u facts t n (suc e) d (omega arith) l (deeper (omega arith) a)

equal_out : {u : Unfoldings} {facts : List Literal} (a b : Term) → IsMade u facts (Equal a b) → Same u facts a b
equal_out {u} {facts} a b r =
    let e = r.is in
    let f : r.application ≡ a = cc in
    let g : r.body ≡ b = cc in
    subst (λ (x : Term). Same u facts x b) f (subst (Same u facts r.application) g r.follows)

-- what is equal by the facts and the equations is equal in the closure
module _ (u : Unfoldings) (facts : List Literal) (made : List Unfolding) (right : AreRight u facts made) where
  whole_arises : {d : ℕ} {t : Term} → Arises no_unfoldings (facts ++ equations made) d t → Arises u facts (depth_of facts made t) t
  whole_arises {d} {t} a = known_arises u facts made right t (arises_known u facts made right d t a)

  given_out : (a b : Term) → Contains (facts ++ equations made) (Equal a b) → Same u facts a b
  given_out a b h = elim (Contains-append_cases facts (equations made) (Equal a b) h) [ inl k ↦ T.given k | inr k ↦ equal_out a b (made_right u facts made right (Equal a b) k) ]

  fact_out : (l : Literal) → (IsMade u facts l → ⊥) → Contains (facts ++ equations made) l → Contains facts l
  fact_out l none h = elim (Contains-append_cases facts (equations made) l h) [ inl k ↦ k | inr k ↦ absurd (none (made_right u facts made right l k)) ]

  mutual
    same_out : {s t : Term} → Same no_unfoldings (facts ++ equations made) s t → Same u facts s t
    same_out (T.given {a = a} {b = b} h) = given_out a b h
    same_out (T.same_self h) = T.same_self (whole_arises h)
    same_out (T.same_back h) = T.same_back (same_out h)
    same_out (T.same_through h k) = T.same_through (same_out h) (same_out k)
    same_out (T.congruent h k e) = T.congruent (whole_arises h) (whole_arises k) (all_out e)
    same_out (T.injective e n p q) = T.injective (same_out e) n p q
    same_out (T.squeezed i j h k) = T.squeezed i j (bound_out h) (bound_out k)
    same_out (T.unfolds l h e) = absurd (cc)
    same_out (T.unfolds_case l i j e q f) = absurd (cc)

    all_out : {xs ys : Terms} → T.AllSame no_unfoldings (facts ++ equations made) xs ys → T.AllSame u facts xs ys
    all_out T.no_more = T.no_more
    all_out (T.one_more h k) = T.one_more (same_out h) (all_out k)

    bound_out : {s t : Term} {c : ℤ} → T.Bound no_unfoldings (facts ++ equations made) s t c → T.Bound u facts s t c
    bound_out (T.most {x = x} {y = y} {c = c} h) = T.most (fact_out (AtMost x y c) (λ r. let e = r.is in cc) h)
    bound_out (T.difference_up {x = x} {y = y} {c = c} h) = T.difference_up (fact_out (Difference x y c) (λ r. let e = r.is in cc) h)
    bound_out (T.difference_down {x = x} {y = y} {c = c} h) = T.difference_down (fact_out (Difference x y c) (λ r. let e = r.is in cc) h)
    bound_out (T.still i h) = T.still i (whole_arises h)
    bound_out (T.weaker l h) = T.weaker l (bound_out h)
    bound_out (T.chain h k) = T.chain (bound_out h) (bound_out k)
    bound_out (T.sum_up h) = T.sum_up (whole_arises h)
    bound_out (T.sum_down h) = T.sum_down (whole_arises h)
    bound_out (T.number_up h) = T.number_up (whole_arises h)
    bound_out (T.number_down h) = T.number_down (whole_arises h)
    bound_out (T.level i j h) = T.level i j (same_out h)

  conflict_out : Conflict no_unfoldings (facts ++ equations made) → Conflict u facts
  conflict_out (T.below_itself h) = T.below_itself (bound_out h)
  conflict_out (T.clash n e) = T.clash n (same_out e)
  conflict_out (T.denied_equality {a = a} {b = b} h e) = T.denied_equality (fact_out (NotEqual a b) (λ r. let k = r.is in cc) h) (same_out e)
  conflict_out (T.denied_difference {x = x} {y = y} {c = c} h k l) = T.denied_difference (fact_out (NotDifference x y c) (λ r. let e = r.is in cc) h) (bound_out k) (bound_out l)
  conflict_out (T.falsehood h) = T.falsehood (fact_out False (λ r. let e = r.is in cc) h)

  at_depth : (t : Term) (d : ℕ) → IsKnown facts made t → depth_of facts made t ≤ d → d < 4 → Arises u facts d t
  at_depth t d k l f = raise u facts t (d - depth_of facts made t) (depth_of facts made t) d (omega arith) (omega arith) (known_arises u facts made right t k)

  pub next_asked : (m : Unfolding) → IsNext u facts made m → IsAskedFor u facts m
  next_asked m (next_body l k d e) = of_body l (at_depth m.application m.depth k d l) e
  next_asked m (next_case {c} {ks} l k j d f e q g) = of_case l (at_depth m.application m.depth k d l) (at_depth (term (Constructor c) ks) m.depth j f l) e (same_out q) g

  next_known : (m : Unfolding) → IsNext u facts made m → IsKnown facts made m.application
  next_known m (next_body l k d e) = k
  next_known m (next_case l k j d f e q g) = k

known_more : (facts : List Literal) (made : List Unfolding) (m : Unfolding) (t : Term) → IsKnown facts made t → IsKnown facts (made ++ m ∷ []) t
known_more facts made m t (in_question a) = in_question a
known_more facts made m t (in_unfolding {m = k} c w) = in_unfolding (Contains-append_left made (m ∷ []) k c) w

only_one : (m k : Unfolding) → Has (m ∷ []) k → m ≡ k
only_one m k (inl e) = e
only_one m k (inr h) = absurd h

pub next_right : NextIsRight
next_right u facts made m right next = record {
  asked = λ k c. elim (Contains-append_cases made (m ∷ []) k c) [ inl h ↦ right.asked k h | inr h ↦ subst (IsAskedFor u facts) (only_one m k (contains_has (m ∷ []) k h)) (next_asked u facts made right m next) ];
  known = λ k c. elim (Contains-append_cases made (m ∷ []) k c) [ inl h ↦ known_more facts made m k.application (right.known k h) | inr h ↦ subst (λ (x : Unfolding). IsKnown facts (made ++ m ∷ []) x.application) (only_one m k (contains_has (m ∷ []) k h)) (known_more facts made m m.application (next_known u facts made right m next)) ];
}

pub right_sound : RightIsSound
right_sound u facts made right h = conflict_out u facts made right h
