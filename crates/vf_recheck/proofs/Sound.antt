-- A valuation that meets the literals meets each equality and each bound of their closure.
use Rattle.std.proofs.Common.{◌≡◌, ℕ, zero, suc, List, ◌∷◌, [], ◌++◌, refl, sym, ◌∙◌, ap, subst, arith, inl, inr, ◌⊎◌}
use Rattle.std.specs.Prelude.{ℤ, pos, ◌+ℤ◌, ◌-ℤ◌, neg_ℤ, ◌≤ℤ◌}
use Rattle.std.proofs.lemmas.Int.{ints}
use Rattle.std.proofs.Math.IntN.{ℤ_discrete}
use Rattle.std.proofs.lemmas.List.Elements.{Contains-append_cases}
use Rattle.vf_model.specs.Values.{Value, Values, none, more, number_of}
use Rattle.vf_model.specs.Values as values
use Rattle.vf_meaning.specs.Valuations.{Valuation}
use Rattle.vf_meaning.specs.GhostValues.{Interpretation}
use Rattle.vf_closure.specs.Terms.{Head, Constructor, Term, Terms, term, kind_of, IsAt, here, further_on}
use Rattle.vf_closure.specs.Values.{of_kind, applied, value, all_values}
use Rattle.vf_closure.specs.Literals.{Literal, Equal, NotEqual, AtMost, Difference, NotDifference, False, denied, Holds, Meets}
use Rattle.vf_closure.specs.Closure.{Unfoldings, AreClashing, two_constructors, two_numbers, two_truths, two_functions, null_and_function}
use Rattle.vf_closure.specs.Laws.{KeepValues}
use Rattle.vf_closure.proofs.Sound.{integer_value, value_decided}
use Rattle.vf_definitions.specs.Unfolded.{unfoldings_of}
use Rattle.vf_definitions.proofs.Soundness.{definitions_kept}
use Rattle.vf_recheck.specs.Closure.{Same, given, same_self, same_back, same_through, congruent, injective, squeezed, unfolds, unfolds_case, AllSame, no_more, one_more, Bound, most, difference_up, difference_down, still, weaker, chain, sum_up, sum_down, number_up, number_down, level, HasConflict, below_itself, clash, denied_equality, denied_difference, falsehood}
use Rattle.vf_recheck.specs.Laws.{ConflictsAreMetByNone, RefutationsAreSound, DefinitionsEntail}

at_same : (i : Interpretation) (v : Valuation) {a b : Term} {k : ℕ} {xs ys : Terms} → IsAt a k xs → IsAt b k ys → all_values i v xs ≡ all_values i v ys → value i v a ≡ value i v b
at_same i v here here e = cc
at_same i v (further_on p) (further_on q) e = at_same i v p q (cc)

squeeze : (a b : ℤ) → a ≤ℤ (b +ℤ pos 0) → b ≤ℤ (a +ℤ pos 0) → a ≡ b
squeeze a b h k = omega (arith, ints)

most_decided : (a b c : ℤ) → (a ≤ℤ (b +ℤ c)) ⊎ (b ≤ℤ (a +ℤ (neg_ℤ c -ℤ pos 1)))
most_decided a b c = grind (arith, ints)

-- terms whose heads clash have different values
clashing : (i : Interpretation) (v : Valuation) {h k : Head} (xs ys : Terms) → AreClashing h k → value i v (term h xs) ≡ value i v (term k ys) → ⊥
clashing i v xs ys (two_constructors n) e = n (cc)
clashing i v xs ys (two_numbers n) e = n (cc)
clashing i v xs ys (two_truths n) e = n (cc)
clashing i v xs ys (two_functions n) e = n (cc)
clashing i v xs ys null_and_function e = cc

module _ (i : Interpretation) (u : Unfoldings) (keep : KeepValues i u) (facts : List Literal) (v : Valuation) (meets : Meets i v facts) where
  mutual
    same_holds : {a b : Term} → Same u facts a b → value i v a ≡ value i v b
    same_holds (given {a = a} {b = b} h) = meets (Equal a b) h
    same_holds (same_self h) = refl
    same_holds (same_back h) = sym (same_holds h)
    same_holds (same_through h k) = same_holds h ∙ same_holds k
    same_holds (congruent {h = h} p q e) = ap (λ w. of_kind (kind_of h) (applied i v h w)) (all_hold e)
    same_holds (injective h n p q) = at_same i v p q (let e = same_holds h in cc)
    same_holds (squeezed {a = a} {b = b} m n h k) =
        integer_value i v a m ∙ ap values.Number (squeeze (number_of (value i v a)) (number_of (value i v b)) (bound_holds h) (bound_holds k)) ∙ sym (integer_value i v b n)
    same_holds (unfolds {t = t} {b = b} h e) = keep.bodies v t b e
    same_holds (unfolds_case {c = c} {ks = ks} {t = t} {a = a} {b = b} h k e f g) = keep.cases v t a (term (Constructor c) ks) b e (same_holds f) g

    all_hold : {xs ys : Terms} → AllSame u facts xs ys → all_values i v xs ≡ all_values i v ys
    all_hold no_more = refl
    all_hold (one_more h k) = let e = same_holds h in let f = all_hold k in cc

    bound_holds : {x y : Term} {c : ℤ} → Bound u facts x y c → number_of (value i v x) ≤ℤ (number_of (value i v y) +ℤ c)
    bound_holds (most {x = x} {y = y} {c = c} h) = meets (AtMost x y c) h
    bound_holds (difference_up {x = x} {y = y} {c = c} h) = omega (arith, ints, meets (Difference x y c) h)
    bound_holds (difference_down {x = x} {y = y} {c = c} h) = omega (arith, ints, meets (Difference x y c) h)
    bound_holds (still n h) = omega (arith, ints)
    bound_holds (weaker l h) = omega (arith, ints, bound_holds h)
    bound_holds (chain h k) = omega (arith, ints, bound_holds h, bound_holds k)
    bound_holds (sum_up h) = omega (arith, ints)
    bound_holds (sum_down h) = omega (arith, ints)
    bound_holds (number_up h) = omega (arith, ints)
    bound_holds (number_down h) = omega (arith, ints)
    bound_holds (level m n h) = let e = ap number_of (same_holds h) in omega (arith, ints)

  no_conflict : HasConflict u facts → ⊥
  no_conflict (below_itself h) = omega (arith, ints, bound_holds h)
  no_conflict (clash {xs = xs} {ys = ys} n h) = clashing i v xs ys n (same_holds h)
  no_conflict (denied_equality {a = a} {b = b} h e) = meets (NotEqual a b) h (same_holds e)
  no_conflict (denied_difference {x = x} {y = y} {c = c} h k l) = meets (NotDifference x y c) h (omega (arith, ints, bound_holds k, bound_holds l))
  no_conflict (falsehood h) = meets False h

meets_one : (i : Interpretation) (v : Valuation) (l : Literal) → Holds i v l → Meets i v (l ∷ [])
meets_one i v l h k (zero, j, e) = subst (Holds i v) e h
meets_one i v l h k (suc n, j, e) = absurd (omega arith)

meets_none : (i : Interpretation) (v : Valuation) → Meets i v []
meets_none i v k h = absurd (let l = h.1 in omega arith)

-- what a literal says holds, or its negation's facts do
decided : (i : Interpretation) (v : Valuation) (l : Literal) → Holds i v l ⊎ Meets i v (denied l)
decided i v (Equal a b) = elim (value_decided (value i v a) (value i v b)) [ inl e ↦ inl e | inr n ↦ inr (meets_one i v (NotEqual a b) n) ]
decided i v (NotEqual a b) = elim (value_decided (value i v a) (value i v b)) [ inl e ↦ inr (meets_one i v (Equal a b) e) | inr n ↦ inl n ]
decided i v (AtMost x y c) = elim (most_decided (number_of (value i v x)) (number_of (value i v y)) c) [ inl h ↦ inl h | inr h ↦ inr (meets_one i v (AtMost y x (neg_ℤ c -ℤ pos 1)) h) ]
decided i v (Difference x y c) = elim (ℤ_discrete (number_of (value i v x)) (number_of (value i v y) +ℤ c)) [ yes e ↦ inl e | no n ↦ inr (meets_one i v (NotDifference x y c) n) ]
decided i v (NotDifference x y c) = elim (ℤ_discrete (number_of (value i v x)) (number_of (value i v y) +ℤ c)) [ yes e ↦ inr (meets_one i v (Difference x y c) e) | no n ↦ inl n ]
decided i v False = inr (meets_none i v)

pub met_by_none : ConflictsAreMetByNone
met_by_none i u literals keep r v m = no_conflict i u keep literals v m r

pub refutations_sound : RefutationsAreSound
refutations_sound i u path goal keep r v m =
    elim (decided i v goal) [ inl h ↦ h | inr n ↦ absurd (no_conflict i u keep (path ++ denied goal) v (λ l k. elim (Contains-append_cases path (denied goal) l k) [ inl p ↦ m l p | inr p ↦ n l p ]) r) ]

pub definitions_show : DefinitionsEntail
definitions_show fs path goal r i meets = refutations_sound i (unfoldings_of fs) path goal (definitions_kept i fs meets) r
