-- What a step of a refutation over a basis derives, the one behind a base derives too.
use Rattle.std.proofs.Common.{◌≡◌, ◌<◌, ◌+◌, ◌⊎◌, inl, inr, ℕ, zero, suc, List, [], ◌∷◌, ◌++◌, length, map, Some, refl, sym, ap, ◌∙◌, subst, arith}
use Rattle.std.specs.Prelude.{ℤ, pos, neg_ℤ, Contains, slice_get, slice_index}
use Rattle.std.proofs.lemmas.List.{length-map, map-append}
use Rattle.std.proofs.lemmas.Option.{slice_get_within}
use Rattle.vf_table.specs.declared.node.Node.{Node}
use Rattle.vf_refute.specs.declared.steps.Fact.{Fact}
use Rattle.vf_refute.specs.declared.steps.Fact.TheVariants as facts_
use Rattle.vf_refute.specs.declared.steps.Derived.{Derived}
use Rattle.vf_refute.specs.declared.steps.Derived.TheVariants.{AreEqual, AreWithin, HaveDifference}
use Rattle.vf_refute.specs.declared.steps.Step.{Step}
use Rattle.vf_refute.specs.declared.steps.Step.TheVariants as steps_
use Rattle.vf_refute.specs.Refutations.{HasDerived, Gives, IsOfFact, ArePairwiseEqual, IsLevel, Derives, CannotBe, IsConflict}
use Rattle.vf_closure.specs.Terms.{Term, number}
use Rattle.vf_closure.specs.Literals.{Literal}
use Rattle.vf_question.specs.Numbered.{place, all_terms}
use Rattle.vf_question.specs.Tabled.{tabled_fact}
use Rattle.vf_question.specs.Unfolded.{equations}
use Rattle.vf_question.specs.declared.unfolding.Unfolding.{Unfolding}
use Rattle.vf_question.proofs.Has.{Has, contains_has, has_contains}
use Rattle.vf_recheck.specs.Refutations.{facts_over}
use Rattle.vf_reasons.specs.declared.basis.Basis.{Basis}
use Rattle.vf_reasons.specs.Drafts.{with_equations, IsBasis, AreDerived}
use Rattle.vf_reasons.specs.Shifts.{IsForFact, IsShifted, IsDenial, AreDenials}
use Rattle.vf_reasons.proofs.Lists.{one_some, where_is, get_left, get_right, get_kept, get_number, number_behind, has_here, has_split, has_left, has_right}
use Rattle.vf_reasons.proofs.Going.{facts_told}

-- the facts that equations are
equation_at : (ts : List Term) (made : List Unfolding) (k : ℕ) (f : Fact) → slice_get (map (tabled_fact ts) (equations made)) k ≡ Some f → (m : Unfolding) × (slice_get made k ≡ Some m) × (f ≡ facts_.Equal (place m.application ts) (place m.body ts))
equation_at ts [] k f h = cc
equation_at ts (m ∷ ms) zero f h = (m, refl, let e : facts_.Equal (place m.application ts) (place m.body ts) ≡ f = cc in sym e)
equation_at ts (m ∷ ms) (suc k) f h = equation_at ts ms k f h

only_equal : (ts : List Term) (made : List Unfolding) (f : Fact) → Has (map (tabled_fact ts) (equations made)) f → (a : ℕ) × (b : ℕ) × (facts_.Equal a b ≡ f)
only_equal ts [] f h = absurd h
only_equal ts (m ∷ ms) f (inl e) = (place m.application ts, place m.body ts, e)
only_equal ts (m ∷ ms) f (inr h) = only_equal ts ms f h

-- a denial gives nothing
denial_gives : (f : Fact) (d : Derived) → IsDenial f → Gives f d → ⊥
denial_gives (facts_.Equal a b) d n g = n
denial_gives (facts_.NotEqual a b) d n g = g
denial_gives (facts_.AtMost x y c) d n g = n
denial_gives (facts_.Difference x y c) d n g = n
denial_gives (facts_.NotDifference x y c) d n g = g
denial_gives facts_.False d n g = n

denial_at : (denials : List Fact) → AreDenials denials → (f : Fact) → Has denials f → IsDenial f
denial_at denials all f h = let c = has_contains denials f h in subst IsDenial c.2 (all c.0 f c.1)

module _ (ls : List Literal) (made : List Unfolding) (basis : Basis) (is : IsBasis ls made basis) (prior : List Derived) (derived : AreDerived made basis.terms.items prior basis.equations.items)
    (denials : List Fact) (denied : AreDenials denials) (facts : List Fact) (over : facts ≡ basis.facts.items ++ denials) where
  abbrev zero_fact : Fact
  zero_fact = facts_.Equal (place (number (pos 0)) basis.terms.items) (place (number (pos 0)) basis.terms.items)

  abbrev made_facts : List Fact
  made_facts = map (tabled_fact basis.terms.items) (equations made)

  gathered : basis.terms.items ≡ all_terms (with_equations ls made)
  gathered = is.interned.gathered ∙ ap all_terms is.means

  parted : basis.facts.items ≡ facts_over ls ++ zero_fact ∷ made_facts
  parted =
      is.interned.numbers ∙ ap (map (tabled_fact basis.terms.items)) is.means
      ∙ map-append (tabled_fact basis.terms.items) ls _
      ∙ ap (λ (fs : List Fact). fs ++ zero_fact ∷ made_facts) (facts_told ls made basis.terms.items gathered)

  whole : facts ≡ (facts_over ls ++ zero_fact ∷ made_facts) ++ denials
  whole = over ∙ ap (λ (fs : List Fact). fs ++ denials) parted

  many : length (facts_over ls) ≡ basis.asked
  many = length-map ls (tabled_fact (all_terms ls)) ∙ sym is.asked

  -- ---- what stands where among the facts
  at_question : (i : ℕ) → i < basis.asked → slice_get facts i ≡ slice_get (facts_over ls) i
  at_question i l =
      ap (λ (fs : List Fact). slice_get fs i) whole
      ∙ get_left (facts_over ls ++ zero_fact ∷ made_facts) denials i (subst (λ (n : ℕ). i < n) (sym (length_both (facts_over ls) (zero_fact ∷ made_facts))) (omega (arith, many)))
      ∙ get_left (facts_over ls) (zero_fact ∷ made_facts) i (omega (arith, many))
    where
      length_both : (xs ys : List Fact) → length (xs ++ ys) ≡ length xs + length ys
      length_both [] ys = omega arith
      length_both (x ∷ xs) ys = let e = length_both xs ys in omega (arith, e)

  behind : (xs : List Fact) (ys zs : List Fact) (i n k : ℕ) → length xs ≡ n → i ≡ n + k → slice_get ((xs ++ ys) ++ zs) i ≡ slice_get (ys ++ zs) k
  behind [] ys zs i n k e f = ap (slice_get (ys ++ zs)) (omega arith)
  behind (x ∷ xs) ys zs zero n k e f = absurd (omega arith)
  behind (x ∷ xs) ys zs (suc i) n k e f = behind xs ys zs i (length xs) k refl (omega arith)

  at_zero : (i : ℕ) → i ≡ basis.asked → slice_get facts i ≡ Some zero_fact
  at_zero i e = ap (λ (fs : List Fact). slice_get fs i) whole ∙ behind (facts_over ls) (zero_fact ∷ made_facts) denials i basis.asked 0 many (omega (arith, e))

  at_made : (i k : ℕ) → i ≡ basis.asked + 1 + k → slice_get facts i ≡ slice_get (made_facts ++ denials) k
  at_made i k e = ap (λ (fs : List Fact). slice_get fs i) whole ∙ behind (facts_over ls) (zero_fact ∷ made_facts) denials i basis.asked (suc k) many (omega (arith, e))

  -- ---- facts
  module _ (nodes : List Node) (local : List Derived) where
    has : (a : ℕ) (d : Derived) → HasDerived local a d → HasDerived (prior ++ local) (length prior + a) d
    has a d h = get_right prior local a (length prior + a) refl ∙ h

    by_equation : (k : ℕ) (m : Unfolding) (d : Derived) → slice_get made k ≡ Some m → d ≡ AreEqual (place m.application basis.terms.items) (place m.body basis.terms.items) → Derives nodes (facts_over ls) (prior ++ local) (steps_.Symmetric (slice_index basis.equations.items k)) d
    by_equation k m d s e = record {
      left = place m.body basis.terms.items;
      right = place m.application basis.terms.items;
      equal = get_kept prior local (slice_index basis.equations.items k) (AreEqual (place m.body basis.terms.items) (place m.application basis.terms.items)) (derived.each k m s);
      is = e;
    }

    made_shifted : (i k : ℕ) (d : Derived) (step : Step) (f : Fact) → i ≡ basis.asked + 1 + k → slice_get (made_facts ++ denials) k ≡ Some f → Gives f d → IsForFact basis i step → (k < length made_facts) ⊎ (k ≡ length made_facts) ⊎ ((j : ℕ) × (k ≡ length made_facts + 1 + j)) → Derives nodes (facts_over ls) (prior ++ local) step d
    made_shifted i k d step f e s g for_fact (inl l) =
        let h = equation_at basis.terms.items made k f (sym (get_left made_facts denials k l) ∙ s) in
        let w = slice_get_within made k h.0 h.1 in
        let n = get_number basis.equations.items k (omega (arith, derived.long)) in
        subst (λ (z : Step). Derives nodes (facts_over ls) (prior ++ local) z d) (sym (for_fact.equation k (slice_index basis.equations.items k) e n)) (by_equation k h.0 d h.1 (subst (λ (z : Fact). Gives z d) h.2 g))
    made_shifted i k d step f e s g for_fact (inr r) = absurd (denial_gives f d (denial_at denials denied f (elim r [
      | inl q ↦ has_here denials 0 f (sym (get_right made_facts denials 0 k (omega (arith, q))) ∙ s)
      | inr q ↦ has_here denials (suc q.0) f (sym (get_right made_facts denials (suc q.0) k (let p = q.1 in omega (arith, p))) ∙ s)
    ])) g)

    fact_shifted : (i : ℕ) (d : Derived) (step : Step) → IsOfFact facts i d → IsForFact basis i step → (i < basis.asked) ⊎ (i ≡ basis.asked) ⊎ ((k : ℕ) × (i ≡ basis.asked + 1 + k)) → Derives nodes (facts_over ls) (prior ++ local) step d
    fact_shifted i d step h for_fact (inl l) = subst (λ (z : Step). Derives nodes (facts_over ls) (prior ++ local) z d) (sym (for_fact.question l)) (record { fact = h.fact; found = sym (at_question i l) ∙ h.found; gives = h.gives })
    fact_shifted i d step h for_fact (inr (inl e)) =
        let f : h.fact ≡ zero_fact = one_some h.found (at_zero i e) in
        subst (λ (z : Step). Derives nodes (facts_over ls) (prior ++ local) z d) (sym (for_fact.zero e)) (subst (λ (z : Fact). Gives z d) f h.gives)
    fact_shifted i d step h for_fact (inr (inr k)) = made_shifted i k.0 d step h.fact k.1 (sym (at_made i k.0 k.1) ∙ h.found) h.gives for_fact (where_is k.0 (length made_facts))

    -- ---- steps
    over_to : {s t : Step} (d : Derived) → t ≡ s → Derives nodes (facts_over ls) (prior ++ local) s d → Derives nodes (facts_over ls) (prior ++ local) t d
    over_to {s} {t} d e h = subst (λ (z : Step). Derives nodes (facts_over ls) (prior ++ local) z d) (sym e) h

    level_shifted : (a x y : ℕ) (c : ℤ) → IsLevel nodes local a x y c → IsLevel nodes (prior ++ local) (length prior + a) x y c
    level_shifted a x y c h = elim h [ inl k ↦ inl (has a (AreEqual x y) k.0, k.1, k.2, k.3) | inr k ↦ inr (has a (HaveDifference x y c) k) ]

    pairwise_shifted : (xs ys steps steps' : List ℕ) → steps' ≡ map (λ (n : ℕ). length prior + n) steps → ArePairwiseEqual local xs ys steps → ArePairwiseEqual (prior ++ local) xs ys steps'
    pairwise_shifted xs ys steps steps' e h = subst (ArePairwiseEqual (prior ++ local) xs ys) (sym e) (record {
      long = h.long;
      steps_long = length-map steps (λ (n : ℕ). length prior + n) ∙ h.steps_long;
      each = λ i l. subst (λ (n : ℕ). HasDerived (prior ++ local) n (AreEqual (slice_index xs i) (slice_index ys i))) (sym (number_behind (length prior) steps i (omega (arith, h.steps_long)))) (has (slice_index steps i) (AreEqual (slice_index xs i) (slice_index ys i)) (h.each i l));
    })

    pub derives_shifted : (s t : Step) (d : Derived) → IsShifted basis (length prior) s t → Derives nodes facts local s d → Derives nodes (facts_over ls) (prior ++ local) t d
    derives_shifted (steps_.Fact i) t d e h = fact_shifted i d t h e (where_is i basis.asked)
    derives_shifted (steps_.Reflexive x) t d e h = over_to d e h
    derives_shifted (steps_.Symmetric a) t d e h = over_to d e (record { left = h.left; right = h.right; equal = has a (AreEqual h.left h.right) h.equal; is = h.is })
    derives_shifted (steps_.Transitive a b) t d e h = over_to d e (record { left = h.left; middle = h.middle; right = h.right; first = has a (AreEqual h.left h.middle) h.first; second = has b (AreEqual h.middle h.right) h.second; is = h.is })
    derives_shifted (steps_.Congruent a b steps) t d e h = over_to d e.is (record {
      left = h.left;
      right = h.right;
      found_left = h.found_left;
      found_right = h.found_right;
      head = h.head;
      parts = pairwise_shifted h.left.parts.items h.right.parts.items steps.numbers.items e.shifted.numbers.items e.numbers_are h.parts;
      is = h.is;
    })
    derives_shifted (steps_.Part a i) t d e h = over_to d e (record { x = h.x; y = h.y; p = h.p; q = h.q; equal = has a (AreEqual h.x h.y) h.equal; parts = h.parts; is = h.is })
    derives_shifted (steps_.Above a o) t d e h = over_to d e h
    derives_shifted (steps_.Below a o) t d e h = over_to d e h
    derives_shifted (steps_.LevelAbove a) t d e h = over_to d e (record { x = h.x; y = h.y; by = h.by; level = level_shifted a h.x h.y h.by h.level; is = h.is })
    derives_shifted (steps_.LevelBelow a) t d e h = over_to d e (record { x = h.x; y = h.y; by = h.by; level = level_shifted a h.x h.y h.by h.level; is = h.is })
    derives_shifted (steps_.Chain a b) t d e h = over_to d e (record { x = h.x; y = h.y; z = h.z; c = h.c; e = h.e; first = has a (AreWithin h.x h.y h.c) h.first; second = has b (AreWithin h.y h.z h.e) h.second; is = h.is })
    derives_shifted (steps_.Squeezed a b) t d e h = over_to d e (record { x = h.x; y = h.y; first = has a (AreWithin h.x h.y (pos 0)) h.first; second = has b (AreWithin h.y h.x (pos 0)) h.second; left = h.left; right = h.right; is = h.is })
    derives_shifted (steps_.Conflict a) t d e h = absurd h
    derives_shifted (steps_.DeniedDifference a b) t d e h = absurd h
    derives_shifted (steps_.Falsehood i) t d e h = absurd h

    -- ---- conflicts
    abbrev beside : List Fact
    beside = facts_over ls ++ denials

    -- what is no equality stands among the facts of the question and the denials
    kept : (f : Fact) → ((a b : ℕ) → facts_.Equal a b ≡ f → ⊥) → Has facts f → Has beside f
    kept f never h = elim (has_split (facts_over ls ++ zero_fact ∷ made_facts) denials f (subst (λ (fs : List Fact). Has fs f) whole h)) [
      | inl k ↦ elim (has_split (facts_over ls) (zero_fact ∷ made_facts) f k) [
        | inl j ↦ has_left (facts_over ls) denials f j
        | inr j ↦ elim j [
          | inl e ↦ absurd (never (place (number (pos 0)) basis.terms.items) (place (number (pos 0)) basis.terms.items) e)
          | inr i ↦ let o = only_equal basis.terms.items made f i in absurd (never o.0 o.1 o.2)
        ]
      ]
      | inr k ↦ has_right (facts_over ls) denials f k
    ]

    contained : (f : Fact) → ((a b : ℕ) → facts_.Equal a b ≡ f → ⊥) → Contains facts f → Contains beside f
    contained f never c = has_contains beside f (kept f never (contains_has facts f c))

    cannot_shifted : (d : Derived) → CannotBe nodes facts d → CannotBe nodes beside d
    cannot_shifted (AreEqual x y) h = elim h [ inl k ↦ inl k | inr k ↦ inr (contained (facts_.NotEqual x y) (λ a b e. cc) k) ]
    cannot_shifted (AreWithin x y c) h = h
    cannot_shifted (HaveDifference x y c) h = absurd h

    false_at : (i : ℕ) → slice_get facts i ≡ Some facts_.False → (i < basis.asked) ⊎ (i ≡ basis.asked) ⊎ ((k : ℕ) × (i ≡ basis.asked + 1 + k)) → slice_get beside i ≡ Some facts_.False
    false_at i h (inl l) = get_left (facts_over ls) denials i (omega (arith, many)) ∙ sym (at_question i l) ∙ h
    false_at i h (inr (inl e)) = let f : facts_.False ≡ zero_fact = one_some h (at_zero i e) in cc
    false_at i h (inr (inr k)) = absurd (elim (has_split made_facts denials facts_.False (has_here (made_facts ++ denials) k.0 facts_.False (sym (at_made i k.0 k.1) ∙ h))) [
      | inl j ↦ let o = only_equal basis.terms.items made facts_.False j in let e = o.2 in cc
      | inr j ↦ denial_at denials denied facts_.False j
    ])

    ends_to : {s t : Step} → t ≡ s → IsConflict nodes beside (prior ++ local) s → IsConflict nodes beside (prior ++ local) t
    ends_to {s} {t} e h = subst (λ (z : Step). IsConflict nodes beside (prior ++ local) z) (sym e) h

    pub conflict_shifted : (s t : Step) → IsShifted basis (length prior) s t → IsConflict nodes facts local s → IsConflict nodes beside (prior ++ local) t
    conflict_shifted (steps_.Conflict a) t e h = ends_to e (record { derived = h.derived; has = has a h.derived h.has; cannot = cannot_shifted h.derived h.cannot })
    conflict_shifted (steps_.DeniedDifference a b) t e h = ends_to e (record { x = h.x; y = h.y; c = h.c; above = has a (AreWithin h.x h.y h.c) h.above; below = has b (AreWithin h.y h.x (neg_ℤ h.c)) h.below; denied = contained (facts_.NotDifference h.x h.y h.c) (λ a b e. cc) h.denied })
    conflict_shifted (steps_.Falsehood i) t e h = ends_to e (false_at i h (where_is i basis.asked))
    conflict_shifted (steps_.Fact i) t e h = absurd h
    conflict_shifted (steps_.Reflexive x) t e h = absurd h
    conflict_shifted (steps_.Symmetric a) t e h = absurd h
    conflict_shifted (steps_.Transitive a b) t e h = absurd h
    conflict_shifted (steps_.Congruent a b steps) t e h = absurd h
    conflict_shifted (steps_.Part a i) t e h = absurd h
    conflict_shifted (steps_.Above a o) t e h = absurd h
    conflict_shifted (steps_.Below a o) t e h = absurd h
    conflict_shifted (steps_.LevelAbove a) t e h = absurd h
    conflict_shifted (steps_.LevelBelow a) t e h = absurd h
    conflict_shifted (steps_.Chain a b) t e h = absurd h
    conflict_shifted (steps_.Squeezed a b) t e h = absurd h
