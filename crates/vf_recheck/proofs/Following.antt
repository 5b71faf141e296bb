-- What a step derives follows, and a refutation shows a conflict.
use Rattle.std.proofs.Common.{◌≡◌, ◌<◌, ◌⊎◌, inl, inr, ℕ, zero, suc, List, [], ◌∷◌, ◌++◌, length, map, get_or, Some, refl, sym, ap, ◌∙◌, subst, arith}
use Rattle.std.specs.Prelude.{ℤ, pos, negsuc, neg_ℤ, ◌≤ℤ◌, All, Contains, slice_get, slice_index}
use Rattle.std.proofs.lemmas.Int.{ints}
use Rattle.std.proofs.lemmas.Option.{slice_get_within, get_or_from_slice_get}
use Rattle.std.proofs.lemmas.List.Elements.{All-push}
use Rattle.vf_tree.specs.Core.{Identity}
use Rattle.vf_table.specs.declared.node.Node.{Node}
use Rattle.vf_table.specs.Tables as tables
use Rattle.vf_table.specs.Tables.{IsNumber, IsPlus, HaveClashingHeads}
use Rattle.vf_refute.specs.declared.steps.Fact.{Fact}
use Rattle.vf_refute.specs.declared.steps.Fact.TheVariants as facts_
use Rattle.vf_refute.specs.declared.steps.Derived.{Derived}
use Rattle.vf_refute.specs.declared.steps.Derived.TheVariants.{AreEqual, AreWithin, HaveDifference}
use Rattle.vf_refute.specs.declared.steps.Step as refute
use Rattle.vf_refute.specs.declared.steps.Step.TheVariants as steps_
use Rattle.vf_refute.specs.Refutations.{HasDerived, Gives, IsOffset, IsLevel, Derives, CannotBe, IsConflict}
use Rattle.vf_closure.specs.Terms as terms
use Rattle.vf_closure.specs.Terms.{Integer, Term, Terms, term, no_terms, and_term, number, plus, kind_of, IsWithin}
use Rattle.vf_closure.specs.Literals.{Literal, Difference, compares, IsInteger}
use Rattle.vf_closure.specs.Closure.{Unfoldings}
use Rattle.vf_reading.specs.Reading.{in_row, IsReading, IsInside, literal}
use Rattle.vf_reading.proofs.Heads as H
use Rattle.vf_reading.proofs.Up.{fact_up, at_row, count_row, part_in}
use Rattle.vf_question.specs.Numbered.{place, with_term, all_terms}
use Rattle.vf_question.specs.Tabled.{tabled_fact}
use Rattle.vf_question.specs.Questions.{at}
use Rattle.vf_question.specs.Plain.{IsPlain}
use Rattle.vf_question.proofs.Has.{Has, contains_has, has_at, has_place, at_place, term_has, term_only}
use Rattle.vf_question.proofs.Asked.{term_arises}
use Rattle.vf_question.proofs.Read.{meant, fact_inside}
use Rattle.vf_interning.specs.Interned.{AreClosed}
use Rattle.vf_interning.proofs.Meaning.{there, read_each}
use Rattle.vf_recheck.specs.declared.steps.Step.{Step}
use Rattle.vf_recheck.specs.declared.steps.Step.TheVariants as outer
use Rattle.vf_recheck.specs.Closure.{Arises, asked, zero_arises, in_body, in_case, Same, given, same_self, same_back, same_through, congruent, injective, squeezed, unfolds, unfolds_case, AllSame, no_more, one_more, Bound, most, difference_up, difference_down, weaker, chain, sum_up, sum_down, number_up, number_down, level, HasConflict, below_itself, clash, denied_equality, denied_difference, falsehood}
use Rattle.vf_recheck.specs.Refutations.{facts_over, IsTableOf, IsBodyAt, IsOfConstructor, IsCaseAt, GoesOn, Ends, Refute}
use Rattle.vf_recheck.specs.Laws.{RefutationsShowConflicts}
use Rattle.vf_recheck.proofs.Reading.{long, is_reading}
use Rattle.vf_recheck.proofs.Growing.{GoesOnTo, term_on, at_stays, still_within, facts_stay, closed_with, closed_begun, HasPlain, plain_with, plain_begun}
use Rattle.vf_closure.specs.Closure as limited

-- each term that arises without unfolding arises
begun : (u : Unfoldings) (ls : List Literal) (d : ℕ) (t : Term) → limited.Arises limited.no_unfoldings ls d t → Arises u ls t
begun u ls d t (limited.asked {l} {s} c k w) = asked {l = l} {s = s} c k w
begun u ls d t limited.zero_arises = zero_arises
begun u ls d t (limited.deeper {d = e} i a) = begun u ls e t a
begun u ls d t (limited.in_body i a b w) = cc
begun u ls d t (limited.in_case i a k s e c w) = cc

constructor_is : (t : Term) → IsOfConstructor t → (c : Identity) × (ks : Terms) × (t ≡ term (terms.Constructor c) ks)
constructor_is (term (terms.Constructor c) ks) k = (c, ks, refl)
constructor_is (term h ks) k = absurd k

two_items : (xs : List ℕ) → length xs ≡ 2 → xs ≡ get_or xs 0 0 ∷ get_or xs 1 0 ∷ []
two_items [] e = absurd (omega arith)
two_items (x ∷ []) e = absurd (omega arith)
two_items (x ∷ y ∷ []) e = refl
two_items (x ∷ y ∷ z ∷ zs) e = absurd (omega arith)

integer_term : (t : Term) (h : terms.Head) (ts : Terms) → t ≡ term h ts → kind_of h ≡ Integer → IsInteger t
integer_term t h ts e k = subst IsInteger (sym e) k

facts_inside : (ts : List Term) (ls : List Literal) → ((l : Literal) (t : Term) → Has ls l → Has (compares l) t → Has ts t) → (f : Fact) → Has (map (tabled_fact ts) ls) f → IsInside (length ts) f
facts_inside ts [] h f k = absurd k
facts_inside ts (l ∷ ls) h f (inl e) = subst (IsInside (length ts)) e (fact_inside ts l (λ t c. h l t (inl refl) c))
facts_inside ts (l ∷ ls) h f (inr k) = facts_inside ts ls (λ j t c d. h j t (inr c) d) f k

module _ (u : Unfoldings) (ls : List Literal) (facts : List Fact) where
  -- the terms that are numbered: with their parts, plain, arising, and with those of the facts
  record AreGood (ts : List Term) : Type 0 where
    closed : AreClosed ts
    plain : HasPlain ts
    arise : (t : Term) → Has ts t → Arises u ls t
    there : (l : Literal) (t : Term) → Has ls l → Has (compares l) t → Has ts t
    told : facts ≡ map (tabled_fact ts) ls

  -- what a step derived is in the closure: an equality of terms that are numbered, or of one number; a bound; or a fact
  abbrev Follows : List Term → Derived → Type 0
  Follows ts (AreEqual x y) = (x ≡ y) ⊎ ((x < length ts) × (y < length ts) × Same u ls (at ts x) (at ts y))
  Follows ts (AreWithin x y c) = (x < length ts) × (y < length ts) × Bound u ls (at ts x) (at ts y) c
  Follows ts (HaveDifference x y c) = (x < length ts) × (y < length ts) × Contains ls (Difference (at ts x) (at ts y) c)

  -- ---- one list of terms
  module _ (ts : List Term) (good : AreGood ts) where
    arises_at : (x : ℕ) → x < length ts → Arises u ls (at ts x)
    arises_at x l = good.arise (at ts x) (has_at (number (pos 0)) ts x l)

    same_at : (x y : ℕ) → x < length ts → Follows ts (AreEqual x y) → Same u ls (at ts x) (at ts y)
    same_at x y l (inl e) = subst (λ (z : ℕ). Same u ls (at ts x) (at ts z)) e (same_self (arises_at x l))
    same_at x y l (inr k) = k.2

    equal_back : (x y : ℕ) → Follows ts (AreEqual x y) → Follows ts (AreEqual y x)
    equal_back x y (inl e) = inl (sym e)
    equal_back x y (inr k) = inr (k.1, k.0, same_back k.2)

    equal_through : (x y z : ℕ) → Follows ts (AreEqual x y) → Follows ts (AreEqual y z) → Follows ts (AreEqual x z)
    equal_through x y z (inl e) k = subst (λ (w : ℕ). Follows ts (AreEqual w z)) (sym e) k
    equal_through x y z (inr h) (inl f) = inr (h.0, subst (λ (w : ℕ). w < length ts) f h.1, subst (λ (w : ℕ). Same u ls (at ts x) (at ts w)) f h.2)
    equal_through x y z (inr h) (inr k) = inr (h.0, k.1, same_through h.2 k.2)

    both : {s t v w : Term} → s ≡ v → t ≡ w → Same u ls v w → Same u ls s t
    both {s} {t} {v} {w} e f h = subst (λ z. Same u ls z t) (sym e) (subst (Same u ls v) (sym f) h)

    both_ends : {s t v w : Term} {c : ℤ} → s ≡ v → t ≡ w → Bound u ls v w c → Bound u ls s t c
    both_ends {s} {t} {v} {w} {c} e f h = subst (λ z. Bound u ls z t c) (sym e) (subst (λ z. Bound u ls v z c) (sym f) h)

    -- facts
    read : map (literal (at ts)) facts ≡ ls
    read = ap (map (literal (at ts))) good.told ∙ read_each ts ls good.there

    fact_is : (f : Fact) → Contains facts f → Contains ls (literal (at ts) f)
    fact_is f c = subst (λ (ks : List Literal). Contains ks (literal (at ts) f)) read (fact_up (at ts) facts f c)

    inside : (f : Fact) → Contains facts f → IsInside (length ts) f
    inside f c = facts_inside ts ls good.there f (contains_has (map (tabled_fact ts) ls) f (subst (λ (fs : List Fact). Contains fs f) good.told c))

    fact_in : (i : ℕ) (f : Fact) → slice_get facts i ≡ Some f → Contains facts f
    fact_in i f h = (i, slice_get_within facts i f h, get_or_from_slice_get facts i f f h)

    gives_follows : (f : Fact) (d : Derived) → Contains facts f → Gives f d → Follows ts d
    gives_follows (facts_.Equal a b) d m g = let i = inside (facts_.Equal a b) m in subst (Follows ts) (sym g) (inr (i.0, i.1, given (fact_is (facts_.Equal a b) m)))
    gives_follows (facts_.NotEqual a b) d m g = absurd g
    gives_follows (facts_.AtMost x y c) d m g = let i = inside (facts_.AtMost x y c) m in subst (Follows ts) (sym g) (i.0, i.1, most (fact_is (facts_.AtMost x y c) m))
    gives_follows (facts_.Difference x y c) d m g = let i = inside (facts_.Difference x y c) m in subst (Follows ts) (sym g) (i.0, i.1, fact_is (facts_.Difference x y c) m)
    gives_follows (facts_.NotDifference x y c) d m g = absurd g
    gives_follows facts_.False d m g = absurd g

    -- ---- a table of them
    module _ (nodes : List Node) (table : IsTableOf nodes ts) where
      reading : IsReading nodes (meant ts) (at ts)
      reading = is_reading nodes ts table good.closed good.plain

      many : length nodes ≡ length ts
      many = long nodes ts table good.closed good.plain

      there_at : (a : ℕ) (m : Node) → slice_get nodes a ≡ Some m → a < length ts
      there_at a m s = omega (arith, slice_get_within nodes a m s, many)

      integer_up : (x : ℕ) → tables.IsInteger nodes x → IsInteger (at ts x)
      integer_up x i = integer_term (at ts x) (meant ts i.0.head) (in_row (at ts) i.0.parts.items) (reading.whole x i.0 i.1) (H.integer_up (reading.stands x i.0 i.1) i.2)

      integer_there : (x : ℕ) → tables.IsInteger nodes x → x < length ts
      integer_there x i = there_at x i.0 i.1

      number_is : (x : ℕ) (c : ℤ) → IsNumber nodes x c → at ts x ≡ number c
      number_is x c p = reading.whole x p.0 p.1 ∙ ap (λ h. term h (in_row (at ts) p.0.parts.items)) (H.number_up c (reading.stands x p.0 p.1) p.2) ∙ ap (λ (l : List ℕ). term (terms.Number c) (in_row (at ts) l)) (reading.leaf x p.0 c p.1 p.2)

      plus_is : (a q : ℕ) (c : ℤ) → IsPlus nodes a q c → at ts a ≡ plus (at ts q) c
      plus_is a q c p = reading.whole a p.node p.found ∙ ap (λ h. term h (in_row (at ts) p.node.parts.items)) (H.plus_up (reading.stands a p.node p.found) p.head)
          ∙ ap (λ (l : List ℕ). term terms.Plus (in_row (at ts) l)) (two_items p.node.parts.items p.two)
          ∙ ap (λ x. term terms.Plus (and_term (at ts x) (and_term (at ts (get_or p.node.parts.items 1 0)) no_terms))) p.part
          ∙ ap (λ t. term terms.Plus (and_term (at ts q) (and_term t no_terms))) (number_is (get_or p.node.parts.items 1 0) c p.number)

      part_there : (a : ℕ) (m : Node) (i : ℕ) → slice_get nodes a ≡ Some m → i < length m.parts.items → get_or m.parts.items i 0 < length ts
      part_there a m i s l = omega (arith, part_in nodes (length nodes) a m i reading.parts s l, many)

      plus_there : (a q : ℕ) (c : ℤ) → IsPlus nodes a q c → q < length ts
      plus_there a q c p = subst (λ (x : ℕ). x < length ts) p.part (part_there a p.node 0 p.found (omega (arith, p.two)))

      arises_as : (a : ℕ) (t : Term) → a < length ts → at ts a ≡ t → Arises u ls t
      arises_as a t l e = subst (Arises u ls) e (arises_at a l)

      module _ (known : List Derived) (all : All (Follows ts) known) where
        has_follows : (a : ℕ) (d : Derived) → HasDerived known a d → Follows ts d
        has_follows a d h = subst (Follows ts) (get_or_from_slice_get known a d d h) (all a d (slice_get_within known a d h))

        rows_same : (xs ys : List ℕ) → length ys ≡ length xs → ((i : ℕ) → i < length xs → get_or xs i 0 < length ts) → ((i : ℕ) → i < length xs → Follows ts (AreEqual (get_or xs i 0) (get_or ys i 0))) → AllSame u ls (in_row (at ts) xs) (in_row (at ts) ys)
        rows_same [] [] e w h = no_more
        rows_same [] (y ∷ ys) e w h = absurd (omega arith)
        rows_same (x ∷ xs) [] e w h = absurd (omega arith)
        rows_same (x ∷ xs) (y ∷ ys) e w h = one_more (same_at x y (w 0 (omega arith)) (h 0 (omega arith))) (rows_same xs ys (omega arith) (λ i l. w (suc i) (omega arith)) (λ i l. h (suc i) (omega arith)))

        whole_follows : (a b : ℕ) (m n : Node) → slice_get nodes a ≡ Some m → slice_get nodes b ≡ Some n → m.head ≡ n.head → length n.parts.items ≡ length m.parts.items
            → ((i : ℕ) → i < length m.parts.items → Follows ts (AreEqual (get_or m.parts.items i 0) (get_or n.parts.items i 0))) → Follows ts (AreEqual a b)
        whole_follows a b m n p q e l h =
            let x = reading.whole a m p in
            let y : at ts b ≡ term (meant ts m.head) (in_row (at ts) n.parts.items) = reading.whole b n q ∙ ap (λ k. term (meant ts k) (in_row (at ts) n.parts.items)) (sym e) in
            let i = there_at a m p in
            let j = there_at b n q in
            inr (
              i,
              j,
              both x y (congruent (arises_as a (term (meant ts m.head) (in_row (at ts) m.parts.items)) i x) (arises_as b (term (meant ts m.head) (in_row (at ts) n.parts.items)) j y)
                  (rows_same m.parts.items n.parts.items l (λ k w. part_there a m k p w) h)),
            )

        part_follows : (a b : ℕ) (m n : Node) (i : ℕ) → slice_get nodes a ≡ Some m → slice_get nodes b ≡ Some n → tables.IsInjective m.head → m.head ≡ n.head → length m.parts.items ≡ length n.parts.items → i < length m.parts.items
            → Follows ts (AreEqual a b) → Follows ts (AreEqual (get_or m.parts.items i 0) (get_or n.parts.items i 0))
        part_follows a b m n i p q t e l w h =
            let c = H.constructor_up (reading.stands a m p) t in
            let x : at ts a ≡ term (terms.Constructor c.0) (in_row (at ts) m.parts.items) = reading.whole a m p ∙ ap (λ k. term k (in_row (at ts) m.parts.items)) c.1 in
            let y : at ts b ≡ term (terms.Constructor c.0) (in_row (at ts) n.parts.items) = reading.whole b n q ∙ ap (λ k. term (meant ts k) (in_row (at ts) n.parts.items)) (sym e) ∙ ap (λ k. term k (in_row (at ts) n.parts.items)) c.1 in
            inr (
              part_there a m i p w,
              part_there b n i q (omega arith),
              injective (both (sym x) (sym y) (same_at a b (there_at a m p) h)) (count_row (at ts) m.parts.items ∙ l ∙ sym (count_row (at ts) n.parts.items))
                  (at_row (at ts) m.parts.items i w) (at_row (at ts) n.parts.items i (omega arith)),
            )

        offset_above : (a o q : ℕ) (c : ℤ) → IsOffset nodes a o q c → Follows ts (AreWithin a q c)
        offset_above a o q c h = elim h [
          | inl p ↦ (there_at a p.node p.found, plus_there a q c p, both_ends (plus_is a q c p) refl (sum_up (arises_as a (plus (at ts q) c) (there_at a p.node p.found) (plus_is a q c p))))
          | inr k ↦ subst (λ (z : ℕ). Follows ts (AreWithin a z c)) (sym k.0) (there_at a k.1.0 k.1.1, there_at o k.2.0 k.2.1, both_ends (number_is a c k.1) (number_is o (pos 0) k.2) (number_up (arises_as a (number c) (there_at a k.1.0 k.1.1) (number_is a c k.1))))
        ]

        offset_below : (a o q : ℕ) (c : ℤ) → IsOffset nodes a o q c → Follows ts (AreWithin q a (neg_ℤ c))
        offset_below a o q c h = elim h [
          | inl p ↦ (plus_there a q c p, there_at a p.node p.found, both_ends refl (plus_is a q c p) (sum_down (arises_as a (plus (at ts q) c) (there_at a p.node p.found) (plus_is a q c p))))
          | inr k ↦ subst (λ (z : ℕ). Follows ts (AreWithin z a (neg_ℤ c))) (sym k.0) (there_at o k.2.0 k.2.1, there_at a k.1.0 k.1.1, both_ends (number_is o (pos 0) k.2) (number_is a c k.1) (number_down (arises_as a (number c) (there_at a k.1.0 k.1.1) (number_is a c k.1))))
        ]

        level_above : (a x y : ℕ) (c : ℤ) → IsLevel nodes known a x y c → Follows ts (AreWithin x y c)
        level_above a x y c h = elim h [
          | inl k ↦ subst (λ (z : ℤ). Follows ts (AreWithin x y z)) (sym k.3) (integer_there x k.1, integer_there y k.2, level (integer_up x k.1) (integer_up y k.2) (same_at x y (integer_there x k.1) (has_follows a (AreEqual x y) k.0)))
          | inr k ↦ let f = has_follows a (HaveDifference x y c) k in (f.0, f.1, difference_up f.2)
        ]

        level_below : (a x y : ℕ) (c : ℤ) → IsLevel nodes known a x y c → Follows ts (AreWithin y x (neg_ℤ c))
        level_below a x y c h = elim h [
          | inl k ↦ subst (λ (z : ℤ). Follows ts (AreWithin y x (neg_ℤ z))) (sym k.3) (integer_there y k.2, integer_there x k.1, level (integer_up y k.2) (integer_up x k.1) (same_back (same_at x y (integer_there x k.1) (has_follows a (AreEqual x y) k.0))))
          | inr k ↦ let f = has_follows a (HaveDifference x y c) k in (f.1, f.0, difference_down f.2)
        ]

        derives_follows : (s : refute.Step) (d : Derived) → Derives nodes facts known s d → Follows ts d
        derives_follows (steps_.Fact i) d h = gives_follows h.fact d (fact_in i h.fact h.found) h.gives
        derives_follows (steps_.Reflexive t) d h = subst (Follows ts) (sym h) (inl refl)
        derives_follows (steps_.Symmetric a) d h = subst (Follows ts) (sym h.is) (equal_back h.left h.right (has_follows a (AreEqual h.left h.right) h.equal))
        derives_follows (steps_.Transitive a b) d h = subst (Follows ts) (sym h.is) (equal_through h.left h.middle h.right (has_follows a (AreEqual h.left h.middle) h.first) (has_follows b (AreEqual h.middle h.right) h.second))
        derives_follows (steps_.Congruent a b steps) d h = subst (Follows ts) (sym h.is) (whole_follows a b h.left h.right h.found_left h.found_right h.head h.parts.long
            (λ i l. has_follows (slice_index steps.numbers.items i) (AreEqual (slice_index h.left.parts.items i) (slice_index h.right.parts.items i)) (h.parts.each i l)))
        derives_follows (steps_.Part a i) d h = subst (Follows ts) (sym (h.is ∙ ap (λ z. AreEqual z h.q) h.parts.first ∙ ap (AreEqual (slice_index h.parts.left.parts.items i)) h.parts.second))
            (part_follows h.x h.y h.parts.left h.parts.right i h.parts.found_left h.parts.found_right h.parts.injective h.parts.head h.parts.long h.parts.within (has_follows a (AreEqual h.x h.y) h.equal))
        derives_follows (steps_.Above a o) d h = subst (Follows ts) (sym h.is) (offset_above a o h.other h.by h.offset)
        derives_follows (steps_.Below a o) d h = subst (Follows ts) (sym h.is) (offset_below a o h.other h.by h.offset)
        derives_follows (steps_.LevelAbove a) d h = subst (Follows ts) (sym h.is) (level_above a h.x h.y h.by h.level)
        derives_follows (steps_.LevelBelow a) d h = subst (Follows ts) (sym h.is) (level_below a h.x h.y h.by h.level)
        derives_follows (steps_.Chain a b) d h =
            let f = has_follows a (AreWithin h.x h.y h.c) h.first in
            let g = has_follows b (AreWithin h.y h.z h.e) h.second in
            subst (Follows ts) (sym h.is) (f.0, g.1, chain f.2 g.2)
        derives_follows (steps_.Squeezed a b) d h =
            let f = has_follows a (AreWithin h.x h.y (pos 0)) h.first in
            let g = has_follows b (AreWithin h.y h.x (pos 0)) h.second in
            subst (Follows ts) (sym h.is) (inr (f.0, f.1, squeezed (integer_up h.x h.left) (integer_up h.y h.right) f.2 g.2))
        derives_follows (steps_.Conflict a) d h = absurd h
        derives_follows (steps_.DeniedDifference a b) d h = absurd h
        derives_follows (steps_.Falsehood i) d h = absurd h

        clash_follows : (x y : ℕ) → HaveClashingHeads nodes x y → Follows ts (AreEqual x y) → HasConflict u ls
        clash_follows x y k f =
            clash (H.clash_up (reading.stands x k.0 k.2) (reading.stands y k.1 k.3) (reading.one x y k.0 k.1 k.2 k.3) k.4)
            (both (sym (reading.whole x k.0 k.2)) (sym (reading.whole y k.1 k.3)) (same_at x y (there_at x k.0 k.2) f))

        cannot_follow : (d : Derived) → CannotBe nodes facts d → Follows ts d → HasConflict u ls
        cannot_follow (AreEqual x y) h f = elim h [
          | inl k ↦ clash_follows x y k f
          | inr c ↦ denied_equality (fact_is (facts_.NotEqual x y) c) (same_at x y (let i = inside (facts_.NotEqual x y) c in i.0) f)
        ]
        cannot_follow (AreWithin x y c) h f =
            below_itself (weaker (let l = h.1 in let r : c ≤ℤ negsuc 0 = omega (arith, ints) in r) (subst (λ (z : ℕ). Bound u ls (at ts x) (at ts z) c) (sym h.0) f.2))
        cannot_follow (HaveDifference x y c) h f = absurd h

        conflict_is : (s : refute.Step) → IsConflict nodes facts known s → HasConflict u ls
        conflict_is (steps_.Conflict a) h = cannot_follow h.derived h.cannot (has_follows a h.derived h.has)
        conflict_is (steps_.DeniedDifference a b) h = denied_difference (fact_is (facts_.NotDifference h.x h.y h.c) h.denied) (has_follows a (AreWithin h.x h.y h.c) h.above).2 (has_follows b (AreWithin h.y h.x (neg_ℤ h.c)) h.below).2
        conflict_is (steps_.Falsehood i) h = falsehood (fact_is facts_.False (fact_in i facts_.False h))
        conflict_is (steps_.Fact i) h = absurd h
        conflict_is (steps_.Reflexive t) h = absurd h
        conflict_is (steps_.Symmetric a) h = absurd h
        conflict_is (steps_.Transitive a b) h = absurd h
        conflict_is (steps_.Congruent a b steps) h = absurd h
        conflict_is (steps_.Part a i) h = absurd h
        conflict_is (steps_.Above a o) h = absurd h
        conflict_is (steps_.Below a o) h = absurd h
        conflict_is (steps_.LevelAbove a) h = absurd h
        conflict_is (steps_.LevelBelow a) h = absurd h
        conflict_is (steps_.Chain a b) h = absurd h
        conflict_is (steps_.Squeezed a b) h = absurd h

  -- ---- terms that grow
  stays : (ts us : List Term) (d : Derived) → Follows ts d → Follows (ts ++ us) d
  stays ts us (AreEqual x y) (inl e) = inl e
  stays ts us (AreEqual x y) (inr k) = inr (still_within ts us x k.0, still_within ts us y k.1, subst (λ t. Same u ls t (at (ts ++ us) y)) (sym (at_stays ts us x k.0)) (subst (Same u ls (at ts x)) (sym (at_stays ts us y k.1)) k.2))
  stays ts us (AreWithin x y c) k = (still_within ts us x k.0, still_within ts us y k.1, subst (λ t. Bound u ls t (at (ts ++ us) y) c) (sym (at_stays ts us x k.0)) (subst (λ t. Bound u ls (at ts x) t c) (sym (at_stays ts us y k.1)) k.2))
  stays ts us (HaveDifference x y c) k = (still_within ts us x k.0, still_within ts us y k.1, subst (λ t. Contains ls (Difference t (at (ts ++ us) y) c)) (sym (at_stays ts us x k.0)) (subst (λ t. Contains ls (Difference (at ts x) t c)) (sym (at_stays ts us y k.1)) k.2))

  all_stay : (ts now : List Term) (known : List Derived) → GoesOnTo ts now → All (Follows ts) known → All (Follows now) known
  all_stay ts now known g all i d l = subst (λ (vs : List Term). Follows vs (get_or known i d)) (sym g.is) (stays ts g.more (get_or known i d) (all i d l))

  arise_by : (b : Term) (ts : List Term) → AreGood ts → ((s : Term) → IsWithin s b → Arises u ls s) → (t : Term) → Has ts t ⊎ IsWithin t b → Arises u ls t
  arise_by b ts good h t (inl k) = good.arise t k
  arise_by b ts good h t (inr w) = h t w

  has_more : (ts now : List Term) (t : Term) → GoesOnTo ts now → Has ts t → Has now t
  has_more ts now t g k = subst (λ (vs : List Term). Has vs t) (sym g.is) (before ts g.more k)
    where
      before : (vs ws : List Term) → Has vs t → Has (vs ++ ws) t
      before [] ws h = absurd h
      before (v ∷ vs) ws (inl e) = inl e
      before (v ∷ vs) ws (inr h) = inr (before vs ws h)

  good_with : (b : Term) (ts : List Term) → AreGood ts → IsPlain b → ((s : Term) → IsWithin s b → Arises u ls s) → AreGood (with_term b ts)
  good_with b ts good p h =
      let g = term_on b ts in record {
        closed = closed_with b ts good.closed;
        plain = plain_with b ts good.plain p;
        arise = λ t k. arise_by b ts good h t (term_only b ts t k);
        there = λ l t c d. has_more ts (with_term b ts) t g (good.there l t c d);
        told = good.told ∙ sym (facts_stay ts g.more ls good.there) ∙ ap (λ (vs : List Term). map (tabled_fact vs) ls) (sym g.is);
      }

  -- what is known, from step to step
  record GoesWell (now : List Term) (known : List Derived) (d : Derived) : Type 0 where
    good : AreGood now
    all : All (Follows now) known
    new : Follows now d

  -- an application is equal to what it is unfolded to, and that arises
  record IsRight (ts : List Term) (t : ℕ) (b : Term) : Type 0 where
    within : t < length ts
    same : Same u ls (at ts t) b
    arises : (s : Term) → IsWithin s b → Arises u ls s

  unfolds_well : (ts : List Term) (known : List Derived) (t : ℕ) (b : Term) (d : Derived) (now : List Term) → AreGood ts → All (Follows ts) known → IsRight ts t b → IsPlain b → now ≡ with_term b ts → d ≡ AreEqual t (place b now) → GoesWell now known d
  unfolds_well ts known t b d now good all r p e f =
      let g = term_on b ts in
      let k : Has (with_term b ts) b = term_has b ts b itself_ in
      let i : t < length (with_term b ts) = subst (λ (vs : List Term). t < length vs) (sym g.is) (still_within ts g.more t r.within) in
      let a : at (with_term b ts) t ≡ at ts t = ap (λ (vs : List Term). at vs t) g.is ∙ at_stays ts g.more t r.within in
      let n : Follows (with_term b ts) (AreEqual t (place b (with_term b ts))) = inr (i, has_place b (with_term b ts) k, subst (λ (x : Term). Same u ls x (at (with_term b ts) (place b (with_term b ts)))) (sym a) (subst (Same u ls (at ts t)) (sym (at_place b (number (pos 0)) (with_term b ts) k)) r.same)) in
      subst (λ (vs : List Term). GoesWell vs known d) (sym e) (record {
        good = good_with b ts good p r.arises;
        all = all_stay ts (with_term b ts) known g all;
        new = subst (Follows (with_term b ts)) (sym (f ∙ ap (λ (vs : List Term). AreEqual t (place b vs)) e)) n;
      })
    where
      itself_ : IsWithin b b
      itself_ = terms.itself

  arises_there : (ts : List Term) → AreGood ts → (t : ℕ) (a : Term) → slice_get ts t ≡ Some a → Arises u ls a
  arises_there ts good t a s = let e = get_or_from_slice_get ts t a (number (pos 0)) s in subst (Arises u ls) e (good.arise (at ts t) (has_at (number (pos 0)) ts t (slice_get_within ts t a s)))

  body_right : (ts : List Term) → AreGood ts → (t : ℕ) (b : Term) → IsBodyAt u ts t b → IsRight ts t b
  body_right ts good t b h =
      let a = arises_there ts good t h.application h.stands in record {
        within = slice_get_within ts t h.application h.stands;
        same = subst (λ (x : Term). Same u ls x b) (sym (get_or_from_slice_get ts t h.application (number (pos 0)) h.stands)) (unfolds a h.is);
        arises = λ s w. in_body a h.is w;
      }

  case_right : (ts : List Term) (known : List Derived) → AreGood ts → All (Follows ts) known → (t a : ℕ) (b : Term) → IsCaseAt u ts known t a b → IsRight ts t b
  case_right ts known good all t a b h =
      let o = constructor_is h.case.by h.case.constructor in
      let x = arises_there ts good t h.application h.stands in
      let y : Arises u ls (term (terms.Constructor o.0) o.1) = subst (Arises u ls) o.2 (arises_there ts good h.right h.case.by h.case.stands) in
      let f : Follows ts (AreEqual h.left h.right) = subst (Follows ts) (get_or_from_slice_get known a (AreEqual h.left h.right) (AreEqual h.left h.right) h.equal) (all a (AreEqual h.left h.right) (slice_get_within known a (AreEqual h.left h.right) h.equal)) in
      let e : Same u ls (at ts h.left) (at ts h.right) = same_at ts good h.left h.right (slice_get_within ts h.left h.goes_by.argument h.goes_by.stands) f in
      let k : Same u ls (at ts h.left) (term (terms.Constructor o.0) o.1) = subst (Same u ls (at ts h.left)) (get_or_from_slice_get ts h.right h.case.by (number (pos 0)) h.case.stands ∙ o.2) e in
      let g : Same u ls h.goes_by.argument (term (terms.Constructor o.0) o.1) = subst (λ (z : Term). Same u ls z (term (terms.Constructor o.0) o.1)) (get_or_from_slice_get ts h.left h.goes_by.argument (number (pos 0)) h.goes_by.stands) k in
      let c : u.case h.application (term (terms.Constructor o.0) o.1) ≡ Some b = ap (u.case h.application) (sym o.2) ∙ h.case.is in
      record {
        within = slice_get_within ts t h.application h.stands;
        same = subst (λ (z : Term). Same u ls z b) (sym (get_or_from_slice_get ts t h.application (number (pos 0)) h.stands)) (unfolds_case x y h.goes_by.switched g c);
        arises = λ s w. in_case x y h.goes_by.switched g c w;
      }

  goes_well : (ts : List Term) (known : List Derived) → AreGood ts → All (Follows ts) known → (s : Step) (d : Derived) (now : List Term) → GoesOn u facts ts known s d now → GoesWell now known d
  goes_well ts known good all (outer.Plain s) d now h =
      subst (λ (vs : List Term). GoesWell vs known d) (sym h.1) (record { good = good; all = all; new = derives_follows ts good h.0.nodes h.0.table known all s d h.0.derives })
  goes_well ts known good all (outer.ToBody t) d now h = unfolds_well ts known t h.body d now good all (body_right ts good t h.body h.is) h.plain h.numbered h.derives
  goes_well ts known good all (outer.ByCase t a) d now h = unfolds_well ts known t h.body d now good all (case_right ts known good all t a h.body h.is) h.plain h.numbered h.derives

  ends_well : (ts : List Term) (known : List Derived) → AreGood ts → All (Follows ts) known → (s : Step) → Ends facts ts known s → HasConflict u ls
  ends_well ts known good all (outer.Plain s) h = conflict_is ts good h.nodes h.table known all s h.conflict
  ends_well ts known good all (outer.ToBody t) h = absurd h
  ends_well ts known good all (outer.ByCase t a) h = absurd h

  refuted : (steps : List Step) (ts : List Term) (known : List Derived) → AreGood ts → All (Follows ts) known → Refute u facts ts known steps → HasConflict u ls
  refuted [] ts known good all r = absurd r
  refuted (last ∷ []) ts known good all r = ends_well ts known good all last r
  refuted (step ∷ next ∷ more) ts known good all r =
      let w = goes_well ts known good all step r.0 r.1 r.2 in
      refuted (next ∷ more) r.1 (known ++ r.0 ∷ []) w.good (All-push (Follows r.1) known r.0 w.all w.new) r.4

pub refutation_shows : RefutationsShowConflicts
refutation_shows u ls steps plain r =
    refuted u ls (facts_over ls) steps (all_terms ls) [] (record {
      closed = closed_begun ls;
      plain = plain_begun ls plain;
      arise = λ t k. begun u ls zero t (term_arises ls t k);
      there = λ l t c d. there ls l t c d;
      told = refl;
    }) (λ i d l. absurd (omega arith)) r
