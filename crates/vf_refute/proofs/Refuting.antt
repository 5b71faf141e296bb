-- A step derives one thing, which follows, and a refutation shows a conflict.
use Rattle.std.proofs.Common.{◌≡◌, ℕ, suc, ◌+◌, ◌<◌, inl, inr, List, [], ◌∷◌, ◌++◌, length, drop, get_or, Some, sym, ◌∙◌, ap, subst, arith, add-one}
use Rattle.std.specs.Prelude.{ℤ, pos, negsuc, neg_ℤ, ◌≤ℤ◌, Contains, slice_get, slice_index}
use Rattle.std.proofs.Math.Seq.{drop-cons}
use Rattle.std.proofs.lemmas.Int.{ints}
use Rattle.std.proofs.lemmas.Option.{slice_get_within, get_or_from_slice_get}
use Rattle.std.proofs.lemmas.List.Elements.{All-push}
use Rattle.std.proofs.lemmas.List.{length-drop, drop_all}
use Rattle.vf_table.specs.declared.node.Node.{Node}
use Rattle.vf_table.specs.Tables.{IsNumber}
use Rattle.vf_refute.specs.declared.steps.Fact.{Fact}
use Rattle.vf_refute.specs.declared.steps.Fact.TheVariants as facts_
use Rattle.vf_refute.specs.declared.steps.Derived.{Derived}
use Rattle.vf_refute.specs.declared.steps.Derived.TheVariants.{AreEqual, AreWithin, HaveDifference}
use Rattle.vf_refute.specs.declared.steps.Step.{Step}
use Rattle.vf_refute.specs.declared.steps.Step.TheVariants as steps_
use Rattle.vf_refute.specs.Closure.{given, same_self, same_back, same_through, congruent, injective, squeezed, Bound, most, difference_up, difference_down, sum_up, sum_down, number_up, number_down, chain, level, weaker, Conflict, below_itself, clash, denied_equality, denied_difference, falsehood}
use Rattle.vf_refute.specs.Steps.{Follows, AllFollow}
use Rattle.vf_refute.specs.Refutations.{HasDerived, Gives, IsOffset, IsLevel, Derives, IsWithinLimit, CannotBe, IsConflict, Refute, IsRefutation}

module _ (nodes : List Node) (facts : List Fact) (known : List Derived) where
  has_one : (a : ℕ) (d e : Derived) → HasDerived known a d → HasDerived known a e → d ≡ e
  has_one a d e h k = cc

  gives_one : (f g : Fact) (d e : Derived) → f ≡ g → Gives f d → Gives g e → d ≡ e
  gives_one (facts_.Equal a b) g d e p h k = let r = subst (λ (z : Fact). Gives z e) (sym p) k in cc
  gives_one (facts_.NotEqual a b) g d e p h k = absurd h
  gives_one (facts_.AtMost x y c) g d e p h k = let r = subst (λ (z : Fact). Gives z e) (sym p) k in cc
  gives_one (facts_.Difference x y c) g d e p h k = let r = subst (λ (z : Fact). Gives z e) (sym p) k in cc
  gives_one (facts_.NotDifference x y c) g d e p h k = absurd h
  gives_one facts_.False g d e p h k = absurd h

  number_one : (a : ℕ) (c e : ℤ) → IsNumber nodes a c → IsNumber nodes a e → c ≡ e
  number_one a c e h k = let p = h.1 in let q = h.2 in let r = k.1 in let s = k.2 in let n : h.0 ≡ k.0 = cc in cc

  offset_one : (a o q r : ℕ) (c e : ℤ) → IsOffset nodes a o q c → IsOffset nodes a o r e → (q ≡ r) × (c ≡ e)
  offset_one a o q r c e h k = elim h [
    | inl h ↦ elim k [
      | inl k ↦ let n : h.node ≡ k.node = let p = h.found in let q = k.found in cc in
          let m : q ≡ r = let p = h.part in let q = k.part in cc in
          (m, number_one (slice_index k.node.parts.items 1) c e (subst (λ (z : Node). IsNumber nodes (slice_index z.parts.items 1) c) n h.number) k.number)
      | inr k ↦ absurd (let p = h.found in let q = h.head in let r = k.1.1 in let s = k.1.2 in let n : h.node ≡ k.1.0 = cc in cc)
    ]
    | inr h ↦ elim k [
      | inl k ↦ absurd (let p = k.found in let q = k.head in let r = h.1.1 in let s = h.1.2 in let n : k.node ≡ h.1.0 = cc in cc)
      | inr k ↦ (h.0 ∙ sym k.0, number_one a c e h.1 k.1)
    ]
  ]

  level_one : (a x y p q : ℕ) (c e : ℤ) → IsLevel nodes known a x y c → IsLevel nodes known a p q e → (x ≡ p) × (y ≡ q) × (c ≡ e)
  level_one a x y p q c e h k = elim h [
    | inl h ↦ elim k [
      | inl k ↦ (cc, cc, cc)
      | inr k ↦ absurd (cc)
    ]
    | inr h ↦ elim k [
      | inl k ↦ absurd (cc)
      | inr k ↦ (cc, cc, cc)
    ]
  ]

  -- a step derives one thing
  pub derives_one : (s : Step) (d e : Derived) → Derives nodes facts known s d → Derives nodes facts known s e → d ≡ e
  derives_one (steps_.Fact i) d e h k = gives_one h.fact k.fact d e (let p = h.found in let q = k.found in cc) h.gives k.gives
  derives_one (steps_.Reflexive t) d e h k = cc
  derives_one (steps_.Symmetric a) d e h k = let p = h.equal in let q = k.equal in let r = h.is in let s = k.is in cc
  derives_one (steps_.Transitive a b) d e h k = let p = h.first in let q = k.first in let r = h.second in let s = k.second in let t = h.is in let u = k.is in cc
  derives_one (steps_.Congruent a b steps) d e h k = h.is ∙ sym k.is
  derives_one (steps_.Part a i) d e h k =
      let p = h.equal in let q = k.equal in
      let l : h.parts.left ≡ k.parts.left = let r = h.parts.found_left in let s = k.parts.found_left in cc in
      let m : h.parts.right ≡ k.parts.right = let r = h.parts.found_right in let s = k.parts.found_right in cc in
      let u : h.p ≡ k.p = h.parts.first ∙ ap (λ (z : Node). slice_index z.parts.items i) l ∙ sym k.parts.first in
      let v : h.q ≡ k.q = h.parts.second ∙ ap (λ (z : Node). slice_index z.parts.items i) m ∙ sym k.parts.second in
      let w = h.is in let x = k.is in cc
  derives_one (steps_.Above a o) d e h k = let p = offset_one a o h.other k.other h.by k.by h.offset k.offset in let w = h.is in let x = k.is in cc
  derives_one (steps_.Below a o) d e h k = let p = offset_one a o h.other k.other h.by k.by h.offset k.offset in let w = h.is in let x = k.is in cc
  derives_one (steps_.LevelAbove a) d e h k = let p = level_one a h.x h.y k.x k.y h.by k.by h.level k.level in let w = h.is in let x = k.is in cc
  derives_one (steps_.LevelBelow a) d e h k = let p = level_one a h.x h.y k.x k.y h.by k.by h.level k.level in let w = h.is in let x = k.is in cc
  derives_one (steps_.Chain a b) d e h k = let p = h.first in let q = k.first in let r = h.second in let s = k.second in let t = h.is in let u = k.is in cc
  derives_one (steps_.Squeezed a b) d e h k = let p = h.first in let q = k.first in let t = h.is in let u = k.is in cc
  derives_one (steps_.Conflict a) d e h k = absurd h
  derives_one (steps_.DeniedDifference a b) d e h k = absurd h
  derives_one (steps_.Falsehood i) d e h k = absurd h

  -- a step that is followed by others goes on with what it derives
  pub goes_on : (step : Step) (rest : List Step) (d : Derived) → 0 < length rest → Derives nodes facts known step d → IsWithinLimit d →
      (Refute nodes facts known (step ∷ rest) → Refute nodes facts (known ++ d ∷ []) rest) × (Refute nodes facts (known ++ d ∷ []) rest → Refute nodes facts known (step ∷ rest))
  goes_on step [] d l h w = absurd (omega arith)
  goes_on step (next ∷ more) d l h w = (
    λ r. subst (λ (z : Derived). Refute nodes facts (known ++ z ∷ []) (next ∷ more)) (derives_one step r.0 d r.1 h) r.3,
    λ r. (d, h, w, r),
  )

  -- a step that is followed by others and derives nothing refutes nothing
  pub stops : (step : Step) (rest : List Step) → 0 < length rest → ((d : Derived) → Derives nodes facts known step d → IsWithinLimit d → ⊥) → Refute nodes facts known (step ∷ rest) → ⊥
  stops step [] l none r = omega arith
  stops step (next ∷ more) l none r = none r.0 r.1 r.2

pub rest_read : (steps : List Step) (i : ℕ) (s : Step) → i < length steps → s ≡ get_or steps i s → drop i steps ≡ s ∷ drop (i + 1) steps
rest_read steps i s l e = rw add-one (drop-cons steps i s l ∙ ap (λ (z : Step). z ∷ drop (suc i) steps) (sym e))

-- one turn of the check
pub turn : (nodes : List Node) (facts : List Fact) (known known' : List Derived) (steps : List Step) (i : ℕ) (s : Step) (d : Derived) → i + 1 < length steps → s ≡ get_or steps i s →
    known' ≡ known ++ d ∷ [] → Derives nodes facts known s d → IsWithinLimit d →
    (Refute nodes facts known (drop i steps) → Refute nodes facts known' (drop (i + 1) steps)) × (Refute nodes facts known' (drop (i + 1) steps) → Refute nodes facts known (drop i steps))
turn nodes facts known known' steps i s d l e k h w =
    let on = goes_on nodes facts known s (drop (i + 1) steps) d (simp length-drop (omega arith)) h w in
    let rest = rest_read steps i s (omega arith) e in (
      λ r. subst (λ (z : List Derived). Refute nodes facts z (drop (i + 1) steps)) (sym k) (on.0 (subst (Refute nodes facts known) rest r)),
      λ r. subst (Refute nodes facts known) (sym rest) (on.1 (subst (λ (z : List Derived). Refute nodes facts z (drop (i + 1) steps)) k r)),
    )

-- the last turn
pub last_read : (steps : List Step) (i : ℕ) (s : Step) → i + 1 ≡ length steps → s ≡ get_or steps i s → drop i steps ≡ s ∷ []
last_read steps i s l e = rest_read steps i s (omega arith) e ∙ ap (λ (z : List Step). s ∷ z) (drop_all (i + 1) steps (omega arith))

-- ---- soundness
module _ (nodes : List Node) (facts : List Fact) (known : List Derived) (all : AllFollow nodes facts known) where
  has_follows : (a : ℕ) (d : Derived) → HasDerived known a d → Follows nodes facts d
  has_follows a d h = subst (Follows nodes facts) (get_or_from_slice_get known a d d h) (all a d (slice_get_within known a d h))

  fact_in : (i : ℕ) (f : Fact) → slice_get facts i ≡ Some f → Contains facts f
  fact_in i f h = (i, slice_get_within facts i f h, get_or_from_slice_get facts i f f h)

  gives_follows : (f : Fact) (d : Derived) → Contains facts f → Gives f d → Follows nodes facts d
  gives_follows (facts_.Equal a b) d m g = subst (Follows nodes facts) (sym g) (given m)
  gives_follows (facts_.NotEqual a b) d m g = absurd g
  gives_follows (facts_.AtMost x y c) d m g = subst (Follows nodes facts) (sym g) (most m)
  gives_follows (facts_.Difference x y c) d m g = subst (Follows nodes facts) (sym g) m
  gives_follows (facts_.NotDifference x y c) d m g = absurd g
  gives_follows facts_.False d m g = absurd g

  offset_above : (a o q : ℕ) (c : ℤ) → IsOffset nodes a o q c → Bound nodes facts a q c
  offset_above a o q c h = elim h [ inl k ↦ sum_up k | inr k ↦ subst (λ z. Bound nodes facts a z c) (sym k.0) (number_up k.1 k.2) ]

  offset_below : (a o q : ℕ) (c : ℤ) → IsOffset nodes a o q c → Bound nodes facts q a (neg_ℤ c)
  offset_below a o q c h = elim h [ inl k ↦ sum_down k | inr k ↦ subst (λ z. Bound nodes facts z a (neg_ℤ c)) (sym k.0) (number_down k.1 k.2) ]

  level_above : (a x y : ℕ) (c : ℤ) → IsLevel nodes known a x y c → Bound nodes facts x y c
  level_above a x y c h = elim h [
    | inl k ↦ subst (Bound nodes facts x y) (sym k.3) (level k.1 k.2 (has_follows a (AreEqual x y) k.0))
    | inr k ↦ difference_up (has_follows a (HaveDifference x y c) k)
  ]

  level_below : (a x y : ℕ) (c : ℤ) → IsLevel nodes known a x y c → Bound nodes facts y x (neg_ℤ c)
  level_below a x y c h = elim h [
    | inl k ↦ subst (λ (z : ℤ). Bound nodes facts y x (neg_ℤ z)) (sym k.3) (level k.2 k.1 (same_back (has_follows a (AreEqual x y) k.0)))
    | inr k ↦ difference_down (has_follows a (HaveDifference x y c) k)
  ]

  -- what a step derives follows
  pub derives_follows : (s : Step) (d : Derived) → Derives nodes facts known s d → Follows nodes facts d
  derives_follows (steps_.Fact i) d h = gives_follows h.fact d (fact_in i h.fact h.found) h.gives
  derives_follows (steps_.Reflexive t) d h = subst (Follows nodes facts) (sym h) same_self
  derives_follows (steps_.Symmetric a) d h = subst (Follows nodes facts) (sym h.is) (same_back (has_follows a (AreEqual h.left h.right) h.equal))
  derives_follows (steps_.Transitive a b) d h = subst (Follows nodes facts) (sym h.is) (same_through (has_follows a (AreEqual h.left h.middle) h.first) (has_follows b (AreEqual h.middle h.right) h.second))
  derives_follows (steps_.Congruent a b steps) d h = subst (Follows nodes facts) (sym h.is) (congruent h.found_left h.found_right h.head (sym h.parts.long)
      (λ i l. has_follows (slice_index steps.numbers.items i) (AreEqual (slice_index h.left.parts.items i) (slice_index h.right.parts.items i)) (h.parts.each i l)))
  derives_follows (steps_.Part a i) d h = subst (Follows nodes facts) (sym (h.is ∙ ap (λ z. AreEqual z h.q) h.parts.first ∙ ap (AreEqual (slice_index h.parts.left.parts.items i)) h.parts.second))
      (injective h.parts.found_left h.parts.found_right h.parts.injective h.parts.head h.parts.long h.parts.within (has_follows a (AreEqual h.x h.y) h.equal))
  derives_follows (steps_.Above a o) d h = subst (Follows nodes facts) (sym h.is) (offset_above a o h.other h.by h.offset)
  derives_follows (steps_.Below a o) d h = subst (Follows nodes facts) (sym h.is) (offset_below a o h.other h.by h.offset)
  derives_follows (steps_.LevelAbove a) d h = subst (Follows nodes facts) (sym h.is) (level_above a h.x h.y h.by h.level)
  derives_follows (steps_.LevelBelow a) d h = subst (Follows nodes facts) (sym h.is) (level_below a h.x h.y h.by h.level)
  derives_follows (steps_.Chain a b) d h = subst (Follows nodes facts) (sym h.is) (chain (has_follows a (AreWithin h.x h.y h.c) h.first) (has_follows b (AreWithin h.y h.z h.e) h.second))
  derives_follows (steps_.Squeezed a b) d h = subst (Follows nodes facts) (sym h.is) (squeezed h.left h.right (has_follows a (AreWithin h.x h.y (pos 0)) h.first) (has_follows b (AreWithin h.y h.x (pos 0)) h.second))
  derives_follows (steps_.Conflict a) d h = absurd h
  derives_follows (steps_.DeniedDifference a b) d h = absurd h
  derives_follows (steps_.Falsehood i) d h = absurd h

  cannot_follow : (d : Derived) → CannotBe nodes facts d → Follows nodes facts d → Conflict nodes facts
  cannot_follow (AreEqual x y) h f = elim h [ inl k ↦ clash k f | inr k ↦ denied_equality k f ]
  cannot_follow (AreWithin x y c) h f = below_itself (weaker (let l = h.1 in let r : c ≤ℤ negsuc 0 = omega (arith, ints) in r) (subst (λ z. Bound nodes facts x z c) (sym h.0) f))
  cannot_follow (HaveDifference x y c) h f = absurd h

  -- a last step shows a conflict
  pub conflict_is : (s : Step) → IsConflict nodes facts known s → Conflict nodes facts
  conflict_is (steps_.Conflict a) h = cannot_follow h.derived h.cannot (has_follows a h.derived h.has)
  conflict_is (steps_.DeniedDifference a b) h = denied_difference h.denied (has_follows a (AreWithin h.x h.y h.c) h.above) (has_follows b (AreWithin h.y h.x (neg_ℤ h.c)) h.below)
  conflict_is (steps_.Falsehood i) h = falsehood (fact_in i facts_.False h)
  conflict_is (steps_.Fact i) h = absurd h
  conflict_is (steps_.Reflexive t) h = absurd h
  conflict_is (steps_.Symmetric a) h = absurd h
  conflict_is (steps_.Transitive a b) h = absurd h
  conflict_is (steps_.Congruent a b steps) h = absurd h
  conflict_is (steps_.Part a i) h = absurd h
  conflict_is (steps_.Above a o) h = absurd h
  conflict_is (steps_.Below a o) h = absurd h
  conflict_is (steps_.LevelAbove a) h = absurd h
  conflict_is (steps_.LevelBelow a) h = absurd h
  conflict_is (steps_.Chain a b) h = absurd h
  conflict_is (steps_.Squeezed a b) h = absurd h

-- steps that refute from what follows show a conflict
pub refuted : (nodes : List Node) (facts : List Fact) (steps : List Step) (known : List Derived) → AllFollow nodes facts known → Refute nodes facts known steps → Conflict nodes facts
refuted nodes facts [] known all r = absurd r
refuted nodes facts (last ∷ []) known all r = conflict_is nodes facts known all last r
refuted nodes facts (step ∷ next ∷ more) known all r = refuted nodes facts (next ∷ more) (known ++ r.0 ∷ [])
    (All-push (Follows nodes facts) known r.0 all (derives_follows nodes facts known all step r.0 r.1)) r.3

pub refutation_is : (nodes : List Node) (facts : List Fact) (steps : List Step) → IsRefutation nodes facts steps → Conflict nodes facts
refutation_is nodes facts steps r = refuted nodes facts steps [] (λ i d l. absurd (omega arith)) r
