-- The check, step by step.
use Rattle.std.proofs.Common.{◌≡◌, ℕ, suc, Bool, ◌+◌, ◌<◌, ◌↔◌, List, [], ◌∷◌, ◌++◌, length, drop, get_or, Option, Some, None, sym, ◌∙◌, ap, ap₂, subst, arith, add-one}
use Rattle.std.specs.Prelude.{All, IsTrue, MatchOption, slice_get}
use Rattle.std.proofs.Math.Seq.{drop-cons}
use Rattle.std.proofs.lemmas.List.{length-drop, drop_all}
use Rattle.vf_table.specs.declared.node.Node.{Node}
use Rattle.vf_refute.specs.declared.steps.Fact.{Fact}
use Rattle.vf_refute.specs.declared.steps.Derived.{Derived}
use Rattle.vf_refute.specs.declared.steps.Derived.TheVariants.{AreEqual}
use Rattle.vf_refute.specs.declared.steps.Step as refute
use Rattle.vf_refute.specs.Refutations.{HasDerived, Derives, IsWithinLimit, IsConflict, IsAnswer}
use Rattle.vf_refute.proofs.Refuting.{derives_one}
use Rattle.vf_closure.specs.Terms.{Term}
use Rattle.vf_closure.specs.Closure.{Unfoldings}
use Rattle.vf_closure.specs.Literals.{Literal}
use Rattle.vf_question.specs.Numbered.{place, with_term, all_terms}
use Rattle.vf_question.specs.Plain.{IsPlain}
use Rattle.vf_recheck.specs.declared.steps.Step.{Step}
use Rattle.vf_recheck.specs.declared.steps.Step.TheVariants as steps_
use Rattle.vf_recheck.specs.Refutations.{facts_over, IsTableOf, DerivesOver, IsConflictOver, IsBodyAt, GoesBy, IsCaseBy, IsCaseAt, Unfolds, GoesOn, Ends, Refute, IsRefutation, IsTold}
use Rattle.vf_recheck.proofs.Alike.{derives_alike, conflict_alike}
use Rattle.vf_recheck.proofs.Growing.{plain_with, all_plain, each_plain}

-- ---- a step derives one thing
one_some : {A : Type 0} {o : Option A} {x y : A} → o ≡ Some x → o ≡ Some y → x ≡ y
one_some {A} {o} {x} {y} h k = let e : Some x ≡ Some y = sym h ∙ k in cc

-- what an application is unfolded to is one term
abbrev IsOne : (Term → Type 0) → Type 0
IsOne unfolded = (a b : Term) → unfolded a → unfolded b → a ≡ b

unfolds_one : (unfolded : Term → Type 0) (ts : List Term) (t : ℕ) (d e : Derived) (n m : List Term) → IsOne unfolded → Unfolds unfolded ts t d n → Unfolds unfolded ts t e m → (d ≡ e) × (n ≡ m)
unfolds_one unfolded ts t d e n m one h k =
    let b = one h.body k.body h.is k.is in
    let l : n ≡ m = h.numbered ∙ ap (λ x. with_term x ts) b ∙ sym k.numbered in
    (h.derives ∙ ap₂ (λ x ns. AreEqual t (place x ns)) b l ∙ sym k.derives, l)

body_one : (u : Unfoldings) (ts : List Term) (t : ℕ) → IsOne (IsBodyAt u ts t)
body_one u ts t a b h k =
    let s : h.application ≡ k.application = one_some h.stands k.stands in
    one_some (ap u.body (sym s) ∙ h.is) k.is

case_one : (u : Unfoldings) (ts : List Term) (known : List Derived) (t s : ℕ) → IsOne (IsCaseAt u ts known t s)
case_one u ts known t s a b h k =
    let p : h.application ≡ k.application = one_some h.stands k.stands in
    let e : AreEqual h.left h.right ≡ AreEqual k.left k.right = one_some h.equal k.equal in
    let r : h.right ≡ k.right = cc in
    let y : h.case.by ≡ k.case.by = one_some (ap (slice_get ts) (sym r) ∙ h.case.stands) k.case.stands in
    one_some (ap₂ u.case (sym p) (sym y) ∙ h.case.is) k.case.is

over_one : (facts : List Fact) (ts : List Term) (known : List Derived) (s : refute.Step) (d e : Derived) → DerivesOver facts ts known s d → DerivesOver facts ts known s e → d ≡ e
over_one facts ts known s d e h k = derives_one k.nodes facts known s d e (derives_alike h.nodes k.nodes (h.table ∙ sym k.table) facts known s d h.derives) k.derives

module _ (u : Unfoldings) (facts : List Fact) (ts : List Term) (known : List Derived) where
  goes_one : (s : Step) (d e : Derived) (n m : List Term) → GoesOn u facts ts known s d n → GoesOn u facts ts known s e m → (d ≡ e) × (n ≡ m)
  goes_one (steps_.Plain s) d e n m h k = (over_one facts ts known s d e h.0 k.0, h.1 ∙ sym k.1)
  goes_one (steps_.ToBody t) d e n m h k = unfolds_one (IsBodyAt u ts t) ts t d e n m (body_one u ts t) h k
  goes_one (steps_.ByCase t a) d e n m h k = unfolds_one (IsCaseAt u ts known t a) ts t d e n m (case_one u ts known t a) h k

  goes_on : (step : Step) (rest : List Step) (d : Derived) (now : List Term) → 0 < length rest → GoesOn u facts ts known step d now → IsWithinLimit d →
      (Refute u facts ts known (step ∷ rest) → Refute u facts now (known ++ d ∷ []) rest) × (Refute u facts now (known ++ d ∷ []) rest → Refute u facts ts known (step ∷ rest))
  goes_on step [] d now l h w = absurd (omega arith)
  goes_on step (next ∷ more) d now l h w = (
    λ r. let e = goes_one step r.0 d r.1 now r.2 h in subst (λ (z : List Term). Refute u facts z (known ++ d ∷ []) (next ∷ more)) e.1 (subst (λ (z : Derived). Refute u facts r.1 (known ++ z ∷ []) (next ∷ more)) e.0 r.4),
    λ r. (d, now, h, w, r),
  )

  stops : (step : Step) (rest : List Step) → 0 < length rest → ((d : Derived) (now : List Term) → GoesOn u facts ts known step d now → IsWithinLimit d → ⊥) → Refute u facts ts known (step ∷ rest) → ⊥
  stops step [] l none r = omega arith
  stops step (next ∷ more) l none r = none r.0 r.1 r.2 r.3

  -- plain terms stay so
  pub goes_plain : (s : Step) (d : Derived) (now : List Term) → All IsPlain ts → GoesOn u facts ts known s d now → All IsPlain now
  goes_plain (steps_.Plain s) d now p h = subst (All IsPlain) (sym h.1) p
  goes_plain (steps_.ToBody t) d now p h = subst (All IsPlain) (sym h.numbered) (all_plain (with_term h.body ts) (plain_with h.body ts (each_plain ts p) h.plain))
  goes_plain (steps_.ByCase t a) d now p h = subst (All IsPlain) (sym h.numbered) (all_plain (with_term h.body ts) (plain_with h.body ts (each_plain ts p) h.plain))

-- ---- one turn
rest_read : (steps : List Step) (i : ℕ) (s : Step) → i < length steps → s ≡ get_or steps i s → drop i steps ≡ s ∷ drop (i + 1) steps
rest_read steps i s l e = rw add-one (drop-cons steps i s l ∙ ap (λ (z : Step). z ∷ drop (suc i) steps) (sym e))

pub turn : (u : Unfoldings) (facts : List Fact) (ts now : List Term) (known known' : List Derived) (steps : List Step) (i : ℕ) (s : Step) (d : Derived) → i + 1 < length steps → s ≡ get_or steps i s →
    known' ≡ known ++ d ∷ [] → GoesOn u facts ts known s d now → IsWithinLimit d →
    (Refute u facts ts known (drop i steps) → Refute u facts now known' (drop (i + 1) steps)) × (Refute u facts now known' (drop (i + 1) steps) → Refute u facts ts known (drop i steps))
turn u facts ts now known known' steps i s d l e k h w =
    let on = goes_on u facts ts known s (drop (i + 1) steps) d now (simp length-drop (omega arith)) h w in
    let rest = rest_read steps i s (omega arith) e in (
      λ r. subst (λ (z : List Derived). Refute u facts now z (drop (i + 1) steps)) (sym k) (on.0 (subst (Refute u facts ts known) rest r)),
      λ r. subst (Refute u facts ts known) (sym rest) (on.1 (subst (λ (z : List Derived). Refute u facts now z (drop (i + 1) steps)) k r)),
    )

-- the last turn
pub last_read : (steps : List Step) (i : ℕ) (s : Step) → i + 1 ≡ length steps → s ≡ get_or steps i s → drop i steps ≡ s ∷ []
last_read steps i s l e = rest_read steps i s (omega arith) e ∙ ap (λ (z : List Step). s ∷ z) (drop_all (i + 1) steps (omega arith))

-- a turn at which nothing is derived
pub turn_stops : (u : Unfoldings) (facts : List Fact) (ts : List Term) (known : List Derived) (steps : List Step) (i : ℕ) (s : Step) → i + 1 < length steps → s ≡ get_or steps i s → ((d : Derived) (now : List Term) → GoesOn u facts ts known s d now → IsWithinLimit d → ⊥) → Refute u facts ts known (drop i steps) → ⊥
turn_stops u facts ts known steps i s l e none r =
    stops u facts ts known s (drop (i + 1) steps) (simp length-drop (omega arith)) none (subst (Refute u facts ts known) (rest_read steps i s (omega arith) e) r)

-- ---- what is told of one step
pub plain_told : (u : Unfoldings) (facts : List Fact) (nodes : List Node) (ts now : List Term) (known : List Derived) (s : refute.Step) (o : Option Derived) → IsTableOf nodes ts → now ≡ ts → IsAnswer (Derives nodes facts known s) o → IsTold (GoesOn u facts ts known (steps_.Plain s)) now o
plain_told u facts nodes ts now known s None t e a = λ d n h w. a d (derives_alike h.0.nodes nodes (h.0.table ∙ sym t) facts known s d h.0.derives) w
plain_told u facts nodes ts now known s (Some d) t e a = ((record { nodes = nodes; table = t; derives = a.0 }, e), a.1)

pub end_told : (facts : List Fact) (nodes : List Node) (ts : List Term) (known : List Derived) (s : refute.Step) → IsTableOf nodes ts → IsConflict nodes facts known s ↔ IsConflictOver facts ts known s
end_told facts nodes ts known s t = (λ h. record { nodes = nodes; table = t; conflict = h }, λ h. conflict_alike h.nodes nodes (h.table ∙ sym t) facts known s h.conflict)

-- ---- what is told of an unfolding
pub case_told : (u : Unfoldings) (ts : List Term) (known : List Derived) (t s x y : ℕ) (application : Term) (o : Option Term) → slice_get ts t ≡ Some application → HasDerived known s (AreEqual x y) → GoesBy u ts application x
    → MatchOption o ((b : Term) → IsCaseBy u ts application y b → ⊥) (λ b. IsCaseBy u ts application y b × IsPlain b) → MatchOption o ((b : Term) → IsCaseAt u ts known t s b → ⊥) (λ b. IsCaseAt u ts known t s b × IsPlain b)
case_told u ts known t s x y application None st e g m = λ b k.
    let p : k.application ≡ application = one_some k.stands st in
    let q : AreEqual k.left k.right ≡ AreEqual x y = one_some k.equal e in
    let r : k.right ≡ y = cc in
    m b (subst (λ (a : Term). IsCaseBy u ts a y b) p (subst (λ (n : ℕ). IsCaseBy u ts k.application n b) r k.case))
case_told u ts known t s x y application (Some b) st e g m = (record { application = application; left = x; right = y; stands = st; equal = e; goes_by = g; case = m.0 }, m.1)

-- ---- the whole check
module _ (u : Unfoldings) (ls : List Literal) (steps : List Step) where
  -- at the beginning
  pub begins : (ts : List Term) (known : List Derived) → ts ≡ all_terms ls → known ≡ [] → (IsRefutation u ls steps → Refute u (facts_over ls) ts known steps) × (Refute u (facts_over ls) ts known steps → IsRefutation u ls steps)
  begins ts known e k = (
    λ r. subst (λ (vs : List Term). Refute u (facts_over ls) vs known steps) (sym e) (subst (λ (ds : List Derived). Refute u (facts_over ls) (all_terms ls) ds steps) (sym k) r),
    λ r. subst (λ (ds : List Derived). Refute u (facts_over ls) (all_terms ls) ds steps) k (subst (λ (vs : List Term). Refute u (facts_over ls) vs known steps) e r),
  )

  module _ (ts ts' : List Term) (known known' : List Derived) (fs : List Fact) (i : ℕ) (s : Step) (is : s ≡ get_or steps i s) (ef : fs ≡ facts_over ls) (et : ts' ≡ ts) (ek : known' ≡ known)
      (onward : IsRefutation u ls steps → Refute u (facts_over ls) ts known (drop i steps)) (back : Refute u (facts_over ls) ts known (drop i steps) → IsRefutation u ls steps) where
    ends_over : Ends fs ts' known' s → Ends (facts_over ls) ts known s
    ends_over h = subst (λ (gs : List Fact). Ends gs ts known s) ef (subst (λ (vs : List Term). Ends fs vs known s) et (subst (λ (ds : List Derived). Ends fs ts' ds s) ek h))

    ends_under : Ends (facts_over ls) ts known s → Ends fs ts' known' s
    ends_under h = subst (λ (ds : List Derived). Ends fs ts' ds s) (sym ek) (subst (λ (vs : List Term). Ends fs vs known s) (sym et) (subst (λ (gs : List Fact). Ends gs ts known s) (sym ef) h))

    -- at the last step
    pub last_turn : (b : Bool) → i + 1 ≡ length steps → IsTrue b ↔ Ends fs ts' known' s → IsTrue b ↔ IsRefutation u ls steps
    last_turn b l h = (
      λ t. back (subst (Refute u (facts_over ls) ts known) (sym (last_read steps i s l is)) (ends_over (h.0 t))),
      λ r. h.1 (ends_under (subst (Refute u (facts_over ls) ts known) (last_read steps i s l is) (onward r))),
    )

    goes_over : (d : Derived) (now : List Term) → GoesOn u fs ts' known' s d now → GoesOn u (facts_over ls) ts known s d now
    goes_over d now h = subst (λ (gs : List Fact). GoesOn u gs ts known s d now) ef (subst (λ (vs : List Term). GoesOn u fs vs known s d now) et (subst (λ (ds : List Derived). GoesOn u fs ts' ds s d now) ek h))

    goes_under : (d : Derived) (now : List Term) → GoesOn u (facts_over ls) ts known s d now → GoesOn u fs ts' known' s d now
    goes_under d now h = subst (λ (ds : List Derived). GoesOn u fs ts' ds s d now) (sym ek) (subst (λ (vs : List Term). GoesOn u fs vs known s d now) (sym et) (subst (λ (gs : List Fact). GoesOn u gs ts known s d now) (sym ef) h))

    -- at a step that derives nothing
    pub no_turn : i + 1 < length steps → ((d : Derived) (now : List Term) → GoesOn u fs ts' known' s d now → IsWithinLimit d → ⊥) → IsRefutation u ls steps → ⊥
    no_turn l none r = turn_stops u (facts_over ls) ts known steps i s l is (λ d now h w. none d now (goes_under d now h) w) (onward r)

    -- at a step that derives something
    pub next_turn : (d : Derived) (now : List Term) (more : List Derived) → i + 1 < length steps → more ≡ known ++ d ∷ [] → GoesOn u fs ts' known' s d now → IsWithinLimit d →
        (IsRefutation u ls steps → Refute u (facts_over ls) now more (drop (i + 1) steps)) × (Refute u (facts_over ls) now more (drop (i + 1) steps) → IsRefutation u ls steps)
    next_turn d now more l e h w =
        let on = turn u (facts_over ls) ts now known more steps i s d l is e (goes_over d now h) w in
        (λ r. on.0 (onward r), λ r. back (on.1 r))
