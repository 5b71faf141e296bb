-- How many terms a question has does not depend on the order of its terms.
use Rattle.std.proofs.Common.{◌≡◌, ◌+◌, ◌≤◌, ◌<◌, ◌⊎◌, inl, inr, suc, List, [], ◌∷◌, ◌++◌, length, refl, sym, ap, ◌∙◌, subst, arith}
use Rattle.std.proofs.Common.{length-append}
use Rattle.std.proofs.lemmas.List.{get_or_push}
use Rattle.std.proofs.lemmas.Int.{ints}
use Rattle.std.specs.Prelude.{pos, neg_ℤ, ◌-ℤ◌, Bool, true, false, IsTrue, ◌↔◌, All}
use Rattle.vf_closure.specs.Terms.{Term}
use Rattle.vf_closure.specs.Closure.{Unfoldings, Conflict, IsRefuted}
use Rattle.vf_closure.specs.Literals.{Literal, Equal, NotEqual, AtMost, Difference, NotDifference, False, denied, compares}
use Rattle.vf_question.specs.declared.numbering.TheConstants.{MOST_TERMS}
use Rattle.vf_question.specs.Plain.{IsPlainLiteral}
use Rattle.vf_question.specs.Numbered.{with_term, with_all, with_literals, terms_of}
use Rattle.vf_question.proofs.Has.{Has, AreOnce, term_keeps, term_has, term_only, term_once}
use Rattle.vf_unfolding.proofs.Marks.{no_fewer_terms}
use Rattle.std.proofs.lemmas.Bool.{false≢true}
use Rattle.vf_answer.specs.Answers.{GoalsAreCounted, CanBeDenied, asked_terms}

-- a list without the first that is such a term
record Without (t : Term) (us : List Term) : Type 0 where
  rest : List Term
  shorter : length us ≡ length rest + 1
  keeps : (u : Term) → Has us u → (t ≡ u) ⊎ Has rest u

without : (t : Term) (us : List Term) → Has us t → Without t us
without t [] h = absurd h
without t (u ∷ us) (inl e) = record { rest = us; shorter = omega arith; keeps = λ v k. elim k [ inl q ↦ inl (sym e ∙ q) | inr r ↦ inr r ] }
without t (u ∷ us) (inr h) =
    let w = without t us h in
    record {
      rest = u ∷ w.rest;
      shorter = let s = w.shorter in omega (arith, s);
      keeps = λ v k. elim k [ inl q ↦ inr (inl q) | inr r ↦ elim (w.keeps v r) [ inl e ↦ inl e | inr m ↦ inr (inr m) ] ];
    }

-- terms that stand once, each of them among others, are not more than these
not_more : (ts us : List Term) → AreOnce ts → ((u : Term) → Has ts u → Has us u) → length ts ≤ length us
not_more [] us o h = omega arith
not_more (t ∷ ts) us o h =
    let w = without t us (h t (inl refl)) in
    let r = not_more ts w.rest o.1 (λ u k. elim (w.keeps u (h u (inr k))) [ inl e ↦ absurd (o.0 (subst (λ (v : Term). Has ts v) (sym e) k)) | inr m ↦ m ]) in
    let s = w.shorter in
    omega (arith, r, s)

-- two terms come in either order
within_both : (a b : Term) (ts : List Term) (u : Term) → Has (with_term b (with_term a ts)) u → Has (with_term a (with_term b ts)) u
within_both a b ts u h = elim (term_only b (with_term a ts) u h) [
  | inl k ↦ elim (term_only a ts u k) [
    | inl m ↦ term_keeps a (with_term b ts) u (term_keeps b ts u m)
    | inr w ↦ term_has a (with_term b ts) u w
  ]
  | inr w ↦ term_keeps a (with_term b ts) u (term_has b ts u w)
]

pub swapped : (a b : Term) (ts : List Term) → AreOnce ts → length (with_term b (with_term a ts)) ≡ length (with_term a (with_term b ts))
swapped a b ts o =
    let l = not_more (with_term b (with_term a ts)) (with_term a (with_term b ts)) (term_once b (with_term a ts) (term_once a ts o)) (within_both a b ts) in
    let m = not_more (with_term a (with_term b ts)) (with_term b (with_term a ts)) (term_once a (with_term b ts) (term_once b ts o)) (within_both b a ts) in
    omega (arith, l, m)

-- literals come one after the other
then_literals : (ls ms : List Literal) (ts : List Term) → with_literals (ls ++ ms) ts ≡ with_literals ms (with_literals ls ts)
then_literals [] ms ts = refl
then_literals (l ∷ ls) ms ts = then_literals ls ms (with_all (compares l) ts)

all_once : (us ts : List Term) → AreOnce ts → AreOnce (with_all us ts)
all_once [] ts o = o
all_once (u ∷ us) ts o = all_once us (with_term u ts) (term_once u ts o)

literals_once : (ls : List Literal) (ts : List Term) → AreOnce ts → AreOnce (with_literals ls ts)
literals_once [] ts o = o
literals_once (l ∷ ls) ts o = literals_once ls (with_all (compares l) ts) (all_once (compares l) ts o)

-- the negation of a goal compares what the goal does
denied_once : (goal : Literal) (ts : List Term) → AreOnce ts → length (with_literals (denied goal) ts) ≡ length (with_literals (goal ∷ []) ts)
denied_once (Equal a b) ts o = refl
denied_once (NotEqual a b) ts o = refl
denied_once (AtMost p n c) ts o = swapped n p ts o
denied_once (Difference p n c) ts o = refl
denied_once (NotDifference p n c) ts o = refl
denied_once False ts o = refl

pub goals_are_counted : GoalsAreCounted
goals_are_counted facts goal =
    ap length (then_literals facts (denied goal) []) ∙ denied_once goal (with_literals facts []) (literals_once facts [] tt) ∙ ap length (sym (then_literals facts (goal ∷ []) []))

-- ---- answers
pub too_many : (facts literals : List Literal) (goal : Literal) → literals ≡ facts ++ denied goal → MOST_TERMS < length (terms_of literals) → MOST_TERMS < length (asked_terms facts goal)
too_many facts literals goal e h = let k = ap (λ ls. length (terms_of ls)) e ∙ goals_are_counted facts goal in omega (arith, h, k)

pub few_enough : (facts literals : List Literal) (goal : Literal) → literals ≡ facts ++ denied goal → length (terms_of literals) ≤ MOST_TERMS → length (asked_terms facts goal) ≤ MOST_TERMS
few_enough facts literals goal e h = let k = ap (λ ls. length (terms_of ls)) e ∙ goals_are_counted facts goal in omega (arith, h, k)

-- a conflict of what a path has is a plain refutation, and none is none
pub proved_answered : (u : Unfoldings) (facts literals : List Literal) (goal : Literal) (b : Bool) → literals ≡ facts ++ denied goal → length (terms_of literals) ≤ MOST_TERMS → b ≡ true → IsTrue b ↔ Conflict u literals → (length (asked_terms facts goal) ≤ MOST_TERMS) × IsRefuted u facts goal
proved_answered u facts literals goal b e l test h = (few_enough facts literals goal e l, subst (Conflict u) e (h.0 test))

pub unknown_answered : (u : Unfoldings) (facts literals : List Literal) (goal : Literal) (b : Bool) → literals ≡ facts ++ denied goal → length (terms_of literals) ≤ MOST_TERMS → b ≡ false → IsTrue b ↔ Conflict u literals → (length (asked_terms facts goal) ≤ MOST_TERMS) × (IsRefuted u facts goal → ⊥)
unknown_answered u facts literals goal b e l test h = (few_enough facts literals goal e l, λ r. false≢true (sym test ∙ h.1 (subst (Conflict u) (sym e) r)))

-- facts that have too many terms have too many with a goal
pub facts_too_many : (facts : List Literal) (goal : Literal) → MOST_TERMS < length (terms_of facts) → MOST_TERMS < length (asked_terms facts goal)
facts_too_many facts goal h = let l = no_fewer_terms facts (goal ∷ []) in omega (arith, h, l)

-- what holds of each of a list holds of its last
last_of : {A : Type 0} (P : A → Type 0) (xs : List A) (x : A) → All P (xs ++ x ∷ []) → P x
last_of P xs x h = subst P (get_or_push xs x x (length xs) refl) (h (length xs) x (simp length-append (omega arith)))

-- what holds of each of a list holds of those behind its front
pub all_behind : {A : Type 0} (P : A → Type 0) (xs ys : List A) → All P (xs ++ ys) → All P ys
all_behind P [] ys h = h
all_behind P (x ∷ xs) ys h = all_behind P xs ys (λ k d l. h (suc k) d (omega (arith, l)))

-- a goal whose negation is plain can be denied
pub deniable : (facts : List Literal) (goal : Literal) → All IsPlainLiteral (facts ++ denied goal) → CanBeDenied goal
deniable facts (Equal a b) h = tt
deniable facts (NotEqual a b) h = tt
deniable facts (AtMost p n c) h =
    let s = (last_of IsPlainLiteral facts (AtMost n p (neg_ℤ c -ℤ pos 1)) h).4 in
    let l = s.low in
    let m = s.high in
    record { low = omega (arith, ints); high = omega (arith, ints) }
deniable facts (Difference p n c) h = tt
deniable facts (NotDifference p n c) h = tt
deniable facts False h = tt
