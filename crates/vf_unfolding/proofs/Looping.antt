-- The steps of the loop, and its ends.
use Rattle.std.proofs.Common.{◌≡◌, ◌<◌, ◌⊎◌, inl, inr, ℕ, List, [], ◌∷◌, ◌++◌, length, map, sym, ap, ◌∙◌, subst}
use Rattle.std.specs.Prelude.{Bool, All, Contains, IsTrue, ◌↔◌}
use Rattle.std.proofs.lemmas.List.{map_push, append_assoc}
use Rattle.std.proofs.lemmas.List.Elements.{All-push, Contains-append_left, Contains-append_right, Contains-append_cases, Contains-push, Contains-push_cases}
use Rattle.vf_closure.specs.Literals as pure
use Rattle.vf_closure.specs.Closure.{Unfoldings, no_unfoldings, Conflict}
use Rattle.vf_question.specs.declared.unfolding.Unfolding.{Unfolding}
use Rattle.vf_question.specs.Numbered.{with_all, terms_of, all_terms}
use Rattle.vf_question.specs.Plain.{IsPlain, IsPlainLiteral}
use Rattle.vf_question.specs.Questions.{at}
use Rattle.vf_question.specs.Unfolded.{equation, equations, AreRight, AreSettled, RightIsSound, SettledIsEnough}
use Rattle.vf_question.specs.Ends.{missing, UnfoldingEnds}
use Rattle.vf_unfolding.specs.Rounds.{zero_is_zero, IsCovered, AreOf, AreNumbers, AreKeptFor, IsNextNew, AreInTurn, AreEnough}
use Rattle.vf_unfolding.proofs.Covering.{conflict_over}
use Rattle.vf_unfolding.proofs.Marks.{numbers_stay, terms_more}
use Rattle.vf_unfolding.proofs.Turning.{turn_right, turn_next}

-- ---- covers go on
covered_more : (xs ys : List pure.Literal) (l : pure.Literal) → ((k : pure.Literal) → Contains xs k → Contains ys k) → IsCovered xs l → IsCovered ys l
covered_more xs ys l more (inl c) = inl (more l c)
covered_more xs ys l more (inr e) = inr e

-- what covers a list covers it with one more, where it has that too
cover_more : (xs bs cs : List pure.Literal) (e : pure.Literal) → ((k : pure.Literal) → Contains bs k → Contains cs k) → Contains cs e → ((k : pure.Literal) → Contains xs k → IsCovered bs k) → (k : pure.Literal) → Contains xs k ⊎ (e ≡ k) → IsCovered cs k
cover_more xs bs cs e more c h k (inl d) = covered_more bs cs k more (h k d)
cover_more xs bs cs e more c h k (inr q) = inl (subst (Contains cs) q c)

-- the literals and what they are of get the same literal more
of_more : (ls all more : List pure.Literal) (e : pure.Literal) → ((k : pure.Literal) → Contains all k → Contains more k) → Contains more e → ((k : pure.Literal) → Contains more k → Contains all k ⊎ (e ≡ k))
    → ((k : pure.Literal) → Contains ls k → IsCovered all k) → ((k : pure.Literal) → Contains all k → IsCovered ls k)
    → ((k : pure.Literal) → Contains (ls ++ e ∷ []) k → IsCovered more k) × ((k : pure.Literal) → Contains more k → IsCovered (ls ++ e ∷ []) k)
of_more ls all more e up there down only whole = (
  (λ k c. cover_more ls all more e up there only k (Contains-push_cases ls e k c)),
  (λ k c. cover_more all ls (ls ++ e ∷ []) e (Contains-append_left ls (e ∷ [])) (Contains-push ls e) whole k (down k c)),
)

-- ---- one fact more
module _ (ls facts : List pure.Literal) (made : List Unfolding) (l : pure.Literal) where
  fact_up : (k : pure.Literal) → Contains (facts ++ equations made) k → Contains ((facts ++ l ∷ []) ++ equations made) k
  fact_up k c = elim (Contains-append_cases facts (equations made) k c) [
    | inl h ↦ Contains-append_left (facts ++ l ∷ []) (equations made) k (Contains-append_left facts (l ∷ []) k h)
    | inr h ↦ Contains-append_right (facts ++ l ∷ []) (equations made) k h
  ]

  fact_there : Contains ((facts ++ l ∷ []) ++ equations made) l
  fact_there = Contains-append_left (facts ++ l ∷ []) (equations made) l (Contains-push facts l)

  fact_down : (k : pure.Literal) → Contains ((facts ++ l ∷ []) ++ equations made) k → Contains (facts ++ equations made) k ⊎ (l ≡ k)
  fact_down k c = elim (Contains-append_cases (facts ++ l ∷ []) (equations made) k c) [
    | inl h ↦ elim (Contains-push_cases facts l k h) [ inl i ↦ inl (Contains-append_left facts (equations made) k i) | inr e ↦ inr e ]
    | inr h ↦ inl (Contains-append_right facts (equations made) k h)
  ]

  pub of_fact : AreOf ls facts made → AreOf (ls ++ l ∷ []) (facts ++ l ∷ []) made
  of_fact o =
      let r = of_more ls (facts ++ equations made) ((facts ++ l ∷ []) ++ equations made) l fact_up fact_there fact_down o.only o.all in
      record { only = r.0; all = r.1; zero = Contains-append_left ls (l ∷ []) zero_is_zero o.zero }

-- ---- one equation more
module _ (ls facts : List pure.Literal) (made now : List Unfolding) (m : Unfolding) (is : now ≡ made ++ m ∷ []) where
  now_are : facts ++ equations now ≡ (facts ++ equations made) ++ equation m ∷ []
  now_are = ap (λ (ms : List Unfolding). facts ++ equations ms) is ∙ ap (λ (ks : List pure.Literal). facts ++ ks) (map_push equation made m) ∙ sym (append_assoc facts (equations made) (equation m ∷ []))

  pub of_equation : AreOf ls facts made → AreOf (ls ++ equation m ∷ []) facts now
  of_equation o =
      let all = facts ++ equations made in
      let r = of_more ls all (all ++ equation m ∷ []) (equation m) (Contains-append_left all (equation m ∷ [])) (Contains-push all (equation m)) (Contains-push_cases all (equation m)) o.only o.all in
      record {
        only = λ k c. subst (λ (xs : List pure.Literal). IsCovered xs k) (sym now_are) (r.0 k c);
        all = λ k c. r.1 k (subst (λ (xs : List pure.Literal). Contains xs k) now_are c);
        zero = Contains-append_left ls (equation m ∷ []) zero_is_zero o.zero;
      }

pub plain_more : (ls : List pure.Literal) (l : pure.Literal) → All IsPlainLiteral ls → IsPlainLiteral l → All IsPlainLiteral (ls ++ l ∷ [])
plain_more ls l h p = All-push IsPlainLiteral ls l h p

-- what is kept goes on with an equation
pub kept_equation : (before after facts : List pure.Literal) (made now : List Unfolding) (asked : List ℕ) (m : Unfolding) → after ≡ before ++ equation m ∷ [] → now ≡ made ++ m ∷ [] → IsPlain m.application → IsPlain m.body
    → AreKeptFor before facts made asked → AreKeptFor after facts now asked
kept_equation before after facts made now asked m e is p q h = subst (λ (ls : List pure.Literal). AreKeptFor ls facts now asked) (sym e) (record {
  literals = of_equation before facts made now m is h.literals;
  numbers = numbers_stay before facts asked (equation m) h.literals.zero h.numbers;
  plain = plain_more before (equation m) h.plain (p, q);
})

-- and with a fact, whose terms are marked
pub kept_fact : (before after facts more : List pure.Literal) (made : List Unfolding) (asked : List ℕ) (l : pure.Literal) → after ≡ before ++ l ∷ [] → more ≡ facts ++ l ∷ [] → IsPlainLiteral l
    → map (at (all_terms after)) asked ≡ terms_of more → All (λ k. k < length (all_terms after)) asked → (o : List ℕ) → AreKeptFor before facts made o → AreKeptFor after more made asked
kept_fact before after facts more made asked l e f p t w o h =
    let r : AreOf (before ++ l ∷ []) (facts ++ l ∷ []) made = of_fact before facts made l h.literals in
    record {
      literals = subst (λ (ls : List pure.Literal). AreOf ls more made) (sym e) (subst (λ (ks : List pure.Literal). AreOf (before ++ l ∷ []) ks made) (sym f) r);
      numbers = record { terms = t; within = w };
      plain = subst (All IsPlainLiteral) (sym e) (plain_more before l h.plain p);
    }

-- ---- the ends of the loop
module _ (u : Unfoldings) (facts : List pure.Literal) (made : List Unfolding) (turn : AreInTurn u facts made) where
  right : AreRight u facts made
  right = turn_right u facts made turn

  -- there is a conflict
  pub enough_for_conflict : RightIsSound → Conflict no_unfoldings (facts ++ equations made) → AreEnough u facts made
  enough_for_conflict law h = record { turn = turn; enough = (λ k. h, λ k. law u facts made right k) }

  -- nothing is left to unfold
  pub enough_when_settled : SettledIsEnough → AreSettled u facts made → AreEnough u facts made
  enough_when_settled law h = record { turn = turn; enough = law u facts made right h }

  module _ (m : Unfolding) (next : IsNextNew u facts made m) (now : List Unfolding) (is : now ≡ made ++ m ∷ []) where
    pub fewer_missing : UnfoldingEnds → missing u facts now < missing u facts made
    fewer_missing law = subst (λ (ms : List Unfolding). missing u facts ms < missing u facts made) (sym is) (law u facts made m right next.next next.new)

    pub still_in_turn : AreInTurn u facts now
    still_in_turn = subst (AreInTurn u facts) (sym is) (turn_next u facts made m turn next.next)

-- what is kept has a conflict exactly where the facts have one with unfolding
pub refuted_is : (ls facts : List pure.Literal) (made : List Unfolding) (os : List ℕ) (b : Bool) → AreKeptFor ls facts made os → IsTrue b ↔ Conflict no_unfoldings ls → (u : Unfoldings) → AreEnough u facts made → IsTrue b ↔ Conflict u facts
refuted_is ls facts made os b kept h u e = (
  (λ t. e.enough.1 (conflict_over ls (facts ++ equations made) kept.literals.only (h.0 t))),
  (λ k. h.1 (conflict_over (facts ++ equations made) ls kept.literals.all (e.enough.0 k))),
)

-- ---- one fact more, and its marks
module _ (before after facts : List pure.Literal) (made : List Unfolding) (os : List ℕ) (l : pure.Literal) (grown : after ≡ before ++ l ∷ []) (kept : AreKeptFor before facts made os) where
  numbers_after : AreNumbers after facts os
  numbers_after = subst (λ (ls : List pure.Literal). AreNumbers ls facts os) (sym grown) (numbers_stay before facts os l kept.literals.zero kept.numbers)

  pub within_after : All (λ k. k < length (all_terms after)) os
  within_after = numbers_after.within

  pub kept_marked : (more : List pure.Literal) (now : List ℕ) → more ≡ facts ++ l ∷ [] → IsPlainLiteral l → map (at (all_terms after)) now ≡ with_all (pure.compares l) (map (at (all_terms after)) os) → All (λ k. k < length (all_terms after)) now → AreKeptFor after more made now
  kept_marked more now f p t w =
      kept_fact before after facts more made now l grown f p (t ∙ ap (with_all (pure.compares l)) numbers_after.terms ∙ sym (ap terms_of f ∙ terms_more facts l)) w os kept
