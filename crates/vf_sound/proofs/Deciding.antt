-- Goals that hold are refuted when they are denied.
use Rattle.std.proofs.Common.{◌≡◌, ◌∙◌, refl, sym, subst, List, [], ◌∷◌, ◌++◌, Bool, true, false, arith}
use Rattle.std.specs.Prelude.{ℤ, pos, neg_ℤ, ◌-ℤ◌, ◌≤ℤ◌, Contains}
use Rattle.std.proofs.lemmas.Int.{ints}
use Rattle.std.proofs.lemmas.Bool.{false≢true}
use Rattle.std.proofs.lemmas.List.Elements.{Contains-append_right}
use Rattle.vf_model.specs.Values.{Value}
use Rattle.vf_model.specs.Values as values
use Rattle.vf_meaning.specs.Valuations.{Valuation}
use Rattle.vf_meaning.specs.GhostValues.{Interpretation}
use Rattle.vf_closure.specs.Terms.{Truth, Term, term, no_terms, number, itself}
use Rattle.vf_closure.specs.Literals.{Literal, NotEqual, AtMost, Difference, NotDifference, Holds}
use Rattle.vf_closure.specs.Closure.{Unfoldings, asked, zero_arises, same_self, most, weaker, still, Bound, below_itself, denied_equality, denied_difference, IsRefuted}
use Rattle.vf_definitions.specs.Unfolded.{unfoldings_of}
use Rattle.vf_asking.specs.declared.answers.Answer.{Answer}
use Rattle.vf_asking.specs.declared.answers.Answer.TheVariants.{Proved, Unknown}
use Rattle.vf_exec.specs.Literals.{truth_of}
use Rattle.vf_exec.proofs.Comparing.{at_most_is, equal_is}
use Rattle.vf_sound.specs.Decided.{IsOfForm, at_most, equal, truth, falsehood, AnswersDecideGoals}

-- the number 0 as a term
abbrev nought : Term
nought = number (pos 0)

-- what stands alone behind others
last : (path : List Literal) (l : Literal) → Contains (path ++ l ∷ []) l
last path l = Contains-append_right path (l ∷ []) l (0, omega arith, refl)

module _ (u : Unfoldings) (path : List Literal) where
  at_most_refuted : (c : ℤ) → pos 0 ≤ℤ c → IsRefuted u path (AtMost nought nought c)
  at_most_refuted c high = below_itself (weaker (omega (arith, ints)) (most (last path (AtMost nought nought (neg_ℤ c -ℤ pos 1)))))

  stays : Bound u (path ++ NotDifference nought nought (pos 0) ∷ []) nought nought (pos 0)
  stays = still {d = 0} refl zero_arises

  difference_refuted : (c : ℤ) → c ≡ pos 0 → IsRefuted u path (Difference nought nought c)
  difference_refuted c is = subst (λ (z : ℤ). IsRefuted u path (Difference nought nought z)) (sym is) (denied_difference {x = nought} {y = nought} {c = pos 0} (last path (NotDifference nought nought (pos 0))) stays stays)

  truth_refuted : (b : Bool) → b ≡ true → IsRefuted u path (truth_of b)
  truth_refuted false is = absurd (false≢true is)
  truth_refuted true is =
      let t = term (Truth true) no_terms in
      denied_equality {a = t} {b = t} (last path (NotEqual t t)) (same_self {d = 0} (asked {l = NotEqual t t} (last path (NotEqual t t)) (0, omega arith, refl) itself))

module _ (i : Interpretation) (v : Valuation) where
  not_below : (c : ℤ) → Holds i v (AtMost nought nought c) → pos 0 ≤ℤ c
  not_below c h = omega (arith, ints)

  no_distance : (c : ℤ) → Holds i v (Difference nought nought c) → c ≡ pos 0
  no_distance c h = omega (arith, ints)

  true_alone : (b : Bool) → Holds i v (truth_of b) → b ≡ true
  true_alone true h = refl
  true_alone false h = absurd (clash h)
    where
      clash : values.Truth false ≡ values.Truth true → ⊥
      clash e = cc

  -- a goal that holds is refuted when it is denied
  pub refuted : (u : Unfoldings) (path : List Literal) (goal : Literal) → IsOfForm goal → Holds i v goal → IsRefuted u path goal
  refuted u path goal (at_most {a} {b} s t is) h =
      let same = is ∙ at_most_is a b s t in
      subst (λ l. IsRefuted u path l) (sym same) (at_most_refuted u path (b -ℤ a) (not_below (b -ℤ a) (subst (λ l. Holds i v l) same h)))
  refuted u path goal (equal {a} {b} s t is) h =
      let same = is ∙ equal_is a b s t in
      subst (λ l. IsRefuted u path l) (sym same) (difference_refuted u path (b -ℤ a) (no_distance (b -ℤ a) (subst (λ l. Holds i v l) same h)))
  refuted u path goal (truth {b} is) h = subst (λ l. IsRefuted u path l) (sym is) (truth_refuted u path b (true_alone b (subst (λ l. Holds i v l) is h)))
  refuted u path goal (falsehood is) h = absurd (subst (λ l. Holds i v l) is h)

settled : (answer : Answer) (A : Type 0) → (answer ≡ Unknown → A → ⊥) → A → answer ≡ Proved
settled Proved A never a = refl
settled Unknown A never a = absurd (never refl a)

pub answers_decide : AnswersDecideGoals
answers_decide i v e form meets facts right =
    (λ is. right.proved is i meets v facts, λ h. settled e.answer (IsRefuted (unfoldings_of e.definitions) e.path e.goal) right.unknown (refuted i v (unfoldings_of e.definitions) e.path e.goal form h))
