-- What the answers to questions make right.
use Rattle.std.proofs.Common.{◌≡◌, ◌<◌, ◌≤◌, ◌-◌, ℕ, zero, suc, Bool, false, List, [], ◌∷◌, length, get_or, inl, inr, sym, ap, subst, ◌∙◌, arith}
use Rattle.std.specs.Prelude.{All, IsTrue, ◌↔◌}
use Rattle.std.proofs.lemmas.Bool.{false≢true, cases_lt, ltb-true, lt-ltb}
use Rattle.std.proofs.lemmas.List.Elements.{All-map, All-weaker}
use Rattle.vf_trail.specs.Trail.{path_of}
use Rattle.vf_closure.specs.Literals.{denied}
use Rattle.vf_closure.specs.Literals as pure
use Rattle.vf_formula.specs.Literals.{shown_literal}
use Rattle.vf_formula.specs.declared.literal.Literal.{Literal}
use Rattle.vf_question.specs.Plain.{IsPlainLiteral}
use Rattle.vf_question.specs.Numbered.{terms_of}
use Rattle.vf_question.specs.declared.numbering.TheConstants.{MOST_TERMS}
use Rattle.vf_answer.specs.Answers.{asked_terms, IsAnswer}
use Rattle.vf_answer.proofs.Counting.{facts_too_many}
use Rattle.vf_answer.specs.declared.answer.Answer as answered
use Rattle.vf_answer.specs.declared.answer.Answer.TheVariants as answers
use Rattle.vf_definitions.specs.Unfolded.{unfoldings_of}
use Rattle.vf_definitions.specs.declared.fixpoint.Fixpoint.{Fixpoint}
use Rattle.vf_definitions.proofs.Soundness.{definitions_entail}
use Rattle.vf_asking.specs.declared.answers.Answer.TheVariants.{Proved, Unknown}
use Rattle.vf_asking.specs.Plain.{is_plain_literal}
use Rattle.vf_asking.specs.Question.{has_too_many_terms}
use Rattle.vf_asking.specs.Journal.{path_to, definitions_at}
use Rattle.vf_asking.specs.Whole.{ArePlainFacts}
use Rattle.vf_asking.proofs.Testing.{plain_literals_decide}
use Rattle.vf_prover.specs.Held.{last_definitions, IsRightAnswer}
use Rattle.vf_prover.proofs.Walking.{all_on_path}

-- the facts of a path are plain
pub path_plain : (facts : List (ℕ × Literal)) (node : ℕ) → ArePlainFacts facts → All IsPlainLiteral (path_to facts node)
path_plain facts node h =
    All-map IsPlainLiteral shown_literal (path_of facts node)
    (All-weaker (λ (l : Literal). IsTrue (is_plain_literal (shown_literal l))) (λ (l : Literal). IsPlainLiteral (shown_literal l)) (λ l e. (plain_literals_decide (shown_literal l)).0 e) (path_of facts node)
    (all_on_path (λ (l : Literal). IsTrue (is_plain_literal (shown_literal l))) facts node h))

pub right_proved : (fs : List Fixpoint) (path : List pure.Literal) (goal : pure.Literal) → IsAnswer (unfoldings_of fs) path goal answers.Proved → IsRightAnswer fs path goal Proved
right_proved fs path goal a unit = record {
  proved = λ _. definitions_entail fs path goal a.1;
  refuted = λ _. a.1;
  unknown = λ f. cc;
}

pub right_unknown : (fs : List Fixpoint) (path : List pure.Literal) (goal : pure.Literal) → IsAnswer (unfoldings_of fs) path goal answers.Unknown → IsRightAnswer fs path goal Unknown
right_unknown fs path goal a unit = record {
  proved = λ f. cc;
  refuted = λ f. cc;
  unknown = λ _. a.1;
}

pub too_many : (path : List pure.Literal) (goal : pure.Literal) → MOST_TERMS < length (asked_terms path goal) → IsTrue (has_too_many_terms path goal)
unfolding has_too_many_terms
too_many path goal h = lt-ltb MOST_TERMS (length (asked_terms path goal)) h

pub not_too_many : (path : List pure.Literal) (goal : pure.Literal) → length (asked_terms path goal) ≤ MOST_TERMS → IsTrue (has_too_many_terms path goal) → ⊥
unfolding has_too_many_terms
not_too_many path goal h t = let l = ltb-true MOST_TERMS (length (asked_terms path goal)) t in omega (arith, l, h)

-- where a path has too many terms any question of it has
pub too_many_on_path : (path : List pure.Literal) (goal : pure.Literal) (few : Bool) → few ≡ false → IsTrue few ↔ length (terms_of path) ≤ MOST_TERMS → MOST_TERMS < length (asked_terms path goal)
too_many_on_path path goal few e h = elim (cases_lt MOST_TERMS (length (terms_of path))) [ inl l ↦ facts_too_many path goal l | inr l ↦ absurd (false≢true (sym e ∙ h.1 l)) ]

there : (units : List (List Fixpoint)) (k : ℕ) (d : List Fixpoint) → k < length units → d ≡ get_or units k d → d ≡ definitions_at units k
there [] k d l e = absurd (omega (arith, l))
there (u ∷ us) zero d l e = e
there (u ∷ us) (suc k) d l e = there us k d (omega (arith, l)) e

-- what stands at the last place are the definitions of the unit begun last
pub last_is : (units now : List (List Fixpoint)) (k : ℕ) (d : List Fixpoint) → now ≡ units → k ≡ length units - 1 → 0 < length units → d ≡ get_or now k d → d ≡ last_definitions units
last_is units now k d e f l h =
    there units k d (omega (arith, f, l)) (h ∙ ap (λ xs. get_or xs k d) e) ∙ ap (definitions_at units) f

-- an answer to what was collected is one to the question
pub answer_is : (fs gs : List Fixpoint) (path wanted : List pure.Literal) (goal : pure.Literal) (a b : answered.Answer) → fs ≡ gs → path ≡ wanted → a ≡ b → IsAnswer (unfoldings_of fs) path goal a → IsAnswer (unfoldings_of gs) wanted goal b
answer_is fs gs path wanted goal a b e f g h =
    subst (λ (x : answered.Answer). IsAnswer (unfoldings_of gs) wanted goal x) g
    (subst (λ ps. IsAnswer (unfoldings_of gs) ps goal a) f (subst (λ ds. IsAnswer (unfoldings_of ds) path goal a) e h))
