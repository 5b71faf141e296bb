-- The examples.
use Rattle.std.proofs.Common.{◌≡◌, ◌∙◌, refl, sym, ap, subst, inl, inr, ℕ, zero, suc, List, [], ◌∷◌, slice_get, Some, None, true, false, Ok, arith}
use Rattle.std.specs.Prelude.{ℤ, pos, negsuc, ◌≤ℤ◌, codes}
use Rattle.std.proofs.lemmas.Int.{ints}
use Rattle.std.proofs.lemmas.Bool.{false≢true}
use Rattle.vf_base.specs.declared.int_type.IntType.TheVariants.{Int}
use Rattle.vf_tree.specs.Core.{FunctionTree}
use Rattle.vf_tree.specs.declared.unit.Expression.{Expression}
use Rattle.vf_tree.specs.declared.unit.CoreStep.TheVariants.{Set, Return}
use Rattle.vf_tree.specs.Shown.{program_of}
use Rattle.vf_model.specs.declared.words.FaultKind.TheVariants.{Range}
use Rattle.vf_model.specs.Values as values
use Rattle.vf_model.specs.Integers.{least, greatest}
use Rattle.vf_closure.specs.Terms.{Truth, term, no_terms, number, itself}
use Rattle.vf_asking.specs.declared.answers.Answer.TheVariants.{Proved, Unknown}
use Rattle.vf_closure.specs.Literals.{Literal, NotEqual, AtMost, False}
use Rattle.vf_closure.specs.Closure.{zero_arises, same_self, most, weaker, still, Conflict, below_itself, denied_equality, denied_difference, IsRefuted}
use Rattle.vf_closure.specs.Closure as closure
use Rattle.vf_definitions.specs.Unfolded.{unfoldings_of}
use Rattle.vf_definitions.proofs.Soundness.{definitions_entail}
use Rattle.vf_exec.specs.Literals.{at_most_of, equal_of, truth_of}
use Rattle.vf_asking.specs.Question.{has_too_many_terms}
use Rattle.vf_asking.specs.Journal.{Seen, nothing_seen, noted, counted, begun}
use Rattle.vf_asking.specs.Course.{Follows, after, try, pushed}
use Rattle.vf_asking.specs.Course as course
use Rattle.vf_asking.specs.Right.{IsRight, AreRightFrom}
use Rattle.vf_exec.specs.Main.{required, fits, adds_one, adds, evaluates, returns, leaves, runs, enters, assumes, checks_function, checks_main, checks}
use Rattle.vf_meaning.specs.Fractions.{whole}
use Rattle.vf_meaning.specs.Assertions.{Environment, ContractTree}
use Rattle.vf_meaning.specs.Environments.{option_or, own_contract}
use Rattle.vf_meaning.specs.Valuations.{Valuation}
use Rattle.vf_meaning.specs.GhostValues.{Interpretation, interpreted}
use Rattle.vf_definitions.specs.Laws.{MeetsDefinitions}
use Rattle.vf_meaning.specs.Parts.{Part}
use Rattle.vf_meaning.specs.Satisfaction.{Satisfies}
use Rattle.vf_meaning.specs.Kept.{before, Returns, with_result}
use Rattle.vf_sound.specs.Environment.{contract_of, environment_of}
use Rattle.vf_sound.specs.Formed.{IsFormed}
use Rattle.vf_sound.specs.Examples.{seven, seven_for_eight, one_event, SevenIsAccepted, OverflowIsSeen, BrokenPromiseIsSeen}
use Rattle.vf_sound.proofs.Bodies.{only_fact}

-- ---- right answers
-- a plain refutation without definitions
abbrev Refuted : List Literal → Literal → Type 0
Refuted path goal = IsRefuted (unfoldings_of []) path goal

right_where_refuted : (unit : ℕ) (path : List Literal) (goal : Literal) → Refuted path goal → IsRight (record { unit = unit; definitions = []; path = path; goal = goal; answer = Proved })
right_where_refuted unit path goal r = record { proved = λ e i meets. definitions_entail [] path goal r i meets; refuted = λ e. r; unknown = λ e. absurd (clash e) }
  where
    clash : Proved ≡ Unknown → ⊥
    clash e = cc

right_where_open : (unit : ℕ) (path : List Literal) (goal : Literal) → (Refuted path goal → ⊥) → IsRight (record { unit = unit; definitions = []; path = path; goal = goal; answer = Unknown })
right_where_open unit path goal r = record { proved = λ e. absurd (clash e); refuted = λ e. absurd (clash e); unknown = λ e. r }
  where
    clash : Unknown ≡ Proved → ⊥
    clash e = cc

-- a truth is true, whatever is known
truth_refuted : Refuted [] (truth_of true)
truth_refuted = denied_equality {a = term (Truth true) no_terms} {b = term (Truth true) no_terms} (0, omega arith, refl)
    (same_self {d = 0} (closure.asked {l = NotEqual (term (Truth true) no_terms) (term (Truth true) no_terms)} (0, omega arith, refl) (0, omega arith, refl) itself))

known : List Literal
known = truth_of true ∷ []

nothing_declared : Interpretation
nothing_declared = interpreted (λ g t. false) []

nothing_defined : MeetsDefinitions nothing_declared []
nothing_defined f (k, low, is) = absurd (omega arith)

-- what is known is not absurd
nothing_absurd : Refuted known False → ⊥
unfolding known
nothing_absurd r = definitions_entail [] (truth_of true ∷ []) False r nothing_declared nothing_defined (λ name. values.Null) (only_fact nothing_declared (λ name. values.Null) (truth_of true) refl)

-- a bound of nought that is below nought has no place
at_most_refuted : (d : ℤ) → d ≤ℤ negsuc 0 → Conflict (unfoldings_of []) (truth_of true ∷ AtMost (number (pos 0)) (number (pos 0)) d ∷ [])
at_most_refuted d low = below_itself (weaker low (most (1, omega arith, refl)))

low_refuted : Refuted known (at_most_of (least Int) (pos 7))
unfolding known
low_refuted = at_most_refuted _ (omega (arith, ints))

high_refuted : Refuted known (at_most_of (pos 7) (greatest Int))
unfolding known
high_refuted = at_most_refuted _ (omega (arith, ints))

equal_refuted : Refuted known (equal_of (pos 7) (pos 7))
unfolding known
equal_refuted = denied_difference {x = number (pos 0)} {y = number (pos 0)} {c = pos 0} (1, omega arith, refl) (still {d = 0} refl zero_arises) (still {d = 0} refl zero_arises)

-- ---- the run of the rules
after_precondition : Seen
after_precondition = counted (noted (begun [] nothing_seen) [] (truth_of true) Proved)

seen_at_end : Seen
seen_at_end =
    noted (noted (noted (noted after_precondition known False Unknown) known (at_most_of (least Int) (pos 7)) Proved) known (at_most_of (pos 7) (greatest Int)) Proved)
    known (equal_of (pos 7) (pos 7)) Proved

seven_follows : Follows (checks seven) (begun [] nothing_seen) seen_at_end (Ok tt)
unfolding checks checks_main checks_function assumes required course.asked pushed try after enters runs leaves evaluates adds adds_one fits returns has_too_many_terms Follows seen_at_end after_precondition known
seven_follows = inl (inl (omega arith, inr (inl (inl (inl (refl, refl))))))

seven_right : AreRightFrom 0 seen_at_end
unfolding seen_at_end after_precondition
seven_right zero d low = right_where_refuted 0 [] (truth_of true) truth_refuted
seven_right (suc zero) d low = right_where_open 0 known False nothing_absurd
seven_right (suc (suc zero)) d low = right_where_refuted 0 known (at_most_of (least Int) (pos 7)) low_refuted
seven_right (suc (suc (suc zero))) d low = right_where_refuted 0 known (at_most_of (pos 7) (greatest Int)) high_refuted
seven_right (suc (suc (suc (suc zero)))) d low = right_where_refuted 0 known (equal_of (pos 7) (pos 7)) equal_refuted
seven_right (suc (suc (suc (suc (suc k))))) d low = absurd (omega arith)

-- a body of one return has its steps in order
one_return : (d e : Expression) (k x next : ℕ) → slice_get (Return d ∷ []) k ≡ Some (Set x e next) → next ≡ suc k
one_return d e zero x next is = absurd (clash is)
  where
    clash : Some (Return d) ≡ Some (Set x e next) → ⊥
    clash h = cc
one_return d e (suc k) x next is = absurd (clash is)
  where
    clash : {A : Type 0} {y : A} → None ≡ Some y → ⊥
    clash h = cc

seven_formed : IsFormed seven
seven_formed = record { main = _; is_main = refl; in_order = λ k x next e is. one_return _ e k x next is }

pub seven_is_accepted : SevenIsAccepted
seven_is_accepted = (seven_formed, record { end = seen_at_end; follows = seven_follows; right = seven_right })

-- ---- what is wrong
pub overflow_is_seen : OverflowIsSeen
overflow_is_seen safe = safe.faultless 0 0 Range _ (omega arith) (record { going = refl; faults = refl })

some_same : {A : Type 0} {x y : A} → Some x ≡ Some y → x ≡ y
some_same e = cc

promised : ContractTree
promised = contract_of seven_for_eight.contract

returns_seven : Returns (program_of seven_for_eight.plain) (before (program_of seven_for_eight.plain) one_event 0) 0 (Some (values.Number (pos 7)))
returns_seven = record {
  f = _;
  frame = _;
  callers = [];
  expression = _;
  at = record { steps = refl; frames = refl; function = refl; found = refl };
  returned = (values.Number (pos 7), refl, refl);
}

seven_is_not_eight : (e : Environment) (v : Valuation) (p : Part) → Satisfies e whole promised.ensures_this (with_result v (Some (values.Number (pos 7)))) p → ⊥
unfolding promised
seven_is_not_eight e v p satisfied = false≢true satisfied.1.1

pub broken_promise_is_seen : BrokenPromiseIsSeen
unfolding promised
broken_promise_is_seen e linked kept =
    let function = some_same kept.is_main in
    let declared : e.functions (codes "one.c#main") ≡ Some promised = (linked.all (environment_of seven_for_eight) (0, omega arith, refl)).functions (codes "one.c#main") promised refl in
    let contract : promised ≡ kept.contract = some_same (sym (ap (λ o. option_or o (e.prototypes (codes "one.c#main"))) declared) ∙ ap (λ (f : FunctionTree). own_contract e f.identity) function ∙ kept.of_main) in
    let ensured = kept.ensured 0 _ (Some (values.Number (pos 7))) refl refl returns_seven refl in
    seven_is_not_eight e ensured.later _ (subst (λ (c : ContractTree). Satisfies e whole c.ensures_this (with_result ensured.later (Some (values.Number (pos 7)))) ((kept.outs 1).threads 0)) (sym contract) ensured.satisfies)
