-- The unit of lists and their lengths, worked.
use Rattle.std.proofs.Common.{◌≡◌, zero, suc, [], ◌∷◌, Some, refl, ap, subst, arith}
use Rattle.std.specs.Prelude.{List, pos, neg_ℤ, ◌≤ℤ◌, ◌+ℤ◌, Contains, IsTrue}
use Rattle.std.proofs.lemmas.Int.{ints}
use Rattle.vf_meaning.specs.Structural.{AreOrdered}
use Rattle.vf_meaning.specs.Assertions.{Environment}
use Rattle.vf_meaning.specs.Environments.{Extends, SomeUnit, IsLinked}
use Rattle.vf_closure.specs.Terms.{plus, itself}
use Rattle.vf_closure.specs.Literals.{Literal, Equal, NotDifference}
use Rattle.vf_closure.specs.Closure.{Unfoldings, IsRefuted, Same, Arises, Bound, asked, given, same_back, unfolds_case, in_case, chain, weaker, level, sum_up, sum_down, denied_difference}
use Rattle.vf_declared.specs.declared.scope.Scope.{Scope}
use Rattle.vf_definitions.specs.Unfolded.{unfoldings_of}
use Rattle.vf_definitions.specs.declared.fixpoint.Fixpoint as definitions
use Rattle.vf_definitions.proofs.Soundness.{definitions_entail}
use Rattle.vf_asking.specs.Right.{IsRight}
use Rattle.vf_entailment.specs.Trees.{AreAmong}
use Rattle.vf_fixpoint_laws.specs.descending.Example.{list_definitions, list_items, list_paths, one_file}
use Rattle.vf_fixpoint_laws.specs.met.Units.{IsAcceptedUnit}
use Rattle.vf_fixpoint_laws.proofs.descending.Example.{lists_are_accepted}
use Rattle.vf_unit_laws.specs.Fixpoints.{AreAsMany, HasFixpointsOf}
use Rattle.vf_unit_laws.specs.Example.{LengthsStandInOrder, cons_ht, h, length_of, list_question, list_signatures, list_unit, t, xs}
use Rattle.vf_unit_laws.proofs.Accepted.{accepted_fixpoints_stand_in_order, accepted_units_answers_entail, units_definitions_are_among}

-- ---- the unit
abbrev whole : Scope
whole = lists_are_accepted.whole

accepted : IsAcceptedUnit one_file list_paths list_items whole list_definitions
accepted = record { come = lists_are_accepted.accepted.come; unmarked = refl; kept = lists_are_accepted.accepted.kept; have = lists_are_accepted.accepted.have }

many : AreAsMany list_signatures list_definitions
many f (zero, low, is) = ap (λ (x : definitions.Fixpoint). x.parameters) is
many f (suc k, low, is) = absurd (omega (arith, low))

fixpoints : HasFixpointsOf list_unit list_definitions
fixpoints = record { signatures = list_signatures; many = many; is = refl }

-- ---- linking
extends_itself : (e : Environment) → Extends e e
extends_itself e = record {
  constructors = λ c k h. h;
  fixpoints = λ k h. h;
  claims = λ g t h. h;
  predicates = λ q k h. h;
  bodies = λ b k h. h;
  functions = λ g k h. h;
  prototypes = λ g k h. h;
  types = λ t k h. h;
  called = λ g n t h. h;
  leaks = λ text h. h;
  calls = λ text g h. h;
}

-- what is so of a unit is so of each of it alone
alone : (P : Environment → Type 0) (e : Environment) → P e → (u : Environment) → Contains (e ∷ []) u → P u
alone P e h u (zero, low, is) = subst P is h
alone P e h u (suc k, low, is) = absurd (omega (arith, low))

the_unit : (e : Environment) (P : Environment → Type 0) → P e → SomeUnit (e ∷ []) P
the_unit e P h = (e, (0, omega arith, refl), h)

linked_alone : (e : Environment) → AreOrdered e.fixpoints → IsLinked (e ∷ []) e
linked_alone e ordered = record {
  all = alone (λ u. Extends u e) e (extends_itself e);
  ordered = ordered;
  closed = λ u there c d k j known of same. alone (λ x. x.constructors c ≡ Some k) e known u there;
  constructors = λ c k h. the_unit e (λ u. u.constructors c ≡ Some k) h;
  fixpoints = λ k h. the_unit e (λ u. Contains u.fixpoints k) h;
  claims = λ g t h. the_unit e (λ u. IsTrue (u.claims g t)) h;
  predicates = λ q k h. the_unit e (λ u. u.predicates q ≡ Some k) h;
  bodies = λ b k h. the_unit e (λ u. u.bodies b ≡ Some k) h;
  functions = λ g k h. the_unit e (λ u. u.functions g ≡ Some k) h;
  prototypes = λ g k h. the_unit e (λ u. u.prototypes g ≡ Some k) h;
  types = λ t k h. the_unit e (λ u. u.types t ≡ Some k) h;
  called = λ g n t h. the_unit e (λ u. u.called g n ≡ Some t) h;
  leaks = λ text h. the_unit e (λ u. IsTrue (u.leaks text)) h;
  calls = λ text g h. the_unit e (λ u. IsTrue (u.calls text g)) h;
}

-- ---- the question
abbrev made : Unfoldings
made = unfoldings_of list_definitions

abbrev facts : List Literal
facts = Equal xs cons_ht ∷ NotDifference (length_of xs) (length_of t) (pos 1) ∷ []

application_arises : Arises made facts 0 (length_of xs)
application_arises = asked {l = NotDifference (length_of xs) (length_of t) (pos 1)} (1, omega arith, refl) (0, omega arith, refl) itself

constructor_arises : Arises made facts 0 cons_ht
constructor_arises = asked {l = Equal xs cons_ht} (0, omega arith, refl) (1, omega arith, refl) itself

argument_is : Same made facts xs cons_ht
argument_is = given (0, omega arith, refl)

switches : made.switched (length_of xs) ≡ Some xs
switches = refl

unfolds_to : made.case (length_of xs) cons_ht ≡ Some (plus (length_of t) (pos 1))
unfolds_to = refl

length_is : Same made facts (length_of xs) (plus (length_of t) (pos 1))
length_is = unfolds_case {d = 0} (omega arith) application_arises constructor_arises switches argument_is unfolds_to

sum_arises : Arises made facts 1 (plus (length_of t) (pos 1))
sum_arises = in_case {d = 0} (omega arith) application_arises constructor_arises switches argument_is unfolds_to itself

at_most_one : Bound made facts (length_of xs) (length_of t) (pos 1)
at_most_one = weaker (let l : (pos 0 +ℤ pos 1) ≤ℤ pos 1 = omega (arith, ints) in l) (chain (level refl refl length_is) (sum_up sum_arises))

at_least_one : Bound made facts (length_of t) (length_of xs) (neg_ℤ (pos 1))
at_least_one = weaker (let l : (neg_ℤ (pos 1) +ℤ pos 0) ≤ℤ neg_ℤ (pos 1) = omega (arith, ints) in l) (chain (sum_down sum_arises) (level refl refl (same_back length_is)))

refuted : IsRefuted made list_question.path list_question.goal
refuted = denied_difference {x = length_of xs} {y = length_of t} {c = pos 1} (1, omega arith, refl) at_most_one at_least_one

question_right : IsRight list_question
question_right = record {
  proved = λ e i m. definitions_entail list_definitions list_question.path list_question.goal refuted i m;
  refuted = λ e. refuted;
  unknown = λ e r. absurd cc;
}

-- ---- all of it
among : AreOrdered list_unit.fixpoints × AreAmong list_unit.fixpoints list_definitions
among = units_definitions_are_among one_file list_paths list_items whole list_definitions list_unit accepted fixpoints

linked : IsLinked (list_unit ∷ []) list_unit
linked = linked_alone list_unit among.0

pub lengths_stand_in_order : LengthsStandInOrder
lengths_stand_in_order = record {
  whole = whole;
  accepted = accepted;
  ordered = accepted_fixpoints_stand_in_order one_file list_paths list_items whole list_definitions list_signatures accepted many;
  fixpoints = fixpoints;
  among = among;
  linked = linked;
  right = question_right;
  entails = accepted_units_answers_entail one_file list_paths list_items whole list_question (list_unit ∷ []) list_unit list_unit accepted linked (0, omega arith, refl) fixpoints question_right refl;
}
