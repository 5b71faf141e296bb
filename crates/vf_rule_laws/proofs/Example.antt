-- The examples meet the premises of the laws.
use Rattle.std.proofs.Common.{◌≡◌, ◌≢◌, ℕ, zero, suc, pos, negsuc, Bool, true, false, cond, [], ◌∷◌, slice_get, map, Some, None, refl, sym, subst, inl, arith}
use Rattle.std.specs.Prelude.{Contains, IsTrue, ◌≤ℤ◌, codes}
use Rattle.std.specs.Bool.{MatchBool}
use Rattle.vf_base.specs.declared.int_type.IntType.TheVariants as types
use Rattle.vf_tree.specs.Core.{Void, Integer, Divide, Read, StepTree}
use Rattle.vf_model.specs.Values.{same_identity}
use Rattle.vf_meaning.specs.Ghost.{Sort, Integers, none, instance_of, Numbered, Result, This, CurrentThread, Number, ConstructorTree}
use Rattle.vf_meaning.specs.Assertions.{Environment}
use Rattle.vf_meaning.specs.Environments.{Extends, SomeUnit, IsLinked}
use Rattle.vf_rules.specs.Fresh.{symbol}
use Rattle.vf_rules.specs.Take.{removes_here, Renames}
use Rattle.vf_rules.specs.Arrays.{row_chunk}
use Rattle.vf_rules.specs.Terms.{Term, stored}
use Rattle.vf_rules.specs.Consume.{EntailsAll}
use Rattle.vf_rules.specs.Evaluate.{Evaluates}
use Rattle.vf_rules.specs.Accept.{with_local, facts_of_result, KeepsFixed, Accepts, do_set, do_return}
use Rattle.vf_rules.specs.Ranges.{IsTypedState}
use Rattle.vf_rule_laws.specs.Typing.{HasType, IsTypedStep, IsTypedFunction}
use Rattle.vf_rule_laws.specs.Asked.{EvaluatesAsking}
use Rattle.vf_rule_laws.specs.Leading.{sets}
use Rattle.vf_rule_laws.specs.SortedTerms.{a_computation}
use Rattle.vf_rule_laws.specs.TypedLaws.{kinds_of}
use Rattle.vf_rule_laws.specs.Derivations.{Each, HasTypedOutcomes, IsState}
use Rattle.vf_rule_laws.specs.Covering.{NamesAreFor, HasEachConstructor}
use Rattle.vf_rule_laws.specs.Example.{somewhere, half, half_function, half_program, half_contract, half_term, plain, begun, HalfIsTyped, option_name, nothing_name, just_name, nothing_tree, just_tree, options, two_units, option_branches, option_sorts, OptionsAreCovered, valued_chunk, valued_state, ValuedRowIsSeen}
use Rattle.vf_rule_laws.proofs.Typed.{typed_expressions_evaluate}
use Rattle.vf_rule_laws.proofs.Steps.{steps_keep_types}
use Rattle.vf_rule_laws.proofs.Beginnings.{bodies_begin_typed}
use Rattle.vf_rule_laws.proofs.Derivations.{accepted_bodies_are_typed}
use Rattle.vf_rule_laws.proofs.Covering.{switches_cover_where_linked}
use Rattle.vf_rule_laws.proofs.Rows.{valued_rows_show_lengths}

some_same : {A : Type 0} {x y : A} → Some x ≡ Some y → x ≡ y
some_same e = cc

none_some : {A B : Type 0} {x : A} → None ≡ Some x → B
none_some e = cc

-- ---- the half
two_in_range : (negsuc 2147483647 ≤ℤ pos 2) × (pos 2 ≤ℤ pos 2147483647)
two_in_range = (record { le = tt }, record { le = tt })

half_has_type : HasType half_function.locals half (Integer types.Int)
half_has_type = (refl, refl, (Integer types.Int, refl, inl refl), two_in_range)

half_typed : (n : ℕ) (step : StepTree) → slice_get half_function.steps n ≡ Some step → IsTypedStep half_program half_function step
half_typed zero step is = subst (IsTypedStep half_program half_function) (some_same is) (Integer types.Int, refl, half_has_type)
half_typed (suc zero) step is = subst (IsTypedStep half_program half_function) (some_same is) (Integer types.Int, refl, inl refl)
half_typed (suc (suc n)) step is = none_some is

function_typed : IsTypedFunction half_program half_function
function_typed = record { others = Integer types.Int ∷ []; parameters = refl; steps = half_typed }

half_asked : EvaluatesAsking plain begun.path half_function.locals begun.locals half half_term
half_asked = (symbol 0, Number (pos 2), refl, refl, refl, (record { by = λ v m. refl }, inl (record { by = λ v m. refl })))

half_begins : IsTypedState plain half_program half_function.locals (kinds_of half_contract.sorts 1) begun
half_begins = (bodies_begin_typed.body plain half_program half_function half_contract function_typed).0

half_evaluated : Evaluates plain begun.path begun.locals half half_term
half_evaluated = (typed_expressions_evaluate plain begun.path half_function.locals begun.locals half (Integer types.Int) half_term half_has_type half_begins.locals).0 half_asked

half_returned : EntailsAll plain begun.path (facts_of_result (Integer types.Int) half_term)
half_returned = (typed_expressions_evaluate plain begun.path half_function.locals begun.locals half (Integer types.Int) half_term half_has_type half_begins.locals).1 half_evaluated

-- ---- the derivation
result_kept : (t : Term) → KeepsFixed half_contract begun.names (stored begun.names Result t)
result_kept t (Numbered k) u fixed is = is
result_kept t Result u fixed is = absurd fixed
result_kept t This u fixed is = is
result_kept t CurrentThread u fixed is = is

integer_is_no_void : Integer types.Int ≢ Void
integer_is_no_void h = cc

half_accepted : Accepts plain half_program half_function half_contract [] [] 0 begun
half_accepted =
    do_set 1 half 1 half_term refl half_evaluated
    (do_return (Read 1 somewhere) half_term refl refl half_returned integer_is_no_void ((λ x used. absurd used), record { by = λ v m. refl }, (refl, result_kept half_term)))

half_asks_nothing : Each plain half_program half_function half_contract IsState (HasTypedOutcomes plain half_program half_function (kinds_of half_contract.sorts 1)) half_accepted
unfolding half_accepted
half_asks_nothing = (tt, tt)

pub half_is_typed : HalfIsTyped
half_is_typed = record {
  function = function_typed;
  begins = half_begins;
  asked = half_asked;
  evaluates = half_evaluated;
  leads = sets 1 half 1 half_term refl half_evaluated;
  behind = steps_keep_types plain half_program half_function (kinds_of half_contract.sorts 1) 0 1 begun (with_local begun 1 half_term) function_typed (sets 1 half 1 half_term refl half_evaluated) half_begins;
  returned = half_returned;
  accepted = half_accepted;
  everywhere = accepted_bodies_are_typed plain half_program half_function half_contract (kinds_of half_contract.sorts 1) [] [] 0 begun half_accepted function_typed half_asks_nothing half_begins;
  sorted = a_computation Divide (symbol 0) (Number (pos 2));
}

-- ---- the option
-- each of the two units is one of them
either_unit : (P : Environment → Type 0) (u : Environment) → Contains two_units u → P options → P plain → P u
either_unit P u (zero, low, is) first second = subst P is first
either_unit P u (suc zero, low, is) first second = subst P is second
either_unit P u (suc (suc k), low, is) first second = absurd (omega (arith, low))

options_extend : Extends options options
options_extend = record {
  constructors = λ c k h. h;
  fixpoints = λ k h. h;
  claims = λ g t h. h;
  predicates = λ q k h. h;
  bodies = λ b k h. h;
  functions = λ g k h. h;
  prototypes = λ g k h. h;
  types = λ t k h. h;
  called = λ g n t h. h;
  leaks = λ text h. h;
  calls = λ text g h. h;
}

plain_extends : Extends plain options
plain_extends = record {
  constructors = λ c k h. none_some h;
  fixpoints = λ k h. h;
  claims = λ g t h. h;
  predicates = λ q k h. h;
  bodies = λ b k h. h;
  functions = λ g k h. h;
  prototypes = λ g k h. h;
  types = λ t k h. h;
  called = λ g n t h. h;
  leaks = λ text h. h;
  calls = λ text g h. h;
}

the_unit : (P : Environment → Type 0) → P options → SomeUnit two_units P
the_unit P h = (options, (0, omega arith, refl), h)

options_linked : IsLinked two_units options
options_linked = record {
  all = λ u there. either_unit (λ x. Extends x options) u there options_extend plain_extends;
  ordered = tt;
  closed = λ u there c d k j is of_it same. either_unit (λ x. x.constructors d ≡ Some j → x.constructors c ≡ Some k) u there (λ h. is) (λ h. none_some h) of_it;
  constructors = λ c k h. the_unit (λ u. u.constructors c ≡ Some k) h;
  fixpoints = λ k h. the_unit (λ u. Contains u.fixpoints k) h;
  claims = λ g t h. the_unit (λ u. IsTrue (u.claims g t)) h;
  predicates = λ q k h. the_unit (λ u. u.predicates q ≡ Some k) h;
  bodies = λ b k h. the_unit (λ u. u.bodies b ≡ Some k) h;
  functions = λ g k h. the_unit (λ u. u.functions g ≡ Some k) h;
  prototypes = λ g k h. the_unit (λ u. u.prototypes g ≡ Some k) h;
  types = λ t k h. the_unit (λ u. u.types t ≡ Some k) h;
  called = λ g n t h. the_unit (λ u. u.called g n ≡ Some t) h;
  leaks = λ text h. the_unit (λ u. IsTrue (u.leaks text)) h;
  calls = λ text g h. the_unit (λ u. IsTrue (u.calls text g)) h;
}

-- the name of `just` is for an integer
name_is_for : (k : ℕ) (r : Sort) → slice_get option_sorts k ≡ Some r → r ≡ Integers
name_is_for zero r known = sym (some_same known)
name_is_for (suc k) r known = none_some known

-- whether a constructor is one of two, the branch for it is there
branch_there : (a b : Bool) (k : ConstructorTree) → cond a (Some nothing_tree) (cond b (Some just_tree) None) ≡ Some k
    → MatchBool a (NamesAreFor option_sorts [] (map (instance_of none) k.arguments)) (MatchBool b (NamesAreFor option_sorts (Numbered 0 ∷ []) (map (instance_of none) k.arguments)) ⊥)
branch_there true b k is = subst (λ (z : ConstructorTree). NamesAreFor option_sorts [] (map (instance_of none) z.arguments)) (some_same is) tt
branch_there false true k is = subst (λ (z : ConstructorTree). NamesAreFor option_sorts (Numbered 0 ∷ []) (map (instance_of none) z.arguments)) (some_same is) ((λ j r same known. name_is_for j r known), tt)
branch_there false false k is = none_some is

each_there : HasEachConstructor options option_sorts option_name none option_branches
each_there c k is of_it number = branch_there (same_identity nothing_name c) (same_identity just_name c) k is

pub options_are_covered : OptionsAreCovered
options_are_covered = record {
  linked = options_linked;
  declared = (nothing_name, nothing_tree, refl, refl);
  each = each_there;
  covered =
      switches_cover_where_linked two_units options options option_sorts _ (symbol 1) option_branches option_name none options_linked (0, omega arith, refl) (nothing_name, nothing_tree, refl, refl) each_there (record { by = λ v m. m.0 });
}

-- ---- the predicate value
value_renames : Renames plain valued_state.path valued_chunk (row_chunk (symbol 1) (symbol 2) None)
value_renames = record {
  predicate = codes "<vf_arrays.h>#ints";
  value = symbol 0;
  first = [];
  is = record { by = λ v m. m.0 };
  applied_head = refl;
  named_head = refl;
  one_share = refl;
  arguments = refl;
}

pub valued_row_is_seen : ValuedRowIsSeen
valued_row_is_seen = record {
  renames = value_renames;
  shown = (valued_rows_show_lengths plain valued_state (symbol 1) (symbol 2) None valued_chunk (row_chunk (symbol 1) (symbol 2) None) [] removes_here value_renames refl refl).1;
}
