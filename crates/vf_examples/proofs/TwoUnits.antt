-- The two units are accepted and linked.
use Rattle.std.specs.Prelude.{IsTrue, Contains, ◌<◌, false, cond}
use Rattle.std.proofs.Common.{◌≡◌, ◌⊎◌, ℕ, zero, suc, Bool, true, [], ◌∷◌, Option, Some, None, refl, sym, subst, inl, inr, arith}
use Rattle.std.proofs.lemmas.Bool.{false≢true}
use Rattle.vf_tree.specs.Core.{Identity}
use Rattle.vf_model.specs.Values.{same_identity}
use Rattle.vf_model.proofs.Equality.{identities_told}
use Rattle.vf_meaning.specs.Assertions.{ContractTree, Environment}
use Rattle.vf_meaning.specs.Environments.{Extends, SomeUnit, IsLinked}
use Rattle.vf_meaning.specs.LinkingLaws.{HasNoLeak}
use Rattle.vf_rules.specs.Accept.{call_store}
use Rattle.vf_rules.specs.GhostSteps.{no_step}
use Rattle.vf_rules.specs.Lemmas.{OnArgument, LemmaHolds}
use Rattle.vf_safety.specs.Laws.{KeepsContracts, AreAccepted, IsAcceptedProgram}
use Rattle.vf_linked.specs.CallOrder.{CallsOther, Reaches, by_call, through}
use Rattle.vf_linked.specs.Lemmas.{LemmaKeepsContracts, AreLinkedLemmas, AllHold}
use Rattle.vf_linked.specs.Linked.{IsAcceptedLinked}
use Rattle.vf_linked.proofs.Linked.{linked_programs_leak_nothing}
use Rattle.vf_examples.specs.TwoUnits.{seven_name, again_name, seven_own, again_own, again_prototype, again_seen, main_name, main_own, main, main_contracts, first_unit, second_unit, two_units, both_units, two_program, TwoUnitsAreAccepted}
use Rattle.vf_examples.proofs.Defined.{only_defined}
use Rattle.vf_examples.proofs.SharingFacts.{none_some, nothing_bound, some_same}
use Rattle.vf_examples.proofs.TwoUnitsFacts.{none_inhabited}
use Rattle.vf_examples.proofs.TwoUnitsLemma.{again_keeps}
use Rattle.vf_examples.proofs.TwoUnitsMain.{main_accepted}
use Rattle.vf_examples.proofs.TwoUnitsSeven.{seven_keeps}

-- ---- linked
first_there : Contains two_units first_unit
first_there = (0, omega arith, refl)

second_there : Contains two_units second_unit
second_there = (1, omega arith, refl)

by_first : (P : Environment → Type 0) → P first_unit → SomeUnit two_units P
by_first P h = (first_unit, first_there, h)

by_second : (P : Environment → Type 0) → P second_unit → SomeUnit two_units P
by_second P h = (second_unit, second_there, h)

-- what the first unit says of a name is said
more_said : {A : Type 0} (a b : Bool) (x y k : A) (o : Option A) → cond a (Some x) (cond b (Some y) None) ≡ Some k → cond a (Some x) (cond b (Some y) o) ≡ Some k
more_said true b x y k o h = h
more_said false true x y k o h = h
more_said false false x y k o h = none_some h

-- what is said one of both says
either_said : {A : Type 0} (a b : Bool) (x y k : A) (o : Option A) → cond a (Some x) (cond b (Some y) o) ≡ Some k → (cond a (Some x) (cond b (Some y) None) ≡ Some k) ⊎ (o ≡ Some k)
either_said true b x y k o h = inl h
either_said false true x y k o h = inl h
either_said false false x y k o h = inr h

main_said : (g : Identity) (k : ContractTree) (b : Bool) → same_identity g main_name ≡ b → cond b (Some main_own) None ≡ Some k → both_units.functions g ≡ Some k
main_said g k true same h = subst (λ z. both_units.functions z ≡ Some k) (sym ((identities_told g main_name).0 same)) h
main_said g k false other h = none_some h

first_extended : Extends first_unit both_units
first_extended = record {
  constructors = λ c k h. h;
  fixpoints = λ k h. h;
  claims = λ g t h. h;
  predicates = λ q k h. h;
  bodies = λ b k h. h;
  functions = λ g k h. more_said (same_identity g seven_name) (same_identity g again_name) seven_own again_own k (main_contracts g) h;
  prototypes = λ g k h. h;
  types = λ t k h. h;
  called = λ g n t h. h;
  leaks = λ text h. h;
  calls = λ text g h. absurd (false≢true h);
}

second_extended : Extends second_unit both_units
second_extended = record {
  constructors = λ c k h. h;
  fixpoints = λ k h. h;
  claims = λ g t h. h;
  predicates = λ q k h. h;
  bodies = λ b k h. none_some h;
  functions = λ g k h. main_said g k (same_identity g main_name) refl h;
  prototypes = λ g k h. h;
  types = λ t k h. h;
  called = λ g n t h. h;
  leaks = λ text h. h;
  calls = λ text g h. h;
}

each_extended : (u : Environment) → Contains two_units u → Extends u both_units
each_extended u (zero, low, is) = subst (λ (x : Environment). Extends x both_units) is first_extended
each_extended u (suc zero, low, is) = subst (λ (x : Environment). Extends x both_units) is second_extended
each_extended u (suc (suc n), low, is) = absurd (no_third n low)
  where
    no_third : (n : ℕ) → suc (suc n) < 2 → ⊥
    no_third n low = omega (arith, low)

linked : IsLinked two_units both_units
linked = record {
  all = each_extended;
  ordered = tt;
  closed = λ u there c d k j h of same. none_some h;
  constructors = λ c k h. none_some h;
  fixpoints = λ k h. by_first (λ u. Contains u.fixpoints k) h;
  claims = λ g t h. absurd (false≢true h);
  predicates = λ q k h. by_first (λ u. u.predicates q ≡ Some k) h;
  bodies = λ b k h. by_first (λ u. u.bodies b ≡ Some k) h;
  functions = λ g k h. elim (either_said (same_identity g seven_name) (same_identity g again_name) seven_own again_own k (main_contracts g) h) [
    | inl first ↦ by_first (λ u. u.functions g ≡ Some k) first
    | inr second ↦ by_second (λ u. u.functions g ≡ Some k) second
  ];
  prototypes = λ g k h. by_first (λ u. u.prototypes g ≡ Some k) h;
  types = λ t k h. none_some h;
  called = λ g n t h. none_some h;
  leaks = λ text h. absurd (false≢true h);
  calls = λ text g h. by_second (λ u. IsTrue (u.calls text g)) h;
}

-- ---- the lemma
-- no lemma calls another one
calls_none : (g h : Identity) → CallsOther both_units g h → ⊥
calls_none g h called = false≢true called.calls

reaches_none : {g h : Identity} → Reaches both_units g h → ⊥
reaches_none (by_call called) = calls_none _ _ called
reaches_none (through called further) = calls_none _ _ called

are_lemmas : AreLinkedLemmas both_units two_program (again_name ∷ [])
are_lemmas = record {
  keep = λ g there. only g there;
  acyclic = λ g reaches. reaches_none reaches;
  others = λ g h there called. absurd (calls_none g h called);
}
  where
    only : (g : Identity) → Contains (again_name ∷ []) g → LemmaKeepsContracts both_units two_program g
    only g (zero, low, is) = subst (LemmaKeepsContracts both_units two_program) is again_keeps
    only g (suc n, low, is) = absurd (no_second n low)
      where
        no_second : (n : ℕ) → suc n < 1 → ⊥
        no_second n low = omega (arith, low)

-- ---- the program
all_accepted : LemmaHolds both_units two_program again_seen → AreAccepted both_units two_program
all_accepted holds zero f is = only_defined both_units two_program main main_own refl refl (main_accepted holds) f (some_same is)
all_accepted holds (suc zero) f is = subst (λ z. KeepsContracts both_units two_program z) (some_same is) seven_keeps
all_accepted holds (suc (suc n)) f is = none_some is

program : AllHold both_units two_program (again_name ∷ []) → IsAcceptedProgram both_units two_program
program hold = record {
  functions = all_accepted (hold again_name again_prototype (0, omega arith, refl) (inr refl) (OnArgument 0));
  claims = λ g type contract claimed of_type. absurd (false≢true claimed);
  main = main;
  is_main = refl;
  contract = main_own;
  is_own = refl;
  has = record { known = inl refl; parameters = refl; fewer = omega arith; inhabited = none_inhabited };
  alone = refl;
  begins = no_step (λ x t is. is, (nothing_bound (call_store []), record { by = λ v m. refl }, refl));
}

accepted : IsAcceptedLinked two_units both_units two_program
accepted = record { linked = linked; lemmas = again_name ∷ []; are_lemmas = are_lemmas; program = program }

no_leaks : (u : Environment) → Contains two_units u → HasNoLeak u
no_leaks u (zero, low, is) = subst HasNoLeak is (λ text. refl)
no_leaks u (suc zero, low, is) = subst HasNoLeak is (λ text. refl)
no_leaks u (suc (suc n), low, is) = absurd (no_third n low)
  where
    no_third : (n : ℕ) → suc (suc n) < 2 → ⊥
    no_third n low = omega (arith, low)

pub two_units_are_accepted : TwoUnitsAreAccepted
two_units_are_accepted = record { accepted = accepted; unleaked = linked_programs_leak_nothing two_units both_units two_program accepted no_leaks }
