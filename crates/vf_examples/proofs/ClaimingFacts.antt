-- What the example with three claims needs: states, names that are bound, facts of numbers, and sorts that have values.
use Rattle.std.proofs.Common.{◌≡◌, zero, suc, pos, List, [], ◌∷◌, Some, refl, sym, subst, ◌⊎◌, inl, inr}
use Rattle.vf_base.specs.declared.int_type.IntType.TheVariants as types
use Rattle.vf_tree.specs.Core.{Integer, LessEqual}
use Rattle.vf_model.specs.Values.{Value}
use Rattle.vf_model.specs.Values as values
use Rattle.vf_model.specs.Integers.{least, greatest}
use Rattle.vf_meaning.specs.Ghost.{Sort, Integers, Pointers, Truths, Fractions, Anything, Parameter, Datatype, Predicates, Name, Numbered, Result, This, CurrentThread, Number, Compare}
use Rattle.vf_meaning.specs.Sorts.{HasSort}
use Rattle.vf_meaning.specs.Assertions.{ContractTree}
use Rattle.vf_rules.specs.Terms.{Term, Store, stored}
use Rattle.vf_rules.specs.States.{Fact, Holds, OfSort, SymbolicChunk, SymbolicState, Entails}
use Rattle.vf_rules.specs.Types.{facts_of_type}
use Rattle.vf_rules.specs.Take.{same}
use Rattle.vf_rules.specs.Consume.{EntailsAll}
use Rattle.vf_rules.specs.Predicates.{AreInhabited}
use Rattle.vf_rules.specs.Accept.{KeepsFixed}
use Rattle.vf_rules.proofs.Takes.{same_value, equal_met}
use Rattle.vf_examples.specs.Claiming.{claiming_environment}
use Rattle.vf_examples.proofs.SharingFacts.{some_same, none_some, name_bound}

-- ---- states
-- what is known of a term of type int
abbrev pub int_facts : Term → List Fact
int_facts t = OfSort t Integers ∷ Holds (Compare LessEqual (Number (least types.Int)) t) ∷ Holds (Compare LessEqual t (Number (greatest types.Int))) ∷ []

-- a state without locals
abbrev pub claimed : Store → List SymbolicChunk → List Fact → SymbolicState
claimed names chunks path = record { locals = []; names = names; chunks = chunks; path = path }

-- ---- names that are bound
pub second_bound : (s : Store) (x : Name) (t : Term) → s x ≡ Some t → (y : Name) → ⊥ ⊎ (x ≡ y) → (u : Term) × (s y ≡ Some u)
second_bound s x t is y (inl never) = absurd never
second_bound s x t is y (inr h) = name_bound s x t is y h

pub pairs_bound : (s : Store) (x a b : Name) (t u w : Term) → s x ≡ Some t → s a ≡ Some u → s b ≡ Some w → (y : Name) → ((x ≡ y) ⊎ (a ≡ y)) ⊎ ((x ≡ y) ⊎ (b ≡ y)) → (z : Term) × (s y ≡ Some z)
pairs_bound s x a b t u w is_x is_a is_b y (inl (inl h)) = name_bound s x t is_x y h
pairs_bound s x a b t u w is_x is_a is_b y (inl (inr h)) = name_bound s a u is_a y h
pairs_bound s x a b t u w is_x is_a is_b y (inr (inl h)) = name_bound s x t is_x y h
pairs_bound s x a b t u w is_x is_a is_b y (inr (inr h)) = name_bound s b w is_b y h

-- the result is none of the names that are fixed
pub keeps_result : (k : ContractTree) (s : Store) (t : Term) → KeepsFixed k s (stored s Result t)
keeps_result k s t (Numbered j) u fixed is = is
keeps_result k s t Result u fixed is = absurd fixed
keeps_result k s t This u fixed is = is
keeps_result k s t CurrentThread u fixed is = is

-- ---- facts
pub seven_facts : (path : List Fact) → EntailsAll claiming_environment path (facts_of_type (Integer types.Int) (Number (pos 7)))
seven_facts path = (record { by = λ v m. inl refl }, (record { by = λ v m. refl }, (record { by = λ v m. refl }, tt)))

pub turned : (path : List Fact) (t u : Term) → Entails claiming_environment path (same t u) → Entails claiming_environment path (same u t)
turned path t u h = record { by = λ v m. equal_met claiming_environment v u t (sym (same_value claiming_environment v t u (h.by v m))) }

-- ---- sorts
-- a sort of pointers or of numbers
abbrev pub IsPlain : Sort → Type 0
IsPlain Integers = Unit {0}
IsPlain Pointers = Unit {0}
IsPlain _ = ⊥

witness : (s : Sort) → IsPlain s → (w : Value) × HasSort claiming_environment w s
witness Integers h = (values.Number (pos 0), inl refl)
witness Pointers h = (values.Null, inl refl)
witness Truths h = absurd h
witness Fractions h = absurd h
witness Anything h = absurd h
witness (Parameter j) h = absurd h
witness (Datatype d ts) h = absurd h
witness (Predicates ss) h = absurd h

abbrev pub ArePlain : List Sort → Type 0
ArePlain [] = Unit {0}
ArePlain (s ∷ sorts) = IsPlain s × ArePlain sorts

pub plain_inhabited : (sorts : List Sort) → ArePlain sorts → AreInhabited claiming_environment sorts
plain_inhabited [] h k s is = none_some is
plain_inhabited (x ∷ sorts) h zero s is = subst (λ z. (w : Value) × HasSort claiming_environment w z) (some_same is) (witness x h.0)
plain_inhabited (x ∷ sorts) h (suc k) s is = plain_inhabited sorts h.1 k s is
