-- What the example with a shared mutex needs: facts on its paths, names that are bound, and sorts that have values.
use Rattle.std.proofs.Common.{◌≡◌, ◌≢◌, ℕ, zero, suc, List, [], ◌∷◌, length, slice_get, Some, None, refl, sym, ap, subst, ◌∙◌, ◌⊎◌, inl, inr, arith}
use Rattle.std.specs.Prelude.{◌<◌}
use Rattle.vf_base.specs.declared.int_type.IntType.TheVariants as types
use Rattle.vf_tree.specs.Core.{Integer, Void}
use Rattle.vf_model.specs.Values.{Dyadic, Odd, Value}
use Rattle.vf_model.specs.Values as values
use Rattle.vf_meaning.specs.Fractions.{whole, product, IsPositive}
use Rattle.vf_meaning.specs.Ghost.{Sort, Integers, Truths, Pointers, Fractions, Anything, Parameter, Datatype, Predicates, none, more, Name, Numbered, CurrentThread, Variable, PredicateValue, and_expression, no_expressions}
use Rattle.vf_meaning.specs.Valuations.{Valuation}
use Rattle.vf_meaning.specs.Sorts.{HasSort, ParametersAre}
use Rattle.vf_meaning.specs.Kept.{IsFixed}
use Rattle.vf_meaning.specs.Assertions.{ContractTree, Environment}
use Rattle.vf_rules.specs.Terms.{Term, Store, stored}
use Rattle.vf_rules.specs.States.{Fact, OfSort, SymbolicState, value_in, IsMet, Meets, Entails}
use Rattle.vf_rules.specs.Take.{same, IsQuotient, Splits}
use Rattle.vf_rules.specs.Consume.{EntailsAll}
use Rattle.vf_rules.specs.Laws.{IsAmong}
use Rattle.vf_rules.specs.Predicates.{store_of, AreInhabited, AreSorted, IsFraction}
use Rattle.vf_rules.specs.Accept.{all_of_it, facts_of_sorts, call_store, AreFixed}
use Rattle.vf_rules.specs.Mutexes.{invariants}
use Rattle.vf_rules.proofs.Takes.{equal_met}
use Rattle.vf_examples.proofs.NewSymbols.{stored_either}
use Rattle.vf_examples.specs.Sharing.{guarded_name}

pub some_same : {A : Type 0} {x y : A} → Some x ≡ Some y → x ≡ y
some_same e = cc

pub none_some : {A B : Type 0} {x : A} → None ≡ Some x → B
none_some e = cc

-- ---- outcomes
pub among_one : (P : Store → SymbolicState → Type 0) (s0 : Store) (st0 : SymbolicState) → P s0 st0 → (s : Store) (st : SymbolicState) → IsAmong (record { store = s0; state = st0 } ∷ []) s st → P s st
among_one P s0 st0 h s st (inl is) = subst (λ z. P s z) is.1 (subst (λ z. P z st0) is.0 h)
among_one P s0 st0 h s st (inr never) = absurd never

-- the predicate of a pointer's struct is declared: it has that pointer, and no further arguments
abbrev pub HasGuarded : Environment → Type 0
HasGuarded e = ParametersAre guarded_name (e.predicates guarded_name) (Pointers ∷ [])

-- ---- what paths entail
pub same_self : (e : Environment) (path : List Fact) (t : Term) → Entails e path (same t t)
same_self e path t = record { by = λ v m. equal_met e v t t refl }

pub by_value : (e : Environment) (path : List Fact) (t u : Term) → ((v : Valuation) → value_in e v t ≡ value_in e v u) → Entails e path (same t u)
by_value e path t u h = record { by = λ v m. equal_met e v t u (h v) }

met_at : (e : Environment) (v : Valuation) (path : List Fact) (k : ℕ) (f : Fact) → slice_get path k ≡ Some f → Meets e v path → IsMet e v f
met_at e v [] k f is m = none_some is
met_at e v (g ∷ path) zero f is m = subst (IsMet e v) (some_same is) m.0
met_at e v (g ∷ path) (suc k) f is m = met_at e v path k f is m.1

-- a fact by its place on the path
pub by_place : (e : Environment) (path : List Fact) (k : ℕ) (f : Fact) → slice_get path k ≡ Some f → Entails e path f
by_place e path k f is = record { by = λ v m. met_at e v path k f is m }

-- the predicate of a pointer's struct is one without arguments
pub guarded_sorted : (e : Environment) → HasGuarded e → (path : List Fact) (t : Term) → Entails e path (OfSort t Pointers) → Entails e path (OfSort (PredicateValue guarded_name (and_expression t no_expressions)) invariants)
guarded_sorted e is_guarded path t h = record { by = λ v m. (Pointers ∷ [], is_guarded, refl, (h.by v m, tt)) }

pub fraction_same : {x y : Dyadic} → values.Fraction x ≡ values.Fraction y → x ≡ y
fraction_same h = cc

-- a share of one half
abbrev pub half_of : Dyadic
half_of = Odd 0 0

pub half_positive : IsPositive half_of
half_positive = omega arith

pub whole_positive : IsPositive whole
whole_positive = omega arith

pub half_sorted : (e : Environment) (path : List Fact) (t : Term) → ((v : Valuation) → value_in e v t ≡ values.Fraction half_of) → Entails e path (OfSort t Fractions)
half_sorted e path t h = record { by = λ v m. subst (λ w. HasSort e w Fractions) (sym (h v)) (inl refl, half_positive) }

-- a half is a half of the whole
pub half_quotient : (e : Environment) (path : List Fact) (t : Term) → ((v : Valuation) → value_in e v t ≡ values.Fraction half_of) → IsQuotient e path t all_of_it t
half_quotient e path t h = record {
  by = λ v m c x scale share. (half_of, h v, sym (fraction_same (sym (h v) ∙ share)) ∙ ap (λ z. product z half_of) (fraction_same scale), half_positive);
}

-- the whole is two halves
pub halves : (e : Environment) (path : List Fact) (share wanted left : Term) → ((v : Valuation) → value_in e v share ≡ values.Fraction whole) → ((v : Valuation) → value_in e v wanted ≡ values.Fraction half_of)
    → ((v : Valuation) → value_in e v left ≡ values.Fraction half_of) → Splits e path share wanted left
halves e path share wanted left a b c = record { by = λ v m. (half_of, half_of, a v, b v, c v, half_positive, half_positive) }

pub whole_fraction : (e : Environment) (path : List Fact) (t : Term) → ((v : Valuation) → value_in e v t ≡ values.Fraction whole) → IsFraction e path t
whole_fraction e path t h = record { by = λ v m. (whole, h v, whole_positive) }

-- ---- names that are bound
pub nothing_bound : (s : Store) (x : Name) → ⊥ → (u : Term) × (s x ≡ Some u)
nothing_bound s x u = absurd u

pub name_bound : (s : Store) (x : Name) (t : Term) → s x ≡ Some t → (y : Name) → x ≡ y → (u : Term) × (s y ≡ Some u)
name_bound s x t is y h = subst (λ z. (u : Term) × (s z ≡ Some u)) h (t, is)

pub first_bound : (s : Store) (x : Name) (t : Term) → s x ≡ Some t → (y : Name) → (x ≡ y) ⊎ ⊥ → (u : Term) × (s y ≡ Some u)
first_bound s x t is y (inl h) = name_bound s x t is y h
first_bound s x t is y (inr never) = absurd never

-- ---- sorts
-- a sort of which a value is known
abbrev pub IsSimple : Sort → Type 0
IsSimple Pointers = Unit {0}
IsSimple Fractions = Unit {0}
IsSimple Anything = Unit {0}
IsSimple (Predicates none) = Unit {0}
IsSimple _ = ⊥

witness : (e : Environment) → HasGuarded e → (s : Sort) → IsSimple s → (w : Value) × HasSort e w s
witness e is_guarded Pointers h = (values.Null, inl refl)
witness e is_guarded Fractions h = (values.Fraction whole, (inl refl, whole_positive))
witness e is_guarded Anything h = (values.Null, inr refl)
witness e is_guarded (Predicates none) h = (values.Predicate guarded_name (values.more values.Null values.none), (Pointers ∷ [], is_guarded, refl, (inl refl, tt)))
witness e is_guarded (Predicates (more s ss)) h = absurd h
witness e is_guarded Integers h = absurd h
witness e is_guarded Truths h = absurd h
witness e is_guarded (Parameter j) h = absurd h
witness e is_guarded (Datatype d ts) h = absurd h

abbrev pub AreSimple : List Sort → Type 0
AreSimple [] = Unit {0}
AreSimple (s ∷ sorts) = IsSimple s × AreSimple sorts

pub inhabited : (e : Environment) → HasGuarded e → (sorts : List Sort) → AreSimple sorts → AreInhabited e sorts
inhabited e is_guarded [] h k s is = none_some is
inhabited e is_guarded (x ∷ sorts) h zero s is = subst (λ z. (w : Value) × HasSort e w z) (some_same is) (witness e is_guarded x h.0)
inhabited e is_guarded (x ∷ sorts) h (suc k) s is = inhabited e is_guarded sorts h.1 k s is

pub sorted : (e : Environment) (path : List Fact) (sorts : List Sort) (ts : List Term) → EntailsAll e path (facts_of_sorts sorts ts) → AreSorted e path sorts ts
sorted e path [] ts h k s t is there = none_some is
sorted e path (x ∷ sorts) [] h k s t is there = none_some there
sorted e path (x ∷ sorts) (u ∷ ts) h zero s t is there = subst (λ z. Entails e path (OfSort z s)) (some_same there) (subst (λ z. Entails e path (OfSort u z)) (some_same is) h.0)
sorted e path (x ∷ sorts) (u ∷ ts) h (suc k) s t is there = sorted e path sorts ts h.1 k s t is there

-- ---- names that have their values when a call begins
in_terms : (ts : List Term) (k : ℕ) (t : Term) → slice_get ts k ≡ Some t → k < length ts
in_terms [] k t is = none_some is
in_terms (u ∷ ts) zero t is = omega arith
in_terms (u ∷ ts) (suc k) t is = let l = in_terms ts k t is in omega (arith, l)

arguments_fixed : (contract : ContractTree) (ts : List Term) → length ts ≡ contract.parameters → AreFixed contract (store_of ts)
arguments_fixed contract ts long (Numbered k) t is = inl (subst (λ n. k < n) long (in_terms ts k t is))
arguments_fixed contract ts long Name.Result t is = none_some is
arguments_fixed contract ts long Name.This t is = none_some is
arguments_fixed contract ts long CurrentThread t is = none_some is

pub fixed_stored : (contract : ContractTree) (s : Store) (x : Name) (t : Term) → AreFixed contract s → IsFixed contract x → AreFixed contract (stored s x t)
fixed_stored contract s x t h fixed y u is = elim (stored_either s x t y u is) [ inl same1 ↦ subst (IsFixed contract) (sym same1.0) fixed | inr other ↦ h y u other ]

pub call_fixed : (contract : ContractTree) (ts : List Term) → length ts ≡ contract.parameters → AreFixed contract (call_store ts)
call_fixed contract ts long = fixed_stored contract (store_of ts) CurrentThread (Variable CurrentThread) (arguments_fixed contract ts long) tt

pub integer_is_no_void : Integer types.Int ≢ Void
integer_is_no_void h = cc
