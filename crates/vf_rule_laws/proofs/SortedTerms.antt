-- Terms that are of a sort have a value of it.
use Rattle.std.proofs.Common.{◌≡◌, ℕ, Bool, true, false, cond, List, [], ◌∷◌, ◌++◌, map, drop, Option, Some, None, refl, sym, subst, subst₂, ◌⊎◌, inl, inr}
use Rattle.vf_tree.specs.Core.{Identity}
use Rattle.vf_model.specs.Values.{Dyadic, Value, Values, none, more}
use Rattle.vf_model.specs.Values as values
use Rattle.vf_meaning.specs.Fractions.{IsPositive}
use Rattle.vf_meaning.specs.Ghost.{Sort, Integers, Truths, Pointers, Fractions, Anything, Parameter, Datatype, Predicates, Sorts, count_sorts, instance_of, GhostExpressions, ConstructorTree}
use Rattle.vf_meaning.specs.Ghost as ghost
use Rattle.vf_meaning.specs.Valuations.{Valuation, count, is_true}
use Rattle.vf_meaning.specs.GhostValues.{value_of, values_of, shared}
use Rattle.vf_meaning.specs.Assertions.{PredicateTree, Environment}
use Rattle.vf_meaning.specs.Sorts.{IsDatatypeOf, ArgumentsAre, AreDeclaredWith, HasSort, HaveSorts, HaveFirst}
use Rattle.vf_meaning.proofs.Fractions.{stays_positive}
use Rattle.vf_rules.specs.Terms.{Term}
use Rattle.vf_rules.specs.States.{meaning}
use Rattle.vf_rule_laws.specs.SortedTerms.{IsOfSort, any_symbol, the_thread, a_number, a_truth, a_fraction, the_null, a_function, a_construct, an_application, a_predicate, a_claim, a_negation, a_computation, a_pointer_sum, a_share, a_comparison, a_denial, a_conjunction, a_disjunction, a_choice, of_any, AreOfSorts, none_of_sorts, more_of_sorts}
use Rattle.vf_rule_laws.specs.TypedLaws.{SortedTermsHaveSorts}
use Rattle.vf_rule_laws.proofs.Steps.{further_pointer}

-- ---- any sort
arguments_of_any : (e : Environment) (o : Option ConstructorTree) (s : Sort) (vs : Values) → IsDatatypeOf o s → ((sorts : List Sort) × ArgumentsAre o s sorts × HaveSorts e vs sorts) → IsDatatypeOf o Anything × ((sorts : List Sort) × ArgumentsAre o Anything sorts × HaveSorts e vs sorts)
arguments_of_any e None s vs d h = absurd d
arguments_of_any e (Some k) (Datatype c ss) vs d (sorts, are, have) = (tt, (sorts, (ss, d.1, are), have))
arguments_of_any e (Some k) Anything vs d h = (tt, h)
arguments_of_any e (Some k) Integers vs d h = absurd d
arguments_of_any e (Some k) Truths vs d h = absurd d
arguments_of_any e (Some k) Pointers vs d h = absurd d
arguments_of_any e (Some k) Fractions vs d h = absurd d
arguments_of_any e (Some k) (Parameter j) vs d h = absurd d
arguments_of_any e (Some k) (Predicates ss) vs d h = absurd d

-- each value that is of a sort is of any sort
any_sort : (e : Environment) (w : Value) (s : Sort) → HasSort e w s → HasSort e w Anything
any_sort e (values.Number z) s h = inr refl
any_sort e (values.Truth b) s h = inr refl
any_sort e values.Null s h = inr refl
any_sort e (values.Pointer b o) s h = inr refl
any_sort e (values.Function g) s h = inr refl
any_sort e (values.Constructed c vs) s h = arguments_of_any e (e.constructors c) s vs h.0 h.1
any_sort e (values.Predicate q vs) s (sorts, are, fits, have) = (sorts, are, tt, have)
any_sort e (values.Fraction d) s h = (inr refl, h.1)

-- ---- fractions
other_sort : {A : Type 0} (s : Sort) → (Fractions ≡ s → ⊥) → (Fractions ≡ s) ⊎ (Fractions ≡ Anything) → A
other_sort s h (inl is) = absurd (h is)
other_sort s h (inr is) = clash is
  where
    clash : {A : Type 0} → Fractions ≡ Anything → A
    clash is = cc

no_datatype : (o : Option ConstructorTree) → IsDatatypeOf o Fractions → ⊥
no_datatype None h = h
no_datatype (Some k) h = h

fraction_value : (e : Environment) (w : Value) → HasSort e w Fractions → (d : Dyadic) × (w ≡ values.Fraction d) × IsPositive d
fraction_value e (values.Fraction d) h = (d, refl, h.1)
fraction_value e (values.Number z) h = other_sort Integers (λ is. cc) h
fraction_value e (values.Truth b) h = other_sort Truths (λ is. cc) h
fraction_value e values.Null h = other_sort Pointers (λ is. cc) h
fraction_value e (values.Pointer b o) h = other_sort Pointers (λ is. cc) h
fraction_value e (values.Function g) h = other_sort Pointers (λ is. cc) h
fraction_value e (values.Constructed c vs) h = absurd (no_datatype (e.constructors c) h.0)
fraction_value e (values.Predicate q vs) h = absurd h.2

shared_fraction : (e : Environment) (a b : Value) → HasSort e a Fractions → HasSort e b Fractions → HasSort e (shared a b) Fractions
shared_fraction e a b h k =
    let (c, is, above) = fraction_value e a h in
    let (d, also, over) = fraction_value e b k in
    subst₂ (λ p q. HasSort e (shared p q) Fractions) (sym is) (sym also) (inl refl, stays_positive.1 c d above over)

-- ---- arguments
have_first : (e : Environment) (vs : Values) (sorts others : List Sort) → HaveSorts e vs sorts → HaveFirst e vs (sorts ++ others)
have_first e none sorts others h = tt
have_first e (more w vs) [] others h = absurd h
have_first e (more w vs) (s ∷ sorts) others h = (h.0, have_first e vs sorts others h.1)

dropped : (e : Environment) (vs : Values) (sorts others : List Sort) → HaveSorts e vs sorts → drop (count vs) (sorts ++ others) ≡ others
dropped e none [] others h = refl
dropped e none (s ∷ sorts) others h = absurd h
dropped e (more w vs) [] others h = absurd h
dropped e (more w vs) (s ∷ sorts) others h = dropped e vs sorts others h.1

constructed : (e : Environment) (c : Identity) (k : ConstructorTree) (ss : Sorts) (vs : Values) → e.constructors c ≡ Some k → count_sorts ss ≡ k.parameters → HaveSorts e vs (map (instance_of ss) k.arguments) → HasSort e (values.Constructed c vs) (Datatype k.datatype ss)
constructed e c k ss vs is number have =
    subst (λ o. IsDatatypeOf o (Datatype k.datatype ss) × ((sorts : List Sort) × ArgumentsAre o (Datatype k.datatype ss) sorts × HaveSorts e vs sorts)) (sym is) ((refl, number), (map (instance_of ss) k.arguments, refl, have))

predicate_value : (e : Environment) (q : Identity) (k : PredicateTree) (first : List Sort) (others : Sorts) (vs : Values) → e.predicates q ≡ Some k → k.first ++ k.others ≡ first ++ ghost.listed others → HaveSorts e vs first → HasSort e (values.Predicate q vs) (Predicates others)
predicate_value e q k first others vs is parts have =
    (first ++ ghost.listed others, inr (subst (λ o. AreDeclaredWith o (first ++ ghost.listed others)) (sym is) parts), dropped e vs first (ghost.listed others) have, have_first e vs first (ghost.listed others) have)

chosen : (e : Environment) (b : Bool) (v w : Value) (s : Sort) → HasSort e v s → HasSort e w s → HasSort e (cond b v w) s
chosen e true v w s h k = h
chosen e false v w s h k = k

-- ---- terms
module _ (e : Environment) (kinds : ℕ → Option Sort) (v : Valuation) (symbols : (y : ℕ) (s : Sort) → kinds y ≡ Some s → HasSort e (v (ghost.Numbered y)) s) (thread : HasSort e (v ghost.CurrentThread) Integers) where
  mutual
    pub of_sort : {t : Term} {s : Sort} → IsOfSort e kinds t s → HasSort e (value_of (meaning e) v t) s
    of_sort (any_symbol {s} y is) = symbols y s is
    of_sort the_thread = thread
    of_sort (a_number z) = inl refl
    of_sort (a_truth b) = inl refl
    of_sort (a_fraction d above) = (inl refl, above)
    of_sort the_null = inl refl
    of_sort (a_function g) = inl refl
    of_sort (a_construct {ts} c k ss is number have) = constructed e c k ss (values_of (meaning e) v ts) is number (of_sorts have)
    of_sort (an_application {ts} {s} f sorts keeps have) = keeps (values_of (meaning e) v ts) (of_sorts have)
    of_sort (a_predicate {ts} q k first others is parts have) = predicate_value e q k first others (values_of (meaning e) v ts) is parts (of_sorts have)
    of_sort (a_claim type t) = inl refl
    of_sort (a_negation t) = inl refl
    of_sort (a_computation op t u) = inl refl
    of_sort (a_pointer_sum {t} u h) = further_pointer e (value_of (meaning e) v t) _ (of_sort h)
    of_sort (a_share {t} {u} h k) = shared_fraction e (value_of (meaning e) v t) (value_of (meaning e) v u) (of_sort h) (of_sort k)
    of_sort (a_comparison op t u) = inl refl
    of_sort (a_denial t) = inl refl
    of_sort (a_conjunction t u) = inl refl
    of_sort (a_disjunction t u) = inl refl
    of_sort (a_choice {t} {u} {s} c h k) = chosen e (is_true (value_of (meaning e) v c)) (value_of (meaning e) v t) (value_of (meaning e) v u) s (of_sort h) (of_sort k)
    of_sort (of_any {t} {s} h) = any_sort e (value_of (meaning e) v t) s (of_sort h)

    of_sorts : {ts : GhostExpressions} {sorts : List Sort} → AreOfSorts e kinds ts sorts → HaveSorts e (values_of (meaning e) v ts) sorts
    of_sorts none_of_sorts = tt
    of_sorts (more_of_sorts h hs) = (of_sort h, of_sorts hs)

pub sorted_terms_have_sorts : SortedTermsHaveSorts
sorted_terms_have_sorts e path kinds t s symbols thread h = record { by = λ v m. of_sort e kinds v (λ y r is. (symbols y r is).by v m) (thread.by v m) h }
