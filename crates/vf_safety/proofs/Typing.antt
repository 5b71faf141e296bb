-- What facts of types and sorts say of values, and locals, stores and comparisons.
use Rattle.std.proofs.Common.{◌≡◌, ◌≢◌, ℕ, zero, suc, ℤ, true, cond, not, List, [], ◌∷◌, ◌++◌, map, slice_set, Option, Some, None, refl, sym, ap, subst, ◌∙◌, ◌⊎◌, inl, inr, ⊎_elim, arith}
use Rattle.std.specs.Prelude.{◌≤ℤ◌, int_le}
use Rattle.std.specs.Bool.{MatchBool}
use Rattle.std.proofs.lemmas.Int.{ints}
use Rattle.std.proofs.lemmas.Bool.{cases_Bool}
use Rattle.vf_base.specs.declared.int_type.IntType.{IntType}
use Rattle.vf_tree.specs.Core.{TypeTree, Void, Integer, PointerToVoid, PointerToInt, PointerToStruct, PointerToFunction, Comparison, Equal, NotEqual, Less, LessEqual, Greater, GreaterEqual}
use Rattle.vf_model.specs.Integers.{least, greatest}
use Rattle.vf_model.specs.Values.{Value, compares, same_value}
use Rattle.vf_model.specs.Values as values
use Rattle.vf_meaning.specs.Ghost.{ConstructorTree, Sort, Integers, Truths, Pointers, Name, Numbered, Result, This, CurrentThread, same_name, Number, Compare}
use Rattle.vf_meaning.specs.Ghost as ghost
use Rattle.vf_meaning.specs.Valuations.{Valuation, bound, is_same}
use Rattle.vf_meaning.specs.GhostValues.{compared}
use Rattle.vf_meaning.specs.Assertions.{Environment}
use Rattle.vf_meaning.specs.Sorts.{IsDatatypeOf, HasSort, AreOfSorts}
use Rattle.vf_rules.specs.Terms.{Term, Store, stored}
use Rattle.vf_rules.specs.States.{Fact, Holds, OfSort, value_in, Meets, LocalsMean, StoreMeans}
use Rattle.vf_rules.specs.Types.{IsPointer, is_bool, IsTruth, IsNumberIn, IsOfInteger, IsOfType, facts_of_integer, facts_of_type}
use Rattle.vf_rules.specs.Consume.{EntailsAll}
use Rattle.vf_rules.specs.Accept.{facts_of_types}
use Rattle.vf_rules.specs.Evaluate.{IsOfC}
use Rattle.vf_rules.proofs.Evaluates.{number_sort}

some_same : {A : Type 0} {x y : A} → Some x ≡ Some y → x ≡ y
some_same e = cc

-- ---- sorts of values
other_sort : {A : Type 0} (s r : Sort) → (s ≡ r → ⊥) → (r ≡ ghost.Anything → ⊥) → (r ≡ s) ⊎ (r ≡ ghost.Anything) → A
other_sort s r h k m = ⊎_elim (λ e. absurd (h (sym e))) (λ e. absurd (k e)) m

clash1 : Integers ≡ Truths → ⊥
clash1 e = cc

clash2 : Pointers ≡ Truths → ⊥
clash2 e = cc

clash3 : ghost.Fractions ≡ Truths → ⊥
clash3 e = cc

clash4 : Truths ≡ ghost.Anything → ⊥
clash4 e = cc

clash5 : Integers ≡ Pointers → ⊥
clash5 e = cc

clash6 : Truths ≡ Pointers → ⊥
clash6 e = cc

clash7 : ghost.Fractions ≡ Pointers → ⊥
clash7 e = cc

clash8 : Pointers ≡ ghost.Anything → ⊥
clash8 e = cc

no_datatype : (o : Option ConstructorTree) (s : Sort) → ((d : _) (ts : ghost.Sorts) → s ≡ ghost.Datatype d ts → ⊥) → (s ≡ ghost.Anything → ⊥) → IsDatatypeOf o s → ⊥
no_datatype None s h k m = m
no_datatype (Some c) (ghost.Datatype d ts) h k m = h d ts refl
no_datatype (Some c) (ghost.Parameter j) h k m = m
no_datatype (Some c) ghost.Anything h k m = k refl
no_datatype (Some c) Integers h k m = m
no_datatype (Some c) Truths h k m = m
no_datatype (Some c) Pointers h k m = m
no_datatype (Some c) ghost.Fractions h k m = m
no_datatype (Some c) (ghost.Predicates ss) h k m = m

truths_no_datatype : (d : _) (ts : ghost.Sorts) → Truths ≡ ghost.Datatype d ts → ⊥
truths_no_datatype d ts e = cc

pointers_no_datatype : (d : _) (ts : ghost.Sorts) → Pointers ≡ ghost.Datatype d ts → ⊥
pointers_no_datatype d ts e = cc

pub truth_value : (e : Environment) (w : Value) → HasSort e w Truths → IsTruth w
truth_value e (values.Truth b) h = tt
truth_value e (values.Number z) h = other_sort Integers Truths clash1 clash4 h
truth_value e values.Null h = other_sort Pointers Truths clash2 clash4 h
truth_value e (values.Pointer b o) h = other_sort Pointers Truths clash2 clash4 h
truth_value e (values.Function g) h = other_sort Pointers Truths clash2 clash4 h
truth_value e (values.Constructed c vs) h = absurd (no_datatype (e.constructors c) Truths truths_no_datatype clash4 h.0)
truth_value e (values.Predicate q vs) h = absurd h.2
truth_value e (values.Fraction d) h = other_sort ghost.Fractions Truths clash3 clash4 h.0

pub pointer_value : (e : Environment) (w : Value) → HasSort e w Pointers → IsPointer w
pointer_value e values.Null h = tt
pointer_value e (values.Pointer b o) h = tt
pointer_value e (values.Function g) h = tt
pointer_value e (values.Number z) h = other_sort Integers Pointers clash5 clash8 h
pointer_value e (values.Truth b) h = other_sort Truths Pointers clash6 clash8 h
pointer_value e (values.Constructed c vs) h = absurd (no_datatype (e.constructors c) Pointers pointers_no_datatype clash8 h.0)
pointer_value e (values.Predicate q vs) h = absurd h.2
pointer_value e (values.Fraction d) h = other_sort ghost.Fractions Pointers clash7 clash8 h.0

-- ---- what facts of a type say
abbrev pub MayBe : TypeTree → Value → Type 0
MayBe Void w = Unit {0}
MayBe (Integer t) w = IsOfInteger t w
MayBe PointerToVoid w = IsPointer w
MayBe PointerToInt w = IsPointer w
MayBe (PointerToStruct g) w = IsPointer w
MayBe (PointerToFunction g) w = IsPointer w

true_le : (a b : ℤ) → int_le a b ≡ true → a ≤ℤ b
true_le a b h = grind (arith, ints)

range_back : (e : Environment) (v : Valuation) (ty : IntType) (t : Term) → Meets e v (OfSort t Integers ∷ Holds (Compare LessEqual (Number (least ty)) t) ∷ Holds (Compare LessEqual t (Number (greatest ty))) ∷ []) → IsNumberIn ty (value_in e v t)
range_back e v ty t h =
    let z = number_sort e (value_in e v t) h.0 in
    subst (IsNumberIn ty) (sym z.1)
    (true_le (least ty) z.0 (subst (λ w. compared LessEqual (values.Number (least ty)) w ≡ true) z.1 (h.1).0), true_le z.0 (greatest ty) (subst (λ w. compared LessEqual w (values.Number (greatest ty)) ≡ true) z.1 ((h.1).1).0))

integer_back : (e : Environment) (v : Valuation) (ty : IntType) (t : Term) → Meets e v (facts_of_integer ty t) → IsOfInteger ty (value_in e v t)
integer_back e v ty t h =
    elim (cases_Bool (is_bool ty)) [
      | inl y ↦ subst (λ b. MatchBool b (IsTruth (value_in e v t)) (IsNumberIn ty (value_in e v t))) (sym y)
          (truth_value e (value_in e v t) ((subst (λ b. Meets e v (cond b (OfSort t Truths ∷ []) (OfSort t Integers ∷ Holds (Compare LessEqual (Number (least ty)) t) ∷ Holds (Compare LessEqual t (Number (greatest ty))) ∷ []))) y h).0))
      | inr n ↦ subst (λ b. MatchBool b (IsTruth (value_in e v t)) (IsNumberIn ty (value_in e v t))) (sym n)
          (range_back e v ty t (subst (λ b. Meets e v (cond b (OfSort t Truths ∷ []) (OfSort t Integers ∷ Holds (Compare LessEqual (Number (least ty)) t) ∷ Holds (Compare LessEqual t (Number (greatest ty))) ∷ []))) n h))
    ]

pub type_back : (e : Environment) (v : Valuation) (type : TypeTree) (t : Term) → Meets e v (facts_of_type type t) → MayBe type (value_in e v t)
type_back e v Void t h = tt
type_back e v (Integer ty) t h = integer_back e v ty t h
type_back e v PointerToVoid t h = pointer_value e (value_in e v t) h.0
type_back e v PointerToInt t h = pointer_value e (value_in e v t) h.0
type_back e v (PointerToStruct g) t h = pointer_value e (value_in e v t) h.0
type_back e v (PointerToFunction g) t h = pointer_value e (value_in e v t) h.0

pub may_is : (type : TypeTree) (w : Value) → type ≢ Void → MayBe type w → IsOfType type w
may_is Void w h m = absurd (h refl)
may_is (Integer ty) w h m = m
may_is PointerToVoid w h m = m
may_is PointerToInt w h m = m
may_is (PointerToStruct g) w h m = m
may_is (PointerToFunction g) w h m = m

pub is_may : (type : TypeTree) (w : Value) → IsOfType type w → MayBe type w
is_may Void w m = tt
is_may (Integer ty) w m = m
is_may PointerToVoid w m = m
is_may PointerToInt w m = m
is_may (PointerToStruct g) w m = m
is_may (PointerToFunction g) w m = m

-- several values of several types
abbrev pub AllMayBe : List TypeTree → List Value → Type 0
AllMayBe (t ∷ types) (w ∷ ws) = MayBe t w × AllMayBe types ws
AllMayBe _ _ = Unit {0}

entailed : (e : Environment) (path : List Fact) (fs : List Fact) → EntailsAll e path fs → (v : Valuation) → Meets e v path → Meets e v fs
entailed e path [] h v m = tt
entailed e path (f ∷ fs) h v m = ((h.0).by v m, entailed e path fs h.1 v m)

pub all_entailed : (e : Environment) (path : List Fact) (fs : List Fact) → EntailsAll e path fs → (v : Valuation) → Meets e v path → Meets e v fs
all_entailed e path fs h v m = entailed e path fs h v m

meets_first : (e : Environment) (v : Valuation) (fs gs : List Fact) → Meets e v (fs ++ gs) → Meets e v fs
meets_first e v [] gs m = tt
meets_first e v (f ∷ fs) gs m = (m.0, meets_first e v fs gs m.1)

meets_rest : (e : Environment) (v : Valuation) (fs gs : List Fact) → Meets e v (fs ++ gs) → Meets e v gs
meets_rest e v [] gs m = m
meets_rest e v (f ∷ fs) gs m = meets_rest e v fs gs m.1

pub types_back : (e : Environment) (v : Valuation) (types : List TypeTree) (ts : List Term) → Meets e v (facts_of_types types ts) → AllMayBe types (map (value_in e v) ts)
types_back e v [] ts m = tt
types_back e v (t ∷ types) [] m = tt
types_back e v (t ∷ types) (u ∷ us) m = (type_back e v t u (meets_first e v (facts_of_type t u) (facts_of_types types us) m), types_back e v types us (meets_rest e v (facts_of_type t u) (facts_of_types types us) m))

-- ---- locals
missing : (e : Environment) (v : Valuation) (o : Option Term) (ts : List (Option Term)) → LocalsMean e v (o ∷ ts) [] → ⊥
missing e v None ts m = m
missing e v (Some t) ts m = m

pub locals_set : (e : Environment) (v : Valuation) (ts : List (Option Term)) (locals : List (Option Value)) (x : ℕ) (t : Term) (w : Value) → value_in e v t ≡ w → LocalsMean e v ts locals
    → LocalsMean e v (slice_set ts x (Some t)) (slice_set locals x (Some w))
locals_set e v [] [] x t w is m = tt
locals_set e v [] (h ∷ hs) x t w is m = absurd m
locals_set e v (o ∷ ts) [] x t w is m = absurd (missing e v o ts m)
locals_set e v (None ∷ ts) (h ∷ hs) zero t w is m = (ap Some (sym is), m)
locals_set e v (Some u ∷ ts) (h ∷ hs) zero t w is m = (ap Some (sym is), m.1)
locals_set e v (None ∷ ts) (h ∷ hs) (suc x) t w is m = locals_set e v ts hs x t w is m
locals_set e v (Some u ∷ ts) (h ∷ hs) (suc x) t w is m = (m.0, locals_set e v ts hs x t w is m.1)

-- ---- stores
pub bound_stored : (e : Environment) (v : Valuation) (s : Store) (w : Valuation) (x : Name) (t : Term) (u : Value) → StoreMeans e v s w → value_in e v t ≡ u → StoreMeans e v (stored s x t) (bound w x u)
bound_stored e v s w x t u m is y z h =
    elim (cases_Bool (same_name y x)) [
      | inl same ↦ ap (value_in e v) (sym (some_same (sym (ap (λ b. cond b (Some t) (s y)) same) ∙ h))) ∙ is ∙ ap (λ b. cond b u (w y)) (sym same)
      | inr other ↦ m y z (sym (ap (λ b. cond b (Some t) (s y)) other) ∙ h) ∙ ap (λ b. cond b u (w y)) (sym other)
    ]

pub result_sorted : (e : Environment) (w : Valuation) (u : Value) (sorts : List Sort) → AreOfSorts e w sorts → AreOfSorts e (bound w Result u) sorts
result_sorted e w u sorts h k s known = h k s known

-- ---- comparisons
abbrev IsC : Value → Type 0
IsC (values.Number z) = Unit {0}
IsC (values.Truth b) = Unit {0}
IsC values.Null = Unit {0}
IsC (values.Pointer b o) = Unit {0}
IsC (values.Function g) = Unit {0}
IsC _ = ⊥

c_truth : (w : Value) → IsTruth w → IsC w
c_truth (values.Truth b) h = tt
c_truth (values.Number z) h = tt
c_truth values.Null h = tt
c_truth (values.Pointer b o) h = tt
c_truth (values.Function g) h = tt
c_truth (values.Constructed c vs) h = h
c_truth (values.Predicate c vs) h = h
c_truth (values.Fraction d) h = h

c_pointer : (w : Value) → IsPointer w → IsC w
c_pointer (values.Truth b) h = tt
c_pointer (values.Number z) h = tt
c_pointer values.Null h = tt
c_pointer (values.Pointer b o) h = tt
c_pointer (values.Function g) h = tt
c_pointer (values.Constructed c vs) h = h
c_pointer (values.Predicate c vs) h = h
c_pointer (values.Fraction d) h = h

of_c : (e : Environment) (v : Valuation) (path : List Fact) (t : Term) → IsOfC e path t → Meets e v path → IsC (value_in e v t)
of_c e v path t h m =
    ⊎_elim (λ k. let z = number_sort e (value_in e v t) (k.by v m) in subst IsC (sym z.1) tt)
    (λ k. ⊎_elim (λ j. c_truth (value_in e v t) (truth_value e (value_in e v t) (j.by v m))) (λ j. c_pointer (value_in e v t) (pointer_value e (value_in e v t) (j.by v m))) k)
    h

same_compared : (v w : Value) → IsC v → IsC w → same_value v w ≡ is_same v w
same_compared (values.Number y) (values.Number z) h k = refl
same_compared (values.Truth y) (values.Truth z) h k = refl
same_compared values.Null values.Null h k = refl
same_compared (values.Pointer b o) (values.Pointer c q) h k = refl
same_compared (values.Function f) (values.Function g) h k = refl
same_compared (values.Number y) (values.Truth z) h k = refl
same_compared (values.Number y) values.Null h k = refl
same_compared (values.Number y) (values.Pointer c q) h k = refl
same_compared (values.Number y) (values.Function g) h k = refl
same_compared (values.Truth y) (values.Number z) h k = refl
same_compared (values.Truth y) values.Null h k = refl
same_compared (values.Truth y) (values.Pointer c q) h k = refl
same_compared (values.Truth y) (values.Function g) h k = refl
same_compared values.Null (values.Number z) h k = refl
same_compared values.Null (values.Truth z) h k = refl
same_compared values.Null (values.Pointer c q) h k = refl
same_compared values.Null (values.Function g) h k = refl
same_compared (values.Pointer b o) (values.Number z) h k = refl
same_compared (values.Pointer b o) (values.Truth z) h k = refl
same_compared (values.Pointer b o) values.Null h k = refl
same_compared (values.Pointer b o) (values.Function g) h k = refl
same_compared (values.Function f) (values.Number z) h k = refl
same_compared (values.Function f) (values.Truth z) h k = refl
same_compared (values.Function f) values.Null h k = refl
same_compared (values.Function f) (values.Pointer c q) h k = refl
same_compared (values.Constructed c vs) w h k = absurd h
same_compared (values.Predicate c vs) w h k = absurd h
same_compared (values.Fraction d) w h k = absurd h
same_compared (values.Number z) (values.Constructed c vs) h k = absurd k
same_compared (values.Number z) (values.Predicate c vs) h k = absurd k
same_compared (values.Number z) (values.Fraction c) h k = absurd k
same_compared (values.Truth z) (values.Constructed c vs) h k = absurd k
same_compared (values.Truth z) (values.Predicate c vs) h k = absurd k
same_compared (values.Truth z) (values.Fraction c) h k = absurd k
same_compared values.Null (values.Constructed c vs) h k = absurd k
same_compared values.Null (values.Predicate c vs) h k = absurd k
same_compared values.Null (values.Fraction c) h k = absurd k
same_compared (values.Pointer z o) (values.Constructed c vs) h k = absurd k
same_compared (values.Pointer z o) (values.Predicate c vs) h k = absurd k
same_compared (values.Pointer z o) (values.Fraction c) h k = absurd k
same_compared (values.Function z) (values.Constructed c vs) h k = absurd k
same_compared (values.Function z) (values.Predicate c vs) h k = absurd k
same_compared (values.Function z) (values.Fraction c) h k = absurd k

compares_same : (c : Comparison) (v w : Value) → IsC v → IsC w → compares c v w ≡ compared c v w
compares_same Equal v w h k = same_compared v w h k
compares_same NotEqual v w h k = ap not (same_compared v w h k)
compares_same Less v w h k = refl
compares_same LessEqual v w h k = refl
compares_same Greater v w h k = refl
compares_same GreaterEqual v w h k = refl

-- a comparison of C is the ghost one
pub compares_terms : (e : Environment) (v : Valuation) (path : List Fact) (c : Comparison) (t u : Term) → IsOfC e path t → IsOfC e path u → Meets e v path → compares c (value_in e v t) (value_in e v u) ≡ compared c (value_in e v t) (value_in e v u)
compares_terms e v path c t u h k m = compares_same c (value_in e v t) (value_in e v u) (of_c e v path t h m) (of_c e v path u k m)
