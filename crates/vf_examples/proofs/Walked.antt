-- The lemma that goes through a list by calling itself with the rest of it is accepted.
use Rattle.std.proofs.Common.{◌≡◌, ℕ, zero, suc, pos, ◌+◌, ◌<◌, Bool, true, false, cond, List, [], ◌∷◌, slice_get, Some, None, refl, sym, ap, subst, ◌∙◌, ◌⊎◌, inl, inr, arith}
use Rattle.std.specs.Bool.{MatchBool}
use Rattle.vf_tree.specs.Core.{Equal}
use Rattle.vf_model.specs.Values.{Value, Values, none, more, same_identity}
use Rattle.vf_model.specs.Values as values
use Rattle.vf_meaning.specs.Ghost.{Sort, Name, Integers, Truths, Pointers, Fractions, Anything, Numbered, Result, This, CurrentThread, Variable, Truth, Compare, Construct, no_expressions, and_expression}
use Rattle.vf_meaning.specs.Ghost.{Parameter, Datatype}
use Rattle.vf_meaning.specs.Ghost as ghost
use Rattle.vf_meaning.specs.Valuations.{Valuation, size}
use Rattle.vf_meaning.specs.Names.{Uses}
use Rattle.vf_meaning.specs.Sorts.{IsDatatypeOf, ArgumentsAre, HasSort, HaveSorts}
use Rattle.vf_meaning.specs.Assertions.{Empty, Branches, no_branches, branch, ContractTree}
use Rattle.vf_meaning.proofs.Linking.{never_leaks}
use Rattle.vf_rules.specs.Terms.{Term, Store, stored}
use Rattle.vf_rules.specs.States.{Fact, Holds, OfSort, SymbolicState, Entails, assuming}
use Rattle.vf_rules.specs.Fresh.{symbol, IsFreshIn, IsNew}
use Rattle.vf_rules.specs.Mutexes.{name}
use Rattle.vf_rules.specs.Produce.{NamesHaveSorts, IsCovered, Covers, Produce}
use Rattle.vf_rules.specs.Laws.{Outcome, IsAmong}
use Rattle.vf_rules.specs.Loops.{AreNamesSorted}
use Rattle.vf_rules.specs.Predicates.{AreInhabited, AreSorted}
use Rattle.vf_rules.specs.Cases.{HoldsOfNothing}
use Rattle.vf_rules.specs.Accept.{all_of_it, call_store, AreFixed}
use Rattle.vf_rules.proofs.Terms.{stored_other}
use Rattle.vf_rules.proofs.Takes.{same_value}
use Rattle.vf_rules.proofs.Cases.{empty_cases_hold}
use Rattle.vf_rules.specs.Lemmas.{LemmaTree}
use Rattle.vf_lemmas.specs.Proves.{IsSmaller, earlier, smaller_argument, Proves, may_end, may_know, may_call, IsAcceptedLemma, with_all}
use Rattle.vf_examples.specs.SmallLemmas.{list_name, nil_name, cons_name, ints, lemma_environment, no_program, cases_of_list, sorts_of_cases, reopen, visit, walk}

some_same : {A : Type 0} {x y : A} → Some x ≡ Some y → x ≡ y
some_same e = cc

none_some : {A B : Type 0} {x : A} → None ≡ Some x → B
none_some e = cc

abbrev lemmas : List LemmaTree
lemmas = reopen ∷ visit ∷ walk ∷ []

-- ---- the states on the way
abbrev names : Store
names = call_store (symbol 0 ∷ [])

abbrev of_list : Term → Fact
of_list t = OfSort t ints

abbrev of_thread : Fact
of_thread = OfSort (Variable CurrentThread) Integers

abbrev begun : SymbolicState
begun = record { locals = []; names = names; chunks = []; path = of_list (symbol 0) ∷ of_thread ∷ Holds (Truth true) ∷ [] }

abbrev is_nil : Fact
is_nil = Holds (Compare Equal (symbol 0) (Construct nil_name no_expressions))

abbrev is_cons : Fact
is_cons = Holds (Compare Equal (symbol 0) (Construct cons_name (and_expression (symbol 1) (and_expression (symbol 2) no_expressions))))

abbrev with_nil : SymbolicState
with_nil = record { locals = []; names = names; chunks = []; path = of_list (symbol 0) ∷ of_thread ∷ Holds (Truth true) ∷ is_nil ∷ [] }

abbrev with_head : SymbolicState
with_head = record { locals = []; names = names; chunks = []; path = of_list (symbol 0) ∷ of_thread ∷ Holds (Truth true) ∷ OfSort (symbol 1) Integers ∷ [] }

abbrev with_cons : SymbolicState
with_cons = record { locals = []; names = names; chunks = []; path = of_list (symbol 0) ∷ of_thread ∷ Holds (Truth true) ∷ OfSort (symbol 1) Integers ∷ of_list (symbol 2) ∷ is_cons ∷ [] }

abbrev after_cases : List Outcome
after_cases = record { store = names; state = with_nil } ∷ record { store = names; state = with_cons } ∷ []

abbrev visiting : List Term
visiting = symbol 1 ∷ []

abbrev visited : SymbolicState
visited = assuming with_cons (Holds (Truth true))

abbrev after_visit : List Outcome
after_visit = record { store = call_store visiting; state = visited } ∷ []

abbrev passed : List Term
passed = symbol 2 ∷ []

abbrev after_call : List Outcome
after_call = record { store = call_store passed; state = assuming visited (Holds (Truth true)) } ∷ []

-- ---- names
no_names : (s : Store) (x : Name) → ⊥ → (t : Term) × (s x ≡ Some t)
no_names s x never = absurd never

bound_in_names : (x : Name) → Numbered 0 ≡ x → (t : Term) × (names x ≡ Some t)
bound_in_names x is = (symbol 0, subst (λ z. names z ≡ Some (symbol 0)) is refl)

other_number : (i j : ℕ) → (i ≡ j → ⊥) → Numbered i ≡ Numbered j → ⊥
other_number i j h same = h (number_same same)
  where
    number_same : {i j : ℕ} → Numbered i ≡ Numbered j → i ≡ j
    number_same h = cc

thread_number : (j : ℕ) → CurrentThread ≡ Numbered j → ⊥
thread_number j h = cc

zero_suc : (j : ℕ) → zero ≡ suc j → ⊥
zero_suc j h = cc

-- the terms of the names use the first symbol alone
names_fresh : (j : ℕ) → IsFreshIn (suc j) names
names_fresh j (Numbered zero) t is used = other_number 0 (suc j) (zero_suc j) (subst (λ z. Uses z (Numbered (suc j))) (sym (some_same is)) used)
names_fresh j (Numbered (suc k)) t is used = none_some is
names_fresh j Result t is used = none_some is
names_fresh j This t is used = none_some is
names_fresh j CurrentThread t is used = thread_number (suc j) (subst (λ z. Uses z (Numbered (suc j))) (sym (some_same is)) used)

one_suc : (j : ℕ) → suc zero ≡ suc (suc j) → ⊥
one_suc j h = omega (arith, h)

more_one : (k : ℕ) → Numbered (suc (suc k)) ≡ Numbered 1 → ⊥
more_one k h = other_number (suc (suc k)) 1 (λ e. omega (arith, e)) h

head_fresh : IsFreshIn 2 (stored names (Numbered 1) (symbol 1))
head_fresh (Numbered zero) t is used = other_number 0 2 (zero_suc 1) (subst (λ z. Uses z (Numbered 2)) (sym (some_same is)) used)
head_fresh (Numbered (suc zero)) t is used = other_number 1 2 (one_suc 0) (subst (λ z. Uses z (Numbered 2)) (sym (some_same is)) used)
head_fresh (Numbered (suc (suc k))) t is used = none_some (sym (stored_other names (Numbered 1) (Numbered (suc (suc k))) (symbol 1) (more_one k)) ∙ is)
head_fresh Result t is used = none_some is
head_fresh This t is used = none_some is
head_fresh CurrentThread t is used = thread_number 2 (subst (λ z. Uses z (Numbered 2)) (sym (some_same is)) used)

new_head : IsNew 1 all_of_it names (Some (symbol 0) ∷ []) begun
new_head = record {
  state = record { locals = λ u. u; names = names_fresh 0; chunks = λ u. u; path = λ u. elim u [ inl x ↦ other_number 0 1 (zero_suc 0) x | inr x ↦ elim x [ inl y ↦ thread_number 1 y | inr y ↦ elim y [ inl z ↦ z | inr z ↦ z ] ] ] };
  store = names_fresh 0;
  scale_free = λ u. u;
  arguments_free = λ u. elim u [ inl x ↦ other_number 0 1 (zero_suc 0) x | inr x ↦ x ];
}

new_rest : IsNew 2 all_of_it (stored names (Numbered 1) (symbol 1)) (Some (symbol 0) ∷ Some (symbol 1) ∷ []) with_head
new_rest = record {
  state = record {
    locals = λ u. u;
    names = names_fresh 1;
    chunks = λ u. u;
    path = λ u. elim u [ inl x ↦ other_number 0 2 (zero_suc 1) x | inr x ↦ elim x [ inl y ↦ thread_number 2 y | inr y ↦ elim y [ inl z ↦ z | inr z ↦ elim z [ inl a ↦ other_number 1 2 (one_suc 0) a | inr a ↦ a ] ] ] ];
  };
  store = head_fresh;
  scale_free = λ u. u;
  arguments_free = λ u. elim u [ inl x ↦ other_number 0 2 (zero_suc 1) x | inr x ↦ elim x [ inl y ↦ other_number 1 2 (one_suc 0) y | inr y ↦ y ] ];
}

-- ---- lists
sort_at : (j : ℕ) (b : Sort) (w : Value) → slice_get sorts_of_cases j ≡ Some b → HasSort lemma_environment w b → (k : ℕ) (s : Sort) → Numbered j ≡ Numbered k → slice_get sorts_of_cases k ≡ Some s → HasSort lemma_environment w s
sort_at j b w own h k s is at = subst (HasSort lemma_environment w) (some_same (sym own ∙ ap (slice_get sorts_of_cases) (number_same is) ∙ at)) h
  where
    number_same : {i j : ℕ} → Numbered i ≡ Numbered j → i ≡ j
    number_same h = cc

nil_names : (vs : Values) → HaveSorts lemma_environment vs [] → NamesHaveSorts lemma_environment sorts_of_cases [] vs
nil_names none h = tt
nil_names (more v vs) h = h

cons_names : (vs : Values) → HaveSorts lemma_environment vs (Integers ∷ ints ∷ []) → NamesHaveSorts lemma_environment sorts_of_cases (Numbered 1 ∷ Numbered 2 ∷ []) vs
cons_names none h = h
cons_names (more v none) h = absurd h.1
cons_names (more v (more w none)) h = (sort_at 1 Integers v refl h.0, (sort_at 2 ints w refl (h.1).0, tt))
cons_names (more v (more w (more x vs))) h = absurd (h.1).1

covered_by : (b c : Bool) (vs : Values) → IsDatatypeOf (cond b (Some (record { datatype = list_name; parameters = 1; arguments = [] })) (cond c (Some (record { datatype = list_name; parameters = 1; arguments = Parameter 0 ∷ Datatype list_name (ghost.more (Parameter 0) ghost.none) ∷ [] })) None)) ints
    → (sorts : List Sort) → ArgumentsAre (cond b (Some (record { datatype = list_name; parameters = 1; arguments = [] })) (cond c (Some (record { datatype = list_name; parameters = 1; arguments = Parameter 0 ∷ Datatype list_name (ghost.more (Parameter 0) ghost.none) ∷ [] })) None)) ints sorts → HaveSorts lemma_environment vs sorts
    → MatchBool b (NamesHaveSorts lemma_environment sorts_of_cases [] vs) (MatchBool c (NamesHaveSorts lemma_environment sorts_of_cases (Numbered 1 ∷ Numbered 2 ∷ []) vs) ⊥)
covered_by true c vs data_is sorts are h = nil_names vs (subst (HaveSorts lemma_environment vs) (sym are) h)
covered_by false true vs data_is sorts are h = cons_names vs (subst (HaveSorts lemma_environment vs) (sym are) h)
covered_by false false vs data_is sorts are h = data_is

abbrev cases : Branches
cases = branch nil_name [] Empty (branch cons_name (Numbered 1 ∷ Numbered 2 ∷ []) Empty no_branches)

no_list : {A : Type 0} (s : Sort) → (ints ≡ s → ⊥) → (ints ≡ s) ⊎ (ints ≡ Anything) → A
no_list s h (inl is) = absurd (h is)
no_list s h (inr is) = absurd (clash is)
  where
    clash : ints ≡ Anything → ⊥
    clash h = cc

covered : (w : Value) → HasSort lemma_environment w ints → IsCovered lemma_environment sorts_of_cases cases w
covered (values.Constructed c vs) h = covered_by (same_identity nil_name c) (same_identity cons_name c) vs h.0 (h.1).0 (h.1).1 (h.1).2
covered (values.Number z) h = no_list Integers (λ e. clash e) h
  where
    clash : ints ≡ Integers → ⊥
    clash h = cc
covered (values.Truth b) h = no_list Truths (λ e. clash e) h
  where
    clash : ints ≡ Truths → ⊥
    clash h = cc
covered values.Null h = no_list Pointers (λ e. clash e) h
  where
    clash : ints ≡ Pointers → ⊥
    clash h = cc
covered (values.Pointer b o) h = no_list Pointers (λ e. clash e) h
  where
    clash : ints ≡ Pointers → ⊥
    clash h = cc
covered (values.Function g) h = no_list Pointers (λ e. clash e) h
  where
    clash : ints ≡ Pointers → ⊥
    clash h = cc
covered (values.Predicate q vs) h = absurd h.2
covered (values.Fraction d) h = no_list Fractions (λ e. clash e) h.0
  where
    clash : ints ≡ Fractions → ⊥
    clash h = cc

lists_inhabited : (s : Sort) → ints ≡ s → (w : Value) × HasSort lemma_environment w s
lists_inhabited s is = (values.Constructed nil_name none, subst (HasSort lemma_environment (values.Constructed nil_name none)) is ((refl, refl), ([], refl, tt)))

cases_inhabited : AreInhabited lemma_environment sorts_of_cases
cases_inhabited zero s is = lists_inhabited s (some_same is)
cases_inhabited (suc zero) s is = (values.Number (pos 0), subst (HasSort lemma_environment (values.Number (pos 0))) (some_same is) (inl refl))
cases_inhabited (suc (suc zero)) s is = lists_inhabited s (some_same is)
cases_inhabited (suc (suc (suc k))) s is = none_some is

walk_inhabited : AreInhabited lemma_environment (ints ∷ [])
walk_inhabited zero s is = lists_inhabited s (some_same is)
walk_inhabited (suc k) s is = none_some is

numbers_inhabited : AreInhabited lemma_environment (Integers ∷ [])
numbers_inhabited zero s is = (values.Number (pos 0), subst (HasSort lemma_environment (values.Number (pos 0))) (some_same is) (inl refl))
numbers_inhabited (suc k) s is = none_some is

-- ---- sorts of terms
one_sorted : (so : Sort) (path : List Fact) (t : Term) → Entails lemma_environment path (OfSort t so) → AreSorted lemma_environment path (so ∷ []) (t ∷ [])
one_sorted so path t h zero s u is at = subst (λ z. Entails lemma_environment path (OfSort z s)) (some_same at) (subst (λ z. Entails lemma_environment path (OfSort t z)) (some_same is) h)
one_sorted so path t h (suc k) s u is at = none_some is

names_sorted : (path : List Fact) → Entails lemma_environment path (of_list (symbol 0)) → AreNamesSorted lemma_environment path sorts_of_cases names
names_sorted path h zero s t is at = subst (λ z. Entails lemma_environment path (OfSort z s)) (some_same at) (subst (λ z. Entails lemma_environment path (OfSort (symbol 0) z)) (some_same is) h)
names_sorted path h (suc k) s t is at = none_some at

-- ---- the steps
is_true : (path : List Fact) → Entails lemma_environment path (Holds (Truth true))
is_true path = record { by = λ v m. refl }

covers : Covers lemma_environment sorts_of_cases begun.path (symbol 0) cases
covers = record { by = λ v m. covered (v (Numbered 0)) m.0 }

of_nothing : HoldsOfNothing lemma_environment begun.path sorts_of_cases cases_of_list names
of_nothing = empty_cases_hold lemma_environment begun.path sorts_of_cases (name 0) cases names (refl, (refl, tt)) bound_in_names covers cases_inhabited (names_sorted begun.path (record { by = λ v m. m.0 }))

knows : Produce lemma_environment no_program sorts_of_cases all_of_it cases_of_list names begun (IsAmong after_cases)
knows = (bound_in_names, covers, (inr (inl (refl, refl)), ((1, new_head, refl, (2, new_rest, refl, inr (inr (inl (refl, refl))))), tt)))

-- the rest of a list is smaller than the list
rest_smaller : (v : Valuation) → v (Numbered 0) ≡ values.Constructed cons_name (more (v (Numbered 1)) (more (v (Numbered 2)) none)) → size (v (Numbered 2)) < size (v (Numbered 0))
rest_smaller v is = subst (λ z. size (v (Numbered 2)) < size z) (sym is) (smaller (size (v (Numbered 1))) (size (v (Numbered 2))))
  where
    smaller : (a b : ℕ) → b < suc (a + (b + 0))
    smaller a b = omega arith

smaller_rest : IsSmaller lemma_environment visited.path (symbol 2) (symbol 0)
smaller_rest = record { by = λ v m. rest_smaller v (same_value lemma_environment v (symbol 0) (Construct cons_name (and_expression (symbol 1) (and_expression (symbol 2) no_expressions))) (((((m.1).1).1).1).1).0) }

fixed : (k : ContractTree) (u : Term) → k.parameters ≡ 1 → AreFixed k (call_store (u ∷ []))
fixed k u one (Numbered zero) t is = inl (omega (arith, one))
fixed k u one (Numbered (suc j)) t is = none_some is
fixed k u one Result t is = none_some is
fixed k u one This t is = none_some is
fixed k u one CurrentThread t is = tt

ends : (st : SymbolicState) → st.chunks ≡ [] → Proves lemma_environment no_program lemmas walk 2 [] st
ends st none_left = may_end {st = st} (no_names st.names, is_true st.path, (none_left, λ x t fix is. is))

knows_thread : (path : List Fact) → Entails lemma_environment (of_list (symbol 0) ∷ of_thread ∷ path) of_thread
knows_thread path = record { by = λ v m. (m.1).0 }

-- itself is called with the rest of the list
calls : Proves lemma_environment no_program lemmas walk 2 [] visited
calls =
    may_call {st = visited} 2 walk passed after_call refl (λ h. h) walk_inhabited refl (one_sorted ints visited.path (symbol 2) (record { by = λ v m. ((((m.1).1).1).1).0 })) (knows_thread _)
    (no_names (call_store passed), is_true visited.path, (smaller_argument 0 (symbol 2) (symbol 0) refl (omega arith) refl refl smaller_rest, fixed walk.contract (symbol 2) refl, (no_names (call_store passed), inr (inl (refl, refl)))))
    (λ s su among. only s su among)
  where
    only : (s : Store) (su : SymbolicState) → IsAmong after_call s su → Proves lemma_environment no_program lemmas walk 2 [] su
    only s su (inl found) = subst (Proves lemma_environment no_program lemmas walk 2 []) found.1 (ends (assuming visited (Holds (Truth true))) refl)
    only s su (inr never) = absurd never

-- the first element of the list is passed for an int
visits : Proves lemma_environment no_program lemmas walk 2 [] with_cons
visits =
    may_call {st = with_cons} 1 visit visiting after_visit refl (λ leaks. absurd (never_leaks lemma_environment (λ text. refl) leaks)) numbers_inhabited refl (one_sorted Integers with_cons.path (symbol 1) (record { by = λ v m. (((m.1).1).1).0 })) (knows_thread _)
    (no_names (call_store visiting), is_true with_cons.path, (earlier (omega arith), fixed visit.contract (symbol 1) refl, (no_names (call_store visiting), inr (inl (refl, refl)))))
    (λ s su among. only s su among)
  where
    only : (s : Store) (su : SymbolicState) → IsAmong after_visit s su → Proves lemma_environment no_program lemmas walk 2 [] su
    only s su (inl found) = subst (Proves lemma_environment no_program lemmas walk 2 []) found.1 calls
    only s su (inr never) = absurd never

body : Proves lemma_environment no_program lemmas walk 2 [] begun
body = may_know {st = begun} cases_of_list sorts_of_cases names after_cases of_nothing knows (λ s su among. each s su among)
  where
    each : (s : Store) (su : SymbolicState) → IsAmong after_cases s su → Proves lemma_environment no_program lemmas walk 2 [] su
    each s su (inl found) = subst (Proves lemma_environment no_program lemmas walk 2 []) found.1 (ends with_nil refl)
    each s su (inr (inl found)) = subst (Proves lemma_environment no_program lemmas walk 2 []) found.1 visits
    each s su (inr (inr never)) = absurd never

outcome : (s : Store) (st : SymbolicState) → IsAmong (record { store = names; state = begun } ∷ []) s st → Proves lemma_environment no_program lemmas walk 2 [] (record st { names = s })
outcome s st (inl found) = subst (λ z. Proves lemma_environment no_program lemmas walk 2 [] (record z { names = s })) found.1 (subst (λ z. Proves lemma_environment no_program lemmas walk 2 [] (record begun { names = z })) found.0 body)
outcome s st (inr never) = absurd never

pub walk_is_accepted : IsAcceptedLemma lemma_environment no_program lemmas 2 walk
walk_is_accepted = with_all (record { store = names; state = begun } ∷ []) (no_names names, inr (inl (refl, refl))) outcome

-- ---- a lemma whose body has nothing
abbrev visit_names : Store
visit_names = call_store (symbol 0 ∷ [])

abbrev visit_begun : SymbolicState
visit_begun = record { locals = []; names = visit_names; chunks = []; path = OfSort (symbol 0) Integers ∷ of_thread ∷ Holds (Truth true) ∷ [] }

visit_outcome : (s : Store) (st : SymbolicState) → IsAmong (record { store = visit_names; state = visit_begun } ∷ []) s st → Proves lemma_environment no_program lemmas visit 1 [] (record st { names = s })
visit_outcome s st (inl found) = may_end (no_names s, is_true st.path, (ap (λ z. z.chunks) (sym found.1), λ x t fix is. is))
visit_outcome s st (inr never) = absurd never

pub visit_is_accepted : IsAcceptedLemma lemma_environment no_program lemmas 1 visit
visit_is_accepted = with_all (record { store = visit_names; state = visit_begun } ∷ []) (no_names visit_names, inr (inl (refl, refl))) visit_outcome
