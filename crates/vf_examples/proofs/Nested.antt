-- The lemma by the depth of its precondition's first part is accepted.
use Rattle.std.proofs.Common.{◌≡◌, ℕ, zero, suc, ℤ, pos, Bool, true, false, not, List, [], ◌∷◌, Some, None, refl, sym, ap, subst, ◌∙◌, ◌⊎◌, inl, inr, arith}
use Rattle.std.proofs.lemmas.Int.{ints}
use Rattle.std.specs.Prelude.{IsTrue, int_le, Contains}
use Rattle.std.specs.Bool.{MatchBool}
use Rattle.vf_tree.specs.Core.{Subtract, Equal, LessEqual}
use Rattle.vf_model.specs.Values.{Value}
use Rattle.vf_model.specs.Values as values
use Rattle.vf_meaning.specs.Fractions.{whole, product}
use Rattle.vf_meaning.specs.Ghost.{Name, Integers, Numbered, Result, This, CurrentThread, Number, Arithmetic, Compare, Not, Fraction, Share, Variable}
use Rattle.vf_meaning.specs.Valuations.{Valuation, is_same}
use Rattle.vf_meaning.specs.GhostValues.{computed}
use Rattle.vf_meaning.specs.Names.{UsesIn}
use Rattle.vf_meaning.specs.Sorts.{HasSort, AreOfSorts}
use Rattle.vf_meaning.specs.Assertions.{Named, Plain, Empty}
use Rattle.vf_meaning.specs.Parts.{Part, nothing}
use Rattle.vf_meaning.specs.Chunks.{Just}
use Rattle.vf_meaning.specs.Satisfaction.{SatisfiesBody, MeansAt, SatisfiesAt}
use Rattle.vf_meaning.proofs.Growth.{names_agree}
use Rattle.vf_rules.specs.Terms.{Term, Store}
use Rattle.vf_rules.specs.States.{Fact, Holds, OfSort, Of, SymbolicChunk, SymbolicState, Meets, Entails, value_in, assuming}
use Rattle.vf_rules.specs.Fresh.{symbol}
use Rattle.vf_rules.specs.Mutexes.{name}
use Rattle.vf_rules.specs.Take.{same, takes_all}
use Rattle.vf_rules.specs.Consume.{Consume}
use Rattle.vf_rules.specs.Laws.{IsAmong}
use Rattle.vf_rules.specs.Loops.{AreNamesSorted}
use Rattle.vf_rules.specs.Predicates.{store_of, HasBody, AreInhabited, Opens}
use Rattle.vf_rules.specs.Accept.{all_of_it, call_store, AreFixed, KeepsFixed}
use Rattle.vf_rules.proofs.Takes.{equal_met}
use Rattle.vf_rules.specs.Lemmas.{LemmaTree}
use Rattle.vf_lemmas.specs.Depths.{Aside, takes_first, Inside, OpensInto, IsFirst}
use Rattle.vf_lemmas.specs.Proves.{Proves, may_end, may_open, may_split, may_put_back, may_open_aside, may_call_inside, IsAcceptedLemma, with_first_aside}
use Rattle.vf_examples.specs.SmallLemmas.{no_program}
use Rattle.vf_examples.specs.Nesting.{nested, one_less, is_nested, nested_body, nesting, not_negative, NestingIsAccepted}
use Rattle.vf_lemmas.specs.Openings.{ComesTo}
use Rattle.vf_lemmas.proofs.Asides.{neutral}
use Rattle.vf_lemmas.proofs.Openings.{opening_goes_lower}

some_same : {A : Type 0} {x y : A} → Some x ≡ Some y → x ≡ y
some_same e = cc

none_some : {A B : Type 0} {x : A} → None ≡ Some x → B
none_some e = cc

abbrev lemmas : List LemmaTree
lemmas = not_negative ∷ []

-- ---- the states on the way
abbrev names : Store
names = call_store (symbol 0 ∷ [])

abbrev pub zero_term : Term
zero_term = Compare Equal (symbol 0) (Number (pos 0))

abbrev pub less_term : Term
less_term = Arithmetic Subtract (symbol 0) (Number (pos 1))

abbrev begun : SymbolicState
begun = record { locals = []; names = names; chunks = []; path = OfSort (symbol 0) Integers ∷ OfSort (Variable CurrentThread) Integers ∷ [] }

abbrev at_zero : SymbolicState
at_zero = assuming begun (Holds zero_term)

abbrev above : SymbolicState
above = assuming begun (Holds (Not zero_term))

abbrev share : Term
share = Share all_of_it (Fraction whole)

abbrev nested_chunk : SymbolicChunk
nested_chunk = record { share = share; head = Of (Named nested); arguments = Some (symbol 0) ∷ [] }

abbrev put_back : SymbolicState
put_back = record { locals = []; names = names; chunks = nested_chunk ∷ []; path = OfSort (symbol 0) Integers ∷ OfSort (Variable CurrentThread) Integers ∷ Holds zero_term ∷ [] }

abbrev opened : SymbolicState
opened = record { locals = []; names = names; chunks = []; path = OfSort (symbol 0) Integers ∷ OfSort (Variable CurrentThread) Integers ∷ Holds zero_term ∷ Holds zero_term ∷ [] }

abbrev outside : Aside
outside = record { inside = false; assertion = is_nested (name 0) }

abbrev within : Aside
within = record { inside = true; assertion = is_nested one_less }

abbrev passed : List Term
passed = less_term ∷ []

abbrev after_call : SymbolicState
after_call = assuming above (Holds (Compare LessEqual (Number (pos 0)) less_term))

-- ---- names
no_names : (s : Store) (x : Name) → ⊥ → (t : Term) × (s x ≡ Some t)
no_names s x never = absurd never

first_bound : (ts : List Term) (t : Term) → (x : Name) → Numbered 0 ≡ x → (u : Term) × (call_store (t ∷ ts) x ≡ Some u)
first_bound ts t x is = (t, subst (λ z. call_store (t ∷ ts) z ≡ Some t) is refl)

first_or_none : (s : Store) (t : Term) → s (Numbered 0) ≡ Some t → (x : Name) → (Numbered 0 ≡ x) ⊎ ⊥ → (u : Term) × (s x ≡ Some u)
first_or_none s t there x (inl is) = (t, subst (λ z. s z ≡ Some t) is there)
first_or_none s t there x (inr never) = absurd never

none_or_first : (s : Store) (t : Term) → s (Numbered 0) ≡ Some t → (x : Name) → ⊥ ⊎ (Numbered 0 ≡ x) → (u : Term) × (s x ≡ Some u)
none_or_first s t there x (inl never) = absurd never
none_or_first s t there x (inr is) = (t, subst (λ z. s z ≡ Some t) is there)

-- ---- what paths entail
pub not_both : (b : Bool) → b ≡ true → not b ≡ true → ⊥
not_both true h k = cc
not_both false h k = cc

pub zero_least : (x : Value) → is_same x (values.Number (pos 0)) ≡ true → IsTrue (int_le (pos 0) (values.number_of x))
zero_least (values.Number z) h = grind (arith, ints)
zero_least (values.Truth b) h = refl
zero_least values.Null h = refl
zero_least (values.Pointer b o) h = refl
zero_least (values.Function g) h = refl
zero_least (values.Constructed c vs) h = refl
zero_least (values.Predicate q vs) h = refl
zero_least (values.Fraction d) h = refl

pub one_more : (z : ℤ) → IsTrue (int_le (pos 0) (computed Subtract z (pos 1))) → IsTrue (int_le (pos 0) z)
one_more z h = grind (arith, ints)

abbrev pub not_below : Fact
not_below = Holds (Compare LessEqual (Number (pos 0)) (symbol 0))

zero_not_below : Entails nesting opened.path not_below
zero_not_below = record { by = λ v m. zero_least (v (Numbered 0)) ((m.1).1).0 }

more_not_below : Entails nesting after_call.path not_below
more_not_below = record { by = λ v m. one_more (values.number_of (v (Numbered 0))) (((m.1).1).1).0 }

-- ---- the first part is opened
pub negated : (b : Bool) → not b ≡ true → b ≡ false
negated true h = cc
negated false h = refl

pub nothing_in : (x : Name) → Contains [] x → ⊥
nothing_in x h = omega (arith, h.1)

agree_on_rest : (v w : Valuation) → v (Numbered 0) ≡ w (Numbered 0) → (x : Name) → UsesIn (is_nested one_less) x → v x ≡ w x
agree_on_rest v w is x (inl none) = absurd (nothing_in x none)
agree_on_rest v w is x (inr (inl never)) = absurd never
agree_on_rest v w is x (inr (inr (inl (inl same)))) = subst (λ z. v z ≡ w z) same is
agree_on_rest v w is x (inr (inr (inl (inr never)))) = absurd never
agree_on_rest v w is x (inr (inr (inr never))) = absurd never

pub refused : (b : Bool) (A B : Type 0) → b ≡ false → MatchBool b A B → B
refused b A B h k = subst (λ z. MatchBool z A B) h k

integer_sorted : (w : Valuation) → HasSort nesting (w (Numbered 0)) Integers → AreOfSorts nesting w (Integers ∷ [])
integer_sorted w h zero s is = subst (HasSort nesting (w (Numbered 0))) (some_same is) h
integer_sorted w h (suc k) s is = none_some is

-- what is inside a body of a number that is not 0
body_comes_to : ComesTo nesting above.path names nested_body (name 0 ∷ []) (Integers ∷ []) [] (is_nested one_less ∷ []) Empty
body_comes_to = record { by = λ v m w means under of_sorts arguments n q h. inside v m w (sym (means (Numbered 0) (symbol 0) refl)) under (arguments 0 (name 0) refl) n q h }
  where
    inside : (v : Valuation) → Meets nesting v above.path → (w : Valuation) → w (Numbered 0) ≡ v (Numbered 0) → (under : Valuation) → under (Numbered 0) ≡ w (Numbered 0) → (n : ℕ) (q : Part) → SatisfiesAt nesting n whole nested_body.assertion under q
        → Inside nesting n (Integers ∷ []) [] (is_nested one_less ∷ []) Empty w q
    inside v m w is under same_value n q h =
        let not_zero = negated (is_same (v (Numbered 0)) (values.Number (pos 0))) ((m.1).1).0 in
        let here = refused (is_same (under (Numbered 0)) (values.Number (pos 0))) (q ≡ nothing) (SatisfiesAt nesting n whole (is_nested one_less) under q) (ap (λ z. is_same z (values.Number (pos 0))) (same_value ∙ is) ∙ not_zero) h in
        record {
          later = w;
          same = λ x c. refl;
          of_sorts = integer_sorted w (subst (λ z. HasSort nesting z Integers) (sym is) m.0);
          deep = q;
          left = nothing;
          sums = neutral q;
          inner_hold = (q, nothing, neutral q, names_agree nesting n whole (is_nested one_less) under w q (agree_on_rest under w same_value) here, refl);
          depth = 0;
          rest_holds = refl;
        }

opens_into : OpensInto nesting above.path names (is_nested (name 0)) (Integers ∷ []) [] (is_nested one_less ∷ []) Empty
opens_into = opening_goes_lower nesting above.path names nested nested_body (name 0 ∷ []) (Integers ∷ []) [] (is_nested one_less ∷ []) Empty refl refl body_comes_to

-- ---- the call
is_wanted : (v w u : Valuation) → w (Numbered 0) ≡ v (Numbered 0) → value_in nesting v less_term ≡ u (Numbered 0) → (n : ℕ) (q : Part) → SatisfiesAt nesting n whole (is_nested one_less) w q → SatisfiesAt nesting n whole (is_nested (name 0)) u q
is_wanted v w u is passed_is n q h = (
  h.0,
  record { is = (h.1).is; positive = (h.1).positive },
  subst (λ z. SatisfiesBody (MeansAt nesting n) (product whole h.0) (Plain nested) (Just z ∷ []) q) (ap (λ z. values.Number (computed Subtract (values.number_of z) (pos 1))) is ∙ passed_is) h.2,
)

passed_sorted : (path : List Fact) → AreNamesSorted nesting path (Integers ∷ []) (call_store passed)
passed_sorted path zero s t is at = subst (λ z. Entails nesting path (OfSort z s)) (some_same at) (subst (λ z. Entails nesting path (OfSort less_term z)) (some_same is) (record { by = λ v m. inl refl }))
passed_sorted path (suc k) s t is at = none_some is

is_first : IsFirst nesting above.path names (is_nested one_less) (is_nested (name 0)) (Integers ∷ []) passed (call_store passed)
is_first = record {
  grows = λ x t h. h;
  sorted = passed_sorted above.path;
  by = λ v m w means u passes n q h. is_wanted v w u (sym (means (Numbered 0) (symbol 0) refl)) (passes (Numbered 0) less_term refl) n q h;
}

fixed : AreFixed not_negative.contract (call_store passed)
fixed (Numbered zero) t is = inl (omega arith)
fixed (Numbered (suc k)) t is = none_some is
fixed Result t is = none_some is
fixed This t is = none_some is
fixed CurrentThread t is = tt

integers_inhabited : AreInhabited nesting (Integers ∷ [])
integers_inhabited zero s is = (values.Number (pos 0), subst (HasSort nesting (values.Number (pos 0))) (some_same is) (inl refl))
integers_inhabited (suc k) s is = none_some is

-- ---- the steps
ends : (st : SymbolicState) → st.chunks ≡ [] → st.names ≡ names → Entails nesting st.path not_below → Proves nesting no_program lemmas not_negative 0 [] st
ends st none_left named h =
    may_end {st = st} (subst (λ s. Consume nesting no_program (Integers ∷ []) all_of_it not_negative.contract.ensures_this s st (λ s1 st1. (st1.chunks ≡ []) × KeepsFixed not_negative.contract s s1)) (sym named)
    (none_or_first names (symbol 0) refl, h, (none_left, λ x t fix is. is)))

only : {asides : List Aside} (store : Store) (state : SymbolicState) → Proves nesting no_program lemmas not_negative 0 asides state → (s : Store) (su : SymbolicState) → IsAmong (record { store = store; state = state } ∷ []) s su → Proves nesting no_program lemmas not_negative 0 asides su
only {asides} store state h s su (inl found) = subst (Proves nesting no_program lemmas not_negative 0 asides) found.1 h
only {asides} store state h s su (inr never) = absurd never

only_named : {asides : List Aside} (store : Store) (state : SymbolicState) → Proves nesting no_program lemmas not_negative 0 asides (record state { names = store }) → (s : Store) (su : SymbolicState) → IsAmong (record { store = store; state = state } ∷ []) s su
    → Proves nesting no_program lemmas not_negative 0 asides (record su { names = s })
only_named {asides} store state h s su (inl found) = subst (λ z. Proves nesting no_program lemmas not_negative 0 asides (record z { names = s })) found.1 (subst (λ z. Proves nesting no_program lemmas not_negative 0 asides (record state { names = z })) found.0 h)
only_named {asides} store state h s su (inr never) = absurd never

opens : Opens nesting no_program put_back (record { store = store_of (symbol 0 ∷ []); state = opened } ∷ [])
opens = record {
  chunk = nested_chunk;
  others = [];
  share = share;
  taken = takes_all (record { by = λ v m. equal_met nesting v share share refl });
  head = Named nested;
  head_is = refl;
  name = Plain nested;
  of_head = HasBody.plain nested refl;
  body = nested_body;
  there = refl;
  arguments = symbol 0 ∷ [];
  arguments_are = refl;
  number = refl;
  produced = (first_or_none (store_of (symbol 0 ∷ [])) (symbol 0) refl, inr (inl (refl, refl)), inl (record { by = λ v m. not_both (is_same (v (Numbered 0)) (values.Number (pos 0))) ((m.1).1).0 (((m.1).1).1).0 }));
}

zero_way : Proves nesting no_program lemmas not_negative 0 (outside ∷ []) at_zero
zero_way =
    may_put_back {others = []} {st = at_zero} outside (record { store = names; state = put_back } ∷ []) takes_first (no_names names, (tt, (first_bound [] (symbol 0), inl (refl, refl))))
    (only_named names put_back (may_open {st = put_back} (record { store = store_of (symbol 0 ∷ []); state = opened } ∷ []) opens (only (store_of (symbol 0 ∷ [])) opened (ends opened refl refl zero_not_below))))

calls : Proves nesting no_program lemmas not_negative 0 (within ∷ []) above
calls =
    may_call_inside {others = []} {st = above} within passed (call_store passed) (record { store = call_store passed; state = after_call } ∷ []) takes_first refl refl integers_inhabited refl (record { by = λ v m. (m.1).0 }) is_first
    (fixed, (none_or_first (call_store passed) less_term refl, inr (inl (refl, refl)))) (only (call_store passed) after_call (ends after_call refl refl more_not_below))

above_way : Proves nesting no_program lemmas not_negative 0 (outside ∷ []) above
above_way =
    may_open_aside {others = []} {st = above} outside (Integers ∷ []) [] (is_nested one_less ∷ []) Empty (record { store = names; state = above } ∷ []) takes_first
    (record { unbound = λ x c. absurd (nothing_in x c); unfixed = λ x c f. nothing_in x c; unsorted = λ k s c h. nothing_in (Numbered k) c }) tt opens_into (inl (refl, refl)) (only_named names above calls)

not_negative_is_accepted : IsAcceptedLemma nesting no_program lemmas 0 not_negative
not_negative_is_accepted = with_first_aside [] (record { store = names; state = begun } ∷ []) refl (inl (refl, refl)) (only_named names begun (may_split {st = begun} zero_term zero_way above_way))

pub nesting_is_accepted : NestingIsAccepted
nesting_is_accepted zero lemma is = subst (IsAcceptedLemma nesting no_program lemmas 0) (some_same is) not_negative_is_accepted
nesting_is_accepted (suc k) lemma is = none_some is
