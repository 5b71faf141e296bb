-- The lemma that opens its precondition's first part in two halves is accepted.
use Rattle.std.proofs.Common.{◌≡◌, ℕ, zero, suc, ℤ, pos, Bool, true, false, not, List, [], ◌∷◌, ◌++◌, Some, None, refl, sym, ap, subst, subst₂, ◌∙◌, ◌⊎◌, inl, inr, arith}
use Rattle.std.specs.Prelude.{Contains}
use Rattle.vf_tree.specs.Core.{Subtract, LessEqual}
use Rattle.vf_model.specs.Values.{Dyadic, Value, number_of}
use Rattle.vf_model.specs.Values as values
use Rattle.vf_meaning.specs.Fractions.{whole, half, product, IsPositive}
use Rattle.vf_meaning.specs.Ghost.{Name, Integers, Fractions, Numbered, Result, This, CurrentThread, Number, Compare, Not, Fraction, Share, Variable}
use Rattle.vf_meaning.specs.Valuations.{Valuation, is_same, fraction_in}
use Rattle.vf_meaning.specs.GhostValues.{computed, shared}
use Rattle.vf_meaning.specs.Sorts.{HasSort, AreOfSorts}
use Rattle.vf_meaning.specs.Assertions.{Taken, Is, Named, Plain, Empty}
use Rattle.vf_meaning.specs.Parts.{Part, nothing}
use Rattle.vf_meaning.specs.Chunks.{product_if, Just}
use Rattle.vf_meaning.specs.Satisfaction.{IsShare, SatisfiesBody, MeansAt, SatisfiesAt}
use Rattle.vf_meaning.proofs.Fractions.{product_commutes, stays_positive}
use Rattle.vf_rules.specs.Terms.{Term, Store, stored}
use Rattle.vf_rules.specs.States.{Fact, Holds, OfSort, Of, SymbolicChunk, SymbolicState, Meets, Entails, value_in, KnowsThread}
use Rattle.vf_rules.specs.Fresh.{symbol, IsNew}
use Rattle.vf_rules.specs.Mutexes.{full, name}
use Rattle.vf_rules.specs.Take.{takes_all}
use Rattle.vf_rules.specs.Loops.{AreNamesSorted}
use Rattle.vf_rules.specs.Laws.{Grows}
use Rattle.vf_rules.specs.Predicates.{store_of, HasBody, AreInhabited, Opens}
use Rattle.vf_rules.specs.Lemmas.{LemmaTree}
use Rattle.vf_rules.specs.Accept.{all_of_it, call_store, AreFixed}
use Rattle.vf_lemmas.specs.Depths.{Aside, AreFreeOf, takes_first, Inside, OpensInto, IsFirst}
use Rattle.vf_lemmas.specs.Shares.{SplitsInto, ShareComesTo}
use Rattle.vf_lemmas.specs.Proves.{Proves, may_end, may_open, may_split, may_put_back, may_split_aside, may_open_aside, may_call_inside, IsAcceptedLemma, with_first_aside}
use Rattle.vf_lemmas.proofs.Asides.{neutral}
use Rattle.vf_lemmas.proofs.Shares.{chunks_are_shared, named_shares_are_halved, opening_share_goes_lower}
use Rattle.vf_examples.specs.SmallLemmas.{no_program}
use Rattle.vf_examples.specs.Nesting.{nested, one_less, is_nested, nested_body, nesting}
use Rattle.vf_examples.specs.Halving.{half_of_it, half_nested, shared_nested, twice, HalvingIsAccepted}
use Rattle.vf_examples.proofs.Nested.{zero_term, less_term, not_below, not_both, zero_least, one_more, negated, nothing_in, refused}
use Rattle.vf_examples.proofs.NewSymbols.{fresh_call, fresh_state, new_symbol}
use Rattle.vf_examples.proofs.SharingFacts.{some_same, none_some, among_one, same_self, by_place, nothing_bound, name_bound, call_fixed, fixed_stored}

abbrev lemmas : List LemmaTree
lemmas = twice ∷ []

-- ---- the states on the way
abbrev first_names : Store
first_names = call_store (symbol 0 ∷ [])

abbrev names : Store
names = stored first_names (Numbered 1) (symbol 1)

-- a state without chunks
abbrev at : List Fact → SymbolicState
at path = record { locals = []; names = names; chunks = []; path = path }

abbrev path : List Fact
path = OfSort (symbol 0) Integers ∷ OfSort (Variable CurrentThread) Integers ∷ OfSort (symbol 1) Fractions ∷ []

abbrev begun : SymbolicState
begun = record { locals = []; names = first_names; chunks = []; path = path }

abbrev share : Term
share = Share all_of_it (Share (Fraction (half whole)) (symbol 1))

abbrev chunk : SymbolicChunk
chunk = record { share = share; head = Of (Named nested); arguments = Some (symbol 0) ∷ [] }

abbrev with_chunk : List Fact → SymbolicState
with_chunk p = record { locals = []; names = names; chunks = chunk ∷ []; path = p }

abbrev outside : Aside
outside = record { inside = false; assertion = shared_nested }

abbrev one_half : Aside
one_half = record { inside = false; assertion = half_nested (name 0) }

abbrev within : Aside
within = record { inside = true; assertion = half_nested one_less }

-- ---- fractions
fraction_of_sort : (w : Value) → HasSort nesting w Fractions → (d : Dyadic) × (w ≡ values.Fraction d) × IsPositive d
fraction_of_sort (values.Fraction d) h = (d, refl, h.1)
fraction_of_sort (values.Number z) (inl h) = cc
fraction_of_sort (values.Number z) (inr h) = cc
fraction_of_sort (values.Truth b) (inl h) = cc
fraction_of_sort (values.Truth b) (inr h) = cc
fraction_of_sort values.Null (inl h) = cc
fraction_of_sort values.Null (inr h) = cc
fraction_of_sort (values.Pointer b o) (inl h) = cc
fraction_of_sort (values.Pointer b o) (inr h) = cc
fraction_of_sort (values.Function g) (inl h) = cc
fraction_of_sort (values.Function g) (inr h) = cc
fraction_of_sort (values.Constructed c vs) h = absurd h.0
fraction_of_sort (values.Predicate q vs) h = absurd h.2

-- half of a value that may be a fraction
half_in : (w : Value) → fraction_in (shared (values.Fraction (half whole)) w) ≡ product_if (Some (half whole)) (fraction_in w)
half_in (values.Fraction d) = refl
half_in (values.Number z) = refl
half_in (values.Truth b) = refl
half_in values.Null = refl
half_in (values.Pointer b o) = refl
half_in (values.Function g) = refl
half_in (values.Constructed c vs) = refl
half_in (values.Predicate q vs) = refl

positive_half : IsPositive (half whole)
positive_half = omega arith

abbrev half_share : Term
half_share = Share (Fraction (half whole)) (symbol 1)

half_sorted : (w : Value) → HasSort nesting w Fractions → HasSort nesting (shared (values.Fraction (half whole)) w) Fractions
half_sorted w h =
    let (d, is, positive) = fraction_of_sort w h in
    subst (λ z. HasSort nesting (shared (values.Fraction (half whole)) z) Fractions) (sym is) (inl refl, (stays_positive.1) (half whole) d positive_half positive)

-- ---- the first part is split into halves
in_halves : SplitsInto nesting path names shared_nested (half_nested (name 0)) (half_nested (name 0))
in_halves = chunks_are_shared nesting path names (Taken (Numbered 1)) half_of_it half_of_it (Named nested) (Is (name 0) ∷ []) (named_shares_are_halved (Numbered 1))

-- ---- a half is opened
of_sorts : (w : Valuation) → HasSort nesting (w (Numbered 0)) Integers → HasSort nesting (w (Numbered 1)) Fractions → AreOfSorts nesting w (Integers ∷ Fractions ∷ [])
of_sorts w h k zero s is = subst (HasSort nesting (w (Numbered 0))) (some_same is) h
of_sorts w h k (suc zero) s is = subst (HasSort nesting (w (Numbered 1))) (some_same is) k
of_sorts w h k (suc (suc i)) s is = none_some is

-- the state is one of a number that is not 0
record IsAbove (p : List Fact) : Type 0 where
  number : Entails nesting p (OfSort (symbol 0) Integers)
  thread : KnowsThread nesting p
  fraction : Entails nesting p (OfSort (symbol 1) Fractions)
  other : Entails nesting p (Holds (Not zero_term))

scaled_nested : (w under : Valuation) (c : Dyadic) (n : ℕ) (q : Part) → under (Numbered 0) ≡ w (Numbered 0) → IsShare w half_of_it c → SatisfiesAt nesting n c (is_nested one_less) under q → SatisfiesAt nesting n whole (half_nested one_less) w q
scaled_nested w under c n q same is h = (
  c,
  is,
  subst₂ (λ y z. SatisfiesBody (MeansAt nesting n) y (Plain nested) (Just z ∷ []) q) (ap (product c) (sym (some_same (h.1).is)) ∙ product_commutes c whole) (ap (λ z. values.Number (computed Subtract (number_of z) (pos 1))) same) h.2,
)

comes_to : (p : List Fact) → IsAbove p → ShareComesTo nesting p names half_of_it nested_body (name 0 ∷ []) (Integers ∷ Fractions ∷ []) [] (half_nested one_less ∷ []) Empty
comes_to p above = record { by = λ v m w means under sorted arguments c is n q h. inside v m w (sym (means (Numbered 0) (symbol 0) refl)) (sym (means (Numbered 1) (symbol 1) refl)) under (arguments 0 (name 0) refl) c is n q h }
  where
    inside : (v : Valuation) → Meets nesting v p → (w : Valuation) → w (Numbered 0) ≡ v (Numbered 0) → w (Numbered 1) ≡ v (Numbered 1) → (under : Valuation) → under (Numbered 0) ≡ w (Numbered 0) → (c : Dyadic) → IsShare w half_of_it c → (n : ℕ) (q : Part)
        → SatisfiesAt nesting n c nested_body.assertion under q → Inside nesting n (Integers ∷ Fractions ∷ []) [] (half_nested one_less ∷ []) Empty w q
    inside v m w is also under same_value c share_is n q h =
        let not_zero = negated (is_same (v (Numbered 0)) (values.Number (pos 0))) (above.other.by v m) in
        let here = refused (is_same (under (Numbered 0)) (values.Number (pos 0))) (q ≡ nothing) (SatisfiesAt nesting n c (is_nested one_less) under q) (ap (λ z. is_same z (values.Number (pos 0))) (same_value ∙ is) ∙ not_zero) h in
        record {
          later = w;
          same = λ x c. refl;
          of_sorts = of_sorts w (subst (λ z. HasSort nesting z Integers) (sym is) (above.number.by v m)) (subst (λ z. HasSort nesting z Fractions) (sym also) (above.fraction.by v m));
          deep = q;
          left = nothing;
          sums = neutral q;
          inner_hold = (q, nothing, neutral q, scaled_nested w under c n q same_value share_is here, refl);
          depth = 0;
          rest_holds = refl;
        }

opens_into : (p : List Fact) → IsAbove p → OpensInto nesting p names (half_nested (name 0)) (Integers ∷ Fractions ∷ []) [] (half_nested one_less ∷ []) Empty
opens_into p above = opening_share_goes_lower nesting p names half_of_it nested nested_body (name 0 ∷ []) (Integers ∷ Fractions ∷ []) [] (half_nested one_less ∷ []) Empty refl refl (comes_to p above)

-- ---- the call
abbrev passed : List Term
passed = less_term ∷ []

abbrev call_names : Store
call_names = stored (call_store passed) (Numbered 1) half_share

is_wanted : (v w u : Valuation) → w (Numbered 0) ≡ v (Numbered 0) → w (Numbered 1) ≡ v (Numbered 1) → value_in nesting v less_term ≡ u (Numbered 0) → value_in nesting v half_share ≡ u (Numbered 1) → (n : ℕ) (q : Part)
    → SatisfiesAt nesting n whole (half_nested one_less) w q → SatisfiesAt nesting n whole shared_nested u q
is_wanted v w u is also passed_is share_is n q h = (
  h.0,
  record { is = ap fraction_in (sym share_is) ∙ half_in (v (Numbered 1)) ∙ ap (λ z. product_if (Some (half whole)) (fraction_in z)) (sym also) ∙ (h.1).is; positive = (h.1).positive },
  subst (λ z. SatisfiesBody (MeansAt nesting n) (product whole h.0) (Plain nested) (Just z ∷ []) q) (ap (λ z. values.Number (computed Subtract (number_of z) (pos 1))) is ∙ passed_is) h.2,
)

grows : Grows (call_store passed) call_names
grows (Numbered zero) t h = h
grows (Numbered (suc zero)) t h = none_some h
grows (Numbered (suc (suc k))) t h = none_some h
grows Result t h = none_some h
grows This t h = none_some h
grows CurrentThread t h = h

passed_sorted : (p : List Fact) → IsAbove p → AreNamesSorted nesting p (Integers ∷ Fractions ∷ []) call_names
passed_sorted p above zero s t is there = subst (λ z. Entails nesting p (OfSort z s)) (some_same there) (subst (λ z. Entails nesting p (OfSort less_term z)) (some_same is) (record { by = λ v m. inl refl }))
passed_sorted p above (suc zero) s t is there =
    subst (λ z. Entails nesting p (OfSort z s)) (some_same there) (subst (λ z. Entails nesting p (OfSort half_share z)) (some_same is) (record { by = λ v m. half_sorted (v (Numbered 1)) (above.fraction.by v m) }))
passed_sorted p above (suc (suc k)) s t is there = none_some is

is_first : (p : List Fact) → IsAbove p → IsFirst nesting p names (half_nested one_less) shared_nested (Integers ∷ Fractions ∷ []) passed call_names
is_first p above = record {
  grows = grows;
  sorted = passed_sorted p above;
  by = λ v m w means u passes n q h. is_wanted v w u (sym (means (Numbered 0) (symbol 0) refl)) (sym (means (Numbered 1) (symbol 1) refl)) (passes (Numbered 0) less_term refl) (passes (Numbered 1) half_share refl) n q h;
}

fixed : AreFixed twice.contract call_names
fixed = fixed_stored twice.contract (call_store passed) (Numbered 1) half_share (call_fixed twice.contract passed refl) (inr (inl refl))

inhabited : AreInhabited nesting (Integers ∷ Fractions ∷ [])
inhabited zero s is = (values.Number (pos 0), subst (HasSort nesting (values.Number (pos 0))) (some_same is) (inl refl))
inhabited (suc zero) s is = (values.Fraction (half whole), subst (HasSort nesting (values.Fraction (half whole))) (some_same is) (inl refl, positive_half))
inhabited (suc (suc k)) s is = none_some is

-- ---- the steps
number_bound : (s : Store) → s (Numbered 0) ≡ Some (symbol 0) → (x : Name) → ⊥ ⊎ (Numbered 0 ≡ x) → (u : Term) × (s x ≡ Some u)
number_bound s there x (inl never) = absurd never
number_bound s there x (inr is) = name_bound s (Numbered 0) (symbol 0) there x is

less_bound : (x : Name) → ⊥ ⊎ (Numbered 0 ≡ x) → (u : Term) × (call_names x ≡ Some u)
less_bound x (inl never) = absurd never
less_bound x (inr is) = name_bound call_names (Numbered 0) less_term refl x is

first_or_none : (s : Store) → s (Numbered 0) ≡ Some (symbol 0) → (x : Name) → (Numbered 0 ≡ x) ⊎ ⊥ → (u : Term) × (s x ≡ Some u)
first_or_none s there x (inl is) = name_bound s (Numbered 0) (symbol 0) there x is
first_or_none s there x (inr never) = absurd never

ends : (p : List Fact) → Entails nesting p not_below → Proves nesting no_program lemmas twice 0 [] (at p)
ends p h = may_end {st = at p} (number_bound names refl, h, (refl, λ x t fix is. is))

abbrev passed_fact : Fact
passed_fact = Holds (Compare LessEqual (Number (pos 0)) less_term)

-- a half is opened, and what is inside goes to a call
above_step : (others : List Aside) → AreFreeOf [] others → (p : List Fact) → IsAbove p → Proves nesting no_program lemmas twice 0 others (at (p ++ passed_fact ∷ [])) → Proves nesting no_program lemmas twice 0 (one_half ∷ others) (at p)
above_step others free p above go =
    may_open_aside {others = others} {st = at p} one_half (Integers ∷ Fractions ∷ []) [] (half_nested one_less ∷ []) Empty (record { store = names; state = at p } ∷ []) takes_first
    (record { unbound = λ x c. absurd (nothing_in x c); unfixed = λ x c f. nothing_in x c; unsorted = λ k s c h. nothing_in (Numbered k) c }) free (opens_into p above) (inl (refl, refl))
    (among_one (λ s su. Proves nesting no_program lemmas twice 0 (within ∷ others) (record su { names = s })) names (at p) (
    may_call_inside {others = others} {st = at p} within passed call_names (record { store = call_names; state = at (p ++ passed_fact ∷ []) } ∷ []) takes_first refl refl inhabited refl above.thread (is_first p above)
    (fixed, (less_bound, inr (inl (refl, refl))))
    (among_one (λ s su. Proves nesting no_program lemmas twice 0 others su) call_names (at (p ++ passed_fact ∷ [])) go)))

abbrev above_path : List Fact
above_path = OfSort (symbol 0) Integers ∷ OfSort (Variable CurrentThread) Integers ∷ OfSort (symbol 1) Fractions ∷ Holds (Not zero_term) ∷ []

abbrev called_path : List Fact
called_path = OfSort (symbol 0) Integers ∷ OfSort (Variable CurrentThread) Integers ∷ OfSort (symbol 1) Fractions ∷ Holds (Not zero_term) ∷ passed_fact ∷ []

abbrev twice_path : List Fact
twice_path = OfSort (symbol 0) Integers ∷ OfSort (Variable CurrentThread) Integers ∷ OfSort (symbol 1) Fractions ∷ Holds (Not zero_term) ∷ passed_fact ∷ passed_fact ∷ []

is_above : IsAbove above_path
is_above = record { number = by_place nesting above_path 0 (OfSort (symbol 0) Integers) refl; thread = by_place nesting above_path 1 (OfSort (Variable CurrentThread) Integers) refl; fraction = by_place nesting above_path 2 (OfSort (symbol 1) Fractions) refl; other = by_place nesting above_path 3 (Holds (Not zero_term)) refl }

still_above : IsAbove called_path
still_above = record { number = by_place nesting called_path 0 (OfSort (symbol 0) Integers) refl; thread = by_place nesting called_path 1 (OfSort (Variable CurrentThread) Integers) refl; fraction = by_place nesting called_path 2 (OfSort (symbol 1) Fractions) refl; other = by_place nesting called_path 3 (Holds (Not zero_term)) refl }

more_not_below : Entails nesting twice_path not_below
more_not_below = record { by = λ v m. one_more (number_of (v (Numbered 0))) ((by_place nesting twice_path 4 passed_fact refl).by v m) }

above_way : Proves nesting no_program lemmas twice 0 (one_half ∷ one_half ∷ []) (at above_path)
above_way = above_step (one_half ∷ []) ((λ x used c. nothing_in x c), tt) above_path is_above (above_step [] tt called_path still_above (ends twice_path more_not_below))

-- where the number is 0 both halves are put back and opened
abbrev zero_fact : Fact
zero_fact = Holds zero_term

abbrev zero_path : List Fact
zero_path = OfSort (symbol 0) Integers ∷ OfSort (Variable CurrentThread) Integers ∷ OfSort (symbol 1) Fractions ∷ zero_fact ∷ []

abbrev opened_path : List Fact
opened_path = OfSort (symbol 0) Integers ∷ OfSort (Variable CurrentThread) Integers ∷ OfSort (symbol 1) Fractions ∷ zero_fact ∷ zero_fact ∷ []

abbrev both_path : List Fact
both_path = OfSort (symbol 0) Integers ∷ OfSort (Variable CurrentThread) Integers ∷ OfSort (symbol 1) Fractions ∷ zero_fact ∷ zero_fact ∷ zero_fact ∷ []

abbrev body_names : Store
body_names = store_of (symbol 0 ∷ [])

opens : (p new : List Fact) → p ++ zero_fact ∷ [] ≡ new → ((v : Valuation) → Meets nesting v (p ++ Holds (Not zero_term) ∷ []) → ⊥) → Opens nesting no_program (with_chunk p) (record { store = body_names; state = at new } ∷ [])
opens p new is never = record {
  chunk = chunk;
  others = [];
  share = share;
  taken = takes_all (same_self nesting p share);
  head = Named nested;
  head_is = refl;
  name = Plain nested;
  of_head = HasBody.plain nested refl;
  body = nested_body;
  there = refl;
  arguments = symbol 0 ∷ [];
  arguments_are = refl;
  number = refl;
  produced = (first_or_none body_names refl, inr (inl (refl, ap at (sym is))), inl (record { by = never }));
}

zero_step : (others : List Aside) (p new : List Fact) → p ++ [] ≡ p → p ++ zero_fact ∷ [] ≡ new → ((v : Valuation) → Meets nesting v (p ++ Holds (Not zero_term) ∷ []) → ⊥) → Proves nesting no_program lemmas twice 0 others (at new) → Proves nesting no_program lemmas twice 0 (one_half ∷ others) (at p)
zero_step others p new none is never go =
    may_put_back {others = others} {st = at p} one_half (record { store = names; state = with_chunk p } ∷ []) takes_first
    (nothing_bound names, (((symbol 1, refl), tt), (name_bound names (Numbered 0) (symbol 0) refl, inl (refl, ap with_chunk (sym none)))))
    (among_one (λ s su. Proves nesting no_program lemmas twice 0 others (record su { names = s })) names (with_chunk p)
    (may_open {st = with_chunk p} (record { store = body_names; state = at new } ∷ []) (opens p new is never) (among_one (λ s su. Proves nesting no_program lemmas twice 0 others su) body_names (at new) go)))

not_zero_path : (v : Valuation) → Meets nesting v (zero_path ++ Holds (Not zero_term) ∷ []) → ⊥
not_zero_path v m = not_both (is_same (v (Numbered 0)) (values.Number (pos 0))) (((m.1).1).1).0 ((((m.1).1).1).1).0

not_opened_path : (v : Valuation) → Meets nesting v (opened_path ++ Holds (Not zero_term) ∷ []) → ⊥
not_opened_path v m = not_both (is_same (v (Numbered 0)) (values.Number (pos 0))) (((m.1).1).1).0 (((((m.1).1).1).1).1).0

zero_not_below : Entails nesting both_path not_below
zero_not_below = record { by = λ v m. zero_least (v (Numbered 0)) (((m.1).1).1).0 }

zero_way : Proves nesting no_program lemmas twice 0 (one_half ∷ one_half ∷ []) (at zero_path)
zero_way = zero_step (one_half ∷ []) zero_path opened_path refl refl not_zero_path (zero_step [] opened_path both_path refl refl not_opened_path (ends both_path zero_not_below))

body : Proves nesting no_program lemmas twice 0 (outside ∷ []) (at path)
body = may_split_aside {others = []} {st = at path} outside (half_nested (name 0)) (half_nested (name 0)) takes_first in_halves (may_split {st = at path} zero_term zero_way above_way)

abbrev first_path : SymbolicState
first_path = record { locals = []; names = first_names; chunks = []; path = OfSort (symbol 0) Integers ∷ OfSort (Variable CurrentThread) Integers ∷ [] }

new_share : IsNew 1 all_of_it first_names [] first_path
new_share = new_symbol 1 all_of_it first_names [] first_path (fresh_state 1 first_path (fresh_call 1 (symbol 0 ∷ []) refl) refl refl refl) (fresh_call 1 (symbol 0 ∷ []) refl) refl refl

twice_is_accepted : IsAcceptedLemma nesting no_program lemmas 0 twice
twice_is_accepted = with_first_aside (Numbered 1 ∷ []) (record { store = names; state = begun } ∷ []) refl (1, new_share, refl, inl (refl, refl)) (among_one (λ s su. Proves nesting no_program lemmas twice 0 (outside ∷ []) (record su { names = s })) names begun body)

pub halving_is_accepted : HalvingIsAccepted
halving_is_accepted zero lemma is = subst (IsAcceptedLemma nesting no_program lemmas 0) (some_same is) twice_is_accepted
halving_is_accepted (suc k) lemma is = none_some is
