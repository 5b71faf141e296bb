-- The lemma that opens a predicate and closes it again is accepted.
use Rattle.std.proofs.Common.{◌≡◌, zero, suc, List, [], ◌∷◌, Some, None, refl, subst, ◌⊎◌, inl, inr, arith}
use Rattle.vf_tree.specs.Core.{NotEqual}
use Rattle.vf_model.specs.Values as values
use Rattle.vf_meaning.specs.Fractions.{whole}
use Rattle.vf_meaning.specs.Ghost.{Name, Integers, Pointers, Anything, Numbered, CurrentThread, Variable, Null, Compare, Fraction, Share}
use Rattle.vf_meaning.specs.Assertions.{Named, Plain}
use Rattle.vf_rules.specs.Terms.{Term, Store}
use Rattle.vf_rules.specs.States.{Fact, Holds, OfSort, CellOf, Of, SymbolicChunk, SymbolicState, Entails}
use Rattle.vf_rules.specs.Fresh.{symbol}
use Rattle.vf_rules.specs.Take.{same, takes_all, no_change}
use Rattle.vf_rules.specs.Laws.{Outcome, IsAmong}
use Rattle.vf_rules.specs.Predicates.{store_of, HasBody, AreInhabited, AreSorted, Opens, Closes}
use Rattle.vf_rules.specs.Accept.{all_of_it, call_store, parameter_symbols}
use Rattle.vf_rules.proofs.Takes.{equal_met}
use Rattle.vf_rules.specs.Lemmas.{LemmaTree}
use Rattle.vf_lemmas.specs.Proves.{Proves, may_end, may_open, may_close, IsAcceptedLemma, with_all}
use Rattle.vf_examples.specs.SmallLemmas.{content, boxed, boxed_body, lemma_environment, no_program, reopen, visit, walk}

some_same : {A : Type 0} {x y : A} → Some x ≡ Some y → x ≡ y
some_same e = cc

none_some : {A B : Type 0} {x : A} → None ≡ Some x → B
none_some e = cc

-- ---- what paths entail
equal_self : (path : List Fact) (t : Term) → Entails lemma_environment path (same t t)
equal_self path t = record { by = λ v m. equal_met lemma_environment v t t refl }

abbrev lemmas : List LemmaTree
lemmas = reopen ∷ visit ∷ walk ∷ []

-- ---- the states on the way
abbrev names : Store
names = call_store (parameter_symbols 1)

abbrev share : Term
share = Share all_of_it (Fraction whole)

abbrev box_chunk : SymbolicChunk
box_chunk = record { share = share; head = Of (Named boxed); arguments = Some (symbol 0) ∷ [] }

abbrev content_chunk : SymbolicChunk
content_chunk = record { share = Share share (Fraction whole); head = CellOf content; arguments = Some (symbol 0) ∷ None ∷ [] }

abbrev begun : SymbolicState
begun = record { locals = []; names = names; chunks = box_chunk ∷ []; path = OfSort (symbol 0) Pointers ∷ OfSort (Variable CurrentThread) Integers ∷ [] }

abbrev opened : SymbolicState
opened = record { locals = []; names = names; chunks = content_chunk ∷ []; path = OfSort (symbol 0) Pointers ∷ OfSort (Variable CurrentThread) Integers ∷ Holds (Compare NotEqual (symbol 0) Null) ∷ [] }

abbrev closed_again : SymbolicState
closed_again = record { locals = []; names = names; chunks = box_chunk ∷ []; path = OfSort (symbol 0) Pointers ∷ OfSort (Variable CurrentThread) Integers ∷ Holds (Compare NotEqual (symbol 0) Null) ∷ [] }

abbrev arguments : List Term
arguments = symbol 0 ∷ []

abbrev after_opening : List Outcome
after_opening = record { store = store_of arguments; state = opened } ∷ []

abbrev after_closing : List Outcome
after_closing = record { store = store_of arguments; state = closed_again } ∷ []

-- what is among one outcome is that outcome
only : (P : SymbolicState → Type 0) (store : Store) (state : SymbolicState) → P state → (s : Store) (su : SymbolicState) → IsAmong (record { store = store; state = state } ∷ []) s su → P su
only P store state h s su (inl found) = subst P found.1 h
only P store state h s su (inr never) = absurd never

-- the first name is bound
bound_in_row : (x : Name) → Numbered 0 ≡ x → (t : Term) × (store_of arguments x ≡ Some t)
bound_in_row x is = (symbol 0, subst (λ z. store_of arguments z ≡ Some (symbol 0)) is refl)

bound_in_names : (x : Name) → Numbered 0 ≡ x → (t : Term) × (names x ≡ Some t)
bound_in_names x is = (symbol 0, subst (λ z. names z ≡ Some (symbol 0)) is refl)

no_names : (s : Store) (x : Name) → ⊥ → (t : Term) × (s x ≡ Some t)
no_names s x never = absurd never

-- ---- the steps
opens : Opens lemma_environment no_program begun after_opening
opens = record {
  chunk = box_chunk;
  others = [];
  share = share;
  taken = takes_all (equal_self _ share);
  head = Named boxed;
  head_is = refl;
  name = Plain boxed;
  of_head = HasBody.plain boxed refl;
  body = boxed_body;
  there = refl;
  arguments = arguments;
  arguments_are = refl;
  number = refl;
  produced = (bound_in_row, (tt, inl (refl, refl)));
}

pointer_sorted : (path : List Fact) → Entails lemma_environment path (OfSort (symbol 0) Pointers) → AreSorted lemma_environment path (Pointers ∷ []) arguments
pointer_sorted path h zero s t is at = subst (λ z. Entails lemma_environment path (OfSort z s)) (some_same at) (subst (λ z. Entails lemma_environment path (OfSort (symbol 0) z)) (some_same is) h)
pointer_sorted path h (suc k) s t is at = none_some is

pointers_inhabited : AreInhabited lemma_environment (Pointers ∷ [])
pointers_inhabited zero s is = (values.Null, subst (λ z. (z ≡ Pointers) ⊎ (z ≡ Anything)) (some_same is) (inl refl))
pointers_inhabited (suc k) s is = none_some is

closes : Closes lemma_environment no_program opened after_closing
closes = record {
  share = share;
  fraction = record { by = λ v m. (whole, refl, omega arith) };
  name = Plain boxed;
  openable = refl;
  body = boxed_body;
  there = refl;
  arguments = arguments;
  number = refl;
  of_sorts = pointer_sorted _ (record { by = λ v m. m.0 });
  inhabited = pointers_inhabited;
  consumed = (bound_in_row, (opened, no_change, (tt, (content_chunk, [], takes_all (equal_self _ (Share share (Fraction whole))), (refl, (symbol 0, None, refl, equal_self _ (symbol 0), inl (refl, refl)))))));
}

ends : Proves lemma_environment no_program lemmas reopen 0 [] closed_again
ends = may_end {st = closed_again} (no_names names, (closed_again, no_change, (tt, (box_chunk, [], takes_all (equal_self _ share), (refl, (bound_in_names, equal_self _ (symbol 0), (refl, λ x t fixed is. is)))))))

body : Proves lemma_environment no_program lemmas reopen 0 [] begun
body =
    may_open after_opening opens (only (Proves lemma_environment no_program lemmas reopen 0 []) (store_of arguments) opened
    (may_close after_closing closes (only (Proves lemma_environment no_program lemmas reopen 0 []) (store_of arguments) closed_again ends)))

outcome : (s : Store) (st : SymbolicState) → IsAmong (record { store = names; state = begun } ∷ []) s st → Proves lemma_environment no_program lemmas reopen 0 [] (record st { names = s })
outcome s st (inl found) = subst (λ z. Proves lemma_environment no_program lemmas reopen 0 [] (record z { names = s })) found.1 (subst (λ z. Proves lemma_environment no_program lemmas reopen 0 [] (record begun { names = z })) found.0 body)
outcome s st (inr never) = absurd never

pub reopen_is_accepted : IsAcceptedLemma lemma_environment no_program lemmas 0 reopen
reopen_is_accepted = with_all (record { store = names; state = begun } ∷ []) (no_names names, (tt, (bound_in_names, inl (refl, refl)))) outcome
