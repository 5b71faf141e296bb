-- A program that leaks its struct is accepted, and without the leak it is not.
use Rattle.std.specs.Prelude.{IsTrue, false}
use Rattle.std.specs.FinMap as finite
use Rattle.std.specs.Ordering.{nat_cmp}
use Rattle.std.proofs.Common.{◌≡◌, ◌≢◌, ℕ, zero, suc, ◌<◌, pos, Bool, true, not, List, [], ◌∷◌, slice_get, Some, None, refl, sym, ap, subst, ◌∙◌, ◌⊎◌, inl, inr, arith}
use Rattle.std.proofs.lemmas.Bool.{false≢true, cases_eq}
use Rattle.vf_base.specs.declared.int_type.IntType.TheVariants as types
use Rattle.vf_tree.specs.Core.{Void, Integer, Equal, NotEqual, FunctionTree}
use Rattle.vf_tree.specs.Core as core
use Rattle.vf_model.specs.declared.words.Event.{Event}
use Rattle.vf_model.specs.Values.{Value}
use Rattle.vf_model.specs.Values as values
use Rattle.vf_model.specs.Memory.{Memory, Block, Struct, Mutex, Handle, block_at, granted_block}
use Rattle.vf_model.specs.Accesses.{new_struct}
use Rattle.vf_meaning.specs.Ghost.{Pointers, Name, Numbered, Result, This, CurrentThread, Null, Number, Truth, Compare}
use Rattle.vf_meaning.specs.Valuations.{Valuation, is_same}
use Rattle.vf_meaning.specs.Names.{Uses}
use Rattle.vf_meaning.specs.Parts.{nothing}
use Rattle.vf_meaning.specs.Environments.{own_contract, by_command}
use Rattle.vf_meaning.proofs.Linking.{never_leaks}
use Rattle.vf_meaning.specs.Kept.{before, Ensures}
use Rattle.vf_meaning.proofs.FitSteps.{block_here, block_elsewhere}
use Rattle.vf_rules.specs.Terms.{Term, stored}
use Rattle.vf_rules.specs.Terms as terms
use Rattle.vf_rules.specs.States.{Fact, Holds, OfSort, SymbolicState, value_in, Entails, assuming, assuming_all, with_chunks}
use Rattle.vf_rules.specs.Fresh.{symbol, IsFresh, IsFreshIn}
use Rattle.vf_rules.specs.Types.{facts_of_type}
use Rattle.vf_rules.specs.Take.{same, takes_all, no_change}
use Rattle.vf_rules.specs.Consume.{EntailsAll}
use Rattle.vf_rules.specs.Laws.{IsAmong}
use Rattle.vf_rules.specs.Loops.{Loop, AreNamesSorted}
use Rattle.vf_rules.specs.Predicates.{store_of}
use Rattle.vf_rules.specs.Accept.{all_of_it, cell_chunk, block_chunk, call_store, with_local, beginning, HasContract, KeepsFixed, Accepts, do_if, do_allocate, do_return, may_drop, may_leak, IsAcceptedFunction}
use Rattle.vf_rules.proofs.Terms.{stored_own}
use Rattle.vf_rules.proofs.Takes.{equal_met}
use Rattle.vf_rules.specs.GhostSteps.{no_step}
use Rattle.vf_safety.specs.Laws.{AreAccepted, IsAcceptedProgram}
use Rattle.vf_examples.specs.BoxProgram.{somewhere, box_name, content, box_contract, box_environment}
use Rattle.vf_examples.specs.Leaving.{leaving_main, leaving_program, what_is_left, leaving_environment, LeavingIsAccepted}
use Rattle.vf_safety.specs.LeakLaws.{MainReturns, OthersHaveEnded, OwnsNothingAtLast, HasNoneShared}
use Rattle.vf_safety.proofs.LeakLaws.{no_block_is_left}
use Rattle.vf_examples.proofs.Defined.{only_defined}

some_same : {A : Type 0} {x y : A} → Some x ≡ Some y → x ≡ y
some_same e = cc

none_some : {A B : Type 0} {x : A} → None ≡ Some x → B
none_some e = cc

-- ---- what paths entail
equal_self : (path : List Fact) (t : Term) → Entails leaving_environment path (same t t)
equal_self path t = record { by = λ v m. equal_met leaving_environment v t t refl }

share_is_all : (path : List Fact) (t : Term) → ((v : Valuation) → value_in leaving_environment v t ≡ value_in leaving_environment v all_of_it) → Entails leaving_environment path (same t all_of_it)
share_is_all path t h = record { by = λ v m. equal_met leaving_environment v t all_of_it (h v) }

seven_is_a_number : (path : List Fact) → EntailsAll leaving_environment path (facts_of_type (Integer types.Int) (Number (pos 7)))
seven_is_a_number path = (record { by = λ v m. inl refl }, (record { by = λ v m. refl }, (record { by = λ v m. refl }, tt)))

not_both : (b : Bool) → b ≡ true → not b ≡ true → ⊥
not_both b h k = false≢true (sym (ap not h) ∙ k)

-- ---- the states on the way
begun : SymbolicState
begun = assuming (beginning leaving_main box_contract) (Holds (Truth true))

with_null : SymbolicState
with_null = with_local begun 0 Null

granted : SymbolicState
granted = with_local (assuming_all (with_chunks begun (cell_chunk content (symbol 0) None ∷ block_chunk box_name (symbol 0) ∷ [])) (OfSort (symbol 0) Pointers ∷ Holds (Compare NotEqual (symbol 0) Null) ∷ [])) 0 (symbol 0)

fresh_in_names : IsFreshIn 0 (call_store [])
fresh_in_names (Numbered k) t is used = none_some is
fresh_in_names Result t is used = none_some is
fresh_in_names This t is used = none_some is
fresh_in_names CurrentThread t is used = other (subst (λ z. Uses z (Numbered 0)) (sym (some_same is)) used)
  where
    other : CurrentThread ≡ Numbered 0 → ⊥
    other h = cc

fresh : IsFresh 0 begun
unfolding begun
fresh = record { locals = λ u. u; names = fresh_in_names; chunks = λ u. u; path = λ u. no_use u }
  where
    no_use : (CurrentThread ≡ Numbered 0) ⊎ (⊥ ⊎ ⊥) → ⊥
    no_use (inl u) = cc
    no_use (inr (inl u)) = u
    no_use (inr (inr u)) = u

-- ---- returns
keeps : (t : Term) → KeepsFixed box_contract (call_store []) (stored (call_store []) Result t)
keeps t (Numbered k) u fixed is = is
keeps t Result u fixed is = absurd fixed
keeps t This u fixed is = is
keeps t CurrentThread u fixed is = is

integer_is_no_void : Integer types.Int ≢ Void
integer_is_no_void h = cc

result_bound : (s : terms.Store) (t : Term) (x : Name) → (Result ≡ x) ⊎ ⊥ → (u : Term) × (stored s Result t x ≡ Some u)
result_bound s t x (inl is) = (t, subst (λ z. stored s Result t z ≡ Some t) is (stored_own s Result t))
result_bound s t x (inr never) = absurd never

returns_seven : {now soon : List Loop} (n : ℕ) (st : SymbolicState) → slice_get leaving_main.steps n ≡ Some (core.Return (Some (core.Number (pos 7)))) → st.names ≡ call_store [] → st.chunks ≡ []
    → Accepts leaving_environment leaving_program leaving_main box_contract now soon n st
returns_seven {now = now} {soon = soon} n st is names chunks =
    do_return {now = now} {soon = soon} {n = n} {st = st} (core.Number (pos 7)) (Number (pos 7)) is refl (seven_is_a_number st.path) integer_is_no_void
    (result_bound st.names (Number (pos 7)), equal_self st.path (Number (pos 7)), (chunks, subst (λ s. KeepsFixed box_contract s (stored s Result (Number (pos 7)))) (sym names) (keeps (Number (pos 7)))))

-- ---- the steps
null_way : Accepts leaving_environment leaving_program leaving_main box_contract [] [] 1 with_null
unfolding with_null begun
null_way =
    do_if Equal (core.Read 0 somewhere) core.Null 3 2 Null Null refl refl refl (inr (inr (record { by = λ v m. inl refl }))) (inr (inr (record { by = λ v m. inl refl })))
    (returns_seven 3 _ refl refl refl)
    (may_drop (record { by = λ v m. not_both true refl ((m.1).1).0 }))

first_bound : (s : terms.Store) (t : Term) → s (Numbered 0) ≡ Some t → (y : Name) → Numbered 0 ≡ y → (u : Term) × (s y ≡ Some u)
first_bound s t is y same_name = (t, subst (λ z. s z ≡ Some t) same_name is)

no_names : (s : terms.Store) (y : Name) → ⊥ → (u : Term) × (s y ≡ Some u)
no_names s y h = absurd h

-- behind the leak nothing is left
module _ (st : SymbolicState) (pointer : Entails leaving_environment st.path (OfSort (symbol 0) Pointers)) (chunks : st.chunks ≡ cell_chunk content (symbol 0) None ∷ block_chunk box_name (symbol 0) ∷ []) (names : st.names ≡ call_store []) where
  names_sorted : AreNamesSorted leaving_environment st.path (Pointers ∷ []) (store_of (symbol 0 ∷ []))
  names_sorted zero s z known is = subst (λ x. Entails leaving_environment st.path (OfSort x s)) (some_same is) (subst (λ x. Entails leaving_environment st.path (OfSort (symbol 0) x)) (some_same known) pointer)
  names_sorted (suc k) s z known is = none_some is

  leaks : Accepts leaving_environment leaving_program leaving_main box_contract [] [] 2 st
  leaks = subst (λ z. Accepts leaving_environment leaving_program leaving_main box_contract [] [] 2 z) (same_state st chunks) by_chunks
    where
      same_state : (st : SymbolicState) → st.chunks ≡ cell_chunk content (symbol 0) None ∷ block_chunk box_name (symbol 0) ∷ [] → with_chunks st (cell_chunk content (symbol 0) None ∷ block_chunk box_name (symbol 0) ∷ []) ≡ st
      same_state st is = ap (with_chunks st) (sym is)

      by_chunks : Accepts leaving_environment leaving_program leaving_main box_contract [] [] 2 (with_chunks st (cell_chunk content (symbol 0) None ∷ block_chunk box_name (symbol 0) ∷ []))
      by_chunks =
          may_leak what_is_left (Pointers ∷ []) (store_of (symbol 0 ∷ [])) (record { store = store_of (symbol 0 ∷ []); state = with_chunks st [] } ∷ []) (by_command refl) (names_sorted) (
            first_bound (store_of (symbol 0 ∷ [])) (symbol 0) refl,
            (
              _,
              no_change,
              (
                tt,
                (
                  cell_chunk content (symbol 0) None,
                  block_chunk box_name (symbol 0) ∷ [],
                  takes_all (share_is_all st.path _ (λ v. refl)),
                  (
                    refl,
                    (
                      symbol 0,
                      None,
                      refl,
                      equal_self st.path (symbol 0),
                      (
                        no_names (store_of (symbol 0 ∷ [])),
                        (
                          _,
                          no_change,
                          (
                            tt,
                            (
                              block_chunk box_name (symbol 0),
                              [],
                              takes_all (share_is_all st.path _ (λ v. refl)),
                              (refl, (first_bound (store_of (symbol 0 ∷ [])) (symbol 0) refl, equal_self st.path (symbol 0), inl (refl, refl))),
                            ),
                          ),
                        ),
                      ),
                    ),
                  ),
                ),
              ),
            ),
          )
          (λ s su among. outcome s su among)
        where
          outcome : (s : terms.Store) (su : SymbolicState) → IsAmong (record { store = store_of (symbol 0 ∷ []); state = with_chunks st [] } ∷ []) s su → Accepts leaving_environment leaving_program leaving_main box_contract [] [] 2 su
          outcome s su (inl is) = subst (λ z. Accepts leaving_environment leaving_program leaving_main box_contract [] [] 2 z) is.1 (returns_seven 2 (with_chunks st []) refl names refl)
          outcome s su (inr never) = absurd never

granted_way : Accepts leaving_environment leaving_program leaving_main box_contract [] [] 1 granted
unfolding granted begun
granted_way =
    do_if Equal (core.Read 0 somewhere) core.Null 3 2 (symbol 0) Null refl refl refl (inr (inr (record { by = λ v m. ((m.1).1).0 }))) (inr (inr (record { by = λ v m. inl refl })))
    (may_drop (record { by = λ v m. not_both (is_same (v (Numbered 0)) values.Null) (((m.1).1).1.1).0 (((m.1).1).1).0 }))
    (leaks _ (record { by = λ v m. ((m.1).1).0 }) refl refl)

body : Accepts leaving_environment leaving_program leaving_main box_contract [] [] 0 begun
unfolding begun with_null granted
body = do_allocate 0 box_name 1 0 refl fresh null_way granted_way

-- ---- the program
has_contract : HasContract leaving_environment leaving_main box_contract
has_contract = record { known = inl refl; parameters = refl; fewer = omega arith; inhabited = λ k s h. none_some h }

accepted_main : IsAcceptedFunction leaving_environment leaving_program leaving_main box_contract
unfolding begun
accepted_main = record {
  contract = has_contract;
  outs = record { store = call_store []; state = begun } ∷ [];
  produced = (no_names (call_store []), inr (inl (refl, refl)));
  body = λ s st among. outcome s st among;
}
  where
    outcome : (s : terms.Store) (st : SymbolicState) → IsAmong (record { store = call_store []; state = begun } ∷ []) s st → Accepts leaving_environment leaving_program leaving_main box_contract [] [] 0 (record st { names = s })
    outcome s st (inl same) = subst (λ z. Accepts leaving_environment leaving_program leaving_main box_contract [] [] 0 (record z { names = s })) same.1 (subst (λ z. Accepts leaving_environment leaving_program leaving_main box_contract [] [] 0 (record begun { names = z })) same.0 body)
    outcome s st (inr never) = absurd never

all_accepted : AreAccepted leaving_environment leaving_program
all_accepted zero f is = only_defined leaving_environment leaving_program leaving_main box_contract refl refl accepted_main f (some_same is)
all_accepted (suc n) f is = none_some is

no_claim : IsTrue false → ⊥
no_claim h = cc

-- ---- without the leak
the_events : List Event
the_events = record { thread = 0; grant = 1 } ∷ record { thread = 0; grant = 1 } ∷ record { thread = 0; grant = 1 } ∷ []

the_memory : ℕ → Memory
the_memory b = finite.insert finite.empty b (new_struct leaving_program box_name)

main_returns : MainReturns leaving_program the_events 2 (Some (values.Number (pos 7)))
unfolding the_events
main_returns = record {
  event = record { thread = 0; grant = 1 };
  is = refl;
  of_main = refl;
  returns = record { f = leaving_main; frame = _; callers = []; expression = Some (core.Number (pos 7)); at = record { steps = refl; frames = refl; function = refl; found = refl }; returned = (values.Number (pos 7), refl, refl) };
  last = refl;
}

memory_is : (before leaving_program the_events 3).memory ≡ the_memory (granted_block finite.empty 1)
unfolding the_events the_memory
memory_is = refl

one_thread : OthersHaveEnded (before leaving_program the_events 3)
unfolding the_events
one_thread zero other l = absurd (other refl)
one_thread (suc t) other l = absurd (no_other t l)
  where
    no_other : (t : ℕ) → suc t < 1 → ⊥
    no_other t l = omega (arith, l)

-- the memory has one block, which is a struct
struct_there : (b : ℕ) → block_at (the_memory b) b ≡ Some (Struct box_name (None ∷ []))
unfolding the_memory
struct_there b = block_here finite.empty b (new_struct leaving_program box_name)

nothing_else : (b c : ℕ) → c ≢ b → block_at (the_memory b) c ≡ None
unfolding the_memory
nothing_else b c other = block_elsewhere finite.empty b c (new_struct leaving_program box_name) other ∙ finite.get-empty nat_cmp c

block_is : (b c : ℕ) (block : Block) → block_at (the_memory b) c ≡ Some block → block ≡ Struct box_name (None ∷ [])
block_is b c block is = elim (cases_eq c b) [ inl same ↦ some_same (sym is ∙ ap (block_at (the_memory b)) same ∙ struct_there b) | inr other ↦ none_some (sym (nothing_else b c other) ∙ is) ]

none_shared : HasNoneShared (before leaving_program the_events 3)
none_shared = record {
  mutexless = λ c is. no_mutex (block_is (granted_block finite.empty 1) c (Mutex None) (ap (λ z. block_at z c) (sym memory_is) ∙ is));
  handleless = λ c t h. no_handle h.0 h.1 (block_is (granted_block finite.empty 1) c (Handle t h.0 h.1) (ap (λ z. block_at z c) (sym memory_is) ∙ h.2));
}
  where
    no_mutex : Mutex None ≡ Struct box_name (None ∷ []) → ⊥
    no_mutex h = cc

    no_handle : {t : ℕ} (run : core.Identity) (argument : Value) → Handle t run argument ≡ Struct box_name (None ∷ []) → ⊥
    no_handle run argument h = cc

owns_nothing : OwnsNothingAtLast box_environment leaving_program
owns_nothing main contract is_main of_main names result q ensured =
    let contract_is : box_contract ≡ contract = some_same (ap (λ (z : FunctionTree). own_contract box_environment z.identity) (some_same is_main) ∙ of_main) in
    empty (subst (λ k. Ensures box_environment k names result q) (sym contract_is) ensured)
  where
    empty : Ensures box_environment box_contract names result q → q ≡ nothing
    empty h = ((h.satisfies).1).0

unleaked_refused : IsAcceptedProgram box_environment leaving_program → ⊥
unleaked_refused accepted =
    let b = granted_block finite.empty 1 in
    none_some (sym (no_block_is_left box_environment leaving_program accepted (λ number f n is leaks. never_leaks box_environment (λ text. refl) leaks) owns_nothing the_events 2 (Some (values.Number (pos 7))) main_returns one_thread none_shared b) ∙ ap (λ z. block_at z b) memory_is ∙ struct_there b)

pub leaving_is_accepted : LeavingIsAccepted
leaving_is_accepted = record {
  accepted = record {
    functions = all_accepted;
    claims = λ g type contract claimed of_type. absurd (no_claim claimed);
    main = leaving_main;
    is_main = refl;
    contract = box_contract;
    is_own = refl;
    has = has_contract;
    alone = refl;
    begins = no_step (λ x t is. is, (no_names (call_store []), record { by = λ v m. refl }, refl));
  };
  unleaked_refused = unleaked_refused;
}
