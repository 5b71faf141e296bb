-- The example with a loop and a call through a pointer is accepted.
use Rattle.std.specs.Prelude.{IsTrue, int_le, int_lt, ◌+ℤ◌, ◌&&◌}
use Rattle.std.proofs.Common.{◌≡◌, ◌≢◌, ℕ, zero, suc, ℤ, pos, Bool, true, false, List, [], ◌∷◌, ◌++◌, slice_get, Some, None, refl, sym, ap, subst, ◌∙◌, ◌⊎◌, inl, inr, arith}
use Rattle.std.proofs.lemmas.Int.{ints}
use Rattle.std.proofs.lemmas.Bool.{false≢true}
use Rattle.vf_base.specs.declared.int_type.IntType.TheVariants as types
use Rattle.vf_tree.specs.Core.{Identity, Void, Integer, Add, Less, Equal, LessEqual}
use Rattle.vf_tree.specs.Core as core
use Rattle.vf_model.specs.Values.{number_of, same_identity}
use Rattle.vf_model.specs.Values as values
use Rattle.vf_model.specs.Integers.{least, greatest}
use Rattle.vf_model.proofs.Equality.{identities_told}
use Rattle.vf_meaning.specs.Ghost.{Sort, Integers, Name, Numbered, Result, This, CurrentThread, Function, Number, Truth, Compare, Arithmetic, Not}
use Rattle.vf_meaning.specs.Valuations.{Valuation}
use Rattle.vf_meaning.specs.Names.{Uses}
use Rattle.vf_meaning.specs.Sorts.{HasSort}
use Rattle.vf_meaning.specs.Assertions.{ContractTree}
use Rattle.vf_rules.specs.Terms.{Term, stored}
use Rattle.vf_rules.specs.Terms as terms
use Rattle.vf_rules.specs.States.{Fact, Holds, OfSort, SymbolicState, Meets, Entails, assuming, assuming_all}
use Rattle.vf_rules.specs.Fresh.{symbol, IsFreshIn, IsNew, UsesFacts}
use Rattle.vf_rules.specs.Types.{facts_of_type}
use Rattle.vf_rules.specs.Take.{same}
use Rattle.vf_rules.specs.Consume.{EntailsAll}
use Rattle.vf_rules.specs.Laws.{IsAmong}
use Rattle.vf_rules.specs.Predicates.{store_of, AreInhabited}
use Rattle.vf_rules.specs.Loops.{OfLocal, Changing, facts_of_known, LocalsCome, Loop, IsLoop, Comes, Enters}
use Rattle.vf_rules.specs.Accept.{all_of_it, call_store, pointer_store, with_local, receiving, beginning, HasContract, KeepsFixed, AreFixed, Accepts, do_set, do_if, do_call_pointer, do_return, may_enter, may_repeat, IsAcceptedFunction}
use Rattle.vf_rules.specs.Threads.{HasSignature}
use Rattle.vf_rules.specs.GhostSteps.{AfterGhostSteps, no_step}
use Rattle.vf_rules.specs.Claims.{before_claim, StandsIn, RefinesType, KeepsClaim}
use Rattle.vf_rules.proofs.Terms.{stored_own, stored_grows}
use Rattle.vf_rules.proofs.Takes.{equal_met}
use Rattle.vf_safety.specs.Laws.{AreAccepted}
use Rattle.vf_examples.specs.BoxProgram.{somewhere}
use Rattle.vf_examples.specs.Counting.{seven_name, constant_name, int_of_nothing, seven, counting_main, counting_program, seven_contract, at_most_three, counting_environment, CountingIsAccepted}
use Rattle.vf_examples.proofs.Defined.{only_defined}

some_same : {A : Type 0} {x y : A} → Some x ≡ Some y → x ≡ y
some_same e = cc

none_some : {A B : Type 0} {x : A} → None ≡ Some x → B
none_some e = cc

-- ---- what paths entail
number_facts : (path : List Fact) (n : ℕ) → int_le (pos n) (greatest types.Int) ≡ true → int_le (least types.Int) (pos n) ≡ true → EntailsAll counting_environment path (facts_of_type (Integer types.Int) (Number (pos n)))
number_facts path n high low = (record { by = λ v m. inl refl }, (record { by = λ v m. low }, (record { by = λ v m. high }, tt)))

equal_self : (path : List Fact) (t : Term) → Entails counting_environment path (same t t)
equal_self path t = record { by = λ v m. equal_met counting_environment v t t refl }

integer_is_no_void : Integer types.Int ≢ Void
integer_is_no_void h = cc

no_name : (s : terms.Store) (x : Name) → ⊥ → (u : Term) × (s x ≡ Some u)
no_name s x u = absurd u

result_bound : (s : terms.Store) (t : Term) (x : Name) → (Result ≡ x) ⊎ ⊥ → (u : Term) × (stored s Result t x ≡ Some u)
result_bound s t x (inl is) = (t, subst (λ z. stored s Result t z ≡ Some t) is (stored_own s Result t))
result_bound s t x (inr never) = absurd never

keeps : (s : terms.Store) (t : Term) → KeepsFixed seven_contract s (stored s Result t)
keeps s t (Numbered k) u fixed is = is
keeps s t Result u fixed is = absurd fixed
keeps s t This u fixed is = is
keeps s t CurrentThread u fixed is = is

-- ---- the function that is called
seven_begun : SymbolicState
seven_begun = assuming (beginning seven seven_contract) (Holds (Truth true))

seven_body : Accepts counting_environment counting_program seven seven_contract [] [] 0 seven_begun
unfolding seven_begun
seven_body =
    do_return (core.Number (pos 7)) (Number (pos 7)) refl refl (number_facts _ 7 refl refl) integer_is_no_void
    (result_bound (call_store []) (Number (pos 7)), equal_self _ (Number (pos 7)), (refl, keeps (call_store []) (Number (pos 7))))

among_one : (P : terms.Store → SymbolicState → Type 0) (s0 : terms.Store) (st0 : SymbolicState) → P s0 st0 → (s : terms.Store) (st : SymbolicState) → IsAmong (record { store = s0; state = st0 } ∷ []) s st → P s st
among_one P s0 st0 h s st (inl is) = subst (λ z. P s z) is.1 (subst (λ z. P z st0) is.0 h)
among_one P s0 st0 h s st (inr never) = absurd never

seven_has : HasContract counting_environment seven seven_contract
seven_has = record { known = inl refl; parameters = refl; fewer = omega arith; inhabited = λ k s h. none_some h }

seven_accepted : IsAcceptedFunction counting_environment counting_program seven seven_contract
unfolding seven_begun
seven_accepted = record {
  contract = seven_has;
  outs = record { store = call_store []; state = seven_begun } ∷ [];
  produced = (no_name (call_store []), inr (inl (refl, refl)));
  body = λ s st among. among_one (λ s st. Accepts counting_environment counting_program seven seven_contract [] [] 0 (record st { names = s })) (call_store []) seven_begun seven_body s st among;
}

-- ---- the loop
begun : SymbolicState
begun = assuming (beginning counting_main seven_contract) (Holds (Truth true))

counted : Changing
counted = record { number = 0; known = OfLocal (Integer types.Int) }

loop_store : terms.Store
loop_store = store_of (symbol 0 ∷ [])

loop_path : List Fact
loop_path = Holds (Truth true) ∷ []

-- the state at the head, once the invariant is produced
head : SymbolicState
unfolding loop_path
head = record {
  locals = Some (symbol 0) ∷ None ∷ None ∷ [];
  names = call_store [];
  chunks = [];
  path = (loop_path ++ (facts_of_type (Integer types.Int) (symbol 0) ++ [])) ++ Holds (Compare LessEqual (symbol 0) (Number (pos 3))) ∷ [];
}

loop : Loop
unfolding counted loop_store loop_path head
loop = record {
  node = 1;
  invariant = at_most_three;
  sorts = Integers ∷ [];
  changing = counted ∷ [];
  locals = Some (symbol 0) ∷ None ∷ None ∷ [];
  names = call_store [];
  store = loop_store;
  kept = [];
  path = loop_path;
  outs = record { store = loop_store; state = head } ∷ [];
}

fresh_in_names : (y : ℕ) → IsFreshIn y (call_store [])
fresh_in_names y (Numbered k) t is used = none_some is
fresh_in_names y Result t is used = none_some is
fresh_in_names y This t is used = none_some is
fresh_in_names y CurrentThread t is used = other (subst (λ z. Uses z (Numbered y)) (sym (some_same is)) used)
  where
    other : CurrentThread ≡ Numbered y → ⊥
    other h = cc

name_bound : (t : Term) (x : Name) → (Numbered 0 ≡ x) ⊎ ⊥ → (u : Term) × (store_of (t ∷ []) x ≡ Some u)
name_bound t x (inl is) = subst (λ z. (u : Term) × (store_of (t ∷ []) z ≡ Some u)) is (t, refl)
name_bound t x (inr never) = absurd never

integers_inhabited : AreInhabited counting_environment (Integers ∷ [])
integers_inhabited zero s is = (values.Number (pos 0), subst (HasSort counting_environment (values.Number (pos 0))) (some_same is) (inl refl))
integers_inhabited (suc k) s is = none_some is

is_loop : IsLoop counting_environment counting_program loop
unfolding loop counted loop_store loop_path head
is_loop = record {
  fresh = λ j c is. record { names = fresh_in_names c.number; kept = λ u. u; path = λ u. no_use u };
  distinct = one_only;
  inhabited = integers_inhabited;
  produced = (name_bound (symbol 0), inr (inl (refl, refl)));
}
  where
    no_use : ⊥ ⊎ ⊥ → ⊥
    no_use (inl u) = u
    no_use (inr u) = u

    one_only : (i j : ℕ) (c d : Changing) → slice_get (counted ∷ []) i ≡ Some c → slice_get (counted ∷ []) j ≡ Some d → c.number ≡ d.number → i ≡ j
    one_only zero zero c d a b same = refl
    one_only zero (suc j) c d a b same = none_some b
    one_only (suc i) j c d a b same = none_some a

-- a state in which the counter is a term comes to the head
comes : (t : Term) (st : SymbolicState) → st.locals ≡ Some t ∷ None ∷ None ∷ [] → st.names ≡ call_store [] → st.chunks ≡ [] → EntailsAll counting_environment st.path (facts_of_type (Integer types.Int) t) → Entails counting_environment st.path (Holds (Compare LessEqual t (Number (pos 3))))
    → EntailsAll counting_environment st.path loop_path → Enters counting_environment counting_program loop st
unfolding loop counted loop_store
comes t st locals names chunks facts low path = record {
  store = store_of (t ∷ []);
  of_sorts = sorted;
  consumed = (
    name_bound t,
    low,
    record {
      now = t ∷ [];
      number = refl;
      known = all_known;
      locals = subst (LocalsCome (counted ∷ []) (t ∷ []) (Some (symbol 0) ∷ None ∷ None ∷ [])) (sym locals) (Comes.changed_term 0 counted t refl refl, tt);
      names = λ x z is. ap (λ s. s x) names ∙ is;
      store_comes = store_comes;
      kept = chunks;
      path = path;
    },
  );
}
  where
    sorted : (k : ℕ) (s : Sort) (z : Term) → slice_get (Integers ∷ []) k ≡ Some s → store_of (t ∷ []) (Numbered k) ≡ Some z → Entails counting_environment st.path (OfSort z s)
    sorted zero s z is known = subst (λ x. Entails counting_environment st.path (OfSort x s)) (some_same known) (subst (λ x. Entails counting_environment st.path (OfSort t x)) (some_same is) facts.0)
    sorted (suc k) s z is known = none_some is

    all_known : (j : ℕ) (c : Changing) (z : Term) → slice_get (counted ∷ []) j ≡ Some c → slice_get (t ∷ []) j ≡ Some z → EntailsAll counting_environment st.path (facts_of_known c.known z)
    all_known zero c z is now = subst (λ x. EntailsAll counting_environment st.path (facts_of_known c.known x)) (some_same now) (subst (λ (x : Changing). EntailsAll counting_environment st.path (facts_of_known x.known t)) (some_same is) facts)
    all_known (suc j) c z is now = none_some is

    store_comes : (x : Name) (z : Term) → store_of (symbol 0 ∷ []) x ≡ Some z → (w : Term) × (store_of (t ∷ []) x ≡ Some w) × Comes (counted ∷ []) (t ∷ []) z w
    store_comes (Numbered zero) z is = (t, refl, subst (λ y. Comes (counted ∷ []) (t ∷ []) y t) (some_same is) (Comes.changed_term 0 counted t refl refl))
    store_comes (Numbered (suc k)) z is = none_some is
    store_comes Result z is = none_some is
    store_comes This z is = none_some is
    store_comes CurrentThread z is = none_some is

-- one more is still in range, and at most three
counts : (n : ℤ) → int_le (least types.Int) n ≡ true → int_lt n (pos 3) ≡ true → (int_le (least types.Int) (n +ℤ pos 1) ≡ true) × (int_le (n +ℤ pos 1) (greatest types.Int) ≡ true) × (int_le (n +ℤ pos 1) (pos 3) ≡ true)
counts n low less = (grind (arith, ints), grind (arith, ints), grind (arith, ints))

below_three : SymbolicState
below_three = assuming head (Holds (Compare Less (symbol 0) (Number (pos 3))))

from_three : SymbolicState
from_three = assuming head (Holds (Not (Compare Less (symbol 0) (Number (pos 3)))))

-- the counter, counted on
one_more : Term
one_more = Arithmetic Add (symbol 0) (Number (pos 1))

number_of_counter : (v : Valuation) → Meets counting_environment v below_three.path → (int_le (least types.Int) (number_of (v (Numbered 0))) ≡ true) × (int_lt (number_of (v (Numbered 0))) (pos 3) ≡ true)
unfolding below_three head loop_path
number_of_counter v m = ((((m.1).1).0), ((((((m.1).1).1).1).1).0))

again : Accepts counting_environment counting_program counting_main seven_contract (loop ∷ []) (loop ∷ []) 2 below_three
unfolding below_three head loop_path one_more loop
again =
    do_set 0 (core.Arithmetic Add types.Int (core.Read 0 somewhere) (core.Number (pos 1)) somewhere) 1 one_more refl (
      symbol 0,
      Number (pos 1),
      refl,
      refl,
      record { by = λ v m. (m.1).0 },
      record { by = λ v m. inl refl },
      tt,
      refl,
      (
        record { by = λ v m. let n = number_of_counter v m in (counts (number_of (v (Numbered 0))) n.0 n.1).0 },
        record { by = λ v m. let n = number_of_counter v m in (counts (number_of (v (Numbered 0))) n.0 n.1).1 },
      ),
    )
    (may_repeat loop (inl refl) refl (comes one_more (with_local below_three 0 one_more) refl refl refl (
      record { by = λ v m. inl refl },
      (
        record { by = λ v m. let n = number_of_counter v m in (counts (number_of (v (Numbered 0))) n.0 n.1).0 },
        (record { by = λ v m. let n = number_of_counter v m in (counts (number_of (v (Numbered 0))) n.0 n.1).1 }, tt),
      ),
    )
    (record { by = λ v m. let n = number_of_counter v m in (counts (number_of (v (Numbered 0))) n.0 n.1).2 })
    (record { by = λ v m. m.0 }, tt)))

-- ---- the call through a pointer
and_left : (a b : Bool) → (a && b) ≡ true → a ≡ true
and_left true b h = refl
and_left false b h = h

signed : (g : Identity) → IsTrue (counting_environment.claims g constant_name) → HasSignature counting_program g int_of_nothing
signed g claimed = subst (λ z. HasSignature counting_program z int_of_nothing) (sym ((identities_told g seven_name).0 (and_left (same_identity g seven_name) _ claimed))) (record { outside = refl; number = 1; function = seven; named = refl; is = refl; signature_is = refl })

called : SymbolicState
unfolding from_three head loop_path
called = with_local from_three 2 (Function seven_name)

zero_one : Numbered 0 ≡ Numbered 1 → ⊥
zero_one h = cc

-- the path at the call has one symbol alone
free_path : UsesFacts called.path (Numbered 1) → ⊥
unfolding called from_three head loop_path
free_path (inl u) = u
free_path (inr (inl u)) = zero_one u
free_path (inr (inr (inl (inl u)))) = u
free_path (inr (inr (inl (inr u)))) = zero_one u
free_path (inr (inr (inr (inl (inl u))))) = zero_one u
free_path (inr (inr (inr (inl (inr u))))) = u
free_path (inr (inr (inr (inr (inl (inl u)))))) = zero_one u
free_path (inr (inr (inr (inr (inl (inr u)))))) = u
free_path (inr (inr (inr (inr (inr (inl (inl u))))))) = zero_one u
free_path (inr (inr (inr (inr (inr (inl (inr u))))))) = u
free_path (inr (inr (inr (inr (inr (inr u)))))) = u

free_pointer : (y : ℕ) → IsFreshIn y (pointer_store [] (Function seven_name))
free_pointer y (Numbered k) t is used = none_some is
free_pointer y Result t is used = none_some is
free_pointer y This t is used = subst (λ z. Uses z (Numbered y)) (sym (some_same is)) used
free_pointer y CurrentThread t is used = other (subst (λ z. Uses z (Numbered y)) (sym (some_same is)) used)
  where
    other : CurrentThread ≡ Numbered y → ⊥
    other h = cc

new : IsNew 1 all_of_it (pointer_store [] (Function seven_name)) [] called
unfolding called from_three head loop_path
new = record {
  state = record { locals = free_locals; names = fresh_in_names 1; chunks = λ u. u; path = free_path };
  store = free_pointer 1;
  scale_free = λ u. u;
  arguments_free = λ u. u;
}
  where
    free_locals : (Numbered 0 ≡ Numbered 1) ⊎ (⊥ ⊎ ⊥) → ⊥
    free_locals (inl u) = zero_one u
    free_locals (inr (inl u)) = u
    free_locals (inr (inr u)) = u

fixed : AreFixed seven_contract (pointer_store [] (Function seven_name))
fixed (Numbered k) t is = none_some is
fixed Result t is = none_some is
fixed This t is = tt
fixed CurrentThread t is = tt

returned : SymbolicState
unfolding called from_three head loop_path
returned = assuming (assuming_all called (facts_of_type (Integer types.Int) (symbol 1))) (Holds (Compare Equal (symbol 1) (Number (pos 7))))

leaves : Accepts counting_environment counting_program counting_main seven_contract (loop ∷ []) (loop ∷ []) 5 (receiving (Some 1) (symbol 1) returned)
unfolding returned called from_three head loop_path
leaves =
    do_return (core.Read 1 somewhere) (symbol 1) refl refl
    (record { by = λ v m. (((((m.1).1).1).1).1).1.0 }, (record { by = λ v m. (((((m.1).1).1).1).1).1.1.0 }, (record { by = λ v m. (((((m.1).1).1).1).1).1.1.1.0 }, tt))) integer_is_no_void
    (result_bound (call_store []) (symbol 1), record { by = λ v m. (((((m.1).1).1).1).1).1.1.1.1.0 }, (refl, keeps (call_store []) (symbol 1)))

calls : Accepts counting_environment counting_program counting_main seven_contract (loop ∷ []) (loop ∷ []) 3 from_three
unfolding from_three head loop_path called returned
calls =
    do_set 2 (core.Function seven_name) 4 (Function seven_name) refl refl
    (do_call_pointer (Some 1) (core.Read 2 somewhere) int_of_nothing [] somewhere 5 constant_name seven_contract (Function seven_name) [] (record { store = stored (pointer_store [] (Function seven_name)) Result (symbol 1); state = receiving (Some 1) (symbol 1) returned } ∷ [])
    refl refl refl refl signed (λ k s h. none_some h) refl (record { by = λ v m. refl }) (λ h. absurd (integer_is_no_void h)) tt refl tt (λ k s t h. none_some h)
    (no_name (pointer_store [] (Function seven_name)), record { by = λ v m. refl }, (1, new, fixed, (result_bound (pointer_store [] (Function seven_name)) (symbol 1), inr (inl (refl, refl)))))
    (λ s su among. among_one (λ s su. Accepts counting_environment counting_program counting_main seven_contract (loop ∷ []) (loop ∷ []) 5 su) (stored (pointer_store [] (Function seven_name)) Result (symbol 1)) (receiving (Some 1) (symbol 1) returned) leaves s su among))

at_head : Accepts counting_environment counting_program counting_main seven_contract [] (loop ∷ []) 1 head
unfolding head loop_path below_three from_three
at_head =
    do_if {st = head} Less (core.Read 0 somewhere) (core.Number (pos 3)) 2 3 (symbol 0) (Number (pos 3)) refl refl refl (inl (record { by = λ v m. (m.1).0 })) (inl (record { by = λ v m. inl refl })) again calls

body : Accepts counting_environment counting_program counting_main seven_contract [] [] 0 begun
unfolding begun loop loop_path
body =
    do_set 0 (core.Number (pos 0)) 1 (Number (pos 0)) refl refl
    (may_enter loop refl is_loop (comes (Number (pos 0)) (with_local begun 0 (Number (pos 0))) refl refl refl (number_facts _ 0 refl refl) (record { by = λ v m. refl }) (record { by = λ v m. (m.1).0 }, tt))
    (λ s su among. among_one (λ s su. Accepts counting_environment counting_program counting_main seven_contract [] (loop ∷ []) 1 su) loop_store head at_head s su among))

-- ---- the program
main_has : HasContract counting_environment counting_main seven_contract
main_has = record { known = inl refl; parameters = refl; fewer = omega arith; inhabited = λ k s h. none_some h }

main_accepted : IsAcceptedFunction counting_environment counting_program counting_main seven_contract
unfolding begun
main_accepted = record {
  contract = main_has;
  outs = record { store = call_store []; state = begun } ∷ [];
  produced = (no_name (call_store []), inr (inl (refl, refl)));
  body = λ s st among. among_one (λ s st. Accepts counting_environment counting_program counting_main seven_contract [] [] 0 (record st { names = s })) (call_store []) begun body s st among;
}

all_accepted : AreAccepted counting_environment counting_program
all_accepted zero f is = only_defined counting_environment counting_program counting_main seven_contract refl refl main_accepted f (some_same is)
all_accepted (suc zero) f is = only_defined counting_environment counting_program seven seven_contract refl refl seven_accepted f (some_same is)
all_accepted (suc (suc n)) f is = none_some is

-- ---- the claim
before : SymbolicState
before = assuming (before_claim seven seven_contract) (Holds (Truth true))

abbrev KeptBy : terms.Store → SymbolicState → Type 0
KeptBy s st = AfterGhostSteps counting_environment counting_program (StandsIn counting_environment counting_program seven seven_contract seven_contract) (record st { names = s })

fixed_call : AreFixed seven_contract (call_store [])
fixed_call (Numbered k) t is = none_some is
fixed_call Result t is = none_some is
fixed_call This t is = none_some is
fixed_call CurrentThread t is = tt

kept_first : KeptBy (pointer_store [] (Function seven_name)) before
unfolding before
kept_first = no_step (
  stored_grows (call_store []) This (Function seven_name) refl,
  λ k so t h is. none_some h,
  (
    no_name (call_store []),
    record { by = λ v m. refl },
    (
      0,
      record {
        state = record { locals = λ u. u; names = free_pointer 0; chunks = λ u. u; path = λ u. no_use u };
        store = fresh_in_names 0;
        scale_free = λ u. u;
        arguments_free = λ u. u;
      },
      fixed_call,
      (
        result_bound (call_store []) (symbol 0),
        inr (no_step (
          symbol 0,
          stored_own (pointer_store [] (Function seven_name)) Result (symbol 0),
          (result_bound (pointer_store [] (Function seven_name)) (symbol 0), record { by = λ v m. (((((m.1).1).1).1).1).0 }, (refl, λ x t fixed is. is)),
        )),
      ),
    ),
  ),
)
  where
    no_use : (CurrentThread ≡ Numbered 0) ⊎ (⊥ ⊎ ⊥) → ⊥
    no_use (inl u) = cc
    no_use (inr (inl u)) = u
    no_use (inr (inr u)) = u

refines : RefinesType counting_environment counting_program seven seven_contract seven_contract seven_name
unfolding before
refines = record {
  parameters = refl;
  outs = record { store = pointer_store [] (Function seven_name); state = before } ∷ [];
  required = (no_name (pointer_store [] (Function seven_name)), inr (inl (refl, refl)));
  kept = λ s st among. among_one KeptBy (pointer_store [] (Function seven_name)) before kept_first s st among;
}

claims : (g type : Identity) (contract : ContractTree) → IsTrue (counting_environment.claims g type) → counting_environment.types type ≡ Some contract → KeepsClaim counting_environment counting_program g contract
claims g type contract claimed of_type =
    let type_is = (identities_told type constant_name).0 (and_right (same_identity g seven_name) (same_identity type constant_name) claimed) in
    let contract_is : seven_contract ≡ contract = some_same (sym (ap counting_environment.types type_is) ∙ of_type) in
    subst (λ z. KeepsClaim counting_environment counting_program g z) contract_is
    (subst (λ z. KeepsClaim counting_environment counting_program z seven_contract) (sym ((identities_told g seven_name).0 (and_left (same_identity g seven_name) (same_identity type constant_name) claimed)))
    (record { number = 1; function = seven; named = refl; is = refl; own = seven_contract; is_own = refl; has = seven_has; refines = refines }))
  where
    and_right : (a b : Bool) → (a && b) ≡ true → b ≡ true
    and_right true b h = h
    and_right false b h = absurd (false≢true h)

pub counting_is_accepted : CountingIsAccepted
counting_is_accepted = record {
  functions = all_accepted;
  claims = claims;
  main = counting_main;
  is_main = refl;
  contract = seven_contract;
  is_own = refl;
  has = main_has;
  alone = refl;
  begins = no_step (λ x t is. is, (no_name (call_store []), record { by = λ v m. refl }, refl));
}
