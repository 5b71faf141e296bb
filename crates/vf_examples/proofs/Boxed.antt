-- The program that allocates a struct and frees it is accepted: a derivation by the rules.
use Rattle.std.specs.Prelude.{IsTrue, false}
use Rattle.std.proofs.Common.{◌≡◌, ◌≢◌, ℕ, zero, suc, pos, Bool, true, not, List, [], ◌∷◌, slice_get, Some, None, refl, sym, ap, subst, ◌∙◌, ◌⊎◌, inl, inr, arith}
use Rattle.std.proofs.lemmas.Bool.{false≢true}
use Rattle.vf_base.specs.declared.int_type.IntType.TheVariants as types
use Rattle.vf_tree.specs.Core.{TypeTree, Void, Integer, Equal, NotEqual}
use Rattle.vf_tree.specs.Core as core
use Rattle.vf_model.specs.Values as values
use Rattle.vf_meaning.specs.Ghost.{Pointers, Name, Numbered, Result, This, CurrentThread, Null, Number, Truth, Compare}
use Rattle.vf_meaning.specs.Valuations.{is_same}
use Rattle.vf_meaning.specs.Names.{Uses}
use Rattle.vf_rules.specs.Terms.{Term, stored}
use Rattle.vf_rules.specs.Terms as terms
use Rattle.vf_rules.specs.States.{Fact, Holds, OfSort, SymbolicState, Entails, assuming, assuming_all, with_chunks}
use Rattle.vf_rules.specs.Fresh.{symbol, IsFresh, IsFreshIn}
use Rattle.vf_rules.specs.Types.{type_of_field, facts_of_type}
use Rattle.vf_rules.specs.Take.{same, takes_all, takes_later, removes_here, removes_later}
use Rattle.vf_rules.specs.Consume.{EntailsAll}
use Rattle.vf_rules.specs.Laws.{IsAmong}
use Rattle.vf_rules.specs.Evaluate as evaluates
use Rattle.vf_rules.specs.Loops.{Loop}
use Rattle.vf_rules.specs.Accept.{all_of_it, cell_chunk, block_chunk, call_store, with_local, beginning, HasContract, KeepsFixed, Accepts, do_if, do_load, do_store, do_allocate, do_free, do_return, may_drop, IsAcceptedFunction}
use Rattle.vf_rules.proofs.Terms.{stored_own}
use Rattle.vf_rules.proofs.Takes.{equal_met}
use Rattle.vf_rules.specs.GhostSteps.{no_step}
use Rattle.vf_safety.specs.Laws.{AreAccepted}
use Rattle.vf_examples.specs.BoxProgram.{somewhere, box_name, content, box_main, box_program, box_contract, box_environment, BoxIsAccepted}
use Rattle.vf_examples.proofs.Defined.{only_defined}

some_same : {A : Type 0} {x y : A} → Some x ≡ Some y → x ≡ y
some_same e = cc

none_some : {A B : Type 0} {x : A} → None ≡ Some x → B
none_some e = cc

-- ---- what paths entail
equal_self : (path : List Fact) (t : Term) → Entails box_environment path (same t t)
equal_self path t = record { by = λ v m. equal_met box_environment v t t refl }

seven_is_a_number : (path : List Fact) → EntailsAll box_environment path (facts_of_type (Integer types.Int) (Number (pos 7)))
seven_is_a_number path = (record { by = λ v m. inl refl }, (record { by = λ v m. refl }, (record { by = λ v m. refl }, tt)))

not_both : (b : Bool) → b ≡ true → not b ≡ true → ⊥
not_both b h k = false≢true (sym (ap not h) ∙ k)

-- ---- the states on the way
begun : SymbolicState
begun = assuming (beginning box_main box_contract) (Holds (Truth true))

with_null : SymbolicState
with_null = with_local begun 0 Null

granted : SymbolicState
granted = with_local (assuming_all (with_chunks begun (cell_chunk content (symbol 0) None ∷ block_chunk box_name (symbol 0) ∷ [])) (OfSort (symbol 0) Pointers ∷ Holds (Compare NotEqual (symbol 0) Null) ∷ [])) 0 (symbol 0)

fresh_in_names : IsFreshIn 0 (call_store [])
fresh_in_names (Numbered k) t is used = none_some is
fresh_in_names Result t is used = none_some is
fresh_in_names This t is used = none_some is
fresh_in_names CurrentThread t is used = other (subst (λ z. Uses z (Numbered 0)) (sym (some_same is)) used)
  where
    other : CurrentThread ≡ Numbered 0 → ⊥
    other h = cc

fresh : IsFresh 0 begun
unfolding begun
fresh = record { locals = λ u. u; names = fresh_in_names; chunks = λ u. u; path = λ u. no_use u }
  where
    no_use : (CurrentThread ≡ Numbered 0) ⊎ (⊥ ⊎ ⊥) → ⊥
    no_use (inl u) = cc
    no_use (inr (inl u)) = u
    no_use (inr (inr u)) = u

-- ---- returns
keeps : (t : Term) → KeepsFixed box_contract (call_store []) (stored (call_store []) Result t)
keeps t (Numbered k) u fixed is = is
keeps t Result u fixed is = absurd fixed
keeps t This u fixed is = is
keeps t CurrentThread u fixed is = is

integer_is_no_void : Integer types.Int ≢ Void
integer_is_no_void h = cc

seven_fits : (path : List Fact) (type : TypeTree) → type_of_field box_program content.structure content.index ≡ Some type → EntailsAll box_environment path (facts_of_type type (Number (pos 7))) × (type ≢ Void)
seven_fits path type is = subst (λ z. EntailsAll box_environment path (facts_of_type z (Number (pos 7))) × (z ≢ Void)) (some_same is) (seven_is_a_number path, integer_is_no_void)

result_bound : (s : terms.Store) (t : Term) (x : Name) → (Result ≡ x) ⊎ ⊥ → (u : Term) × (stored s Result t x ≡ Some u)
result_bound s t x (inl is) = (t, subst (λ z. stored s Result t z ≡ Some t) is (stored_own s Result t))
result_bound s t x (inr never) = absurd never

returns_seven : {now soon : List Loop} (n : ℕ) (st : SymbolicState) (a : core.ExpressionTree) → slice_get box_main.steps n ≡ Some (core.Return (Some a)) → evaluates.Evaluates box_environment st.path st.locals a (Number (pos 7)) → st.names ≡ call_store [] → st.chunks ≡ []
    → Accepts box_environment box_program box_main box_contract now soon n st
returns_seven {now = now} {soon = soon} n st a is ev names chunks =
    do_return {now = now} {soon = soon} {n = n} {st = st} a (Number (pos 7)) is ev (seven_is_a_number st.path) integer_is_no_void
    (result_bound st.names (Number (pos 7)), equal_self st.path (Number (pos 7)), (chunks, subst (λ s. KeepsFixed box_contract s (stored s Result (Number (pos 7)))) (sym names) (keeps (Number (pos 7)))))

-- ---- the steps
null_way : Accepts box_environment box_program box_main box_contract [] [] 1 with_null
unfolding with_null begun
null_way =
    do_if Equal (core.Read 0 somewhere) core.Null 5 2 Null Null refl refl refl (inr (inr (record { by = λ v m. inl refl }))) (inr (inr (record { by = λ v m. inl refl })))
    (returns_seven 5 _ (core.Number (pos 7)) refl refl refl refl)
    (may_drop (record { by = λ v m. not_both true refl ((m.1).1).0 }))

granted_way : Accepts box_environment box_program box_main box_contract [] [] 1 granted
unfolding granted begun
granted_way =
    do_if Equal (core.Read 0 somewhere) core.Null 5 2 (symbol 0) Null refl refl refl (inr (inr (record { by = λ v m. ((m.1).1).0 }))) (inr (inr (record { by = λ v m. inl refl })))
    (may_drop (record { by = λ v m. not_both (is_same (v (Numbered 0)) values.Null) (((m.1).1).1.1).0 (((m.1).1).1).0 }))
    (do_store (core.Read 0 somewhere) (core.Number (pos 7)) content somewhere 3 (symbol 0) (symbol 0) (Number (pos 7)) None (cell_chunk content (symbol 0) None) (block_chunk box_name (symbol 0) ∷ []) refl refl refl
    (takes_all (equal_self _ all_of_it)) refl refl (equal_self _ (symbol 0)) (seven_fits _)
    (do_load 1 (core.Read 0 somewhere) content somewhere 4 (symbol 0) (symbol 0) (Number (pos 7)) (cell_chunk content (symbol 0) (Some (Number (pos 7)))) (block_chunk box_name (symbol 0) ∷ []) refl refl
    (removes_later removes_here) refl refl (equal_self _ (symbol 0))
    (do_free (core.Read 0 somewhere) box_name somewhere 6 (symbol 0) [] refl refl (
      cell_chunk content (symbol 0) (Some (Number (pos 7))),
      block_chunk box_name (symbol 0) ∷ [],
      symbol 0,
      Some (Number (pos 7)),
      takes_later (takes_all (equal_self _ all_of_it)),
      refl,
      refl,
      equal_self _ (symbol 0),
      (block_chunk box_name (symbol 0), symbol 0, takes_all (equal_self _ all_of_it), refl, refl, equal_self _ (symbol 0)),
    )
    (returns_seven 6 _ (core.Read 1 somewhere) refl refl refl refl))))

body : Accepts box_environment box_program box_main box_contract [] [] 0 begun
unfolding begun with_null granted
body = do_allocate 0 box_name 1 0 refl fresh null_way granted_way

-- ---- the program
has_contract : HasContract box_environment box_main box_contract
has_contract = record { known = inl refl; parameters = refl; fewer = omega arith; inhabited = λ k s h. none_some h }

bound_truth : (s : terms.Store) (x : Name) → ⊥ → (u : Term) × (s x ≡ Some u)
bound_truth s x u = absurd u

accepted_main : IsAcceptedFunction box_environment box_program box_main box_contract
unfolding begun
accepted_main = record {
  contract = has_contract;
  outs = record { store = call_store []; state = begun } ∷ [];
  produced = (bound_truth (call_store []), inr (inl (refl, refl)));
  body = λ s st among. outcome s st among;
}
  where
    outcome : (s : terms.Store) (st : SymbolicState) → IsAmong (record { store = call_store []; state = begun } ∷ []) s st → Accepts box_environment box_program box_main box_contract [] [] 0 (record st { names = s })
    outcome s st (inl same) = subst (λ z. Accepts box_environment box_program box_main box_contract [] [] 0 (record z { names = s })) same.1 (subst (λ z. Accepts box_environment box_program box_main box_contract [] [] 0 (record begun { names = z })) same.0 body)
    outcome s st (inr never) = absurd never

all_accepted : AreAccepted box_environment box_program
all_accepted zero f is = only_defined box_environment box_program box_main box_contract refl refl accepted_main f (some_same is)
all_accepted (suc n) f is = none_some is

no_claim : IsTrue false → ⊥
no_claim h = cc

pub box_is_accepted : BoxIsAccepted
box_is_accepted = record {
  functions = all_accepted;
  claims = λ g type contract claimed of_type. absurd (no_claim claimed);
  main = box_main;
  is_main = refl;
  contract = box_contract;
  is_own = refl;
  has = has_contract;
  alone = refl;
  begins = no_step (λ x t is. is, (bound_truth (call_store []), record { by = λ v m. refl }, refl));
}
