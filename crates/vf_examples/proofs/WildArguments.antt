-- Two functions whose preconditions leave an argument open are accepted: derivations by the rules.
use Rattle.std.proofs.Common.{◌≡◌, ℕ, List, [], ◌∷◌, ◌++◌, Option, Some, None, refl, sym, ap, subst, ◌∙◌, inl, inr, arith}
use Rattle.vf_tree.specs.Core as core
use Rattle.vf_model.specs.Values.{Dyadic, Value}
use Rattle.vf_model.specs.Values as values
use Rattle.vf_model.specs.PreludeFunctions.{MutexAcquire, MutexRelease, ThreadJoin, identity_of}
use Rattle.vf_meaning.specs.Fractions.{whole, product, IsPositive}
use Rattle.vf_meaning.specs.Ghost.{Sort, Integers, Pointers, Fractions, Anything, ConstructorTree, Numbered, Result, CurrentThread, Variable, Fraction, Share}
use Rattle.vf_meaning.specs.GhostValues.{shared}
use Rattle.vf_meaning.specs.Assertions.{Named, Family, Applied}
use Rattle.vf_meaning.specs.Sorts.{IsDatatypeOf, HasSort}
use Rattle.vf_rules.specs.Terms.{Term, Store, stored}
use Rattle.vf_rules.specs.States.{Fact, OfSort, Of, SymbolicChunk, SymbolicState, facts_of_thread}
use Rattle.vf_rules.specs.Fresh.{symbol, IsFreshIn}
use Rattle.vf_rules.specs.Take.{IsQuotient, takes_all, removes_here, no_change}
use Rattle.vf_rules.specs.Inhabited.{HaveDatatypesValues}
use Rattle.vf_rules.specs.Mutexes.{invariants, acquisition, release}
use Rattle.vf_rules.specs.Threads.{thread_name, thread_run_post, acquires, releases, join, joins}
use Rattle.vf_rules.specs.Accept.{all_of_it, AreFixed, call_store, beginning, HasContract, Accepts, do_prelude, do_leave, IsAcceptedFunction}
use Rattle.vf_rules.proofs.Inhabited.{closed_sorts_have_values}
use Rattle.vf_examples.specs.BoxProgram.{somewhere}
use Rattle.vf_examples.specs.WildArguments.{pass, pass_contract, wait, wait_contract, wild_program, wild_environment, PassingIsAccepted, WaitingIsAccepted}
use Rattle.vf_examples.proofs.NewSymbols.{fresh_stored, fresh_call, fresh_state, new_symbol}
use Rattle.vf_examples.proofs.SharingFacts.{none_some, among_one, by_place, call_fixed, fixed_stored, fraction_same, name_bound, nothing_bound, same_self, sorted}
use Rattle.vf_examples.proofs.SharedTick.{written_share, mutex_chunk, held_chunk, applied_chunk}

-- nothing is declared as a datatype
pub no_datatypes : HaveDatatypesValues wild_environment
no_datatypes = record { by = λ d ss declared has. none_some declared.2 }

-- ---- the mutex
module _ where
  abbrev Goes : ℕ → SymbolicState → Type 0
  Goes n st = Accepts wild_environment wild_program pass pass_contract [] [] n st

  abbrev named : Store
  named = stored (call_store (symbol 0 ∷ [])) (Numbered 1) (symbol 1)

  abbrev path0 : List Fact
  path0 = OfSort (symbol 0) Pointers ∷ OfSort (symbol 0) Pointers ∷ facts_of_thread

  abbrev share_path : List Fact
  share_path = path0 ++ OfSort (symbol 1) Fractions ∷ []

  -- the open argument is a predicate value without arguments
  abbrev path : List Fact
  path = share_path ++ OfSort (symbol 2) invariants ∷ []

  abbrev at : List SymbolicChunk → SymbolicState
  at chunks = record { locals = Some (symbol 0) ∷ []; names = named; chunks = chunks; path = path }

  abbrev share : Term
  share = Share all_of_it (symbol 1)

  abbrev mutex : SymbolicChunk
  mutex = mutex_chunk share (symbol 0) (symbol 2)

  abbrev begun : SymbolicState
  begun = record { locals = Some (symbol 0) ∷ []; names = call_store (symbol 0 ∷ []); chunks = mutex ∷ []; path = path }

  abbrev share_named : SymbolicState
  share_named = record { locals = Some (symbol 0) ∷ []; names = call_store (symbol 0 ∷ []); chunks = []; path = share_path }

  abbrev held : SymbolicChunk
  held = held_chunk (symbol 0) (symbol 2) (symbol 1)

  abbrev invariant : SymbolicChunk
  invariant = applied_chunk written_share (symbol 2)

  abbrev mutex_back : SymbolicChunk
  mutex_back = mutex_chunk (Share all_of_it (Share (Fraction whole) (symbol 1))) (symbol 0) (symbol 2)

  fresh_two : IsFreshIn 2 named
  fresh_two = fresh_stored 2 (call_store (symbol 0 ∷ [])) (Numbered 1) (symbol 1) (fresh_call 2 (symbol 0 ∷ []) refl) refl

  fresh_three : IsFreshIn 3 named
  fresh_three = fresh_stored 3 (call_store (symbol 0 ∷ [])) (Numbered 1) (symbol 1) (fresh_call 3 (symbol 0 ∷ []) refl) refl

  fresh_four : IsFreshIn 4 named
  fresh_four = fresh_stored 4 (call_store (symbol 0 ∷ [])) (Numbered 1) (symbol 1) (fresh_call 4 (symbol 0 ∷ []) refl) refl

  leaves : Goes 2 (at (mutex_back ∷ []))
  leaves =
      do_leave refl refl (
        nothing_bound named,
        (
          at (mutex_back ∷ []),
          no_change,
          (
            ((symbol 1, refl), tt),
            (mutex_back, [], takes_all (same_self wild_environment path (Share all_of_it (Share (Fraction whole) (symbol 1)))), (refl, (name_bound named (Numbered 0) (symbol 0) refl, same_self wild_environment path (symbol 0), (refl, λ x t fixed is. is)))),
          ),
        ),
      )

  -- ---- the mutex is released
  abbrev release_store : Store
  release_store = stored (stored (call_store (symbol 0 ∷ [])) (Numbered 1) (symbol 2)) (Numbered 2) (symbol 1)

  fresh_released : IsFreshIn 4 release_store
  fresh_released = fresh_stored 4 (stored (call_store (symbol 0 ∷ [])) (Numbered 1) (symbol 2)) (Numbered 2) (symbol 1) (fresh_stored 4 (call_store (symbol 0 ∷ [])) (Numbered 1) (symbol 2) (fresh_call 4 (symbol 0 ∷ []) refl) refl) refl

  release_fixed : AreFixed release release_store
  release_fixed =
      fixed_stored release (stored (call_store (symbol 0 ∷ [])) (Numbered 1) (symbol 2)) (Numbered 2) (symbol 1)
      (fixed_stored release (call_store (symbol 0 ∷ [])) (Numbered 1) (symbol 2) (call_fixed release (symbol 0 ∷ []) refl) (inr (inl (inr (inr (inr (inl refl)))))))
      (inr (inl (inr (inr (inr (inr (inr (inl refl))))))))

  releases_it : Goes 1 (at (held ∷ invariant ∷ []))
  releases_it =
      do_prelude None (identity_of MutexRelease) (core.Read 0 somewhere ∷ []) somewhere 2 MutexRelease release (symbol 0 ∷ []) (record { store = stored release_store Result (symbol 4); state = at (mutex_back ∷ []) } ∷ [])
      refl refl releases refl (closed_sorts_have_values wild_environment release.sorts no_datatypes (tt, (tt, (tt, tt)))) (λ h. refl) (refl, tt) refl (sorted wild_environment path release.sorts (symbol 0 ∷ []) (by_place wild_environment path 0 (OfSort (symbol 0) Pointers) refl, tt)) (
        nothing_bound (call_store (symbol 0 ∷ [])),
        (
          at (held ∷ invariant ∷ []),
          no_change,
          (
            tt,
            (
              held,
              invariant ∷ [],
              takes_all (same_self wild_environment path written_share),
              (
                refl,
                (
                  name_bound (call_store (symbol 0 ∷ [])) (Numbered 0) (symbol 0) refl,
                  same_self wild_environment path (symbol 0),
                  (
                    refl,
                    (by_place wild_environment path 4 (OfSort (symbol 2) invariants) refl, tt),
                    (
                      name_bound (stored (call_store (symbol 0 ∷ [])) (Numbered 1) (symbol 2)) CurrentThread (Variable CurrentThread) refl,
                      same_self wild_environment path (Variable CurrentThread),
                      (
                        refl,
                        (by_place wild_environment path 3 (OfSort (symbol 1) Fractions) refl, tt),
                        (
                          name_bound release_store (Numbered 1) (symbol 2) refl,
                          (
                            at (invariant ∷ []),
                            no_change,
                            (
                              tt,
                              (
                                invariant,
                                [],
                                takes_all (same_self wild_environment path written_share),
                                (
                                  same_self wild_environment path (symbol 2),
                                  (
                                    4,
                                    new_symbol 4 all_of_it release_store [] (at []) (fresh_state 4 (at []) fresh_four refl refl refl) fresh_released refl refl,
                                    release_fixed,
                                    (nothing_bound (stored release_store Result (symbol 4)), (((symbol 1, refl), tt), (name_bound (stored release_store Result (symbol 4)) (Numbered 0) (symbol 0) refl, (name_bound (stored release_store Result (symbol 4)) (Numbered 1) (symbol 2) refl, inl (refl, refl))))),
                                  ),
                                ),
                              ),
                            ),
                          ),
                        ),
                      ),
                    ),
                  ),
                ),
              ),
            ),
          ),
        ),
      )
      (λ s st among. among_one (λ s st. Goes 2 st) (stored release_store Result (symbol 4)) (at (mutex_back ∷ [])) leaves s st among)

  -- ---- the mutex is acquired
  -- a value of the sort of fractions is one
  fraction_value : (w : Value) → HasSort wild_environment w Fractions → (d : Dyadic) × (w ≡ values.Fraction d) × IsPositive d
  fraction_value (values.Fraction d) h = (d, refl, h.1)
  fraction_value (values.Number z) (inl h) = cc
  fraction_value (values.Number z) (inr h) = cc
  fraction_value (values.Truth b) (inl h) = cc
  fraction_value (values.Truth b) (inr h) = cc
  fraction_value values.Null (inl h) = cc
  fraction_value values.Null (inr h) = cc
  fraction_value (values.Pointer b o) (inl h) = cc
  fraction_value (values.Pointer b o) (inr h) = cc
  fraction_value (values.Function g) (inl h) = cc
  fraction_value (values.Function g) (inr h) = cc
  fraction_value (values.Constructed c vs) h = absurd h.0
  fraction_value (values.Predicate q vs) h = absurd h.2

  all_of_share : (w : Value) → HasSort wild_environment w Fractions → (c x : Dyadic) → whole ≡ c → shared (values.Fraction whole) w ≡ values.Fraction x → (y : Dyadic) × (w ≡ values.Fraction y) × (x ≡ product c y) × IsPositive y
  all_of_share w h c x scale is =
      let (d, own, positive) = fraction_value w h in
      (d, own, sym (fraction_same (sym (ap (shared (values.Fraction whole)) own) ∙ is)) ∙ ap (λ z. product z d) scale, positive)

  quotient : IsQuotient wild_environment path share all_of_it (symbol 1)
  quotient = record { by = λ v m c x scale is. all_of_share (v (Numbered 1)) ((by_place wild_environment path 3 (OfSort (symbol 1) Fractions) refl).by v m) c x (fraction_same scale) is }

  abbrev acquire_store : Store
  acquire_store = stored (stored (call_store (symbol 0 ∷ [])) (Numbered 1) (symbol 1)) (Numbered 2) (symbol 2)

  fresh_acquired : IsFreshIn 3 acquire_store
  fresh_acquired = fresh_stored 3 (stored (call_store (symbol 0 ∷ [])) (Numbered 1) (symbol 1)) (Numbered 2) (symbol 2) (fresh_stored 3 (call_store (symbol 0 ∷ [])) (Numbered 1) (symbol 1) (fresh_call 3 (symbol 0 ∷ []) refl) refl) refl

  acquire_fixed : AreFixed acquisition acquire_store
  acquire_fixed =
      fixed_stored acquisition (stored (call_store (symbol 0 ∷ [])) (Numbered 1) (symbol 1)) (Numbered 2) (symbol 2)
      (fixed_stored acquisition (call_store (symbol 0 ∷ [])) (Numbered 1) (symbol 1) (call_fixed acquisition (symbol 0 ∷ []) refl) (inr (inl refl)))
      (inr (inr (inr (inr (inl refl)))))

  abbrev result_store : Store
  result_store = stored acquire_store Result (symbol 3)

  acquires_it : Goes 0 (at (mutex ∷ []))
  acquires_it =
      do_prelude None (identity_of MutexAcquire) (core.Read 0 somewhere ∷ []) somewhere 1 MutexAcquire acquisition (symbol 0 ∷ []) (record { store = result_store; state = at (held ∷ invariant ∷ []) } ∷ [])
      refl refl acquires refl (closed_sorts_have_values wild_environment acquisition.sorts no_datatypes (tt, (tt, (tt, tt)))) (λ h. refl) (refl, tt) refl (sorted wild_environment path acquisition.sorts (symbol 0 ∷ []) (by_place wild_environment path 0 (OfSort (symbol 0) Pointers) refl, tt)) (
        nothing_bound (call_store (symbol 0 ∷ [])),
        (
          at (mutex ∷ []),
          no_change,
          (
            mutex,
            [],
            symbol 1,
            removes_here,
            quotient,
            refl,
            (by_place wild_environment path 3 (OfSort (symbol 1) Fractions) refl, tt),
            (
              refl,
              (
                name_bound (stored (call_store (symbol 0 ∷ [])) (Numbered 1) (symbol 1)) (Numbered 0) (symbol 0) refl,
                same_self wild_environment path (symbol 0),
                (
                  refl,
                  (by_place wild_environment path 4 (OfSort (symbol 2) invariants) refl, tt),
                  (
                    3,
                    new_symbol 3 all_of_it acquire_store [] (at []) (fresh_state 3 (at []) fresh_three refl refl refl) fresh_acquired refl refl,
                    acquire_fixed,
                    (
                      nothing_bound result_store,
                      (
                        tt,
                        (
                          name_bound result_store (Numbered 0) (symbol 0) refl,
                          (
                            name_bound result_store (Numbered 2) (symbol 2) refl,
                            (
                              name_bound result_store CurrentThread (Variable CurrentThread) refl,
                              (name_bound result_store (Numbered 1) (symbol 1) refl, (name_bound result_store (Numbered 2) (symbol 2) refl, (tt, inl (refl, refl)))),
                            ),
                          ),
                        ),
                      ),
                    ),
                  ),
                ),
              ),
            ),
          ),
        ),
      )
      (λ s st among. among_one (λ s st. Goes 1 st) result_store (at (held ∷ invariant ∷ [])) releases_it s st among)

  pub passing_is_accepted : PassingIsAccepted
  passing_is_accepted = record {
    contract = record { known = inl refl; parameters = refl; fewer = omega arith; inhabited = closed_sorts_have_values wild_environment pass_contract.sorts no_datatypes (tt, (tt, tt)) };
    outs = record { store = named; state = begun } ∷ [];
    produced = (
      nothing_bound (call_store (symbol 0 ∷ [])),
      (
        1,
        new_symbol 1 all_of_it (call_store (symbol 0 ∷ [])) [] (beginning pass pass_contract) (fresh_state 1 (beginning pass pass_contract) (fresh_call 1 (symbol 0 ∷ []) refl) refl refl refl) (fresh_call 1 (symbol 0 ∷ []) refl) refl refl,
        refl,
        (
          name_bound named (Numbered 0) (symbol 0) refl,
          (2, new_symbol 2 all_of_it named (Some share ∷ Some (symbol 0) ∷ []) share_named (fresh_state 2 share_named (fresh_call 2 (symbol 0 ∷ []) refl) refl refl refl) fresh_two refl refl, Some invariants, refl, inl (refl, refl)),
        ),
      ),
    );
    body = λ s st among. among_one (λ s st. Goes 0 (record st { names = s })) named begun acquires_it s st among;
  }
