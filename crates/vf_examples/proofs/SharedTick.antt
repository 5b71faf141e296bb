-- The function of the second thread of the example is accepted: a derivation by the rules.
use Rattle.std.proofs.Common.{◌≡◌, ◌≢◌, ℕ, pos, List, [], ◌∷◌, ◌++◌, Option, Some, None, refl, subst, inl, inr, arith}
use Rattle.vf_base.specs.declared.int_type.IntType.TheVariants as types
use Rattle.vf_tree.specs.Core.{TypeTree, Void, Integer, Field}
use Rattle.vf_tree.specs.Core as core
use Rattle.vf_model.specs.Values.{Odd}
use Rattle.vf_model.specs.PreludeFunctions.{MutexAcquire, MutexRelease, identity_of}
use Rattle.vf_meaning.specs.Fractions.{whole}
use Rattle.vf_meaning.specs.Ghost.{Pointers, Anything, Name, Numbered, Result, CurrentThread, Variable, Null, Number, Function, Fraction, Share, Compare, PredicateValue, and_expression, no_expressions}
use Rattle.vf_meaning.specs.Assertions.{Named, Family, Applied, Plain, Instance}
use Rattle.vf_rules.specs.Terms.{Term, Store, stored}
use Rattle.vf_rules.specs.States.{Fact, Holds, OfSort, CellOf, Of, SymbolicChunk, SymbolicState, facts_of_thread}
use Rattle.vf_rules.specs.Fresh.{symbol, IsFreshIn}
use Rattle.vf_rules.specs.Types.{type_of_field, facts_of_type}
use Rattle.vf_rules.specs.Take.{Renames, takes_all, takes_later, removes_here, removes_later, no_change, and_change, names_value, makes_value, replaces_here, replaces_later}
use Rattle.vf_rules.specs.Consume.{EntailsAll}
use Rattle.vf_rules.specs.Predicates.{store_of, plain, instance, Opens, Closes}
use Rattle.vf_rules.specs.Mutexes.{mutex_name, mutex_held_name, acquisition, release}
use Rattle.vf_rules.specs.Threads.{thread_run_pre, thread_run_post, acquires, releases}
use Rattle.vf_rules.specs.Accept.{all_of_it, AreFixed, call_store, beginning, cell_chunk, HasContract, Accepts, do_load, do_store, do_prelude, do_leave, may_change, may_open, may_close, IsAcceptedFunction}
use Rattle.vf_examples.specs.BoxProgram.{somewhere}
use Rattle.vf_examples.specs.Sharing.{counter_name, count_field, mutex_field, tick_name, guarded_name, tick, Beside, program_beside, guarded_body, shared_body, tick_contract, environment_beside}
use Rattle.vf_examples.proofs.NewSymbols.{fresh_stored, fresh_call, fresh_arguments, fresh_state, new_symbol}
use Rattle.vf_examples.proofs.SharingFacts.{among_one, by_place, by_value, call_fixed, first_bound, fixed_stored, guarded_sorted, half_quotient, half_sorted, inhabited, integer_is_no_void, name_bound, nothing_bound, same_self, some_same, sorted, whole_fraction}

-- ---- terms, chunks and facts
-- a share as it stands where it is written, at the scale 1
abbrev pub written_share : Term
written_share = Share all_of_it (Fraction whole)

abbrev pub half_at : Term → Term
half_at scale = Share scale (Fraction (Odd 0 0))

-- the predicate value of the mutex of a struct
abbrev pub guarded_by : Term → Term
guarded_by t = PredicateValue guarded_name (and_expression t no_expressions)

abbrev pub field_chunk : Term → Field → Term → Option Term → SymbolicChunk
field_chunk share f pointer content = record { share = share; head = CellOf f; arguments = Some pointer ∷ content ∷ [] }

abbrev pub mutex_chunk : Term → Term → Term → SymbolicChunk
mutex_chunk share m q = record { share = share; head = Of (Named mutex_name); arguments = Some m ∷ Some q ∷ [] }

abbrev pub held_chunk : Term → Term → Term → SymbolicChunk
held_chunk m q f = record { share = written_share; head = Of (Named mutex_held_name); arguments = Some m ∷ Some q ∷ Some (Variable CurrentThread) ∷ Some f ∷ [] }

abbrev pub applied_chunk : Term → Term → SymbolicChunk
applied_chunk share q = record { share = share; head = Of (Applied q); arguments = [] }

abbrev pub guarded_chunk : Term → Term → SymbolicChunk
guarded_chunk share c = record { share = share; head = Of (Named guarded_name); arguments = Some c ∷ [] }

abbrev pub pre_chunk : Term → Term → Term → SymbolicChunk
pre_chunk share c info = record { share = share; head = Of (Family thread_run_pre (Function tick_name)); arguments = Some c ∷ Some info ∷ [] }

abbrev pub post_chunk : Term → Term → Term → SymbolicChunk
post_chunk share c info = record { share = share; head = Of (Family thread_run_post (Function tick_name)); arguments = Some c ∷ Some info ∷ [] }

module _ (beside : Beside) where
  -- the rules of the example's functions
  abbrev Goes : ℕ → SymbolicState → Type 0
  Goes n st = Accepts (environment_beside beside) (program_beside beside) tick tick_contract [] [] n st

  -- ---- the states on the way
  abbrev names : Store
  names = stored (call_store (symbol 0 ∷ [])) (Numbered 1) (symbol 1)

  abbrev path0 : List Fact
  path0 = OfSort (symbol 0) Pointers ∷ OfSort (symbol 0) Pointers ∷ facts_of_thread ++ OfSort (symbol 1) Anything ∷ []

  abbrev path1 : List Fact
  path1 = path0 ++ OfSort (symbol 2) Pointers ∷ Holds (Compare core.NotEqual (symbol 0) Null) ∷ OfSort (symbol 2) Pointers ∷ []

  abbrev path2 : List Fact
  path2 = path1 ++ Holds (Compare core.NotEqual (symbol 0) Null) ∷ []

  abbrev at : List (Option Term) → List Fact → List SymbolicChunk → SymbolicState
  at locals path chunks = record { locals = locals; names = names; chunks = chunks; path = path }

  abbrev unloaded : List (Option Term)
  unloaded = Some (symbol 0) ∷ None ∷ []

  abbrev loaded : List (Option Term)
  loaded = Some (symbol 0) ∷ Some (symbol 2) ∷ []

  -- the half of the mutex
  abbrev half_mutex : Term
  half_mutex = half_at written_share

  abbrev cell_half : SymbolicChunk
  cell_half = field_chunk (half_at written_share) mutex_field (symbol 0) (Some (symbol 2))

  abbrev q : Term
  q = guarded_by (symbol 0)

  fresh_three : IsFreshIn 3 names
  fresh_three = fresh_stored 3 (call_store (symbol 0 ∷ [])) (Numbered 1) (symbol 1) (fresh_call 3 (symbol 0 ∷ []) refl) refl

  fresh_four : IsFreshIn 4 names
  fresh_four = fresh_stored 4 (call_store (symbol 0 ∷ [])) (Numbered 1) (symbol 1) (fresh_call 4 (symbol 0 ∷ []) refl) refl

  fresh_two : IsFreshIn 2 names
  fresh_two = fresh_stored 2 (call_store (symbol 0 ∷ [])) (Numbered 1) (symbol 1) (fresh_call 2 (symbol 0 ∷ []) refl) refl

  -- ---- the last step: the struct's half and the mutex's half are left
  abbrev mutex_back : SymbolicChunk
  mutex_back = mutex_chunk (Share all_of_it (Share (Fraction whole) half_mutex)) (symbol 2) q

  abbrev body_store : Store
  body_store = stored (store_of (symbol 0 ∷ symbol 1 ∷ [])) (Numbered 2) (symbol 2)

  closes_post : Closes (environment_beside beside) (program_beside beside) (at loaded path2 (cell_half ∷ mutex_back ∷ [])) (record { store = body_store; state = at loaded path2 (post_chunk all_of_it (symbol 0) (symbol 1) ∷ []) } ∷ [])
  closes_post = record {
    share = all_of_it;
    fraction = whole_fraction (environment_beside beside) path2 all_of_it (λ v. refl);
    name = Instance thread_run_post tick_name;
    openable = tt;
    body = shared_body;
    there = refl;
    arguments = symbol 0 ∷ symbol 1 ∷ [];
    number = refl;
    of_sorts = sorted (environment_beside beside) path2 (Pointers ∷ Anything ∷ Pointers ∷ []) (symbol 0 ∷ symbol 1 ∷ []) (by_place (environment_beside beside) path2 0 (OfSort (symbol 0) Pointers) refl, (by_place (environment_beside beside) path2 3 (OfSort (symbol 1) Anything) refl, tt));
    inhabited = inhabited (environment_beside beside) (inr refl) (Pointers ∷ Anything ∷ Pointers ∷ []) (tt, (tt, (tt, tt)));
    consumed = (
      name_bound (store_of (symbol 0 ∷ symbol 1 ∷ [])) (Numbered 0) (symbol 0) refl,
      (
        at loaded path2 (cell_half ∷ mutex_back ∷ []),
        no_change,
        (
          tt,
          (
            cell_half,
            mutex_back ∷ [],
            takes_all (by_value (environment_beside beside) path2 (half_at all_of_it) (half_at written_share) (λ v. refl)),
            (
              refl,
              (
                symbol 0,
                Some (symbol 2),
                refl,
                same_self (environment_beside beside) path2 (symbol 0),
                (
                  refl,
                  (by_place (environment_beside beside) path2 4 (OfSort (symbol 2) Pointers) refl, tt),
                  (
                    nothing_bound body_store,
                    (
                      at loaded path2 (mutex_back ∷ []),
                      no_change,
                      (
                        tt,
                        (
                          mutex_back,
                          [],
                          takes_all (by_value (environment_beside beside) path2 (half_at all_of_it) (Share all_of_it (Share (Fraction whole) half_mutex)) (λ v. refl)),
                          (refl, (name_bound body_store (Numbered 2) (symbol 2) refl, same_self (environment_beside beside) path2 (symbol 2), (first_bound body_store (Numbered 0) (symbol 0) refl, same_self (environment_beside beside) path2 q, inl (refl, refl)))),
                        ),
                      ),
                    ),
                  ),
                ),
              ),
            ),
          ),
        ),
      ),
    );
  }

  leaves : Goes 4 (at loaded path2 (post_chunk all_of_it (symbol 0) (symbol 1) ∷ []))
  leaves =
      do_leave refl refl (
        nothing_or_function,
        (
          at loaded path2 (post_chunk all_of_it (symbol 0) (symbol 1) ∷ []),
          no_change,
          (
            tt,
            (
              post_chunk all_of_it (symbol 0) (symbol 1),
              [],
              takes_all (by_value (environment_beside beside) path2 written_share all_of_it (λ v. refl)),
              ((refl, same_self (environment_beside beside) path2 (Function tick_name)), (name_bound names (Numbered 0) (symbol 0) refl, same_self (environment_beside beside) path2 (symbol 0), (name_bound names (Numbered 1) (symbol 1) refl, same_self (environment_beside beside) path2 (symbol 1), (refl, λ x t fixed is. is)))),
            ),
          ),
        ),
      )
    where
      nothing_or_function : (x : Name) → ⊥ → (t : Term) × (names x ≡ Some t)
      nothing_or_function x u = absurd u

  shares_left : Goes 4 (at loaded path2 (cell_half ∷ mutex_back ∷ []))
  shares_left = may_close (record { store = body_store; state = at loaded path2 (post_chunk all_of_it (symbol 0) (symbol 1) ∷ []) } ∷ []) closes_post
      (λ s st among. among_one (λ s st. Goes 4 st) body_store (at loaded path2 (post_chunk all_of_it (symbol 0) (symbol 1) ∷ [])) leaves s st among)

  -- ---- the mutex is released
  abbrev held : SymbolicChunk
  held = held_chunk (symbol 2) q half_mutex

  abbrev release_store : Store
  release_store = stored (stored (call_store (symbol 2 ∷ [])) (Numbered 1) q) (Numbered 2) half_mutex

  fresh_released : IsFreshIn 4 release_store
  fresh_released = fresh_stored 4 (stored (call_store (symbol 2 ∷ [])) (Numbered 1) q) (Numbered 2) half_mutex (fresh_stored 4 (call_store (symbol 2 ∷ [])) (Numbered 1) q (fresh_call 4 (symbol 2 ∷ []) refl) refl) refl

  renames : (path : List Fact) (share : Term) → Renames (environment_beside beside) path (applied_chunk share q) (guarded_chunk share (symbol 0))
  renames path share = record { predicate = guarded_name; value = q; first = symbol 0 ∷ []; is = same_self (environment_beside beside) path q; applied_head = refl; named_head = refl; one_share = refl; arguments = refl }

  release_fixed : AreFixed release release_store
  release_fixed =
      fixed_stored release (stored (call_store (symbol 2 ∷ [])) (Numbered 1) q) (Numbered 2) half_mutex
      (fixed_stored release (call_store (symbol 2 ∷ [])) (Numbered 1) q (call_fixed release (symbol 2 ∷ []) refl) (inr (inl (inr (inr (inr (inl refl)))))))
      (inr (inl (inr (inr (inr (inr (inr (inl refl))))))))

  releases_it : Goes 3 (at loaded path2 (cell_half ∷ held ∷ guarded_chunk all_of_it (symbol 0) ∷ []))
  releases_it =
      do_prelude None (identity_of MutexRelease) (core.Read 1 somewhere ∷ []) somewhere 4 MutexRelease release (symbol 2 ∷ []) (record { store = stored release_store Result (symbol 4); state = at loaded path2 (cell_half ∷ mutex_back ∷ []) } ∷ [])
      refl refl releases refl (inhabited (environment_beside beside) (inr refl) release.sorts (tt, (tt, (tt, tt)))) (λ h. refl) (refl, tt) refl (sorted (environment_beside beside) path2 release.sorts (symbol 2 ∷ []) (by_place (environment_beside beside) path2 4 (OfSort (symbol 2) Pointers) refl, tt)) (
        nothing_bound (call_store (symbol 2 ∷ [])),
        (
          at loaded path2 (cell_half ∷ held ∷ guarded_chunk all_of_it (symbol 0) ∷ []),
          no_change,
          (
            tt,
            (
              held,
              cell_half ∷ guarded_chunk all_of_it (symbol 0) ∷ [],
              takes_later (takes_all (same_self (environment_beside beside) path2 written_share)),
              (
                refl,
                (
                  name_bound (call_store (symbol 2 ∷ [])) (Numbered 0) (symbol 2) refl,
                  same_self (environment_beside beside) path2 (symbol 2),
                  (
                    refl,
                    (guarded_sorted (environment_beside beside) (inr refl) path2 (symbol 0) (by_place (environment_beside beside) path2 0 (OfSort (symbol 0) Pointers) refl), tt),
                    (
                      name_bound (stored (call_store (symbol 2 ∷ [])) (Numbered 1) q) CurrentThread (Variable CurrentThread) refl,
                      same_self (environment_beside beside) path2 (Variable CurrentThread),
                      (
                        refl,
                        (half_sorted (environment_beside beside) path2 half_mutex (λ v. refl), tt),
                        (
                          name_bound release_store (Numbered 1) q refl,
                          (
                            at loaded path2 (cell_half ∷ applied_chunk all_of_it q ∷ []),
                            and_change (makes_value (guarded_chunk all_of_it (symbol 0)) (applied_chunk all_of_it q) (cell_half ∷ applied_chunk all_of_it q ∷ []) (renames path2 all_of_it) (replaces_later replaces_here)) no_change,
                            (
                              tt,
                              (
                                applied_chunk all_of_it q,
                                cell_half ∷ [],
                                takes_later (takes_all (by_value (environment_beside beside) path2 written_share all_of_it (λ v. refl))),
                                (
                                  same_self (environment_beside beside) path2 q,
                                  (
                                    4,
                                    new_symbol 4 all_of_it release_store [] (at loaded path2 (cell_half ∷ [])) (fresh_state 4 (at loaded path2 (cell_half ∷ [])) fresh_four refl refl refl) fresh_released refl refl,
                                    release_fixed,
                                    (nothing_bound (stored release_store Result (symbol 4)), (((half_mutex, refl), tt), (name_bound (stored release_store Result (symbol 4)) (Numbered 0) (symbol 2) refl, (name_bound (stored release_store Result (symbol 4)) (Numbered 1) q refl, inl (refl, refl))))),
                                  ),
                                ),
                              ),
                            ),
                          ),
                        ),
                      ),
                    ),
                  ),
                ),
              ),
            ),
          ),
        ),
      )
      (λ s st among. among_one (λ s st. Goes 4 st) (stored release_store Result (symbol 4)) (at loaded path2 (cell_half ∷ mutex_back ∷ [])) shares_left s st among)

  -- ---- the field is written
  abbrev written_cell : SymbolicChunk
  written_cell = cell_chunk count_field (symbol 0) (Some (Number (pos 7)))

  abbrev opened_cell : SymbolicChunk
  opened_cell = field_chunk (Share written_share (Fraction whole)) count_field (symbol 0) None

  closes_guarded : Closes (environment_beside beside) (program_beside beside) (at loaded path2 (cell_half ∷ held ∷ written_cell ∷ [])) (record { store = store_of (symbol 0 ∷ []); state = at loaded path2 (cell_half ∷ held ∷ guarded_chunk all_of_it (symbol 0) ∷ []) } ∷ [])
  closes_guarded = record {
    share = all_of_it;
    fraction = whole_fraction (environment_beside beside) path2 all_of_it (λ v. refl);
    name = Plain guarded_name;
    openable = refl;
    body = guarded_body;
    there = refl;
    arguments = symbol 0 ∷ [];
    number = refl;
    of_sorts = sorted (environment_beside beside) path2 (Pointers ∷ []) (symbol 0 ∷ []) (by_place (environment_beside beside) path2 0 (OfSort (symbol 0) Pointers) refl, tt);
    inhabited = inhabited (environment_beside beside) (inr refl) (Pointers ∷ []) (tt, tt);
    consumed = (
      name_bound (store_of (symbol 0 ∷ [])) (Numbered 0) (symbol 0) refl,
      (
        at loaded path2 (cell_half ∷ held ∷ written_cell ∷ []),
        no_change,
        (
          tt,
          (
            written_cell,
            cell_half ∷ held ∷ [],
            takes_later (takes_later (takes_all (by_value (environment_beside beside) path2 written_share all_of_it (λ v. refl)))),
            (refl, (symbol 0, Some (Number (pos 7)), refl, same_self (environment_beside beside) path2 (symbol 0), inl (refl, refl))),
          ),
        ),
      ),
    );
  }

  number_facts : (path : List Fact) → EntailsAll (environment_beside beside) path (facts_of_type (Integer types.Int) (Number (pos 7)))
  number_facts path = (record { by = λ v m. inl refl }, (record { by = λ v m. refl }, (record { by = λ v m. refl }, tt)))

  number_fits : (path : List Fact) (type : TypeTree) → type_of_field (program_beside beside) counter_name 0 ≡ Some type → EntailsAll (environment_beside beside) path (facts_of_type type (Number (pos 7))) × (type ≢ Void)
  number_fits path type is = subst (λ z. EntailsAll (environment_beside beside) path (facts_of_type z (Number (pos 7))) × (z ≢ Void)) (some_same is) (number_facts path, integer_is_no_void)

  closes_it : Goes 3 (at loaded path2 (cell_half ∷ held ∷ written_cell ∷ []))
  closes_it = may_close (record { store = store_of (symbol 0 ∷ []); state = at loaded path2 (cell_half ∷ held ∷ guarded_chunk all_of_it (symbol 0) ∷ []) } ∷ []) closes_guarded
      (λ s st among. among_one (λ s st. Goes 3 st) (store_of (symbol 0 ∷ [])) (at loaded path2 (cell_half ∷ held ∷ guarded_chunk all_of_it (symbol 0) ∷ [])) releases_it s st among)

  writes : Goes 2 (at loaded path2 (cell_half ∷ held ∷ opened_cell ∷ []))
  writes =
      do_store (core.Read 0 somewhere) (core.Number (pos 7)) count_field somewhere 3 (symbol 0) (symbol 0) (Number (pos 7)) None opened_cell (cell_half ∷ held ∷ []) refl refl refl
      (takes_later (takes_later (takes_all (by_value (environment_beside beside) path2 all_of_it (Share written_share (Fraction whole)) (λ v. refl))))) refl refl (same_self (environment_beside beside) path2 (symbol 0)) (number_fits path2) closes_it

  opens_guarded : Opens (environment_beside beside) (program_beside beside) (at loaded path1 (cell_half ∷ held ∷ guarded_chunk written_share (symbol 0) ∷ [])) (record { store = store_of (symbol 0 ∷ []); state = at loaded path2 (cell_half ∷ held ∷ opened_cell ∷ []) } ∷ [])
  opens_guarded = record {
    chunk = guarded_chunk written_share (symbol 0);
    others = cell_half ∷ held ∷ [];
    share = written_share;
    taken = takes_later (takes_later (takes_all (same_self (environment_beside beside) path1 written_share)));
    head = Named guarded_name;
    head_is = refl;
    name = Plain guarded_name;
    of_head = plain guarded_name refl;
    body = guarded_body;
    there = refl;
    arguments = symbol 0 ∷ [];
    arguments_are = refl;
    number = refl;
    produced = (name_bound (store_of (symbol 0 ∷ [])) (Numbered 0) (symbol 0) refl, (tt, inl (refl, refl)));
  }

  opens_it : Goes 2 (at loaded path1 (cell_half ∷ held ∷ guarded_chunk written_share (symbol 0) ∷ []))
  opens_it = may_open (record { store = store_of (symbol 0 ∷ []); state = at loaded path2 (cell_half ∷ held ∷ opened_cell ∷ []) } ∷ []) opens_guarded
      (λ s st among. among_one (λ s st. Goes 2 st) (store_of (symbol 0 ∷ [])) (at loaded path2 (cell_half ∷ held ∷ opened_cell ∷ [])) writes s st among)

  named_it : Goes 2 (at loaded path1 (cell_half ∷ held ∷ applied_chunk written_share q ∷ []))
  named_it = may_change (and_change (names_value (applied_chunk written_share q) (guarded_chunk written_share (symbol 0)) (cell_half ∷ held ∷ guarded_chunk written_share (symbol 0) ∷ []) (renames path1 written_share) (replaces_later (replaces_later replaces_here))) no_change) opens_it

  -- ---- the mutex is acquired
  abbrev mutex_half : SymbolicChunk
  mutex_half = mutex_chunk half_mutex (symbol 2) q

  abbrev acquire_store : Store
  acquire_store = stored (stored (call_store (symbol 2 ∷ [])) (Numbered 1) half_mutex) (Numbered 2) q

  fresh_acquired : IsFreshIn 3 acquire_store
  fresh_acquired = fresh_stored 3 (stored (call_store (symbol 2 ∷ [])) (Numbered 1) half_mutex) (Numbered 2) q (fresh_stored 3 (call_store (symbol 2 ∷ [])) (Numbered 1) half_mutex (fresh_call 3 (symbol 2 ∷ []) refl) refl) refl

  acquire_fixed : AreFixed acquisition acquire_store
  acquire_fixed =
      fixed_stored acquisition (stored (call_store (symbol 2 ∷ [])) (Numbered 1) half_mutex) (Numbered 2) q
      (fixed_stored acquisition (call_store (symbol 2 ∷ [])) (Numbered 1) half_mutex (call_fixed acquisition (symbol 2 ∷ []) refl) (inr (inl refl)))
      (inr (inr (inr (inr (inl refl)))))

  acquires_it : Goes 1 (at loaded path1 (cell_half ∷ mutex_half ∷ []))
  acquires_it =
      do_prelude None (identity_of MutexAcquire) (core.Read 1 somewhere ∷ []) somewhere 2 MutexAcquire acquisition (symbol 2 ∷ []) (record { store = stored acquire_store Result (symbol 3); state = at loaded path1 (cell_half ∷ held ∷ applied_chunk written_share q ∷ []) } ∷ [])
      refl refl acquires refl (inhabited (environment_beside beside) (inr refl) acquisition.sorts (tt, (tt, (tt, tt)))) (λ h. refl) (refl, tt) refl (sorted (environment_beside beside) path1 acquisition.sorts (symbol 2 ∷ []) (by_place (environment_beside beside) path1 4 (OfSort (symbol 2) Pointers) refl, tt)) (
        nothing_bound (call_store (symbol 2 ∷ [])),
        (
          at loaded path1 (cell_half ∷ mutex_half ∷ []),
          no_change,
          (
            mutex_half,
            cell_half ∷ [],
            half_mutex,
            removes_later removes_here,
            half_quotient (environment_beside beside) path1 half_mutex (λ v. refl),
            refl,
            (half_sorted (environment_beside beside) path1 half_mutex (λ v. refl), tt),
            (
              refl,
              (
                name_bound (stored (call_store (symbol 2 ∷ [])) (Numbered 1) half_mutex) (Numbered 0) (symbol 2) refl,
                same_self (environment_beside beside) path1 (symbol 2),
                (
                  refl,
                  (guarded_sorted (environment_beside beside) (inr refl) path1 (symbol 0) (by_place (environment_beside beside) path1 0 (OfSort (symbol 0) Pointers) refl), tt),
                  (
                    3,
                    new_symbol 3 all_of_it acquire_store [] (at loaded path1 (cell_half ∷ [])) (fresh_state 3 (at loaded path1 (cell_half ∷ [])) fresh_three refl refl refl) fresh_acquired refl refl,
                    acquire_fixed,
                    (
                      nothing_bound result_store,
                      (
                        tt,
                        (
                          name_bound result_store (Numbered 0) (symbol 2) refl,
                          (
                            name_bound result_store (Numbered 2) q refl,
                            (
                              name_bound result_store CurrentThread (Variable CurrentThread) refl,
                              (
                                name_bound result_store (Numbered 1) half_mutex refl,
                                (name_bound result_store (Numbered 2) q refl, (tt, inl (refl, refl))),
                              ),
                            ),
                          ),
                        ),
                      ),
                    ),
                  ),
                ),
              ),
            ),
          ),
        ),
      )
      (λ s st among. among_one (λ s st. Goes 2 st) (stored acquire_store Result (symbol 3)) (at loaded path1 (cell_half ∷ held ∷ applied_chunk written_share q ∷ [])) named_it s st among)
    where
      result_store : Store
      result_store = stored acquire_store Result (symbol 3)

  -- ---- the beginning
  loads : Goes 0 (at unloaded path1 (cell_half ∷ mutex_half ∷ []))
  loads = do_load 1 (core.Read 0 somewhere) mutex_field somewhere 1 (symbol 0) (symbol 0) (symbol 2) cell_half (mutex_half ∷ []) refl refl removes_here refl refl (same_self (environment_beside beside) path1 (symbol 0)) acquires_it

  abbrev begun : SymbolicState
  begun = at unloaded path0 (pre_chunk written_share (symbol 0) (symbol 1) ∷ [])

  opens_pre : Opens (environment_beside beside) (program_beside beside) begun (record { store = body_store; state = at unloaded path1 (cell_half ∷ mutex_half ∷ []) } ∷ [])
  opens_pre = record {
    chunk = pre_chunk written_share (symbol 0) (symbol 1);
    others = [];
    share = written_share;
    taken = takes_all (same_self (environment_beside beside) path0 written_share);
    head = Family thread_run_pre (Function tick_name);
    head_is = refl;
    name = Instance thread_run_pre tick_name;
    of_head = instance thread_run_pre (Function tick_name) tick_name (same_self (environment_beside beside) path0 (Function tick_name));
    body = shared_body;
    there = refl;
    arguments = symbol 0 ∷ symbol 1 ∷ [];
    arguments_are = refl;
    number = refl;
    produced = (
      name_bound (store_of (symbol 0 ∷ symbol 1 ∷ [])) (Numbered 0) (symbol 0) refl,
      (
        tt,
        (
          2,
          new_symbol 2 written_share (store_of (symbol 0 ∷ symbol 1 ∷ [])) (Some (half_at written_share) ∷ Some (symbol 0) ∷ []) (at unloaded path0 []) (fresh_state 2 (at unloaded path0 []) fresh_two refl refl refl) (fresh_arguments 2 (symbol 0 ∷ symbol 1 ∷ []) refl) refl refl,
          refl,
          (nothing_bound body_store, (tt, (name_bound body_store (Numbered 2) (symbol 2) refl, (first_bound body_store (Numbered 0) (symbol 0) refl, inl (refl, refl))))),
        ),
      ),
    );
  }

  body : Goes 0 begun
  body = may_open (record { store = body_store; state = at unloaded path1 (cell_half ∷ mutex_half ∷ []) } ∷ []) opens_pre
      (λ s st among. among_one (λ s st. Goes 0 st) body_store (at unloaded path1 (cell_half ∷ mutex_half ∷ [])) loads s st among)

  abbrev pub tick_begun : SymbolicState
  tick_begun = record { locals = unloaded; names = call_store (symbol 0 ∷ []); chunks = pre_chunk written_share (symbol 0) (symbol 1) ∷ []; path = path0 }

  pub tick_has : HasContract (environment_beside beside) tick tick_contract
  tick_has = record { known = inl refl; parameters = refl; fewer = omega arith; inhabited = inhabited (environment_beside beside) (inr refl) tick_contract.sorts (tt, (tt, tt)) }

  pub tick_accepted : IsAcceptedFunction (environment_beside beside) (program_beside beside) tick tick_contract
  tick_accepted = record {
    contract = tick_has;
    outs = record { store = names; state = tick_begun } ∷ [];
    produced = (
      nothing_bound (call_store (symbol 0 ∷ [])),
      (
        tt,
        (
          name_bound (call_store (symbol 0 ∷ [])) (Numbered 0) (symbol 0) refl,
          (
            1,
            new_symbol 1 all_of_it (call_store (symbol 0 ∷ [])) (Some written_share ∷ Some (symbol 0) ∷ []) (beginning tick tick_contract) (fresh_state 1 (beginning tick tick_contract) (fresh_call 1 (symbol 0 ∷ []) refl) refl refl refl) (fresh_call 1 (symbol 0 ∷ []) refl) refl refl,
            refl,
            inl (refl, refl),
          ),
        ),
      ),
    );
    body = λ s st among. among_one (λ s st. Goes 0 (record st { names = s })) names tick_begun body s st among;
  }
