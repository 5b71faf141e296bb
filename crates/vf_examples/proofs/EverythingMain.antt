-- Main of the example with everything is accepted, and so is the program: a derivation by the rules.
use Rattle.std.specs.Prelude.{IsTrue, ◌&&◌}
use Rattle.std.proofs.Common.{◌≡◌, ◌≢◌, zero, suc, pos, Bool, true, false, cond, not, List, [], ◌∷◌, Some, None, refl, sym, ap, subst, ◌∙◌, inl, inr, arith}
use Rattle.std.proofs.lemmas.Bool.{false≢true}
use Rattle.vf_tree.specs.Core.{Identity, TypeTree, Void, PointerToStruct}
use Rattle.vf_tree.specs.Core as core
use Rattle.vf_model.specs.Values.{same_identity}
use Rattle.vf_model.specs.Values as values
use Rattle.vf_model.specs.PreludeFunctions.{Abort, ThreadStartJoinable, CreateMutex, MutexAcquire, MutexRelease, identity_of, run_signature}
use Rattle.vf_model.proofs.Equality.{identities_told}
use Rattle.vf_meaning.specs.Fractions.{whole}
use Rattle.vf_meaning.specs.Ghost.{Pointers, Anything, Numbered, Result, CurrentThread, Variable, Null, Number, Truth, Function, Fraction, Share, Compare, Integers}
use Rattle.vf_meaning.specs.Valuations.{is_same}
use Rattle.vf_meaning.specs.Assertions.{ContractTree, Named, Plain, Instance}
use Rattle.vf_rules.specs.Terms.{Term, Store, stored}
use Rattle.vf_rules.specs.States.{Fact, Holds, OfSort, Of, SymbolicChunk}
use Rattle.vf_rules.specs.Fresh.{symbol, IsFreshIn}
use Rattle.vf_rules.specs.Types.{type_of_field, facts_of_type}
use Rattle.vf_rules.specs.Take.{takes_all, takes_part, takes_later, removes_here, removes_later, no_change, and_change, makes_value, replaces_here, replaces_later}
use Rattle.vf_rules.specs.Consume.{EntailsAll}
use Rattle.vf_rules.specs.Predicates.{store_of, Closes}
use Rattle.vf_rules.specs.Mutexes.{create_mutex_ghost_arg_name, ghost_arg_body, invariants, creation, acquisition, release}
use Rattle.vf_rules.specs.Threads.{thread_run_pre, thread_run_joinable, run_joinable, start_joinable, HasSignature, IsRunType, creates, acquires, releases, starts_joinable}
use Rattle.vf_rules.specs.Claims.{KeepsClaim}
use Rattle.vf_rules.specs.Accept.{all_of_it, AreFixed, call_store, cell_chunk, HasContract, do_allocate, do_if, do_abort, do_store, do_prelude, may_drop, may_close, IsAcceptedFunction}
use Rattle.vf_rules.specs.GhostSteps.{no_step}
use Rattle.vf_safety.specs.Laws.{AreAccepted}
use Rattle.vf_examples.specs.BoxProgram.{somewhere, box_contract}
use Rattle.vf_examples.specs.Sharing.{counter_name, count_field, mutex_field, tick_name, tick, shared_body, tick_contract}
use Rattle.vf_examples.specs.Everything.{with_list, everything_main, everything_program, everything_environment, EverythingIsAccepted}
use Rattle.vf_examples.proofs.NewSymbols.{fresh_stored, fresh_call, fresh_state, new_symbol}
use Rattle.vf_examples.proofs.SharingFacts.{among_one, by_place, by_value, call_fixed, first_bound, fixed_stored, guarded_sorted, half_quotient, half_sorted, halves, inhabited, integer_is_no_void, name_bound, none_some, nothing_bound, same_self, some_same, sorted, whole_fraction}
use Rattle.vf_examples.proofs.SharedTick.{written_share, half_at, mutex_chunk, applied_chunk, guarded_chunk, pre_chunk}
use Rattle.vf_examples.proofs.SharedTick.{tick_has, tick_accepted}
use Rattle.vf_examples.proofs.SharedStates.{path1, path2, path3, path4, q, at, info, half_left, block, cell_half, cell_all, thread_chunk, held, opened_cell, mutex_back, fresh}
use Rattle.vf_examples.proofs.EverythingLoop.{Goes}
use Rattle.vf_examples.proofs.EverythingEnd.{one_local, two_locals, three_locals, renames, number_facts, takes_last, opened_last, closed_so, joins_it, function_sorted, info_sorted}
use Rattle.vf_examples.proofs.SharedClaim.{refines}
use Rattle.vf_examples.proofs.Defined.{only_defined}

-- ---- the mutex is released
abbrev release_store : Store
release_store = stored (stored (call_store (symbol 1 ∷ [])) (Numbered 1) q) (Numbered 2) half_left

fresh_released : IsFreshIn 4 release_store
fresh_released = fresh_stored 4 (stored (call_store (symbol 1 ∷ [])) (Numbered 1) q) (Numbered 2) half_left (fresh_stored 4 (call_store (symbol 1 ∷ [])) (Numbered 1) q (fresh_call 4 (symbol 1 ∷ []) refl) refl) refl

release_fixed : AreFixed release release_store
release_fixed =
    fixed_stored release (stored (call_store (symbol 1 ∷ [])) (Numbered 1) q) (Numbered 2) half_left
    (fixed_stored release (call_store (symbol 1 ∷ [])) (Numbered 1) q (call_fixed release (symbol 1 ∷ []) refl) (inr (inl (inr (inr (inr (inl refl)))))))
    (inr (inl (inr (inr (inr (inr (inr (inl refl))))))))

releases_it : Goes 8 (at three_locals path4 (block ∷ cell_half ∷ thread_chunk ∷ held ∷ guarded_chunk all_of_it (symbol 0) ∷ []))
releases_it =
    do_prelude None (identity_of MutexRelease) (core.Read 1 somewhere ∷ []) somewhere 9 MutexRelease release (symbol 1 ∷ [])
    (record { store = stored release_store Result (symbol 4); state = at three_locals path4 (block ∷ cell_half ∷ thread_chunk ∷ mutex_back ∷ []) } ∷ [])
    refl refl releases refl (inhabited everything_environment (inr refl) release.sorts (tt, (tt, (tt, tt)))) (λ h. refl) (refl, tt) refl (sorted everything_environment path4 release.sorts (symbol 1 ∷ []) (by_place everything_environment path4 5 (OfSort (symbol 1) Pointers) refl, tt)) (
      nothing_bound (call_store (symbol 1 ∷ [])),
      (
        at three_locals path4 (block ∷ cell_half ∷ thread_chunk ∷ held ∷ guarded_chunk all_of_it (symbol 0) ∷ []),
        no_change,
        (
          tt,
          (
            held,
            block ∷ cell_half ∷ thread_chunk ∷ guarded_chunk all_of_it (symbol 0) ∷ [],
            takes_later (takes_later (takes_later (takes_all (same_self everything_environment path4 written_share)))),
            (
              refl,
              (
                name_bound (call_store (symbol 1 ∷ [])) (Numbered 0) (symbol 1) refl,
                same_self everything_environment path4 (symbol 1),
                (
                  refl,
                  (guarded_sorted everything_environment (inr refl) path4 (symbol 0) (by_place everything_environment path4 2 (OfSort (symbol 0) Pointers) refl), tt),
                  (
                    name_bound (stored (call_store (symbol 1 ∷ [])) (Numbered 1) q) CurrentThread (Variable CurrentThread) refl,
                    same_self everything_environment path4 (Variable CurrentThread),
                    (
                      refl,
                      (half_sorted everything_environment path4 half_left (λ v. refl), tt),
                      (
                        name_bound release_store (Numbered 1) q refl,
                        (
                          at three_locals path4 (block ∷ cell_half ∷ thread_chunk ∷ applied_chunk all_of_it q ∷ []),
                          and_change (makes_value (guarded_chunk all_of_it (symbol 0)) (applied_chunk all_of_it q) (block ∷ cell_half ∷ thread_chunk ∷ applied_chunk all_of_it q ∷ []) (renames path4 all_of_it) (replaces_later (replaces_later (replaces_later replaces_here)))) no_change,
                          (
                            tt,
                            (
                              applied_chunk all_of_it q,
                              block ∷ cell_half ∷ thread_chunk ∷ [],
                              takes_later (takes_later (takes_later (takes_all (by_value everything_environment path4 written_share all_of_it (λ v. refl))))),
                              (
                                same_self everything_environment path4 q,
                                (
                                  4,
                                  new_symbol 4 all_of_it release_store [] (at three_locals path4 (block ∷ cell_half ∷ thread_chunk ∷ [])) (fresh_state 4 (at three_locals path4 (block ∷ cell_half ∷ thread_chunk ∷ [])) (fresh 4) refl refl refl) fresh_released refl refl,
                                  release_fixed,
                                  (nothing_bound (stored release_store Result (symbol 4)), (((half_left, refl), tt), (name_bound (stored release_store Result (symbol 4)) (Numbered 0) (symbol 1) refl, (name_bound (stored release_store Result (symbol 4)) (Numbered 1) q refl, inl (refl, refl))))),
                                ),
                              ),
                            ),
                          ),
                        ),
                      ),
                    ),
                  ),
                ),
              ),
            ),
          ),
        ),
      ),
    )
    (λ s st among. among_one (λ s st. Goes 9 st) (stored release_store Result (symbol 4)) (at three_locals path4 (block ∷ cell_half ∷ thread_chunk ∷ mutex_back ∷ [])) joins_it s st among)

-- ---- the field is written while the mutex is held
number_fits : (path : List Fact) (type : TypeTree) → type_of_field everything_program counter_name 0 ≡ Some type → EntailsAll everything_environment path (facts_of_type type (Number (pos 5))) × (type ≢ Void)
number_fits path type is = subst (λ z. EntailsAll everything_environment path (facts_of_type z (Number (pos 5))) × (z ≢ Void)) (some_same is) (number_facts path 5 (inl refl), integer_is_no_void)

closes_it : Goes 8 (at three_locals path4 (block ∷ cell_half ∷ thread_chunk ∷ held ∷ cell_chunk count_field (symbol 0) (Some (Number (pos 5))) ∷ []))
closes_it =
    closed_so 8 path4 three_locals (block ∷ cell_half ∷ thread_chunk ∷ held ∷ cell_chunk count_field (symbol 0) (Some (Number (pos 5))) ∷ []) (block ∷ cell_half ∷ thread_chunk ∷ held ∷ []) (Some (Number (pos 5))) (by_place everything_environment path4 2 (OfSort (symbol 0) Pointers) refl)
    (takes_last path4 written_share (cell_chunk count_field (symbol 0) (Some (Number (pos 5)))) (block ∷ cell_half ∷ thread_chunk ∷ held ∷ []) (by_value everything_environment path4 written_share all_of_it (λ v. refl))) releases_it

writes : Goes 7 (at three_locals path4 (block ∷ cell_half ∷ thread_chunk ∷ held ∷ opened_cell ∷ []))
writes =
    do_store (core.Read 0 somewhere) (core.Number (pos 5)) count_field somewhere 8 (symbol 0) (symbol 0) (Number (pos 5)) None opened_cell (block ∷ cell_half ∷ thread_chunk ∷ held ∷ []) refl refl refl
    (takes_last path4 all_of_it opened_cell (block ∷ cell_half ∷ thread_chunk ∷ held ∷ []) (by_value everything_environment path4 all_of_it (Share written_share (Fraction whole)) (λ v. refl))) refl refl (same_self everything_environment path4 (symbol 0)) (number_fits path4) closes_it

opens_it : Goes 7 (at three_locals path3 (block ∷ cell_half ∷ thread_chunk ∷ held ∷ applied_chunk written_share q ∷ []))
opens_it = opened_last 7 path3 three_locals (block ∷ cell_half ∷ thread_chunk ∷ held ∷ []) writes

-- ---- the mutex is acquired
abbrev mutex_half : SymbolicChunk
mutex_half = mutex_chunk half_left (symbol 1) q

abbrev acquire_store : Store
acquire_store = stored (stored (call_store (symbol 1 ∷ [])) (Numbered 1) half_left) (Numbered 2) q

fresh_acquired : IsFreshIn 3 acquire_store
fresh_acquired = fresh_stored 3 (stored (call_store (symbol 1 ∷ [])) (Numbered 1) half_left) (Numbered 2) q (fresh_stored 3 (call_store (symbol 1 ∷ [])) (Numbered 1) half_left (fresh_call 3 (symbol 1 ∷ []) refl) refl) refl

acquire_fixed : AreFixed acquisition acquire_store
acquire_fixed =
    fixed_stored acquisition (stored (call_store (symbol 1 ∷ [])) (Numbered 1) half_left) (Numbered 2) q
    (fixed_stored acquisition (call_store (symbol 1 ∷ [])) (Numbered 1) half_left (call_fixed acquisition (symbol 1 ∷ []) refl) (inr (inl refl)))
    (inr (inr (inr (inr (inl refl)))))

acquires_it : Goes 6 (at three_locals path3 (block ∷ mutex_half ∷ cell_half ∷ thread_chunk ∷ []))
acquires_it =
    do_prelude None (identity_of MutexAcquire) (core.Read 1 somewhere ∷ []) somewhere 7 MutexAcquire acquisition (symbol 1 ∷ [])
    (record { store = stored acquire_store Result (symbol 3); state = at three_locals path3 (block ∷ cell_half ∷ thread_chunk ∷ held ∷ applied_chunk written_share q ∷ []) } ∷ [])
    refl refl acquires refl (inhabited everything_environment (inr refl) acquisition.sorts (tt, (tt, (tt, tt)))) (λ h. refl) (refl, tt) refl (sorted everything_environment path3 acquisition.sorts (symbol 1 ∷ []) (by_place everything_environment path3 5 (OfSort (symbol 1) Pointers) refl, tt)) (
      nothing_bound (call_store (symbol 1 ∷ [])),
      (
        at three_locals path3 (block ∷ mutex_half ∷ cell_half ∷ thread_chunk ∷ []),
        no_change,
        (
          mutex_half,
          block ∷ cell_half ∷ thread_chunk ∷ [],
          half_left,
          removes_later removes_here,
          half_quotient everything_environment path3 half_left (λ v. refl),
          refl,
          (half_sorted everything_environment path3 half_left (λ v. refl), tt),
          (
            refl,
            (
              name_bound (stored (call_store (symbol 1 ∷ [])) (Numbered 1) half_left) (Numbered 0) (symbol 1) refl,
              same_self everything_environment path3 (symbol 1),
              (
                refl,
                (guarded_sorted everything_environment (inr refl) path3 (symbol 0) (by_place everything_environment path3 2 (OfSort (symbol 0) Pointers) refl), tt),
                (
                  3,
                  new_symbol 3 all_of_it acquire_store [] (at three_locals path3 (block ∷ cell_half ∷ thread_chunk ∷ [])) (fresh_state 3 (at three_locals path3 (block ∷ cell_half ∷ thread_chunk ∷ [])) (fresh 3) refl refl refl) fresh_acquired refl refl,
                  acquire_fixed,
                  (
                    nothing_bound result_store,
                    (
                      tt,
                      (
                        name_bound result_store (Numbered 0) (symbol 1) refl,
                        (
                          name_bound result_store (Numbered 2) q refl,
                          (
                            name_bound result_store CurrentThread (Variable CurrentThread) refl,
                            (
                              name_bound result_store (Numbered 1) half_left refl,
                              (name_bound result_store (Numbered 2) q refl, (tt, inl (refl, refl))),
                            ),
                          ),
                        ),
                      ),
                    ),
                  ),
                ),
              ),
            ),
          ),
        ),
      ),
    )
    (λ s st among. among_one (λ s st. Goes 7 st) (stored acquire_store Result (symbol 3)) (at three_locals path3 (block ∷ cell_half ∷ thread_chunk ∷ held ∷ applied_chunk written_share q ∷ [])) opens_it s st among)
  where
    result_store : Store
    result_store = stored acquire_store Result (symbol 3)

-- ---- the thread is started
pointer_no_void : {g : Identity} → PointerToStruct g ≡ Void → ⊥
pointer_no_void h = cc

abbrev start_terms : List Term
start_terms = Function tick_name ∷ symbol 0 ∷ []

abbrev start_store : Store
start_store = stored (call_store start_terms) (Numbered 2) info

is_run_type : IsRunType everything_environment everything_program thread_run_joinable run_joinable
is_run_type = record { of_type = refl; claimants = λ g claimed. subst (λ z. HasSignature everything_program z run_signature) (sym ((identities_told g tick_name).0 (and_left (same_identity g tick_name) _ claimed))) of_tick }
  where
    and_left : (a b : Bool) → IsTrue (a && b) → IsTrue a
    and_left true b h = refl
    and_left false b h = absurd (false≢true h)

    of_tick : HasSignature everything_program tick_name run_signature
    of_tick = record { outside = refl; number = 1; function = tick; named = refl; is = refl; signature_is = refl }

starts_it : Goes 5 (at two_locals path2 (block ∷ mutex_half ∷ cell_half ∷ pre_chunk all_of_it (symbol 0) info ∷ []))
starts_it =
    do_prelude (Some 2) (identity_of ThreadStartJoinable) (core.Function tick_name ∷ core.Read 0 somewhere ∷ []) somewhere 6 ThreadStartJoinable start_joinable start_terms
    (record { store = stored start_store Result (symbol 2); state = at three_locals path3 (block ∷ mutex_half ∷ cell_half ∷ thread_chunk ∷ []) } ∷ [])
    refl refl (starts_joinable is_run_type) refl (inhabited everything_environment (inr refl) start_joinable.sorts (tt, (tt, (tt, tt)))) (λ h. absurd (pointer_no_void h)) (refl, (refl, tt)) refl
    (sorted everything_environment path2 start_joinable.sorts start_terms (function_sorted path2, (by_place everything_environment path2 2 (OfSort (symbol 0) Pointers) refl, tt))) (
      name_bound (call_store start_terms) (Numbered 0) (Function tick_name) refl,
      record { by = λ v m. refl },
      (
        name_bound (call_store start_terms) (Numbered 0) (Function tick_name) refl,
        (
          at two_locals path2 (block ∷ mutex_half ∷ cell_half ∷ pre_chunk all_of_it (symbol 0) info ∷ []),
          no_change,
          (
            tt,
            (
              pre_chunk all_of_it (symbol 0) info,
              block ∷ mutex_half ∷ cell_half ∷ [],
              takes_later (takes_later (takes_later (takes_all (by_value everything_environment path2 written_share all_of_it (λ v. refl))))),
              (
                (refl, same_self everything_environment path2 (Function tick_name)),
                (
                  name_bound (call_store start_terms) (Numbered 1) (symbol 0) refl,
                  same_self everything_environment path2 (symbol 0),
                  (
                    refl,
                    (info_sorted path2, tt),
                    (
                      2,
                      new_symbol 2 all_of_it start_store [] (at two_locals path2 (block ∷ mutex_half ∷ cell_half ∷ [])) (fresh_state 2 (at two_locals path2 (block ∷ mutex_half ∷ cell_half ∷ [])) (fresh 2) refl refl refl) (fresh_stored 2 (call_store start_terms) (Numbered 2) info (fresh_call 2 start_terms refl) refl) refl refl,
                      fixed_stored start_joinable (call_store start_terms) (Numbered 2) info (call_fixed start_joinable start_terms refl) (inr (inr (inr (inr (inr (inl refl)))))),
                      (nothing_bound result_store, (tt, (name_bound result_store Result (symbol 2) refl, (name_bound result_store (Numbered 0) (Function tick_name) refl, (name_bound result_store (Numbered 1) (symbol 0) refl, (name_bound result_store (Numbered 2) info refl, inl (refl, refl))))))),
                    ),
                  ),
                ),
              ),
            ),
          ),
        ),
      ),
    )
    (λ s st among. among_one (λ s st. Goes 6 st) (stored start_store Result (symbol 2)) (at three_locals path3 (block ∷ mutex_half ∷ cell_half ∷ thread_chunk ∷ [])) acquires_it s st among)
  where
    result_store : Store
    result_store = stored start_store Result (symbol 2)

-- ---- half of the cell and half of the mutex are for the thread
abbrev pre_store : Store
pre_store = stored (store_of (symbol 0 ∷ info ∷ [])) (Numbered 2) (symbol 1)

abbrev mutex_new : SymbolicChunk
mutex_new = mutex_chunk written_share (symbol 1) q

closes_pre : Closes everything_environment everything_program (at two_locals path2 (block ∷ mutex_new ∷ cell_all ∷ [])) (record { store = pre_store; state = at two_locals path2 (block ∷ mutex_half ∷ cell_half ∷ pre_chunk all_of_it (symbol 0) info ∷ []) } ∷ [])
closes_pre = record {
  share = all_of_it;
  fraction = whole_fraction everything_environment path2 all_of_it (λ v. refl);
  name = Instance thread_run_pre tick_name;
  openable = tt;
  body = shared_body;
  there = refl;
  arguments = symbol 0 ∷ info ∷ [];
  number = refl;
  of_sorts = sorted everything_environment path2 (Pointers ∷ Anything ∷ Pointers ∷ []) (symbol 0 ∷ info ∷ []) (by_place everything_environment path2 2 (OfSort (symbol 0) Pointers) refl, (info_sorted path2, tt));
  inhabited = inhabited everything_environment (inr refl) (Pointers ∷ Anything ∷ Pointers ∷ []) (tt, (tt, (tt, tt)));
  consumed = (
    name_bound (store_of (symbol 0 ∷ info ∷ [])) (Numbered 0) (symbol 0) refl,
    (
      at two_locals path2 (block ∷ mutex_new ∷ cell_all ∷ []),
      no_change,
      (
        tt,
        (
          cell_all,
          block ∷ mutex_new ∷ cell_half ∷ [],
          takes_later (takes_later (takes_part half_left (halves everything_environment path2 all_of_it (half_at all_of_it) half_left (λ v. refl) (λ v. refl) (λ v. refl)))),
          (
            refl,
            (
              symbol 0,
              Some (symbol 1),
              refl,
              same_self everything_environment path2 (symbol 0),
              (
                refl,
                (by_place everything_environment path2 5 (OfSort (symbol 1) Pointers) refl, tt),
                (
                  nothing_bound pre_store,
                  (
                    at two_locals path2 (block ∷ mutex_new ∷ cell_half ∷ []),
                    no_change,
                    (
                      tt,
                      (
                        mutex_new,
                        block ∷ mutex_half ∷ cell_half ∷ [],
                        takes_later (takes_part half_left (halves everything_environment path2 written_share (half_at all_of_it) half_left (λ v. refl) (λ v. refl) (λ v. refl))),
                        (refl, (name_bound pre_store (Numbered 2) (symbol 1) refl, same_self everything_environment path2 (symbol 1), (first_bound pre_store (Numbered 0) (symbol 0) refl, same_self everything_environment path2 q, inl (refl, refl)))),
                      ),
                    ),
                  ),
                ),
              ),
            ),
          ),
        ),
      ),
    ),
  );
}

closed_pre : Goes 5 (at two_locals path2 (block ∷ mutex_new ∷ cell_all ∷ []))
closed_pre = may_close (record { store = pre_store; state = at two_locals path2 (block ∷ mutex_half ∷ cell_half ∷ pre_chunk all_of_it (symbol 0) info ∷ []) } ∷ []) closes_pre
    (λ s st among. among_one (λ s st. Goes 5 st) pre_store (at two_locals path2 (block ∷ mutex_half ∷ cell_half ∷ pre_chunk all_of_it (symbol 0) info ∷ [])) starts_it s st among)

-- ---- the mutex is created
pointer_fits : (type : TypeTree) → type_of_field everything_program counter_name 1 ≡ Some type → EntailsAll everything_environment path2 (facts_of_type type (symbol 1)) × (type ≢ Void)
pointer_fits type is = subst (λ z. EntailsAll everything_environment path2 (facts_of_type z (symbol 1)) × (z ≢ Void)) (some_same is) ((by_place everything_environment path2 5 (OfSort (symbol 1) Pointers) refl, tt), λ h. pointer_no_void h)

stores_mutex : Goes 4 (at two_locals path2 (cell_chunk mutex_field (symbol 0) None ∷ block ∷ mutex_new ∷ []))
stores_mutex =
    do_store (core.Read 0 somewhere) (core.Read 1 somewhere) mutex_field somewhere 5 (symbol 0) (symbol 0) (symbol 1) None (cell_chunk mutex_field (symbol 0) None) (block ∷ mutex_new ∷ []) refl refl refl
    (takes_all (same_self everything_environment path2 all_of_it)) refl refl (same_self everything_environment path2 (symbol 0)) pointer_fits closed_pre

abbrev arg_chunk : SymbolicChunk
arg_chunk = record { share = all_of_it; head = Of (Named create_mutex_ghost_arg_name); arguments = Some q ∷ [] }

abbrev create_store : Store
create_store = stored (call_store []) (Numbered 0) q

abbrev new_cell : SymbolicChunk
new_cell = cell_chunk mutex_field (symbol 0) None

creates_it : Goes 3 (at one_local path1 (new_cell ∷ block ∷ guarded_chunk all_of_it (symbol 0) ∷ arg_chunk ∷ []))
creates_it =
    do_prelude (Some 1) (identity_of CreateMutex) [] somewhere 4 CreateMutex creation [] (record { store = stored create_store Result (symbol 1); state = at two_locals path2 (new_cell ∷ block ∷ mutex_new ∷ []) } ∷ [])
    refl refl (creates refl) refl (inhabited everything_environment (inr refl) creation.sorts (tt, tt)) (λ h. absurd (pointer_no_void h)) tt refl (sorted everything_environment path1 creation.sorts [] tt) (
      nothing_bound (call_store []),
      (
        at one_local path1 (new_cell ∷ block ∷ guarded_chunk all_of_it (symbol 0) ∷ arg_chunk ∷ []),
        no_change,
        (
          tt,
          (
            arg_chunk,
            new_cell ∷ block ∷ guarded_chunk all_of_it (symbol 0) ∷ [],
            takes_later (takes_later (takes_later (takes_all (by_value everything_environment path1 written_share all_of_it (λ v. refl))))),
            (
              refl,
              (
                refl,
                (guarded_sorted everything_environment (inr refl) path1 (symbol 0) (by_place everything_environment path1 2 (OfSort (symbol 0) Pointers) refl), tt),
                (
                  name_bound create_store (Numbered 0) q refl,
                  (
                    at one_local path1 (new_cell ∷ block ∷ applied_chunk all_of_it q ∷ []),
                    and_change (makes_value (guarded_chunk all_of_it (symbol 0)) (applied_chunk all_of_it q) (new_cell ∷ block ∷ applied_chunk all_of_it q ∷ []) (renames path1 all_of_it) (replaces_later (replaces_later replaces_here))) no_change,
                    (
                      tt,
                      (
                        applied_chunk all_of_it q,
                        new_cell ∷ block ∷ [],
                        takes_later (takes_later (takes_all (by_value everything_environment path1 written_share all_of_it (λ v. refl)))),
                        (
                          same_self everything_environment path1 q,
                          (
                            1,
                            new_symbol 1 all_of_it create_store [] (at one_local path1 (new_cell ∷ block ∷ [])) (fresh_state 1 (at one_local path1 (new_cell ∷ block ∷ [])) (fresh 1) refl refl refl) (fresh_stored 1 (call_store []) (Numbered 0) q (fresh 1) refl) refl refl,
                            fixed_stored creation (call_store []) (Numbered 0) q (call_fixed creation [] refl) (inr (inl (inr (inr (inl refl))))),
                            (nothing_bound (stored create_store Result (symbol 1)), (tt, (name_bound (stored create_store Result (symbol 1)) Result (symbol 1) refl, (name_bound (stored create_store Result (symbol 1)) (Numbered 0) q refl, inl (refl, refl))))),
                          ),
                        ),
                      ),
                    ),
                  ),
                ),
              ),
            ),
          ),
        ),
      ),
    )
    (λ s st among. among_one (λ s st. Goes 4 st) (stored create_store Result (symbol 1)) (at two_locals path2 (new_cell ∷ block ∷ mutex_new ∷ [])) stores_mutex s st among)

closes_arg : Closes everything_environment everything_program (at one_local path1 (new_cell ∷ block ∷ guarded_chunk all_of_it (symbol 0) ∷ [])) (record { store = store_of (q ∷ []); state = at one_local path1 (new_cell ∷ block ∷ guarded_chunk all_of_it (symbol 0) ∷ arg_chunk ∷ []) } ∷ [])
closes_arg = record {
  share = all_of_it;
  fraction = whole_fraction everything_environment path1 all_of_it (λ v. refl);
  name = Plain create_mutex_ghost_arg_name;
  openable = refl;
  body = ghost_arg_body;
  there = refl;
  arguments = q ∷ [];
  number = refl;
  of_sorts = sorted everything_environment path1 (invariants ∷ []) (q ∷ []) (guarded_sorted everything_environment (inr refl) path1 (symbol 0) (by_place everything_environment path1 2 (OfSort (symbol 0) Pointers) refl), tt);
  inhabited = inhabited everything_environment (inr refl) (invariants ∷ []) (tt, tt);
  consumed = (nothing_bound (store_of (q ∷ [])), record { by = λ v m. refl }, inl (refl, refl));
}

closed_arg : Goes 3 (at one_local path1 (new_cell ∷ block ∷ guarded_chunk all_of_it (symbol 0) ∷ []))
closed_arg = may_close (record { store = store_of (q ∷ []); state = at one_local path1 (new_cell ∷ block ∷ guarded_chunk all_of_it (symbol 0) ∷ arg_chunk ∷ []) } ∷ []) closes_arg
    (λ s st among. among_one (λ s st. Goes 3 st) (store_of (q ∷ [])) (at one_local path1 (new_cell ∷ block ∷ guarded_chunk all_of_it (symbol 0) ∷ arg_chunk ∷ [])) creates_it s st among)

-- ---- the struct is allocated
abbrev new_count : SymbolicChunk
new_count = cell_chunk count_field (symbol 0) None

with_struct : Goes 3 (at one_local path1 (new_count ∷ new_cell ∷ block ∷ []))
with_struct = closed_so 3 path1 one_local (new_count ∷ new_cell ∷ block ∷ []) (new_cell ∷ block ∷ []) None (by_place everything_environment path1 2 (OfSort (symbol 0) Pointers) refl) (takes_all (by_value everything_environment path1 written_share all_of_it (λ v. refl))) closed_arg

not_both : (b : Bool) → b ≡ true → not b ≡ true → ⊥
not_both b h k = false≢true (sym (ap not h) ∙ k)

-- what is known at first
abbrev first_path : List Fact
first_path = OfSort (Variable CurrentThread) Integers ∷ Holds (Truth true) ∷ []

null_way : Goes 1 (at (Some Null ∷ None ∷ None ∷ None ∷ None ∷ None ∷ []) first_path [])
null_way =
    do_if core.Equal (core.Read 0 somewhere) core.Null 2 3 Null Null refl refl refl (inr (inr (record { by = λ v m. inl refl }))) (inr (inr (record { by = λ v m. inl refl })))
    (do_abort None (identity_of Abort) somewhere 3 refl refl)
    (may_drop (record { by = λ v m. not_both true refl ((m.1).1).0 }))

granted_way : Goes 1 (at one_local (OfSort (Variable CurrentThread) Integers ∷ Holds (Truth true) ∷ OfSort (symbol 0) Pointers ∷ Holds (Compare core.NotEqual (symbol 0) Null) ∷ []) (new_count ∷ new_cell ∷ block ∷ []))
granted_way =
    do_if core.Equal (core.Read 0 somewhere) core.Null 2 3 (symbol 0) Null refl refl refl (inr (inr (record { by = λ v m. ((m.1).1).0 }))) (inr (inr (record { by = λ v m. inl refl })))
    (may_drop (record { by = λ v m. not_both (is_same (v (Numbered 0)) values.Null) (((m.1).1).1.1).0 (((m.1).1).1).0 }))
    with_struct

body : Goes 0 (at (None ∷ None ∷ None ∷ None ∷ None ∷ None ∷ []) first_path [])
body = do_allocate 0 counter_name 1 0 refl (fresh_state 0 (at (None ∷ None ∷ None ∷ None ∷ None ∷ None ∷ []) first_path []) (fresh 0) refl refl refl) null_way granted_way

-- ---- the program
main_has : HasContract everything_environment everything_main box_contract
main_has = record { known = inl refl; parameters = refl; fewer = omega arith; inhabited = λ k s h. none_some h }

main_accepted : IsAcceptedFunction everything_environment everything_program everything_main box_contract
main_accepted = record {
  contract = main_has;
  outs = record { store = call_store []; state = at (None ∷ None ∷ None ∷ None ∷ None ∷ None ∷ []) first_path [] } ∷ [];
  produced = (nothing_bound (call_store []), inr (inl (refl, refl)));
  body = λ s st among. among_one (λ s st. Goes 0 (record st { names = s })) (call_store []) (at (None ∷ None ∷ None ∷ None ∷ None ∷ None ∷ []) first_path []) body s st among;
}

all_accepted : AreAccepted everything_environment everything_program
all_accepted zero f is = only_defined everything_environment everything_program everything_main box_contract refl refl main_accepted f (some_same is)
all_accepted (suc zero) f is = only_defined everything_environment everything_program tick tick_contract refl refl (tick_accepted with_list) f (some_same is)
all_accepted (suc (suc n)) f is = none_some is

both_true : (a b : Bool) → (a && b) ≡ true → (a ≡ true) × (b ≡ true)
both_true true b h = (refl, h)
both_true false b h = absurd (false≢true h)

claims : (g type : Identity) (contract : ContractTree) → IsTrue (everything_environment.claims g type) → everything_environment.types type ≡ Some contract → KeepsClaim everything_environment everything_program g contract
claims g type contract claimed of_type =
    let both = both_true (same_identity g tick_name) (same_identity type thread_run_joinable) claimed in
    let contract_is : run_joinable ≡ contract = some_same (sym (ap (λ b. cond b (Some run_joinable) None) both.1) ∙ of_type) in
    subst (λ z. KeepsClaim everything_environment everything_program g z) contract_is
    (subst (λ z. KeepsClaim everything_environment everything_program z run_joinable) (sym ((identities_told g tick_name).0 both.0))
    (record { number = 1; function = tick; named = refl; is = refl; own = tick_contract; is_own = refl; has = (tick_has with_list); refines = (refines with_list) }))

pub everything_is_accepted : EverythingIsAccepted
everything_is_accepted = record {
  functions = all_accepted;
  claims = claims;
  main = everything_main;
  is_main = refl;
  contract = box_contract;
  is_own = refl;
  has = main_has;
  alone = refl;
  begins = no_step (λ x t is. is, (nothing_bound (call_store []), record { by = λ v m. refl }, refl));
}
