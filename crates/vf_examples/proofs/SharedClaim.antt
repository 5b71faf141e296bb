-- The function of the thread keeps the contract of the type that it claims.
use Rattle.std.proofs.Common.{List, [], ◌∷◌, Some, refl, inl, inr, ◌++◌}
use Rattle.vf_meaning.specs.Ghost.{Pointers, Anything, Numbered, Result, This, Function}
use Rattle.vf_rules.specs.Terms.{Store, stored}
use Rattle.vf_rules.specs.States.{Fact, OfSort, SymbolicChunk, SymbolicState, facts_of_thread}
use Rattle.vf_rules.specs.Fresh.{symbol, IsFreshIn}
use Rattle.vf_rules.specs.Take.{takes_all, no_change}
use Rattle.vf_rules.specs.Laws.{Grows}
use Rattle.vf_rules.specs.Threads.{run_joinable}
use Rattle.vf_rules.specs.GhostSteps.{AfterGhostSteps, no_step}
use Rattle.vf_rules.specs.Claims.{Ends, StandsIn, RefinesType, before_claim}
use Rattle.vf_rules.proofs.Terms.{stored_own, stored_grows}
use Rattle.vf_rules.specs.Accept.{all_of_it, call_store, pointer_store}
use Rattle.vf_examples.specs.Sharing.{tick_name, tick, Beside, program_beside, tick_contract, environment_beside}
use Rattle.vf_examples.proofs.NewSymbols.{fresh_stored, fresh_call, fresh_state, new_symbol}
use Rattle.vf_examples.proofs.SharingFacts.{among_one, by_place, call_fixed, fixed_stored, name_bound, nothing_bound, same_self, sorted}
use Rattle.vf_examples.proofs.SharedTick.{written_share, pre_chunk, post_chunk}

module _ (beside : Beside) where
  abbrev claim_names : Store
  claim_names = stored (pointer_store (symbol 0 ∷ []) (Function tick_name)) (Numbered 1) (symbol 1)

  abbrev claim_path : List Fact
  claim_path = OfSort (symbol 0) Pointers ∷ OfSort (symbol 0) Pointers ∷ facts_of_thread ++ OfSort (symbol 1) Anything ∷ []

  abbrev claimed_at : Store → List SymbolicChunk → SymbolicState
  claimed_at names chunks = record { locals = []; names = names; chunks = chunks; path = claim_path }

  abbrev own_store : Store
  own_store = stored (call_store (symbol 0 ∷ [])) (Numbered 1) (symbol 1)

  abbrev KeptBy : Store → SymbolicState → Type 0
  KeptBy s st = AfterGhostSteps (environment_beside beside) (program_beside beside) (StandsIn (environment_beside beside) (program_beside beside) tick tick_contract run_joinable) (record st { names = s })

  fresh_claimed : IsFreshIn 2 claim_names
  fresh_claimed = fresh_stored 2 (pointer_store (symbol 0 ∷ []) (Function tick_name)) (Numbered 1) (symbol 1) (fresh_stored 2 (call_store (symbol 0 ∷ [])) This (Function tick_name) (fresh_call 2 (symbol 0 ∷ []) refl) refl) refl

  have_claimed : Grows (call_store (symbol 0 ∷ [])) claim_names
  have_claimed x t is = stored_grows (pointer_store (symbol 0 ∷ []) (Function tick_name)) (Numbered 1) (symbol 1) refl x t (stored_grows (call_store (symbol 0 ∷ [])) This (Function tick_name) refl x t is)

  ended : Ends (environment_beside beside) (program_beside beside) run_joinable (claimed_at (stored claim_names Result (symbol 2)) (post_chunk written_share (symbol 0) (symbol 1) ∷ []))
  ended = (
    symbol 2,
    stored_own claim_names Result (symbol 2),
    (
      name_bound (stored claim_names Result (symbol 2)) This (Function tick_name) refl,
      (
        claimed_at (stored claim_names Result (symbol 2)) (post_chunk written_share (symbol 0) (symbol 1) ∷ []),
        no_change,
        (
          tt,
          (
            post_chunk written_share (symbol 0) (symbol 1),
            [],
            takes_all (same_self (environment_beside beside) claim_path written_share),
            (
              (refl, same_self (environment_beside beside) claim_path (Function tick_name)),
              (
                name_bound (stored claim_names Result (symbol 2)) (Numbered 0) (symbol 0) refl,
                same_self (environment_beside beside) claim_path (symbol 0),
                (name_bound (stored claim_names Result (symbol 2)) (Numbered 1) (symbol 1) refl, same_self (environment_beside beside) claim_path (symbol 1), (refl, λ x t fixed is. is)),
              ),
            ),
          ),
        ),
      ),
    ),
  )

  stands_in : StandsIn (environment_beside beside) (program_beside beside) tick tick_contract run_joinable (claimed_at claim_names (pre_chunk written_share (symbol 0) (symbol 1) ∷ []))
  stands_in = (
    have_claimed,
    sorted (environment_beside beside) claim_path tick_contract.sorts (symbol 0 ∷ []) (by_place (environment_beside beside) claim_path 0 (OfSort (symbol 0) Pointers) refl, tt),
    (
      nothing_bound (call_store (symbol 0 ∷ [])),
      (
        claimed_at claim_names (pre_chunk written_share (symbol 0) (symbol 1) ∷ []),
        no_change,
        (
          tt,
          (
            pre_chunk written_share (symbol 0) (symbol 1),
            [],
            takes_all (same_self (environment_beside beside) claim_path written_share),
            (
              (refl, same_self (environment_beside beside) claim_path (Function tick_name)),
              (
                name_bound (call_store (symbol 0 ∷ [])) (Numbered 0) (symbol 0) refl,
                same_self (environment_beside beside) claim_path (symbol 0),
                (
                  refl,
                  (by_place (environment_beside beside) claim_path 3 (OfSort (symbol 1) Anything) refl, tt),
                  (
                    2,
                    new_symbol 2 all_of_it own_store [] (claimed_at claim_names []) (fresh_state 2 (claimed_at claim_names []) fresh_claimed refl refl refl) (fresh_stored 2 (call_store (symbol 0 ∷ [])) (Numbered 1) (symbol 1) (fresh_call 2 (symbol 0 ∷ []) refl) refl) refl refl,
                    fixed_stored tick_contract (call_store (symbol 0 ∷ [])) (Numbered 1) (symbol 1) (call_fixed tick_contract (symbol 0 ∷ []) refl) (inr (inr (inr (inr (inl refl))))),
                    (
                      nothing_bound (stored own_store Result (symbol 2)),
                      (tt, (name_bound (stored own_store Result (symbol 2)) (Numbered 0) (symbol 0) refl, (name_bound (stored own_store Result (symbol 2)) (Numbered 1) (symbol 1) refl, no_step ended))),
                    ),
                  ),
                ),
              ),
            ),
          ),
        ),
      ),
    ),
  )

  pub refines : RefinesType (environment_beside beside) (program_beside beside) tick tick_contract run_joinable tick_name
  refines = record {
    parameters = refl;
    outs = record { store = claim_names; state = claimed_at (call_store (symbol 0 ∷ [])) (pre_chunk written_share (symbol 0) (symbol 1) ∷ []) } ∷ [];
    required = (
      name_bound (pointer_store (symbol 0 ∷ []) (Function tick_name)) This (Function tick_name) refl,
      (
        tt,
        (
          name_bound (pointer_store (symbol 0 ∷ []) (Function tick_name)) (Numbered 0) (symbol 0) refl,
          (
            1,
            new_symbol 1 all_of_it (pointer_store (symbol 0 ∷ []) (Function tick_name)) (Some written_share ∷ Some (symbol 0) ∷ []) (before_claim tick run_joinable) (fresh_state 1 (before_claim tick run_joinable) (fresh_call 1 (symbol 0 ∷ []) refl) refl refl refl)
                (fresh_stored 1 (call_store (symbol 0 ∷ [])) This (Function tick_name) (fresh_call 1 (symbol 0 ∷ []) refl) refl) refl refl,
            refl,
            inl (refl, refl),
          ),
        ),
      ),
    );
    kept = λ s st among. among_one KeptBy claim_names (claimed_at (call_store (symbol 0 ∷ [])) (pre_chunk written_share (symbol 0) (symbol 1) ∷ [])) (no_step stands_in) s st among;
  }
