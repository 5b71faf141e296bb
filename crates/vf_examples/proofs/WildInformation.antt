-- A function that joins a thread with any information is accepted: a derivation by the rules.
use Rattle.std.proofs.Common.{◌≡◌, ℕ, List, [], ◌∷◌, ◌++◌, Option, Some, None, refl, inl, inr, arith}
use Rattle.vf_tree.specs.Core as core
use Rattle.vf_model.specs.PreludeFunctions.{ThreadJoin, identity_of}
use Rattle.vf_meaning.specs.Ghost.{Pointers, Anything, Numbered, Result}
use Rattle.vf_meaning.specs.Assertions.{Named, Family}
use Rattle.vf_rules.specs.Terms.{Term, Store, stored}
use Rattle.vf_rules.specs.States.{Fact, OfSort, Of, SymbolicChunk, SymbolicState, facts_of_thread}
use Rattle.vf_rules.specs.Fresh.{symbol, IsFreshIn}
use Rattle.vf_rules.specs.Take.{takes_all, no_change}
use Rattle.vf_rules.specs.Threads.{thread_name, thread_run_post, join, joins}
use Rattle.vf_rules.specs.Accept.{all_of_it, AreFixed, call_store, beginning, Accepts, do_prelude, do_leave}
use Rattle.vf_rules.proofs.Inhabited.{closed_sorts_have_values}
use Rattle.vf_examples.specs.BoxProgram.{somewhere}
use Rattle.vf_examples.specs.WildArguments.{wait, wait_contract, wild_program, wild_environment, WaitingIsAccepted}
use Rattle.vf_examples.proofs.NewSymbols.{fresh_stored, fresh_call, fresh_state, new_symbol}
use Rattle.vf_examples.proofs.SharingFacts.{among_one, by_place, call_fixed, fixed_stored, name_bound, nothing_bound, same_self, sorted}
use Rattle.vf_examples.proofs.SharedTick.{written_share}
use Rattle.vf_examples.proofs.WildArguments.{no_datatypes}

abbrev Goes : ℕ → SymbolicState → Type 0
Goes n st = Accepts wild_environment wild_program wait wait_contract [] [] n st

abbrev arguments : List Term
arguments = symbol 0 ∷ symbol 1 ∷ symbol 2 ∷ []

abbrev names : Store
names = call_store arguments

-- the open argument is of any sort
abbrev path : List Fact
path = OfSort (symbol 0) Pointers ∷ OfSort (symbol 1) Pointers ∷ OfSort (symbol 2) Pointers ∷ OfSort (symbol 0) Pointers ∷ OfSort (symbol 1) Pointers ∷ OfSort (symbol 2) Pointers ∷ facts_of_thread ++ OfSort (symbol 3) Anything ∷ []

abbrev at : List SymbolicChunk → SymbolicState
at chunks = record { locals = Some (symbol 0) ∷ Some (symbol 1) ∷ Some (symbol 2) ∷ []; names = names; chunks = chunks; path = path }

abbrev thread : SymbolicChunk
thread = record { share = written_share; head = Of (Named thread_name); arguments = Some (symbol 0) ∷ Some (symbol 1) ∷ Some (symbol 2) ∷ Some (symbol 3) ∷ [] }

abbrev left : SymbolicChunk
left = record { share = written_share; head = Of (Family thread_run_post (symbol 1)); arguments = Some (symbol 2) ∷ Some (symbol 3) ∷ [] }

leaves : Goes 1 (at (left ∷ []))
leaves =
    do_leave refl refl (
      name_bound names (Numbered 1) (symbol 1) refl,
      (
        at (left ∷ []),
        no_change,
        (
          tt,
          (left, [], takes_all (same_self wild_environment path written_share), ((refl, same_self wild_environment path (symbol 1)), (name_bound names (Numbered 2) (symbol 2) refl, same_self wild_environment path (symbol 2), (refl, λ x t fixed is. is)))),
        ),
      ),
    )

-- ---- the thread is joined
abbrev run_store : Store
run_store = stored (call_store (symbol 0 ∷ [])) (Numbered 1) (symbol 1)

abbrev argument_store : Store
argument_store = stored run_store (Numbered 2) (symbol 2)

abbrev join_store : Store
join_store = stored argument_store (Numbered 3) (symbol 3)

fresh_joined : IsFreshIn 4 join_store
fresh_joined = fresh_stored 4 argument_store (Numbered 3) (symbol 3) (fresh_stored 4 run_store (Numbered 2) (symbol 2) (fresh_stored 4 (call_store (symbol 0 ∷ [])) (Numbered 1) (symbol 1) (fresh_call 4 (symbol 0 ∷ []) refl) refl) refl) refl

join_fixed : AreFixed join join_store
join_fixed =
    fixed_stored join argument_store (Numbered 3) (symbol 3)
    (fixed_stored join run_store (Numbered 2) (symbol 2)
    (fixed_stored join (call_store (symbol 0 ∷ [])) (Numbered 1) (symbol 1) (call_fixed join (symbol 0 ∷ []) refl) (inr (inr (inr (inr (inl refl))))))
    (inr (inr (inr (inr (inr (inl refl)))))))
    (inr (inr (inr (inr (inr (inr (inl refl)))))))

abbrev result_store : Store
result_store = stored join_store Result (symbol 4)

joins_it : Goes 0 (at (thread ∷ []))
joins_it =
    do_prelude None (identity_of ThreadJoin) (core.Read 0 somewhere ∷ []) somewhere 1 ThreadJoin join (symbol 0 ∷ []) (record { store = result_store; state = at (left ∷ []) } ∷ [])
    refl refl joins refl (closed_sorts_have_values wild_environment join.sorts no_datatypes (tt, (tt, (tt, (tt, tt))))) (λ h. refl) (refl, tt) refl (sorted wild_environment path join.sorts (symbol 0 ∷ []) (by_place wild_environment path 0 (OfSort (symbol 0) Pointers) refl, tt)) (
      nothing_bound (call_store (symbol 0 ∷ [])),
      (
        at (thread ∷ []),
        no_change,
        (
          tt,
          (
            thread,
            [],
            takes_all (same_self wild_environment path written_share),
            (
              refl,
              (
                name_bound (call_store (symbol 0 ∷ [])) (Numbered 0) (symbol 0) refl,
                same_self wild_environment path (symbol 0),
                (
                  refl,
                  (by_place wild_environment path 1 (OfSort (symbol 1) Pointers) refl, tt),
                  (
                    refl,
                    (by_place wild_environment path 2 (OfSort (symbol 2) Pointers) refl, tt),
                    (
                      refl,
                      (by_place wild_environment path 7 (OfSort (symbol 3) Anything) refl, tt),
                      (
                        4,
                        new_symbol 4 all_of_it join_store [] (at []) (fresh_state 4 (at []) (fresh_call 4 arguments refl) refl refl refl) fresh_joined refl refl,
                        join_fixed,
                        (name_bound result_store (Numbered 1) (symbol 1) refl, (tt, (name_bound result_store (Numbered 2) (symbol 2) refl, (name_bound result_store (Numbered 3) (symbol 3) refl, inl (refl, refl))))),
                      ),
                    ),
                  ),
                ),
              ),
            ),
          ),
        ),
      ),
    )
    (λ s st among. among_one (λ s st. Goes 1 st) result_store (at (left ∷ [])) leaves s st among)

pub waiting_is_accepted : WaitingIsAccepted
waiting_is_accepted = record {
  contract = record { known = inl refl; parameters = refl; fewer = omega arith; inhabited = closed_sorts_have_values wild_environment wait_contract.sorts no_datatypes (tt, (tt, (tt, tt))) };
  outs = record { store = names; state = at (thread ∷ []) } ∷ [];
  produced = (
    nothing_bound names,
    (
      tt,
      (
        name_bound names (Numbered 0) (symbol 0) refl,
        (
          name_bound names (Numbered 1) (symbol 1) refl,
          (
            name_bound names (Numbered 2) (symbol 2) refl,
            (
              3,
              new_symbol 3 all_of_it names (Some written_share ∷ Some (symbol 0) ∷ Some (symbol 1) ∷ Some (symbol 2) ∷ []) (beginning wait wait_contract) (fresh_state 3 (beginning wait wait_contract) (fresh_call 3 arguments refl) refl refl refl) (fresh_call 3 arguments refl) refl refl,
              Some Anything,
              refl,
              inl (refl, refl),
            ),
          ),
        ),
      ),
    ),
  );
  body = λ s st among. among_one (λ s st. Goes 0 (record st { names = s })) names (at (thread ∷ [])) joins_it s st among;
}
