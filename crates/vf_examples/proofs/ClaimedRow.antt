-- The function that returns the length of a row is accepted, and keeps the contract of its type: that the length is not negative is known of the row.
use Rattle.std.proofs.Common.{List, [], ◌∷◌, ◌++◌, Some, refl, inl, inr, arith}
use Rattle.vf_tree.specs.Core as core
use Rattle.vf_meaning.specs.Ghost.{Integers, Pointers, Datatype, none, Numbered, Result, This, Function}
use Rattle.vf_meaning.specs.Assertions.{Named}
use Rattle.vf_rules.specs.Terms.{Term, Store, stored}
use Rattle.vf_rules.specs.States.{Fact, Holds, OfSort, Of, SymbolicChunk, SymbolicState, facts_of_thread}
use Rattle.vf_rules.specs.Fresh.{symbol}
use Rattle.vf_rules.specs.Take.{takes_all, no_change}
use Rattle.vf_rules.specs.Laws.{Grows}
use Rattle.vf_rules.specs.Accept.{all_of_it, call_store, pointer_store, HasContract, Accepts, do_return, IsAcceptedFunction}
use Rattle.vf_rules.specs.GhostSteps.{AfterGhostSteps, no_step}
use Rattle.vf_rules.specs.Claims.{before_claim, Ends, StandsIn, RefinesType, KeepsClaim}
use Rattle.vf_rules.proofs.Terms.{stored_own, stored_grows}
use Rattle.vf_examples.specs.BoxProgram.{somewhere}
use Rattle.vf_examples.specs.Claiming.{ints, ints_list, count_name, count, claiming_program, not_negative, count_contract, counter_contract, claiming_environment}
use Rattle.vf_examples.proofs.NewSymbols.{fresh_stored, fresh_call, fresh_state, new_symbol}
use Rattle.vf_examples.proofs.SharingFacts.{among_one, by_place, call_fixed, integer_is_no_void, name_bound, nothing_bound, same_self, sorted}
use Rattle.vf_examples.proofs.SharedTick.{written_share}
use Rattle.vf_examples.proofs.ClaimingFacts.{int_facts, claimed, second_bound, keeps_result, plain_inhabited}

abbrev arguments : List Term
arguments = symbol 0 ∷ symbol 1 ∷ []

-- what is known of the parameters
abbrev path0 : List Fact
path0 = OfSort (symbol 0) Pointers ∷ int_facts (symbol 1) ++ OfSort (symbol 0) Pointers ∷ OfSort (symbol 1) Integers ∷ facts_of_thread

-- ---- the body
abbrev path1 : List Fact
path1 = path0 ++ Holds (not_negative (symbol 1)) ∷ []

abbrev begun : SymbolicState
begun = record { locals = Some (symbol 0) ∷ Some (symbol 1) ∷ []; names = call_store arguments; chunks = []; path = path1 }

returns : Accepts claiming_environment claiming_program count count_contract [] [] 0 begun
returns =
    do_return {now = []} {soon = []} {n = 0} {st = begun} (core.Read 1 somewhere) (symbol 1) refl refl
    (by_place claiming_environment path1 1 _ refl, (by_place claiming_environment path1 2 _ refl, (by_place claiming_environment path1 3 _ refl, tt))) integer_is_no_void
    (second_bound (stored (call_store arguments) Result (symbol 1)) Result (symbol 1) refl, by_place claiming_environment path1 7 (Holds (not_negative (symbol 1))) refl, (refl, keeps_result count_contract (call_store arguments) (symbol 1)))

pub count_has : HasContract claiming_environment count count_contract
count_has = record { known = inl refl; parameters = refl; fewer = omega arith; inhabited = plain_inhabited count_contract.sorts (tt, (tt, tt)) }

pub count_accepted : IsAcceptedFunction claiming_environment claiming_program count count_contract
count_accepted = record {
  contract = count_has;
  outs = record { store = call_store arguments; state = begun } ∷ [];
  produced = (second_bound (call_store arguments) (Numbered 1) (symbol 1) refl, inr (inl (refl, refl)));
  body = λ s st among. among_one (λ s st. Accepts claiming_environment claiming_program count count_contract [] [] 0 (record st { names = s })) (call_store arguments) begun returns s st among;
}

-- ---- the claim
abbrev row_there : SymbolicChunk
row_there = record { share = written_share; head = Of (Named ints); arguments = Some (symbol 0) ∷ Some (symbol 1) ∷ Some (symbol 2) ∷ [] }

abbrev type_names : Store
type_names = pointer_store arguments (Function count_name)

abbrev names : Store
names = stored type_names (Numbered 2) (symbol 2)

-- with the row's list, then with its length, then with what is returned
abbrev claim_path : List Fact
claim_path = path0 ++ OfSort (symbol 2) (Datatype ints_list none) ∷ []

abbrev known_path : List Fact
known_path = claim_path ++ OfSort (symbol 1) Integers ∷ Holds (not_negative (symbol 1)) ∷ []

abbrev end_path : List Fact
end_path = (known_path ++ int_facts (symbol 3)) ++ Holds (not_negative (symbol 3)) ∷ []

have : Grows (call_store arguments) names
have x t is = stored_grows type_names (Numbered 2) (symbol 2) refl x t (stored_grows (call_store arguments) This (Function count_name) refl x t is)

ended : Ends claiming_environment claiming_program counter_contract (claimed (stored names Result (symbol 3)) (row_there ∷ []) end_path)
ended = (
  symbol 3,
  stored_own names Result (symbol 3),
  (
    nothing_bound (stored names Result (symbol 3)),
    (
      claimed (stored names Result (symbol 3)) (row_there ∷ []) end_path,
      no_change,
      (
        tt,
        (
          row_there,
          [],
          takes_all (same_self claiming_environment end_path written_share),
          (
            refl,
            (
              name_bound (stored names Result (symbol 3)) (Numbered 0) (symbol 0) refl,
              same_self claiming_environment end_path (symbol 0),
              (
                name_bound (stored names Result (symbol 3)) (Numbered 1) (symbol 1) refl,
                same_self claiming_environment end_path (symbol 1),
                (
                  name_bound (stored names Result (symbol 3)) (Numbered 2) (symbol 2) refl,
                  same_self claiming_environment end_path (symbol 2),
                  (second_bound (stored names Result (symbol 3)) Result (symbol 3) refl, by_place claiming_environment end_path 13 (Holds (not_negative (symbol 3))) refl, (refl, λ x t fixed is. is)),
                ),
              ),
            ),
          ),
        ),
      ),
    ),
  ),
)

stands_in : StandsIn claiming_environment claiming_program count count_contract counter_contract (claimed names (row_there ∷ []) known_path)
stands_in = (
  have,
  sorted claiming_environment known_path count_contract.sorts arguments (by_place claiming_environment known_path 0 (OfSort (symbol 0) Pointers) refl, (by_place claiming_environment known_path 5 (OfSort (symbol 1) Integers) refl, tt)),
  (
    second_bound (call_store arguments) (Numbered 1) (symbol 1) refl,
    by_place claiming_environment known_path 9 (Holds (not_negative (symbol 1))) refl,
    (
      3,
      new_symbol 3 all_of_it (call_store arguments) [] (claimed names (row_there ∷ []) known_path)
          (fresh_state 3 (claimed names (row_there ∷ []) known_path) (fresh_stored 3 type_names (Numbered 2) (symbol 2) (fresh_stored 3 (call_store arguments) This (Function count_name) (fresh_call 3 arguments refl) refl) refl) refl refl refl)
          (fresh_call 3 arguments refl) refl refl,
      call_fixed count_contract arguments refl,
      (second_bound (stored (call_store arguments) Result (symbol 3)) Result (symbol 3) refl, inr (no_step ended)),
    ),
  ),
)

refines : RefinesType claiming_environment claiming_program count count_contract counter_contract count_name
refines = record {
  parameters = refl;
  outs = record { store = names; state = claimed (call_store arguments) (row_there ∷ []) known_path } ∷ [];
  required = (
    nothing_bound type_names,
    (
      tt,
      (
        name_bound type_names (Numbered 0) (symbol 0) refl,
        (
          name_bound type_names (Numbered 1) (symbol 1) refl,
          (
            2,
            new_symbol 2 all_of_it type_names (Some written_share ∷ Some (symbol 0) ∷ Some (symbol 1) ∷ []) (before_claim count counter_contract) (fresh_state 2 (before_claim count counter_contract) (fresh_call 2 arguments refl) refl refl refl)
                (fresh_stored 2 (call_store arguments) This (Function count_name) (fresh_call 2 arguments refl) refl) refl refl,
            refl,
            inl (refl, refl),
          ),
        ),
      ),
    ),
  );
  kept = λ s st among. among_one (λ s st. AfterGhostSteps claiming_environment claiming_program (StandsIn claiming_environment claiming_program count count_contract counter_contract) (record st { names = s })) names (claimed (call_store arguments) (row_there ∷ []) known_path)
      (no_step stands_in) s st among;
}

pub count_keeps : KeepsClaim claiming_environment claiming_program count_name counter_contract
count_keeps = record { number = 1; function = count; named = refl; is = refl; own = count_contract; is_own = refl; has = count_has; refines = refines }
