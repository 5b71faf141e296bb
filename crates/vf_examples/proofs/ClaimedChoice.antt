-- The function that reads one of two cells is accepted, and keeps the contract of its type, whose disjunction says which: in each case another cell is taken.
use Rattle.std.proofs.Common.{◌≡◌, ℕ, Bool, true, false, not, ◌||◌, List, [], ◌∷◌, ◌++◌, Some, None, refl, inl, inr, arith}
use Rattle.std.proofs.lemmas.Bool.{false≢true}
use Rattle.vf_tree.specs.Core.{Equal, NotEqual}
use Rattle.vf_tree.specs.Core as core
use Rattle.vf_meaning.specs.Ghost.{Integers, Pointers, Numbered, Result, This, Null, Function, Compare, Not, Or}
use Rattle.vf_meaning.specs.Valuations.{is_same}
use Rattle.vf_rules.specs.Terms.{Term, Store, stored}
use Rattle.vf_rules.specs.States.{Fact, Holds, OfSort, CellOf, SymbolicChunk, SymbolicState, Entails, facts_of_thread}
use Rattle.vf_rules.specs.Fresh.{symbol, IsFreshIn}
use Rattle.vf_rules.specs.Take.{same, takes_all, takes_later, removes_here, no_change}
use Rattle.vf_rules.specs.Laws.{Grows}
use Rattle.vf_rules.specs.Accept.{all_of_it, call_store, pointer_store, beginning, HasContract, AreFixed, Accepts, do_load, do_return, IsAcceptedFunction}
use Rattle.vf_rules.specs.GhostSteps.{AfterGhostSteps, no_step, may_split}
use Rattle.vf_rules.specs.Claims.{Ends, StandsIn, RefinesType, KeepsClaim}
use Rattle.vf_rules.proofs.Terms.{stored_own, stored_grows}
use Rattle.vf_examples.specs.BoxProgram.{somewhere}
use Rattle.vf_examples.specs.Claiming.{balance, read_name, read, claiming_program, read_contract, reader_contract, claiming_environment}
use Rattle.vf_examples.proofs.NewSymbols.{fresh_stored, fresh_call, fresh_state, new_symbol}
use Rattle.vf_examples.proofs.SharingFacts.{among_one, by_place, call_fixed, fixed_stored, integer_is_no_void, name_bound, same_self, sorted}
use Rattle.vf_examples.proofs.SharedTick.{written_share}
use Rattle.vf_examples.proofs.ClaimingFacts.{int_facts, claimed, pairs_bound, keeps_result, turned, plain_inhabited}

abbrev arguments : List Term
arguments = symbol 0 ∷ symbol 1 ∷ symbol 2 ∷ []

-- the cell of a pointer with what it holds
abbrev cell : Term → Term → SymbolicChunk
cell pointer content = record { share = written_share; head = CellOf balance; arguments = Some pointer ∷ Some content ∷ [] }

-- what is known of a cell that is produced, after the sort of its content
abbrev cell_facts : Term → Term → List Fact
cell_facts pointer content = Holds (Compare NotEqual pointer Null) ∷ int_facts content

-- what is known of the parameters
abbrev path0 : List Fact
path0 = OfSort (symbol 0) Pointers ∷ OfSort (symbol 1) Pointers ∷ OfSort (symbol 2) Pointers ∷ OfSort (symbol 0) Pointers ∷ OfSort (symbol 1) Pointers ∷ OfSort (symbol 2) Pointers ∷ facts_of_thread

-- ---- the body
abbrev body_path : List Fact
body_path = path0 ++ OfSort (symbol 3) Integers ∷ cell_facts (symbol 0) (symbol 3)

abbrev own_store : Term → Store
own_store content = stored (call_store arguments) (Numbered 3) content

abbrev begun : SymbolicState
begun = record { locals = Some (symbol 0) ∷ Some (symbol 1) ∷ Some (symbol 2) ∷ None ∷ []; names = call_store arguments; chunks = cell (symbol 0) (symbol 3) ∷ []; path = body_path }

abbrev before_load : SymbolicState
before_load = record begun { names = own_store (symbol 3) }

abbrev loaded : SymbolicState
loaded = record { locals = Some (symbol 0) ∷ Some (symbol 1) ∷ Some (symbol 2) ∷ Some (symbol 3) ∷ []; names = own_store (symbol 3); chunks = cell (symbol 0) (symbol 3) ∷ []; path = body_path }

returns : Accepts claiming_environment claiming_program read read_contract [] [] 1 loaded
returns =
    do_return {now = []} {soon = []} {n = 1} {st = loaded} (core.Read 3 somewhere) (symbol 3) refl refl
    (by_place claiming_environment body_path 9 _ refl, (by_place claiming_environment body_path 10 _ refl, (by_place claiming_environment body_path 11 _ refl, tt))) integer_is_no_void (
      name_bound (stored (own_store (symbol 3)) Result (symbol 3)) (Numbered 0) (symbol 0) refl,
      (
        loaded,
        no_change,
        (
          tt,
          (
            cell (symbol 0) (symbol 3),
            [],
            takes_all (same_self claiming_environment body_path written_share),
            (
              refl,
              (
                symbol 0,
                Some (symbol 3),
                refl,
                same_self claiming_environment body_path (symbol 0),
                (name_bound (stored (own_store (symbol 3)) Result (symbol 3)) (Numbered 3) (symbol 3) refl, same_self claiming_environment body_path (symbol 3), (refl, keeps_result read_contract (own_store (symbol 3)) (symbol 3))),
              ),
            ),
          ),
        ),
      ),
    )

loads : Accepts claiming_environment claiming_program read read_contract [] [] 0 before_load
loads =
    do_load {now = []} {soon = []} {n = 0} {st = before_load} 3 (core.Read 0 somewhere) balance somewhere 1 (symbol 0) (symbol 0) (symbol 3) (cell (symbol 0) (symbol 3)) [] refl refl removes_here refl refl
    (same_self claiming_environment body_path (symbol 0)) returns

pub read_has : HasContract claiming_environment read read_contract
read_has = record { known = inl refl; parameters = refl; fewer = omega arith; inhabited = plain_inhabited read_contract.sorts (tt, (tt, (tt, (tt, tt)))) }

pub read_accepted : IsAcceptedFunction claiming_environment claiming_program read read_contract
read_accepted = record {
  contract = read_has;
  outs = record { store = own_store (symbol 3); state = begun } ∷ [];
  produced = (
    name_bound (call_store arguments) (Numbered 0) (symbol 0) refl,
    (
      tt,
      (
        3,
        new_symbol 3 all_of_it (call_store arguments) (Some written_share ∷ Some (symbol 0) ∷ []) (beginning read read_contract) (fresh_state 3 (beginning read read_contract) (fresh_call 3 arguments refl) refl refl refl) (fresh_call 3 arguments refl) refl refl,
        refl,
        inl (refl, refl),
      ),
    ),
  );
  body = λ s st among. among_one (λ s st. Accepts claiming_environment claiming_program read read_contract [] [] 0 (record st { names = s })) (own_store (symbol 3)) begun loads s st among;
}

-- ---- the claim
abbrev type_names : Store
type_names = pointer_store arguments (Function read_name)

abbrev first_names : Store
first_names = stored type_names (Numbered 3) (symbol 3)

abbrev names : Store
names = stored first_names (Numbered 4) (symbol 4)

abbrev end_names : Store
end_names = stored names Result (symbol 5)

-- with the disjunction, then with the cell of one, then with that of the other
abbrev or_path : List Fact
or_path = path0 ++ Holds (Or (Compare Equal (symbol 0) (symbol 1)) (Compare Equal (symbol 0) (symbol 2))) ∷ []

abbrev first_path : List Fact
first_path = or_path ++ OfSort (symbol 3) Integers ∷ cell_facts (symbol 1) (symbol 3)

abbrev claim_path : List Fact
claim_path = first_path ++ OfSort (symbol 4) Integers ∷ cell_facts (symbol 2) (symbol 4)

-- in the first case, and in the second
abbrev yes_path : List Fact
yes_path = claim_path ++ Holds (Compare Equal (symbol 0) (symbol 1)) ∷ []

abbrev no_path : List Fact
no_path = claim_path ++ Holds (Not (Compare Equal (symbol 0) (symbol 1))) ∷ []

-- where the own contract has given its cell back
abbrev end_of : List Fact → Term → List Fact
end_of path content = (path ++ int_facts (symbol 5)) ++ cell_facts (symbol 0) content

fresh_type_names : (y : ℕ) → IsFreshIn y (call_store arguments) → IsFreshIn y type_names
fresh_type_names y fresh = fresh_stored y (call_store arguments) This (Function read_name) fresh refl

fresh_names : IsFreshIn 5 names
fresh_names = fresh_stored 5 first_names (Numbered 4) (symbol 4) (fresh_stored 5 type_names (Numbered 3) (symbol 3) (fresh_type_names 5 (fresh_call 5 arguments refl)) refl) refl

have : Grows (call_store arguments) names
have x t is = stored_grows first_names (Numbered 4) (symbol 4) refl x t (stored_grows type_names (Numbered 3) (symbol 3) refl x t (stored_grows (call_store arguments) This (Function read_name) refl x t is))

own_fixed : (content : Term) → AreFixed read_contract (own_store content)
own_fixed content = fixed_stored read_contract (call_store arguments) (Numbered 3) content (call_fixed read_contract arguments refl) (inr (inr (inr refl)))

-- the first case: the cell of the first pointer is the one that is read
ended_first : Ends claiming_environment claiming_program reader_contract (claimed end_names (cell (symbol 2) (symbol 4) ∷ cell (symbol 0) (symbol 3) ∷ []) (end_of yes_path (symbol 3)))
ended_first = (
  symbol 5,
  stored_own names Result (symbol 5),
  (
    name_bound end_names (Numbered 1) (symbol 1) refl,
    (
      claimed end_names (cell (symbol 2) (symbol 4) ∷ cell (symbol 0) (symbol 3) ∷ []) (end_of yes_path (symbol 3)),
      no_change,
      (
        tt,
        (
          cell (symbol 0) (symbol 3),
          cell (symbol 2) (symbol 4) ∷ [],
          takes_later (takes_all (same_self claiming_environment (end_of yes_path (symbol 3)) written_share)),
          (
            refl,
            (
              symbol 0,
              Some (symbol 3),
              refl,
              turned (end_of yes_path (symbol 3)) (symbol 0) (symbol 1) (by_place claiming_environment (end_of yes_path (symbol 3)) 18 (same (symbol 0) (symbol 1)) refl),
              (
                name_bound end_names (Numbered 3) (symbol 3) refl,
                same_self claiming_environment (end_of yes_path (symbol 3)) (symbol 3),
                (
                  name_bound end_names (Numbered 2) (symbol 2) refl,
                  (
                    claimed end_names (cell (symbol 2) (symbol 4) ∷ []) (end_of yes_path (symbol 3)),
                    no_change,
                    (
                      tt,
                      (
                        cell (symbol 2) (symbol 4),
                        [],
                        takes_all (same_self claiming_environment (end_of yes_path (symbol 3)) written_share),
                        (
                          refl,
                          (
                            symbol 2,
                            Some (symbol 4),
                            refl,
                            same_self claiming_environment (end_of yes_path (symbol 3)) (symbol 2),
                            (name_bound end_names (Numbered 4) (symbol 4) refl, same_self claiming_environment (end_of yes_path (symbol 3)) (symbol 4), (refl, λ x t fixed is. is)),
                          ),
                        ),
                      ),
                    ),
                  ),
                ),
              ),
            ),
          ),
        ),
      ),
    ),
  ),
)

first_stands_in : StandsIn claiming_environment claiming_program read read_contract reader_contract (claimed names (cell (symbol 1) (symbol 3) ∷ cell (symbol 2) (symbol 4) ∷ []) yes_path)
first_stands_in = (
  have,
  sorted claiming_environment yes_path read_contract.sorts arguments (by_place claiming_environment yes_path 0 (OfSort (symbol 0) Pointers) refl, (by_place claiming_environment yes_path 1 (OfSort (symbol 1) Pointers) refl, (by_place claiming_environment yes_path 2 (OfSort (symbol 2) Pointers) refl, tt))),
  (
    name_bound (call_store arguments) (Numbered 0) (symbol 0) refl,
    (
      claimed names (cell (symbol 1) (symbol 3) ∷ cell (symbol 2) (symbol 4) ∷ []) yes_path,
      no_change,
      (
        tt,
        (
          cell (symbol 1) (symbol 3),
          cell (symbol 2) (symbol 4) ∷ [],
          takes_all (same_self claiming_environment yes_path written_share),
          (
            refl,
            (
              symbol 1,
              Some (symbol 3),
              refl,
              by_place claiming_environment yes_path 18 (same (symbol 0) (symbol 1)) refl,
              (
                refl,
                (by_place claiming_environment yes_path 8 (OfSort (symbol 3) Integers) refl, tt),
                (
                  5,
                  new_symbol 5 all_of_it (own_store (symbol 3)) [] (claimed names (cell (symbol 2) (symbol 4) ∷ []) yes_path) (fresh_state 5 (claimed names (cell (symbol 2) (symbol 4) ∷ []) yes_path) fresh_names refl refl refl)
                      (fresh_stored 5 (call_store arguments) (Numbered 3) (symbol 3) (fresh_call 5 arguments refl) refl) refl refl,
                  own_fixed (symbol 3),
                  (
                    name_bound (stored (own_store (symbol 3)) Result (symbol 5)) (Numbered 0) (symbol 0) refl,
                    (tt, (name_bound (stored (own_store (symbol 3)) Result (symbol 5)) (Numbered 3) (symbol 3) refl, no_step ended_first)),
                  ),
                ),
              ),
            ),
          ),
        ),
      ),
    ),
  ),
)

-- the second case: the other pointer is the one
second_of : (a b : Bool) → (a || b) ≡ true → not a ≡ true → b ≡ true
second_of true b h k = absurd (false≢true k)
second_of false b h k = h

is_second : (path : List Fact) → Entails claiming_environment path (Holds (Or (Compare Equal (symbol 0) (symbol 1)) (Compare Equal (symbol 0) (symbol 2)))) → Entails claiming_environment path (Holds (Not (Compare Equal (symbol 0) (symbol 1)))) → Entails claiming_environment path (same (symbol 0) (symbol 2))
is_second path one none = record { by = λ v m. second_of (is_same (v (Numbered 0)) (v (Numbered 1))) (is_same (v (Numbered 0)) (v (Numbered 2))) (one.by v m) (none.by v m) }

abbrev no_end : List Fact
no_end = end_of no_path (symbol 4)

ended_second : Ends claiming_environment claiming_program reader_contract (claimed end_names (cell (symbol 1) (symbol 3) ∷ cell (symbol 0) (symbol 4) ∷ []) no_end)
ended_second = (
  symbol 5,
  stored_own names Result (symbol 5),
  (
    name_bound end_names (Numbered 1) (symbol 1) refl,
    (
      claimed end_names (cell (symbol 1) (symbol 3) ∷ cell (symbol 0) (symbol 4) ∷ []) no_end,
      no_change,
      (
        tt,
        (
          cell (symbol 1) (symbol 3),
          cell (symbol 0) (symbol 4) ∷ [],
          takes_all (same_self claiming_environment no_end written_share),
          (
            refl,
            (
              symbol 1,
              Some (symbol 3),
              refl,
              same_self claiming_environment no_end (symbol 1),
              (
                name_bound end_names (Numbered 3) (symbol 3) refl,
                same_self claiming_environment no_end (symbol 3),
                (
                  name_bound end_names (Numbered 2) (symbol 2) refl,
                  (
                    claimed end_names (cell (symbol 0) (symbol 4) ∷ []) no_end,
                    no_change,
                    (
                      tt,
                      (
                        cell (symbol 0) (symbol 4),
                        [],
                        takes_all (same_self claiming_environment no_end written_share),
                        (
                          refl,
                          (
                            symbol 0,
                            Some (symbol 4),
                            refl,
                            turned no_end (symbol 0) (symbol 2) (is_second no_end (by_place claiming_environment no_end 7 _ refl) (by_place claiming_environment no_end 18 _ refl)),
                            (name_bound end_names (Numbered 4) (symbol 4) refl, same_self claiming_environment no_end (symbol 4), (refl, λ x t fixed is. is)),
                          ),
                        ),
                      ),
                    ),
                  ),
                ),
              ),
            ),
          ),
        ),
      ),
    ),
  ),
)

second_stands_in : StandsIn claiming_environment claiming_program read read_contract reader_contract (claimed names (cell (symbol 1) (symbol 3) ∷ cell (symbol 2) (symbol 4) ∷ []) no_path)
second_stands_in = (
  have,
  sorted claiming_environment no_path read_contract.sorts arguments (by_place claiming_environment no_path 0 (OfSort (symbol 0) Pointers) refl, (by_place claiming_environment no_path 1 (OfSort (symbol 1) Pointers) refl, (by_place claiming_environment no_path 2 (OfSort (symbol 2) Pointers) refl, tt))),
  (
    name_bound (call_store arguments) (Numbered 0) (symbol 0) refl,
    (
      claimed names (cell (symbol 1) (symbol 3) ∷ cell (symbol 2) (symbol 4) ∷ []) no_path,
      no_change,
      (
        tt,
        (
          cell (symbol 2) (symbol 4),
          cell (symbol 1) (symbol 3) ∷ [],
          takes_later (takes_all (same_self claiming_environment no_path written_share)),
          (
            refl,
            (
              symbol 2,
              Some (symbol 4),
              refl,
              is_second no_path (by_place claiming_environment no_path 7 _ refl) (by_place claiming_environment no_path 18 _ refl),
              (
                refl,
                (by_place claiming_environment no_path 13 (OfSort (symbol 4) Integers) refl, tt),
                (
                  5,
                  new_symbol 5 all_of_it (own_store (symbol 4)) [] (claimed names (cell (symbol 1) (symbol 3) ∷ []) no_path) (fresh_state 5 (claimed names (cell (symbol 1) (symbol 3) ∷ []) no_path) fresh_names refl refl refl)
                      (fresh_stored 5 (call_store arguments) (Numbered 3) (symbol 4) (fresh_call 5 arguments refl) refl) refl refl,
                  own_fixed (symbol 4),
                  (
                    name_bound (stored (own_store (symbol 4)) Result (symbol 5)) (Numbered 0) (symbol 0) refl,
                    (tt, (name_bound (stored (own_store (symbol 4)) Result (symbol 5)) (Numbered 3) (symbol 4) refl, no_step ended_second)),
                  ),
                ),
              ),
            ),
          ),
        ),
      ),
    ),
  ),
)

refines : RefinesType claiming_environment claiming_program read read_contract reader_contract read_name
refines = record {
  parameters = refl;
  outs = record { store = names; state = claimed (call_store arguments) (cell (symbol 1) (symbol 3) ∷ cell (symbol 2) (symbol 4) ∷ []) claim_path } ∷ [];
  required = (
    pairs_bound type_names (Numbered 0) (Numbered 1) (Numbered 2) (symbol 0) (symbol 1) (symbol 2) refl refl refl,
    inr (
      name_bound type_names (Numbered 1) (symbol 1) refl,
      (
        tt,
        (
          3,
          new_symbol 3 all_of_it type_names (Some written_share ∷ Some (symbol 1) ∷ []) (claimed (call_store arguments) [] or_path) (fresh_state 3 (claimed (call_store arguments) [] or_path) (fresh_call 3 arguments refl) refl refl refl) (fresh_type_names 3 (fresh_call 3 arguments refl)) refl refl,
          refl,
          (
            name_bound first_names (Numbered 2) (symbol 2) refl,
            (
              tt,
              (
                4,
                new_symbol 4 all_of_it first_names (Some written_share ∷ Some (symbol 2) ∷ []) (claimed (call_store arguments) (cell (symbol 1) (symbol 3) ∷ []) first_path)
                    (fresh_state 4 (claimed (call_store arguments) (cell (symbol 1) (symbol 3) ∷ []) first_path) (fresh_call 4 arguments refl) refl refl refl)
                    (fresh_stored 4 type_names (Numbered 3) (symbol 3) (fresh_type_names 4 (fresh_call 4 arguments refl)) refl) refl refl,
                refl,
                inl (refl, refl),
              ),
            ),
          ),
        ),
      ),
    ),
  );
  kept = λ s st among. among_one (λ s st. AfterGhostSteps claiming_environment claiming_program (StandsIn claiming_environment claiming_program read read_contract reader_contract) (record st { names = s })) names
      (claimed (call_store arguments) (cell (symbol 1) (symbol 3) ∷ cell (symbol 2) (symbol 4) ∷ []) claim_path) (may_split (Compare Equal (symbol 0) (symbol 1)) (no_step first_stands_in) (no_step second_stands_in)) s st among;
}

pub read_keeps : KeepsClaim claiming_environment claiming_program read_name reader_contract
read_keeps = record { number = 3; function = read; named = refl; is = refl; own = read_contract; is_own = refl; has = read_has; refines = refines }
