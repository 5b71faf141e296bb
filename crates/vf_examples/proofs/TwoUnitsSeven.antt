-- The function of the first unit is accepted under the contract of its definition, which refines that of its prototype.
use Rattle.std.proofs.Common.{◌≡◌, pos, true, List, [], ◌∷◌, refl, subst, inl, inr, arith}
use Rattle.vf_tree.specs.Core as core
use Rattle.vf_meaning.specs.Ghost.{Result, Number, Truth}
use Rattle.vf_meaning.specs.Assertions.{Named, Plain, ContractTree}
use Rattle.vf_rules.specs.Terms.{stored}
use Rattle.vf_rules.specs.States.{Holds, SymbolicState, assuming, assuming_all, with_chunk}
use Rattle.vf_rules.specs.Fresh.{symbol}
use Rattle.vf_rules.specs.Take.{same, takes_all, no_change}
use Rattle.vf_rules.specs.Laws.{Outcome}
use Rattle.vf_rules.specs.Predicates.{store_of, closed, Closes}
use Rattle.vf_rules.specs.Accept.{all_of_it, call_store, facts_of_result, beginning, HasContract, Accepts, do_return, may_close, IsAcceptedFunction}
use Rattle.vf_rules.specs.GhostSteps.{AfterGhostSteps, no_step}
use Rattle.vf_rules.specs.Claims.{before_claim, with_result, Ends, StandsIn, RefinesPrototype}
use Rattle.vf_rules.proofs.Terms.{stored_own}
use Rattle.vf_safety.specs.Laws.{KeepsContracts}
use Rattle.vf_examples.specs.TwoUnits.{done_name, done_body, seven_own, seven_prototype, seven, both_units, two_program}
use Rattle.vf_examples.proofs.NewSymbols.{fresh_call, fresh_state, new_symbol}
use Rattle.vf_examples.proofs.SharingFacts.{among_one, call_fixed, first_bound, integer_is_no_void, nothing_bound, same_self, some_same, whole_fraction}
use Rattle.vf_examples.proofs.ClaimingFacts.{keeps_result}
use Rattle.vf_examples.proofs.TwoUnitsFacts.{written, done_chunk, closed_is_written, true_holds, seven_is_int, last_known, none_sorted, none_inhabited}

-- ---- the body
abbrev begun : SymbolicState
begun = assuming (beginning seven seven_own) (Holds (Truth true))

abbrev with_done : SymbolicState
with_done = with_chunk begun (closed (Named done_name) all_of_it [])

abbrev after_closing : List Outcome
after_closing = record { store = store_of []; state = with_done } ∷ []

closes : Closes both_units two_program begun after_closing
closes = record {
  share = all_of_it;
  fraction = whole_fraction both_units begun.path all_of_it (λ v. refl);
  name = Plain done_name;
  openable = refl;
  body = done_body;
  there = refl;
  arguments = [];
  number = refl;
  of_sorts = none_sorted begun.path [];
  inhabited = none_inhabited;
  consumed = inl (refl, refl);
}

returns : Accepts both_units two_program seven seven_own [] [] 0 with_done
returns =
    do_return {now = []} {soon = []} {n = 0} {st = with_done} (core.Number (pos 7)) (Number (pos 7)) refl refl (seven_is_int with_done.path) integer_is_no_void (
      first_bound (stored (call_store []) Result (Number (pos 7))) Result (Number (pos 7)) refl,
      same_self both_units with_done.path (Number (pos 7)),
      (
        nothing_bound (stored (call_store []) Result (Number (pos 7))),
        (with_done, no_change, (tt, (closed (Named done_name) all_of_it [], [], takes_all (closed_is_written with_done.path), (refl, (refl, keeps_result seven_own (call_store []) (Number (pos 7))))))),
      ),
    )

body : Accepts both_units two_program seven seven_own [] [] 0 begun
body = may_close after_closing closes (λ s su among. among_one (λ s su. Accepts both_units two_program seven seven_own [] [] 0 su) (store_of []) with_done returns s su among)

own_has : HasContract both_units seven seven_own
own_has = record { known = inl refl; parameters = refl; fewer = omega arith; inhabited = none_inhabited }

pub prototype_has : HasContract both_units seven seven_prototype
prototype_has = record { known = inr refl; parameters = refl; fewer = omega arith; inhabited = none_inhabited }

accepted : IsAcceptedFunction both_units two_program seven seven_own
accepted = record {
  contract = own_has;
  outs = record { store = call_store []; state = begun } ∷ [];
  produced = (nothing_bound (call_store []), inr (inl (refl, refl)));
  body = λ s st among. among_one (λ s st. Accepts both_units two_program seven seven_own [] [] 0 (record st { names = s })) (call_store []) begun body s st among;
}

-- ---- the refinement
abbrev wanted : SymbolicState
wanted = assuming (before_claim seven seven_prototype) (Holds (Truth true))

-- behind the own contract
abbrev with_seven : SymbolicState
with_seven = assuming (assuming_all wanted (facts_of_result (seven.signature).result (symbol 0))) (same (symbol 0) (Number (pos 7)))

abbrev given_back : SymbolicState
given_back = with_result (with_chunk with_seven done_chunk) (symbol 0)

ended : Ends both_units two_program seven_prototype given_back
ended = (
  symbol 0,
  stored_own (call_store []) Result (symbol 0),
  (
    nothing_bound given_back.names,
    (
      given_back,
      no_change,
      (
        tt,
        (
          done_chunk,
          [],
          takes_all (same_self both_units given_back.path written),
          (
            refl,
            (
              first_bound given_back.names Result (symbol 0) refl,
              last_known (assuming_all wanted (facts_of_result (seven.signature).result (symbol 0))).path (same (symbol 0) (Number (pos 7))),
              (refl, λ x t fixed is. is),
            ),
          ),
        ),
      ),
    ),
  ),
)

stands_in : StandsIn both_units two_program seven seven_own seven_prototype wanted
stands_in = (
  λ x t is. is,
  none_sorted wanted.path [],
  (
    nothing_bound (call_store []),
    true_holds wanted.path,
    (
      0,
      new_symbol 0 all_of_it (call_store []) [] wanted (fresh_state 0 wanted (fresh_call 0 [] refl) refl refl refl) (fresh_call 0 [] refl) refl refl,
      call_fixed seven_own [] refl,
      (
        first_bound (stored (call_store []) Result (symbol 0)) Result (symbol 0) refl,
        inr (nothing_bound (stored (call_store []) Result (symbol 0)), (tt, no_step ended)),
      ),
    ),
  ),
)

refines : RefinesPrototype both_units two_program seven seven_own seven_prototype
refines = record {
  parameters = refl;
  outs = record { store = call_store []; state = wanted } ∷ [];
  required = (nothing_bound (call_store []), inr (inl (refl, refl)));
  kept = λ s st among. among_one (λ s st. AfterGhostSteps both_units two_program (StandsIn both_units two_program seven seven_own seven_prototype) (record st { names = s })) (call_store []) wanted (no_step stands_in) s st among;
}

pub seven_keeps : KeepsContracts both_units two_program seven
seven_keeps = record { own = seven_own; is_own = refl; accepted = accepted; refines = λ defined prototype of_definition of_prototype. each (some_same of_definition) (some_same of_prototype) }
  where
    each : {defined prototype : ContractTree} → seven_own ≡ defined → seven_prototype ≡ prototype → RefinesPrototype both_units two_program seven defined prototype
    each {defined = defined} own_is prototype_is = subst (λ z. RefinesPrototype both_units two_program seven defined z) prototype_is (subst (λ z. RefinesPrototype both_units two_program seven z seven_prototype) own_is refines)
