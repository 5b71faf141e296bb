-- The function over an account is accepted, and keeps the contract of its type, which leaves open what the account holds: that it is a number is seen in the chunk.
use Rattle.std.proofs.Common.{ℕ, zero, suc, pos, List, [], ◌∷◌, ◌++◌, Some, refl, subst, ◌∙◌, inl, inr, arith, None}
use Rattle.vf_tree.specs.Core as core
use Rattle.vf_model.specs.Values.{Dyadic, Values}
use Rattle.vf_model.specs.Values as values
use Rattle.vf_meaning.specs.Ghost.{Integers, Pointers, Numbered, Result, This, Function, Number}
use Rattle.vf_meaning.specs.Valuations.{Valuation, listed}
use Rattle.vf_meaning.specs.Sorts.{HasSort}
use Rattle.vf_meaning.specs.Parts.{Part}
use Rattle.vf_meaning.specs.Chunks.{Just, AllMeet}
use Rattle.vf_meaning.specs.Satisfaction.{MeansAt}
use Rattle.vf_meaning.specs.Assertions.{Named, Plain}
use Rattle.vf_rules.specs.Terms.{Term, Store, stored}
use Rattle.vf_rules.specs.States.{Fact, OfSort, Of, SymbolicChunk, SymbolicState, ChunksMean, Shows, facts_of_thread}
use Rattle.vf_rules.specs.Fresh.{symbol}
use Rattle.vf_rules.specs.Take.{takes_all, no_change}
use Rattle.vf_rules.specs.Accept.{all_of_it, call_store, pointer_store, beginning, HasContract, Accepts, do_return, IsAcceptedFunction}
use Rattle.vf_rules.specs.GhostSteps.{AfterGhostSteps, no_step, may_see}
use Rattle.vf_rules.specs.Claims.{before_claim, Ends, StandsIn, RefinesType, KeepsClaim}
use Rattle.vf_rules.proofs.Terms.{stored_own, stored_grows}
use Rattle.vf_examples.specs.Claiming.{account, audit_name, audit, claiming_program, audit_contract, auditor_contract, claiming_environment}
use Rattle.vf_examples.proofs.NewSymbols.{fresh_stored, fresh_call, fresh_state, new_symbol}
use Rattle.vf_examples.proofs.SharingFacts.{among_one, by_place, call_fixed, fixed_stored, integer_is_no_void, name_bound, nothing_bound, same_self, sorted}
use Rattle.vf_examples.proofs.SharedTick.{written_share}
use Rattle.vf_examples.proofs.ClaimingFacts.{int_facts, claimed, keeps_result, seven_facts, plain_inhabited}

abbrev arguments : List Term
arguments = symbol 0 ∷ []

abbrev account_there : SymbolicChunk
account_there = record { share = written_share; head = Of (Named account); arguments = Some (symbol 0) ∷ Some (symbol 1) ∷ [] }

-- what is known of the parameter
abbrev path0 : List Fact
path0 = OfSort (symbol 0) Pointers ∷ OfSort (symbol 0) Pointers ∷ facts_of_thread

-- and that the account holds a number
abbrev path1 : List Fact
path1 = path0 ++ OfSort (symbol 1) Integers ∷ []

-- ---- the body
abbrev own_store : Store
own_store = stored (call_store arguments) (Numbered 1) (symbol 1)

abbrev begun : SymbolicState
begun = record { locals = Some (symbol 0) ∷ []; names = call_store arguments; chunks = account_there ∷ []; path = path1 }

abbrev at_return : SymbolicState
at_return = record { locals = Some (symbol 0) ∷ []; names = own_store; chunks = account_there ∷ []; path = path1 }

returns : Accepts claiming_environment claiming_program audit audit_contract [] [] 0 at_return
returns =
    do_return {now = []} {soon = []} {n = 0} {st = at_return} (core.Number (pos 7)) (Number (pos 7)) refl refl (seven_facts path1) integer_is_no_void (
      nothing_bound (stored own_store Result (Number (pos 7))),
      (
        at_return,
        no_change,
        (
          tt,
          (
            account_there,
            [],
            takes_all (same_self claiming_environment path1 written_share),
            (
              refl,
              (
                name_bound (stored own_store Result (Number (pos 7))) (Numbered 0) (symbol 0) refl,
                same_self claiming_environment path1 (symbol 0),
                (name_bound (stored own_store Result (Number (pos 7))) (Numbered 1) (symbol 1) refl, same_self claiming_environment path1 (symbol 1), (refl, keeps_result audit_contract own_store (Number (pos 7)))),
              ),
            ),
          ),
        ),
      ),
    )

pub audit_has : HasContract claiming_environment audit audit_contract
audit_has = record { known = inl refl; parameters = refl; fewer = omega arith; inhabited = plain_inhabited audit_contract.sorts (tt, (tt, tt)) }

pub audit_accepted : IsAcceptedFunction claiming_environment claiming_program audit audit_contract
audit_accepted = record {
  contract = audit_has;
  outs = record { store = own_store; state = begun } ∷ [];
  produced = (
    nothing_bound (call_store arguments),
    (
      tt,
      (
        name_bound (call_store arguments) (Numbered 0) (symbol 0) refl,
        (
          1,
          new_symbol 1 all_of_it (call_store arguments) (Some written_share ∷ Some (symbol 0) ∷ []) (beginning audit audit_contract) (fresh_state 1 (beginning audit audit_contract) (fresh_call 1 arguments refl) refl refl refl) (fresh_call 1 arguments refl) refl refl,
          refl,
          inl (refl, refl),
        ),
      ),
    ),
  );
  body = λ s st among. among_one (λ s st. Accepts claiming_environment claiming_program audit audit_contract [] [] 0 (record st { names = s })) own_store begun returns s st among;
}

-- ---- what an account holds is a number, by its body
holds_number : (v : Valuation) (x : Dyadic) (q : Part) (n : ℕ) (vs : Values) → AllMeet (Just (v (Numbered 0)) ∷ Just (v (Numbered 1)) ∷ []) (listed vs) → MeansAt claiming_environment n x (Plain account) vs q → HasSort claiming_environment (v (Numbered 1)) Integers
holds_number v x q zero vs meet h = absurd h
holds_number v x q (suc n) values.none meet h = absurd meet
holds_number v x q (suc n) (values.more a values.none) meet h = absurd meet.1
holds_number v x q (suc n) (values.more a (values.more b others)) meet h = subst (λ z. HasSort claiming_environment z Integers) (h.begins 1 (omega arith) ∙ (meet.1).0) (h.sorts 1 Integers refl)

head_sorted : (v : Valuation) (x : Dyadic) (q : Part) → (n : ℕ) × ((vs : Values) × AllMeet (Just (v (Numbered 0)) ∷ Just (v (Numbered 1)) ∷ []) (listed vs) × MeansAt claiming_environment n x (Plain account) vs q) → HasSort claiming_environment (v (Numbered 1)) Integers
head_sorted v x q (n, (vs, meet, h)) = holds_number v x q n vs meet h

account_sorted : (v : Valuation) (p : Part) → ChunksMean claiming_environment v (account_there ∷ []) p → HasSort claiming_environment (v (Numbered 1)) Integers
account_sorted v p (q, r, sums, means, others) = head_sorted v means.fraction q means.head

-- ---- the claim
abbrev type_names : Store
type_names = pointer_store arguments (Function audit_name)

abbrev end_path : List Fact
end_path = path1 ++ int_facts (symbol 2)

ended : Ends claiming_environment claiming_program auditor_contract (claimed (stored type_names Result (symbol 2)) (account_there ∷ []) end_path)
ended = (
  symbol 2,
  stored_own type_names Result (symbol 2),
  (
    nothing_bound (stored type_names Result (symbol 2)),
    (
      claimed (stored type_names Result (symbol 2)) (account_there ∷ []) end_path,
      no_change,
      (
        tt,
        (
          account_there,
          [],
          takes_all (same_self claiming_environment end_path written_share),
          (refl, (name_bound (stored type_names Result (symbol 2)) (Numbered 0) (symbol 0) refl, same_self claiming_environment end_path (symbol 0), (refl, λ x t fixed is. is))),
        ),
      ),
    ),
  ),
)

stands_in : StandsIn claiming_environment claiming_program audit audit_contract auditor_contract (claimed type_names (account_there ∷ []) path1)
stands_in = (
  stored_grows (call_store arguments) This (Function audit_name) refl,
  sorted claiming_environment path1 audit_contract.sorts arguments (by_place claiming_environment path1 0 (OfSort (symbol 0) Pointers) refl, tt),
  (
    nothing_bound (call_store arguments),
    (
      claimed type_names (account_there ∷ []) path1,
      no_change,
      (
        tt,
        (
          account_there,
          [],
          takes_all (same_self claiming_environment path1 written_share),
          (
            refl,
            (
              name_bound (call_store arguments) (Numbered 0) (symbol 0) refl,
              same_self claiming_environment path1 (symbol 0),
              (
                refl,
                (by_place claiming_environment path1 3 (OfSort (symbol 1) Integers) refl, tt),
                (
                  2,
                  new_symbol 2 all_of_it own_store [] (claimed type_names [] path1) (fresh_state 2 (claimed type_names [] path1) (fresh_stored 2 (call_store arguments) This (Function audit_name) (fresh_call 2 arguments refl) refl) refl refl refl)
                      (fresh_stored 2 (call_store arguments) (Numbered 1) (symbol 1) (fresh_call 2 arguments refl) refl) refl refl,
                  fixed_stored audit_contract (call_store arguments) (Numbered 1) (symbol 1) (call_fixed audit_contract arguments refl) (inr (inr (inr (inr (inl refl))))),
                  (
                    nothing_bound (stored own_store Result (symbol 2)),
                    (tt, (name_bound (stored own_store Result (symbol 2)) (Numbered 0) (symbol 0) refl, (name_bound (stored own_store Result (symbol 2)) (Numbered 1) (symbol 1) refl, no_step ended))),
                  ),
                ),
              ),
            ),
          ),
        ),
      ),
    ),
  ),
)

seen : Shows claiming_environment (claimed type_names (account_there ∷ []) path0) (OfSort (symbol 1) Integers)
seen = record { by = λ v locals names p stands. account_sorted v p stands.chunks_mean }

refines : RefinesType claiming_environment claiming_program audit audit_contract auditor_contract audit_name
refines = record {
  parameters = refl;
  outs = record { store = type_names; state = claimed (call_store arguments) (account_there ∷ []) path0 } ∷ [];
  required = (
    nothing_bound type_names,
    (
      tt,
      (
        name_bound type_names (Numbered 0) (symbol 0) refl,
        (
          1,
          new_symbol 1 all_of_it type_names (Some written_share ∷ Some (symbol 0) ∷ []) (before_claim audit auditor_contract) (fresh_state 1 (before_claim audit auditor_contract) (fresh_call 1 arguments refl) refl refl refl)
              (fresh_stored 1 (call_store arguments) This (Function audit_name) (fresh_call 1 arguments refl) refl) refl refl,
          None,
          tt,
          inl (refl, refl),
        ),
      ),
    ),
  );
  kept = λ s st among. among_one (λ s st. AfterGhostSteps claiming_environment claiming_program (StandsIn claiming_environment claiming_program audit audit_contract auditor_contract) (record st { names = s })) type_names (claimed (call_store arguments) (account_there ∷ []) path0)
      (may_see (OfSort (symbol 1) Integers) seen (no_step stands_in)) s st among;
}

pub audit_keeps : KeepsClaim claiming_environment claiming_program audit_name auditor_contract
audit_keeps = record { number = 2; function = audit; named = refl; is = refl; own = audit_contract; is_own = refl; has = audit_has; refines = refines }
