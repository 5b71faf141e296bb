-- The program of which three functions claim function types is accepted.
use Rattle.std.specs.Prelude.{IsTrue, ◌&&◌}
use Rattle.std.proofs.Common.{◌≡◌, zero, suc, pos, Bool, true, false, cond, List, [], ◌∷◌, Some, refl, sym, ap, subst, ◌∙◌, ◌⊎◌, inl, inr, arith, ◌++◌}
use Rattle.std.proofs.lemmas.Bool.{false≢true}
use Rattle.vf_tree.specs.Core.{Identity}
use Rattle.vf_tree.specs.Core as core
use Rattle.vf_model.specs.Values.{same_identity}
use Rattle.vf_model.proofs.Equality.{identities_told}
use Rattle.vf_meaning.specs.Ghost.{Result, Truth, Number}
use Rattle.vf_meaning.specs.Assertions.{ContractTree}
use Rattle.vf_rules.specs.Terms.{stored}
use Rattle.vf_rules.specs.States.{Fact, Holds, SymbolicState, facts_of_thread}
use Rattle.vf_rules.specs.Accept.{call_store, HasContract, Accepts, do_return, IsAcceptedFunction}
use Rattle.vf_rules.specs.GhostSteps.{no_step}
use Rattle.vf_rules.specs.Claims.{KeepsClaim}
use Rattle.vf_safety.specs.Laws.{AreAccepted}
use Rattle.vf_examples.specs.BoxProgram.{box_contract}
use Rattle.vf_examples.specs.Claiming.{count_name, audit_name, read_name, counter_type, auditor_type, reader_type, count, audit, read, claiming_main, claiming_program, count_contract, counter_contract, audit_contract, auditor_contract, read_contract, reader_contract, claiming_environment, ClaimingIsAccepted}
use Rattle.vf_examples.proofs.SharingFacts.{among_one, first_bound, integer_is_no_void, none_some, nothing_bound, same_self, some_same}
use Rattle.vf_examples.proofs.ClaimingFacts.{keeps_result, seven_facts}
use Rattle.vf_examples.proofs.ClaimedRow.{count_accepted, count_keeps}
use Rattle.vf_examples.proofs.ClaimedAccount.{audit_accepted, audit_keeps}
use Rattle.vf_examples.proofs.ClaimedChoice.{read_accepted, read_keeps}
use Rattle.vf_examples.proofs.Defined.{only_defined}

-- ---- main
abbrev path : List Fact
path = facts_of_thread ++ Holds (Truth true) ∷ []

abbrev begun : SymbolicState
begun = record { locals = []; names = call_store []; chunks = []; path = path }

returns : Accepts claiming_environment claiming_program claiming_main box_contract [] [] 0 begun
returns =
    do_return {now = []} {soon = []} {n = 0} {st = begun} (core.Number (pos 7)) (Number (pos 7)) refl refl (seven_facts path) integer_is_no_void
    (first_bound (stored (call_store []) Result (Number (pos 7))) Result (Number (pos 7)) refl, same_self claiming_environment path (Number (pos 7)), (refl, keeps_result box_contract (call_store []) (Number (pos 7))))

main_has : HasContract claiming_environment claiming_main box_contract
main_has = record { known = inl refl; parameters = refl; fewer = omega arith; inhabited = λ k s h. none_some h }

main_accepted : IsAcceptedFunction claiming_environment claiming_program claiming_main box_contract
main_accepted = record {
  contract = main_has;
  outs = record { store = call_store []; state = begun } ∷ [];
  produced = (nothing_bound (call_store []), inr (inl (refl, refl)));
  body = λ s st among. among_one (λ s st. Accepts claiming_environment claiming_program claiming_main box_contract [] [] 0 (record st { names = s })) (call_store []) begun returns s st among;
}

-- ---- the functions
all_accepted : AreAccepted claiming_environment claiming_program
all_accepted zero f is = only_defined claiming_environment claiming_program claiming_main box_contract refl refl main_accepted f (some_same is)
all_accepted (suc zero) f is = only_defined claiming_environment claiming_program count count_contract refl refl count_accepted f (some_same is)
all_accepted (suc (suc zero)) f is = only_defined claiming_environment claiming_program audit audit_contract refl refl audit_accepted f (some_same is)
all_accepted (suc (suc (suc zero))) f is = only_defined claiming_environment claiming_program read read_contract refl refl read_accepted f (some_same is)
all_accepted (suc (suc (suc (suc n)))) f is = none_some is

-- ---- the claims
both_true : (a b : Bool) → (a && b) ≡ true → (a ≡ true) × (b ≡ true)
both_true true b h = (refl, h)
both_true false b h = absurd (false≢true h)

one_of_three : (a b c : Bool) → cond a true (cond b true c) ≡ true → (a ≡ true) ⊎ ((b ≡ true) ⊎ (c ≡ true))
one_of_three true b c h = inl refl
one_of_three false true c h = inr (inl refl)
one_of_three false false c h = inr (inr h)

keeps_its : (f t : Identity) (k : ContractTree) → claiming_environment.types t ≡ Some k → KeepsClaim claiming_environment claiming_program f k → (g type : Identity) (contract : ContractTree) → (same_identity g f && same_identity type t) ≡ true → claiming_environment.types type ≡ Some contract
    → KeepsClaim claiming_environment claiming_program g contract
keeps_its f t k known keeps g type contract both of_type =
    let each = both_true (same_identity g f) (same_identity type t) both in
    let contract_is : k ≡ contract = some_same (sym known ∙ ap claiming_environment.types (sym ((identities_told type t).0 each.1)) ∙ of_type) in
    subst (λ z. KeepsClaim claiming_environment claiming_program g z) contract_is (subst (λ z. KeepsClaim claiming_environment claiming_program z k) (sym ((identities_told g f).0 each.0)) keeps)

claims : (g type : Identity) (contract : ContractTree) → IsTrue (claiming_environment.claims g type) → claiming_environment.types type ≡ Some contract → KeepsClaim claiming_environment claiming_program g contract
claims g type contract claimed of_type =
    elim (one_of_three (same_identity g count_name && same_identity type counter_type) (same_identity g audit_name && same_identity type auditor_type) (same_identity g read_name && same_identity type reader_type) claimed) [
      | inl first ↦ keeps_its count_name counter_type counter_contract refl count_keeps g type contract first of_type
      | inr (inl second) ↦ keeps_its audit_name auditor_type auditor_contract refl audit_keeps g type contract second of_type
      | inr (inr third) ↦ keeps_its read_name reader_type reader_contract refl read_keeps g type contract third of_type
    ]

pub claiming_is_accepted : ClaimingIsAccepted
claiming_is_accepted = record {
  functions = all_accepted;
  claims = claims;
  main = claiming_main;
  is_main = refl;
  contract = box_contract;
  is_own = refl;
  has = main_has;
  alone = refl;
  begins = no_step (λ x t is. is, (nothing_bound (call_store []), record { by = λ v m. refl }, refl));
}
