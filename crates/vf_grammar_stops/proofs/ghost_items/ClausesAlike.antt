-- Contracts, claims and invariants stop alike on tokens that are alike, also where more may nest.
use Rattle.std.proofs.Common.{ℕ, ◌≤◌, Bool, false, List, Some, None}
use Rattle.vf_base.specs.declared.place.Place.{Place}
use Rattle.vf_lexer.specs.declared.punctuator.Punctuator.TheVariants as punctuators
use Rattle.vf_syntax.specs.declared.keyword.Keyword.{Keyword}
use Rattle.vf_syntax.specs.declared.keyword.Keyword.TheVariants as keywords
use Rattle.vf_syntax.specs.declared.side.Side.TheVariants.{Ghost}
use Rattle.vf_syntax.specs.declared.written.Name.{Name}
use Rattle.vf_syntax.specs.declared.contract.Contract.{Contract}
use Rattle.vf_syntax.specs.declared.contract.Claim.{Claim}
use Rattle.vf_syntax.specs.declared.contract.Invariant.{Invariant}
use Rattle.vf_syntax.specs.AssertionTree.{PartTree}
use Rattle.vf_syntax.specs.Walks.{is_word}
use Rattle.vf_parse_ghost.specs.Clauses.{claim_at, clause_at, contract_at, invariant_at, any_contract_at}
use Rattle.vf_grammar_stops.proofs.types.Local.{Does, then_like, done_like, mark_like, word_like, name_like, choice_like}
use Rattle.vf_grammar_stops.proofs.assertions.AssertionsAlike.{assertion_like}

-- a claim of a name
abbrev claim_of : Place → Name → Claim
claim_of p n = record { place = p; name = n }

-- a contract of two assertions
abbrev contract_of : Place → List PartTree → List PartTree → Contract
contract_of p a b = record { place = p; precondition = a; postcondition = b }

-- an invariant of an assertion
abbrev invariant_of : Place → List PartTree → Invariant
invariant_of p a = record { place = p; assertion = a }

pub claim_like : {b : Bool} → Does b claim_at claim_at
unfolding claim_at
claim_like = then_like (mark_like Ghost punctuators.Colon) (λ p. then_like (name_like Ghost) (λ n. done_like (claim_of p n)))

clause_like : (k : Keyword) (d m : ℕ) → d ≤ m → Does false (clause_at k d) (clause_at k m)
unfolding clause_at
clause_like k d m le = then_like (word_like Ghost k) (λ w. then_like (assertion_like d m le) (λ a. then_like (mark_like Ghost punctuators.Semicolon) (λ z. done_like (w, a))))

pub contract_like : (d m : ℕ) → d ≤ m → Does false (contract_at d) (contract_at m)
unfolding contract_at
contract_like d m le = then_like (clause_like keywords.Requires d m le) (λ a. then_like (clause_like keywords.Ensures d m le) (λ c. done_like (contract_of a.0 a.1 c.1)))

pub invariant_like : (d m : ℕ) → d ≤ m → Does false (invariant_at d) (invariant_at m)
unfolding invariant_at
invariant_like d m le = then_like (clause_like keywords.Invariant d m le) (λ a. done_like (invariant_of a.0 a.1))

pub any_contract_like : (d m : ℕ) → d ≤ m → Does false (any_contract_at d) (any_contract_at m)
unfolding any_contract_at
any_contract_like d m le = choice_like (is_word Ghost keywords.Requires) (then_like (contract_like d m le) (λ c. done_like (Some c))) (done_like None)
