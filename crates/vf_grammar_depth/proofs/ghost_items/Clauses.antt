-- Contracts, claims and invariants go past what was too deep, where more may nest.
use Rattle.std.proofs.Common.{ℕ, List, Some, None}
use Rattle.vf_base.specs.declared.place.Place.{Place}
use Rattle.vf_lexer.specs.declared.punctuator.Punctuator.TheVariants as punctuators
use Rattle.vf_syntax.specs.declared.keyword.Keyword.{Keyword}
use Rattle.vf_syntax.specs.declared.keyword.Keyword.TheVariants as keywords
use Rattle.vf_syntax.specs.declared.side.Side.TheVariants.{Ghost}
use Rattle.vf_syntax.specs.declared.written.Name.{Name}
use Rattle.vf_syntax.specs.declared.contract.Contract.{Contract}
use Rattle.vf_syntax.specs.declared.contract.Claim.{Claim}
use Rattle.vf_syntax.specs.declared.contract.Invariant.{Invariant}
use Rattle.vf_syntax.specs.AssertionTree.{PartTree}
use Rattle.vf_syntax.specs.Walks.{is_word}
use Rattle.vf_parse_ghost.specs.Clauses.{claim_at, clause_at, contract_at, invariant_at, any_contract_at}
use Rattle.vf_grammar_depth.proofs.expressions.Deeper.{Deeper, then_deep, done_deep, mark_deep, word_deep, name_deep, head_deep}
use Rattle.vf_grammar_depth.proofs.ghost_items.Inside.{Inside}

-- a claim of a name
abbrev claim_of : Place → Name → Claim
claim_of p n = record { place = p; name = n }

-- a contract of two assertions
abbrev contract_of : Place → List PartTree → List PartTree → Contract
contract_of p a b = record { place = p; precondition = a; postcondition = b }

-- an invariant of an assertion
abbrev invariant_of : Place → List PartTree → Invariant
invariant_of p a = record { place = p; assertion = a }

pub claim_deep : {j : ℕ} → Deeper j claim_at claim_at
unfolding claim_at
claim_deep = then_deep (mark_deep Ghost punctuators.Colon) (λ p. then_deep (name_deep Ghost) (λ n. done_deep (claim_of p n)))

clause_deep : {j d m : ℕ} (k : Keyword) → Inside j d m → Deeper j (clause_at k d) (clause_at k m)
unfolding clause_at
clause_deep k h = then_deep (word_deep Ghost k) (λ w. then_deep h.assertions (λ a. then_deep (mark_deep Ghost punctuators.Semicolon) (λ z. done_deep (w, a))))

pub contract_deep : {j d m : ℕ} → Inside j d m → Deeper j (contract_at d) (contract_at m)
unfolding contract_at
contract_deep h = then_deep (clause_deep keywords.Requires h) (λ a. then_deep (clause_deep keywords.Ensures h) (λ c. done_deep (contract_of a.0 a.1 c.1)))

pub invariant_deep : {j d m : ℕ} → Inside j d m → Deeper j (invariant_at d) (invariant_at m)
unfolding invariant_at
invariant_deep h = then_deep (clause_deep keywords.Invariant h) (λ a. done_deep (invariant_of a.0 a.1))

pub any_contract_deep : {j d m : ℕ} → Inside j d m → Deeper j (any_contract_at d) (any_contract_at m)
unfolding any_contract_at
any_contract_deep h = head_deep (is_word Ghost keywords.Requires) (then_deep (contract_deep h) (λ c. done_deep (Some c))) (done_deep None)
