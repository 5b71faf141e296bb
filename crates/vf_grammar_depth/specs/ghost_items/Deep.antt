-- What is answered where contracts, invariants and ghost items may nest deeper.
use Rattle.std.specs.Prelude.{ℕ, suc, ◌+◌, ◌<◌, List, length}
use Rattle.vf_lexer.specs.declared.token.Token.{Token}
use Rattle.vf_parse_ghost.specs.Clauses.{claim_at, contract_at, invariant_at}
use Rattle.vf_parse_ghost.specs.Items.{item_at}
use Rattle.vf_grammar_depth.specs.expressions.Deep.{Deepens, IsNotTooDeep}

-- nothing in a claim is too deep
abbrev pub ClaimsDeepen : Type 0
ClaimsDeepen = (ts : List Token) → IsNotTooDeep (claim_at ts)

-- where two more may nest, a contract is answered alike, but past each token that was too deep; and nothing is too deep where more may nest than twice as many as there are tokens, and one
abbrev pub ContractsDeepen : Type 0
ContractsDeepen = (d m : ℕ) (ts : List Token) → suc d < m → Deepens (contract_at d ts) (contract_at m ts) × (suc (length ts + length ts) < m → IsNotTooDeep (contract_at m ts))

-- the same of an invariant
abbrev pub InvariantsDeepen : Type 0
InvariantsDeepen = (d m : ℕ) (ts : List Token) → suc d < m → Deepens (invariant_at d ts) (invariant_at m ts) × (suc (length ts + length ts) < m → IsNotTooDeep (invariant_at m ts))

-- the same of a ghost item
abbrev pub GhostItemsDeepen : Type 0
GhostItemsDeepen = (d m : ℕ) (ts : List Token) → suc d < m → Deepens (item_at d ts) (item_at m ts) × (suc (length ts + length ts) < m → IsNotTooDeep (item_at m ts))
