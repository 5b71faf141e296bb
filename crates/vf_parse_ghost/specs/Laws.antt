-- What is known of what is read.
use Rattle.std.specs.Prelude.{◌≡◌, ℕ, List, Some}
use Rattle.vf_lexer.specs.declared.token.Token.{Token}
use Rattle.vf_syntax.specs.declared.contract.Claim.{Claim}
use Rattle.vf_syntax.specs.declared.item.GhostItem.{GhostItem}
use Rattle.vf_syntax.specs.Statements.{claim, contract, contract_nesting, invariant_walk, invariant_nesting}
use Rattle.vf_syntax.specs.Units.{ghost_item, ghost_form_nesting}
use Rattle.vf_cursor.specs.Parsing.{ok}
use Rattle.vf_parse_term.specs.Laws.{IsSpelled}
use Rattle.vf_parse_ghost.specs.Clauses.{claim_at, contract_at, invariant_at}
use Rattle.vf_parse_ghost.specs.Items.{item_at}

-- how deep a ghost item nests
abbrev pub item_depth : GhostItem → ℕ
item_depth x = ghost_form_nesting x.form

-- the tokens that were taken spell the claim
abbrev pub ClaimsAreSpelled : Type 0
ClaimsAreSpelled = (ts : List Token) (x : Claim) (rest : List Token) → claim_at ts ≡ ok x rest → claim x ts ≡ Some rest

-- the tokens that were taken spell the contract, which nests no deeper than it may
abbrev pub ContractsAreSpelled : Type 0
ContractsAreSpelled = (d : ℕ) → IsSpelled (contract_at d) contract contract_nesting d

-- the same of an invariant
abbrev pub InvariantsAreSpelled : Type 0
InvariantsAreSpelled = (d : ℕ) → IsSpelled (invariant_at d) invariant_walk invariant_nesting d

-- the same of a ghost item
abbrev pub GhostItemsAreSpelled : Type 0
GhostItemsAreSpelled = (d : ℕ) → IsSpelled (item_at d) ghost_item item_depth d
