-- What is spelled is read.
use Rattle.std.specs.Prelude.{◌≡◌, ℕ, ◌≤◌, List, Some}
use Rattle.vf_lexer.specs.declared.token.Token.{Token}
use Rattle.vf_syntax.specs.declared.contract.Claim.{Claim}
use Rattle.vf_syntax.specs.declared.contract.Contract.{Contract}
use Rattle.vf_syntax.specs.declared.contract.Invariant.{Invariant}
use Rattle.vf_syntax.specs.declared.item.GhostItem.{GhostItem}
use Rattle.vf_syntax.specs.Statements.{claim, contract, invariant_walk, contract_nesting, invariant_nesting}
use Rattle.vf_syntax.specs.Units.{ghost_item}
use Rattle.vf_cursor.specs.Parsing.{ok}
use Rattle.vf_parse_ghost.specs.Clauses.{claim_at, contract_at, invariant_at}
use Rattle.vf_parse_ghost.specs.Items.{item_at}
use Rattle.vf_parse_ghost.specs.Laws.{item_depth}

-- a claim that tokens spell is read from them, whatever stands behind it
abbrev pub ClaimsAreRead : Type 0
ClaimsAreRead = (x : Claim) (ts rest : List Token) → claim x ts ≡ Some rest → claim_at ts ≡ ok x rest

-- a contract that tokens spell, and that nests no deeper than it may, is read from them, whatever stands behind it
abbrev pub ContractsAreRead : Type 0
ContractsAreRead = (d : ℕ) (x : Contract) (ts rest : List Token) → contract x ts ≡ Some rest → contract_nesting x ≤ d → contract_at d ts ≡ ok x rest

-- the same of an invariant
abbrev pub InvariantsAreRead : Type 0
InvariantsAreRead = (d : ℕ) (x : Invariant) (ts rest : List Token) → invariant_walk x ts ≡ Some rest → invariant_nesting x ≤ d → invariant_at d ts ≡ ok x rest

-- the same of a ghost item
abbrev pub GhostItemsAreRead : Type 0
GhostItemsAreRead = (d : ℕ) (x : GhostItem) (ts rest : List Token) → ghost_item x ts ≡ Some rest → item_depth x ≤ d → item_at d ts ≡ ok x rest

-- two ghost items that the same tokens spell are one, places included
abbrev pub GhostItemsHaveOneReading : Type 0
GhostItemsHaveOneReading = (x y : GhostItem) (ts rest : List Token) → ghost_item x ts ≡ Some rest → ghost_item y ts ≡ Some rest → x ≡ y
