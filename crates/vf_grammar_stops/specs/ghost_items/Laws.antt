-- Where a token is refused, one is refused in all tokens that begin alike.
use Rattle.std.specs.Prelude.{◌≡◌, ℕ, List, Some, Err}
use Rattle.vf_lexer.specs.declared.token.Token.{Token}
use Rattle.vf_syntax.specs.declared.contract.Contract.{Contract}
use Rattle.vf_syntax.specs.declared.contract.Claim.{Claim}
use Rattle.vf_syntax.specs.declared.contract.Invariant.{Invariant}
use Rattle.vf_syntax.specs.declared.item.GhostItem.{GhostItem}
use Rattle.vf_syntax.specs.Statements.{claim, contract, invariant_walk}
use Rattle.vf_syntax.specs.Units.{ghost_item}
use Rattle.vf_cursor.specs.declared.fault.Fault.TheVariants.{Syntax}
use Rattle.vf_parse_ghost.specs.Clauses.{claim_at, contract_at, invariant_at}
use Rattle.vf_parse_ghost.specs.Items.{item_at}
use Rattle.vf_grammar_stops.specs.types.Stops.{BeginsUpTo}
use Rattle.vf_grammar_stops.specs.assertions.Laws.{RefusesAlike}

-- where a token is refused in a contract, one is refused in all tokens that are alike up to it, also where more may nest
abbrev pub ContractsRefuseAlike : Type 0
ContractsRefuseAlike = RefusesAlike contract_at

-- the same of an invariant
abbrev pub InvariantsRefuseAlike : Type 0
InvariantsRefuseAlike = RefusesAlike invariant_at

-- the same of a ghost item
abbrev pub GhostItemsRefuseAlike : Type 0
GhostItemsRefuseAlike = RefusesAlike item_at

-- a token is refused in a claim only where no tokens that are alike up to it begin with a claim
abbrev pub ClaimsStopAlike : Type 0
ClaimsStopAlike = (ts other rest : List Token) (n : ℕ) (x : Claim) → claim_at ts ≡ Err (Syntax n) → BeginsUpTo ts n other → claim x other ≡ Some rest → ⊥

-- the same of a contract, however deep it nests
abbrev pub ContractsStopAlike : Type 0
ContractsStopAlike = (d : ℕ) (ts other rest : List Token) (n : ℕ) (x : Contract) → contract_at d ts ≡ Err (Syntax n) → BeginsUpTo ts n other → contract x other ≡ Some rest → ⊥

-- the same of an invariant
abbrev pub InvariantsStopAlike : Type 0
InvariantsStopAlike = (d : ℕ) (ts other rest : List Token) (n : ℕ) (x : Invariant) → invariant_at d ts ≡ Err (Syntax n) → BeginsUpTo ts n other → invariant_walk x other ≡ Some rest → ⊥

-- the same of a ghost item
abbrev pub GhostItemsStopAlike : Type 0
GhostItemsStopAlike = (d : ℕ) (ts other rest : List Token) (n : ℕ) (x : GhostItem) → item_at d ts ≡ Err (Syntax n) → BeginsUpTo ts n other → ghost_item x other ≡ Some rest → ⊥
