-- Where a token is refused, one is refused in all tokens that begin alike, and nothing of the kind could go on.
use Rattle.std.proofs.Common.{◌≡◌, ℕ, ◌+◌, false, List, Some, Err, sym, ◌∙◌, arith}
use Rattle.vf_lexer.specs.declared.token.Token.{Token}
use Rattle.vf_syntax.specs.declared.contract.Contract.{Contract}
use Rattle.vf_syntax.specs.declared.contract.Claim.{Claim}
use Rattle.vf_syntax.specs.declared.contract.Invariant.{Invariant}
use Rattle.vf_syntax.specs.declared.item.GhostItem.{GhostItem}
use Rattle.vf_syntax.specs.Statements.{claim, contract, contract_nesting, invariant_walk, invariant_nesting}
use Rattle.vf_syntax.specs.Units.{ghost_item}
use Rattle.vf_cursor.specs.declared.fault.Fault.TheVariants.{Syntax}
use Rattle.vf_parse_ghost.specs.Clauses.{claim_at, contract_at, invariant_at}
use Rattle.vf_parse_ghost.specs.Items.{item_at}
use Rattle.vf_parse_ghost.specs.Laws.{item_depth}
use Rattle.vf_grammar_read.proofs.ghost_items.Clauses.{claim_full, contract_full, invariant_full}
use Rattle.vf_grammar_read.proofs.ghost_items.ItemsFull.{item_full}
use Rattle.vf_grammar_stops.specs.types.Stops.{BeginsUpTo}
use Rattle.vf_grammar_stops.proofs.types.Local.{stops_too}
use Rattle.vf_grammar_stops.proofs.terms.Stops.{apart}
use Rattle.vf_grammar_stops.proofs.assertions.Stops.{refuses_alike}
use Rattle.vf_grammar_stops.specs.ghost_items.Laws.{ContractsRefuseAlike, InvariantsRefuseAlike, GhostItemsRefuseAlike}
use Rattle.vf_grammar_stops.proofs.ghost_items.ClausesAlike.{claim_like, contract_like, invariant_like}
use Rattle.vf_grammar_stops.proofs.ghost_items.ItemsAlike.{item_like}

pub contracts_refuse : ContractsRefuseAlike
contracts_refuse d m ts other n le e begins = refuses_alike contract_at contract_like d m ts other n le e begins

pub invariants_refuse : InvariantsRefuseAlike
invariants_refuse d m ts other n le e begins = refuses_alike invariant_at invariant_like d m ts other n le e begins

pub ghost_items_refuse : GhostItemsRefuseAlike
ghost_items_refuse d m ts other n le e begins = refuses_alike item_at item_like d m ts other n le e begins

pub claims_stop : (ts other rest : List Token) (n : ℕ) (x : Claim) → claim_at ts ≡ Err (Syntax n) → BeginsUpTo ts n other → claim x other ≡ Some rest → ⊥
claims_stop ts other rest n x e begins h =
    let stop = stops_too {b = false} (claim_like {b = false}) (Syntax n) tt ts other e begins in
    apart x rest stop.0 (sym (claim_full x other rest h) ∙ stop.1)

pub contracts_stop : (d : ℕ) (ts other rest : List Token) (n : ℕ) (x : Contract) → contract_at d ts ≡ Err (Syntax n) → BeginsUpTo ts n other → contract x other ≡ Some rest → ⊥
contracts_stop d ts other rest n x e begins h =
    let m = d + contract_nesting x in
    let stop = stops_too {b = false} (contract_like d m (omega arith)) (Syntax n) tt ts other e begins in
    let read = contract_full m x other rest h (omega arith) in
    apart x rest stop.0 (sym read ∙ stop.1)

pub invariants_stop : (d : ℕ) (ts other rest : List Token) (n : ℕ) (x : Invariant) → invariant_at d ts ≡ Err (Syntax n) → BeginsUpTo ts n other → invariant_walk x other ≡ Some rest → ⊥
invariants_stop d ts other rest n x e begins h =
    let m = d + invariant_nesting x in
    let stop = stops_too {b = false} (invariant_like d m (omega arith)) (Syntax n) tt ts other e begins in
    let read = invariant_full m x other rest h (omega arith) in
    apart x rest stop.0 (sym read ∙ stop.1)

pub ghost_items_stop : (d : ℕ) (ts other rest : List Token) (n : ℕ) (x : GhostItem) → item_at d ts ≡ Err (Syntax n) → BeginsUpTo ts n other → ghost_item x other ≡ Some rest → ⊥
ghost_items_stop d ts other rest n x e begins h =
    let m = d + item_depth x in
    let stop = stops_too {b = false} (item_like d m (omega arith)) (Syntax n) tt ts other e begins in
    let read = item_full m x other rest h (omega arith) in
    apart x rest stop.0 (sym read ∙ stop.1)
