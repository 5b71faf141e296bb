-- What is owed of the parsers of annotations, which are given from outside: what tokens spell, and what nests no deeper than it may, is read from them, whatever stands behind.
use Rattle.std.specs.Prelude.{◌≡◌, ℕ, ◌≤◌, true, List, Some}
use Rattle.vf_lexer.specs.declared.token.Token.{Token}
use Rattle.vf_syntax.specs.declared.side.Grammar.{Grammar}
use Rattle.vf_syntax.specs.declared.contract.Contract.{Contract}
use Rattle.vf_syntax.specs.declared.contract.Claim.{Claim}
use Rattle.vf_syntax.specs.declared.contract.Invariant.{Invariant}
use Rattle.vf_syntax.specs.declared.item.GhostItem.{GhostItem}
use Rattle.vf_syntax.specs.GhostCommandTree.{GhostCommandTree}
use Rattle.vf_syntax.specs.Statements.{claim, contract, contract_nesting}
use Rattle.vf_syntax.specs.Units.{ghost_item, ghost_form_nesting}
use Rattle.vf_cursor.specs.Parsing.{Parser, ok}
use Rattle.vf_parse_statement.specs.Parsers.{is_whole}
use Rattle.vf_grammar_read.specs.statements.Annotations.{FullTexts}

-- every contract is read
abbrev pub FullContracts : (ℕ → Parser Contract) → Type 0
FullContracts p = (d : ℕ) (x : Contract) (ts rest : List Token) → contract x ts ≡ Some rest → contract_nesting x ≤ d → p d ts ≡ ok x rest

-- every claim is read
abbrev pub FullClaims : Parser Claim → Type 0
FullClaims p = (x : Claim) (ts rest : List Token) → claim x ts ≡ Some rest → p ts ≡ ok x rest

-- every ghost item is read
abbrev pub FullItems : (ℕ → Parser GhostItem) → Type 0
FullItems p = (d : ℕ) (x : GhostItem) (ts rest : List Token) → ghost_item x ts ≡ Some rest → ghost_form_nesting x.form ≤ d → p d ts ≡ ok x rest

-- where a grammar has annotations, all that they hold is read
pub record FullAnnotations (g : Grammar) (c : ℕ → Parser GhostCommandTree) (i : ℕ → Parser Invariant) (k : ℕ → Parser Contract) (l : Parser Claim) (x : ℕ → Parser GhostItem) : Type 0 where
  pub texts : FullTexts g c i
  pub contracts_are_read : is_whole g ≡ true → FullContracts k
  pub claims_are_read : is_whole g ≡ true → FullClaims l
  pub items_are_read : is_whole g ≡ true → FullItems x
