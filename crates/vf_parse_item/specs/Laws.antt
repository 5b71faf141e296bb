-- What is known of what is read.
use Rattle.std.specs.Prelude.{◌≡◌, ℕ, ◌≤◌, List, Some}
use Rattle.vf_lexer.specs.declared.token.Token.{Token}
use Rattle.vf_syntax.specs.declared.side.Grammar.{Grammar}
use Rattle.vf_syntax.specs.declared.contract.Contract.{Contract}
use Rattle.vf_syntax.specs.declared.contract.Claim.{Claim}
use Rattle.vf_syntax.specs.declared.contract.Invariant.{Invariant}
use Rattle.vf_syntax.specs.declared.item.GhostItem.{GhostItem}
use Rattle.vf_syntax.specs.declared.item.Item.{Item}
use Rattle.vf_syntax.specs.GhostCommandTree.{GhostCommandTree}
use Rattle.vf_syntax.specs.Units.{item, item_nesting}
use Rattle.vf_cursor.specs.Parsing.{Parser, ok}
use Rattle.vf_parse_statement.specs.Annotations.{ReadsCommands, ReadsInvariants, ReadsContracts, ReadsClaims, ReadsItems}
use Rattle.vf_parse_item.specs.Parsers.{item_at}

-- where what is read of annotations is spelled, the tokens that were taken spell the item, which nests no deeper than it may
abbrev pub ItemsAreSpelled : Type 0
ItemsAreSpelled = (g : Grammar) (c : ℕ → Parser GhostCommandTree) (i : ℕ → Parser Invariant) (k : ℕ → Parser Contract) (l : Parser Claim) (x : ℕ → Parser GhostItem)
    → ReadsCommands c → ReadsInvariants i → ReadsContracts k → ReadsClaims l → ReadsItems x
    → (d : ℕ) (ts : List Token) (a : Item) (rest : List Token) → item_at g c i k l x d ts ≡ ok a rest → (item g a ts ≡ Some rest) × (item_nesting a ≤ d)
