-- Parsers of units.
use Rattle.std.specs.Prelude.{ℕ, Bool, true, not, List, [], filter}
use Rattle.vf_lexer.specs.declared.token.Token.{Token}
use Rattle.vf_syntax.specs.declared.side.Grammar.{Grammar}
use Rattle.vf_syntax.specs.declared.side.Grammar.TheVariants.{Plain}
use Rattle.vf_syntax.specs.declared.contract.Contract.{Contract}
use Rattle.vf_syntax.specs.declared.contract.Claim.{Claim}
use Rattle.vf_syntax.specs.declared.contract.Invariant.{Invariant}
use Rattle.vf_syntax.specs.declared.item.GhostItem.{GhostItem}
use Rattle.vf_syntax.specs.declared.item.Item.{Item}
use Rattle.vf_syntax.specs.GhostCommandTree.{GhostCommandTree}
use Rattle.vf_cursor.specs.Parsing.{Parser, ◌>>=◌, fails_at, many, item_step, end_at}
use Rattle.vf_parse_statement.specs.Annotations.{reads_none}
use Rattle.vf_parse_item.specs.Parsers.{item_at}

-- any token at all
abbrev pub is_any : Token → Bool
is_any t = true

-- items, one after another, where p reads one
unfoldable pub items_by : Parser Item → Parser (List Item)
items_by p ts = many is_any (item_step p) [] ts

-- items up to the end of the tokens
unfoldable pub unit_by : Parser Item → Parser (List Item)
unit_by p ts = items_by p ts >>= λ xs. end_at xs.0 xs.1

-- items that nest so deep at most, up to the end of the tokens; c, i, k, l and x read ghost commands, invariants, contracts, claims and ghost items
abbrev pub unit_at : Grammar → (ℕ → Parser GhostCommandTree) → (ℕ → Parser Invariant) → (ℕ → Parser Contract) → Parser Claim → (ℕ → Parser GhostItem) → ℕ → Parser (List Item)
unit_at g c i k l x d = unit_by (item_at g c i k l x d)

-- the same by the grammar without annotations
abbrev pub plain_at : ℕ → Parser (List Item)
plain_at d = unit_at Plain reads_none reads_none reads_none fails_at reads_none d

-- a token is of real text
abbrev pub is_real : Token → Bool
is_real t = not t.is_ghost

-- the tokens of real text
abbrev pub real_tokens : List Token → List Token
real_tokens ts = filter is_real ts
