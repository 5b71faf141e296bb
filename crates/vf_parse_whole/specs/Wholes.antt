-- The parser of units of the whole grammar.
use Rattle.std.specs.Prelude.{ℕ, List}
use Rattle.vf_syntax.specs.declared.side.Grammar.TheVariants.{Whole}
use Rattle.vf_syntax.specs.declared.item.Item.{Item}
use Rattle.vf_cursor.specs.Parsing.{Parser}
use Rattle.vf_parse_real.specs.Units.{unit_at}
use Rattle.vf_parse_command.specs.Commands.{command_at}
use Rattle.vf_parse_ghost.specs.Clauses.{claim_at, contract_at, invariant_at}
use Rattle.vf_parse_ghost.specs.Items.{item_at}

-- items that nest so deep at most, up to the end of the tokens
abbrev pub whole_at : ℕ → Parser (List Item)
whole_at d = unit_at Whole command_at invariant_at contract_at claim_at item_at d
