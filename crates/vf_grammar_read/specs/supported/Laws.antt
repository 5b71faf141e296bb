-- What is spelled is supported.
use Rattle.std.specs.Prelude.{◌≡◌, ℕ, List, None}
use Rattle.vf_lexer.specs.declared.token.Token.{Token}
use Rattle.vf_syntax.specs.declared.side.Grammar.{Grammar}
use Rattle.vf_syntax.specs.declared.item.Unit.{Unit as FileUnit}
use Rattle.vf_syntax.specs.Units.{Spells}
use Rattle.vf_parse_real.specs.Unsupported.{first_unsupported}

-- tokens that spell a unit, by either grammar and at any depth, hold none that is refused by name
abbrev pub SpelledUnitsAreSupported : Type 0
SpelledUnitsAreSupported = (g : Grammar) (d : ℕ) (u : FileUnit) (tokens : List Token) → Spells g d u tokens → first_unsupported tokens ≡ None
