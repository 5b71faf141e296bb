-- The names that a unit declares are identifiers.
use Rattle.std.specs.Prelude.{◌≡◌, ℕ, Bool, List, Ok}
use Rattle.std.specs.List.{flat_map}
use Rattle.vf_lexer.specs.declared.token.Token.{Token}
use Rattle.vf_lexer.specs.Cuts.{HasTokens}
use Rattle.vf_snapshot.specs.Holdings.{Holdings}
use Rattle.vf_preproc.specs.UnitText.{Library, Text_of_unit}
use Rattle.vf_preproc.specs.Units.{Tells}
use Rattle.vf_expand.specs.declared.whole.UnitTokens.{UnitTokens}
use Rattle.vf_expand.specs.Wholes.{text_of_unit, UnitGives}
use Rattle.vf_syntax.specs.declared.item.Unit.{Unit as FileUnit}
use Rattle.vf_syntax.specs.declared.side.Grammar.{Grammar}
use Rattle.vf_syntax.specs.declared.side.Grammar.TheVariants.{Plain, Whole}
use Rattle.vf_syntax.specs.Units.{Spells}
use Rattle.vf_parse_real.specs.Units.{real_tokens}
use Rattle.vf_env.specs.Named.{named}
use Rattle.vf_fixpoint_laws.specs.well_declared.Names.{AreUnmarked}
use Rattle.vf_fixpoint_laws.specs.identifiers.Names.{AreNamesAmong, NamesAreWords, TellsWords}

-- each name that the items of a unit declare is that of a name among the tokens that spell the unit, and no keyword
abbrev pub DeclaredNamesAreNamesOfTokens : Type 0
DeclaredNamesAreNamesOfTokens = (g : Grammar) (d : ℕ) (u : FileUnit) (tokens : List Token) → Spells g d u tokens → AreNamesAmong tokens (flat_map named u.items)

-- so no `#` stands in them, where the names among the tokens are words
abbrev pub SpelledUnitsAreUnmarked : Type 0
SpelledUnitsAreUnmarked = (g : Grammar) (d : ℕ) (u : FileUnit) (tokens : List Token) → Spells g d u tokens → NamesAreWords tokens → AreUnmarked u.items

-- the names among the tokens of a text are words, whatever its bytes
abbrev pub NamesOfTextsAreWords : Type 0
NamesOfTextsAreWords = (header : Bool) (file : ℕ) (bytes : List ℕ) (tokens : List Token) → HasTokens header file bytes tokens → NamesAreWords tokens

-- so are those among the tokens of a unit that was expanded from such tokens: the replacement of macros makes no other names
abbrev pub NamesOfExpandedUnitsAreWords : Type 0
NamesOfExpandedUnitsAreWords = (library : Library) (path : List ℕ) (u : Text_of_unit) → TellsWords library → text_of_unit library path ≡ Ok u → NamesAreWords u.tokens

-- whatever is held, some library that tells it tells such tokens
abbrev pub SnapshotsAreToldInWords : Type 0
SnapshotsAreToldInWords = (held : Holdings) → (library : Library) × Tells library held × TellsWords library

-- what expanding a unit by what is held promises of the tokens that it gives
abbrev pub AreExpanded : Holdings → List ℕ → UnitTokens → Type 0
AreExpanded held path t = (library : Library) → Tells library held → UnitGives (text_of_unit library path) (Ok t)

-- no `#` stands in the names that a unit declares, where it is spelled by the tokens that expanding gave
abbrev pub ExpandedUnitsAreUnmarked : Type 0
ExpandedUnitsAreUnmarked = (held : Holdings) (path : List ℕ) (t : UnitTokens) (d : ℕ) (u : FileUnit) → AreExpanded held path t → Spells Whole d u t.tokens → AreUnmarked u.items

-- and none where it is spelled by those of real text alone
abbrev pub PlainUnitsAreUnmarked : Type 0
PlainUnitsAreUnmarked = (held : Holdings) (path : List ℕ) (t : UnitTokens) (d : ℕ) (u : FileUnit) → AreExpanded held path t → Spells Plain d u (real_tokens t.tokens) → AreUnmarked u.items
