-- What is spelled is read.
use Rattle.std.specs.Prelude.{◌≡◌, ℕ, ◌≤◌, List, [], Some, Result, Ok, Err}
use Rattle.vf_base.specs.declared.place.Place.{Place}
use Rattle.vf_lexer.specs.declared.token.Token.{Token}
use Rattle.vf_syntax.specs.declared.side.Grammar.{Grammar}
use Rattle.vf_syntax.specs.declared.side.Grammar.TheVariants.{Plain}
use Rattle.vf_syntax.specs.declared.contract.Contract.{Contract}
use Rattle.vf_syntax.specs.declared.contract.Claim.{Claim}
use Rattle.vf_syntax.specs.declared.contract.Invariant.{Invariant}
use Rattle.vf_syntax.specs.declared.item.GhostItem.{GhostItem}
use Rattle.vf_syntax.specs.declared.item.Item.{Item}
use Rattle.vf_syntax.specs.declared.item.Unit.{Unit as FileUnit}
use Rattle.vf_syntax.specs.GhostCommandTree.{GhostCommandTree}
use Rattle.vf_syntax.specs.Units.{item, item_nesting, Spells}
use Rattle.vf_cursor.specs.Parsing.{Parser, ok}
use Rattle.vf_parse_item.specs.Parsers.{item_at}
use Rattle.vf_parse_real.specs.Units.{unit_at, plain_at}
use Rattle.vf_parse_real.specs.declared.fault.ParseFault.{ParseFault}
use Rattle.vf_parse_real.specs.declared.fault.ParseFault.TheVariants as parse_faults
use Rattle.vf_parse_real.specs.Faults.{Answers}
use Rattle.vf_grammar_read.specs.units.Annotations.{FullAnnotations}

-- where what is spelled in annotations is read: an item that tokens spell, and that nests no deeper than it may, is read from them, whatever stands behind
abbrev pub ItemsAreRead : Type 0
ItemsAreRead = (g : Grammar) (c : ℕ → Parser GhostCommandTree) (i : ℕ → Parser Invariant) (k : ℕ → Parser Contract) (l : Parser Claim) (x : ℕ → Parser GhostItem) → FullAnnotations g c i k l x
    → (d : ℕ) (a : Item) (ts rest : List Token) → item g a ts ≡ Some rest → item_nesting a ≤ d → item_at g c i k l x d ts ≡ ok a rest

-- the same of a unit, which all of the tokens spell
abbrev pub UnitsAreRead : Type 0
UnitsAreRead = (g : Grammar) (c : ℕ → Parser GhostCommandTree) (i : ℕ → Parser Invariant) (k : ℕ → Parser Contract) (l : Parser Claim) (x : ℕ → Parser GhostItem) → FullAnnotations g c i k l x
    → (d : ℕ) (u : FileUnit) (tokens : List Token) → Spells g d u tokens → unit_at g c i k l x d tokens ≡ ok u.items []

-- a unit without annotations that tokens spell, and that nests no deeper than it may, is read from them
abbrev pub PlainUnitsAreRead : Type 0
PlainUnitsAreRead = (d : ℕ) (u : FileUnit) (tokens : List Token) → Spells Plain d u tokens → plain_at d tokens ≡ ok u.items []

-- two units without annotations that the same tokens spell have the same items, places included
abbrev pub PlainUnitsHaveOneReading : Type 0
PlainUnitsHaveOneReading = (d e : ℕ) (u v : FileUnit) (tokens : List Token) → Spells Plain d u tokens → Spells Plain e v tokens → u.items ≡ v.items

-- an answer is the items of a unit, unless memory ran out
abbrev pub IsRead : Result FileUnit ParseFault → FileUnit → Type 0
IsRead (Ok v) u = v.items ≡ u.items
IsRead (Err parse_faults.Memory) u = Unit {0}
IsRead (Err f) u = ⊥

-- where tokens spell a unit without annotations within 128 levels, an answer of the parser is its items, unless memory ran out; so there is no refusal
abbrev pub SpelledUnitsAreAnswered : Type 0
SpelledUnitsAreAnswered = (result : Result FileUnit ParseFault) (end : Place) (u : FileUnit) (tokens : List Token) → Answers result end tokens (plain_at 128 tokens) → Spells Plain 128 u tokens → IsRead result u
