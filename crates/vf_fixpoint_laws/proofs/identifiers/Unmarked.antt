-- No mark of identities stands in the names of a unit that was expanded and read.
use Rattle.std.proofs.Common.{ℕ, List}
use Rattle.std.specs.List.{flat_map}
use Rattle.vf_lexer.specs.declared.token.Token.{Token}
use Rattle.vf_snapshot.specs.Holdings.{Holdings}
use Rattle.vf_syntax.specs.declared.item.Unit.{Unit as FileUnit}
use Rattle.vf_syntax.specs.declared.side.Grammar.{Grammar}
use Rattle.vf_syntax.specs.declared.side.Grammar.TheVariants.{Plain, Whole}
use Rattle.vf_syntax.specs.Units.{Spells}
use Rattle.vf_expand.specs.declared.whole.UnitTokens.{UnitTokens}
use Rattle.vf_expand.specs.Wholes.{text_of}
use Rattle.vf_parse_real.specs.Units.{real_tokens}
use Rattle.vf_env.specs.Named.{named}
use Rattle.vf_fixpoint_laws.specs.well_declared.Names.{AreUnmarked}
use Rattle.vf_fixpoint_laws.specs.identifiers.Laws.{AreExpanded}
use Rattle.vf_fixpoint_laws.specs.identifiers.Names.{NamesAreWords}
use Rattle.vf_fixpoint_laws.proofs.identifiers.Expanded.{expanded_words, real_words}
use Rattle.vf_fixpoint_laws.proofs.identifiers.Named.{declared_names}
use Rattle.vf_fixpoint_laws.proofs.identifiers.Telling.{told_in_words}
use Rattle.vf_fixpoint_laws.proofs.identifiers.Words.{names_unmarked}

-- no mark stands in the names of a unit whose tokens have words as names
pub spelled_unmarked : (g : Grammar) (d : ℕ) (u : FileUnit) (tokens : List Token) → Spells g d u tokens → NamesAreWords tokens → AreUnmarked u.items
spelled_unmarked g d u tokens s words = names_unmarked tokens (flat_map named u.items) words (declared_names g d u tokens s)

given_words : (held : Holdings) (path : List ℕ) (t : UnitTokens) → AreExpanded held path t → NamesAreWords t.tokens
given_words held path t gives =
    let l = told_in_words held in
    expanded_words l.0 path (text_of t) l.2 (gives l.0 l.1)

pub expanded_unmarked : (held : Holdings) (path : List ℕ) (t : UnitTokens) (d : ℕ) (u : FileUnit) → AreExpanded held path t → Spells Whole d u t.tokens → AreUnmarked u.items
expanded_unmarked held path t d u gives s = spelled_unmarked Whole d u t.tokens s (given_words held path t gives)

pub plain_unmarked : (held : Holdings) (path : List ℕ) (t : UnitTokens) (d : ℕ) (u : FileUnit) → AreExpanded held path t → Spells Plain d u (real_tokens t.tokens) → AreUnmarked u.items
plain_unmarked held path t d u gives s = spelled_unmarked Plain d u (real_tokens t.tokens) s (real_words t.tokens (given_words held path t gives))
