-- Where a token is refused, no chunk, no cell and no first expression could go on.
use Rattle.std.specs.Prelude.{◌≡◌, ℕ, true, false, not, ◌||◌, List, Some, Err}
use Rattle.vf_base.specs.declared.place.Place.{Place}
use Rattle.vf_lexer.specs.declared.punctuator.Punctuator.TheVariants.{Arrow, PointsTo}
use Rattle.vf_lexer.specs.declared.token.Token.{Token}
use Rattle.vf_syntax.specs.declared.side.Side.TheVariants.{Ghost}
use Rattle.vf_syntax.specs.declared.written.Name.{Name}
use Rattle.vf_syntax.specs.declared.pattern.Pattern.{Pattern}
use Rattle.vf_syntax.specs.GhostExprTree.{GhostExprTree}
use Rattle.vf_syntax.specs.AssertionTree.{PartTree}
use Rattle.vf_syntax.specs.Walks.{◌⨾◌, at, mark}
use Rattle.vf_syntax.specs.Written.{name}
use Rattle.vf_syntax.specs.GhostExpressions.{ghost_expr, is_application}
use Rattle.vf_syntax.specs.Assertions.{part, pattern}
use Rattle.vf_cursor.specs.declared.fault.Fault.TheVariants.{Syntax}
use Rattle.vf_parse_chunk.specs.Chunks.{goes_further, begun_at, ended_at}
use Rattle.vf_grammar_read.specs.terms.Laws.{goes_on_with_term}
use Rattle.vf_grammar_read.specs.chunks.Laws.{is_whole, goes_on_with_part}
use Rattle.vf_grammar_stops.specs.types.Stops.{BeginsUpTo}

-- a token is refused in what begins a part only where no tokens that are alike up to it begin with a part that is read as a whole, however deep it nests, before what does not go on with it
abbrev pub WholesStopAlike : Type 0
WholesStopAlike = (d : ℕ) (p : Place) (ts other rest : List Token) (k : ℕ) (x : PartTree) → begun_at d p ts ≡ Err (Syntax k) → BeginsUpTo ts k other → at p other ≡ Some other → part x other ≡ Some rest → is_whole x ≡ true → goes_on_with_part rest ≡ false → ⊥

-- nor do any begin with an expression in front of what does not go on with it, and of `->` or `?` where it is an application
abbrev pub BegunTermsStopAlike : Type 0
BegunTermsStopAlike = (d : ℕ) (p : Place) (ts other rest : List Token) (k : ℕ) (e : GhostExprTree) → begun_at d p ts ≡ Err (Syntax k) → BeginsUpTo ts k other → at p other ≡ Some other → ghost_expr e other ≡ Some rest → goes_on_with_term rest ≡ false
    → (not (is_application e) || goes_further rest) ≡ true → ⊥

-- a token is refused behind an expression only where no tokens that are alike up to it begin with what a cell has behind its pointer, however deep that nests, before what does not go on with it
abbrev pub CellsStopAlike : Type 0
CellsStopAlike = (d : ℕ) (p : Place) (e : GhostExprTree) (ts other rest : List Token) (k : ℕ) (f : Name) (v : Pattern) → ended_at d p e ts ≡ Err (Syntax k) → BeginsUpTo ts k other → (mark Ghost Arrow ⨾ name Ghost f ⨾ mark Ghost PointsTo ⨾ pattern v) other ≡ Some rest
    → goes_on_with_term rest ≡ false → ⊥
