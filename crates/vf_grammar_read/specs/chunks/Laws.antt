-- What is spelled is read.
use Rattle.std.specs.Prelude.{◌≡◌, ℕ, ◌≤◌, Bool, true, false, not, ◌||◌, List, Some, None}
use Rattle.vf_base.specs.declared.place.Place.{Place}
use Rattle.vf_lexer.specs.declared.punctuator.Punctuator.TheVariants.{Arrow, PointsTo}
use Rattle.vf_lexer.specs.declared.token.Token.{Token}
use Rattle.vf_syntax.specs.declared.side.Side.TheVariants.{Ghost}
use Rattle.vf_syntax.specs.declared.written.Name.{Name}
use Rattle.vf_syntax.specs.declared.pattern.Pattern.{Pattern}
use Rattle.vf_syntax.specs.GhostExprTree.{GhostExprTree}
use Rattle.vf_syntax.specs.AssertionTree.{PartTree}
use Rattle.vf_syntax.specs.AssertionTree as tree
use Rattle.vf_syntax.specs.Walks.{◌⨾◌, at, mark, head_has, is_mark}
use Rattle.vf_syntax.specs.Written.{name}
use Rattle.vf_syntax.specs.GhostExpressions.{ghost_expr, ghost_nesting, is_application}
use Rattle.vf_syntax.specs.Assertions.{part, part_nesting, pattern, pattern_nesting}
use Rattle.vf_cursor.specs.Parsing.{Parser, ok, ◌>>=◌}
use Rattle.vf_parse_term.specs.Terms.{rest_at, operand_at}
use Rattle.vf_parse_chunk.specs.declared.pieces.Value.TheVariants as values
use Rattle.vf_parse_chunk.specs.declared.pieces.Piece.{Piece}
use Rattle.vf_parse_chunk.specs.declared.pieces.Piece.TheVariants as pieces
use Rattle.vf_parse_chunk.specs.declared.pieces.Begun.{Begun}
use Rattle.vf_parse_chunk.specs.declared.pieces.Begun.TheVariants as begun
use Rattle.vf_parse_chunk.specs.Pieces.{unshared}
use Rattle.vf_parse_chunk.specs.Chunks.{goes_further, begun_at, ended_at}
use Rattle.vf_grammar_read.specs.terms.Laws.{goes_on_with_term}

-- the next token goes on with a part in front of it: it goes on with an expression, or it is `->` or `?`
unfoldable pub goes_on_with_part : List Token → Bool
goes_on_with_part ts = goes_on_with_term ts || goes_further ts

-- a part is read as a whole before an expression could go on: a chunk, a cell with a share, or `emp`
abbrev pub is_whole : PartTree → Bool
is_whole (tree.chunk p s n first second) = true
is_whole (tree.cell p (Some s) e f v) = true
is_whole (tree.empty_ p) = true
is_whole x = false

-- such a part as it is read: a chunk without a share may be an expression too
abbrev pub piece_of : PartTree → Piece
piece_of (tree.chunk p None n first second) = unshared p n first second
piece_of x = pieces.Other x

-- such a part that tokens spell, and that nests no deeper than it may, is read from them, where what stands behind does not go on with it
abbrev pub WholesAreRead : Type 0
WholesAreRead = (d : ℕ) (p : Place) (x : PartTree) (ts rest : List Token) → at p ts ≡ Some ts → part x ts ≡ Some rest → is_whole x ≡ true → part_nesting x ≤ d → goes_on_with_part rest ≡ false → begun_at d p ts ≡ ok (begun.Whole (piece_of x)) rest

-- what a parser reads of a part behind what was begun: nothing behind a whole part, else what goes on with an operand and then what the parser reads
abbrev pub behind_begun : (GhostExprTree → Parser Piece) → ℕ → Place → Begun → Parser Piece
behind_begun k d p (begun.Whole x) ts = ok x ts
behind_begun k d p (begun.Operand e) ts = rest_at (operand_at d) 6 p e ts >>= λ x. k x.0 x.1

-- an expression that tokens spell, and that nests no deeper than it may, is read from them in front of what does not go on with it, and of `->` or `?` where it is an application, and whatever is to be read behind it is read then
abbrev pub TermsAreBegun : Type 0
TermsAreBegun = (k : GhostExprTree → Parser Piece) (d : ℕ) (p : Place) (e : GhostExprTree) (ts rest : List Token) → at p ts ≡ Some ts → ghost_expr e ts ≡ Some rest → ghost_nesting e ≤ d → goes_on_with_term rest ≡ false
    → (not (is_application e) || goes_further rest) ≡ true → (begun_at d p ts >>= λ b. behind_begun k d p b.0 b.1) ≡ k e rest

-- an expression that is no application is a part of its own before what is no `->`
abbrev pub TermsAreEnded : Type 0
TermsAreEnded = (d : ℕ) (p : Place) (e : GhostExprTree) (rest : List Token) → is_application e ≡ false → head_has (is_mark Ghost Arrow) rest ≡ false → ended_at d p e rest ≡ ok (pieces.Value (values.Term p e)) rest

-- the rest of a cell that tokens spell behind its pointer, and that nests no deeper than it may, is read from them, where what stands behind does not go on with its pattern
abbrev pub CellsAreEnded : Type 0
CellsAreEnded = (d : ℕ) (p : Place) (e : GhostExprTree) (f : Name) (v : Pattern) (ts rest : List Token) → (mark Ghost Arrow ⨾ name Ghost f ⨾ mark Ghost PointsTo ⨾ pattern v) ts ≡ Some rest → pattern_nesting v ≤ d → goes_on_with_term rest ≡ false
    → ended_at d p e ts ≡ ok (pieces.Other (tree.cell p None e f v)) rest
