-- Where a token is refused, no chunk, no cell and no first expression could go on.
use Rattle.std.proofs.Common.{◌≡◌, ℕ, ◌+◌, true, false, not, ◌||◌, List, Some, None, Err, sym, ap, ◌∙◌, arith}
use Rattle.vf_base.specs.declared.place.Place.{Place}
use Rattle.vf_lexer.specs.declared.punctuator.Punctuator.TheVariants.{Arrow, PointsTo}
use Rattle.vf_lexer.specs.declared.token.Token.{Token}
use Rattle.vf_syntax.specs.declared.side.Side.TheVariants.{Ghost}
use Rattle.vf_syntax.specs.declared.written.Name.{Name}
use Rattle.vf_syntax.specs.declared.pattern.Pattern.{Pattern}
use Rattle.vf_syntax.specs.GhostExprTree.{GhostExprTree}
use Rattle.vf_syntax.specs.AssertionTree.{PartTree}
use Rattle.vf_syntax.specs.AssertionTree as tree
use Rattle.vf_syntax.specs.Walks.{◌⨾◌, at, mark}
use Rattle.vf_syntax.specs.Written.{name}
use Rattle.vf_syntax.specs.GhostExpressions.{ghost_expr, ghost_nesting, is_application}
use Rattle.vf_syntax.specs.Assertions.{part, part_nesting, pattern, pattern_nesting}
use Rattle.vf_cursor.specs.declared.fault.Fault.TheVariants.{Syntax}
use Rattle.vf_cursor.specs.Parsing.{Read, Parser, ok, ◌>>=◌}
use Rattle.vf_parse_chunk.specs.declared.pieces.Value.TheVariants as values
use Rattle.vf_parse_chunk.specs.declared.pieces.Piece.{Piece}
use Rattle.vf_parse_chunk.specs.declared.pieces.Piece.TheVariants as pieces
use Rattle.vf_parse_chunk.specs.declared.pieces.Begun.{Begun}
use Rattle.vf_parse_chunk.specs.declared.pieces.Begun.TheVariants as begun
use Rattle.vf_parse_chunk.specs.Chunks.{goes_further, begun_at, ended_at}
use Rattle.vf_grammar_read.specs.terms.Laws.{goes_on_with_term}
use Rattle.vf_grammar_read.proofs.terms.Behind.{ended}
use Rattle.vf_grammar_read.specs.chunks.Laws.{is_whole, piece_of, goes_on_with_part, behind_begun}
use Rattle.vf_grammar_read.proofs.chunks.ChunksFull.{stops, whole_full, term_begun, cell_ended}
use Rattle.vf_grammar_stops.specs.types.Stops.{BeginsUpTo}
use Rattle.vf_grammar_stops.proofs.types.Local.{stops_too}
use Rattle.vf_grammar_stops.proofs.terms.Stops.{apart}
use Rattle.vf_grammar_stops.proofs.chunks.ChunksAlike.{begun_like, ended_like}

pub wholes_stop : (d : ℕ) (p : Place) (ts other rest : List Token) (k : ℕ) (x : PartTree) → begun_at d p ts ≡ Err (Syntax k) → BeginsUpTo ts k other → at p other ≡ Some other → part x other ≡ Some rest → is_whole x ≡ true → goes_on_with_part rest ≡ false → ⊥
wholes_stop d p ts other rest k x e begins here h whole free =
    let m = d + part_nesting x in
    let stop = stops_too {b = false} (begun_like d m (omega arith) p) (Syntax k) tt ts other e begins in
    let read = whole_full m p x other rest here h whole (omega arith) (stops rest free) in
    apart (begun.Whole (piece_of x)) rest stop.0 (sym read ∙ stop.1)

-- an expression alone
abbrev term_alone : Place → GhostExprTree → Parser Piece
term_alone p e ts = ok (pieces.Value (values.Term p e)) ts

unread : (d : ℕ) (p : Place) (e : GhostExprTree) (rest : List Token) (r : Read Begun) (m : ℕ) → r ≡ Err (Syntax m) → (r >>= λ b. behind_begun (term_alone p) d p b.0 b.1) ≡ term_alone p e rest → ⊥
unread d p e rest r m h read = apart (pieces.Value (values.Term p e)) rest m (sym read ∙ ap (λ (z : Read Begun). z >>= λ b. behind_begun (term_alone p) d p b.0 b.1) h)

pub begun_terms_stop : (d : ℕ) (p : Place) (ts other rest : List Token) (k : ℕ) (e : GhostExprTree) → begun_at d p ts ≡ Err (Syntax k) → BeginsUpTo ts k other → at p other ≡ Some other → ghost_expr e other ≡ Some rest → goes_on_with_term rest ≡ false
    → (not (is_application e) || goes_further rest) ≡ true → ⊥
begun_terms_stop d p ts other rest k e eq begins here h free further =
    let m = d + ghost_nesting e in
    let stop = stops_too {b = false} (begun_like d m (omega arith) p) (Syntax k) tt ts other eq begins in
    unread m p e rest (begun_at m p other) stop.0 stop.1 (term_begun (term_alone p) m p e other rest here h (omega arith) (ended rest free) further)

pub cells_stop : (d : ℕ) (p : Place) (e : GhostExprTree) (ts other rest : List Token) (k : ℕ) (f : Name) (v : Pattern) → ended_at d p e ts ≡ Err (Syntax k) → BeginsUpTo ts k other → (mark Ghost Arrow ⨾ name Ghost f ⨾ mark Ghost PointsTo ⨾ pattern v) other ≡ Some rest
    → goes_on_with_term rest ≡ false → ⊥
cells_stop d p e ts other rest k f v eq begins h free =
    let m = d + pattern_nesting v in
    let stop = stops_too {b = false} (ended_like d m (omega arith) p e) (Syntax k) tt ts other eq begins in
    let read = cell_ended m p e f v other rest h (omega arith) (ended rest free) in
    apart (pieces.Other (tree.cell p None e f v)) rest stop.0 (sym read ∙ stop.1)
