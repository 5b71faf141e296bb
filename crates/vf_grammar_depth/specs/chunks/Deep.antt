-- What is answered where that with which a part of an assertion begins may nest deeper.
use Rattle.std.specs.Prelude.{ℕ, suc, ◌+◌, ◌<◌, List, length, Option}
use Rattle.vf_base.specs.declared.place.Place.{Place}
use Rattle.vf_lexer.specs.declared.token.Token.{Token}
use Rattle.vf_syntax.specs.declared.pattern.Share.{Share}
use Rattle.vf_syntax.specs.GhostExprTree.{GhostExprTree}
use Rattle.vf_parse_chunk.specs.Chunks.{begun_at, cell_at}
use Rattle.vf_grammar_depth.specs.expressions.Deep.{Deepens, IsNotTooDeep}

-- where two more may nest, that with which a part begins is answered alike, but past each token that was too deep; and nothing is too deep where more may nest than twice as many as there are tokens, and one
abbrev pub ChunksDeepen : Type 0
ChunksDeepen = (p : Place) (d m : ℕ) (ts : List Token) → suc d < m → Deepens (begun_at d p ts) (begun_at m p ts) × (suc (length ts + length ts) < m → IsNotTooDeep (begun_at m p ts))

-- the same of what a cell has behind its pointer
abbrev pub CellsDeepen : Type 0
CellsDeepen = (p : Place) (s : Option Share) (e : GhostExprTree) (d m : ℕ) (ts : List Token) → suc d < m → Deepens (cell_at d p s e ts) (cell_at m p s e ts) × (suc (length ts + length ts) < m → IsNotTooDeep (cell_at m p s e ts))
