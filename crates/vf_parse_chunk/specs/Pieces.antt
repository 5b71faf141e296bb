-- Parts of assertions as they were read, before it is known whether they stand between the parentheses of an expression.
use Rattle.std.specs.Prelude.{List, Option, Some, None, if◌then◌else◌}
use Rattle.vf_base.specs.declared.place.Place.{Place}
use Rattle.vf_syntax.specs.declared.written.Name.{Name}
use Rattle.vf_syntax.specs.declared.pattern.Pattern.{Pattern}
use Rattle.vf_syntax.specs.GhostExprTree.{GhostExprTree, ghost_expr_list}
use Rattle.vf_syntax.specs.GhostExprTree as exprs
use Rattle.vf_syntax.specs.AssertionTree.{PartTree, no_part, more_part}
use Rattle.vf_syntax.specs.AssertionTree as tree
use Rattle.vf_syntax.specs.Assertions.{are_value_patterns}
use Rattle.vf_parse_pattern.specs.Patterns.{terms_of}
use Rattle.vf_parse_chunk.specs.declared.pieces.Value.{Value}
use Rattle.vf_parse_chunk.specs.declared.pieces.Value.TheVariants as values
use Rattle.vf_parse_chunk.specs.declared.pieces.Piece.{Piece}
use Rattle.vf_parse_chunk.specs.declared.pieces.Piece.TheVariants as pieces
use Rattle.vf_parse_chunk.specs.declared.pieces.Front.{Front}
use Rattle.vf_parse_chunk.specs.declared.pieces.Front.TheVariants as fronts
use Rattle.vf_parse_chunk.specs.declared.pieces.Begun.{Begun}
use Rattle.vf_parse_chunk.specs.declared.pieces.Begun.TheVariants as begun

-- the part that a value is
abbrev pub part_of_value : Value → PartTree
part_of_value (values.Term p e) = tree.pure p e
part_of_value (values.Application n xs) = tree.chunk n.place None n xs None

-- the expression that the tokens of a value spell
abbrev pub term_of : Value → GhostExprTree
term_of (values.Term p e) = e
term_of (values.Application n xs) = exprs.application n.place n.text (ghost_expr_list (terms_of xs))

-- the part that a piece is
abbrev pub part_of : Piece → PartTree
part_of (pieces.Value v) = part_of_value v
part_of (pieces.Conditional p c v w) = tree.conditional p c (more_part (part_of_value v) no_part) (more_part (part_of_value w) no_part)
part_of (pieces.Other x) = x

-- a name with one list of patterns is a value where they are expressions
abbrev pub alone : Place → Name → List Pattern → Piece
alone p n xs = if are_value_patterns xs then pieces.Value (values.Application n xs) else pieces.Other (tree.chunk p None n xs None)

-- a chunk without a share
abbrev pub unshared : Place → Name → List Pattern → Option (List Pattern) → Piece
unshared p n xs None = alone p n xs
unshared p n xs (Some ys) = pieces.Other (tree.chunk p None n xs (Some ys))

-- what a front makes of a part without a share
abbrev pub begun_of : Place → Front → Begun
begun_of p (fronts.Chunk n xs ys) = begun.Whole (unshared p n xs ys)
begun_of p (fronts.Operand e) = begun.Operand e
