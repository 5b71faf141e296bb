-- Assertions as they were read, before it is known whether they stand between the parentheses of an expression.
use Rattle.std.specs.Prelude.{List, [], ◌∷◌}
use Rattle.vf_base.specs.declared.place.Place.{Place}
use Rattle.vf_syntax.specs.GhostExprTree.{GhostExprTree}
use Rattle.vf_syntax.specs.GhostExprTree as exprs
use Rattle.vf_syntax.specs.AssertionTree.{PartTree, part_list}
use Rattle.vf_syntax.specs.AssertionTree as tree
use Rattle.vf_parse_chunk.specs.declared.pieces.Value.{Value}
use Rattle.vf_parse_chunk.specs.declared.pieces.Piece.{Piece}
use Rattle.vf_parse_chunk.specs.declared.pieces.Piece.TheVariants as pieces
use Rattle.vf_parse_chunk.specs.declared.pieces.Begun.{Begun}
use Rattle.vf_parse_chunk.specs.declared.pieces.Begun.TheVariants as begun
use Rattle.vf_parse_chunk.specs.Pieces.{term_of, part_of}
use Rattle.vf_parse_assertion.specs.declared.contents.Content.{Content}
use Rattle.vf_parse_assertion.specs.declared.contents.Content.TheVariants as contents

-- the parts of an assertion
abbrev pub parts_of : Content → List PartTree
parts_of (contents.Lone x) = part_of x ∷ []
parts_of (contents.Several xs) = xs

-- one part between parentheses is an operand where it is an expression too, or a conditional of such parts; else it is a part
abbrev pub enclosed_piece : Place → Piece → Begun
enclosed_piece p (pieces.Value v) = begun.Operand (exprs.parenthesized p (term_of v))
enclosed_piece p (pieces.Conditional q c v w) = begun.Operand (exprs.conditional p c (term_of v) (term_of w))
enclosed_piece p (pieces.Other x) = begun.Whole (pieces.Other (tree.group p (part_list (x ∷ []))))

-- what an assertion is between parentheses, of which the first stands at a place
abbrev pub enclosed : Place → Content → Begun
enclosed p (contents.Lone x) = enclosed_piece p x
enclosed p (contents.Several xs) = begun.Whole (pieces.Other (tree.group p (part_list xs)))

-- the conditional with these branches
abbrev pub tree_of : Place → GhostExprTree → Content → Content → PartTree
tree_of p c a b = tree.conditional p c (part_list (parts_of a)) (part_list (parts_of b))

-- the same where the first branch is an expression too
abbrev pub chosen_second : Place → GhostExprTree → Value → Content → Piece
chosen_second p c v (contents.Lone (pieces.Value w)) = pieces.Conditional p c v w
chosen_second p c v b = pieces.Other (tree_of p c (contents.Lone (pieces.Value v)) b)

-- the same, told apart by whether both branches are expressions too
abbrev pub chosen : Place → GhostExprTree → Content → Content → Piece
chosen p c (contents.Lone (pieces.Value v)) b = chosen_second p c v b
chosen p c a b = pieces.Other (tree_of p c a b)
