-- What is known of what is read.
use Rattle.std.specs.Prelude.{◌≡◌, ℕ, ◌+◌, ◌≤◌, true, false, List, Some}
use Rattle.vf_base.specs.declared.place.Place.{Place}
use Rattle.vf_lexer.specs.declared.punctuator.Punctuator.TheVariants.{Question, Colon}
use Rattle.vf_lexer.specs.declared.token.Token.{Token}
use Rattle.vf_syntax.specs.declared.side.Side.TheVariants.{Ghost}
use Rattle.vf_syntax.specs.GhostExprTree.{GhostExprTree}
use Rattle.vf_syntax.specs.Walks.{at, mark}
use Rattle.vf_syntax.specs.GhostExpressions.{ghost_expr, ghost_nesting}
use Rattle.vf_syntax.specs.Assertions.{part, part_nesting, is_value, is_content}
use Rattle.vf_cursor.specs.Parsing.{ok}
use Rattle.vf_parse_term.specs.Laws.{IsTerm}
use Rattle.vf_parse_chunk.specs.declared.pieces.Value.{Value}
use Rattle.vf_parse_chunk.specs.declared.pieces.Piece.{Piece}
use Rattle.vf_parse_chunk.specs.declared.pieces.Piece.TheVariants as pieces
use Rattle.vf_parse_chunk.specs.declared.pieces.Begun.{Begun}
use Rattle.vf_parse_chunk.specs.declared.pieces.Begun.TheVariants as begun
use Rattle.vf_parse_chunk.specs.Pieces.{part_of_value, term_of, part_of}
use Rattle.vf_parse_chunk.specs.Chunks.{begun_at, ended_at}

-- tokens spell a part, which nests at most so deep
abbrev pub IsPart : ℕ → List Token → Piece → List Token → Type 0
IsPart d ts x rest = (part (part_of x) ts ≡ Some rest) × (part_nesting (part_of x) ≤ d)

-- tokens spell an expression too, which nests at most so deep
abbrev pub IsValue : ℕ → List Token → Value → List Token → Type 0
IsValue d ts v rest = (ghost_expr (term_of v) ts ≡ Some rest) × (ghost_nesting (term_of v) ≤ d) × (is_value (part_of_value v) ≡ true)

-- tokens spell a conditional whose branches are expressions too, which nest at most so deep
pub record IsChoice (d : ℕ) (ts : List Token) (c : GhostExprTree) (v w : Value) (rest : List Token) : Type 0 where
  pub tested : List Token
  pub asked : List Token
  pub chosen : List Token
  pub parted : List Token
  pub test : ghost_expr c ts ≡ Some tested
  pub question : mark Ghost Question tested ≡ Some asked
  pub first : ghost_expr (term_of v) asked ≡ Some chosen
  pub colon : mark Ghost Colon chosen ≡ Some parted
  pub second : ghost_expr (term_of w) parted ≡ Some rest
  pub test_deep : ghost_nesting c ≤ d
  pub first_deep : ghost_nesting (term_of v) + 1 ≤ d
  pub second_deep : ghost_nesting (term_of w) + 1 ≤ d

-- what the form of a piece says of its tokens: they spell an expression too, or are one between parentheses, or are neither
abbrev pub IsTold : ℕ → List Token → Piece → List Token → Type 0
IsTold d ts (pieces.Value v) rest = IsValue d ts v rest
IsTold d ts (pieces.Conditional p c v w) rest = IsChoice d ts c v w rest
IsTold d ts (pieces.Other x) rest = is_content x ≡ false

-- tokens spell a piece
abbrev pub IsPiece : ℕ → List Token → Piece → List Token → Type 0
IsPiece d ts x rest = IsPart d ts x rest × IsTold d ts x rest

-- tokens spell what was read of a part: all of it, or its first operand
abbrev pub IsBegun : ℕ → List Token → Begun → List Token → Type 0
IsBegun d ts (begun.Whole x) rest = IsPiece d ts x rest
IsBegun d ts (begun.Operand e) rest = IsTerm 2 d ts e rest

-- the tokens that were taken spell what was read of a part
abbrev pub BegunAreSpelled : Type 0
BegunAreSpelled = (d : ℕ) (p : Place) (ts : List Token) (x : Begun) (rest : List Token) → at p ts ≡ Some ts → begun_at d p ts ≡ ok x rest → IsBegun d ts x rest

-- the tokens of an expression and those that were taken behind it spell a part
abbrev pub EndedAreSpelled : Type 0
EndedAreSpelled = (d : ℕ) (p : Place) (e : GhostExprTree) (all ts : List Token) → at p all ≡ Some all → IsTerm 8 d all e ts → (x : Piece) (rest : List Token) → ended_at d p e ts ≡ ok x rest → IsPiece d all x rest
