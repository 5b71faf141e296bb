-- How the code reads a text, spot by spot: the words that the contracts of its steps cite. What the tokens of a whole text are stands in Cuts.
use Rattle.std.specs.Prelude.{◌≡◌, ℕ, zero, suc, ◌+◌, ◌-◌, ◌≤◌, ◌==◌, Bool, ◌||◌, if◌then◌else◌, nat_lt, List, [], ◌∷◌, take, drop, Option, Some, None, Result, Ok, Err}
use Rattle.vf_base.specs.declared.place.Place.{Place}
use Rattle.vf_lexer.specs.declared.fault.LexFault.{LexFault}
use Rattle.vf_lexer.specs.declared.fault.LexFault.TheVariants as faults
use Rattle.vf_lexer.specs.declared.token.Token.{Token}
use Rattle.vf_lexer.specs.declared.piece.Shape.{Shape}
use Rattle.vf_lexer.specs.declared.piece.Shape.TheVariants as shapes
use Rattle.vf_lexer.specs.declared.piece.Region.{Region}
use Rattle.vf_lexer.specs.declared.piece.Piece.{Piece}
use Rattle.vf_lexer.specs.Bytes.{is_barred}
use Rattle.vf_lexer.specs.Numbers.{◌>>=◌}
use Rattle.vf_lexer.specs.Pieces.{gap, outside, outer_piece, inner_piece, header_piece}

-- the place behind one byte: a line feed ends its line, and each other byte takes one column
abbrev pub place_behind : Place → ℕ → Place
place_behind p b = if b == 10 then record { file = p.file; line = p.line + 1; column = 1 } else record { file = p.file; line = p.line; column = p.column + 1 }

-- the place behind n bytes, or that of the first of them at which begins what may stand nowhere
abbrev pub walk : Place → ℕ → List ℕ → Result Place Place
walk p zero text = Ok p
walk p (suc n) [] = Ok p
walk p (suc n) (b ∷ bs) = if is_barred (b ∷ bs) then Err p else walk (place_behind p b) n bs

-- what is left of a text: its place, how many bytes stand before it, and how much of an annotation it begins with; in a ghost header all is ghost
pub record Spot : Type 0 where
  pub header : Bool
  pub place : Place
  pub start : ℕ
  pub region : Region
  pub text : List ℕ

-- the beginning of a file
abbrev pub beginning : Bool → ℕ → List ℕ → Spot
beginning header file text = record { header = header; place = record { file = file; line = 1; column = 1 }; start = 0; region = outside; text = text }

-- a piece takes its bytes from those inside of an annotation
abbrev pub inside_of : Region → Piece → Piece
inside_of region piece = record { shape = piece.shape; size = piece.size; region = record { inside = region.inside - piece.size; closing = region.closing } }

-- a piece in an annotation is one of the text inside, and behind that stands the closing mark
abbrev pub annotated_piece : Region → List ℕ → Option Piece
annotated_piece region text = if nat_lt 0 region.inside then (inner_piece (take region.inside text) >>= λ piece. Some (inside_of region piece))
    else (if nat_lt 0 region.closing then Some (gap region.closing) else outer_piece text)

-- the piece that stands here
unfoldable pub piece_at : Spot → Option Piece
piece_at s = if s.header then header_piece s.text else annotated_piece s.region s.text

-- what stands at a spot is ghost in a ghost header and inside of an annotation
abbrev pub is_ghost : Spot → Bool
is_ghost s = s.header || nat_lt 0 s.region.inside

-- the token that a piece is, if it is one
abbrev pub token_of : Spot → Shape → ℕ → Option Token
token_of s shapes.Gap size = None
token_of s (shapes.Token kind) size = Some (record {
  kind = kind;
  text = take size s.text;
  start = s.start;
  «end» = s.start + size;
  place = s.place;
  is_ghost = is_ghost s;
})

-- the spot behind a piece
abbrev pub spot_behind : Spot → Piece → Place → Spot
spot_behind s piece place = record { header = s.header; place = place; start = s.start + piece.size; region = piece.region; text = drop piece.size s.text }

-- what stands at a spot: the text's end, a place at which no piece can start or go on, or a piece, which may be a token, and the spot behind it
pub data Next : Type 0 where
  End : Next
  Fault : Place → Next
  Piece_is : Option Token → Spot → Next

-- what stands at a spot with a piece: the token that it is, or a fault where in it begins what may stand nowhere
abbrev pub next_walked : Spot → Piece → Result Place Place → Next
next_walked s piece (Ok place) = Piece_is (token_of s piece.shape piece.size) (spot_behind s piece place)
next_walked s piece (Err place) = Fault place

-- what stands at a spot where this piece, or none, was found: with none the spot itself is the fault
abbrev pub next_piece : Spot → Option Piece → Next
next_piece s None = Fault s.place
next_piece s (Some piece) = next_walked s piece (walk s.place piece.size s.text)

-- what stands at a spot with this text left: the end where nothing is left
abbrev pub next_in : Spot → List ℕ → Next
next_in s [] = End
next_in s (b ∷ bs) = next_piece s (piece_at s)

-- what stands at a spot
unfoldable pub next_at : Spot → Next
next_at s = next_in s s.text

-- where a fault is a place at which no token stands, a fact of that place
abbrev pub IfLex : LexFault → (Place → Type 0) → Type 0
IfLex (faults.Lex p) P = P p
IfLex faults.Memory P = Unit {0}

-- a token is the bytes of a text from its start to its end
abbrev pub IsSlice : List ℕ → Token → Type 0
IsSlice bytes token = (token.start ≤ token.«end») × (token.text ≡ take (token.«end» - token.start) (drop token.start bytes))

-- the place behind some bytes, from a place on
abbrev pub place_after : Place → List ℕ → Place
place_after p [] = p
place_after p (b ∷ bs) = place_after (place_behind p b) bs

-- a token's place is the one behind all bytes of the text before its start, from the first line and column on
abbrev pub IsPlaced : ℕ → List ℕ → Token → Type 0
IsPlaced file bytes token = token.place ≡ place_after (record { file = file; line = 1; column = 1 }) (take token.start bytes)
