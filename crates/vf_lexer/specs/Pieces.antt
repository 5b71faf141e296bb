-- The pieces of a text: what stands in front of it, and how many bytes that takes.
use Rattle.std.specs.Prelude.{ℕ, ◌+◌, ◌-◌, ◌<◌, ◌≤◌, ◌==◌, Bool, true, false, ◌||◌, ◌&&◌, if◌then◌else◌, nat_eq, nat_le, List, [], ◌∷◌, length, take, drop, codes, slice_get, Option, Some, None}
use Rattle.std.specs.Char.{is_ascii_digit}
use Rattle.std.specs.List.{prefix_len, starts_with}
use Rattle.std.specs.Str.{bytes_eq}
use Rattle.vf_lexer.specs.declared.class.Class.{Class}
use Rattle.vf_lexer.specs.declared.class.Class.TheVariants as classes
use Rattle.vf_lexer.specs.declared.token.Kind.{Kind}
use Rattle.vf_lexer.specs.declared.token.Kind.TheVariants as kinds
use Rattle.vf_lexer.specs.declared.piece.Shape.TheVariants as shapes
use Rattle.vf_lexer.specs.declared.piece.Region.{Region}
use Rattle.vf_lexer.specs.declared.piece.Piece.{Piece}
use Rattle.vf_lexer.specs.Bytes.{is_blank, is_letter, is_word_byte, is_number_byte, is_in_line, is_plain, is_quoted}
use Rattle.vf_lexer.specs.Numbers.{◌>>=◌, number_of}
use Rattle.vf_lexer.specs.Punctuators.{spelling, punctuator_of}

-- a byte is of a class
abbrev pub is_of : Class → ℕ → Bool
is_of classes.Word b = is_word_byte b
is_of classes.Number b = is_number_byte b
is_of classes.Line b = is_in_line b
is_of classes.Quoted b = is_quoted b

-- how many bytes at the front of a text are of a class
abbrev pub run_len : Class → List ℕ → ℕ
run_len c text = prefix_len (is_of c) text

-- ---- tokens: their kind and how many bytes they take

-- the kind of the token in front of a text and how many bytes it takes, if there is one
abbrev pub Front : Type 0
Front = Option (Kind × ℕ)

-- a lone `_` in ghost text is the pattern that fits everything
abbrev pub name_kind : Bool → List ℕ → Kind
name_kind ghost word = if ghost && bytes_eq word (codes "_") then kinds.Wild else kinds.Name

-- the name in front of a text that begins with a letter: it goes on as long as letters, digits and `_` do (C11 6.4.2.1)
abbrev pub name_front : Bool → List ℕ → Front
name_front ghost text = Some (name_kind ghost (take (run_len classes.Word text) text), run_len classes.Word text)

-- a number ends where no byte follows that may not: as of a preprocessing number of C11 6.4.8 all bytes up to there have to be one, so `08` and `1.5` are none, though `0` and `1` are numbers
abbrev pub number_front : Bool → List ℕ → Front
number_front ghost text = number_of ghost (take (run_len classes.Number text) text) >>= λ x. Some (kinds.Number x.0 x.1, run_len classes.Number text)

-- the byte that a letter behind a backslash means
abbrev pub escaped : ℕ → Option ℕ
escaped b = if b == 110 then Some 10 else (if b == 116 then Some 9 else (if b == 114 then Some 13 else (if b == 48 then Some 0
    else (if b == 92 then Some 92 else (if b == 39 then Some 39 else (if b == 34 then Some 34 else None))))))

-- a byte that stands for itself and the closing quote
abbrev pub plain_character : ℕ → ℕ → Front
plain_character a b = if is_plain a && b == 39 then Some (kinds.Character a, 3) else None

-- an escape and the closing quote
abbrev pub escaped_character : ℕ → ℕ → Front
escaped_character a b = if b == 39 then (escaped a >>= λ value. Some (kinds.Character value, 4)) else None

-- the character constant whose opening quote stands before this text
abbrev pub character_front : List ℕ → Front
character_front [] = None
character_front (a ∷ []) = None
character_front (a ∷ b ∷ []) = plain_character a b
character_front (a ∷ b ∷ c ∷ rest) = if a == 92 then escaped_character b c else plain_character a b

-- the literal of n bytes between quotes, where the byte behind those is the closing quote (C11 6.4.5)
abbrev pub closed_literal : ℕ → Option ℕ → Front
closed_literal n (Some b) = if b == 34 then Some (kinds.Literal, n + 2) else None
closed_literal n None = None

-- the text between double quotes whose opening quote stands before this text
abbrev pub literal_front : List ℕ → Front
literal_front text = closed_literal (run_len classes.Quoted text) (slice_get text (run_len classes.Quoted text))

-- the punctuator in front of a text, the longest one (C11 6.4.6)
abbrev pub punctuator_front : Bool → List ℕ → Front
punctuator_front ghost text = punctuator_of ghost text >>= λ p. Some (kinds.Punctuator p, length (spelling p))

-- the token in front of a text
unfoldable pub token_front : Bool → List ℕ → Front
token_front ghost [] = None
token_front ghost (b ∷ bs) = if is_letter b then name_front ghost (b ∷ bs) else (if is_ascii_digit b then number_front ghost (b ∷ bs)
    else (if b == 39 then character_front bs else (if b == 34 then literal_front bs else punctuator_front ghost (b ∷ bs))))

-- ---- pieces: a gap or a token, how many bytes it takes, and how much of an annotation follows it

-- no part of an annotation is left
abbrev pub outside : Region
outside = record { inside = 0; closing = 0 }

-- a piece of so many bytes that only parts tokens
abbrev pub gap : ℕ → Piece
gap size = record { shape = shapes.Gap; size = size; region = outside }

-- a piece that is a token of this kind with so many bytes
abbrev pub token : Kind × ℕ → Piece
token x = record { shape = shapes.Token x.0; size = x.1; region = outside }

-- a blank byte, or a token
unfoldable pub solid_piece : Bool → List ℕ → Option Piece
solid_piece ghost [] = None
solid_piece ghost (b ∷ bs) = if is_blank b then Some (gap 1) else (token_front ghost (b ∷ bs) >>= λ x. Some (token x))

-- how many bytes there are up to the end of the first `*/`, n of them before this text
abbrev pub ended_from : ℕ → List ℕ → Option ℕ
ended_from n [] = None
ended_from n (b ∷ bs) = if starts_with nat_eq (b ∷ bs) (codes "*/") then Some (n + 2) else ended_from (n + 1) bs

-- the comment in front of a text that begins with `/*`: it ends with the first `*/` behind that
abbrev pub block_comment : List ℕ → Option Piece
block_comment text = ended_from 2 (drop 2 text) >>= λ n. Some (gap n)

-- a comment, a blank byte or a token
unfoldable pub plain_piece : Bool → List ℕ → Option Piece
plain_piece ghost text = if starts_with nat_eq text (codes "//") then Some (gap (run_len classes.Line text))
    else (if starts_with nat_eq text (codes "/*") then block_comment text else solid_piece ghost text)

-- the beginning of an annotation with so many bytes inside, and the mark that closes it
abbrev pub opening : ℕ → ℕ → Piece
opening inside closing = record { shape = shapes.Gap; size = 3; region = record { inside = inside; closing = closing } }

-- the annotation whose opening mark stands before this text ends with the first `*/`, n bytes further, which follows an `@`
abbrev pub closed_block : List ℕ → ℕ → Option Piece
closed_block text n = if nat_le 3 n then (if starts_with nat_eq (drop (n - 3) text) (codes "@") then Some (opening (n - 3) 3) else None) else None

-- the annotation whose opening `/*@` stands before this text, up to the first `*/`
abbrev pub block_opening : List ℕ → Option Piece
block_opening text = ended_from 0 text >>= λ n. closed_block text n

-- a piece outside annotations
unfoldable pub outer_piece : List ℕ → Option Piece
outer_piece text = if starts_with nat_eq text (codes "//@") then Some (opening (run_len classes.Line (drop 3 text)) 0)
    else (if starts_with nat_eq text (codes "/*@") then block_opening (drop 3 text) else plain_piece false text)

-- a piece of the text inside an annotation
unfoldable pub inner_piece : List ℕ → Option Piece
inner_piece text = if starts_with nat_eq text (codes "//") then Some (gap (run_len classes.Line text))
    else (if starts_with nat_eq text (codes "/*") then None else solid_piece true text)

-- a text begins with one of the three marks of annotations
abbrev pub begins_with_mark : List ℕ → Bool
begins_with_mark text = starts_with nat_eq text (codes "//@") || starts_with nat_eq text (codes "/*@") || starts_with nat_eq text (codes "@*/")

-- a piece of a ghost header, where the marks of annotations are gaps
unfoldable pub header_piece : List ℕ → Option Piece
header_piece text = if begins_with_mark text then Some (gap 3) else plain_piece true text

-- a piece takes a byte at least, and it and the rest of its annotation so many at most
abbrev pub PieceFits : ℕ → Option Piece → Type 0
PieceFits most None = Unit {0}
PieceFits most (Some p) = (0 < p.size) × (p.size + (p.region.inside + p.region.closing) ≤ most)
