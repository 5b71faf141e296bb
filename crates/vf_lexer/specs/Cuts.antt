-- A whole text cut into its lexical elements, the tokens that these are, and the first byte at which a text cannot be cut.
use Rattle.std.specs.Prelude.{◌≡◌, ◌⊎◌, ◌<◌, ℕ, ◌+◌, Bool, true, false, ◌||◌, if◌then◌else◌, nat_eq, List, [], ◌∷◌, ◌++◌, length, take, drop, codes, Option, Some, None}
use Rattle.std.specs.List.{starts_with, list_all}
use Rattle.vf_base.specs.declared.place.Place.{Place}
use Rattle.vf_lexer.specs.declared.token.Token.{Token}
use Rattle.vf_lexer.specs.declared.token.Kind.{Kind}
use Rattle.vf_lexer.specs.Bytes.{is_blank, is_in_line, is_barred}
use Rattle.vf_lexer.specs.Pieces.{token_front}
use Rattle.vf_lexer.specs.Tokens.{place_after}

-- ---- what a text is cut into

-- where text stands: outside of annotations, inside of one, or in a ghost header
pub data Setting : Type 0 where
  Real : Setting
  Inside : Setting
  Header : Setting

-- text is ghost inside of annotations and in ghost headers
abbrev pub is_ghost_in : Setting → Bool
is_ghost_in Real = false
is_ghost_in Inside = true
is_ghost_in Header = true

-- the setting of a file outside of its annotations
abbrev pub setting_of : Bool → Setting
setting_of header = if header then Header else Real

-- a lexical element: a blank byte, a comment by what stands behind `//` or between `/*` and `*/` (C11 6.4.9), a mark that only parts tokens, or a token by its kind and bytes (C11 6.4)
pub data Lexeme : Type 0 where
  Blank : ℕ → Lexeme
  Line_comment : List ℕ → Lexeme
  Block_comment : List ℕ → Lexeme
  Mark : List ℕ → Lexeme
  Token_is : Kind → List ℕ → Lexeme

-- the bytes of a lexical element
abbrev pub bytes_of : Lexeme → List ℕ
bytes_of (Blank b) = b ∷ []
bytes_of (Line_comment body) = codes "//" ++ body
bytes_of (Block_comment body) = codes "/*" ++ (body ++ codes "*/")
bytes_of (Mark mark) = mark
bytes_of (Token_is kind bytes) = bytes

-- the text that lexical elements make, each behind the one before
abbrev pub text_of : List Lexeme → List ℕ
text_of [] = []
text_of (l ∷ ls) = bytes_of l ++ text_of ls

-- the two forms of annotations: from `//@` to the end of the line, and from `/*@` to `@*/`
pub data Form : Type 0 where
  Line_form : Form
  Block_form : Form

-- the mark that opens an annotation
abbrev pub opening_mark : Form → List ℕ
opening_mark Line_form = codes "//@"
opening_mark Block_form = codes "/*@"

-- the mark that closes an annotation
abbrev pub closing_mark : Form → List ℕ
closing_mark Line_form = []
closing_mark Block_form = codes "@*/"

-- an element of a whole text: one outside of annotations, or an annotation with the lexical elements between its marks
pub data Element : Type 0 where
  Plain : Lexeme → Element
  Annotation : Form → List Lexeme → Element

-- the bytes of an element of a whole text
abbrev pub element_bytes : Element → List ℕ
element_bytes (Plain l) = bytes_of l
element_bytes (Annotation form ls) = opening_mark form ++ (text_of ls ++ closing_mark form)

-- the whole text that elements make
abbrev pub whole_text : List Element → List ℕ
whole_text [] = []
whole_text (e ∷ es) = element_bytes e ++ whole_text es

-- ---- what may stand in front of the rest of a text

-- here the text or its line ends
abbrev pub AtLineEnd : List ℕ → Type 0
AtLineEnd [] = Unit {0}
AtLineEnd (b ∷ bs) = b ≡ 10

-- no byte of it ends a line
abbrev pub InLine : List ℕ → Type 0
InLine text = list_all is_in_line text ≡ true

-- no `*/` begins at a byte of it
abbrev pub Unclosed : List ℕ → Type 0
Unclosed [] = Unit {0}
Unclosed (b ∷ bs) = (starts_with nat_eq (b ∷ bs) (codes "*/") ≡ false) × Unclosed bs

-- what may stand behind the `//` of a comment: outside of annotations it does not begin with `@`, which would make it a mark
abbrev pub LineBody : Setting → List ℕ → Type 0
LineBody Inside body = Unit {0}
LineBody Real body = starts_with nat_eq body (codes "@") ≡ false
LineBody Header body = starts_with nat_eq body (codes "@") ≡ false

-- what may stand behind the `/*` of a comment: nothing inside of an annotation, and elsewhere what does not begin with `@`
abbrev pub BlockBody : Setting → List ℕ → Type 0
BlockBody Inside body = ⊥
BlockBody Real body = starts_with nat_eq body (codes "@") ≡ false
BlockBody Header body = starts_with nat_eq body (codes "@") ≡ false

-- the marks that only part tokens: those of annotations, in a ghost header
abbrev pub IsMark : Setting → List ℕ → Type 0
IsMark Header mark = (mark ≡ codes "//@") ⊎ (mark ≡ codes "/*@") ⊎ (mark ≡ codes "@*/")
IsMark Real mark = ⊥
IsMark Inside mark = ⊥

-- a text begins with what opens a comment or an annotation
abbrev pub opens_comment : List ℕ → Bool
opens_comment text = starts_with nat_eq text (codes "//") || starts_with nat_eq text (codes "/*")

-- these bytes are a token of this kind, where the text goes on with the rest
abbrev pub IsToken : Bool → Kind → List ℕ → List ℕ → Type 0
IsToken ghost kind bytes rest = token_front ghost (bytes ++ rest) ≡ Some (kind, length bytes)

-- a lexical element may stand in front of the rest: a comment goes up to the first end that it can have, and a token stands where no comment begins
abbrev pub Stands : Setting → Lexeme → List ℕ → Type 0
Stands w (Blank b) rest = is_blank b ≡ true
Stands w (Line_comment body) rest = LineBody w body × InLine body × AtLineEnd rest
Stands w (Block_comment body) rest = BlockBody w body × Unclosed body
Stands w (Mark mark) rest = IsMark w mark
Stands w (Token_is kind bytes) rest = IsToken (is_ghost_in w) kind bytes rest × (opens_comment (bytes ++ rest) ≡ false)

-- each lexical element may stand in front of those behind it and the rest
abbrev pub AllStand : Setting → List Lexeme → List ℕ → Type 0
AllStand w [] rest = Unit {0}
AllStand w (l ∷ ls) rest = Stands w l (text_of ls ++ rest) × AllStand w ls rest

-- an annotation with this text between its marks may stand in front of the rest: it is outside of all others, and goes up to the end of its line or the first `*/`
abbrev pub Opens : Setting → Form → List ℕ → List ℕ → Type 0
Opens Real Line_form body rest = InLine body × AtLineEnd rest
Opens Real Block_form body rest = Unclosed body
Opens Inside form body rest = ⊥
Opens Header form body rest = ⊥

-- an element of a whole text may stand in front of the rest; what is inside of an annotation is a text of its own
abbrev pub ElementStands : Setting → Element → List ℕ → Type 0
ElementStands w (Plain l) rest = Stands w l rest
ElementStands w (Annotation form ls) rest = Opens w form (text_of ls) rest × AllStand Inside ls []

-- each element of a whole text may stand in front of those behind it and the rest
abbrev pub ElementsStand : Setting → List Element → List ℕ → Type 0
ElementsStand w [] rest = Unit {0}
ElementsStand w (e ∷ es) rest = ElementStands w e (whole_text es ++ rest) × ElementsStand w es rest

-- a whole text is cut into these elements: they make it, each may stand where it does, and nowhere begins what may stand nowhere
pub record IsCut (header : Bool) (bytes : List ℕ) (elements : List Element) : Type 0 where
  pub whole : bytes ≡ whole_text elements
  pub stand : ElementsStand (setting_of header) elements []
  pub clean : (n : ℕ) → is_barred (drop n bytes) ≡ false

-- ---- the tokens of a text

-- the first place of a file
abbrev pub first_place : ℕ → Place
first_place file = record { file = file; line = 1; column = 1 }

-- the token of this kind with these bytes, where others stand before it: it starts behind those, and they decide its place
abbrev pub token_behind : ℕ → Bool → List ℕ → Kind → List ℕ → Token
token_behind file ghost before kind bytes = record {
  kind = kind;
  text = bytes;
  start = length before;
  «end» = length before + length bytes;
  place = place_after (first_place file) before;
  is_ghost = ghost;
}

-- the token that a lexical element is, if it is one, where these bytes stand before it
abbrev pub token_in : ℕ → Bool → List ℕ → Lexeme → Option Token
token_in file ghost before (Blank b) = None
token_in file ghost before (Line_comment body) = None
token_in file ghost before (Block_comment body) = None
token_in file ghost before (Mark mark) = None
token_in file ghost before (Token_is kind bytes) = Some (token_behind file ghost before kind bytes)

-- tokens with one before them, if there is one
abbrev pub with_first : Option Token → List Token → List Token
with_first None tokens = tokens
with_first (Some token) tokens = token ∷ tokens

-- the tokens that lexical elements are, where these bytes stand before them
abbrev pub tokens_in : ℕ → Bool → List ℕ → List Lexeme → List Token
tokens_in file ghost before [] = []
tokens_in file ghost before (l ∷ ls) = with_first (token_in file ghost before l) (tokens_in file ghost (before ++ bytes_of l) ls)

-- the tokens of an element: those inside of an annotation are ghost
abbrev pub element_tokens : ℕ → Bool → List ℕ → Element → List Token
element_tokens file header before (Plain l) = with_first (token_in file header before l) []
element_tokens file header before (Annotation form ls) = tokens_in file true (before ++ opening_mark form) ls

-- the tokens of elements, where these bytes stand before them; in a ghost header all are ghost
abbrev pub tokens_of : ℕ → Bool → List ℕ → List Element → List Token
tokens_of file header before [] = []
tokens_of file header before (e ∷ es) = element_tokens file header before e ++ tokens_of file header (before ++ element_bytes e) es

-- these are the tokens of a file with this number and text
abbrev pub HasTokens : Bool → ℕ → List ℕ → List Token → Type 0
HasTokens header file bytes tokens = (elements : List Element) × IsCut header bytes elements × (tokens ≡ tokens_of file header [] elements)

-- ---- the first byte at which a text cannot be cut

-- no lexical element may stand at the front of this text, of which something is left
pub record NoLexeme (w : Setting) (text : List ℕ) : Type 0 where
  pub left : text ≡ [] → ⊥
  pub none : (l : Lexeme) (rest : List ℕ) → text ≡ bytes_of l ++ rest → Stands w l rest → ⊥

-- no annotation may stand at the front of this text
abbrev pub NoAnnotation : Setting → List ℕ → Type 0
NoAnnotation w text = (form : Form) (body rest : List ℕ) → text ≡ opening_mark form ++ (body ++ (closing_mark form ++ rest)) → Opens w form body rest → ⊥

-- behind the elements of the first n bytes nothing may stand
pub record StuckOutside (header : Bool) (bytes : List ℕ) (n : ℕ) : Type 0 where
  pub elements : List Element
  pub rest : List ℕ
  pub whole : bytes ≡ whole_text elements ++ rest
  pub stand : ElementsStand (setting_of header) elements rest
  pub none : NoLexeme (setting_of header) rest
  pub no_annotation : NoAnnotation (setting_of header) rest
  pub count : n ≡ length (whole_text elements)

-- an annotation begins among the first n bytes, behind which nothing may stand inside of it
pub record StuckInside (header : Bool) (bytes : List ℕ) (n : ℕ) : Type 0 where
  pub elements : List Element
  pub form : Form
  pub lexemes : List Lexeme
  pub rest : List ℕ
  pub after : List ℕ
  pub whole : bytes ≡ whole_text elements ++ (opening_mark form ++ ((text_of lexemes ++ rest) ++ (closing_mark form ++ after)))
  pub before : ElementsStand (setting_of header) elements (opening_mark form ++ ((text_of lexemes ++ rest) ++ (closing_mark form ++ after)))
  pub opens : Opens (setting_of header) form (text_of lexemes ++ rest) after
  pub stand : AllStand Inside lexemes rest
  pub none : NoLexeme Inside rest
  pub count : n ≡ length (whole_text elements) + (3 + length (text_of lexemes))

-- behind the first n bytes nothing can start or go on: nothing may stand there, or there begins what may stand nowhere
abbrev pub IsFaulty : Bool → List ℕ → ℕ → Type 0
IsFaulty header bytes n = StuckOutside header bytes n ⊎ StuckInside header bytes n ⊎ (is_barred (drop n bytes) ≡ true)

-- the first byte at which nothing can start or go on stands behind n bytes
pub record FailsBehind (header : Bool) (bytes : List ℕ) (n : ℕ) : Type 0 where
  pub faulty : IsFaulty header bytes n
  pub first : (k : ℕ) → k < n → IsFaulty header bytes k → ⊥

-- the place of the first byte at which nothing can start or go on
abbrev pub HasFault : Bool → ℕ → List ℕ → Place → Type 0
HasFault header file bytes p = (n : ℕ) × FailsBehind header bytes n × (p ≡ place_after (first_place file) (take n bytes))
