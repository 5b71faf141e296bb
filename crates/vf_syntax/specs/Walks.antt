-- What takes tokens off the front of a list. Each part of a tree is such a walk: it takes the tokens that the part spells, and is none where other tokens stand there.
use Rattle.std.specs.Prelude.{ℕ, Bool, true, false, not, ◌&&◌, if◌then◌else◌, nat_eq, List, [], ◌∷◌, Option, Some, None}
use Rattle.std.specs.Str.{bytes_eq}
use Rattle.vf_base.specs.declared.place.Place.{Place}
use Rattle.vf_base.specs.declared.int_type.IntType.{IntType}
use Rattle.vf_base.specs.declared.int_type.IntType.TheVariants as int_types
use Rattle.vf_lexer.specs.declared.punctuator.Punctuator.{Punctuator}
use Rattle.vf_lexer.specs.declared.token.Kind.{Kind}
use Rattle.vf_lexer.specs.declared.token.Kind.TheVariants as kinds
use Rattle.vf_lexer.specs.declared.token.Token.{Token}
use Rattle.vf_lexer.specs.Punctuators as punctuators
use Rattle.vf_syntax.specs.declared.keyword.Keyword.{Keyword}
use Rattle.vf_syntax.specs.declared.side.Side.{Side}
use Rattle.vf_syntax.specs.declared.side.Side.TheVariants as sides
use Rattle.vf_syntax.specs.Keywords.{spelling, is_keyword}

-- what is left behind the tokens that a part spells, if it spells those in front
abbrev pub Walk : Type 0
Walk = List Token → Option (List Token)

-- goes on with what is left, if there is something
abbrev pub goes_on : Option (List Token) → Walk → Option (List Token)
goes_on None g = None
goes_on (Some ts) g = g ts

infixr 10 ◌⨾◌
-- one part and then another
abbrev pub ◌⨾◌ : Walk → Walk → Walk
(f ⨾ g) ts = goes_on (f ts) g

-- no token
abbrev pub nothing : Walk
nothing ts = Some ts

-- no tokens at all spell it
abbrev pub never : Walk
never ts = None

-- no token, under a condition on the tree
abbrev pub provided : Bool → Walk
provided b ts = if b then Some ts else None

-- two places are the same
abbrev pub same_place : Place → Place → Bool
same_place p q = nat_eq p.file q.file && nat_eq p.line q.line && nat_eq p.column q.column

-- no token, where the next one stands at a place
unfoldable pub at : Place → Walk
at p [] = None
at p (t ∷ ts) = if same_place t.place p then Some (t ∷ ts) else None

-- a token is of a kind of text
abbrev pub is_on : Side → Token → Bool
is_on sides.Real t = not t.is_ghost
is_on sides.Ghost t = t.is_ghost

-- the next token passes a test
abbrev pub head_has : (Token → Bool) → List Token → Bool
head_has test [] = false
head_has test (t ∷ ts) = test t

-- one token, which passes a test
abbrev pub one : (Token → Bool) → Walk
one test [] = None
one test (t ∷ ts) = if test t then Some ts else None

-- two punctuators are the same, since they are written alike
abbrev pub is_punctuator : Punctuator → Kind → Bool
is_punctuator p (kinds.Punctuator q) = bytes_eq (punctuators.spelling q) (punctuators.spelling p)
is_punctuator p k = false

-- a kind is that of a name or a keyword
abbrev pub is_word_kind : Kind → Bool
is_word_kind kinds.Name = true
is_word_kind k = false

-- a kind is that of `_` in ghost text
abbrev pub is_wild_kind : Kind → Bool
is_wild_kind kinds.Wild = true
is_wild_kind k = false

-- a token is a punctuator
unfoldable pub is_mark : Side → Punctuator → Token → Bool
is_mark s p t = is_on s t && is_punctuator p t.kind

-- a token is a keyword
unfoldable pub is_word : Side → Keyword → Token → Bool
is_word s k t = is_on s t && is_word_kind t.kind && bytes_eq t.text (spelling k)

-- a token is a name, and no keyword
unfoldable pub is_name : Side → Token → Bool
is_name s t = is_on s t && is_word_kind t.kind && not (is_keyword t.text)

-- a token is the wild pattern
unfoldable pub is_wild : Token → Bool
is_wild t = is_on sides.Ghost t && is_wild_kind t.kind

-- the numbers of integer types, by which they are compared
abbrev pub type_number : IntType → ℕ
type_number int_types.Bool = 0
type_number int_types.Char = 1
type_number int_types.UChar = 2
type_number int_types.Short = 3
type_number int_types.UShort = 4
type_number int_types.Int = 5
type_number int_types.UInt = 6
type_number int_types.Long = 7
type_number int_types.ULong = 8
type_number int_types.LongLong = 9
type_number int_types.ULongLong = 10

-- a kind is that of a number with its type
abbrev pub is_number_kind : ℕ → IntType → Kind → Bool
is_number_kind n t (kinds.Number m u) = nat_eq m n && nat_eq (type_number u) (type_number t)
is_number_kind n t k = false

-- a kind is that of a character constant
abbrev pub is_character_kind : ℕ → Kind → Bool
is_character_kind n (kinds.Character m) = nat_eq m n
is_character_kind n k = false

-- a punctuator
unfoldable pub mark : Side → Punctuator → Walk
mark s p = one (is_mark s p)

-- a keyword
unfoldable pub word : Side → Keyword → Walk
word s k = one (is_word s k)

-- a name that is written so
unfoldable pub identifier : Side → List ℕ → Walk
identifier s x = one (λ t. is_name s t && bytes_eq t.text x)

-- a number with its type
unfoldable pub number : Side → ℕ → IntType → Walk
number s n ty = one (λ t. is_on s t && is_number_kind n ty t.kind)

-- a character constant of real text
unfoldable pub character : ℕ → Walk
character n = one (λ t. is_on sides.Real t && is_character_kind n t.kind)

-- the wild pattern
unfoldable pub wild : Walk
wild = one is_wild
