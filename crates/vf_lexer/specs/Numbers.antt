-- Numbers and their types (C11 6.4.4.1).
use Rattle.std.specs.Prelude.{ℕ, Bool, true, false, not, ◌||◌, ◌&&◌, ◌==◌, nat_le, nat_eq, List, [], ◌∷◌, codes, take, drop, Option, Some, None, if◌then◌else◌}
use Rattle.std.specs.Char.{is_digit}
use Rattle.std.specs.List.{prefix_len, starts_with, list_any, find}
use Rattle.std.specs.Option.{unwrap_or}
use Rattle.std.specs.Str.{bytes_eq}
use Rattle.std.specs.Str.Parse.{digits_value}
use Rattle.vf_base.specs.declared.int_type.IntType.{IntType}
use Rattle.vf_base.specs.declared.int_type.IntType.TheVariants as types
use Rattle.vf_lexer.specs.declared.number.Suffix.{Suffix}

-- what follows from a value, if there is one
infixl 10 ◌>>=◌
abbrev pub ◌>>=◌ : {A B : Type 0} → Option A → (A → Option B) → Option B
None >>= f = None
(Some x) >>= f = f x

-- the greatest number of a type
abbrev pub most_of : IntType → ℕ
most_of types.Bool = 1
most_of types.Char = 127
most_of types.UChar = 255
most_of types.Short = 32767
most_of types.UShort = 65535
most_of types.Int = 2147483647
most_of types.UInt = 4294967295
most_of types.Long = 9223372036854775807
most_of types.ULong = 18446744073709551615
most_of types.LongLong = 9223372036854775807
most_of types.ULongLong = 18446744073709551615

-- the types that numbers have, in the order in which they are tried
abbrev pub number_types : List IntType
number_types = types.Int ∷ types.UInt ∷ types.Long ∷ types.ULong ∷ types.LongLong ∷ types.ULongLong ∷ []

-- a type of numbers has no negative ones
abbrev pub is_unsigned : IntType → Bool
is_unsigned types.UInt = true
is_unsigned types.ULong = true
is_unsigned types.ULongLong = true
is_unsigned t = false

-- how many times a type is long
abbrev pub longs_of : IntType → ℕ
longs_of types.Long = 1
longs_of types.ULong = 1
longs_of types.LongLong = 2
longs_of types.ULongLong = 2
longs_of t = 0

-- the list of a number's types has this one: it is as long as the suffix asks at least; with `u` in the suffix it is unsigned, and without it a decimal number has no unsigned type
abbrev pub is_listed : Suffix → Bool → IntType → Bool
is_listed suffix decimal t = nat_le suffix.longs (longs_of t) && (if is_unsigned t then suffix.unsigned || not decimal else not suffix.unsigned)

-- the list has the type, which holds the number
abbrev pub is_fit : Suffix → Bool → ℕ → IntType → Bool
is_fit suffix decimal value t = is_listed suffix decimal t && nat_le value (most_of t)

-- the first type of the list that holds the number
unfoldable pub type_of : Suffix → Bool → ℕ → Option IntType
type_of suffix decimal value = find (is_fit suffix decimal value) number_types

-- a byte is `u` or `U`
abbrev pub is_u : ℕ → Bool
is_u b = b == 117 || b == 85

-- the suffixes that ask for no long type (C11 6.4.4.1)
abbrev pub plain_suffixes : List (List ℕ)
plain_suffixes = codes "" ∷ codes "u" ∷ codes "U" ∷ []

-- the suffixes that ask for a long type (C11 6.4.4.1)
abbrev pub long_suffixes : List (List ℕ)
long_suffixes = codes "l" ∷ codes "L" ∷ codes "ul" ∷ codes "uL" ∷ codes "Ul" ∷ codes "UL" ∷ codes "lu" ∷ codes "lU" ∷ codes "Lu" ∷ codes "LU" ∷ []

-- the suffixes that ask for a long long type (C11 6.4.4.1)
abbrev pub long_long_suffixes : List (List ℕ)
long_long_suffixes = codes "ll" ∷ codes "LL" ∷ codes "ull" ∷ codes "uLL" ∷ codes "Ull" ∷ codes "ULL" ∷ codes "llu" ∷ codes "llU" ∷ codes "LLu" ∷ codes "LLU" ∷ []

-- a word is one of these
abbrev pub is_among : List (List ℕ) → List ℕ → Bool
is_among words w = list_any (bytes_eq w) words

-- how many times the type is long at least that a suffix asks for
unfoldable pub suffix_longs : List ℕ → Option ℕ
suffix_longs text = if is_among plain_suffixes text then Some 0 else (if is_among long_suffixes text then Some 1 else (if is_among long_long_suffixes text then Some 2 else None))

-- what a suffix asks for
unfoldable pub suffix_of : List ℕ → Option Suffix
suffix_of text = suffix_longs text >>= λ n. Some (record { unsigned = list_any is_u text; longs = n })

-- the base of the number that a text writes
abbrev pub base_of : List ℕ → ℕ
base_of text = if starts_with nat_eq text (codes "0x") then 16 else (if starts_with nat_eq text (codes "0") then 8 else 10)

-- the digits of a number and its suffix
abbrev pub digits_of : List ℕ → List ℕ
digits_of text = if starts_with nat_eq text (codes "0x") then drop 2 text else text

-- how many digits of a base there are at the front of a text
abbrev pub digits_len : ℕ → List ℕ → ℕ
digits_len base text = prefix_len (λ b. is_digit b base) text

-- the number that digits write, where one of 64 bits is it
unfoldable pub value_of : ℕ → List ℕ → Option ℕ
value_of base digits = if nat_le (digits_value base digits) 18446744073709551615 then Some (digits_value base digits) else None

-- the type of a number of real text
unfoldable pub real_type : List ℕ → Bool → ℕ → Option IntType
real_type suffix decimal value = suffix_of suffix >>= λ s. type_of s decimal value

-- the type of a number of ghost text, which has no suffix
unfoldable pub ghost_type : List ℕ → Bool → ℕ → Option IntType
ghost_type [] decimal value = Some (unwrap_or (type_of (record { unsigned = false; longs = 0 }) decimal value) types.ULongLong)
ghost_type (b ∷ bs) decimal value = None

-- the type of a number of one kind of text, ghost or real, by its suffix, base and value
abbrev pub type_in : Bool → List ℕ → Bool → ℕ → Option IntType
type_in ghost suffix decimal value = if ghost then ghost_type suffix decimal value else real_type suffix decimal value

-- the number that digits write which a suffix follows, and its type; there is a digit
unfoldable pub number_with : Bool → ℕ → List ℕ → List ℕ → Option (ℕ × IntType)
number_with ghost base [] suffix = None
number_with ghost base (d ∷ ds) suffix = value_of base (d ∷ ds) >>= λ value. type_in ghost suffix (base == 10) value >>= λ t. Some (value, t)

-- the number and type that a text writes: digits of the base as far as they go, and a suffix
abbrev pub split_number : Bool → ℕ → List ℕ → Option (ℕ × IntType)
split_number ghost base text = number_with ghost base (take (digits_len base text) text) (drop (digits_len base text) text)

-- the number that a whole text writes, and its type
unfoldable pub number_of : Bool → List ℕ → Option (ℕ × IntType)
number_of ghost text = split_number ghost (base_of text) (digits_of text)
