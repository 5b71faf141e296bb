-- Parsers as functions on lists of tokens: a value and the tokens left, or a fault and how many tokens are left at it.
use Rattle.std.specs.Prelude.{◌≡◌, ℕ, zero, suc, Bool, true, false, List, [], ◌∷◌, ◌++◌, length, Option, Some, None, Result, Ok, Err, if◌then◌else◌, nat_eq}
use Rattle.vf_base.specs.declared.place.Place.{Place}
use Rattle.vf_base.specs.declared.int_type.IntType.{IntType}
use Rattle.vf_lexer.specs.declared.punctuator.Punctuator.{Punctuator}
use Rattle.vf_lexer.specs.declared.token.Kind.{Kind}
use Rattle.vf_lexer.specs.declared.token.Kind.TheVariants as kinds
use Rattle.vf_lexer.specs.declared.token.Token.{Token}
use Rattle.vf_syntax.specs.declared.keyword.Keyword.{Keyword}
use Rattle.vf_syntax.specs.declared.side.Side.{Side}
use Rattle.vf_syntax.specs.declared.side.Side.TheVariants.{Real, Ghost}
use Rattle.vf_syntax.specs.declared.written.Name.{Name}
use Rattle.vf_syntax.specs.Walks.{head_has, is_on, is_mark, is_word, is_name, is_wild}
use Rattle.vf_cursor.specs.declared.fault.Fault.{Fault}
use Rattle.vf_cursor.specs.declared.fault.Fault.TheVariants.{Syntax, Depth}
use Rattle.vf_cursor.specs.declared.fault.Stop.{Stop}
use Rattle.vf_cursor.specs.declared.fault.Stop.TheVariants as stops

-- what reading comes to: a value and the tokens left, or a fault
abbrev pub Read : Type 0 → Type 0
Read A = Result (A × List Token) Fault

-- what reads a value off the front of tokens
abbrev pub Parser : Type 0 → Type 0
Parser A = List Token → Read A

-- a value was read, and these tokens are left
abbrev pub ok : {A : Type 0} → A → List Token → Read A
ok a ts = Ok (a, ts)

infixl 10 ◌>>=◌
-- goes on with what was read, unless there is a fault
abbrev pub ◌>>=◌ : {A B : Type 0} → Result A Fault → (A → Result B Fault) → Result B Fault
(Ok x) >>= f = f x
(Err e) >>= f = Err e

-- want of memory says nothing of what reading comes to, and a fault is the one that it comes to
abbrev pub Fails : {Y : Type 0} → Stop → Result Y Fault → Type 0
Fails stops.Memory read = Unit {0}
Fails (stops.Fault f) read = read ≡ Err f

-- what the code answered, and the tokens that it left, are what reading comes to, unless memory ran out
abbrev pub Gives : {X : Type 0} → Result X Stop → List Token → Read X → Type 0
Gives (Ok x) left read = read ≡ Ok (x, left)
Gives (Err e) left read = Fails e read

-- a token that can't stand there, or the end of the tokens
abbrev pub fails_at : {A : Type 0} → Parser A
fails_at ts = Err (Syntax (length ts))

-- the next token, which passes a test
abbrev pub take_at : (Token → Bool) → Parser Token
take_at test [] = Err (Syntax 0)
take_at test (t ∷ ts) = if test t then ok t ts else Err (Syntax (suc (length ts)))

-- the place of the next token, which stays
unfoldable pub here_at : Parser Place
here_at [] = Err (Syntax 0)
here_at (t ∷ ts) = ok t.place (t ∷ ts)

-- a punctuator: its place
unfoldable pub mark_at : Side → Punctuator → Parser Place
mark_at s p ts = take_at (is_mark s p) ts >>= λ x. ok x.0.place x.1

-- a keyword: its place
unfoldable pub word_at : Side → Keyword → Parser Place
word_at s k ts = take_at (is_word s k) ts >>= λ x. ok x.0.place x.1

-- the wild pattern: its place
unfoldable pub wild_at : Parser Place
wild_at ts = take_at is_wild ts >>= λ x. ok x.0.place x.1

-- a name with its place
unfoldable pub name_at : Side → Parser Name
name_at s ts = take_at (is_name s) ts >>= λ x. ok (record { text = x.0.text; place = x.0.place }) x.1

-- the number and its type that a kind is
abbrev pub number_of : Kind → Option (ℕ × IntType)
number_of (kinds.Number n t) = Some (n, t)
number_of k = None

-- the byte of the character constant that a kind is
abbrev pub character_of : Kind → Option ℕ
character_of (kinds.Character n) = Some n
character_of k = None

-- the punctuator that a kind is
abbrev pub punctuator_of : Kind → Option Punctuator
punctuator_of (kinds.Punctuator p) = Some p
punctuator_of k = None

-- what a token of a kind of text is, by its kind
abbrev pub told_by : {A : Type 0} → Side → (Kind → Option A) → Token → Option A
told_by s f t = if is_on s t then f t.kind else None

-- what the next token is, by its kind
abbrev pub next_by : {A : Type 0} → Side → (Kind → Option A) → List Token → Option A
next_by s f [] = None
next_by s f (t ∷ ts) = told_by s f t

-- there is something
abbrev pub is_there : {A : Type 0} → Option A → Bool
is_there None = false
is_there (Some x) = true

-- a value that was found in the next token, behind which the rest stands; else a fault with so many tokens left
abbrev pub found_at : {A : Type 0} → Option A → ℕ → List Token → Read A
found_at None n rest = Err (Syntax n)
found_at (Some x) n rest = ok x rest

-- the next token, as a value by its kind
abbrev pub kind_at : {A : Type 0} → Side → (Kind → Option A) → Parser A
kind_at s f [] = Err (Syntax 0)
kind_at s f (t ∷ ts) = found_at (told_by s f t) (suc (length ts)) ts

-- a number and its type
unfoldable pub number_at : Side → Parser (ℕ × IntType)
number_at s ts = kind_at s number_of ts

-- a character constant of real text, by its byte
unfoldable pub character_at : Parser ℕ
character_at ts = kind_at Real character_of ts

-- reads on while the next token passes a test, so many turns at most; a step has what was read so far
abbrev pub many_at : {A : Type 0} → ℕ → (Token → Bool) → (A → Parser A) → A → Parser A
many_at zero more step a ts = ok a ts
many_at (suc n) more step a ts = if head_has more ts then (step a ts >>= λ x. many_at n more step x.0 x.1) else ok a ts

-- reads on while the next token passes a test
abbrev pub many : {A : Type 0} → (Token → Bool) → (A → Parser A) → A → Parser A
many more step a ts = many_at (length ts) more step a ts

-- one more item at the end of a list
abbrev pub item_step : {A : Type 0} → Parser A → List A → Parser (List A)
item_step p xs ts = p ts >>= λ x. ok (xs ++ x.0 ∷ []) x.1

-- no more tokens
unfoldable pub end_at : {A : Type 0} → A → Parser A
end_at a [] = ok a []
end_at a (t ∷ ts) = Err (Syntax (suc (length ts)))
