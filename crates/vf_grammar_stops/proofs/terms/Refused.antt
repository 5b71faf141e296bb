-- What can't begin something is refused at once.
use Rattle.std.proofs.Common.{◌≡◌, false, List, [], ◌∷◌, Option, Some, None, refl}
use Rattle.std.proofs.lemmas.Bool.{or_parts}
use Rattle.vf_base.specs.declared.place.Place.{Place}
use Rattle.vf_lexer.specs.declared.punctuator.Punctuator.{Punctuator}
use Rattle.vf_lexer.specs.declared.token.Kind.{Kind}
use Rattle.vf_lexer.specs.declared.token.Token.{Token}
use Rattle.vf_syntax.specs.declared.keyword.Keyword.{Keyword}
use Rattle.vf_syntax.specs.declared.keyword.Keyword.TheVariants as keywords
use Rattle.vf_syntax.specs.declared.side.Side.{Side}
use Rattle.vf_syntax.specs.Walks.{head_has, is_mark, is_word, is_name}
use Rattle.vf_cursor.specs.Parsing.{Parser, ◌>>=◌, here_at, mark_at, word_at, name_at, told_by, next_by, kind_at, is_there}
use Rattle.vf_cursor.specs.Types.{is_sign, is_width, is_type_word, width_at, integer_at, number_type_at, type_form_at, ctype_at}
use Rattle.vf_grammar_stops.proofs.expressions.Refused.{Refuses}

pub mark_refuses : (s : Side) (m : Punctuator) (ts : List Token) → head_has (is_mark s m) ts ≡ false → Refuses (mark_at s m) ts
unfolding mark_at
mark_refuses s m [] h = refl
mark_refuses s m (t ∷ ts) h = rw h refl

pub word_refuses : (s : Side) (k : Keyword) (ts : List Token) → head_has (is_word s k) ts ≡ false → Refuses (word_at s k) ts
unfolding word_at
word_refuses s k [] h = refl
word_refuses s k (t ∷ ts) h = rw h refl

pub name_refuses : (s : Side) (ts : List Token) → head_has (is_name s) ts ≡ false → Refuses (name_at s) ts
unfolding name_at
name_refuses s [] h = refl
name_refuses s (t ∷ ts) h = rw h refl

pub none_of : {A : Type 0} (o : Option A) → is_there o ≡ false → o ≡ None
none_of None h = refl
none_of (Some x) h = absurd cc

pub kind_refuses : {A : Type 0} (s : Side) (f : Kind → Option A) (ts : List Token) → is_there (next_by s f ts) ≡ false → Refuses (kind_at s f) ts
kind_refuses s f [] h = refl
kind_refuses s f (t ∷ ts) h = rw (none_of (told_by s f t) h) refl

-- what is read at the place of the next token
pub at_here_refuses : {A : Type 0} (p : Place → Parser A) (ts : List Token) → ((h : Place) → Refuses (p h) ts) → Refuses (λ us. here_at us >>= λ h. p h.0 h.1) ts
unfolding here_at
at_here_refuses p [] e = refl
at_here_refuses p (t ∷ ts) e = e t.place

-- the tests of what begins a type, each failed
record Untyped (s : Side) (ts : List Token) : Type 0 where
  sign : head_has (is_sign s) ts ≡ false
  char : head_has (is_word s keywords.Char) ts ≡ false
  short : head_has (is_word s keywords.Short) ts ≡ false
  int : head_has (is_word s keywords.Int) ts ≡ false
  long : head_has (is_word s keywords.Long) ts ≡ false
  bool : head_has (is_word s keywords.Bool) ts ≡ false
  void : head_has (is_word s keywords.Void) ts ≡ false
  structure : head_has (is_word s keywords.Struct) ts ≡ false

untyped : (s : Side) (ts : List Token) → head_has (is_type_word s) ts ≡ false → Untyped s ts
unfolding is_type_word is_width
untyped s [] h = record { sign = refl; char = refl; short = refl; int = refl; long = refl; bool = refl; void = refl; structure = refl }
untyped s (t ∷ ts) h =
    let a = or_parts _ (is_word s keywords.Struct t) h in
    let b = or_parts _ (is_word s keywords.Void t) a.0 in
    let c = or_parts _ (is_word s keywords.Bool t) b.0 in
    let d = or_parts (is_sign s t) _ c.0 in
    let e = or_parts _ (is_word s keywords.Long t) d.1 in
    let f = or_parts _ (is_word s keywords.Int t) e.0 in
    let g = or_parts (is_word s keywords.Char t) _ f.0 in
    record { sign = d.0; char = g.0; short = g.1; int = f.1; long = e.1; bool = c.1; void = b.1; structure = a.1 }

width_refuses : (s : Side) (ts : List Token) → Untyped s ts → Refuses (width_at s) ts
unfolding width_at
width_refuses s ts u = rw (u.char, u.short, u.long, word_refuses s keywords.Int ts u.int) refl

number_type_refuses : (s : Side) (ts : List Token) → Untyped s ts → Refuses (number_type_at s) ts
unfolding number_type_at integer_at
number_type_refuses s ts u = rw (u.sign, width_refuses s ts u) refl

form_refuses : (s : Side) (ts : List Token) → Untyped s ts → head_has (is_name s) ts ≡ false → Refuses (type_form_at s) ts
unfolding type_form_at
form_refuses s ts u n = rw (u.bool, u.void, u.structure, n) (number_type_refuses s ts u)

type_refuses : (s : Side) (ts : List Token) → Untyped s ts → head_has (is_name s) ts ≡ false → Refuses (ctype_at s) ts
unfolding ctype_at here_at
type_refuses s [] u n = refl
type_refuses s (t ∷ ts) u n = rw (form_refuses s (t ∷ ts) u n) refl

-- neither a word of a type nor a name begins a type
pub ctype_refuses : (s : Side) (ts : List Token) → head_has (is_type_word s) ts ≡ false → head_has (is_name s) ts ≡ false → Refuses (ctype_at s) ts
ctype_refuses s ts h n = type_refuses s ts (untyped s ts h) n
