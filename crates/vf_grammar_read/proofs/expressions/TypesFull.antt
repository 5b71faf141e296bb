-- Types that are spelled are read, where what stands behind does not go on with them.
use Rattle.std.proofs.Common.{◌≡◌, Bool, true, false, ◌&&◌, ◌||◌, List, [], ◌∷◌, Some, refl, sym, subst, ◌∙◌}
use Rattle.std.proofs.lemmas.Bool.{or_parts}
use Rattle.vf_lexer.specs.declared.punctuator.Punctuator.TheVariants as punctuators
use Rattle.vf_lexer.specs.declared.token.Token.{Token}
use Rattle.vf_syntax.specs.declared.keyword.Keyword.{Keyword}
use Rattle.vf_syntax.specs.declared.keyword.Keyword.TheVariants as keywords
use Rattle.vf_syntax.specs.declared.side.Side.{Side}
use Rattle.vf_syntax.specs.declared.written.Sign.{Sign}
use Rattle.vf_syntax.specs.declared.written.Sign.TheVariants as signs
use Rattle.vf_syntax.specs.declared.written.Width.{Width}
use Rattle.vf_syntax.specs.declared.written.Width.TheVariants as widths
use Rattle.vf_syntax.specs.declared.written.IntegerWords.{IntegerWords}
use Rattle.vf_syntax.specs.declared.written.IntegerWords.TheVariants as integers
use Rattle.vf_syntax.specs.declared.written.TypeForm.{TypeForm}
use Rattle.vf_syntax.specs.declared.written.TypeForm.TheVariants as forms
use Rattle.vf_syntax.specs.declared.written.CType.{CType}
use Rattle.vf_syntax.specs.Walks.{head_has, at, is_mark, is_word, word, identifier}
use Rattle.vf_syntax.specs.Written.{name, sign, width, integer, type_form, ctype}
use Rattle.vf_cursor.specs.Parsing.{ok}
use Rattle.vf_cursor.specs.Types.{is_sign, is_width, is_type_word, sign_at, short_at, long_at, long_long_at, width_at, signed_width_at, integer_at, number_type_at, struct_pointer_at, type_form_at, ctype_at, is_int_alone}
use Rattle.vf_grammar_read.proofs.expressions.Same.{no_true}
use Rattle.vf_grammar_read.proofs.expressions.Fronts.{Class, a_mark, a_word, a_name, class_word, class_name, Front, gone, at_stays, mark_front, word_front, identifier_front, identifier_took, mark_took}
use Rattle.vf_grammar_read.proofs.expressions.Taken.{here_read, mark_read, word_read, name_read, identifier_read}

width_words : (s : Side) (ts : List Token) → head_has (is_width s) ts ≡ (head_has (is_word s keywords.Char) ts || head_has (is_word s keywords.Short) ts || head_has (is_word s keywords.Int) ts || head_has (is_word s keywords.Long) ts)
unfolding is_width
width_words s [] = refl
width_words s (t ∷ ts) = refl

sign_words : (s : Side) (ts : List Token) → head_has (is_sign s) ts ≡ (head_has (is_word s keywords.Signed) ts || head_has (is_word s keywords.Unsigned) ts)
unfolding is_sign
sign_words s [] = refl
sign_words s (t ∷ ts) = refl

pub type_words : (s : Side) (ts : List Token) → head_has (is_type_word s) ts ≡ (head_has (is_sign s) ts || head_has (is_width s) ts || head_has (is_word s keywords.Bool) ts || head_has (is_word s keywords.Void) ts || head_has (is_word s keywords.Struct) ts)
unfolding is_type_word
type_words s [] = refl
type_words s (t ∷ ts) = refl

-- a keyword is a word of a width
abbrev width_word : Keyword → Bool
width_word keywords.Char = true
width_word keywords.Short = true
width_word keywords.Int = true
width_word keywords.Long = true
width_word k = false

-- a token is a word of a width
abbrev class_width : Class → Bool
class_width c = class_word c keywords.Char || class_word c keywords.Short || class_word c keywords.Int || class_word c keywords.Long

pub width_of : (s : Side) (c : Class) (ts : List Token) → Front s c ts → head_has (is_width s) ts ≡ class_width c
width_of s c ts f = width_words s ts ∙ (λ i. f.words_are keywords.Char i || f.words_are keywords.Short i || f.words_are keywords.Int i || f.words_are keywords.Long i)

-- a token is a sign
abbrev class_sign : Class → Bool
class_sign c = class_word c keywords.Signed || class_word c keywords.Unsigned

pub sign_of : (s : Side) (c : Class) (ts : List Token) → Front s c ts → head_has (is_sign s) ts ≡ class_sign c
sign_of s c ts f = sign_words s ts ∙ (λ i. f.words_are keywords.Signed i || f.words_are keywords.Unsigned i)

-- a token begins a type and nothing else
abbrev pub class_type : Class → Bool
class_type c = class_sign c || class_width c || class_word c keywords.Bool || class_word c keywords.Void || class_word c keywords.Struct

pub type_word_of : (s : Side) (c : Class) (ts : List Token) → Front s c ts → head_has (is_type_word s) ts ≡ class_type c
type_word_of s c ts f = type_words s ts ∙ (λ i. sign_of s c ts f i || width_of s c ts f i || f.words_are keywords.Bool i || f.words_are keywords.Void i || f.words_are keywords.Struct i)

-- no word of a width stands in front
record Widthless (s : Side) (ts : List Token) : Type 0 where
  no_int : head_has (is_word s keywords.Int) ts ≡ false
  no_long : head_has (is_word s keywords.Long) ts ≡ false

widthless : (s : Side) (ts : List Token) → head_has (is_width s) ts ≡ false → Widthless s ts
widthless s ts h =
    let all = or_parts _ (head_has (is_word s keywords.Long) ts) (sym (width_words s ts) ∙ h) in
    let three = or_parts _ (head_has (is_word s keywords.Int) ts) all.0 in
    record { no_int = three.1; no_long = all.1 }

-- the first word of a width
abbrev first_word : Width → Keyword
first_word widths.Char = keywords.Char
first_word widths.Short = keywords.Short
first_word widths.ShortInt = keywords.Short
first_word widths.Int = keywords.Int
first_word widths.Long = keywords.Long
first_word widths.LongInt = keywords.Long
first_word widths.LongLong = keywords.Long
first_word widths.LongLongInt = keywords.Long

width_front : (s : Side) (w : Width) (ts rest : List Token) → width s w ts ≡ Some rest → Front s (a_word (first_word w)) ts
unfolding width
width_front s widths.Char ts rest h = word_front s keywords.Char ts rest h
width_front s widths.Short ts rest h = word_front s keywords.Short ts rest h
width_front s widths.ShortInt ts rest h = let g = gone (word s keywords.Short ts) h in word_front s keywords.Short ts g.0 g.1
width_front s widths.Int ts rest h = word_front s keywords.Int ts rest h
width_front s widths.Long ts rest h = word_front s keywords.Long ts rest h
width_front s widths.LongInt ts rest h = let g = gone (word s keywords.Long ts) h in word_front s keywords.Long ts g.0 g.1
width_front s widths.LongLong ts rest h = let g = gone (word s keywords.Long ts) h in word_front s keywords.Long ts g.0 g.1
width_front s widths.LongLongInt ts rest h = let g = gone (word s keywords.Long ts) h in word_front s keywords.Long ts g.0 g.1

width_full : (s : Side) (w : Width) (ts rest : List Token) → width s w ts ≡ Some rest → Widthless s rest → width_at s ts ≡ ok w rest
unfolding width width_at short_at long_at long_long_at
width_full s widths.Char ts rest h e =
    let f = word_front s keywords.Char ts rest h in let r = word_read s keywords.Char ts rest h in
    rw (f.words_are keywords.Char, r.1) refl
width_full s widths.Short ts rest h e =
    let f = word_front s keywords.Short ts rest h in let r = word_read s keywords.Short ts rest h in
    rw (f.words_are keywords.Char, f.words_are keywords.Short, r.1, e.no_int) refl
width_full s widths.ShortInt ts rest h e =
    let g = gone (word s keywords.Short ts) h in
    let f = word_front s keywords.Short ts g.0 g.1 in let r = word_read s keywords.Short ts g.0 g.1 in
    let f2 = word_front s keywords.Int g.0 rest g.2 in let r2 = word_read s keywords.Int g.0 rest g.2 in
    rw (f.words_are keywords.Char, f.words_are keywords.Short, r.1, f2.words_are keywords.Int, r2.1) refl
width_full s widths.Int ts rest h e =
    let f = word_front s keywords.Int ts rest h in let r = word_read s keywords.Int ts rest h in
    rw (f.words_are keywords.Char, f.words_are keywords.Short, f.words_are keywords.Long, r.1) refl
width_full s widths.Long ts rest h e =
    let f = word_front s keywords.Long ts rest h in let r = word_read s keywords.Long ts rest h in
    rw (f.words_are keywords.Char, f.words_are keywords.Short, f.words_are keywords.Long, r.1, e.no_int, e.no_long) refl
width_full s widths.LongInt ts rest h e =
    let g = gone (word s keywords.Long ts) h in
    let f = word_front s keywords.Long ts g.0 g.1 in let r = word_read s keywords.Long ts g.0 g.1 in
    let f2 = word_front s keywords.Int g.0 rest g.2 in let r2 = word_read s keywords.Int g.0 rest g.2 in
    rw (f.words_are keywords.Char, f.words_are keywords.Short, f.words_are keywords.Long, r.1, f2.words_are keywords.Int, r2.1) refl
width_full s widths.LongLong ts rest h e =
    let g = gone (word s keywords.Long ts) h in
    let f = word_front s keywords.Long ts g.0 g.1 in let r = word_read s keywords.Long ts g.0 g.1 in
    let f2 = word_front s keywords.Long g.0 rest g.2 in let r2 = word_read s keywords.Long g.0 rest g.2 in
    rw (f.words_are keywords.Char, f.words_are keywords.Short, f.words_are keywords.Long, r.1, f2.words_are keywords.Int, f2.words_are keywords.Long, r2.1, e.no_int) refl
width_full s widths.LongLongInt ts rest h e =
    let g = gone (word s keywords.Long ts) h in
    let g2 = gone (word s keywords.Long g.0) g.2 in
    let f = word_front s keywords.Long ts g.0 g.1 in let r = word_read s keywords.Long ts g.0 g.1 in
    let f2 = word_front s keywords.Long g.0 g2.0 g2.1 in let r2 = word_read s keywords.Long g.0 g2.0 g2.1 in
    let f3 = word_front s keywords.Int g2.0 rest g2.2 in let r3 = word_read s keywords.Int g2.0 rest g2.2 in
    rw (f.words_are keywords.Char, f.words_are keywords.Short, f.words_are keywords.Long, r.1, f2.words_are keywords.Int, f2.words_are keywords.Long, r2.1, f3.words_are keywords.Int, r3.1) refl

-- how a sign is written
abbrev sign_word : Sign → Keyword
sign_word signs.Signed = keywords.Signed
sign_word signs.Unsigned = keywords.Unsigned

sign_front : (s : Side) (g : Sign) (ts rest : List Token) → sign s g ts ≡ Some rest → Front s (a_word (sign_word g)) ts
unfolding sign
sign_front s signs.Signed ts rest h = word_front s keywords.Signed ts rest h
sign_front s signs.Unsigned ts rest h = word_front s keywords.Unsigned ts rest h

sign_full : (s : Side) (g : Sign) (ts rest : List Token) → sign s g ts ≡ Some rest → sign_at s ts ≡ ok g rest
unfolding sign sign_at
sign_full s signs.Signed ts rest h =
    let f = word_front s keywords.Signed ts rest h in let r = word_read s keywords.Signed ts rest h in
    rw (f.words_are keywords.Signed, r.1) refl
sign_full s signs.Unsigned ts rest h =
    let f = word_front s keywords.Unsigned ts rest h in let r = word_read s keywords.Unsigned ts rest h in
    rw (f.words_are keywords.Signed, r.1) refl

-- a keyword is one of an integer type
abbrev pub number_word : Keyword → Bool
number_word keywords.Signed = true
number_word keywords.Unsigned = true
number_word keywords.Char = true
number_word keywords.Short = true
number_word keywords.Int = true
number_word keywords.Long = true
number_word k = false

width_number : (w : Width) → number_word (first_word w) ≡ true
width_number widths.Char = refl
width_number widths.Short = refl
width_number widths.ShortInt = refl
width_number widths.Int = refl
width_number widths.Long = refl
width_number widths.LongInt = refl
width_number widths.LongLong = refl
width_number widths.LongLongInt = refl

width_signless : (w : Width) → class_sign (a_word (first_word w)) ≡ false
width_signless widths.Char = refl
width_signless widths.Short = refl
width_signless widths.ShortInt = refl
width_signless widths.Int = refl
width_signless widths.Long = refl
width_signless widths.LongInt = refl
width_signless widths.LongLong = refl
width_signless widths.LongLongInt = refl

width_wide : (w : Width) → class_width (a_word (first_word w)) ≡ true
width_wide widths.Char = refl
width_wide widths.Short = refl
width_wide widths.ShortInt = refl
width_wide widths.Int = refl
width_wide widths.Long = refl
width_wide widths.LongInt = refl
width_wide widths.LongLong = refl
width_wide widths.LongLongInt = refl

sign_number : (g : Sign) → number_word (sign_word g) ≡ true
sign_number signs.Signed = refl
sign_number signs.Unsigned = refl

sign_signs : (g : Sign) → class_sign (a_word (sign_word g)) ≡ true
sign_signs signs.Signed = refl
sign_signs signs.Unsigned = refl

-- an integer type begins with one of its words
pub integer_front : (s : Side) (w : IntegerWords) (ts rest : List Token) → integer s w ts ≡ Some rest → (k : Keyword) × Front s (a_word k) ts × (number_word k ≡ true)
unfolding integer
integer_front s (integers.Sign g) ts rest h = (sign_word g, sign_front s g ts rest h, sign_number g)
integer_front s (integers.Width w) ts rest h = (first_word w, width_front s w ts rest h, width_number w)
integer_front s (integers.Both g w) ts rest h = let m = gone (sign s g ts) h in (sign_word g, sign_front s g ts m.0 m.1, sign_number g)

integer_full : (s : Side) (w : IntegerWords) (ts rest : List Token) → integer s w ts ≡ Some rest → head_has (is_width s) rest ≡ false → integer_at s ts ≡ ok w rest
unfolding integer integer_at signed_width_at
integer_full s (integers.Sign g) ts rest h e =
    let seen = sign_of s _ ts (sign_front s g ts rest h) ∙ sign_signs g in
    rw (seen, sign_full s g ts rest h, e) refl
integer_full s (integers.Width w) ts rest h e =
    let seen = sign_of s _ ts (width_front s w ts rest h) ∙ width_signless w in
    rw (seen, width_full s w ts rest h (widthless s rest e)) refl
integer_full s (integers.Both g w) ts rest h e =
    let m = gone (sign s g ts) h in
    let seen = sign_of s _ ts (sign_front s g ts m.0 m.1) ∙ sign_signs g in
    let wide = width_of s _ m.0 (width_front s w m.0 rest m.2) ∙ width_wide w in
    rw (seen, sign_full s g ts m.0 m.1, wide, width_full s w m.0 rest m.2 (widthless s rest e)) refl

-- what stands behind does not go on with a type
pub record Ends (s : Side) (rest : List Token) : Type 0 where
  pub no_width : head_has (is_width s) rest ≡ false
  pub no_star : head_has (is_mark s punctuators.Star) rest ≡ false

-- a word of an integer type is no other word
record Others (k : Keyword) : Type 0 where
  no_bool : class_word (a_word k) keywords.Bool ≡ false
  no_void : class_word (a_word k) keywords.Void ≡ false
  no_struct : class_word (a_word k) keywords.Struct ≡ false
  no_name : class_name (a_word k) ≡ false
  a_type : class_type (a_word k) ≡ true

others : (k : Keyword) → number_word k ≡ true → Others k
others keywords.Signed h = record { no_bool = refl; no_void = refl; no_struct = refl; no_name = refl; a_type = refl }
others keywords.Unsigned h = record { no_bool = refl; no_void = refl; no_struct = refl; no_name = refl; a_type = refl }
others keywords.Char h = record { no_bool = refl; no_void = refl; no_struct = refl; no_name = refl; a_type = refl }
others keywords.Short h = record { no_bool = refl; no_void = refl; no_struct = refl; no_name = refl; a_type = refl }
others keywords.Int h = record { no_bool = refl; no_void = refl; no_struct = refl; no_name = refl; a_type = refl }
others keywords.Long h = record { no_bool = refl; no_void = refl; no_struct = refl; no_name = refl; a_type = refl }
others k h = no_true h

no_pointer : (b c : Bool) → c ≡ false → (b && c) ≡ false
no_pointer true c h = h
no_pointer false c h = refl

int_full : (s : Side) (ts rest : List Token) → word s keywords.Int ts ≡ Some rest → head_has (is_width s) rest ≡ false → integer_at s ts ≡ ok (integers.Width widths.Int) rest
unfolding integer width
int_full s ts rest h e = integer_full s (integers.Width widths.Int) ts rest h e

type_form_full : (s : Side) (f : TypeForm) (ts rest : List Token) → type_form s f ts ≡ Some rest → Ends s rest → type_form_at s ts ≡ ok f rest
unfolding type_form type_form_at number_type_at struct_pointer_at
type_form_full s (forms.Integer w) ts rest h e =
    let n = integer_front s w ts rest h in
    let f = n.1 in
    let o = others n.0 n.2 in
    rw (f.words_are keywords.Bool ∙ o.no_bool, f.words_are keywords.Void ∙ o.no_void, f.words_are keywords.Struct ∙ o.no_struct, f.names_are ∙ o.no_name, integer_full s w ts rest h e.no_width, no_pointer (is_int_alone w) _ e.no_star) refl
type_form_full s forms.Bool ts rest h e =
    let f = word_front s keywords.Bool ts rest h in let r = word_read s keywords.Bool ts rest h in
    rw (f.words_are keywords.Bool, r.1) refl
type_form_full s forms.VoidPointer ts rest h e =
    let g = gone (word s keywords.Void ts) h in
    let f = word_front s keywords.Void ts g.0 g.1 in let r = word_read s keywords.Void ts g.0 g.1 in
    let m = mark_read s punctuators.Star g.0 rest g.2 in
    rw (f.words_are keywords.Bool, f.words_are keywords.Void, r.1, m.1) refl
type_form_full s forms.IntPointer ts rest h e =
    let g = gone (word s keywords.Int ts) h in
    let f = word_front s keywords.Int ts g.0 g.1 in
    let star = mark_front s punctuators.Star g.0 rest g.2 in
    let m = mark_read s punctuators.Star g.0 rest g.2 in
    let int : integer_at s ts ≡ ok (integers.Width widths.Int) g.0 = int_full s ts g.0 g.1 (width_of s _ g.0 star) in
    rw (f.words_are keywords.Bool, f.words_are keywords.Void, f.words_are keywords.Struct, f.names_are, int, star.marks_are punctuators.Star, m.1) refl
type_form_full s (forms.StructPointer n) ts rest h e =
    let g = gone (word s keywords.Struct ts) h in
    let k = gone (name s n g.0) g.2 in
    let f = word_front s keywords.Struct ts g.0 g.1 in let r = word_read s keywords.Struct ts g.0 g.1 in
    let m = mark_read s punctuators.Star k.0 rest k.2 in
    rw (f.words_are keywords.Bool, f.words_are keywords.Void, f.words_are keywords.Struct, r.1, name_read s n g.0 k.0 k.1, m.1) refl
type_form_full s (forms.NamedPointer x) ts rest h e =
    let g = gone (identifier s x ts) h in
    let f = identifier_front s x ts g.0 g.1 in let r = identifier_read s x ts g.0 g.1 in
    let m = mark_read s punctuators.Star g.0 rest g.2 in
    rw (f.words_are keywords.Bool, f.words_are keywords.Void, f.words_are keywords.Struct, f.names_are, r.1, m.1) refl

pub ctype_full : (s : Side) (t : CType) (ts rest : List Token) → ctype s t ts ≡ Some rest → Ends s rest → ctype_at s ts ≡ ok t rest
unfolding ctype ctype_at
ctype_full s t ts rest h e =
    let g = gone (at t.place ts) h in
    rw (here_read t.place ts g.0 g.1, type_form_full s t.form g.0 rest g.2 e) refl

-- what a type begins with
pub data Typed (s : Side) (ts rest : List Token) : Type 0 where
  by_word : (k : Keyword) → Front s (a_word k) ts → class_type (a_word k) ≡ true → Typed s ts rest
  by_name : (mid : List Token) (t u : Token) → Front s a_name ts → Front s (a_mark punctuators.Star) mid → ts ≡ t ∷ mid → mid ≡ u ∷ rest → Typed s ts rest

type_form_begins : (s : Side) (f : TypeForm) (ts rest : List Token) → type_form s f ts ≡ Some rest → Typed s ts rest
unfolding type_form
type_form_begins s (forms.Integer w) ts rest h = let n = integer_front s w ts rest h in by_word n.0 n.1 ((others n.0 n.2).a_type)
type_form_begins s forms.Bool ts rest h = by_word keywords.Bool (word_front s keywords.Bool ts rest h) refl
type_form_begins s forms.VoidPointer ts rest h = let g = gone (word s keywords.Void ts) h in by_word keywords.Void (word_front s keywords.Void ts g.0 g.1) refl
type_form_begins s forms.IntPointer ts rest h = let g = gone (word s keywords.Int ts) h in by_word keywords.Int (word_front s keywords.Int ts g.0 g.1) refl
type_form_begins s (forms.StructPointer n) ts rest h = let g = gone (word s keywords.Struct ts) h in by_word keywords.Struct (word_front s keywords.Struct ts g.0 g.1) refl
type_form_begins s (forms.NamedPointer x) ts rest h =
    let g = gone (identifier s x ts) h in
    let a = identifier_took s x ts g.0 g.1 in
    let b = mark_took s punctuators.Star g.0 rest g.2 in
    by_name g.0 a.token b.token (identifier_front s x ts g.0 g.1) (mark_front s punctuators.Star g.0 rest g.2) a.parts b.parts

pub ctype_begins : (s : Side) (t : CType) (ts rest : List Token) → ctype s t ts ≡ Some rest → Typed s ts rest
unfolding ctype
ctype_begins s t ts rest h =
    let g = gone (at t.place ts) h in
    subst (λ us. Typed s us rest) (sym (at_stays t.place ts g.0 g.1)) (type_form_begins s t.form g.0 rest g.2)
