-- Parsers of types and operators.
use Rattle.std.specs.Prelude.{ℕ, Bool, true, false, ◌&&◌, ◌||◌, List, [], ◌∷◌, Option, Some, None, Ok, Err, if◌then◌else◌, nat_eq}
use Rattle.vf_base.specs.declared.place.Place.{Place}
use Rattle.vf_lexer.specs.declared.punctuator.Punctuator.{Punctuator}
use Rattle.vf_lexer.specs.declared.punctuator.Punctuator.TheVariants as punctuators
use Rattle.vf_lexer.specs.declared.token.Token.{Token}
use Rattle.vf_syntax.specs.declared.keyword.Keyword.TheVariants as keywords
use Rattle.vf_syntax.specs.declared.side.Side.{Side}
use Rattle.vf_syntax.specs.declared.side.Side.TheVariants.{Real}
use Rattle.vf_syntax.specs.declared.operator.UnaryOperator.{UnaryOperator}
use Rattle.vf_syntax.specs.declared.operator.BinaryOperator.{BinaryOperator}
use Rattle.vf_syntax.specs.declared.operator.Level.{Level}
use Rattle.vf_syntax.specs.declared.operator.AssignmentOperator.{AssignmentOperator}
use Rattle.vf_syntax.specs.declared.operator.StepOperator.{StepOperator}
use Rattle.vf_syntax.specs.declared.written.Name.{Name}
use Rattle.vf_syntax.specs.declared.written.Sign.{Sign}
use Rattle.vf_syntax.specs.declared.written.Sign.TheVariants as signs
use Rattle.vf_syntax.specs.declared.written.Width.{Width}
use Rattle.vf_syntax.specs.declared.written.Width.TheVariants as widths
use Rattle.vf_syntax.specs.declared.written.IntegerWords.{IntegerWords}
use Rattle.vf_syntax.specs.declared.written.IntegerWords.TheVariants as integers
use Rattle.vf_syntax.specs.declared.written.TypeForm.{TypeForm}
use Rattle.vf_syntax.specs.declared.written.TypeForm.TheVariants as forms
use Rattle.vf_syntax.specs.declared.written.CType.{CType}
use Rattle.vf_syntax.specs.Walks.{head_has, is_mark, is_word, is_name}
use Rattle.vf_syntax.specs.Written.{unary_of, binary_of, assignment_of, step_of, level_of, looseness}
use Rattle.vf_cursor.specs.Parsing.{Parser, ok, ◌>>=◌, here_at, mark_at, word_at, name_at, next_by, punctuator_of}

-- `signed` or `unsigned`
unfoldable pub is_sign : Side → Token → Bool
is_sign s t = is_word s keywords.Signed t || is_word s keywords.Unsigned t

-- a word of a width
unfoldable pub is_width : Side → Token → Bool
is_width s t = is_word s keywords.Char t || is_word s keywords.Short t || is_word s keywords.Int t || is_word s keywords.Long t

-- a word that begins a type and nothing else
unfoldable pub is_type_word : Side → Token → Bool
is_type_word s t = is_sign s t || is_width s t || is_word s keywords.Bool t || is_word s keywords.Void t || is_word s keywords.Struct t

-- a sign of an integer type
unfoldable pub sign_at : Side → Parser Sign
sign_at s ts = if head_has (is_word s keywords.Signed) ts then (word_at s keywords.Signed ts >>= λ x. ok signs.Signed x.1) else (word_at s keywords.Unsigned ts >>= λ x. ok signs.Unsigned x.1)

-- the words behind `short`
unfoldable pub short_at : Side → Parser Width
short_at s ts = if head_has (is_word s keywords.Int) ts then (word_at s keywords.Int ts >>= λ x. ok widths.ShortInt x.1) else ok widths.Short ts

-- the words behind `long long`
unfoldable pub long_long_at : Side → Parser Width
long_long_at s ts = if head_has (is_word s keywords.Int) ts then (word_at s keywords.Int ts >>= λ x. ok widths.LongLongInt x.1) else ok widths.LongLong ts

-- the words behind `long`
unfoldable pub long_at : Side → Parser Width
long_at s ts = if head_has (is_word s keywords.Int) ts then (word_at s keywords.Int ts >>= λ x. ok widths.LongInt x.1)
    else (if head_has (is_word s keywords.Long) ts then (word_at s keywords.Long ts >>= λ x. long_long_at s x.1) else ok widths.Long ts)

-- the words of a width
unfoldable pub width_at : Side → Parser Width
width_at s ts = if head_has (is_word s keywords.Char) ts then (word_at s keywords.Char ts >>= λ x. ok widths.Char x.1)
    else (if head_has (is_word s keywords.Short) ts then (word_at s keywords.Short ts >>= λ x. short_at s x.1)
    else (if head_has (is_word s keywords.Long) ts then (word_at s keywords.Long ts >>= λ x. long_at s x.1)
    else (word_at s keywords.Int ts >>= λ x. ok widths.Int x.1)))

-- the words of an integer type behind its sign
unfoldable pub signed_width_at : Side → Sign → Parser IntegerWords
signed_width_at s g ts = if head_has (is_width s) ts then (width_at s ts >>= λ w. ok (integers.Both g w.0) w.1) else ok (integers.Sign g) ts

-- the words of an integer type
unfoldable pub integer_at : Side → Parser IntegerWords
integer_at s ts = if head_has (is_sign s) ts then (sign_at s ts >>= λ g. signed_width_at s g.0 g.1) else (width_at s ts >>= λ w. ok (integers.Width w.0) w.1)

-- words are `int` alone
abbrev pub is_int_alone : IntegerWords → Bool
is_int_alone (integers.Width widths.Int) = true
is_int_alone w = false

-- an integer type, or a pointer to `int`
unfoldable pub number_type_at : Side → Parser TypeForm
number_type_at s ts = integer_at s ts >>= λ w. if is_int_alone w.0 && head_has (is_mark s punctuators.Star) w.1 then (mark_at s punctuators.Star w.1 >>= λ x. ok forms.IntPointer x.1) else ok (forms.Integer w.0) w.1

-- a `struct` pointer, behind its first word
unfoldable pub struct_pointer_at : Side → Parser TypeForm
struct_pointer_at s ts = name_at s ts >>= λ n. mark_at s punctuators.Star n.1 >>= λ x. ok (forms.StructPointer n.0) x.1

-- a form of type
unfoldable pub type_form_at : Side → Parser TypeForm
type_form_at s ts = if head_has (is_word s keywords.Bool) ts then (word_at s keywords.Bool ts >>= λ x. ok forms.Bool x.1)
    else (if head_has (is_word s keywords.Void) ts then (word_at s keywords.Void ts >>= λ x. mark_at s punctuators.Star x.1 >>= λ y. ok forms.VoidPointer y.1)
    else (if head_has (is_word s keywords.Struct) ts then (word_at s keywords.Struct ts >>= λ x. struct_pointer_at s x.1)
    else (if head_has (is_name s) ts then (name_at s ts >>= λ n. mark_at s punctuators.Star n.1 >>= λ x. ok (forms.NamedPointer n.0.text) x.1)
    else number_type_at s ts)))

-- a type with its place
unfoldable pub ctype_at : Side → Parser CType
ctype_at s ts = here_at ts >>= λ p. type_form_at s p.1 >>= λ f. ok (record { place = p.0; form = f.0 }) f.1

-- the punctuator that comes next
abbrev pub next_mark : Side → List Token → Option Punctuator
next_mark s ts = next_by s punctuator_of ts

-- goes on with what was found
abbrev pub found_then : {A B : Type 0} → Option A → (A → Option B) → Option B
found_then None f = None
found_then (Some x) f = f x

-- an operator where it is of a level
abbrev pub on_level : Level → BinaryOperator → Option BinaryOperator
on_level l o = if nat_eq (looseness (level_of o)) (looseness l) then Some o else None

-- the operator of a level that comes next
unfoldable pub next_on : Side → Level → List Token → Option BinaryOperator
next_on s l ts = found_then (found_then (next_mark s ts) binary_of) (on_level l)

-- the operator in front of an operand that comes next
unfoldable pub next_unary : Side → List Token → Option UnaryOperator
next_unary s ts = found_then (next_mark s ts) unary_of

-- the operator of an assignment that comes next
unfoldable pub next_assignment : List Token → Option AssignmentOperator
next_assignment ts = found_then (next_mark Real ts) assignment_of

-- the `++` or `--` that comes next
unfoldable pub next_step : List Token → Option StepOperator
next_step ts = found_then (next_mark Real ts) step_of
