-- The parser of types stops alike on tokens that are alike.
use Rattle.std.proofs.Common.{◌≡◌, ℕ, Bool, true, false, List, Some, Err, sym, ◌∙◌}
use Rattle.vf_lexer.specs.declared.punctuator.Punctuator.TheVariants as punctuators
use Rattle.vf_lexer.specs.declared.token.Token.{Token}
use Rattle.vf_syntax.specs.declared.keyword.Keyword.TheVariants as keywords
use Rattle.vf_syntax.specs.declared.side.Side.{Side}
use Rattle.vf_syntax.specs.declared.written.Sign.{Sign}
use Rattle.vf_syntax.specs.declared.written.Sign.TheVariants as signs
use Rattle.vf_syntax.specs.declared.written.Width.TheVariants as widths
use Rattle.vf_syntax.specs.declared.written.IntegerWords.TheVariants as integers
use Rattle.vf_syntax.specs.declared.written.TypeForm.TheVariants as forms
use Rattle.vf_syntax.specs.declared.written.CType.{CType}
use Rattle.vf_syntax.specs.Walks.{head_has, is_mark, is_word, is_name}
use Rattle.vf_syntax.specs.Written.{ctype}
use Rattle.vf_cursor.specs.declared.fault.Fault.TheVariants.{Syntax}
use Rattle.vf_cursor.specs.Parsing.{ok, here_at, mark_at, word_at, name_at}
use Rattle.vf_cursor.specs.Types.{is_sign, is_width, sign_at, short_at, long_at, long_long_at, width_at, signed_width_at, integer_at, number_type_at, struct_pointer_at, type_form_at, ctype_at, is_int_alone}
use Rattle.vf_grammar_read.proofs.expressions.TypesFull.{ctype_full}
use Rattle.vf_grammar_stops.specs.types.Stops.{BeginsUpTo}
use Rattle.vf_grammar_stops.proofs.types.Local.{Does, then_like, done_like, here_like, mark_like, word_like, name_like, choice_like, both_like, stops_too}

sign_like : {b : Bool} (s : Side) → Does b (sign_at s) (sign_at s)
unfolding sign_at
sign_like s = choice_like (is_word s keywords.Signed) (then_like (word_like s keywords.Signed) (λ x. done_like signs.Signed)) (then_like (word_like s keywords.Unsigned) (λ x. done_like signs.Unsigned))

short_like : {b : Bool} (s : Side) → Does b (short_at s) (short_at s)
unfolding short_at
short_like s = choice_like (is_word s keywords.Int) (then_like (word_like s keywords.Int) (λ x. done_like widths.ShortInt)) (done_like widths.Short)

long_long_like : {b : Bool} (s : Side) → Does b (long_long_at s) (long_long_at s)
unfolding long_long_at
long_long_like s = choice_like (is_word s keywords.Int) (then_like (word_like s keywords.Int) (λ x. done_like widths.LongLongInt)) (done_like widths.LongLong)

long_like : {b : Bool} (s : Side) → Does b (long_at s) (long_at s)
unfolding long_at
long_like s = choice_like (is_word s keywords.Int) (then_like (word_like s keywords.Int) (λ x. done_like widths.LongInt)) (choice_like (is_word s keywords.Long) (then_like (word_like s keywords.Long) (λ x. long_long_like s)) (done_like widths.Long))

width_like : {b : Bool} (s : Side) → Does b (width_at s) (width_at s)
unfolding width_at
width_like s = choice_like (is_word s keywords.Char) (then_like (word_like s keywords.Char) (λ x. done_like widths.Char))
    (choice_like (is_word s keywords.Short) (then_like (word_like s keywords.Short) (λ x. short_like s))
    (choice_like (is_word s keywords.Long) (then_like (word_like s keywords.Long) (λ x. long_like s))
    (then_like (word_like s keywords.Int) (λ x. done_like widths.Int))))

signed_width_like : {b : Bool} (s : Side) (g : Sign) → Does b (signed_width_at s g) (signed_width_at s g)
unfolding signed_width_at
signed_width_like s g = choice_like (is_width s) (then_like (width_like s) (λ w. done_like (integers.Both g w))) (done_like (integers.Sign g))

integer_like : {b : Bool} (s : Side) → Does b (integer_at s) (integer_at s)
unfolding integer_at
integer_like s = choice_like (is_sign s) (then_like (sign_like s) (λ g. signed_width_like s g)) (then_like (width_like s) (λ w. done_like (integers.Width w)))

number_type_like : {b : Bool} (s : Side) → Does b (number_type_at s) (number_type_at s)
unfolding number_type_at
number_type_like s = then_like (integer_like s) (λ w. both_like (is_int_alone w) (is_mark s punctuators.Star) (then_like (mark_like s punctuators.Star) (λ x. done_like forms.IntPointer)) (done_like (forms.Integer w)))

struct_pointer_like : {b : Bool} (s : Side) → Does b (struct_pointer_at s) (struct_pointer_at s)
unfolding struct_pointer_at
struct_pointer_like s = then_like (name_like s) (λ n. then_like (mark_like s punctuators.Star) (λ x. done_like (forms.StructPointer n)))

type_form_like : {b : Bool} (s : Side) → Does b (type_form_at s) (type_form_at s)
unfolding type_form_at
type_form_like s = choice_like (is_word s keywords.Bool) (then_like (word_like s keywords.Bool) (λ x. done_like forms.Bool))
    (choice_like (is_word s keywords.Void) (then_like (word_like s keywords.Void) (λ x. then_like (mark_like s punctuators.Star) (λ y. done_like forms.VoidPointer)))
    (choice_like (is_word s keywords.Struct) (then_like (word_like s keywords.Struct) (λ x. struct_pointer_like s))
    (choice_like (is_name s) (then_like (name_like s) (λ n. then_like (mark_like s punctuators.Star) (λ x. done_like (forms.NamedPointer n.text))))
    (number_type_like s))))

pub ctype_like : {b : Bool} (s : Side) → Does b (ctype_at s) (ctype_at s)
unfolding ctype_at
ctype_like s = then_like here_like (λ p. then_like (type_form_like s) (λ f. done_like (record { place = p; form = f })))

apart : (t : CType) (rest : List Token) (m : ℕ) → ok t rest ≡ Err (Syntax m) → ⊥
apart t rest m e = cc

pub types_stop : (s : Side) (ts other rest : List Token) (n : ℕ) (t : CType) → ctype_at s ts ≡ Err (Syntax n) → BeginsUpTo ts n other → ctype s t other ≡ Some rest → head_has (is_width s) rest ≡ false → head_has (is_mark s punctuators.Star) rest ≡ false → ⊥
types_stop s ts other rest n t e begins h wide star =
    let stop = stops_too {b = false} (ctype_like {b = false} s) (Syntax n) tt ts other e begins in
    let read = ctype_full s t other rest h (record { no_width = wide; no_star = star }) in
    apart t rest stop.0 (sym read ∙ stop.1)
