-- Nothing in a type nests.
use Rattle.std.proofs.Common.{ℕ, ◌&&◌}
use Rattle.vf_lexer.specs.declared.punctuator.Punctuator.TheVariants as punctuators
use Rattle.vf_syntax.specs.declared.keyword.Keyword.TheVariants as keywords
use Rattle.vf_syntax.specs.declared.side.Side.{Side}
use Rattle.vf_syntax.specs.declared.written.Sign.{Sign}
use Rattle.vf_syntax.specs.declared.written.Sign.TheVariants as signs
use Rattle.vf_syntax.specs.declared.written.Width.TheVariants as widths
use Rattle.vf_syntax.specs.declared.written.IntegerWords.TheVariants as integers
use Rattle.vf_syntax.specs.declared.written.TypeForm.TheVariants as forms
use Rattle.vf_syntax.specs.Walks.{head_has, is_mark, is_word, is_name}
use Rattle.vf_cursor.specs.Types.{is_sign, is_width, sign_at, short_at, long_at, long_long_at, width_at, signed_width_at, integer_at, number_type_at, struct_pointer_at, type_form_at, ctype_at, is_int_alone}
use Rattle.vf_grammar_depth.proofs.expressions.Deeper.{Deeper, then_deep, done_deep, here_deep, mark_deep, word_deep, name_deep, choice_deep, head_deep}

sign_deep : {j : ℕ} (s : Side) → Deeper j (sign_at s) (sign_at s)
unfolding sign_at
sign_deep s = head_deep (is_word s keywords.Signed) (then_deep (word_deep s keywords.Signed) (λ x. done_deep signs.Signed)) (then_deep (word_deep s keywords.Unsigned) (λ x. done_deep signs.Unsigned))

pub short_deep : {j : ℕ} (s : Side) → Deeper j (short_at s) (short_at s)
unfolding short_at
short_deep s = head_deep (is_word s keywords.Int) (then_deep (word_deep s keywords.Int) (λ x. done_deep widths.ShortInt)) (done_deep widths.Short)

long_long_deep : {j : ℕ} (s : Side) → Deeper j (long_long_at s) (long_long_at s)
unfolding long_long_at
long_long_deep s = head_deep (is_word s keywords.Int) (then_deep (word_deep s keywords.Int) (λ x. done_deep widths.LongLongInt)) (done_deep widths.LongLong)

pub long_deep : {j : ℕ} (s : Side) → Deeper j (long_at s) (long_at s)
unfolding long_at
long_deep s = head_deep (is_word s keywords.Int) (then_deep (word_deep s keywords.Int) (λ x. done_deep widths.LongInt)) (head_deep (is_word s keywords.Long) (then_deep (word_deep s keywords.Long) (λ x. long_long_deep s)) (done_deep widths.Long))

pub width_deep : {j : ℕ} (s : Side) → Deeper j (width_at s) (width_at s)
unfolding width_at
width_deep s = head_deep (is_word s keywords.Char) (then_deep (word_deep s keywords.Char) (λ x. done_deep widths.Char))
    (head_deep (is_word s keywords.Short) (then_deep (word_deep s keywords.Short) (λ x. short_deep s))
    (head_deep (is_word s keywords.Long) (then_deep (word_deep s keywords.Long) (λ x. long_deep s))
    (then_deep (word_deep s keywords.Int) (λ x. done_deep widths.Int))))

pub signed_width_deep : {j : ℕ} (s : Side) (g : Sign) → Deeper j (signed_width_at s g) (signed_width_at s g)
unfolding signed_width_at
signed_width_deep s g = head_deep (is_width s) (then_deep (width_deep s) (λ w. done_deep (integers.Both g w))) (done_deep (integers.Sign g))

integer_deep : {j : ℕ} (s : Side) → Deeper j (integer_at s) (integer_at s)
unfolding integer_at
integer_deep s = head_deep (is_sign s) (then_deep (sign_deep s) (λ g. signed_width_deep s g)) (then_deep (width_deep s) (λ w. done_deep (integers.Width w)))

number_type_deep : {j : ℕ} (s : Side) → Deeper j (number_type_at s) (number_type_at s)
unfolding number_type_at
number_type_deep s = then_deep (integer_deep s) (λ w. choice_deep (λ ts. is_int_alone w && head_has (is_mark s punctuators.Star) ts) (then_deep (mark_deep s punctuators.Star) (λ x. done_deep forms.IntPointer)) (done_deep (forms.Integer w)))

pub struct_pointer_deep : {j : ℕ} (s : Side) → Deeper j (struct_pointer_at s) (struct_pointer_at s)
unfolding struct_pointer_at
struct_pointer_deep s = then_deep (name_deep s) (λ n. then_deep (mark_deep s punctuators.Star) (λ x. done_deep (forms.StructPointer n)))

type_form_deep : {j : ℕ} (s : Side) → Deeper j (type_form_at s) (type_form_at s)
unfolding type_form_at
type_form_deep s = head_deep (is_word s keywords.Bool) (then_deep (word_deep s keywords.Bool) (λ x. done_deep forms.Bool))
    (head_deep (is_word s keywords.Void) (then_deep (word_deep s keywords.Void) (λ x. then_deep (mark_deep s punctuators.Star) (λ y. done_deep forms.VoidPointer)))
    (head_deep (is_word s keywords.Struct) (then_deep (word_deep s keywords.Struct) (λ x. struct_pointer_deep s))
    (head_deep (is_name s) (then_deep (name_deep s) (λ n. then_deep (mark_deep s punctuators.Star) (λ x. done_deep (forms.NamedPointer n.text))))
    (number_type_deep s))))

pub ctype_deep : {j : ℕ} (s : Side) → Deeper j (ctype_at s) (ctype_at s)
unfolding ctype_at
ctype_deep s = then_deep here_deep (λ p. then_deep (type_form_deep s) (λ f. done_deep (record { place = p; form = f })))
