-- What begins a type is taken, and what does not is refused at once.
use Rattle.std.proofs.Common.{◌≡◌, Bool, true, false, ◌&&◌, ◌||◌, List, [], ◌∷◌, length, refl, sym, subst}
use Rattle.std.proofs.lemmas.Bool.{or_parts}
use Rattle.vf_lexer.specs.declared.punctuator.Punctuator.TheVariants as punctuators
use Rattle.vf_lexer.specs.declared.token.Token.{Token}
use Rattle.vf_syntax.specs.declared.keyword.Keyword.TheVariants as keywords
use Rattle.vf_syntax.specs.declared.side.Side.{Side}
use Rattle.vf_syntax.specs.declared.written.Sign.TheVariants as signs
use Rattle.vf_syntax.specs.declared.written.Width.TheVariants as widths
use Rattle.vf_syntax.specs.declared.written.IntegerWords.TheVariants as integers
use Rattle.vf_syntax.specs.declared.written.TypeForm.TheVariants as forms
use Rattle.vf_syntax.specs.Walks.{head_has, is_mark, is_word, is_name}
use Rattle.vf_cursor.specs.Parsing.{Parser}
use Rattle.vf_cursor.specs.Types.{is_sign, is_width, is_type_word, sign_at, width_at, integer_at, number_type_at, type_form_at, ctype_at, is_int_alone}
use Rattle.vf_grammar_depth.proofs.expressions.Deeper.{Deeper, keeps, then_deep, done_deep, mark_deep, choice_deep}
use Rattle.vf_grammar_depth.proofs.expressions.Begun.{BegunAt, Begun, then_begun, here_begun, word_begun, name_begun, choice_begun}
use Rattle.vf_grammar_depth.proofs.expressions.Types.{short_deep, long_deep, signed_width_deep, struct_pointer_deep}

-- the same beginnings, told otherwise
pub begun_by : {A : Type 0} {begins others : List Token → Bool} {p : Parser A} → ((ts : List Token) → begins ts ≡ others ts) → Begun begins p → Begun others p
begun_by {p = p} same h = record { run = λ ts. subst (λ v. BegunAt v (length ts) (p ts)) (same ts) (h.run ts) }

-- what is false where the other is, both ways, is the same
pub same_truth : (v w : Bool) → (v ≡ false → w ≡ false) → (w ≡ false → v ≡ false) → v ≡ w
same_truth true true h k = refl
same_truth true false h k = k refl
same_truth false w h k = sym (h refl)

sign_starts : (s : Side) → Begun (λ ts. head_has (is_word s keywords.Signed) ts || head_has (is_word s keywords.Unsigned) ts) (sign_at s)
unfolding sign_at
sign_starts s = choice_begun (then_begun (word_begun s keywords.Signed) (λ x. keeps (done_deep {j = 0} signs.Signed))) (then_begun (word_begun s keywords.Unsigned) (λ x. keeps (done_deep {j = 0} signs.Unsigned)))

-- the words of a width, in the order in which they are looked for
abbrev widths_seen : Side → List Token → Bool
widths_seen s ts = head_has (is_word s keywords.Char) ts || (head_has (is_word s keywords.Short) ts || (head_has (is_word s keywords.Long) ts || head_has (is_word s keywords.Int) ts))

width_starts : (s : Side) → Begun (widths_seen s) (width_at s)
unfolding width_at
width_starts s =
    choice_begun (then_begun (word_begun s keywords.Char) (λ x. keeps (done_deep {j = 0} widths.Char))) (choice_begun (then_begun (word_begun s keywords.Short) (λ x. keeps (short_deep {j = 0} s)))
    (choice_begun (then_begun (word_begun s keywords.Long) (λ x. keeps (long_deep {j = 0} s))) (then_begun (word_begun s keywords.Int) (λ x. keeps (done_deep {j = 0} widths.Int)))))

-- a sign, as it is looked for
sign_told : (s : Side) (ts : List Token) → (head_has (is_word s keywords.Signed) ts || head_has (is_word s keywords.Unsigned) ts) ≡ head_has (is_sign s) ts
unfolding is_sign
sign_told s [] = refl
sign_told s (t ∷ ts) = refl

integer_starts : (s : Side) → Begun (λ ts. head_has (is_sign s) ts || widths_seen s ts) (integer_at s)
unfolding integer_at
integer_starts s = choice_begun (then_begun (begun_by (sign_told s) (sign_starts s)) (λ g. keeps (signed_width_deep {j = 0} s g))) (then_begun (width_starts s) (λ w. keeps (done_deep {j = 0} (integers.Width w))))

number_type_starts : (s : Side) → Begun (λ ts. head_has (is_sign s) ts || widths_seen s ts) (number_type_at s)
unfolding number_type_at
number_type_starts s =
    then_begun (integer_starts s) (λ w. keeps (choice_deep {j = 0} (λ ts. is_int_alone w && head_has (is_mark s punctuators.Star) ts) (then_deep (mark_deep s punctuators.Star) (λ x. done_deep forms.IntPointer)) (done_deep (forms.Integer w))))

-- the first word of a type, in the order in which they are looked for
abbrev types_seen : Side → List Token → Bool
types_seen s ts = head_has (is_word s keywords.Bool) ts || (head_has (is_word s keywords.Void) ts || (head_has (is_word s keywords.Struct) ts || (head_has (is_name s) ts || (head_has (is_sign s) ts || widths_seen s ts))))

form_starts : (s : Side) → Begun (types_seen s) (type_form_at s)
unfolding type_form_at
form_starts s =
    choice_begun (then_begun (word_begun s keywords.Bool) (λ x. keeps (done_deep {j = 0} forms.Bool)))
    (choice_begun (then_begun (word_begun s keywords.Void) (λ x. keeps (then_deep {j = 0} (mark_deep s punctuators.Star) (λ y. done_deep forms.VoidPointer))))
    (choice_begun (then_begun (word_begun s keywords.Struct) (λ x. keeps (struct_pointer_deep {j = 0} s)))
    (choice_begun (then_begun (name_begun s) (λ n. keeps (then_deep {j = 0} (mark_deep s punctuators.Star) (λ x. done_deep (forms.NamedPointer n.text)))))
    (number_type_starts s))))

-- a word of a type, or a name
abbrev pub types_begin : Side → List Token → Bool
types_begin s ts = head_has (is_type_word s) ts || head_has (is_name s) ts

no_words : (s : Side) (t : Token) (ts : List Token) → types_seen s (t ∷ ts) ≡ false → types_begin s (t ∷ ts) ≡ false
unfolding is_type_word is_width
no_words s t ts h =
    let a = or_parts (is_word s keywords.Bool t) _ h in
    let b = or_parts (is_word s keywords.Void t) _ a.1 in
    let c = or_parts (is_word s keywords.Struct t) _ b.1 in
    let d = or_parts (is_name s t) _ c.1 in
    let e = or_parts (is_sign s t) _ d.1 in
    let f = or_parts (is_word s keywords.Char t) _ e.1 in
    let g = or_parts (is_word s keywords.Short t) _ f.1 in
    let i = or_parts (is_word s keywords.Long t) _ g.1 in
    rw (e.0, f.0, g.0, i.0, i.1, a.0, b.0, c.0, d.0) refl

no_seen : (s : Side) (t : Token) (ts : List Token) → types_begin s (t ∷ ts) ≡ false → types_seen s (t ∷ ts) ≡ false
unfolding is_type_word is_width
no_seen s t ts h =
    let n = or_parts _ (is_name s t) h in
    let a = or_parts _ (is_word s keywords.Struct t) n.0 in
    let b = or_parts _ (is_word s keywords.Void t) a.0 in
    let c = or_parts _ (is_word s keywords.Bool t) b.0 in
    let d = or_parts (is_sign s t) _ c.0 in
    let e = or_parts _ (is_word s keywords.Long t) d.1 in
    let f = or_parts _ (is_word s keywords.Int t) e.0 in
    let g = or_parts (is_word s keywords.Char t) _ f.0 in
    rw (c.1, b.1, a.1, n.1, d.0, g.0, g.1, e.1, f.1) refl

types_told : (s : Side) (ts : List Token) → types_seen s ts ≡ types_begin s ts
types_told s [] = refl
types_told s (t ∷ ts) = same_truth (types_seen s (t ∷ ts)) (types_begin s (t ∷ ts)) (no_words s t ts) (no_seen s t ts)

pub type_starts : (s : Side) → Begun (types_begin s) (ctype_at s)
unfolding ctype_at
type_starts s = here_begun (begun_by (types_told s) (form_starts s)) (λ p f. keeps (done_deep {j = 0} (record { place = p; form = f })))
