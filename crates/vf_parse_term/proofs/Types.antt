-- The types that are read are spelled.
use Rattle.std.proofs.Common.{◌≡◌, Bool, true, false, List, [], ◌∷◌, Option, Some, None, Ok, Err, refl, sym, subst, inl, inr}
use Rattle.std.specs.Prelude.{◌&&◌}
use Rattle.vf_lexer.specs.declared.punctuator.Punctuator.TheVariants as punctuators
use Rattle.vf_lexer.specs.declared.token.Token.{Token}
use Rattle.vf_syntax.specs.declared.keyword.Keyword.TheVariants as keywords
use Rattle.vf_syntax.specs.declared.side.Side.{Side}
use Rattle.vf_syntax.specs.declared.written.Name.{Name}
use Rattle.vf_syntax.specs.declared.written.Sign.{Sign}
use Rattle.vf_syntax.specs.declared.written.Width.{Width}
use Rattle.vf_syntax.specs.declared.written.Width.TheVariants as widths
use Rattle.vf_syntax.specs.declared.written.IntegerWords.{IntegerWords}
use Rattle.vf_syntax.specs.declared.written.IntegerWords.TheVariants as integers
use Rattle.vf_syntax.specs.declared.written.TypeForm.{TypeForm}
use Rattle.vf_syntax.specs.declared.written.TypeForm.TheVariants as forms
use Rattle.vf_syntax.specs.declared.written.CType.{CType}
use Rattle.vf_syntax.specs.Walks.{Walk, goes_on, ◌⨾◌, at, head_has, is_mark, is_word, is_name, mark, word, identifier}
use Rattle.vf_syntax.specs.Written.{name, sign, width, integer, type_form, ctype}
use Rattle.vf_cursor.specs.Parsing.{Parser, ok, ◌>>=◌, here_at, mark_at, word_at, name_at}
use Rattle.vf_cursor.specs.Types.{is_sign, is_width, sign_at, short_at, long_long_at, long_at, width_at, signed_width_at, integer_at, is_int_alone, number_type_at, struct_pointer_at, type_form_at, ctype_at}
use Rattle.vf_cursor.proofs.Facts.{bind_ok, ok_pair, moved, chose, no_true}
use Rattle.vf_parse_term.proofs.Taken.{here_sound, mark_sound, word_sound, name_sound}

-- what is read is spelled
abbrev Spells : {A : Type 0} → Parser A → (A → Walk) → Type 0
Spells {A = A} p w = (ts : List Token) (x : A) (rest : List Token) → p ts ≡ ok x rest → w x ts ≡ Some rest

sign_sound : (s : Side) → Spells (sign_at s) (sign s)
unfolding sign_at sign
sign_sound s ts x rest e =
    elim (chose (head_has (is_word s keywords.Signed) ts) _ _ _ e) [
      | inl h ↦ let a = bind_ok {r = word_at s keywords.Signed ts} h.1 in moved (λ y r. sign s y ts ≡ Some r) a.2 (word_sound s keywords.Signed ts a.0.0 a.0.1 a.1).0
      | inr h ↦ let a = bind_ok {r = word_at s keywords.Unsigned ts} h.1 in moved (λ y r. sign s y ts ≡ Some r) a.2 (word_sound s keywords.Unsigned ts a.0.0 a.0.1 a.1).0
    ]

short_sound : (s : Side) (all ts : List Token) → word s keywords.Short all ≡ Some ts → (x : Width) (rest : List Token) → short_at s ts ≡ ok x rest → width s x all ≡ Some rest
unfolding short_at width
short_sound s all ts w x rest e =
    elim (chose (head_has (is_word s keywords.Int) ts) _ _ _ e) [
      | inl h ↦ let a = bind_ok {r = word_at s keywords.Int ts} h.1 in moved (λ y r. width s y all ≡ Some r) a.2 (rw w (word_sound s keywords.Int ts a.0.0 a.0.1 a.1).0)
      | inr h ↦ moved (λ y r. width s y all ≡ Some r) h.1 w
    ]

long_long_sound : (s : Side) (all mid ts : List Token) → word s keywords.Long all ≡ Some mid → word s keywords.Long mid ≡ Some ts → (x : Width) (rest : List Token) → long_long_at s ts ≡ ok x rest → width s x all ≡ Some rest
unfolding long_long_at width
long_long_sound s all mid ts w v x rest e =
    elim (chose (head_has (is_word s keywords.Int) ts) _ _ _ e) [
      | inl h ↦ let a = bind_ok {r = word_at s keywords.Int ts} h.1 in moved (λ y r. width s y all ≡ Some r) a.2 (rw (w, v) (word_sound s keywords.Int ts a.0.0 a.0.1 a.1).0)
      | inr h ↦ moved (λ y r. width s y all ≡ Some r) h.1 (rw w v)
    ]

long_sound : (s : Side) (all ts : List Token) → word s keywords.Long all ≡ Some ts → (x : Width) (rest : List Token) → long_at s ts ≡ ok x rest → width s x all ≡ Some rest
unfolding long_at width
long_sound s all ts w x rest e =
    elim (chose (head_has (is_word s keywords.Int) ts) _ _ _ e) [
      | inl h ↦ let a = bind_ok {r = word_at s keywords.Int ts} h.1 in moved (λ y r. width s y all ≡ Some r) a.2 (rw w (word_sound s keywords.Int ts a.0.0 a.0.1 a.1).0)
      | inr g ↦
          elim (chose (head_has (is_word s keywords.Long) ts) _ _ _ g.1) [
            | inl h ↦
                let a = bind_ok {r = word_at s keywords.Long ts} h.1 in
                long_long_sound s all ts a.0.1 w (word_sound s keywords.Long ts a.0.0 a.0.1 a.1).0 x rest a.2
            | inr h ↦ moved (λ y r. width s y all ≡ Some r) h.1 w
          ]
    ]

width_sound : (s : Side) → Spells (width_at s) (width s)
unfolding width_at width
width_sound s ts x rest e =
    elim (chose (head_has (is_word s keywords.Char) ts) _ _ _ e) [
      | inl h ↦ let a = bind_ok {r = word_at s keywords.Char ts} h.1 in moved (λ y r. width s y ts ≡ Some r) a.2 (word_sound s keywords.Char ts a.0.0 a.0.1 a.1).0
      | inr g ↦
          elim (chose (head_has (is_word s keywords.Short) ts) _ _ _ g.1) [
            | inl h ↦ let a = bind_ok {r = word_at s keywords.Short ts} h.1 in short_sound s ts a.0.1 (word_sound s keywords.Short ts a.0.0 a.0.1 a.1).0 x rest a.2
            | inr g ↦
                elim (chose (head_has (is_word s keywords.Long) ts) _ _ _ g.1) [
                  | inl h ↦ let a = bind_ok {r = word_at s keywords.Long ts} h.1 in long_sound s ts a.0.1 (word_sound s keywords.Long ts a.0.0 a.0.1 a.1).0 x rest a.2
                  | inr h ↦ let a = bind_ok {r = word_at s keywords.Int ts} h.1 in moved (λ y r. width s y ts ≡ Some r) a.2 (word_sound s keywords.Int ts a.0.0 a.0.1 a.1).0
                ]
          ]
    ]

signed_width_sound : (s : Side) (g : Sign) (all ts : List Token) → sign s g all ≡ Some ts → (x : IntegerWords) (rest : List Token) → signed_width_at s g ts ≡ ok x rest → integer s x all ≡ Some rest
unfolding signed_width_at integer
signed_width_sound s g all ts w x rest e =
    elim (chose (head_has (is_width s) ts) _ _ _ e) [
      | inl h ↦ let a = bind_ok {r = width_at s ts} h.1 in moved (λ y r. integer s y all ≡ Some r) a.2 (rw w (width_sound s ts a.0.0 a.0.1 a.1))
      | inr h ↦ moved (λ y r. integer s y all ≡ Some r) h.1 w
    ]

integer_sound : (s : Side) → Spells (integer_at s) (integer s)
unfolding integer_at integer
integer_sound s ts x rest e =
    elim (chose (head_has (is_sign s) ts) _ _ _ e) [
      | inl h ↦ let a = bind_ok {r = sign_at s ts} h.1 in signed_width_sound s a.0.0 ts a.0.1 (sign_sound s ts a.0.0 a.0.1 a.1) x rest a.2
      | inr h ↦ let a = bind_ok {r = width_at s ts} h.1 in moved (λ y r. integer s y ts ≡ Some r) a.2 (width_sound s ts a.0.0 a.0.1 a.1)
    ]

-- words that are `int` alone are spelled so
int_alone : (s : Side) (w : IntegerWords) (ts : List Token) → is_int_alone w ≡ true → integer s w ts ≡ word s keywords.Int ts
unfolding integer width
int_alone s (integers.Width widths.Int) ts h = refl
int_alone s w ts h = no_true h

both : (a b : Bool) → (a && b) ≡ true → a ≡ true
both true b h = refl
both false b h = no_true h

number_type_sound : (s : Side) → Spells (number_type_at s) (type_form s)
unfolding number_type_at type_form
number_type_sound s ts x rest e =
    let w = bind_ok {r = integer_at s ts} e in
    let spelled = integer_sound s ts w.0.0 w.0.1 w.1 in
    elim (chose (is_int_alone w.0.0 && head_has (is_mark s punctuators.Star) w.0.1) _ _ _ w.2) [
      | inl h ↦
          let a = bind_ok {r = mark_at s punctuators.Star w.0.1} h.1 in
          let int : word s keywords.Int ts ≡ Some w.0.1 = rw (int_alone s w.0.0 ts (both _ _ h.0)) at spelled in
          moved (λ y r. type_form s y ts ≡ Some r) a.2 (rw int (mark_sound s punctuators.Star w.0.1 a.0.0 a.0.1 a.1).0)
      | inr h ↦ moved (λ y r. type_form s y ts ≡ Some r) h.1 spelled
    ]

struct_pointer_sound : (s : Side) (all ts : List Token) → word s keywords.Struct all ≡ Some ts → (x : TypeForm) (rest : List Token) → struct_pointer_at s ts ≡ ok x rest → type_form s x all ≡ Some rest
unfolding struct_pointer_at type_form
struct_pointer_sound s all ts w x rest e =
    let n = bind_ok {r = name_at s ts} e in
    let a = bind_ok {r = mark_at s punctuators.Star n.0.1} n.2 in
    moved (λ y r. type_form s y all ≡ Some r) a.2 (rw (w, (name_sound s ts n.0.0 n.0.1 n.1).0) (mark_sound s punctuators.Star n.0.1 a.0.0 a.0.1 a.1).0)

named_pointer_sound : (s : Side) (ts : List Token) (x : TypeForm) (rest : List Token) → (name_at s ts >>= λ n. mark_at s punctuators.Star n.1 >>= λ y. ok (forms.NamedPointer n.0.text) y.1) ≡ ok x rest → type_form s x ts ≡ Some rest
unfolding type_form
named_pointer_sound s ts x rest e =
    let n = bind_ok {r = name_at s ts} e in
    let a = bind_ok {r = mark_at s punctuators.Star n.0.1} n.2 in
    moved (λ y r. type_form s y ts ≡ Some r) a.2 (rw ((name_sound s ts n.0.0 n.0.1 n.1).2) (mark_sound s punctuators.Star n.0.1 a.0.0 a.0.1 a.1).0)

void_pointer_sound : (s : Side) (ts : List Token) (x : TypeForm) (rest : List Token) → (word_at s keywords.Void ts >>= λ n. mark_at s punctuators.Star n.1 >>= λ y. ok forms.VoidPointer y.1) ≡ ok x rest → type_form s x ts ≡ Some rest
unfolding type_form
void_pointer_sound s ts x rest e =
    let n = bind_ok {r = word_at s keywords.Void ts} e in
    let a = bind_ok {r = mark_at s punctuators.Star n.0.1} n.2 in
    moved (λ y r. type_form s y ts ≡ Some r) a.2 (rw ((word_sound s keywords.Void ts n.0.0 n.0.1 n.1).0) (mark_sound s punctuators.Star n.0.1 a.0.0 a.0.1 a.1).0)

type_form_sound : (s : Side) → Spells (type_form_at s) (type_form s)
unfolding type_form_at type_form
type_form_sound s ts x rest e =
    elim (chose (head_has (is_word s keywords.Bool) ts) _ _ _ e) [
      | inl h ↦ let a = bind_ok {r = word_at s keywords.Bool ts} h.1 in moved (λ y r. type_form s y ts ≡ Some r) a.2 (word_sound s keywords.Bool ts a.0.0 a.0.1 a.1).0
      | inr g ↦
          elim (chose (head_has (is_word s keywords.Void) ts) _ _ _ g.1) [
            | inl h ↦ void_pointer_sound s ts x rest h.1
            | inr g ↦
                elim (chose (head_has (is_word s keywords.Struct) ts) _ _ _ g.1) [
                  | inl h ↦ let a = bind_ok {r = word_at s keywords.Struct ts} h.1 in struct_pointer_sound s ts a.0.1 (word_sound s keywords.Struct ts a.0.0 a.0.1 a.1).0 x rest a.2
                  | inr g ↦
                      elim (chose (head_has (is_name s) ts) _ _ _ g.1) [
                        | inl h ↦ named_pointer_sound s ts x rest h.1
                        | inr h ↦ number_type_sound s ts x rest h.1
                      ]
                ]
          ]
    ]

pub ctype_sound : (s : Side) → Spells (ctype_at s) (ctype s)
unfolding ctype_at ctype
ctype_sound s ts x rest e =
    let p = bind_ok {r = here_at ts} e in
    let here = here_sound ts p.0.0 p.0.1 p.1 in
    let f = bind_ok {r = type_form_at s p.0.1} p.2 in
    let spelled = subst (λ (r : List Token). type_form s f.0.0 r ≡ Some f.0.1) here.0 (type_form_sound s p.0.1 f.0.0 f.0.1 f.1) in
    moved (λ (y : CType) r. ctype s y ts ≡ Some r) f.2 (rw (here.1) spelled)
