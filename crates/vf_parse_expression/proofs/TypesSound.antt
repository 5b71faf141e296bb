-- What is read as a type is spelled so.
use Rattle.std.proofs.Common.{◌≡◌, Bool, true, false, ◌&&◌, List, Some, refl, inl, inr}
use Rattle.vf_lexer.specs.declared.punctuator.Punctuator.TheVariants as punctuators
use Rattle.vf_lexer.specs.declared.token.Token.{Token}
use Rattle.vf_syntax.specs.declared.keyword.Keyword.{Keyword}
use Rattle.vf_syntax.specs.declared.keyword.Keyword.TheVariants as keywords
use Rattle.vf_syntax.specs.declared.side.Side.{Side}
use Rattle.vf_syntax.specs.declared.written.Sign.{Sign}
use Rattle.vf_syntax.specs.declared.written.Sign.TheVariants as signs
use Rattle.vf_syntax.specs.declared.written.Width.{Width}
use Rattle.vf_syntax.specs.declared.written.Width.TheVariants as widths
use Rattle.vf_syntax.specs.declared.written.IntegerWords.{IntegerWords}
use Rattle.vf_syntax.specs.declared.written.IntegerWords.TheVariants as integers
use Rattle.vf_syntax.specs.declared.written.TypeForm.{TypeForm}
use Rattle.vf_syntax.specs.declared.written.TypeForm.TheVariants as forms
use Rattle.vf_syntax.specs.declared.written.CType.{CType}
use Rattle.vf_syntax.specs.Walks.{Walk, ◌⨾◌, head_has, is_mark, is_word, is_name, mark, word}
use Rattle.vf_syntax.specs.Written.{name, sign, width, integer, type_form, ctype}
use Rattle.vf_cursor.specs.Parsing.{ok, ◌>>=◌, here_at, mark_at, word_at, name_at}
use Rattle.vf_cursor.specs.Types.{is_sign, is_width, sign_at, short_at, long_at, long_long_at, width_at, signed_width_at, integer_at, number_type_at, struct_pointer_at, type_form_at, ctype_at, is_int_alone}
use Rattle.vf_cursor.proofs.Facts.{bind_ok, moved, chose, no_true}
use Rattle.vf_parse_expression.proofs.Small.{goes, here_walk, mark_walk, word_walk, name_parts, name_walk}

-- both of two tests are passed
pub both : (a b : Bool) → (a && b) ≡ true → (a ≡ true) × (b ≡ true)
both true b h = (refl, h)
both false b h = no_true h

-- a keyword that stands for a thing was read
pub word_stands : {A : Type 0} (W : A → Walk) (s : Side) (k : Keyword) (ts : List Token) (v : A) → ((r : List Token) → word s k ts ≡ Some r → W v ts ≡ Some r) → (x : A) (rest : List Token) → (word_at s k ts >>= λ w. ok v w.1) ≡ ok x rest → W x ts ≡ Some rest
word_stands W s k ts v f x rest e =
    let w = bind_ok {r = word_at s k ts} e in
    moved (λ y r. W y ts ≡ Some r) w.2 (f w.0.1 (word_walk s k ts w.0.0 w.0.1 w.1).1)

sign_walk : (s : Side) (ts : List Token) (g : Sign) (rest : List Token) → sign_at s ts ≡ ok g rest → sign s g ts ≡ Some rest
unfolding sign_at sign
sign_walk s ts g rest e =
    elim (chose (head_has (is_word s keywords.Signed) ts) _ _ _ e) [
      | inl h ↦ word_stands (sign s) s keywords.Signed ts signs.Signed (λ r w. w) g rest h.1
      | inr h ↦ word_stands (sign s) s keywords.Unsigned ts signs.Unsigned (λ r w. w) g rest h.1
    ]

short_walk : (s : Side) (ts us : List Token) (w : Width) (rest : List Token) → word s keywords.Short ts ≡ Some us → short_at s us ≡ ok w rest → width s w ts ≡ Some rest
unfolding short_at width
short_walk s ts us w rest first e =
    elim (chose (head_has (is_word s keywords.Int) us) _ _ _ e) [
      | inl h ↦
          let x = bind_ok {r = word_at s keywords.Int us} h.1 in
          moved (λ y r. width s y ts ≡ Some r) x.2 (goes (word s keywords.Int) first (word_walk s keywords.Int us x.0.0 x.0.1 x.1).1)
      | inr h ↦ moved (λ y r. width s y ts ≡ Some r) h.1 first
    ]

long_long_walk : (s : Side) (ts us vs : List Token) (w : Width) (rest : List Token) → word s keywords.Long ts ≡ Some us → word s keywords.Long us ≡ Some vs → long_long_at s vs ≡ ok w rest → width s w ts ≡ Some rest
unfolding long_long_at width
long_long_walk s ts us vs w rest first second e =
    elim (chose (head_has (is_word s keywords.Int) vs) _ _ _ e) [
      | inl h ↦
          let x = bind_ok {r = word_at s keywords.Int vs} h.1 in
          moved (λ y r. width s y ts ≡ Some r) x.2 (goes (word s keywords.Long ⨾ word s keywords.Int) first (goes (word s keywords.Int) second (word_walk s keywords.Int vs x.0.0 x.0.1 x.1).1))
      | inr h ↦ moved (λ y r. width s y ts ≡ Some r) h.1 (goes (word s keywords.Long) first second)
    ]

long_walk : (s : Side) (ts us : List Token) (w : Width) (rest : List Token) → word s keywords.Long ts ≡ Some us → long_at s us ≡ ok w rest → width s w ts ≡ Some rest
unfolding long_at width
long_walk s ts us w rest first e =
    elim (chose (head_has (is_word s keywords.Int) us) _ _ _ e) [
      | inl h ↦
          let x = bind_ok {r = word_at s keywords.Int us} h.1 in
          moved (λ y r. width s y ts ≡ Some r) x.2 (goes (word s keywords.Int) first (word_walk s keywords.Int us x.0.0 x.0.1 x.1).1)
      | inr h ↦
          elim (chose (head_has (is_word s keywords.Long) us) _ _ _ h.1) [
            | inl k ↦
                let x = bind_ok {r = word_at s keywords.Long us} k.1 in
                long_long_walk s ts us x.0.1 w rest first (word_walk s keywords.Long us x.0.0 x.0.1 x.1).1 x.2
            | inr k ↦ moved (λ y r. width s y ts ≡ Some r) k.1 first
          ]
    ]

width_walk : (s : Side) (ts : List Token) (w : Width) (rest : List Token) → width_at s ts ≡ ok w rest → width s w ts ≡ Some rest
unfolding width_at width
width_walk s ts w rest e =
    elim (chose (head_has (is_word s keywords.Char) ts) _ _ _ e) [
      | inl h ↦ word_stands (width s) s keywords.Char ts widths.Char (λ r x. x) w rest h.1
      | inr h ↦
          elim (chose (head_has (is_word s keywords.Short) ts) _ _ _ h.1) [
            | inl k ↦
                let x = bind_ok {r = word_at s keywords.Short ts} k.1 in
                short_walk s ts x.0.1 w rest (word_walk s keywords.Short ts x.0.0 x.0.1 x.1).1 x.2
            | inr k ↦
                elim (chose (head_has (is_word s keywords.Long) ts) _ _ _ k.1) [
                  | inl l ↦
                      let x = bind_ok {r = word_at s keywords.Long ts} l.1 in
                      long_walk s ts x.0.1 w rest (word_walk s keywords.Long ts x.0.0 x.0.1 x.1).1 x.2
                  | inr l ↦ word_stands (width s) s keywords.Int ts widths.Int (λ r x. x) w rest l.1
                ]
          ]
    ]

signed_width_walk : (s : Side) (g : Sign) (ts us : List Token) (w : IntegerWords) (rest : List Token) → sign s g ts ≡ Some us → signed_width_at s g us ≡ ok w rest → integer s w ts ≡ Some rest
unfolding signed_width_at integer
signed_width_walk s g ts us w rest first e =
    elim (chose (head_has (is_width s) us) _ _ _ e) [
      | inl h ↦
          let x = bind_ok {r = width_at s us} h.1 in
          moved (λ y r. integer s y ts ≡ Some r) x.2 (goes (width s x.0.0) first (width_walk s us x.0.0 x.0.1 x.1))
      | inr h ↦ moved (λ y r. integer s y ts ≡ Some r) h.1 first
    ]

integer_walk : (s : Side) (ts : List Token) (w : IntegerWords) (rest : List Token) → integer_at s ts ≡ ok w rest → integer s w ts ≡ Some rest
unfolding integer_at integer
integer_walk s ts w rest e =
    elim (chose (head_has (is_sign s) ts) _ _ _ e) [
      | inl h ↦
          let g = bind_ok {r = sign_at s ts} h.1 in
          signed_width_walk s g.0.0 ts g.0.1 w rest (sign_walk s ts g.0.0 g.0.1 g.1) g.2
      | inr h ↦
          let x = bind_ok {r = width_at s ts} h.1 in
          moved (λ y r. integer s y ts ≡ Some r) x.2 (width_walk s ts x.0.0 x.0.1 x.1)
    ]

int_alone : (s : Side) (ts rest : List Token) (w : IntegerWords) → is_int_alone w ≡ true → integer s w ts ≡ Some rest → word s keywords.Int ts ≡ Some rest
unfolding integer width
int_alone s ts rest (integers.Width widths.Int) h e = e
int_alone s ts rest w h e = no_true h

number_type_walk : (s : Side) (ts : List Token) (f : TypeForm) (rest : List Token) → number_type_at s ts ≡ ok f rest → type_form s f ts ≡ Some rest
unfolding number_type_at type_form
number_type_walk s ts f rest e =
    let w = bind_ok {r = integer_at s ts} e in
    let first = integer_walk s ts w.0.0 w.0.1 w.1 in
    elim (chose (is_int_alone w.0.0 && head_has (is_mark s punctuators.Star) w.0.1) _ _ _ w.2) [
      | inl h ↦
          let x = bind_ok {r = mark_at s punctuators.Star w.0.1} h.1 in
          moved (λ y r. type_form s y ts ≡ Some r) x.2
          (goes (mark s punctuators.Star) (int_alone s ts w.0.1 w.0.0 (both _ _ h.0).0 first) (mark_walk s punctuators.Star w.0.1 x.0.0 x.0.1 x.1).1)
      | inr h ↦ moved (λ y r. type_form s y ts ≡ Some r) h.1 first
    ]

struct_pointer_walk : (s : Side) (ts us : List Token) (f : TypeForm) (rest : List Token) → word s keywords.Struct ts ≡ Some us → struct_pointer_at s us ≡ ok f rest → type_form s f ts ≡ Some rest
unfolding struct_pointer_at type_form
struct_pointer_walk s ts us f rest first e =
    let n = bind_ok {r = name_at s us} e in
    let x = bind_ok {r = mark_at s punctuators.Star n.0.1} n.2 in
    moved (λ y r. type_form s y ts ≡ Some r) x.2
    (goes (name s n.0.0 ⨾ mark s punctuators.Star) first (goes (mark s punctuators.Star) (name_walk s us n.0.0 n.0.1 n.1) (mark_walk s punctuators.Star n.0.1 x.0.0 x.0.1 x.1).1))

type_form_walk : (s : Side) (ts : List Token) (f : TypeForm) (rest : List Token) → type_form_at s ts ≡ ok f rest → type_form s f ts ≡ Some rest
unfolding type_form_at type_form
type_form_walk s ts f rest e =
    elim (chose (head_has (is_word s keywords.Bool) ts) _ _ _ e) [
      | inl h ↦ word_stands (type_form s) s keywords.Bool ts forms.Bool (λ r x. x) f rest h.1
      | inr h ↦
          elim (chose (head_has (is_word s keywords.Void) ts) _ _ _ h.1) [
            | inl k ↦
                let w = bind_ok {r = word_at s keywords.Void ts} k.1 in
                let x = bind_ok {r = mark_at s punctuators.Star w.0.1} w.2 in
                moved (λ y r. type_form s y ts ≡ Some r) x.2
                (goes (mark s punctuators.Star) (word_walk s keywords.Void ts w.0.0 w.0.1 w.1).1 (mark_walk s punctuators.Star w.0.1 x.0.0 x.0.1 x.1).1)
            | inr k ↦
                elim (chose (head_has (is_word s keywords.Struct) ts) _ _ _ k.1) [
                  | inl l ↦
                      let w = bind_ok {r = word_at s keywords.Struct ts} l.1 in
                      struct_pointer_walk s ts w.0.1 f rest (word_walk s keywords.Struct ts w.0.0 w.0.1 w.1).1 w.2
                  | inr l ↦
                      elim (chose (head_has (is_name s) ts) _ _ _ l.1) [
                        | inl m ↦
                            let n = bind_ok {r = name_at s ts} m.1 in
                            let x = bind_ok {r = mark_at s punctuators.Star n.0.1} n.2 in
                            moved (λ y r. type_form s y ts ≡ Some r) x.2
                            (goes (mark s punctuators.Star) (name_parts s ts n.0.0 n.0.1 n.1).1 (mark_walk s punctuators.Star n.0.1 x.0.0 x.0.1 x.1).1)
                        | inr m ↦ number_type_walk s ts f rest m.1
                      ]
                ]
          ]
    ]

-- a type was read
pub ctype_walk : (s : Side) (ts : List Token) (t : CType) (rest : List Token) → ctype_at s ts ≡ ok t rest → ctype s t ts ≡ Some rest
unfolding ctype_at ctype
ctype_walk s ts t rest e =
    let p = bind_ok {r = here_at ts} e in
    let f = bind_ok {r = type_form_at s p.0.1} p.2 in
    moved (λ y r. ctype s y ts ≡ Some r) f.2
    (goes (type_form s f.0.0) (here_walk ts p.0.0 p.0.1 p.1).0 (type_form_walk s p.0.1 f.0.0 f.0.1 f.1))
