-- Walks that take no token of real text.
use Rattle.std.proofs.Common.{◌≡◌, ℕ, Bool, true, false, List, [], ◌∷◌, Option, Some, None, refl, ap, ◌∙◌}
use Rattle.vf_base.specs.declared.place.Place.{Place}
use Rattle.vf_base.specs.declared.int_type.IntType.{IntType}
use Rattle.vf_lexer.specs.declared.punctuator.Punctuator.{Punctuator}
use Rattle.vf_lexer.specs.declared.punctuator.Punctuator.TheVariants as punctuators
use Rattle.vf_lexer.specs.declared.token.Token.{Token}
use Rattle.vf_syntax.specs.declared.keyword.Keyword.{Keyword}
use Rattle.vf_syntax.specs.declared.side.Side.TheVariants.{Ghost}
use Rattle.vf_syntax.specs.declared.written.Name.{Name}
use Rattle.vf_syntax.specs.declared.written.Sign.{Sign}
use Rattle.vf_syntax.specs.declared.written.Sign.TheVariants as signs
use Rattle.vf_syntax.specs.declared.written.Width.{Width}
use Rattle.vf_syntax.specs.declared.written.Width.TheVariants as widths
use Rattle.vf_syntax.specs.declared.written.IntegerWords.{IntegerWords}
use Rattle.vf_syntax.specs.declared.written.IntegerWords.TheVariants as integers
use Rattle.vf_syntax.specs.declared.written.TypeForm.{TypeForm}
use Rattle.vf_syntax.specs.declared.written.TypeForm.TheVariants as forms
use Rattle.vf_syntax.specs.declared.written.CType.{CType}
use Rattle.vf_syntax.specs.Walks.{Walk, ◌⨾◌, nothing, never, provided, at, one, is_on, is_mark, is_word, is_name, is_wild, mark, word, identifier, number, wild}
use Rattle.vf_syntax.specs.Written.{name, sign, width, integer, type_form, ctype}
use Rattle.vf_syntax.specs.Lists.{optional, each, separated, behind_commas}
use Rattle.vf_parse_real.specs.Units.{real_tokens}
use Rattle.vf_grammar_read.proofs.expressions.Same.{some_same, both}
use Rattle.vf_grammar_read.proofs.expressions.Fronts.{took, gone, at_stays}

-- the tokens of real text are the same before and behind
pub record Unseen (f : Walk) : Type 0 where
  pub unseen : (ts rest : List Token) → f ts ≡ Some rest → real_tokens ts ≡ real_tokens rest

pub unseen_then : {f g : Walk} → Unseen f → Unseen g → Unseen (f ⨾ g)
unseen_then {f = f} {g = g} a b = record { unseen = λ ts rest e. let m = gone {g = g} (f ts) e in a.unseen ts m.0 m.1 ∙ b.unseen m.0 rest m.2 }

pub nothing_unseen : Unseen nothing
nothing_unseen = record { unseen = λ ts rest e. ap real_tokens (some_same {a = ts} {b = rest} e) }

pub never_unseen : Unseen never
never_unseen = record { unseen = λ ts rest e. absurd cc }

pub provided_unseen : (b : Bool) → Unseen (provided b)
provided_unseen true = record { unseen = λ ts rest e. ap real_tokens (some_same {a = ts} {b = rest} e) }
provided_unseen false = record { unseen = λ ts rest e. absurd cc }

pub at_unseen : (p : Place) → Unseen (at p)
at_unseen p = record { unseen = λ ts rest e. ap real_tokens (at_stays p ts rest e) }

-- a token of ghost text in front is left out
left_out : (t : Token) (ts : List Token) → is_on Ghost t ≡ true → real_tokens (t ∷ ts) ≡ real_tokens ts
left_out t ts h = rw h refl

-- a token of ghost text is no token of real text
one_unseen : (test : Token → Bool) → ((t : Token) → test t ≡ true → is_on Ghost t ≡ true) → Unseen (one test)
one_unseen test ghost = record { unseen = λ ts rest e. let m = took test ts rest e in ap real_tokens m.parts ∙ left_out m.token rest (ghost m.token m.passes) }

pub ghost_mark : (m : Punctuator) → Unseen (mark Ghost m)
unfolding mark is_mark
ghost_mark m = one_unseen (is_mark Ghost m) (λ t h. (both _ _ h).0)

pub ghost_word : (k : Keyword) → Unseen (word Ghost k)
unfolding word is_word
ghost_word k = one_unseen (is_word Ghost k) (λ t h. (both _ _ (both _ _ h).0).0)

pub identifier_unseen : (x : List ℕ) → Unseen (identifier Ghost x)
unfolding identifier is_name
identifier_unseen x = one_unseen _ (λ t h. (both _ _ (both _ _ (both _ _ h).0).0).0)

pub number_unseen : (n : ℕ) (ty : IntType) → Unseen (number Ghost n ty)
unfolding number
number_unseen n ty = one_unseen _ (λ t h. (both _ _ h).0)

pub wild_unseen : Unseen wild
unfolding wild is_wild
wild_unseen = one_unseen is_wild (λ t h. (both _ _ h).0)

pub name_unseen : (n : Name) → Unseen (name Ghost n)
unfolding name
name_unseen n = unseen_then {f = at n.place} {g = identifier Ghost n.text} (at_unseen n.place) (identifier_unseen n.text)

pub optional_unseen : {A : Type 0} (w : A → Walk) → ((x : A) → Unseen (w x)) → (x : Option A) → Unseen (optional w x)
optional_unseen w h None = nothing_unseen
optional_unseen w h (Some x) = h x

pub each_unseen : {A : Type 0} (w : A → Walk) → ((x : A) → Unseen (w x)) → (xs : List A) → Unseen (each w xs)
each_unseen w h [] = nothing_unseen
each_unseen w h (x ∷ xs) = unseen_then (h x) (each_unseen w h xs)

pub behind_commas_unseen : {A : Type 0} (w : A → Walk) → ((x : A) → Unseen (w x)) → (xs : List A) → Unseen (behind_commas Ghost w xs)
behind_commas_unseen w h [] = nothing_unseen
behind_commas_unseen w h (x ∷ xs) = unseen_then (ghost_mark punctuators.Comma) (unseen_then (h x) (behind_commas_unseen w h xs))

pub separated_unseen : {A : Type 0} (w : A → Walk) → ((x : A) → Unseen (w x)) → (xs : List A) → Unseen (separated Ghost w xs)
separated_unseen w h [] = nothing_unseen
separated_unseen w h (x ∷ xs) = unseen_then (h x) (behind_commas_unseen w h xs)

sign_unseen : (g : Sign) → Unseen (sign Ghost g)
unfolding sign
sign_unseen signs.Signed = ghost_word _
sign_unseen signs.Unsigned = ghost_word _

width_unseen : (w : Width) → Unseen (width Ghost w)
unfolding width
width_unseen widths.Char = ghost_word _
width_unseen widths.Short = ghost_word _
width_unseen widths.ShortInt = unseen_then (ghost_word _) (ghost_word _)
width_unseen widths.Int = ghost_word _
width_unseen widths.Long = ghost_word _
width_unseen widths.LongInt = unseen_then (ghost_word _) (ghost_word _)
width_unseen widths.LongLong = unseen_then (ghost_word _) (ghost_word _)
width_unseen widths.LongLongInt = unseen_then (ghost_word _) (unseen_then (ghost_word _) (ghost_word _))

integer_unseen : (w : IntegerWords) → Unseen (integer Ghost w)
unfolding integer
integer_unseen (integers.Sign g) = sign_unseen g
integer_unseen (integers.Width w) = width_unseen w
integer_unseen (integers.Both g w) = unseen_then (sign_unseen g) (width_unseen w)

type_form_unseen : (f : TypeForm) → Unseen (type_form Ghost f)
unfolding type_form
type_form_unseen (forms.Integer w) = integer_unseen w
type_form_unseen forms.Bool = ghost_word _
type_form_unseen forms.VoidPointer = unseen_then (ghost_word _) (ghost_mark _)
type_form_unseen forms.IntPointer = unseen_then (ghost_word _) (ghost_mark _)
type_form_unseen (forms.StructPointer n) = unseen_then (ghost_word _) (unseen_then (name_unseen n) (ghost_mark _))
type_form_unseen (forms.NamedPointer x) = unseen_then (identifier_unseen x) (ghost_mark _)

pub ctype_unseen : (t : CType) → Unseen (ctype Ghost t)
unfolding ctype
ctype_unseen t = unseen_then (at_unseen t.place) (type_form_unseen t.form)
