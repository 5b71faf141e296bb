-- Walks that take from the tokens of real text what others take from all tokens.
use Rattle.std.proofs.Common.{◌≡◌, ℕ, Bool, true, false, List, [], ◌∷◌, Option, Some, None, refl, sym, ap, ◌∙◌, inl, inr}
use Rattle.vf_base.specs.declared.place.Place.{Place}
use Rattle.vf_base.specs.declared.int_type.IntType.{IntType}
use Rattle.vf_lexer.specs.declared.punctuator.Punctuator.{Punctuator}
use Rattle.vf_lexer.specs.declared.token.Token.{Token}
use Rattle.vf_syntax.specs.declared.keyword.Keyword.{Keyword}
use Rattle.vf_syntax.specs.declared.side.Side.TheVariants.{Real}
use Rattle.vf_syntax.specs.declared.written.Name.{Name}
use Rattle.vf_syntax.specs.Walks.{Walk, ◌⨾◌, goes_on, nothing, never, provided, same_place, at, one, is_on, head_has, is_mark, is_word, is_name, mark, word, identifier, number, character}
use Rattle.vf_syntax.specs.Written.{name}
use Rattle.vf_syntax.specs.Lists.{optional, each, separated, behind_commas}
use Rattle.vf_cursor.proofs.Facts.{chose}
use Rattle.vf_parse_real.specs.Units.{real_tokens}
use Rattle.vf_grammar_read.proofs.expressions.Same.{some_same, no_true, both}
use Rattle.vf_grammar_read.proofs.expressions.Fronts.{took, gone}
use Rattle.vf_grammar_read.proofs.supported.Unseen.{Unseen}
use Rattle.vf_lexer.specs.declared.punctuator.Punctuator.TheVariants as punctuators

-- what the one takes from all tokens the other takes from those of real text
pub record Keeps (f g : Walk) : Type 0 where
  pub kept : (ts rest : List Token) → f ts ≡ Some rest → g (real_tokens ts) ≡ Some (real_tokens rest)

-- the same, and the token in front is of real text
pub record Firm (f g : Walk) : Type 0 where
  pub keeps_on : (ts rest : List Token) → f ts ≡ Some rest → g (real_tokens ts) ≡ Some (real_tokens rest)
  pub fronts : (ts rest : List Token) → f ts ≡ Some rest → head_has (is_on Real) ts ≡ true

pub keeps : {f g : Walk} → Firm f g → Keeps f g
keeps a = record { kept = a.keeps_on }

then_kept : (f g h k : Walk) → ((ts rest : List Token) → f ts ≡ Some rest → h (real_tokens ts) ≡ Some (real_tokens rest)) → Keeps g k → (ts rest : List Token) → (f ⨾ g) ts ≡ Some rest → (h ⨾ k) (real_tokens ts) ≡ Some (real_tokens rest)
then_kept f g h k a b ts rest e = let m = gone {g = g} (f ts) e in (λ i. goes_on (a ts m.0 m.1 i) k) ∙ b.kept m.0 rest m.2

pub keeps_then : {f g h k : Walk} → Keeps f h → Keeps g k → Keeps (f ⨾ g) (h ⨾ k)
keeps_then {f = f} {g = g} {h = h} {k = k} a b = record { kept = then_kept f g h k a.kept b }

pub firm_then : {f g h k : Walk} → Firm f h → Keeps g k → Firm (f ⨾ g) (h ⨾ k)
firm_then {f = f} {g = g} {h = h} {k = k} a b = record { keeps_on = then_kept f g h k a.keeps_on b; fronts = λ ts rest e. let m = gone {g = g} (f ts) e in a.fronts ts m.0 m.1 }

pub firm_on : {f g h k : Walk} → Firm f h → Firm g k → Firm (f ⨾ g) (h ⨾ k)
firm_on a b = firm_then a (keeps b)

-- ghost text in front is left out
pub past_ghost : {f g k : Walk} → Unseen f → Keeps g k → Keeps (f ⨾ g) k
past_ghost {f = f} {g = g} {k = k} a b = record { kept = λ ts rest e. let m = gone {g = g} (f ts) e in ap k (a.unseen ts m.0 m.1) ∙ b.kept m.0 rest m.2 }

-- ghost text is left out
pub unseen_kept : {f : Walk} → Unseen f → Keeps f nothing
unseen_kept a = record { kept = λ ts rest e. ap Some (a.unseen ts rest e) }

pub nothing_keeps : Keeps nothing nothing
nothing_keeps = record { kept = λ ts rest e. ap (λ us. Some (real_tokens us)) (some_same {a = ts} {b = rest} e) }

pub never_keeps : {g : Walk} → Keeps never g
never_keeps = record { kept = λ ts rest e. absurd cc }

pub provided_firm : {f g : Walk} (b : Bool) → Firm f g → Firm (provided b ⨾ f) (provided b ⨾ g)
provided_firm true a = record { keeps_on = a.keeps_on; fronts = a.fronts }
provided_firm false a = record { keeps_on = λ ts rest e. absurd cc; fronts = λ ts rest e. absurd cc }

-- a token of real text in front stays
stays : (t : Token) (ts : List Token) → is_on Real t ≡ true → real_tokens (t ∷ ts) ≡ t ∷ real_tokens ts
stays t ts h = rw h refl

-- a place of a token of real text stays
place_kept : (p : Place) (ts us : List Token) → head_has (is_on Real) ts ≡ true → at p ts ≡ Some us → at p (real_tokens ts) ≡ Some (real_tokens us)
unfolding at
place_kept p [] us h e = no_true h
place_kept p (t ∷ ts) us h e =
    elim (chose (same_place t.place p) _ _ _ e) [
      | inl k ↦ ap (at p) (stays t ts h) ∙ here k.0 ∙ ap Some (sym (stays t ts h) ∙ ap real_tokens (some_same k.1))
      | inr k ↦ absurd cc
    ]
  where
    here : same_place t.place p ≡ true → at p (t ∷ real_tokens ts) ≡ Some (t ∷ real_tokens ts)
    here k = rw k refl

-- at a place nothing is taken
place_stays : (p : Place) (ts us : List Token) → at p ts ≡ Some us → us ≡ ts
unfolding at
place_stays p [] us e = absurd cc
place_stays p (t ∷ ts) us e =
    elim (chose (same_place t.place p) _ _ _ e) [
      | inl k ↦ sym (some_same k.1)
      | inr k ↦ absurd cc
    ]

pub at_firm : {f g : Walk} (p : Place) → Firm f g → Firm (at p ⨾ f) (at p ⨾ g)
at_firm {f = f} {g = g} p a = record { keeps_on = on; fronts = front }
  where
    front : (ts rest : List Token) → (at p ⨾ f) ts ≡ Some rest → head_has (is_on Real) ts ≡ true
    front ts rest e = let m = gone {g = f} (at p ts) e in ap (head_has (is_on Real)) (sym (place_stays p ts m.0 m.1)) ∙ a.fronts m.0 rest m.2

    on : (ts rest : List Token) → (at p ⨾ f) ts ≡ Some rest → (at p ⨾ g) (real_tokens ts) ≡ Some (real_tokens rest)
    on ts rest e = let m = gone {g = f} (at p ts) e in (λ i. goes_on (place_kept p ts m.0 (front ts rest e) m.1 i) g) ∙ a.keeps_on m.0 rest m.2

-- a token of real text is taken from both
one_firm : (test : Token → Bool) → ((t : Token) → test t ≡ true → is_on Real t ≡ true) → Firm (one test) (one test)
one_firm test real = record { keeps_on = on; fronts = front }
  where
    front : (ts rest : List Token) → one test ts ≡ Some rest → head_has (is_on Real) ts ≡ true
    front ts rest e = let m = took test ts rest e in ap (head_has (is_on Real)) m.parts ∙ real m.token m.passes

    here : (t : Token) (ts : List Token) → test t ≡ true → one test (t ∷ ts) ≡ Some ts
    here t ts h = rw h refl

    on : (ts rest : List Token) → one test ts ≡ Some rest → one test (real_tokens ts) ≡ Some (real_tokens rest)
    on ts rest e = let m = took test ts rest e in ap (λ us. one test us) (ap real_tokens m.parts ∙ stays m.token rest (real m.token m.passes)) ∙ here m.token (real_tokens rest) m.passes

pub mark_firm : (m : Punctuator) → Firm (mark Real m) (mark Real m)
unfolding mark is_mark
mark_firm m = one_firm (is_mark Real m) (λ t h. (both _ _ h).0)

pub word_firm : (k : Keyword) → Firm (word Real k) (word Real k)
unfolding word is_word
word_firm k = one_firm (is_word Real k) (λ t h. (both _ _ (both _ _ h).0).0)

pub identifier_firm : (x : List ℕ) → Firm (identifier Real x) (identifier Real x)
unfolding identifier is_name
identifier_firm x = one_firm _ (λ t h. (both _ _ (both _ _ (both _ _ h).0).0).0)

pub number_firm : (n : ℕ) (ty : IntType) → Firm (number Real n ty) (number Real n ty)
unfolding number
number_firm n ty = one_firm _ (λ t h. (both _ _ h).0)

pub character_firm : (n : ℕ) → Firm (character n) (character n)
unfolding character
character_firm n = one_firm _ (λ t h. (both _ _ h).0)

pub name_firm : (n : Name) → Firm (name Real n) (name Real n)
unfolding name
name_firm n = at_firm n.place (identifier_firm n.text)

pub optional_keeps : {A : Type 0} (w : A → Walk) → ((x : A) → Keeps (w x) (w x)) → (x : Option A) → Keeps (optional w x) (optional w x)
optional_keeps w h None = nothing_keeps
optional_keeps w h (Some x) = h x

pub each_keeps : {A : Type 0} (w : A → Walk) → ((x : A) → Keeps (w x) (w x)) → (xs : List A) → Keeps (each w xs) (each w xs)
each_keeps w h [] = nothing_keeps
each_keeps w h (x ∷ xs) = keeps_then (h x) (each_keeps w h xs)

behind_commas_keep : {A : Type 0} (w : A → Walk) → ((x : A) → Keeps (w x) (w x)) → (xs : List A) → Keeps (behind_commas Real w xs) (behind_commas Real w xs)
behind_commas_keep w h [] = nothing_keeps
behind_commas_keep w h (x ∷ xs) = keeps_then (keeps (mark_firm punctuators.Comma)) (keeps_then (h x) (behind_commas_keep w h xs))

pub separated_keeps : {A : Type 0} (w : A → Walk) → ((x : A) → Keeps (w x) (w x)) → (xs : List A) → Keeps (separated Real w xs) (separated Real w xs)
separated_keeps w h [] = nothing_keeps
separated_keeps w h (x ∷ xs) = keeps_then (h x) (behind_commas_keep w h xs)
