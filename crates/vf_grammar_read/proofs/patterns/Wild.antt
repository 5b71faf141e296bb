-- The wild pattern, told from all other tokens.
use Rattle.std.proofs.Common.{◌≡◌, Bool, true, false, ◌&&◌, List, [], ◌∷◌, length, Some, None, refl, sym, subst, ap, ◌∙◌, arith}
use Rattle.std.specs.Prelude.{ℕ, if◌then◌else◌}
use Rattle.std.specs.Str.{bytes_eq}
use Rattle.std.proofs.lemmas.Slice.Eq.{bytes_eq-Decides}
use Rattle.vf_base.specs.declared.place.Place.{Place}
use Rattle.vf_lexer.specs.declared.punctuator.Punctuator.{Punctuator}
use Rattle.vf_lexer.specs.declared.token.Kind.{Kind}
use Rattle.vf_lexer.specs.declared.token.Kind.TheVariants as kinds
use Rattle.vf_lexer.specs.declared.token.Token.{Token}
use Rattle.vf_syntax.specs.declared.side.Side.TheVariants.{Ghost}
use Rattle.vf_syntax.specs.Keywords.{spelling}
use Rattle.vf_syntax.specs.Walks.{at, head_has, is_on, is_punctuator, is_word_kind, is_wild_kind, is_mark, is_word, is_name, is_wild, wild}
use Rattle.vf_cursor.specs.Parsing.{ok, here_at, wild_at, punctuator_of, number_of, character_of, is_there}
use Rattle.vf_cursor.proofs.Facts.{ok_pair}
use Rattle.vf_grammar_read.proofs.expressions.Same.{no_true}
use Rattle.vf_grammar_read.proofs.expressions.Fronts.{Class, a_mark, a_word, a_name, a_number, a_character, Front, Took, took, at_stays}
use Rattle.vf_grammar_read.proofs.expressions.Taken.{here_read}
use Rattle.vf_grammar_read.proofs.expressions.Eaten.{Eats}

kind_marked : (b : Bool) (k : Kind) → is_there (if b then punctuator_of k else None) ≡ true → (b && is_wild_kind k) ≡ false
kind_marked true kinds.Wild h = no_true h
kind_marked true k h = refl
kind_marked false k h = refl

kind_numbered : (b : Bool) (k : Kind) → is_there (if b then number_of k else None) ≡ true → (b && is_wild_kind k) ≡ false
kind_numbered true kinds.Wild h = no_true h
kind_numbered true k h = refl
kind_numbered false k h = refl

kind_lettered : (b : Bool) (k : Kind) → is_there (if b then character_of k else None) ≡ true → (b && is_wild_kind k) ≡ false
kind_lettered true kinds.Wild h = no_true h
kind_lettered true k h = refl
kind_lettered false k h = refl

kind_worded : (b c : Bool) (k : Kind) → (b && is_word_kind k && c) ≡ true → (b && is_wild_kind k) ≡ false
kind_worded true c kinds.Wild h = no_true h
kind_worded true c k h = refl
kind_worded false c k h = refl

same_text : (x : List ℕ) → bytes_eq x x ≡ true
same_text x = (bytes_eq-Decides x x).1 refl

-- no token of a class is the wild pattern
pub unwild : (c : Class) (ts : List Token) → Front Ghost c ts → head_has is_wild ts ≡ false
unfolding is_wild is_word is_name
unwild c [] f = refl
unwild (a_mark p) (t ∷ ts) f = kind_marked (is_on Ghost t) t.kind (ap is_there f.next_is)
unwild (a_word k) (t ∷ ts) f = kind_worded (is_on Ghost t) _ t.kind (f.words_are k ∙ same_text (spelling k))
unwild a_name (t ∷ ts) f = kind_worded (is_on Ghost t) _ t.kind f.names_are
unwild a_number (t ∷ ts) f = kind_numbered (is_on Ghost t) t.kind f.numbers_are
unwild a_character (t ∷ ts) f = kind_lettered (is_on Ghost t) t.kind f.characters_are

kind_wild : (b : Bool) (k : Kind) (q : Punctuator) → (b && is_wild_kind k) ≡ true → (b && is_punctuator q k) ≡ false
kind_wild true kinds.Wild q h = refl
kind_wild true k q h = no_true h
kind_wild false k q h = refl

pub wild_took : (ts rest : List Token) → wild ts ≡ Some rest → Took is_wild ts rest
unfolding wild
wild_took ts rest h = took is_wild ts rest h

pub wild_eats : Eats wild
wild_eats = record { eat = λ ts rest e. omega (arith, ap length ((wild_took ts rest e).parts)) }

wild_heads : (t : Token) (ts : List Token) → is_wild t ≡ true → head_has is_wild (t ∷ ts) ≡ true
wild_heads t ts h = h

pub wild_head : (ts rest : List Token) → wild ts ≡ Some rest → head_has is_wild ts ≡ true
wild_head ts rest h = let t = wild_took ts rest h in subst (λ us. head_has is_wild us ≡ true) (sym t.parts) (wild_heads t.token rest t.passes)

wild_token : (t : Token) (ts : List Token) (q : Punctuator) → is_wild t ≡ true → head_has (is_mark Ghost q) (t ∷ ts) ≡ false
unfolding is_wild is_mark
wild_token t ts q h = kind_wild (is_on Ghost t) t.kind q h

-- the wild pattern is no punctuator
pub wild_marks : (ts rest : List Token) (q : Punctuator) → wild ts ≡ Some rest → head_has (is_mark Ghost q) ts ≡ false
wild_marks ts rest q h = let t = wild_took ts rest h in subst (λ us. head_has (is_mark Ghost q) us ≡ false) (sym t.parts) (wild_token t.token rest q t.passes)

wild_one : (t : Token) (ts : List Token) → is_wild t ≡ true → wild_at (t ∷ ts) ≡ ok t.place ts
unfolding wild_at
wild_one t ts h = rw h refl

here_one : (t : Token) (ts : List Token) → here_at (t ∷ ts) ≡ ok t.place (t ∷ ts)
unfolding here_at
here_one t ts = refl

pub wild_here : (p : Place) (ts us rest : List Token) → at p ts ≡ Some us → wild us ≡ Some rest → wild_at ts ≡ ok p rest
wild_here p ts us rest h0 h =
    let t = wild_took us rest h in
    let e : ts ≡ t.token ∷ rest = at_stays p ts us h0 ∙ t.parts in
    let here : here_at (t.token ∷ rest) ≡ ok p us = subst (λ vs. here_at vs ≡ ok p us) e (here_read p ts us h0) in
    let place : t.token.place ≡ p = (ok_pair t.token.place p (t.token ∷ rest) us (sym (here_one t.token rest) ∙ here)).0 in
    subst (λ vs. wild_at vs ≡ ok p rest) (sym e) (subst (λ (q : Place). wild_at (t.token ∷ rest) ≡ ok q rest) place (wild_one t.token rest t.passes))
