-- What a part spells, the parser of that part takes.
use Rattle.std.proofs.Common.{◌≡◌, ℕ, suc, true, List, [], ◌∷◌, length, Some, None, refl, sym, subst, ◌∙◌, inl, inr}
use Rattle.std.specs.Prelude.{if◌then◌else◌}
use Rattle.vf_base.specs.declared.place.Place.{Place}
use Rattle.vf_base.specs.declared.int_type.IntType.{IntType}
use Rattle.vf_lexer.specs.declared.punctuator.Punctuator.{Punctuator}
use Rattle.vf_lexer.specs.declared.token.Kind.TheVariants as kinds
use Rattle.vf_lexer.specs.declared.token.Token.{Token}
use Rattle.vf_syntax.specs.declared.keyword.Keyword.{Keyword}
use Rattle.vf_syntax.specs.declared.side.Side.{Side}
use Rattle.vf_syntax.specs.declared.side.Side.TheVariants.{Real}
use Rattle.vf_syntax.specs.declared.written.Name.{Name}
use Rattle.vf_syntax.specs.Walks.{same_place, at, is_on, is_mark, is_word, is_name, mark, word, identifier, number, character}
use Rattle.vf_syntax.specs.Written.{name}
use Rattle.vf_cursor.specs.Parsing.{ok, here_at, mark_at, word_at, name_at, number_at, character_at, number_of, character_of, found_at}
use Rattle.vf_cursor.proofs.Facts.{chose}
use Rattle.vf_grammar_read.proofs.expressions.Same.{some_same, both, place_same}
use Rattle.vf_grammar_read.proofs.expressions.Fronts.{gone, at_stays, mark_took, word_took, identifier_took, number_took, character_took, kind_of_number, kind_of_character}

place_head : (p : Place) (t : Token) (ts us : List Token) → at p (t ∷ ts) ≡ Some us → t.place ≡ p
unfolding at
place_head p t ts us h =
    elim (chose (same_place t.place p) _ _ _ h) [
      | inl k ↦ place_same t.place p k.0
      | inr k ↦ absurd cc
    ]

pub here_read : (p : Place) (ts us : List Token) → at p ts ≡ Some us → here_at ts ≡ ok p us
unfolding here_at at
here_read p [] us h = absurd cc
here_read p (t ∷ ts) us h =
    elim (chose (same_place t.place p) _ _ _ h) [
      | inl k ↦ let place : t.place ≡ p = place_same t.place p k.0 in let rest : t ∷ ts ≡ us = some_same k.1 in λ i. ok (place i) (rest i)
      | inr k ↦ absurd cc
    ]

mark_head : (s : Side) (m : Punctuator) (t : Token) (ts : List Token) → is_mark s m t ≡ true → mark_at s m (t ∷ ts) ≡ ok t.place ts
unfolding mark_at
mark_head s m t ts h = rw h refl

pub mark_read : (s : Side) (m : Punctuator) (ts rest : List Token) → mark s m ts ≡ Some rest → (p : Place) × (mark_at s m ts ≡ ok p rest)
mark_read s m ts rest h =
    let t = mark_took s m ts rest h in
    (t.token.place, subst (λ us. mark_at s m us ≡ ok t.token.place rest) (sym t.parts) (mark_head s m t.token rest t.passes))

pub mark_here : (s : Side) (m : Punctuator) (p : Place) (ts us rest : List Token) → at p ts ≡ Some us → mark s m us ≡ Some rest → mark_at s m ts ≡ ok p rest
mark_here s m p ts us rest h0 h =
    let t = mark_took s m us rest h in
    let e : ts ≡ t.token ∷ rest = at_stays p ts us h0 ∙ t.parts in
    let place = place_head p t.token rest us (subst (λ vs. at p vs ≡ Some us) e h0) in
    subst (λ vs. mark_at s m vs ≡ ok p rest) (sym e) (subst (λ (q : Place). mark_at s m (t.token ∷ rest) ≡ ok q rest) place (mark_head s m t.token rest t.passes))

word_head : (s : Side) (k : Keyword) (t : Token) (ts : List Token) → is_word s k t ≡ true → word_at s k (t ∷ ts) ≡ ok t.place ts
unfolding word_at
word_head s k t ts h = rw h refl

pub word_read : (s : Side) (k : Keyword) (ts rest : List Token) → word s k ts ≡ Some rest → (p : Place) × (word_at s k ts ≡ ok p rest)
word_read s k ts rest h =
    let t = word_took s k ts rest h in
    (t.token.place, subst (λ us. word_at s k us ≡ ok t.token.place rest) (sym t.parts) (word_head s k t.token rest t.passes))

pub word_here : (s : Side) (k : Keyword) (p : Place) (ts us rest : List Token) → at p ts ≡ Some us → word s k us ≡ Some rest → word_at s k ts ≡ ok p rest
word_here s k p ts us rest h0 h =
    let t = word_took s k us rest h in
    let e : ts ≡ t.token ∷ rest = at_stays p ts us h0 ∙ t.parts in
    let place = place_head p t.token rest us (subst (λ vs. at p vs ≡ Some us) e h0) in
    subst (λ vs. word_at s k vs ≡ ok p rest) (sym e) (subst (λ (q : Place). word_at s k (t.token ∷ rest) ≡ ok q rest) place (word_head s k t.token rest t.passes))

-- a name, by its bytes and its place
abbrev named : List ℕ → Place → Name
named x p = record { text = x; place = p }

name_head : (s : Side) (t : Token) (ts : List Token) → is_name s t ≡ true → name_at s (t ∷ ts) ≡ ok (named t.text t.place) ts
unfolding name_at
name_head s t ts h = rw h refl

pub identifier_read : (s : Side) (x : List ℕ) (ts rest : List Token) → identifier s x ts ≡ Some rest → (p : Place) × (name_at s ts ≡ ok (record { text = x; place = p }) rest)
identifier_read s x ts rest h =
    let t = identifier_took s x ts rest h in
    (t.token.place, subst (λ us. name_at s us ≡ ok (named x t.token.place) rest) (sym t.parts) (subst (λ (y : List ℕ). name_at s (t.token ∷ rest) ≡ ok (named y t.token.place) rest) t.text_is (name_head s t.token rest t.passes)))

pub name_here : (s : Side) (x : List ℕ) (p : Place) (ts us rest : List Token) → at p ts ≡ Some us → identifier s x us ≡ Some rest → name_at s ts ≡ ok (record { text = x; place = p }) rest
name_here s x p ts us rest h0 h =
    let t = identifier_took s x us rest h in
    let e : ts ≡ t.token ∷ rest = at_stays p ts us h0 ∙ t.parts in
    let place = place_head p t.token rest us (subst (λ vs. at p vs ≡ Some us) e h0) in
    subst (λ vs. name_at s vs ≡ ok (named x p) rest) (sym e)
    (subst (λ (q : Place). name_at s (t.token ∷ rest) ≡ ok (named x q) rest) place
    (subst (λ (y : List ℕ). name_at s (t.token ∷ rest) ≡ ok (named y t.token.place) rest) t.text_is (name_head s t.token rest t.passes)))

pub name_read : (s : Side) (n : Name) (ts rest : List Token) → name s n ts ≡ Some rest → name_at s ts ≡ ok n rest
unfolding name
name_read s n ts rest h = let g = gone (at n.place ts) h in name_here s n.text n.place ts g.0 rest g.1 g.2

number_head : (s : Side) (n : ℕ) (ty : IntType) (t : Token) (ts : List Token) → is_on s t ≡ true → t.kind ≡ kinds.Number n ty → number_at s (t ∷ ts) ≡ ok (n, ty) ts
unfolding number_at
number_head s n ty t ts on kind_is = λ i. found_at (if on i then number_of (kind_is i) else None) (suc (length ts)) ts

pub number_read : (s : Side) (n : ℕ) (ty : IntType) (ts rest : List Token) → number s n ty ts ≡ Some rest → number_at s ts ≡ ok (n, ty) rest
number_read s n ty ts rest h =
    let t = number_took s n ty ts rest h in
    let b = both _ _ t.passes in
    subst (λ us. number_at s us ≡ ok (n, ty) rest) (sym t.parts) (number_head s n ty t.token rest b.0 (kind_of_number n ty t.token.kind b.1))

character_head : (n : ℕ) (t : Token) (ts : List Token) → is_on Real t ≡ true → t.kind ≡ kinds.Character n → character_at (t ∷ ts) ≡ ok n ts
unfolding character_at
character_head n t ts on kind_is = λ i. found_at (if on i then character_of (kind_is i) else None) (suc (length ts)) ts

pub character_read : (n : ℕ) (ts rest : List Token) → character n ts ≡ Some rest → character_at ts ≡ ok n rest
character_read n ts rest h =
    let t = character_took n ts rest h in
    let b = both _ _ t.passes in
    subst (λ us. character_at us ≡ ok n rest) (sym t.parts) (character_head n t.token rest b.0 (kind_of_character n t.token.kind b.1))
