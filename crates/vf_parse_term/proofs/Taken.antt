-- What the smallest parsers take is spelled by what they take.
use Rattle.std.proofs.Common.{◌≡◌, ℕ, Bool, true, false, List, [], ◌∷◌, Option, Some, None, Ok, Err, refl, sym, subst, ap, ◌∙◌, inl, inr}
use Rattle.std.specs.Prelude.{◌&&◌, nat_eq}
use Rattle.std.proofs.lemmas.Bool.{eq-eqb}
use Rattle.std.proofs.lemmas.Slice.Eq.{bytes_eq-Decides}
use Rattle.std.specs.Str.{bytes_eq}
use Rattle.vf_base.specs.declared.place.Place.{Place}
use Rattle.vf_base.specs.declared.int_type.IntType.{IntType}
use Rattle.vf_lexer.specs.declared.punctuator.Punctuator.{Punctuator}
use Rattle.vf_lexer.specs.declared.token.Kind.{Kind}
use Rattle.vf_lexer.specs.declared.token.Kind.TheVariants as kinds
use Rattle.vf_lexer.specs.declared.token.Token.{Token}
use Rattle.vf_syntax.specs.declared.keyword.Keyword.{Keyword}
use Rattle.vf_syntax.specs.declared.side.Side.{Side}
use Rattle.vf_syntax.specs.declared.written.Name.{Name}
use Rattle.vf_syntax.specs.Walks.{Walk, goes_on, ◌⨾◌, at, same_place, one, is_on, is_mark, is_word, is_name, is_wild, mark, word, wild, identifier, number, is_number_kind, type_number}
use Rattle.vf_syntax.specs.Written.{name}
use Rattle.vf_cursor.specs.declared.fault.Fault.{Fault}
use Rattle.vf_cursor.specs.Parsing.{Parser, ok, ◌>>=◌, take_at, here_at, mark_at, word_at, wild_at, name_at, number_at, number_of, told_by, kind_at, found_at}
use Rattle.vf_cursor.proofs.Facts.{bind_ok, ok_pair, moved, chose, no_true, taken}

same_places : (p : Place) → same_place p p ≡ true
same_places p = rw (eq-eqb p.file p.file refl, eq-eqb p.line p.line refl, eq-eqb p.column p.column refl) refl

same_texts : (x : List ℕ) → bytes_eq x x ≡ true
same_texts x = (bytes_eq-Decides x x).1 refl

-- the place of the next token is where it stands
pub at_head : (t : Token) (ts : List Token) → at t.place (t ∷ ts) ≡ Some (t ∷ ts)
unfolding at
at_head t ts = rw (same_places t.place) refl

one_of : (test : Token → Bool) (ts : List Token) (t : Token) (mid : List Token) → take_at test ts ≡ ok t mid → one test ts ≡ Some mid
one_of test [] t mid e = absurd cc
one_of test (s ∷ ts) t mid e =
    elim (chose (test s) (ok s ts) (Err _) _ e) [
      | inl h ↦ rw h.0 (ap (λ (r : List Token). Some r) (ok_pair s t ts mid h.1).1)
      | inr h ↦ absurd cc
    ]

at_taken : (test : Token → Bool) (ts : List Token) (t : Token) (mid : List Token) → take_at test ts ≡ ok t mid → at t.place ts ≡ Some ts
at_taken test ts t mid e = subst (λ (r : List Token). at t.place r ≡ Some r) (sym (taken test ts t mid e).0) (at_head t mid)

pub here_sound : (ts : List Token) (p : Place) (rest : List Token) → here_at ts ≡ ok p rest → (rest ≡ ts) × (at p ts ≡ Some ts)
unfolding here_at
here_sound [] p rest e = absurd cc
here_sound (t ∷ ts) p rest e =
    let q = ok_pair t.place p (t ∷ ts) rest e in
    (sym q.1, subst (λ (y : Place). at y (t ∷ ts) ≡ Some (t ∷ ts)) q.0 (at_head t ts))

-- what is taken by a test, and gives its place
place_sound : (test : Token → Bool) (ts : List Token) (p : Place) (rest : List Token) → (take_at test ts >>= λ x. ok x.0.place x.1) ≡ ok p rest → (one test ts ≡ Some rest) × (at p ts ≡ Some ts)
place_sound test ts p rest e =
    let x = bind_ok {r = take_at test ts} e in
    let q = ok_pair x.0.0.place p x.0.1 rest x.2 in
    (subst (λ (r : List Token). one test ts ≡ Some r) q.1 (one_of test ts x.0.0 x.0.1 x.1), subst (λ (y : Place). at y ts ≡ Some ts) q.0 (at_taken test ts x.0.0 x.0.1 x.1))

pub mark_sound : (s : Side) (m : Punctuator) (ts : List Token) (p : Place) (rest : List Token) → mark_at s m ts ≡ ok p rest → (mark s m ts ≡ Some rest) × (at p ts ≡ Some ts)
unfolding mark_at mark
mark_sound s m ts p rest e = place_sound (is_mark s m) ts p rest e

pub word_sound : (s : Side) (k : Keyword) (ts : List Token) (p : Place) (rest : List Token) → word_at s k ts ≡ ok p rest → (word s k ts ≡ Some rest) × (at p ts ≡ Some ts)
unfolding word_at word
word_sound s k ts p rest e = place_sound (is_word s k) ts p rest e

pub wild_sound : (ts : List Token) (p : Place) (rest : List Token) → wild_at ts ≡ ok p rest → (wild ts ≡ Some rest) × (at p ts ≡ Some ts)
unfolding wild_at wild
wild_sound ts p rest e = place_sound is_wild ts p rest e

named_one : (s : Side) (t : Token) (ts : List Token) → is_name s t ≡ true → identifier s t.text (t ∷ ts) ≡ Some ts
unfolding identifier
named_one s t ts h = rw (h, same_texts t.text) refl

pub name_sound : (s : Side) (ts : List Token) (n : Name) (rest : List Token) → name_at s ts ≡ ok n rest → (name s n ts ≡ Some rest) × (at n.place ts ≡ Some ts) × (identifier s n.text ts ≡ Some rest)
unfolding name_at name
name_sound s ts n rest e =
    let x = bind_ok {r = take_at (is_name s) ts} e in
    let t = taken (is_name s) ts x.0.0 x.0.1 x.1 in
    let here = at_taken (is_name s) ts x.0.0 x.0.1 x.1 in
    let spelled = subst (λ (r : List Token). identifier s x.0.0.text r ≡ Some x.0.1) (sym t.0) (named_one s x.0.0 x.0.1 t.1) in
    moved (λ (y : Name) r. (name s y ts ≡ Some r) × (at y.place ts ≡ Some ts) × (identifier s y.text ts ≡ Some r)) x.2 (rw (here, spelled) refl, here, spelled)

number_kind : (k : Kind) (x : ℕ × IntType) → number_of k ≡ Some x → is_number_kind x.0 x.1 k ≡ true
number_kind (kinds.Number n t) x e =
    let h : (n, t) ≡ x = cc in
    subst (λ (y : ℕ × IntType). is_number_kind y.0 y.1 (kinds.Number n t) ≡ true) h (rw (eq-eqb n n refl, eq-eqb (type_number t) (type_number t) refl) refl)
number_kind k x e = absurd cc

told : (s : Side) (t : Token) (o : Option (ℕ × IntType)) (n : ℕ) (ts : List Token) (x : ℕ × IntType) (rest : List Token) → told_by s number_of t ≡ o → found_at o n ts ≡ ok x rest → number s x.0 x.1 (t ∷ ts) ≡ Some rest
unfolding number
told s t None n ts x rest h e = absurd cc
told s t (Some y) n ts x rest h e =
    elim (chose (is_on s t) (number_of t.kind) None _ h) [
      | inl g ↦ moved (λ (z : ℕ × IntType) r. number s z.0 z.1 (t ∷ ts) ≡ Some r) e (rw (g.0, number_kind t.kind y g.1) refl)
      | inr g ↦ absurd cc
    ]

pub number_sound : (s : Side) (ts : List Token) (x : ℕ × IntType) (rest : List Token) → number_at s ts ≡ ok x rest → number s x.0 x.1 ts ≡ Some rest
unfolding number_at
number_sound s [] x rest e = absurd cc
number_sound s (t ∷ ts) x rest e = told s t (told_by s number_of t) _ ts x rest refl e
