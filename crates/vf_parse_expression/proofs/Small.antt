-- What the smallest parsers read is spelled so.
use Rattle.std.proofs.Common.{◌≡◌, ℕ, suc, Bool, true, false, List, [], ◌∷◌, length, Option, Some, None, refl, sym, subst, ap, nat_eq}
use Rattle.std.specs.Prelude.{if◌then◌else◌}
use Rattle.std.specs.Str.{bytes_eq}
use Rattle.std.proofs.lemmas.Bool.{eq-eqb}
use Rattle.std.proofs.lemmas.Slice.Eq.{bytes_eq-Decides}
use Rattle.vf_base.specs.declared.place.Place.{Place}
use Rattle.vf_base.specs.declared.int_type.IntType.{IntType}
use Rattle.vf_lexer.specs.declared.punctuator.Punctuator.{Punctuator}
use Rattle.vf_lexer.specs.declared.token.Kind.{Kind}
use Rattle.vf_lexer.specs.declared.token.Kind.TheVariants as kinds
use Rattle.vf_lexer.specs.declared.token.Token.{Token}
use Rattle.vf_syntax.specs.declared.keyword.Keyword.{Keyword}
use Rattle.vf_syntax.specs.declared.side.Side.{Side}
use Rattle.vf_syntax.specs.declared.side.Side.TheVariants.{Real}
use Rattle.vf_syntax.specs.declared.written.Name.{Name}
use Rattle.vf_syntax.specs.Walks.{Walk, goes_on, same_place, at, is_on, is_mark, is_word, is_name, mark, word, identifier, number, character, one, type_number, is_number_kind, is_character_kind}
use Rattle.vf_syntax.specs.Written.{name}
use Rattle.vf_cursor.specs.Parsing.{ok, take_at, here_at, mark_at, word_at, name_at, number_at, character_at, number_of, character_of, told_by, found_at}
use Rattle.vf_cursor.proofs.Facts.{bind_ok, ok_pair, moved, taken}

-- one part and another behind it
pub goes : {o : Option (List Token)} {mid rest : List Token} (g : Walk) → o ≡ Some mid → g mid ≡ Some rest → goes_on o g ≡ Some rest
goes g h k = rw h k

-- a place is the same as itself
pub place_same : (p : Place) → same_place p p ≡ true
place_same p = rw (eq-eqb p.file p.file refl, eq-eqb p.line p.line refl, eq-eqb p.column p.column refl) refl

at_head : (t : Token) (ts : List Token) → at t.place (t ∷ ts) ≡ Some (t ∷ ts)
unfolding at
at_head t ts = rw (place_same t.place) refl

-- where a place was read, it stands there, and nothing was taken
pub here_walk : (ts : List Token) (p : Place) (rest : List Token) → here_at ts ≡ ok p rest → (at p ts ≡ Some rest) × (ts ≡ rest)
unfolding here_at
here_walk [] p rest e = absurd cc
here_walk (t ∷ ts) p rest e = moved (λ q r. (at q (t ∷ ts) ≡ Some r) × (t ∷ ts ≡ r)) e (at_head t ts, refl)

-- a token that passes a test was taken
one_head : (test : Token → Bool) (t : Token) (ts : List Token) → test t ≡ true → one test (t ∷ ts) ≡ Some ts
one_head test t ts h = rw h refl

-- a punctuator was read, with its place
pub mark_walk : (s : Side) (m : Punctuator) (ts : List Token) (p : Place) (rest : List Token) → mark_at s m ts ≡ ok p rest → (at p ts ≡ Some ts) × (mark s m ts ≡ Some rest)
unfolding mark_at mark
mark_walk s m ts p rest e =
    let t = bind_ok {r = take_at (is_mark s m) ts} e in
    let h = taken (is_mark s m) ts t.0.0 t.0.1 t.1 in
    moved (λ q r. (at q ts ≡ Some ts) × (one (is_mark s m) ts ≡ Some r)) t.2
    (subst (λ us. (at t.0.0.place us ≡ Some us) × (one (is_mark s m) us ≡ Some t.0.1)) (sym h.0) (at_head t.0.0 t.0.1, one_head (is_mark s m) t.0.0 t.0.1 h.1))

-- a keyword was read, with its place
pub word_walk : (s : Side) (k : Keyword) (ts : List Token) (p : Place) (rest : List Token) → word_at s k ts ≡ ok p rest → (at p ts ≡ Some ts) × (word s k ts ≡ Some rest)
unfolding word_at word
word_walk s k ts p rest e =
    let t = bind_ok {r = take_at (is_word s k) ts} e in
    let h = taken (is_word s k) ts t.0.0 t.0.1 t.1 in
    moved (λ q r. (at q ts ≡ Some ts) × (one (is_word s k) ts ≡ Some r)) t.2
    (subst (λ us. (at t.0.0.place us ≡ Some us) × (one (is_word s k) us ≡ Some t.0.1)) (sym h.0) (at_head t.0.0 t.0.1, one_head (is_word s k) t.0.0 t.0.1 h.1))

bytes_same : (a : List ℕ) → bytes_eq a a ≡ true
bytes_same a = (bytes_eq-Decides a a).1 refl

-- what was read as a name stands there
abbrev pub Named : Side → List Token → Name → List Token → Type 0
Named s ts n rest = (at n.place ts ≡ Some ts) × (identifier s n.text ts ≡ Some rest)

identifier_head : (s : Side) (t : Token) (ts : List Token) → is_name s t ≡ true → identifier s t.text (t ∷ ts) ≡ Some ts
unfolding identifier
identifier_head s t ts h = rw (h, bytes_same t.text) refl

-- a name was read
pub name_parts : (s : Side) (ts : List Token) (n : Name) (rest : List Token) → name_at s ts ≡ ok n rest → Named s ts n rest
unfolding name_at
name_parts s ts n rest e =
    let t = bind_ok {r = take_at (is_name s) ts} e in
    let h = taken (is_name s) ts t.0.0 t.0.1 t.1 in
    moved (λ m r. Named s ts m r) t.2
    (subst (λ us. Named s us (record { text = t.0.0.text; place = t.0.0.place }) t.0.1) (sym h.0) (at_head t.0.0 t.0.1, identifier_head s t.0.0 t.0.1 h.1))

-- a name was read
pub name_walk : (s : Side) (ts : List Token) (n : Name) (rest : List Token) → name_at s ts ≡ ok n rest → name s n ts ≡ Some rest
unfolding name
name_walk s ts n rest e = let h = name_parts s ts n rest e in goes (identifier s n.text) h.0 h.1

-- a value was found by the kind of the next token
pub kind_found : {A : Type 0} (s : Side) (f : Kind → Option A) (t : Token) (n : ℕ) (ts : List Token) (x : A) (rest : List Token) → found_at (told_by s f t) n ts ≡ ok x rest → (is_on s t ≡ true) × (f t.kind ≡ Some x) × (ts ≡ rest)
kind_found {A = A} s f t n ts x rest e = by_side (is_on s t) refl e
  where
    by_kind : (o : Option A) → f t.kind ≡ o → found_at o n ts ≡ ok x rest → (o ≡ Some x) × (ts ≡ rest)
    by_kind None h e = absurd cc
    by_kind (Some y) h e = let p = ok_pair y x ts rest e in (ap Some p.0, p.1)

    by_side : (b : Bool) → is_on s t ≡ b → found_at (if b then f t.kind else None) n ts ≡ ok x rest → (b ≡ true) × (f t.kind ≡ Some x) × (ts ≡ rest)
    by_side true h e = let k = by_kind (f t.kind) refl e in (refl, k.0, k.1)
    by_side false h e = absurd cc

type_same : (t : IntType) → nat_eq (type_number t) (type_number t) ≡ true
type_same t = eq-eqb (type_number t) (type_number t) refl

number_kind : (k : Kind) (n : ℕ) (t : IntType) → number_of k ≡ Some (n, t) → is_number_kind n t k ≡ true
number_kind (kinds.Number m u) n t e =
    let same : (m, u) ≡ (n, t) = cc in
    subst (λ (x : ℕ × IntType). is_number_kind x.0 x.1 (kinds.Number m u) ≡ true) same (rw (eq-eqb m m refl, type_same u) refl)
number_kind k n t e = absurd cc

character_kind : (k : Kind) (n : ℕ) → character_of k ≡ Some n → is_character_kind n k ≡ true
character_kind (kinds.Character m) n e = let same : m ≡ n = cc in eq-eqb m n same
character_kind k n e = absurd cc

-- a number and its type were read
pub number_walk : (s : Side) (ts : List Token) (x : ℕ × IntType) (rest : List Token) → number_at s ts ≡ ok x rest → number s x.0 x.1 ts ≡ Some rest
unfolding number_at number
number_walk s [] x rest e = absurd cc
number_walk s (t ∷ ts) x rest e =
    let h = kind_found s number_of t (suc (length ts)) ts x rest e in
    subst (λ r. number s x.0 x.1 (t ∷ ts) ≡ Some r) h.2 (rw (h.0, number_kind t.kind x.0 x.1 h.1) refl)

-- a character constant was read
pub character_walk : (ts : List Token) (n : ℕ) (rest : List Token) → character_at ts ≡ ok n rest → character n ts ≡ Some rest
unfolding character_at character
character_walk [] n rest e = absurd cc
character_walk (t ∷ ts) n rest e =
    let h = kind_found Real character_of t (suc (length ts)) ts n rest e in
    subst (λ r. character n (t ∷ ts) ≡ Some r) h.2 (rw (h.0, character_kind t.kind n h.1) refl)
