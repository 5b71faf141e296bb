-- What the token in front of a part tells: each test on it is told by what the token is.
use Rattle.std.proofs.Common.{◌≡◌, ℕ, Bool, true, false, not, ◌&&◌, List, [], ◌∷◌, Option, Some, None, refl, sym, ap, subst, ◌∙◌, inl, inr}
use Rattle.std.specs.Prelude.{if◌then◌else◌}
use Rattle.std.specs.Str.{bytes_eq}
use Rattle.std.proofs.lemmas.Bool.{eqb-true, false_from_ne_true}
use Rattle.vf_base.specs.declared.place.Place.{Place}
use Rattle.vf_base.specs.declared.int_type.IntType.{IntType}
use Rattle.vf_lexer.specs.declared.punctuator.Punctuator.{Punctuator}
use Rattle.vf_lexer.specs.declared.token.Kind.{Kind}
use Rattle.vf_lexer.specs.declared.token.Kind.TheVariants as kinds
use Rattle.vf_lexer.specs.declared.token.Token.{Token}
use Rattle.vf_lexer.specs.Punctuators as marks
use Rattle.vf_syntax.specs.declared.keyword.Keyword.{Keyword}
use Rattle.vf_syntax.specs.declared.side.Side.{Side}
use Rattle.vf_syntax.specs.declared.side.Side.TheVariants.{Real}
use Rattle.vf_syntax.specs.Keywords.{spelling, is_keyword}
use Rattle.vf_syntax.specs.Walks.{Walk, goes_on, same_place, at, one, is_on, is_punctuator, is_word_kind, is_mark, is_word, is_name, is_number_kind, is_character_kind, head_has, mark, word, identifier, number, character}
use Rattle.vf_cursor.specs.Parsing.{is_there, next_by, punctuator_of, number_of, character_of}
use Rattle.vf_cursor.specs.Types.{next_mark}
use Rattle.vf_cursor.proofs.Facts.{chose}
use Rattle.vf_grammar_read.proofs.expressions.Same.{some_same, no_true, both, text_same, mark_same, keyword_is, type_same}

-- what a token is
pub data Class : Type 0 where
  a_mark : Punctuator → Class
  a_word : Keyword → Class
  a_name : Class
  a_number : Class
  a_character : Class

-- a token of a class is a punctuator
abbrev pub class_mark : Class → Punctuator → Bool
class_mark (a_mark p) q = bytes_eq (marks.spelling p) (marks.spelling q)
class_mark c q = false

-- a token of a class is a keyword
abbrev pub class_word : Class → Keyword → Bool
class_word (a_word k) j = bytes_eq (spelling k) (spelling j)
class_word c j = false

-- a token of a class is a name
abbrev pub class_name : Class → Bool
class_name a_name = true
class_name c = false

-- the punctuator that a token of a class is
abbrev pub class_next : Class → Option Punctuator
class_next (a_mark p) = Some p
class_next c = None

-- a token of a class is a number
abbrev pub class_number : Class → Bool
class_number a_number = true
class_number c = false

-- a token of a class is a character constant
abbrev pub class_character : Class → Bool
class_character a_character = true
class_character c = false

-- the token in front is of a class
pub record Front (s : Side) (c : Class) (ts : List Token) : Type 0 where
  pub marks_are : (q : Punctuator) → head_has (is_mark s q) ts ≡ class_mark c q
  pub words_are : (k : Keyword) → head_has (is_word s k) ts ≡ class_word c k
  pub names_are : head_has (is_name s) ts ≡ class_name c
  pub next_is : next_mark s ts ≡ class_next c
  pub numbers_are : is_there (next_by s number_of ts) ≡ class_number c
  pub characters_are : is_there (next_by s character_of ts) ≡ class_character c
  pub side_is : head_has (is_on s) ts ≡ true

-- a token of a kind of text, of a kind and with a text
record Whole (s : Side) (k : Kind) (x : List ℕ) (t : Token) : Type 0 where
  on : is_on s t ≡ true
  kind_is : t.kind ≡ k
  text_is : t.text ≡ x

kind_of_mark : (p : Punctuator) (k : Kind) → is_punctuator p k ≡ true → k ≡ kinds.Punctuator p
kind_of_mark p (kinds.Punctuator q) h = ap kinds.Punctuator (mark_same q p h)
kind_of_mark p k h = no_true h

kind_of_word : (k : Kind) → is_word_kind k ≡ true → k ≡ kinds.Name
kind_of_word kinds.Name h = refl
kind_of_word k h = no_true h

-- a name is no keyword
no_keyword : (x : List ℕ) (k : Keyword) → not (is_keyword x) ≡ true → bytes_eq x (spelling k) ≡ false
no_keyword x k h = false_from_ne_true (bytes_eq x (spelling k)) (λ e. no_true (sym (ap (λ z. not (is_keyword z)) (text_same x (spelling k) e) ∙ ap not (keyword_is k)) ∙ h))

mark_whole : (s : Side) (p : Punctuator) (t : Token) (ts : List Token) (x : List ℕ) → Whole s (kinds.Punctuator p) x t → Front s (a_mark p) (t ∷ ts)
unfolding is_mark is_word is_name
mark_whole s p t ts x w = record {
  marks_are = λ q i. w.on i && is_punctuator q (w.kind_is i);
  words_are = λ k i. w.on i && is_word_kind (w.kind_is i) && bytes_eq t.text (spelling k);
  names_are = λ i. w.on i && is_word_kind (w.kind_is i) && not (is_keyword t.text);
  next_is = λ i. if w.on i then punctuator_of (w.kind_is i) else None;
  numbers_are = λ i. is_there (if w.on i then number_of (w.kind_is i) else None);
  characters_are = λ i. is_there (if w.on i then character_of (w.kind_is i) else None);
  side_is = w.on;
}

word_whole : (s : Side) (k : Keyword) (t : Token) (ts : List Token) → Whole s kinds.Name (spelling k) t → Front s (a_word k) (t ∷ ts)
unfolding is_mark is_word is_name
word_whole s k t ts w = record {
  marks_are = λ q i. w.on i && is_punctuator q (w.kind_is i);
  words_are = λ j i. w.on i && is_word_kind (w.kind_is i) && bytes_eq (w.text_is i) (spelling j);
  names_are = (λ i. w.on i && is_word_kind (w.kind_is i) && not (is_keyword (w.text_is i))) ∙ ap not (keyword_is k);
  next_is = λ i. if w.on i then punctuator_of (w.kind_is i) else None;
  numbers_are = λ i. is_there (if w.on i then number_of (w.kind_is i) else None);
  characters_are = λ i. is_there (if w.on i then character_of (w.kind_is i) else None);
  side_is = w.on;
}

name_whole : (s : Side) (t : Token) (ts : List Token) (x : List ℕ) → Whole s kinds.Name x t → not (is_keyword t.text) ≡ true → Front s a_name (t ∷ ts)
unfolding is_mark is_word is_name
name_whole s t ts x w h = record {
  marks_are = λ q i. w.on i && is_punctuator q (w.kind_is i);
  words_are = λ j i. w.on i && is_word_kind (w.kind_is i) && no_keyword t.text j h i;
  names_are = λ i. w.on i && is_word_kind (w.kind_is i) && h i;
  next_is = λ i. if w.on i then punctuator_of (w.kind_is i) else None;
  numbers_are = λ i. is_there (if w.on i then number_of (w.kind_is i) else None);
  characters_are = λ i. is_there (if w.on i then character_of (w.kind_is i) else None);
  side_is = w.on;
}

number_whole : (s : Side) (n : ℕ) (ty : IntType) (t : Token) (ts : List Token) (x : List ℕ) → Whole s (kinds.Number n ty) x t → Front s a_number (t ∷ ts)
unfolding is_mark is_word is_name
number_whole s n ty t ts x w = record {
  marks_are = λ q i. w.on i && is_punctuator q (w.kind_is i);
  words_are = λ k i. w.on i && is_word_kind (w.kind_is i) && bytes_eq t.text (spelling k);
  names_are = λ i. w.on i && is_word_kind (w.kind_is i) && not (is_keyword t.text);
  next_is = λ i. if w.on i then punctuator_of (w.kind_is i) else None;
  numbers_are = λ i. is_there (if w.on i then number_of (w.kind_is i) else None);
  characters_are = λ i. is_there (if w.on i then character_of (w.kind_is i) else None);
  side_is = w.on;
}

character_whole : (s : Side) (n : ℕ) (t : Token) (ts : List Token) (x : List ℕ) → Whole s (kinds.Character n) x t → Front s a_character (t ∷ ts)
unfolding is_mark is_word is_name
character_whole s n t ts x w = record {
  marks_are = λ q i. w.on i && is_punctuator q (w.kind_is i);
  words_are = λ k i. w.on i && is_word_kind (w.kind_is i) && bytes_eq t.text (spelling k);
  names_are = λ i. w.on i && is_word_kind (w.kind_is i) && not (is_keyword t.text);
  next_is = λ i. if w.on i then punctuator_of (w.kind_is i) else None;
  numbers_are = λ i. is_there (if w.on i then number_of (w.kind_is i) else None);
  characters_are = λ i. is_there (if w.on i then character_of (w.kind_is i) else None);
  side_is = w.on;
}

-- a token that was taken by a test
pub record Took (test : Token → Bool) (ts rest : List Token) : Type 0 where
  pub token : Token
  pub parts : ts ≡ token ∷ rest
  pub passes : test token ≡ true

pub took : (test : Token → Bool) (ts rest : List Token) → one test ts ≡ Some rest → Took test ts rest
took test [] rest h = absurd cc
took test (t ∷ ts) rest h =
    elim (chose (test t) _ _ _ h) [
      | inl k ↦ record { token = t; parts = ap (λ (us : List Token). t ∷ us) (some_same k.1); passes = k.0 }
      | inr k ↦ absurd cc
    ]

pub mark_took : (s : Side) (p : Punctuator) (ts rest : List Token) → mark s p ts ≡ Some rest → Took (is_mark s p) ts rest
unfolding mark
mark_took s p ts rest h = took (is_mark s p) ts rest h

pub word_took : (s : Side) (k : Keyword) (ts rest : List Token) → word s k ts ≡ Some rest → Took (is_word s k) ts rest
unfolding word
word_took s k ts rest h = took (is_word s k) ts rest h

-- a name was taken, and it is written so
pub record Called (s : Side) (x : List ℕ) (ts rest : List Token) : Type 0 where
  pub token : Token
  pub parts : ts ≡ token ∷ rest
  pub passes : is_name s token ≡ true
  pub text_is : token.text ≡ x

pub identifier_took : (s : Side) (x : List ℕ) (ts rest : List Token) → identifier s x ts ≡ Some rest → Called s x ts rest
unfolding identifier
identifier_took s x ts rest h =
    let t = took (λ t. is_name s t && bytes_eq t.text x) ts rest h in
    let b = both _ _ t.passes in
    record { token = t.token; parts = t.parts; passes = b.0; text_is = text_same t.token.text x b.1 }

pub mark_front : (s : Side) (p : Punctuator) (ts rest : List Token) → mark s p ts ≡ Some rest → Front s (a_mark p) ts
unfolding is_mark
mark_front s p ts rest h =
    let t = mark_took s p ts rest h in
    let b = both _ _ t.passes in
    subst (λ us. Front s (a_mark p) us) (sym t.parts) (mark_whole s p t.token rest t.token.text (record { on = b.0; kind_is = kind_of_mark p t.token.kind b.1; text_is = refl }))

pub word_front : (s : Side) (k : Keyword) (ts rest : List Token) → word s k ts ≡ Some rest → Front s (a_word k) ts
unfolding is_word
word_front s k ts rest h =
    let t = word_took s k ts rest h in
    let b = both _ _ t.passes in
    let c = both _ _ b.0 in
    subst (λ us. Front s (a_word k) us) (sym t.parts) (word_whole s k t.token rest (record { on = c.0; kind_is = kind_of_word t.token.kind c.1; text_is = text_same t.token.text (spelling k) b.1 }))

pub identifier_front : (s : Side) (x : List ℕ) (ts rest : List Token) → identifier s x ts ≡ Some rest → Front s a_name ts
unfolding is_name
identifier_front s x ts rest h =
    let t = identifier_took s x ts rest h in
    let b = both _ _ t.passes in
    let c = both _ _ b.0 in
    subst (λ us. Front s a_name us) (sym t.parts) (name_whole s t.token rest t.token.text (record { on = c.0; kind_is = kind_of_word t.token.kind c.1; text_is = refl }) b.1)

pub kind_of_number : (n : ℕ) (ty : IntType) (k : Kind) → is_number_kind n ty k ≡ true → k ≡ kinds.Number n ty
kind_of_number n ty (kinds.Number m u) h =
    let b = both _ _ h in
    let value : m ≡ n = eqb-true m n b.0 in
    let type_is : u ≡ ty = type_same u ty b.1 in
    λ i. kinds.Number (value i) (type_is i)
kind_of_number n ty k h = no_true h

pub kind_of_character : (n : ℕ) (k : Kind) → is_character_kind n k ≡ true → k ≡ kinds.Character n
kind_of_character n (kinds.Character m) h = ap kinds.Character (eqb-true m n h)
kind_of_character n k h = no_true h

pub number_took : (s : Side) (n : ℕ) (ty : IntType) (ts rest : List Token) → number s n ty ts ≡ Some rest → Took (λ t. is_on s t && is_number_kind n ty t.kind) ts rest
unfolding number
number_took s n ty ts rest h = took (λ t. is_on s t && is_number_kind n ty t.kind) ts rest h

pub character_took : (n : ℕ) (ts rest : List Token) → character n ts ≡ Some rest → Took (λ t. is_on Real t && is_character_kind n t.kind) ts rest
unfolding character
character_took n ts rest h = took (λ t. is_on Real t && is_character_kind n t.kind) ts rest h

pub number_front : (s : Side) (n : ℕ) (ty : IntType) (ts rest : List Token) → number s n ty ts ≡ Some rest → Front s a_number ts
number_front s n ty ts rest h =
    let t = number_took s n ty ts rest h in
    let b = both _ _ t.passes in
    subst (λ us. Front s a_number us) (sym t.parts) (number_whole s n ty t.token rest t.token.text (record { on = b.0; kind_is = kind_of_number n ty t.token.kind b.1; text_is = refl }))

pub character_front : (n : ℕ) (ts rest : List Token) → character n ts ≡ Some rest → Front Real a_character ts
character_front n ts rest h =
    let t = character_took n ts rest h in
    let b = both _ _ t.passes in
    subst (λ us. Front Real a_character us) (sym t.parts) (character_whole Real n t.token rest t.token.text (record { on = b.0; kind_is = kind_of_character n t.token.kind b.1; text_is = refl }))

-- a part and what stands behind it were taken one after the other
pub gone : {g : Walk} {rest : List Token} (o : Option (List Token)) → goes_on o g ≡ Some rest → (mid : List Token) × (o ≡ Some mid) × (g mid ≡ Some rest)
gone None e = absurd cc
gone (Some ts) e = (ts, refl, e)

-- at a place nothing is taken
pub at_stays : (p : Place) (ts us : List Token) → at p ts ≡ Some us → ts ≡ us
unfolding at
at_stays p [] us h = absurd cc
at_stays p (t ∷ ts) us h =
    elim (chose (same_place t.place p) _ _ _ h) [
      | inl k ↦ some_same k.1
      | inr k ↦ absurd cc
    ]
