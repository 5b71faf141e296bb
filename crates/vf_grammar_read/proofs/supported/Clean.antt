-- Walks that take no token that is refused by name.
use Rattle.std.proofs.Common.{◌≡◌, ℕ, Bool, true, false, not, ◌&&◌, List, [], ◌∷◌, Option, Some, None, refl, sym, ap, ◌∙◌}
use Rattle.std.specs.Prelude.{if◌then◌else◌}
use Rattle.std.specs.List.{list_any}
use Rattle.std.specs.Str.{bytes_eq}
use Rattle.std.proofs.lemmas.Bool.{false_from_ne_true}
use Rattle.vf_base.specs.declared.place.Place.{Place}
use Rattle.vf_base.specs.declared.int_type.IntType.{IntType}
use Rattle.vf_lexer.specs.declared.punctuator.Punctuator.{Punctuator}
use Rattle.vf_lexer.specs.declared.punctuator.Punctuator.TheVariants as punctuators
use Rattle.vf_lexer.specs.declared.token.Kind.{Kind}
use Rattle.vf_lexer.specs.declared.token.Kind.TheVariants as kinds
use Rattle.vf_lexer.specs.declared.token.Token.{Token}
use Rattle.vf_syntax.specs.declared.keyword.Keyword.{Keyword}
use Rattle.vf_syntax.specs.declared.side.Side.{Side}
use Rattle.vf_syntax.specs.declared.written.Name.{Name}
use Rattle.vf_syntax.specs.Keywords.{spelling, is_spelled, is_keyword}
use Rattle.vf_syntax.specs.Walks.{Walk, ◌⨾◌, nothing, never, provided, at, is_punctuator, is_word_kind, is_mark, is_word, is_name, mark, word, identifier, number, character}
use Rattle.vf_syntax.specs.Written.{name}
use Rattle.vf_syntax.specs.Lists.{optional, each, separated, behind_commas}
use Rattle.vf_parse_real.specs.Units.{real_tokens}
use Rattle.vf_parse_real.specs.Unsupported.{unsupported_words, is_unsupported_mark, is_unsupported_kind, is_unsupported, first_unsupported}
use Rattle.vf_grammar_read.proofs.expressions.Same.{some_same, no_true, both, text_same, mark_same, keyword_is}
use Rattle.vf_grammar_read.proofs.expressions.Fronts.{gone, at_stays, mark_took, word_took, identifier_took, number_took, character_took, kind_of_number, kind_of_character}
use Rattle.vf_grammar_read.proofs.supported.Unseen.{Unseen}

-- no token that a part takes is refused by name
pub record Clean (f : Walk) : Type 0 where
  pub clean : (ts rest : List Token) → f ts ≡ Some rest → first_unsupported ts ≡ first_unsupported rest

pub clean_then : {f g : Walk} → Clean f → Clean g → Clean (f ⨾ g)
clean_then {f = f} {g = g} a b = record { clean = λ ts rest e. let m = gone {g = g} (f ts) e in a.clean ts m.0 m.1 ∙ b.clean m.0 rest m.2 }

pub nothing_clean : Clean nothing
nothing_clean = record { clean = λ ts rest e. ap first_unsupported (some_same {a = ts} {b = rest} e) }

pub never_clean : Clean never
never_clean = record { clean = λ ts rest e. absurd cc }

pub provided_clean : (b : Bool) → Clean (provided b)
provided_clean true = record { clean = λ ts rest e. ap first_unsupported (some_same {a = ts} {b = rest} e) }
provided_clean false = record { clean = λ ts rest e. absurd cc }

pub at_clean : (p : Place) → Clean (at p)
at_clean p = record { clean = λ ts rest e. ap first_unsupported (at_stays p ts rest e) }

and_right : (a b : Bool) → b ≡ false → (a && b) ≡ false
and_right true b h = h
and_right false b h = refl

-- a token that is not refused goes
passed : (t : Token) (ts rest : List Token) → ts ≡ t ∷ rest → is_unsupported t ≡ false → first_unsupported ts ≡ first_unsupported rest
passed t ts rest same h = ap first_unsupported same ∙ by_test
  where
    by_test : first_unsupported (t ∷ rest) ≡ first_unsupported rest
    by_test = rw h refl

-- a token of a kind and a text that are not refused
kind_passes : (t : Token) (k : Kind) (x : List ℕ) → t.kind ≡ k → t.text ≡ x → is_unsupported_kind k x ≡ false → is_unsupported t ≡ false
unfolding is_unsupported
kind_passes t k x one two h = and_right (not t.is_ghost) _ ((λ i. is_unsupported_kind (one i) (two i)) ∙ h)

kind_of_mark : (p : Punctuator) (k : Kind) → is_punctuator p k ≡ true → k ≡ kinds.Punctuator p
kind_of_mark p (kinds.Punctuator q) h = ap kinds.Punctuator (mark_same q p h)
kind_of_mark p k h = no_true h

kind_of_word : (k : Kind) → is_word_kind k ≡ true → k ≡ kinds.Name
kind_of_word kinds.Name h = refl
kind_of_word k h = no_true h

pub mark_clean : (s : Side) (m : Punctuator) → is_unsupported_mark m ≡ false → Clean (mark s m)
unfolding is_mark
mark_clean s m h = record { clean = λ ts rest e. let t = mark_took s m ts rest e in passed t.token ts rest t.parts (kind_passes t.token (kinds.Punctuator m) t.token.text (kind_of_mark m t.token.kind (both _ _ t.passes).1) refl h) }

pub word_clean : (s : Side) (k : Keyword) → list_any (is_spelled (spelling k)) unsupported_words ≡ false → Clean (word s k)
unfolding is_word
word_clean s k h = record { clean = λ ts rest e. let t = word_took s k ts rest e in let b = both _ _ t.passes in let c = both _ _ b.0 in passed t.token ts rest t.parts (kind_passes t.token kinds.Name (spelling k) (kind_of_word t.token.kind c.1) (text_same t.token.text (spelling k) b.1) h) }

-- a name is no keyword
no_keyword : (x : List ℕ) (k : Keyword) → not (is_keyword x) ≡ true → is_spelled x k ≡ false
no_keyword x k h = false_from_ne_true (bytes_eq x (spelling k)) (λ e. no_true (sym (ap (λ z. not (is_keyword z)) (text_same x (spelling k) e) ∙ ap not (keyword_is k)) ∙ h))

no_words : (x : List ℕ) (ks : List Keyword) → not (is_keyword x) ≡ true → list_any (is_spelled x) ks ≡ false
no_words x [] h = refl
no_words x (k ∷ ks) h = rw (no_keyword x k h) (no_words x ks h)

pub identifier_clean : (s : Side) (x : List ℕ) → Clean (identifier s x)
unfolding is_name
identifier_clean s x = record { clean = λ ts rest e. let t = identifier_took s x ts rest e in let b = both _ _ t.passes in let c = both _ _ b.0 in passed t.token ts rest t.parts (kind_passes t.token kinds.Name t.token.text (kind_of_word t.token.kind c.1) refl (no_words t.token.text unsupported_words b.1)) }

pub number_clean : (s : Side) (n : ℕ) (ty : IntType) → Clean (number s n ty)
number_clean s n ty = record { clean = λ ts rest e. let t = number_took s n ty ts rest e in passed t.token ts rest t.parts (kind_passes t.token (kinds.Number n ty) t.token.text (kind_of_number n ty t.token.kind (both _ _ t.passes).1) refl refl) }

pub character_clean : (n : ℕ) → Clean (character n)
character_clean n = record { clean = λ ts rest e. let t = character_took n ts rest e in passed t.token ts rest t.parts (kind_passes t.token (kinds.Character n) t.token.text (kind_of_character n t.token.kind (both _ _ t.passes).1) refl refl) }

pub name_clean : (s : Side) (n : Name) → Clean (name s n)
unfolding name
name_clean s n = clean_then {f = at n.place} {g = identifier s n.text} (at_clean n.place) (identifier_clean s n.text)

pub optional_clean : {A : Type 0} (w : A → Walk) → ((x : A) → Clean (w x)) → (x : Option A) → Clean (optional w x)
optional_clean w h None = nothing_clean
optional_clean w h (Some x) = h x

pub each_clean : {A : Type 0} (w : A → Walk) → ((x : A) → Clean (w x)) → (xs : List A) → Clean (each w xs)
each_clean w h [] = nothing_clean
each_clean w h (x ∷ xs) = clean_then (h x) (each_clean w h xs)

pub behind_commas_clean : {A : Type 0} (s : Side) (w : A → Walk) → ((x : A) → Clean (w x)) → (xs : List A) → Clean (behind_commas s w xs)
behind_commas_clean s w h [] = nothing_clean
behind_commas_clean s w h (x ∷ xs) = clean_then (mark_clean s punctuators.Comma refl) (clean_then (h x) (behind_commas_clean s w h xs))

pub separated_clean : {A : Type 0} (s : Side) (w : A → Walk) → ((x : A) → Clean (w x)) → (xs : List A) → Clean (separated s w xs)
separated_clean s w h [] = nothing_clean
separated_clean s w h (x ∷ xs) = clean_then (h x) (behind_commas_clean s w h xs)

-- a token and its kind of text, told apart
real_by : (b : Bool) (t : Token) (ts : List Token) → t.is_ghost ≡ b → first_unsupported ts ≡ first_unsupported (real_tokens ts) → first_unsupported (t ∷ ts) ≡ first_unsupported (real_tokens (t ∷ ts))
unfolding is_unsupported
real_by true t ts e h = rw e h
real_by false t ts e h = rw e (λ i. if is_unsupported_kind t.kind t.text then Some t.place else h i)

-- the tokens of real text hold the first token that is refused by name, if there is one
pub real_supported : (ts : List Token) → first_unsupported ts ≡ first_unsupported (real_tokens ts)
real_supported [] = refl
real_supported (t ∷ ts) = real_by t.is_ghost t ts refl (real_supported ts)

-- no token of ghost text is refused by name
pub unseen_clean : {f : Walk} → Unseen f → Clean f
unseen_clean a = record { clean = λ ts rest e. real_supported ts ∙ ap first_unsupported (a.unseen ts rest e) ∙ sym (real_supported rest) }
