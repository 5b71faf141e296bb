-- What stands behind a part stood there before it.
use Rattle.std.proofs.Common.{◌≡◌, ℕ, suc, Bool, true, false, List, [], ◌∷◌, Option, Some, None, sym, subst, arith}
use Rattle.std.specs.Prelude.{Contains}
use Rattle.vf_base.specs.declared.place.Place.{Place}
use Rattle.vf_base.specs.declared.int_type.IntType.{IntType}
use Rattle.vf_lexer.specs.declared.punctuator.Punctuator.{Punctuator}
use Rattle.vf_lexer.specs.declared.token.Token.{Token}
use Rattle.vf_syntax.specs.declared.keyword.Keyword.{Keyword}
use Rattle.vf_syntax.specs.declared.side.Side.{Side}
use Rattle.vf_syntax.specs.declared.written.Name.{Name}
use Rattle.vf_syntax.specs.Walks.{Walk, ◌⨾◌, nothing, never, provided, at, one, is_mark, is_word, is_wild, mark, word, identifier, number, character, wild}
use Rattle.vf_syntax.specs.Written.{name}
use Rattle.vf_syntax.specs.Lists.{optional, each, separated, behind_commas}
use Rattle.vf_grammar_read.proofs.expressions.Same.{some_same}
use Rattle.vf_grammar_read.proofs.expressions.Fronts.{took, gone, at_stays}

-- each token that a part leaves is one of those that stood there
pub record Keeps (f : Walk) : Type 0 where
  pub keep : (ts rest : List Token) → f ts ≡ Some rest → (t : Token) → Contains rest t → Contains ts t

pub keep_then : {f g : Walk} → Keeps f → Keeps g → Keeps (f ⨾ g)
keep_then {f = f} {g = g} a b = record { keep = λ ts rest e t c. let m = gone {g = g} (f ts) e in a.keep ts m.0 m.1 t (b.keep m.0 rest m.2 t c) }

kept_same : (ts rest : List Token) → ts ≡ rest → (t : Token) → Contains rest t → Contains ts t
kept_same ts rest e t c = subst (λ us. Contains us t) (sym e) c

pub nothing_keeps : Keeps nothing
nothing_keeps = record { keep = λ ts rest e. kept_same ts rest (some_same {a = ts} {b = rest} e) }

pub never_keeps : Keeps never
never_keeps = record { keep = λ ts rest e. absurd cc }

pub provided_keeps : (b : Bool) → Keeps (provided b)
provided_keeps true = record { keep = λ ts rest e. kept_same ts rest (some_same {a = ts} {b = rest} e) }
provided_keeps false = record { keep = λ ts rest e. absurd cc }

pub at_keeps : (p : Place) → Keeps (at p)
at_keeps p = record { keep = λ ts rest e. kept_same ts rest (at_stays p ts rest e) }

behind : (u t : Token) (ts : List Token) → Contains ts t → Contains (u ∷ ts) t
behind u t ts c = (suc c.0, omega (arith, c.1), c.2)

pub one_keeps : (test : Token → Bool) → Keeps (one test)
one_keeps test = record { keep = λ ts rest e t c. let m = took test ts rest e in kept_same ts (m.token ∷ rest) m.parts t (behind m.token t rest c) }

pub mark_keeps : (s : Side) (m : Punctuator) → Keeps (mark s m)
unfolding mark
mark_keeps s m = one_keeps (is_mark s m)

pub word_keeps : (s : Side) (k : Keyword) → Keeps (word s k)
unfolding word
word_keeps s k = one_keeps (is_word s k)

pub identifier_keeps : (s : Side) (x : List ℕ) → Keeps (identifier s x)
unfolding identifier
identifier_keeps s x = one_keeps _

pub number_keeps : (s : Side) (n : ℕ) (ty : IntType) → Keeps (number s n ty)
unfolding number
number_keeps s n ty = one_keeps _

pub character_keeps : (n : ℕ) → Keeps (character n)
unfolding character
character_keeps n = one_keeps _

pub wild_keeps : Keeps wild
unfolding wild
wild_keeps = one_keeps is_wild

pub name_keeps : (s : Side) (n : Name) → Keeps (name s n)
unfolding name
name_keeps s n = keep_then {f = at n.place} {g = identifier s n.text} (at_keeps n.place) (identifier_keeps s n.text)

pub optional_keeps : {A : Type 0} (w : A → Walk) → ((x : A) → Keeps (w x)) → (x : Option A) → Keeps (optional w x)
optional_keeps w h None = nothing_keeps
optional_keeps w h (Some x) = h x

pub each_keeps : {A : Type 0} (w : A → Walk) → ((x : A) → Keeps (w x)) → (xs : List A) → Keeps (each w xs)
each_keeps w h [] = nothing_keeps
each_keeps w h (x ∷ xs) = keep_then (h x) (each_keeps w h xs)

pub behind_commas_keep : {A : Type 0} (s : Side) (w : A → Walk) → ((x : A) → Keeps (w x)) → (xs : List A) → Keeps (behind_commas s w xs)
behind_commas_keep s w h [] = nothing_keeps
behind_commas_keep s w h (x ∷ xs) = keep_then (mark_keeps s _) (keep_then (h x) (behind_commas_keep s w h xs))

pub separated_keep : {A : Type 0} (s : Side) (w : A → Walk) → ((x : A) → Keeps (w x)) → (xs : List A) → Keeps (separated s w xs)
separated_keep s w h [] = nothing_keeps
separated_keep s w h (x ∷ xs) = keep_then (h x) (behind_commas_keep s w h xs)
