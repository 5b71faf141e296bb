-- Whatever is held, a library that tells it tells tokens of which the names are words.
use Rattle.std.proofs.Common.{◌≡◌, ℕ, Bool, true, false, ◌&&◌, List, [], ◌∷◌, refl, ap, subst, ◌∙◌}
use Rattle.std.specs.Prelude.{if◌then◌else◌}
use Rattle.std.specs.List.{list_all}
use Rattle.vf_lexer.specs.declared.token.Kind.{Kind}
use Rattle.vf_lexer.specs.declared.token.Kind.TheVariants as kinds
use Rattle.vf_lexer.specs.declared.token.Token.{Token}
use Rattle.vf_lexer.specs.Bytes.{is_letter, is_word_byte}
use Rattle.vf_lexer.specs.Spellings.{IsWord}
use Rattle.vf_snapshot.specs.declared.held.Held.{Held}
use Rattle.vf_snapshot.specs.declared.held.Held.TheVariants as known
use Rattle.vf_snapshot.specs.Holdings.{Holdings}
use Rattle.vf_preproc.specs.Targets.{is_ghost_path}
use Rattle.vf_preproc.specs.UnitText.{Absent, Faulty, Library, Source, Text, TooLong, Unknown}
use Rattle.vf_preproc.specs.Units.{Tells, TellsOf}
use Rattle.vf_expand.proofs.Telling.{told}
use Rattle.vf_grammar_read.proofs.expressions.Same.{no_true, both}
use Rattle.vf_fixpoint_laws.specs.identifiers.Names.{NamesAreWords, TellsWords}
use Rattle.vf_fixpoint_laws.proofs.identifiers.Lexed.{text_words}

-- ---- a test of words
-- a text is a word
abbrev is_word : List ℕ → Bool
is_word [] = false
is_word (b ∷ bs) = is_letter b && list_all is_word_byte bs

-- a text is a word, where it is that of a name
abbrev is_word_if : Kind → List ℕ → Bool
is_word_if kinds.Name x = is_word x
is_word_if k x = true

-- the names among tokens are words
abbrev are_words : List Token → Bool
are_words [] = true
are_words (t ∷ ts) = is_word_if t.kind t.text && are_words ts

all_true : (a b : Bool) → a ≡ true → b ≡ true → (a && b) ≡ true
all_true true b h k = k
all_true false b h k = no_true h

is_a_word : (x : List ℕ) → is_word x ≡ true → IsWord x
is_a_word [] h = no_true h
is_a_word (b ∷ bs) h = both (is_letter b) (list_all is_word_byte bs) h

word_passes : (x : List ℕ) → IsWord x → is_word x ≡ true
word_passes [] h = absurd h
word_passes (b ∷ bs) h = all_true (is_letter b) (list_all is_word_byte bs) h.0 h.1

is_if : (k : Kind) (x : List ℕ) → is_word_if k x ≡ true → k ≡ kinds.Name → IsWord x
is_if k x h e = is_a_word x (subst (λ j. is_word_if j x ≡ true) e h)

passes_if : (k : Kind) (x : List ℕ) → (k ≡ kinds.Name → IsWord x) → is_word_if k x ≡ true
passes_if kinds.Name x h = word_passes x (h refl)
passes_if k x h = refl

are_written : (ts : List Token) → are_words ts ≡ true → NamesAreWords ts
are_written [] h = tt
are_written (t ∷ ts) h = let b = both (is_word_if t.kind t.text) (are_words ts) h in (is_if t.kind t.text b.0, are_written ts b.1)

all_pass : (ts : List Token) → NamesAreWords ts → are_words ts ≡ true
all_pass [] h = refl
all_pass (t ∷ ts) h = all_true (is_word_if t.kind t.text) (are_words ts) (passes_if t.kind t.text h.0) (all_pass ts h.1)

-- ---- what is told in words
-- what there is to know of a file, unless among its tokens are names that are no words
abbrev in_words : Source → Source
in_words (Text number bytes tokens) = if are_words tokens then Text number bytes tokens else Unknown
in_words (Faulty place) = Faulty place
in_words (TooLong number) = TooLong number
in_words Absent = Absent
in_words Unknown = Unknown

stays : (number : ℕ) (bytes : List ℕ) (tokens : List Token) → are_words tokens ≡ true → in_words (Text number bytes tokens) ≡ Text number bytes tokens
stays number bytes tokens h = rw h refl

tells_still : (library : Library) (path : List ℕ) (number : ℕ) (h : Held) → TellsOf library path number h → TellsOf (λ p. in_words (library p)) path number h
tells_still library path number (known.Bytes bytes) t = (
  λ long. ap in_words (t.0 long),
  λ short tokens has. ap in_words (t.1 short tokens has) ∙ stays number bytes tokens (all_pass tokens (text_words (is_ghost_path path) number bytes tokens has)),
  λ short place has. ap in_words (t.2 short place has),
)
tells_still library path number known.TooLong t = ap in_words t
tells_still library path number known.Missing t = ap in_words t

source_words : (s : Source) (number : ℕ) (bytes : List ℕ) (tokens : List Token) → in_words s ≡ Text number bytes tokens → NamesAreWords tokens
source_words (Text n b ts) number bytes tokens is = by_test (are_words ts) refl is
  where
    by_test : (w : Bool) → are_words ts ≡ w → (if w then Text n b ts else Unknown) ≡ Text number bytes tokens → NamesAreWords tokens
    by_test true e is = let same : ts ≡ tokens = cc in subst NamesAreWords same (are_written ts e)
    by_test false e is = absurd cc
source_words (Faulty place) number bytes tokens is = absurd cc
source_words (TooLong n) number bytes tokens is = absurd cc
source_words Absent number bytes tokens is = absurd cc
source_words Unknown number bytes tokens is = absurd cc

-- some library that tells what is held tells tokens of which the names are words
pub told_in_words : (held : Holdings) → (library : Library) × Tells library held × TellsWords library
told_in_words held =
    let l = told held in
    (λ p. in_words (l.0 p), λ path number h at. tells_still l.0 path number h (l.1 path number h at), λ path number bytes tokens is. source_words (l.0 path) number bytes tokens is)
