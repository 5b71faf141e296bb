-- A file with a macro for the name of a function is expanded and read.
use Rattle.std.proofs.Common.{◌≡◌, ℕ, zero, suc, Bool, true, false, not, ◌&&◌, List, [], ◌∷◌, drop, codes, Some, Ok, refl, ap, ◌∙◌, arith}
use Rattle.vf_lexer.specs.declared.punctuator.Punctuator.TheVariants as punctuators
use Rattle.vf_lexer.specs.declared.token.Kind.TheVariants as kinds
use Rattle.vf_lexer.specs.declared.token.Token.{Token}
use Rattle.vf_lexer.specs.Bytes.{is_barred}
use Rattle.vf_lexer.specs.Cuts.{Blank, Element, ElementsStand, HasTokens, Plain, Real, Token_is, tokens_of}
use Rattle.vf_lexer.specs.Pieces.{token_front}
use Rattle.vf_lexer.specs.Punctuators.{punctuator_of}
use Rattle.vf_snapshot.specs.declared.held.Held.TheVariants as known
use Rattle.vf_preproc.specs.Directives.{◌>>=◌}
use Rattle.vf_preproc.specs.Keywords.{is_keyword}
use Rattle.vf_preproc.specs.UnitText.{Library, Text}
use Rattle.vf_expand.specs.Wholes as wholes
use Rattle.vf_syntax.specs.declared.side.Grammar.TheVariants as grammars
use Rattle.vf_syntax.specs.Keywords as keywords
use Rattle.vf_syntax.specs.Units as units
use Rattle.vf_syntax.specs.Walks.{at, identifier, is_mark, is_name, is_word, mark, word}
use Rattle.vf_syntax.specs.Written.{name}
use Rattle.vf_parse_real.specs.Units.{real_tokens}
use Rattle.vf_grammar_read.proofs.expressions.Same.{both}
use Rattle.vf_fixpoint_laws.specs.identifiers.Laws.{AreExpanded}
use Rattle.vf_fixpoint_laws.specs.identifiers.Macro.{bytes, given, held, MacrosAreReadAsNames, unit}
use Rattle.vf_fixpoint_laws.proofs.identifiers.Named.{not_true}
use Rattle.vf_fixpoint_laws.proofs.identifiers.Unmarked.{plain_unmarked}

-- ---- the tokens of the file
-- at no byte of a text begins what may stand nowhere
abbrev is_clean : List ℕ → Bool
is_clean [] = not (is_barred [])
is_clean (b ∷ bs) = not (is_barred (b ∷ bs)) && is_clean bs

clean_at : (bs : List ℕ) (n : ℕ) → is_clean bs ≡ true → is_barred (drop n bs) ≡ false
clean_at [] zero h = not_true (is_barred []) h
clean_at [] (suc n) h = not_true (is_barred []) h
clean_at (b ∷ bs) zero h = not_true (is_barred (b ∷ bs)) (both (not (is_barred (b ∷ bs))) (is_clean bs) h).0
clean_at (b ∷ bs) (suc n) h = clean_at bs n (both (not (is_barred (b ∷ bs))) (is_clean bs) h).1

all_clean : is_clean bytes ≡ true
unfolding is_barred
all_clean = refl

abbrev elements : List Element
elements = Plain (Token_is (kinds.Punctuator punctuators.Hash) (codes "#")) ∷ Plain (Token_is kinds.Name (codes "define")) ∷ Plain (Blank 32) ∷ Plain (Token_is kinds.Name (codes "g")) ∷ Plain (Blank 32) ∷ Plain (Token_is kinds.Name (codes "f")) ∷ Plain (Blank 10)
    ∷ Plain (Token_is kinds.Name (codes "void")) ∷ Plain (Blank 32) ∷ Plain (Token_is kinds.Name (codes "g")) ∷ Plain (Token_is (kinds.Punctuator punctuators.OpenParenthesis) (codes "(")) ∷ Plain (Token_is (kinds.Punctuator punctuators.CloseParenthesis) (codes ")")) ∷ Plain (Token_is (kinds.Punctuator punctuators.Semicolon) (codes ";")) ∷ []

abbrev tokens : List Token
tokens = tokens_of 0 false [] elements

all_stand : ElementsStand Real elements []
unfolding token_front punctuator_of
all_stand = ((refl, refl), ((refl, refl), (refl, ((refl, refl), (refl, ((refl, refl), (refl, ((refl, refl), (refl, ((refl, refl), ((refl, refl), ((refl, refl), ((refl, refl), tt)))))))))))))

has : HasTokens false 0 bytes tokens
has = (elements, record { whole = refl; stand = all_stand; clean = λ n. clean_at bytes n all_clean }, refl)

-- ---- what they are expanded to
gives : (library : Library) → wholes.text_of_file library (codes "m.c") (record { number = 0; bytes = bytes; tokens = tokens }) ≡ Ok (wholes.text_of given)
unfolding is_keyword
gives library = refl

expanded : AreExpanded held (codes "m.c") given
expanded library tells =
    let told = tells (codes "m.c") 0 (known.Bytes bytes) (refl, refl) in
    let is : library (codes "m.c") ≡ Text 0 bytes tokens = told.1 (omega arith) tokens has in
    ap (λ s. wholes.named s >>= λ file. wholes.text_of_file library (codes "m.c") file) is ∙ gives library

-- ---- what they spell
spelled : units.unit grammars.Plain unit (real_tokens given.tokens) ≡ Some []
unfolding units.unit units.item units.signature units.result_type units.parameters_walk at mark word identifier name is_mark is_word is_name keywords.is_keyword
spelled = refl

spells : units.Spells grammars.Plain 0 unit (real_tokens given.tokens)
spells = record { spelled = spelled; nested = omega arith }

pub macros_are_names : MacrosAreReadAsNames
macros_are_names = record { expanded = expanded; spelled = spells; is = refl; unmarked = plain_unmarked held (codes "m.c") given 0 unit expanded spells }
