-- The names among the tokens of a text are words.
use Rattle.std.proofs.Common.{◌≡◌, ℕ, Bool, true, false, List, [], ◌∷◌, ◌++◌, Option, Some, None, sym, subst}
use Rattle.std.specs.Prelude.{IfSome}
use Rattle.vf_lexer.specs.declared.token.Kind.{Kind}
use Rattle.vf_lexer.specs.declared.token.Kind.TheVariants as kinds
use Rattle.vf_lexer.specs.declared.token.Token.{Token}
use Rattle.vf_lexer.specs.Cuts.{AllStand, Annotation, Blank, Block_comment, bytes_of, Element, element_bytes, element_tokens, ElementStands, ElementsStand, HasTokens, Header, Inside, is_ghost_in, Lexeme, Line_comment, Mark, opening_mark, Plain, Real, Setting, setting_of, Stands, text_of, token_in, Token_is, tokens_in, tokens_of, whole_text, with_first}
use Rattle.vf_lexer.specs.Spellings.{IsWord, Spells}
use Rattle.vf_lexer.proofs.Spelled.{token_spelled}
use Rattle.vf_fixpoint_laws.specs.identifiers.Names.{IsWrittenAsWord, NamesAreWords}

spelled_word : (ghost : Bool) (kind : Kind) (bytes : List ℕ) → Spells ghost kind bytes → kind ≡ kinds.Name → IsWord bytes
spelled_word ghost kind bytes s e = let t : Spells ghost kinds.Name bytes = subst (λ k. Spells ghost k bytes) e s in t.0

pub words_both : (ts us : List Token) → NamesAreWords ts → NamesAreWords us → NamesAreWords (ts ++ us)
words_both [] us a b = b
words_both (t ∷ ts) us a b = (a.0, words_both ts us a.1 b)

first_words : (o : Option Token) (ts : List Token) → IfSome o IsWrittenAsWord → NamesAreWords ts → NamesAreWords (with_first o ts)
first_words None ts h a = a
first_words (Some t) ts h a = (h, a)

lexeme_written : (file : ℕ) (w : Setting) (before : List ℕ) (l : Lexeme) (rest : List ℕ) → Stands w l rest → IfSome (token_in file (is_ghost_in w) before l) IsWrittenAsWord
lexeme_written file w before (Blank b) rest s = tt
lexeme_written file w before (Line_comment body) rest s = tt
lexeme_written file w before (Block_comment body) rest s = tt
lexeme_written file w before (Mark mark) rest s = tt
lexeme_written file w before (Token_is kind bytes) rest s = spelled_word (is_ghost_in w) kind bytes (token_spelled (is_ghost_in w) kind bytes rest s.0)

lexemes_words : (file : ℕ) (w : Setting) (before : List ℕ) (ls : List Lexeme) (rest : List ℕ) → AllStand w ls rest → NamesAreWords (tokens_in file (is_ghost_in w) before ls)
lexemes_words file w before [] rest s = tt
lexemes_words file w before (l ∷ ls) rest s = first_words (token_in file (is_ghost_in w) before l) (tokens_in file (is_ghost_in w) (before ++ bytes_of l) ls) (lexeme_written file w before l (text_of ls ++ rest) s.0) (lexemes_words file w (before ++ bytes_of l) ls rest s.1)

plain_words : (file : ℕ) (header : Bool) (before : List ℕ) (l : Lexeme) (rest : List ℕ) → Stands (setting_of header) l rest → NamesAreWords (element_tokens file header before (Plain l))
plain_words file true before l rest s = first_words (token_in file true before l) [] (lexeme_written file Header before l rest s) tt
plain_words file false before l rest s = first_words (token_in file false before l) [] (lexeme_written file Real before l rest s) tt

element_words : (file : ℕ) (header : Bool) (before : List ℕ) (e : Element) (rest : List ℕ) → ElementStands (setting_of header) e rest → NamesAreWords (element_tokens file header before e)
element_words file header before (Plain l) rest s = plain_words file header before l rest s
element_words file header before (Annotation form ls) rest s = lexemes_words file Inside (before ++ opening_mark form) ls [] s.1

elements_words : (file : ℕ) (header : Bool) (before : List ℕ) (es : List Element) (rest : List ℕ) → ElementsStand (setting_of header) es rest → NamesAreWords (tokens_of file header before es)
elements_words file header before [] rest s = tt
elements_words file header before (e ∷ es) rest s = words_both (element_tokens file header before e) (tokens_of file header (before ++ element_bytes e) es) (element_words file header before e (whole_text es ++ rest) s.0) (elements_words file header (before ++ element_bytes e) es rest s.1)

-- the names among the tokens of a text are words
pub text_words : (header : Bool) (file : ℕ) (bytes : List ℕ) (tokens : List Token) → HasTokens header file bytes tokens → NamesAreWords tokens
text_words header file bytes tokens h = subst NamesAreWords (sym h.2) (elements_words file header [] h.0 [] h.1.stand)
