-- Names among tokens, and how they are written.
use Rattle.std.specs.Prelude.{◌≡◌, ℕ, false, List, Contains}
use Rattle.std.specs.List.{AllByRecursion}
use Rattle.vf_lexer.specs.declared.token.Kind.TheVariants as kinds
use Rattle.vf_lexer.specs.declared.token.Token.{Token}
use Rattle.vf_lexer.specs.Spellings.{IsWord}
use Rattle.vf_syntax.specs.Keywords.{is_keyword}
use Rattle.vf_preproc.specs.UnitText.{Library, Text}

-- a text is that of a name among tokens, and no keyword
pub record IsNameAmong (tokens : List Token) (x : List ℕ) : Type 0 where
  pub token : Token
  pub among : Contains tokens token
  pub kind : token.kind ≡ kinds.Name
  pub text : token.text ≡ x
  pub free : is_keyword x ≡ false

-- each of some texts is that of a name among tokens
abbrev pub AreNamesAmong : List Token → List (List ℕ) → Type 0
AreNamesAmong tokens xs = AllByRecursion (IsNameAmong tokens) xs

-- a token that is a name or a keyword is written by a letter or `_`, and behind it letters, digits and `_`
abbrev pub IsWrittenAsWord : Token → Type 0
IsWrittenAsWord t = t.kind ≡ kinds.Name → IsWord t.text

-- the names and keywords among tokens are written so
abbrev pub NamesAreWords : List Token → Type 0
NamesAreWords tokens = AllByRecursion IsWrittenAsWord tokens

-- the names and keywords among the tokens that a library tells are written so
abbrev pub TellsWords : Library → Type 0
TellsWords library = (path : List ℕ) (number : ℕ) (bytes : List ℕ) (tokens : List Token) → library path ≡ Text number bytes tokens → NamesAreWords tokens
