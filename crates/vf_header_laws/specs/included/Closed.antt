-- Each file of a unit consists of files that consist of its files alone.
use Rattle.std.specs.Prelude.{◌≡◌, ℕ, true, List, ◌∷◌, Some, Ok, slice_get}
use Rattle.vf_lexer.specs.declared.token.Token.{Token}
use Rattle.vf_preproc.specs.UnitText.{is_among, Library, Text, Text_of_unit}
use Rattle.vf_expand.specs.Wholes.{text_of_unit}

-- a file is one of a unit's, beside which the files stand of which it consists, and each of them is one of some files
pub record ConsistsOf (numbers : List ℕ) (includes : List (List ℕ)) (files : List ℕ) (file : ℕ) : Type 0 where
  pub index : ℕ
  pub number : slice_get numbers index ≡ Some file
  pub own : List ℕ
  pub beside : slice_get includes index ≡ Some own
  pub inside : (other : ℕ) → is_among own other ≡ true → is_among files other ≡ true

-- each file of which one of a unit's files consists is itself one of them, and consists of no others
abbrev pub AreClosed : List ℕ → List (List ℕ) → Type 0
AreClosed numbers includes = (index : ℕ) (files : List ℕ) → slice_get includes index ≡ Some files → (file : ℕ) → is_among files file ≡ true → ConsistsOf numbers includes files file

-- so it is of the files of each unit that was expanded
abbrev pub IncludesAreClosed : Type 0
IncludesAreClosed = (library : Library) (path : List ℕ) (u : Text_of_unit) → text_of_unit library path ≡ Ok u → AreClosed (u.end_of_file.file ∷ u.headers) u.includes

-- and each file of which a header of such a unit consists is one of its headers
abbrev pub HeadersAreClosed : Type 0
HeadersAreClosed = (library : Library) (path : List ℕ) (u : Text_of_unit) (own : List ℕ) (others : List (List ℕ)) → text_of_unit library path ≡ Ok u → u.includes ≡ own ∷ others → AreClosed u.headers others

-- no number stands twice among some
abbrev pub AreApart : List ℕ → Type 0
AreApart numbers = (i j n : ℕ) → slice_get numbers i ≡ Some n → slice_get numbers j ≡ Some n → i ≡ j

-- a library tells files apart: those of two paths have two numbers
abbrev pub TellsApart : Library → Type 0
TellsApart library = (p q : List ℕ) (n : ℕ) (bytes others : List ℕ) (tokens more : List Token) → library p ≡ Text n bytes tokens → library q ≡ Text n others more → p ≡ q

-- by such a library the files of a unit have numbers of their own
abbrev pub FilesHaveTheirOwnNumbers : Type 0
FilesHaveTheirOwnNumbers = (library : Library) (path : List ℕ) (u : Text_of_unit) → TellsApart library → text_of_unit library path ≡ Ok u → AreApart (u.end_of_file.file ∷ u.headers)
