-- Headers that a file has joined: what a further include of one need not do again.
use Rattle.std.specs.Prelude.{◌≡◌, ℕ, ◌<◌, Bool, true, false, not, ◌&&◌, ◌||◌, List, [], ◌∷◌, length, slice_get, Some, None, is_some, IsTrue}
use Rattle.std.specs.List.{list_any}
use Rattle.vf_lexer.specs.declared.token.Token.{Token}
use Rattle.vf_names.specs.Names.{number_of}
use Rattle.vf_preproc.specs.declared.join.Join.{Join}
use Rattle.vf_preproc.specs.Macros.{Table, body_of, with_macro}
use Rattle.vf_preproc.specs.Directives.{is_alike}
use Rattle.vf_preproc.specs.UnitText.{Header, Scope, is_among, names_of}

-- each macro of a table has its tokens
abbrev pub IsEven : Table → Type 0
IsEven table = length table.names ≡ length table.bodies

-- each of some files is among others
abbrev pub AreAmong : List ℕ → List ℕ → Type 0
AreAmong files [] = Unit {0}
AreAmong files (x ∷ xs) = IsTrue (is_among files x) × AreAmong files xs

-- each of some files is one of the first, so many of them
abbrev pub AreBelow : ℕ → List ℕ → Type 0
AreBelow n [] = Unit {0}
AreBelow n (x ∷ xs) = (x < n) × AreBelow n xs

-- a name stands in the file with a number
abbrev pub stands_in : List (List (List ℕ)) → List ℕ → ℕ → Bool
stands_in names name file = is_some (number_of (names_of names file) name)

-- a name that would clash with a header as a macro of its includer: it stands in one of the header's files, and is none of its macros
abbrev pub is_foreign : List (List (List ℕ)) → Header → List ℕ → Bool
is_foreign names header name = list_any (stands_in names name) header.files && not (is_some (body_of header.macros name))

-- a name is defined with tokens that look like these
pub record IsDefined (table : Table) (name : List ℕ) (tokens : List Token) : Type 0 where
  pub old : List Token
  pub has : body_of table name ≡ Some old
  pub alike : is_alike old tokens ≡ true

-- each of some names is defined with tokens that look like those beside it
abbrev pub AreDefined : Table → List (List ℕ) → List (List Token) → Type 0
AreDefined table [] bodies = Unit {0}
AreDefined table (x ∷ xs) [] = Unit {0}
AreDefined table (x ∷ xs) (tokens ∷ bodies) = IsDefined table x tokens × AreDefined table xs bodies

-- none of the first macros of a table, so many of them, would clash with a header
abbrev pub AreApart : ℕ → List (List (List ℕ)) → Table → Header → Type 0
AreApart known names table header = (i : ℕ) (name : List ℕ) → i < known → slice_get table.names i ≡ Some name → is_foreign names header name ≡ false

-- a header has joined a file: its files are the file's, and so are its macros unless its include was ghost text, and the macros that the file had then do not clash with it
pub record IsJoined (join : Join) (names : List (List (List ℕ))) (header : Header) (scope : Scope) : Type 0 where
  pub among : AreAmong scope.files header.files
  pub defined : join.is_ghost ≡ false → AreDefined scope.macros header.macros.names header.macros.bodies
  pub apart : AreApart join.known names scope.macros header

-- what is remembered serves for an include: all that this would do was done
abbrev pub serves : Join → Bool → Bool
serves join ghost = ghost || not join.is_ghost

-- a table that grew by some macros, each with a new name
pub data Defines : Table → Table → Type 0 where
  no_more : (t : Table) → Defines t t
  one_more : (t u : Table) (name : List ℕ) (tokens : List Token) → number_of t.names name ≡ None → Defines (with_macro t name tokens) u → Defines t u

-- a file of which a part was followed: it consists of what it did, and some macros came
pub record Grows (old new : Scope) : Type 0 where
  pub files : (f : ℕ) → IsTrue (is_among old.files f) → IsTrue (is_among new.files f)
  pub macros : Defines old.macros new.macros
