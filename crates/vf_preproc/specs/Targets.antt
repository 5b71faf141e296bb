-- What an `#include` means.
use Rattle.std.specs.Prelude.{ℕ, ◌==◌, ◌-◌, Bool, true, false, not, ◌&&◌, ◌||◌, nat_eq, nat_le, nat_lt, List, [], ◌∷◌, ◌++◌, take, drop, length, Option, Some, None, is_some, Result, Ok, codes, if◌then◌else◌}
use Rattle.std.specs.List.{list_any, list_all, ends_with}
use Rattle.std.specs.Str.{bytes_eq}
use Rattle.vf_base.specs.declared.place.Place.{Place}
use Rattle.vf_lexer.specs.declared.token.Token.{Token}
use Rattle.vf_lexer.specs.declared.token.Kind.{Kind}
use Rattle.vf_lexer.specs.declared.token.Kind.TheVariants as kinds
use Rattle.vf_lexer.specs.declared.punctuator.Punctuator.TheVariants as punctuators
use Rattle.vf_snapshot.specs.Paths.{normal}
use Rattle.vf_threads.specs.Prelude.{text_of}
use Rattle.vf_preproc.specs.Directives.{Fault, no_directive, no_include}

-- a byte that may stand in a path: a visible one of ASCII other than quotes, `#`, `<` and `>`
abbrev pub is_path_byte : ℕ → Bool
is_path_byte b = nat_le 33 b && nat_le b 126 && not (b == 34) && not (b == 35) && not (b == 39) && not (b == 60) && not (b == 62)

-- a path of bytes that may stand in one
abbrev pub is_scoped : List ℕ → Bool
is_scoped path = list_all is_path_byte path

-- a byte of ASCII
abbrev pub is_ascii : ℕ → Bool
is_ascii b = nat_lt b 128

-- the path of a ghost header ends in `.gh`
abbrev pub is_ghost_path : List ℕ → Bool
is_ghost_path path = ends_with nat_eq path (codes ".gh")

-- the folder of a path: all up to its last slash
abbrev pub folder_of : List ℕ → List ℕ
folder_of [] = []
folder_of (b ∷ bs) = if list_any (nat_eq 47) (b ∷ bs) then b ∷ folder_of bs else []

-- the path by which a header of the prelude is known
abbrev pub prelude_path : List ℕ → List ℕ
prelude_path name = codes "<" ++ name ++ codes ">"

-- the bytes of a literal between its quotes
abbrev pub between_quotes : List ℕ → List ℕ
between_quotes text = take (length text - 2) (drop 1 text)

-- a path is a file's: it is not empty, may stand in an include, and is a ghost header's just where the include is ghost text
abbrev pub file_target : Bool → Place → List ℕ → Result (List ℕ) Fault
file_target ghost hash path = if is_scoped path && not (bytes_eq path []) && (if ghost then is_ghost_path path else not (is_ghost_path path)) then Ok path else no_directive hash

-- the header of the prelude with a name, which only real text includes
abbrev pub prelude_target : Bool → Place → List ℕ → Result (List ℕ) Fault
prelude_target ghost hash name = if ghost then no_directive hash else Ok (prelude_path name)

-- what `"name"` means in a file: a header of the prelude, or the path that the name means in the file's folder
abbrev pub quoted_target : Bool → List ℕ → Place → List ℕ → Result (List ℕ) Fault
quoted_target ghost file hash name = if not (is_scoped name) || bytes_eq name [] then no_directive hash
    else (if is_some (text_of name) then prelude_target ghost hash name else file_target ghost hash (normal (folder_of file) name))

-- what `<name>` means: a header of the prelude alone
abbrev pub angle_target : Bool → Place → List ℕ → Result (List ℕ) Fault
angle_target ghost hash name = if is_scoped name && is_some (text_of name) then prelude_target ghost hash name else no_include hash

-- the kind of a text between quotes
abbrev pub is_literal_kind : Kind → Bool
is_literal_kind kinds.Literal = true
is_literal_kind _ = false

-- the kind of `<`
abbrev pub is_less_kind : Kind → Bool
is_less_kind (kinds.Punctuator punctuators.Less) = true
is_less_kind _ = false

-- the kind of `>`
abbrev pub is_greater_kind : Kind → Bool
is_greater_kind (kinds.Punctuator punctuators.Greater) = true
is_greater_kind _ = false

-- the `>` that ends some tokens, where it is their only one
abbrev pub closing : List Token → Option Token
closing [] = None
closing (t ∷ []) = if is_greater_kind t.kind then Some t else None
closing (t ∷ u ∷ us) = if is_greater_kind t.kind then None else closing (u ∷ us)

-- the bytes from a token to another
abbrev pub between : List ℕ → ℕ → ℕ → List ℕ
between bytes from to = take (to - from) (drop from bytes)

-- what `<name` means, by the `>` behind it where there is one
abbrev pub closed_target : Bool → List ℕ → Place → Token → Option Token → Result (List ℕ) Fault
closed_target ghost bytes hash less None = no_directive hash
closed_target ghost bytes hash less (Some greater) = angle_target ghost hash (between bytes less.«end» greater.start)

-- the path that an include means, from the tokens behind its `#` (C11 6.10.2)
abbrev pub target : Bool → List ℕ → List ℕ → Place → List Token → Result (List ℕ) Fault
target ghost file bytes hash [] = no_directive hash
target ghost file bytes hash (word ∷ []) = no_directive hash
target ghost file bytes hash (word ∷ first ∷ []) = if is_literal_kind first.kind then quoted_target ghost file hash (between_quotes first.text) else no_directive hash
target ghost file bytes hash (word ∷ first ∷ second ∷ more) = if is_less_kind first.kind then closed_target ghost bytes hash first (closing (second ∷ more)) else no_directive hash
