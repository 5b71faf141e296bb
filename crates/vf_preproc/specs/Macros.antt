-- Macros and their replacement (C11 6.10.3). There are none with parameters.
use Rattle.std.specs.Prelude.{ℕ, zero, suc, Bool, true, false, nat_eq, List, [], ◌∷◌, ◌++◌, length, map, Option, Some, None, slice_get, unwrap_or, if◌then◌else◌}
use Rattle.std.specs.List.{list_any, flat_map}
use Rattle.vf_names.specs.Names.{number_of}
use Rattle.vf_lexer.specs.declared.token.Token.{Token}
use Rattle.vf_lexer.specs.declared.token.Kind.{Kind}
use Rattle.vf_lexer.specs.declared.token.Kind.TheVariants as kinds

-- macros in the order of their definitions: their names, and beside each name the tokens that replace it
pub record Table : Type 0 where
  pub names : List (List ℕ)
  pub bodies : List (List Token)

-- no macros
abbrev pub no_macros : Table
no_macros = record { names = []; bodies = [] }

-- the tokens of the macro with a number
abbrev pub body : Table → ℕ → List Token
body table number = unwrap_or (slice_get table.bodies number) []

-- the tokens of the macro that was found, where one was
abbrev pub body_found : Table → Option ℕ → Option (List Token)
body_found table None = None
body_found table (Some number) = Some (body table number)

-- the tokens of the macro with a name, where it is defined
abbrev pub body_of : Table → List ℕ → Option (List Token)
body_of table name = body_found table (number_of table.names name)

-- a table with one more macro
abbrev pub with_macro : Table → List ℕ → List Token → Table
with_macro table name tokens = record { names = table.names ++ name ∷ []; bodies = table.bodies ++ tokens ∷ [] }

-- the kind of names
abbrev pub is_name_kind : Kind → Bool
is_name_kind kinds.Name = true
is_name_kind _ = false

-- whether a token is a name
abbrev pub is_name : Token → Bool
is_name t = is_name_kind t.kind

-- a token of a macro at the place where the macro's name stands: it takes the place and the mark of the name
abbrev pub at_use : Token → Token → Token
at_use name t = record t { place = name.place; is_ghost = name.is_ghost }

-- a number that was found, unless it is one of these
abbrev pub unless_among : List ℕ → Option ℕ → Option ℕ
unless_among hidden None = None
unless_among hidden (Some number) = if list_any (nat_eq number) hidden then None else Some number

-- the number of the macro that replaces a token, where there is one that is not being replaced already
abbrev pub macro_at : Table → List ℕ → Token → Option ℕ
macro_at table hidden t = if is_name t then unless_among hidden (number_of table.names t.text) else None

-- what stands in the place of a token: the token itself, or what a macro with a number gives
abbrev pub in_place : Option ℕ → Token → (ℕ → List Token) → List Token
in_place None t tokens = t ∷ []
in_place (Some number) t tokens = tokens number

-- tokens in which macros are replaced, at most so many within one another: a macro's tokens stand for its name, and are scanned again without that macro (C11 6.10.3.4)
abbrev pub replaced : ℕ → Table → List ℕ → List Token → List Token
replaced zero table hidden tokens = tokens
replaced (suc n) table hidden tokens = flat_map (λ t. in_place (macro_at table hidden t) t (λ number. replaced n table (number ∷ hidden) (map (at_use t) (body table number)))) tokens

-- tokens in which all macros are replaced; no more of them can stand within one another than there are
abbrev pub expansion : Table → List Token → List Token
expansion table tokens = replaced (length table.names) table [] tokens

-- what tokens look like
abbrev pub spellings : List Token → List (List ℕ)
spellings tokens = map (λ (t : Token). t.text) tokens
