-- Lines and directives (C11 6.10).
use Rattle.std.specs.Prelude.{ℕ, Bool, true, false, not, ◌&&◌, ◌||◌, nat_eq, List, [], ◌∷◌, Option, Some, None, is_some, Result, Ok, Err, codes, if◌then◌else◌}
use Rattle.std.specs.List.{list_any}
use Rattle.std.specs.Str.{bytes_eq}
use Rattle.vf_base.specs.declared.place.Place.{Place}
use Rattle.vf_base.specs.declared.rule.Rule.{Rule}
use Rattle.vf_base.specs.declared.rule.Rule.TheVariants as rules_of
use Rattle.vf_lexer.specs.declared.token.Token.{Token}
use Rattle.vf_lexer.specs.declared.token.Kind.{Kind}
use Rattle.vf_lexer.specs.declared.token.Kind.TheVariants as kinds
use Rattle.vf_lexer.specs.declared.punctuator.Punctuator.TheVariants as punctuators
use Rattle.vf_preproc.specs.declared.words.Word.{Word}
use Rattle.vf_preproc.specs.declared.words.Word.TheVariants as words_of
use Rattle.vf_preproc.specs.declared.groups.Group.{Group}
use Rattle.vf_preproc.specs.Macros.{Table, is_name, body_of, with_macro}

-- why a unit has no text: a rule refuses it at a place, its named file is missing, or not all of its files are known
pub data Fault : Type 0 where
  Refused : Rule → Place → Fault
  Missing : Fault
  Unread : Fault

infixl 10 ◌>>=◌
-- go on with a value, unless there is a fault
abbrev pub ◌>>=◌ : {A B : Type 0} → Result A Fault → (A → Result B Fault) → Result B Fault
(Ok x) >>= f = f x
(Err e) >>= f = Err e

-- refused as no directive that there is
abbrev pub no_directive : {A : Type 0} → Place → Result A Fault
no_directive place = Err (Refused rules_of.Directive place)

-- refused as an include of no file
abbrev pub no_include : {A : Type 0} → Place → Result A Fault
no_include place = Err (Refused rules_of.Include place)

-- two tokens begin on one line
abbrev pub is_same_line : Token → Token → Bool
is_same_line t u = nat_eq t.place.line u.place.line

-- a token in front of lines: on the first one, or on a line of its own
abbrev pub with_first : Token → List (List Token) → List (List Token)
with_first t [] = (t ∷ []) ∷ []
with_first t ([] ∷ lines) = (t ∷ []) ∷ lines
with_first t ((u ∷ us) ∷ lines) = if is_same_line t u then (t ∷ u ∷ us) ∷ lines else (t ∷ []) ∷ (u ∷ us) ∷ lines

-- the lines of a text: tokens that follow one another on one line belong together
abbrev pub lines_of : List Token → List (List Token)
lines_of [] = []
lines_of (t ∷ ts) = with_first t (lines_of ts)

-- the kind of `#`
abbrev pub is_hash_kind : Kind → Bool
is_hash_kind (kinds.Punctuator punctuators.Hash) = true
is_hash_kind _ = false

-- `#`, which begins a directive where it is first on its line
abbrev pub is_hash : Token → Bool
is_hash t = is_hash_kind t.kind

-- the word that says which directive a name begins
abbrev pub word_named : List ℕ → Word
word_named name = if bytes_eq name (codes "include") then words_of.Include
    else (if bytes_eq name (codes "define") then words_of.Define
    else (if bytes_eq name (codes "ifdef") then words_of.IfDefined
    else (if bytes_eq name (codes "ifndef") then words_of.IfNotDefined
    else (if bytes_eq name (codes "else") then words_of.Else
    else (if bytes_eq name (codes "endif") then words_of.EndIf else words_of.Other)))))

-- which directive the tokens behind a `#` are
abbrev pub word_of : List Token → Word
word_of [] = words_of.Other
word_of (t ∷ ts) = if is_name t then word_named t.text else words_of.Other

-- a real directive has ghost text on its line
abbrev pub has_ghost : List Token → Bool
has_ghost tokens = list_any (λ (t : Token). t.is_ghost) tokens

-- the group is read: its test held, and so do those of the groups around it; the innermost group stands first
abbrev pub is_taken : List Group → Bool
is_taken [] = true
is_taken (g ∷ gs) = g.taken && g.outer

-- a group that is left out, in one that is left out
abbrev pub skipped_group : Place → Group
skipped_group hash = record { opened = hash; taken = false; has_else = false; outer = false }

-- `#ifdef` and `#ifndef` in text that is read: exactly one name follows (C11 6.10.1)
abbrev pub if_groups : Bool → Bool → Table → Place → List Token → List Group → Result (List Group) Fault
if_groups mixed wanted table hash (word ∷ name ∷ []) groups = if mixed || not (is_name name) then no_directive hash
    else Ok (record { opened = hash; taken = if wanted then is_some (body_of table name.text) else not (is_some (body_of table name.text)); has_else = false; outer = true } ∷ groups)
if_groups mixed wanted table hash _ groups = no_directive hash

-- a directive that is one word
abbrev pub is_alone : List Token → Bool
is_alone (word ∷ []) = true
is_alone _ = false

-- `#else` turns to the other part of the innermost group, once
abbrev pub else_groups : Bool → Place → List Group → Result (List Group) Fault
else_groups malformed hash [] = no_directive hash
else_groups malformed hash (g ∷ gs) = if g.has_else || (g.outer && malformed) then no_directive hash
    else Ok (record g { taken = not g.taken; has_else = true } ∷ gs)

-- `#endif` ends the innermost group
abbrev pub end_groups : Bool → Place → List Group → Result (List Group) Fault
end_groups malformed hash [] = no_directive hash
end_groups malformed hash (g ∷ gs) = if g.outer && malformed then no_directive hash else Ok gs

-- the place of the outermost of some groups
abbrev pub outermost : Group → List Group → Place
outermost g [] = g.opened
outermost g (h ∷ hs) = outermost h hs

-- `(` stands directly behind a name
abbrev pub begins_parameters : Token → List Token → Bool
begins_parameters name [] = false
begins_parameters name (t ∷ ts) = bytes_eq t.text (codes "(") && nat_eq t.start name.«end»

-- two lists of tokens that look alike
abbrev pub is_alike : List Token → List Token → Bool
is_alike [] [] = true
is_alike (t ∷ ts) (u ∷ us) = bytes_eq t.text u.text && is_alike ts us
is_alike _ _ = false

-- a name is defined, which may be defined already with tokens that look alike (C11 6.10.3)
abbrev pub defined : Place → List ℕ → List Token → Table → Option (List Token) → Result Table Fault
defined place name tokens table None = Ok (with_macro table name tokens)
defined place name tokens table (Some old) = if is_alike old tokens then Ok table else no_directive place
