-- The replacement of macros makes no names that are not words.
use Rattle.std.proofs.Common.{ℕ, zero, suc, Bool, true, false, not, ◌||◌, List, [], ◌∷◌, ◌++◌, map, Option, Some, None, slice_get, Ok, Err, Result}
use Rattle.std.specs.Prelude.{IfOk, if◌then◌else◌, unwrap_or}
use Rattle.std.specs.List.{AllByRecursion, flat_map}
use Rattle.vf_base.specs.declared.place.Place.{Place}
use Rattle.vf_lexer.specs.declared.token.Token.{Token}
use Rattle.vf_preproc.specs.Directives.{begins_parameters, defined, Fault, ◌>>=◌, is_alike, no_directive}
use Rattle.vf_preproc.specs.Keywords.{is_keyword}
use Rattle.vf_preproc.specs.Macros.{at_use, body, body_of, expansion, in_place, is_name, macro_at, replaced, Table}
use Rattle.vf_preproc.specs.UnitText.{define, joined}
use Rattle.vf_fixpoint_laws.specs.identifiers.Names.{IsWrittenAsWord, NamesAreWords}
use Rattle.vf_fixpoint_laws.proofs.identifiers.Lexed.{words_both}

-- ---- what is so of answers that are no faults
pub if_bound : {A B : Type 0} (P : A → Type 0) (Q : B → Type 0) (r : Result A Fault) (f : A → Result B Fault) → IfOk r P → ((a : A) → P a → IfOk (f a) Q) → IfOk (r >>= f) Q
if_bound P Q (Ok a) f p h = h a p
if_bound P Q (Err e) f p h = tt

pub if_either : {A : Type 0} (P : A → Type 0) (b : Bool) (r s : Result A Fault) → IfOk r P → IfOk s P → IfOk (if b then r else s) P
if_either P true r s p q = p
if_either P false r s p q = q

pub if_any : {A : Type 0} (P : A → Type 0) (r : Result A Fault) → ((a : A) → P a) → IfOk r P
if_any P (Ok a) h = h a
if_any P (Err e) h = tt

-- ---- macros
-- the names in the tokens of each macro are words
abbrev pub BodiesAreWords : List (List Token) → Type 0
BodiesAreWords bodies = AllByRecursion NamesAreWords bodies

-- the names in the tokens of each macro of a table are words
abbrev pub MacrosAreWords : Table → Type 0
MacrosAreWords table = BodiesAreWords table.bodies

body_found_words : (bodies : List (List Token)) (number : ℕ) → BodiesAreWords bodies → NamesAreWords (unwrap_or (slice_get bodies number) [])
body_found_words [] number h = tt
body_found_words (b ∷ bodies) zero h = h.0
body_found_words (b ∷ bodies) (suc number) h = body_found_words bodies number h.1

used_words : (name : Token) (tokens : List Token) → NamesAreWords tokens → NamesAreWords (map (at_use name) tokens)
used_words name [] h = tt
used_words name (t ∷ tokens) h = (h.0, used_words name tokens h.1)

flat_words : (f : Token → List Token) → ((t : Token) → IsWrittenAsWord t → NamesAreWords (f t)) → (tokens : List Token) → NamesAreWords tokens → NamesAreWords (flat_map f tokens)
flat_words f h [] words = tt
flat_words f h (t ∷ tokens) words = words_both (f t) (flat_map f tokens) (h t words.0) (flat_words f h tokens words.1)

place_words : (o : Option ℕ) (t : Token) (tokens : ℕ → List Token) → IsWrittenAsWord t → ((number : ℕ) → NamesAreWords (tokens number)) → NamesAreWords (in_place o t tokens)
place_words None t tokens h k = (h, tt)
place_words (Some number) t tokens h k = k number

replaced_words : (n : ℕ) (table : Table) (hidden : List ℕ) (tokens : List Token) → MacrosAreWords table → NamesAreWords tokens → NamesAreWords (replaced n table hidden tokens)
replaced_words zero table hidden tokens macros words = words
replaced_words (suc n) table hidden tokens macros words = flat_words (λ t. in_place (macro_at table hidden t) t (λ number. replaced n table (number ∷ hidden) (map (at_use t) (body table number))))
    (λ t h. place_words (macro_at table hidden t) t (λ number. replaced n table (number ∷ hidden) (map (at_use t) (body table number))) h (λ number. replaced_words n table (number ∷ hidden) (map (at_use t) (body table number)) macros (used_words t (body table number) (body_found_words table.bodies number macros)))) tokens words

pub expansion_words : (table : Table) (tokens : List Token) → MacrosAreWords table → NamesAreWords tokens → NamesAreWords (expansion table tokens)
expansion_words table tokens macros words = replaced_words _ table [] tokens macros words

-- ---- definitions
one_more_words : (bodies : List (List Token)) (tokens : List Token) → BodiesAreWords bodies → NamesAreWords tokens → BodiesAreWords (bodies ++ tokens ∷ [])
one_more_words [] tokens h words = (words, tt)
one_more_words (b ∷ bodies) tokens h words = (h.0, one_more_words bodies tokens h.1 words)

defined_words : (place : Place) (name : List ℕ) (tokens : List Token) (table : Table) (o : Option (List Token)) → MacrosAreWords table → NamesAreWords tokens → IfOk (defined place name tokens table o) MacrosAreWords
defined_words place name tokens table None macros words = one_more_words table.bodies tokens macros words
defined_words place name tokens table (Some old) macros words = if_either MacrosAreWords (is_alike old tokens) (Ok table) (no_directive place) macros tt

pub define_words : (mixed : Bool) (hash : Place) (line : List Token) (table : Table) → MacrosAreWords table → NamesAreWords line → IfOk (define mixed hash line table) MacrosAreWords
define_words mixed hash [] table macros words = tt
define_words mixed hash (word ∷ []) table macros words = tt
define_words mixed hash (word ∷ name ∷ tokens) table macros words =
    if_either MacrosAreWords (mixed || not (is_name name)) (no_directive hash) (if is_keyword name.text || begins_parameters name tokens then no_directive name.place else defined name.place name.text tokens table (body_of table name.text)) tt
    (if_either MacrosAreWords (is_keyword name.text || begins_parameters name tokens) (no_directive name.place) (defined name.place name.text tokens table (body_of table name.text)) tt (defined_words name.place name.text tokens table (body_of table name.text) macros words.1.1))

pub joined_words : (hash : Place) (table : Table) (names : List (List ℕ)) (bodies : List (List Token)) → MacrosAreWords table → BodiesAreWords bodies → IfOk (joined hash table names bodies) MacrosAreWords
joined_words hash table [] bodies macros words = macros
joined_words hash table (name ∷ names) [] macros words = macros
joined_words hash table (name ∷ names) (tokens ∷ bodies) macros words = if_bound MacrosAreWords MacrosAreWords (defined hash name tokens table (body_of table name)) (λ t. joined hash t names bodies)
    (defined_words hash name tokens table (body_of table name) macros words.0) (λ t m. joined_words hash t names bodies m words.1)
