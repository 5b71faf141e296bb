-- What lines make of the tokens and the macros of a unit.
use Rattle.std.proofs.Common.{ℕ, zero, suc, Bool, true, false, not, ◌&&◌, ◌||◌, List, [], ◌∷◌, ◌++◌, take, fold, Option, Ok, Err, Result}
use Rattle.std.specs.Prelude.{IfOk, IfSome, if◌then◌else◌}
use Rattle.std.specs.List.{AllByRecursion}
use Rattle.vf_base.specs.declared.place.Place.{Place}
use Rattle.vf_lexer.specs.declared.token.Token.{Token}
use Rattle.vf_preproc.specs.declared.groups.Group.{Group}
use Rattle.vf_preproc.specs.declared.words.Word.{Word}
use Rattle.vf_preproc.specs.declared.words.Word.TheVariants as words_of
use Rattle.vf_preproc.specs.Directives.{Fault, ◌>>=◌, is_alone, is_hash, is_same_line, is_taken, lines_of, no_directive, with_first, word_of, if_groups, else_groups, end_groups}
use Rattle.vf_preproc.specs.Macros.{expansion, Table}
use Rattle.vf_preproc.specs.Targets.{is_ghost_path, target}
use Rattle.vf_preproc.specs.UnitText.{annotated, clashes, define, directed, directive, File, followed, grouped, Header, in_groups, in_macros, in_unit, included, Includer, is_mixed, joined, line, passed, Scope, Unit_so_far, with_file, with_header, with_tokens}
use Rattle.vf_fixpoint_laws.specs.identifiers.Names.{NamesAreWords}
use Rattle.vf_fixpoint_laws.proofs.identifiers.Lexed.{words_both}
use Rattle.vf_fixpoint_laws.proofs.identifiers.Macros.{define_words, expansion_words, if_any, if_bound, if_either, joined_words, MacrosAreWords}

-- the names in the macros of a header are words
abbrev pub HeaderIsWords : Header → Type 0
HeaderIsWords header = MacrosAreWords header.macros

-- the names in the macros of each header that is complete are words
abbrev pub HeadersAreWords : List (Option Header) → Type 0
HeadersAreWords complete = AllByRecursion (λ o. IfSome o HeaderIsWords) complete

-- the names among the tokens of a unit and in the macros of its headers are words
pub record UnitIsWords (unit : Unit_so_far) : Type 0 where
  pub tokens : NamesAreWords unit.tokens
  pub headers : HeadersAreWords unit.complete

-- so it is of a unit and of the macros of a file
abbrev pub GoesOn : Unit_so_far × Scope → Type 0
GoesOn s = UnitIsWords s.0 × MacrosAreWords s.1.macros

-- so it is of a unit and of a header
abbrev pub Found : Unit_so_far × Header → Type 0
Found s = UnitIsWords s.0 × HeaderIsWords s.1

-- an include leaves such a unit, and such a header
abbrev pub Sound : Includer → Type 0
Sound include = (path : List ℕ) (hash : Place) (unit : Unit_so_far) → UnitIsWords unit → IfOk (include path hash unit) Found

-- ---- lines
-- the names on each line are words
abbrev pub LinesAreWords : List (List Token) → Type 0
LinesAreWords ls = AllByRecursion NamesAreWords ls

first_line : (t : Token) (ls : List (List Token)) → NamesAreWords (t ∷ []) → LinesAreWords ls → LinesAreWords (with_first t ls)
first_line t [] h words = (h, tt)
first_line t ([] ∷ ls) h words = (h, words.1)
first_line t ((u ∷ us) ∷ ls) h words = by_test (is_same_line t u)
  where
    by_test : (b : Bool) → LinesAreWords (if b then (t ∷ u ∷ us) ∷ ls else (t ∷ []) ∷ (u ∷ us) ∷ ls)
    by_test true = ((h.0, words.0), words.1)
    by_test false = (h, words)

pub lines_words : (tokens : List Token) → NamesAreWords tokens → LinesAreWords (lines_of tokens)
lines_words [] words = tt
lines_words (t ∷ tokens) words = first_line t (lines_of tokens) (words.0, tt) (lines_words tokens words.1)

front_words : (n : ℕ) (tokens : List Token) → NamesAreWords tokens → NamesAreWords (take n tokens)
front_words zero tokens words = tt
front_words (suc n) [] words = tt
front_words (suc n) (t ∷ tokens) words = (words.0, front_words n tokens words.1)

-- ---- groups and macros
-- the macros of a file are words
abbrev ScopeIsWords : Scope → Type 0
ScopeIsWords scope = MacrosAreWords scope.macros

groups_words : (scope : Scope) (groups : Result (List Group) Fault) → ScopeIsWords scope → IfOk (in_groups scope groups) ScopeIsWords
groups_words scope (Ok gs) m = m
groups_words scope (Err e) m = tt

grouped_words : (mixed : Bool) (hash : Place) (words : List Token) (scope : Scope) (word : Word) → ScopeIsWords scope → IfOk (grouped mixed hash words scope word) ScopeIsWords
grouped_words mixed hash words scope words_of.IfDefined m = groups_words scope (if_groups mixed true scope.macros hash words scope.groups) m
grouped_words mixed hash words scope words_of.IfNotDefined m = groups_words scope (if_groups mixed false scope.macros hash words scope.groups) m
grouped_words mixed hash words scope words_of.Else m = groups_words scope (else_groups (mixed || not (is_alone words)) hash scope.groups) m
grouped_words mixed hash words scope words_of.EndIf m = groups_words scope (end_groups (mixed || not (is_alone words)) hash scope.groups) m
grouped_words mixed hash words scope words_of.Include m = tt
grouped_words mixed hash words scope words_of.Define m = tt
grouped_words mixed hash words scope words_of.Other m = tt

macros_words : (scope : Scope) (table : Result Table Fault) → IfOk table MacrosAreWords → IfOk (in_macros scope table) ScopeIsWords
macros_words scope (Ok t) m = m
macros_words scope (Err e) m = tt

unit_words : (unit : Unit_so_far) (scope : Result Scope Fault) → UnitIsWords unit → IfOk scope ScopeIsWords → IfOk (in_unit unit scope) GoesOn
unit_words unit (Ok s) u m = (u, m)
unit_words unit (Err e) u m = tt

-- ---- includes
header_words : (ghost : Bool) (hash : Place) (names : List (List (List ℕ))) (header : Header) (scope : Scope) → HeaderIsWords header → ScopeIsWords scope → IfOk (with_header ghost hash names header scope) ScopeIsWords
header_words ghost hash names header scope h m = if_either ScopeIsWords (clashes names scope.macros header) (no_directive hash) _ tt
    (if_either ScopeIsWords ghost (Ok (record scope { files = fold with_file scope.files header.files })) _ m
    (if_bound MacrosAreWords ScopeIsWords (joined hash scope.macros header.macros.names header.macros.bodies) (λ table. Ok (record scope { macros = table; files = fold with_file scope.files header.files }))
    (joined_words hash scope.macros header.macros.names header.macros.bodies m h) (λ table t. t)))

module _ (include : Includer) (sound : Sound include) (file : File) where
  included_words : (hash : Place) (ghost : Bool) (words : List Token) (unit : Unit_so_far) (scope : Scope) → UnitIsWords unit → ScopeIsWords scope → IfOk (included include file hash ghost words unit scope) GoesOn
  included_words hash ghost words unit scope u m = if_bound (λ path. Unit {0}) GoesOn (target ghost file.path file.bytes hash words) (λ path. include path hash unit >>= λ found. with_header ghost hash found.0.names found.1 scope >>= λ s. Ok (found.0, s))
      (if_any (λ path. Unit {0}) (target ghost file.path file.bytes hash words) (λ path. tt))
      (λ path p. if_bound Found GoesOn (include path hash unit) (λ (found : Unit_so_far × Header). with_header ghost hash found.0.names found.1 scope >>= λ s. Ok (found.0, s)) (sound path hash unit u)
      (λ found f. if_bound ScopeIsWords GoesOn (with_header ghost hash found.0.names found.1 scope) (λ s. Ok (found.0, s)) (header_words ghost hash found.0.names found.1 scope f.1 m) (λ s n. (f.0, n))))

  directed_words : (hash : Token) (words : List Token) (unit : Unit_so_far) (scope : Scope) (word : Word) → NamesAreWords words → UnitIsWords unit → ScopeIsWords scope → IfOk (directed include file hash words unit scope word) GoesOn
  directed_words hash words unit scope words_of.Include l u m = if_either GoesOn (is_mixed file words) (no_directive hash.place) (included include file hash.place hash.is_ghost words unit scope) tt (included_words hash.place hash.is_ghost words unit scope u m)
  directed_words hash words unit scope words_of.Define l u m = unit_words unit (in_macros scope (define (is_mixed file words) hash.place words scope.macros)) u (macros_words scope (define (is_mixed file words) hash.place words scope.macros) (define_words (is_mixed file words) hash.place words scope.macros m l))
  directed_words hash words unit scope words_of.IfDefined l u m = unit_words unit (grouped (is_mixed file words) hash.place words scope words_of.IfDefined) u (grouped_words (is_mixed file words) hash.place words scope words_of.IfDefined m)
  directed_words hash words unit scope words_of.IfNotDefined l u m = unit_words unit (grouped (is_mixed file words) hash.place words scope words_of.IfNotDefined) u (grouped_words (is_mixed file words) hash.place words scope words_of.IfNotDefined m)
  directed_words hash words unit scope words_of.Else l u m = unit_words unit (grouped (is_mixed file words) hash.place words scope words_of.Else) u (grouped_words (is_mixed file words) hash.place words scope words_of.Else m)
  directed_words hash words unit scope words_of.EndIf l u m = unit_words unit (grouped (is_mixed file words) hash.place words scope words_of.EndIf) u (grouped_words (is_mixed file words) hash.place words scope words_of.EndIf m)
  directed_words hash words unit scope words_of.Other l u m = tt

  passed_words : (hash : Token) (words : List Token) (unit : Unit_so_far) (scope : Scope) (word : Word) → UnitIsWords unit → ScopeIsWords scope → IfOk (passed file hash words unit scope word) GoesOn
  passed_words hash words unit scope words_of.IfDefined u m = (u, m)
  passed_words hash words unit scope words_of.IfNotDefined u m = (u, m)
  passed_words hash words unit scope words_of.Else u m = unit_words unit (grouped (is_mixed file words) hash.place words scope words_of.Else) u (grouped_words (is_mixed file words) hash.place words scope words_of.Else m)
  passed_words hash words unit scope words_of.EndIf u m = unit_words unit (grouped (is_mixed file words) hash.place words scope words_of.EndIf) u (grouped_words (is_mixed file words) hash.place words scope words_of.EndIf m)
  passed_words hash words unit scope words_of.Include u m = (u, m)
  passed_words hash words unit scope words_of.Define u m = (u, m)
  passed_words hash words unit scope words_of.Other u m = (u, m)

  annotated_words : (hash : Token) (words : List Token) (unit : Unit_so_far) (scope : Scope) (word : Word) → UnitIsWords unit → ScopeIsWords scope → IfOk (annotated include file hash words unit scope word) GoesOn
  annotated_words hash words unit scope words_of.Include u m = included_words hash.place true words unit scope u m
  annotated_words hash words unit scope words_of.Define u m = tt
  annotated_words hash words unit scope words_of.IfDefined u m = tt
  annotated_words hash words unit scope words_of.IfNotDefined u m = tt
  annotated_words hash words unit scope words_of.Else u m = tt
  annotated_words hash words unit scope words_of.EndIf u m = tt
  annotated_words hash words unit scope words_of.Other u m = tt

  directive_words : (hash : Token) (words : List Token) (unit : Unit_so_far) (scope : Scope) → NamesAreWords words → UnitIsWords unit → ScopeIsWords scope → IfOk (directive include file hash words unit scope) GoesOn
  directive_words hash words unit scope l u m = if_either GoesOn (hash.is_ghost && not (is_ghost_path file.path)) _ _
      (if_either GoesOn (is_taken scope.groups) (annotated include file hash words unit scope (word_of words)) (Ok (unit, scope)) (annotated_words hash words unit scope (word_of words) u m) (u, m))
      (if_either GoesOn (is_taken scope.groups) (directed include file hash words unit scope (word_of words)) (passed file hash words unit scope (word_of words)) (directed_words hash words unit scope (word_of words) l u m) (passed_words hash words unit scope (word_of words) u m))

  line_words : (tokens : List Token) (unit : Unit_so_far) (scope : Scope) → NamesAreWords tokens → UnitIsWords unit → ScopeIsWords scope → IfOk (line include file tokens unit scope) GoesOn
  line_words [] unit scope l u m = (u, m)
  line_words (t ∷ ts) unit scope l u m = if_either GoesOn (is_hash t) (directive include file t ts unit scope) _ (directive_words t ts unit scope l.1 u m) (by_taken (is_taken scope.groups), m)
    where
      by_taken : (b : Bool) → UnitIsWords (if b then with_tokens unit (expansion scope.macros (t ∷ ts)) else unit)
      by_taken true = record { tokens = front_words 200001 (unit.tokens ++ expansion scope.macros (t ∷ ts)) (words_both unit.tokens (expansion scope.macros (t ∷ ts)) u.tokens (expansion_words scope.macros (t ∷ ts) m l)); headers = u.headers }
      by_taken false = u

  pub followed_words : (ls : List (List Token)) (unit : Unit_so_far) (scope : Scope) → LinesAreWords ls → UnitIsWords unit → MacrosAreWords scope.macros → IfOk (followed include file ls unit scope) GoesOn
  followed_words [] unit scope l u m = (u, m)
  followed_words (t ∷ ls) unit scope l u m = if_bound GoesOn GoesOn (line include file t unit scope) (λ (s : Unit_so_far × Scope). followed include file ls s.0 s.1) (line_words t unit scope l.0 u m)
      (λ s g. followed_words ls s.0 s.1 l.1 g.0 g.1)
