-- What an answer on one part of an annotation says of the tokens.
use Rattle.std.specs.Prelude.{◌≡◌, ℕ, suc, ◌+◌, ◌<◌, ◌≤◌, false, List, ◌∷◌, ◌++◌, drop, length, Some, Result, Ok, Err}
use Rattle.vf_base.specs.declared.place.Place.{Place}
use Rattle.vf_lexer.specs.declared.token.Token.{Token}
use Rattle.vf_syntax.specs.declared.keyword.Keyword.TheVariants.{Else}
use Rattle.vf_syntax.specs.declared.side.Side.TheVariants.{Ghost}
use Rattle.vf_syntax.specs.Walks.{head_has, is_word}
use Rattle.vf_parse_real.specs.declared.fault.ParseFault.{ParseFault}
use Rattle.vf_parse_real.specs.declared.fault.ParseFault.TheVariants as parse_faults
use Rattle.vf_parse_real.specs.Faults.{place_or}
use Rattle.vf_parse_part.specs.declared.part.GhostPart.{GhostPart}
use Rattle.vf_parse_part.specs.declared.part.GhostPart.TheVariants as parts
use Rattle.vf_parse_part.specs.declared.part.GhostTree.{GhostTree}
use Rattle.vf_parse_part.specs.Parts.{part_at, part, part_nesting, kind_of, PartAnswers}
use Rattle.vf_grammar_stops.specs.types.Stops.{first}
use Rattle.vf_grammar_depth.specs.expressions.Deep.{GoesPast, IsNotTooDeep}

-- what is known of an answer for a part of a kind from an index of the tokens on: it is what reading the tokens behind the index comes to
abbrev pub AnswersPart : Result (GhostTree × ℕ) ParseFault → GhostPart → Place → List Token → ℕ → Type 0
AnswersPart result kind end tokens at = PartAnswers result end tokens (part_at kind 128 (drop at tokens))

-- the tokens from one index up to another spell a part of a kind, which nests at most 128 deep
pub record IsTaken (kind : GhostPart) (tokens : List Token) (at : ℕ) (x : GhostTree) (next : ℕ) : Type 0 where
  pub behind : at ≤ next
  pub inside : next ≤ length tokens
  pub spelled : part x (drop at tokens) ≡ Some (drop next tokens)
  pub kind_is : kind_of x ≡ kind
  pub nesting : part_nesting x ≤ 128

-- a part that is answered stands between the two indexes
abbrev pub PartsAreTaken : Type 0
PartsAreTaken = (result : Result (GhostTree × ℕ) ParseFault) (kind : GhostPart) (end : Place) (tokens : List Token) (at : ℕ) (x : GhostTree) (next : ℕ) → at ≤ length tokens → AnswersPart result kind end tokens at
    → result ≡ Ok (x, next) → IsTaken kind tokens at x next

-- tokens do not go on with a part of a kind: an `else` goes on with a command
abbrev pub EndsPart : GhostPart → List Token → Type 0
EndsPart parts.Command rest = head_has (is_word Ghost Else) rest ≡ false
EndsPart kind rest = Unit {0}

-- an answer is a part and the index of what is behind it, unless memory ran out
abbrev pub IsAnswered : Result (GhostTree × ℕ) ParseFault → List Token → GhostTree → List Token → Type 0
IsAnswered (Ok y) tokens x rest = (y.0 ≡ x) × (drop y.1 tokens ≡ rest)
IsAnswered (Err parse_faults.Memory) tokens x rest = Unit {0}
IsAnswered (Err f) tokens x rest = ⊥

-- where tokens behind an index spell a part within 128 levels, and what is behind does not go on with it, the answer is that part; so there is no refusal
abbrev pub SpelledPartsAreAnswered : Type 0
SpelledPartsAreAnswered = (result : Result (GhostTree × ℕ) ParseFault) (end : Place) (tokens : List Token) (at : ℕ) (x : GhostTree) (rest : List Token) → at ≤ length tokens → AnswersPart result (kind_of x) end tokens at
    → part x (drop at tokens) ≡ Some rest → part_nesting x ≤ 128 → EndsPart (kind_of x) rest → IsAnswered result tokens x rest

-- a place is that of a token behind an index, or the end, and no part of a kind begins with the tokens up to and including that one, before what does not go on with it
pub record NoPartBegins (kind : GhostPart) (tokens : List Token) (at : ℕ) (end p : Place) : Type 0 where
  pub used : List Token
  pub left : List Token
  pub parts : drop at tokens ≡ used ++ left
  pub place_is : p ≡ place_or end (first left)
  pub none_begins : (others rest : List Token) (x : GhostTree) → kind_of x ≡ kind → first others ≡ first left → part x (used ++ others) ≡ Some rest → EndsPart kind rest → ⊥

-- so where an answer refuses a place
abbrev pub RefusedPartsDoNotBegin : Type 0
RefusedPartsDoNotBegin = (result : Result (GhostTree × ℕ) ParseFault) (kind : GhostPart) (end p : Place) (tokens : List Token) (at : ℕ) → at ≤ length tokens → AnswersPart result kind end tokens at
    → result ≡ Err (parse_faults.Syntax p) → NoPartBegins kind tokens at end p

-- no answer names a token as one that the language has not
abbrev pub PartsAreSupported : Type 0
PartsAreSupported = (result : Result (GhostTree × ℕ) ParseFault) (kind : GhostPart) (end p : Place) (tokens : List Token) (at : ℕ) → AnswersPart result kind end tokens at → result ≡ Err (parse_faults.Unsupported p) → ⊥

-- a place is that of a token behind an index past which the parser goes wherever two more than so much may nest, or more: it reads a part, or refuses another token further on, or the end; and enough may nest that nothing is too deep
pub record PartGoesOn (kind : GhostPart) (limit : ℕ) (tokens : List Token) (at : ℕ) (place : Place) : Type 0 where
  pub used : List Token
  pub next : Token
  pub behind : List Token
  pub parts : drop at tokens ≡ used ++ next ∷ behind
  pub place_is : place ≡ next.place
  pub past : (m : ℕ) → suc limit < m → GoesPast (suc (length behind)) (part_at kind m (drop at tokens))
  pub decided : (m : ℕ) → suc limit < m → suc (length (drop at tokens) + length (drop at tokens)) < m → IsNotTooDeep (part_at kind m (drop at tokens))

-- where an answer names a place as too deep, the parser goes past it where two more may nest
abbrev pub TooDeepPartsGoOn : Type 0
TooDeepPartsGoOn = (result : Result (GhostTree × ℕ) ParseFault) (kind : GhostPart) (end p : Place) (tokens : List Token) (at : ℕ) → at ≤ length tokens → AnswersPart result kind end tokens at
    → result ≡ Err (parse_faults.Depth p) → PartGoesOn kind 128 tokens at p
