-- Where a token is refused, no share, no pattern and no case could go on.
use Rattle.std.specs.Prelude.{◌≡◌, ℕ, false, List, Option, Some, Err}
use Rattle.vf_lexer.specs.declared.punctuator.Punctuator.TheVariants.{OpenParenthesis, OpenBracket}
use Rattle.vf_lexer.specs.declared.token.Token.{Token}
use Rattle.vf_syntax.specs.declared.side.Side.TheVariants.{Ghost}
use Rattle.vf_syntax.specs.declared.pattern.Share.{Share}
use Rattle.vf_syntax.specs.declared.pattern.Pattern.{Pattern}
use Rattle.vf_syntax.specs.declared.pattern.CasePattern.{CasePattern}
use Rattle.vf_syntax.specs.Walks.{head_has, is_mark}
use Rattle.vf_syntax.specs.Lists.{optional}
use Rattle.vf_syntax.specs.Assertions.{share, pattern, pattern_list, case_pattern}
use Rattle.vf_cursor.specs.declared.fault.Fault.TheVariants.{Syntax}
use Rattle.vf_parse_pattern.specs.Shares.{share_at, any_share_at}
use Rattle.vf_parse_pattern.specs.Patterns.{pattern_at, patterns_at, any_patterns_at, case_pattern_at}
use Rattle.vf_grammar_read.specs.terms.Laws.{goes_on_with_term}
use Rattle.vf_grammar_stops.specs.types.Stops.{BeginsUpTo}

-- a token is refused in a share only where no tokens that are alike up to it begin with a share
abbrev pub SharesStopAlike : Type 0
SharesStopAlike = (ts other rest : List Token) (k : ℕ) (x : Share) → share_at ts ≡ Err (Syntax k) → BeginsUpTo ts k other → share x other ≡ Some rest → ⊥

-- the same of a share, or none, before what begins no share
abbrev pub AnySharesStopAlike : Type 0
AnySharesStopAlike = (ts other rest : List Token) (k : ℕ) (x : Option Share) → any_share_at ts ≡ Err (Syntax k) → BeginsUpTo ts k other → optional share x other ≡ Some rest → head_has (is_mark Ghost OpenBracket) rest ≡ false → ⊥

-- the same of a pattern, however deep it nests, before what does not go on with it
abbrev pub PatternsStopAlike : Type 0
PatternsStopAlike = (d : ℕ) (ts other rest : List Token) (k : ℕ) (x : Pattern) → pattern_at d ts ≡ Err (Syntax k) → BeginsUpTo ts k other → pattern x other ≡ Some rest → goes_on_with_term rest ≡ false → ⊥

-- the same of patterns between parentheses, however deep they nest
abbrev pub PatternListsStopAlike : Type 0
PatternListsStopAlike = (d : ℕ) (ts other rest : List Token) (k : ℕ) (xs : List Pattern) → patterns_at d ts ≡ Err (Syntax k) → BeginsUpTo ts k other → pattern_list xs other ≡ Some rest → ⊥

-- the same of patterns between parentheses, or none, before what begins no such list
abbrev pub AnyPatternsStopAlike : Type 0
AnyPatternsStopAlike = (d : ℕ) (ts other rest : List Token) (k : ℕ) (x : Option (List Pattern)) → any_patterns_at d ts ≡ Err (Syntax k) → BeginsUpTo ts k other → optional pattern_list x other ≡ Some rest → head_has (is_mark Ghost OpenParenthesis) rest ≡ false → ⊥

-- the same of what a case is for, before what begins no list of names
abbrev pub CasesStopAlike : Type 0
CasesStopAlike = (ts other rest : List Token) (k : ℕ) (x : CasePattern) → case_pattern_at ts ≡ Err (Syntax k) → BeginsUpTo ts k other → case_pattern x other ≡ Some rest → head_has (is_mark Ghost OpenParenthesis) rest ≡ false → ⊥
