-- What is spelled is read.
use Rattle.std.specs.Prelude.{◌≡◌, ℕ, ◌≤◌, false, List, Option, Some}
use Rattle.vf_lexer.specs.declared.punctuator.Punctuator.TheVariants.{OpenParenthesis, OpenBracket}
use Rattle.vf_lexer.specs.declared.token.Token.{Token}
use Rattle.vf_syntax.specs.declared.side.Side.TheVariants.{Ghost}
use Rattle.vf_syntax.specs.declared.pattern.Pattern.{Pattern}
use Rattle.vf_syntax.specs.declared.pattern.Share.{Share}
use Rattle.vf_syntax.specs.declared.pattern.CasePattern.{CasePattern}
use Rattle.vf_syntax.specs.Walks.{head_has, is_mark}
use Rattle.vf_syntax.specs.Lists.{optional, greatest, or_none}
use Rattle.vf_syntax.specs.Assertions.{share, pattern, pattern_list, case_pattern, pattern_nesting}
use Rattle.vf_cursor.specs.Parsing.{ok}
use Rattle.vf_parse_pattern.specs.Shares.{share_at, any_share_at}
use Rattle.vf_parse_pattern.specs.Patterns.{pattern_at, patterns_at, any_patterns_at, case_pattern_at}
use Rattle.vf_grammar_read.specs.terms.Laws.{goes_on_with_term}

-- a share that tokens spell is read from them
abbrev pub SharesAreRead : Type 0
SharesAreRead = (x : Share) (ts rest : List Token) → share x ts ≡ Some rest → share_at ts ≡ ok x rest

-- a share that tokens spell, or none, is read from them, before what begins no share
abbrev pub AnySharesAreRead : Type 0
AnySharesAreRead = (x : Option Share) (ts rest : List Token) → optional share x ts ≡ Some rest → head_has (is_mark Ghost OpenBracket) rest ≡ false → any_share_at ts ≡ ok x rest

-- a pattern that tokens spell, and that nests no deeper than it may, is read from them, where what stands behind does not go on with it
abbrev pub PatternsAreRead : Type 0
PatternsAreRead = (d : ℕ) (x : Pattern) (ts rest : List Token) → pattern x ts ≡ Some rest → pattern_nesting x ≤ d → goes_on_with_term rest ≡ false → pattern_at d ts ≡ ok x rest

-- patterns between parentheses that tokens spell, and that nest no deeper than they may, are read from them
abbrev pub PatternListsAreRead : Type 0
PatternListsAreRead = (d : ℕ) (xs : List Pattern) (ts rest : List Token) → pattern_list xs ts ≡ Some rest → greatest pattern_nesting xs ≤ d → patterns_at d ts ≡ ok xs rest

-- patterns between parentheses, or none, are read from the tokens that spell them, before what begins no such list
abbrev pub AnyPatternsAreRead : Type 0
AnyPatternsAreRead = (d : ℕ) (x : Option (List Pattern)) (ts rest : List Token) → optional pattern_list x ts ≡ Some rest → or_none (greatest pattern_nesting) x ≤ d → head_has (is_mark Ghost OpenParenthesis) rest ≡ false → any_patterns_at d ts ≡ ok x rest

-- what a case is for is read from the tokens that spell it, before what begins no list of names
abbrev pub CasesAreRead : Type 0
CasesAreRead = (x : CasePattern) (ts rest : List Token) → case_pattern x ts ≡ Some rest → head_has (is_mark Ghost OpenParenthesis) rest ≡ false → case_pattern_at ts ≡ ok x rest
