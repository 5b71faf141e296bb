-- What is answered where patterns may nest deeper, and that shares and what cases are for do not nest.
use Rattle.std.specs.Prelude.{ℕ, suc, ◌+◌, ◌<◌, List, length}
use Rattle.vf_lexer.specs.declared.token.Token.{Token}
use Rattle.vf_parse_pattern.specs.Shares.{share_at, any_share_at}
use Rattle.vf_parse_pattern.specs.Patterns.{pattern_at, patterns_at, any_patterns_at, case_pattern_at}
use Rattle.vf_grammar_depth.specs.expressions.Deep.{Deepens, IsNotTooDeep}

-- nothing is too deep in a share, nor where one may stand
abbrev pub SharesDeepen : Type 0
SharesDeepen = (ts : List Token) → IsNotTooDeep (share_at ts) × IsNotTooDeep (any_share_at ts)

-- where two more may nest, a pattern is answered alike, but past each token that was too deep; and nothing is too deep where more may nest than twice as many as there are tokens, and one
abbrev pub PatternsDeepen : Type 0
PatternsDeepen = (d m : ℕ) (ts : List Token) → suc d < m → Deepens (pattern_at d ts) (pattern_at m ts) × (suc (length ts + length ts) < m → IsNotTooDeep (pattern_at m ts))

-- the same of patterns between parentheses
abbrev pub PatternListsDeepen : Type 0
PatternListsDeepen = (d m : ℕ) (ts : List Token) → suc d < m → Deepens (patterns_at d ts) (patterns_at m ts) × (suc (length ts + length ts) < m → IsNotTooDeep (patterns_at m ts))

-- the same where patterns between parentheses may stand
abbrev pub AnyPatternsDeepen : Type 0
AnyPatternsDeepen = (d m : ℕ) (ts : List Token) → suc d < m → Deepens (any_patterns_at d ts) (any_patterns_at m ts) × (suc (length ts + length ts) < m → IsNotTooDeep (any_patterns_at m ts))

-- nothing is too deep in what a case is for
abbrev pub CasesDeepen : Type 0
CasesDeepen = (ts : List Token) → IsNotTooDeep (case_pattern_at ts)
