-- The parsers of patterns and of what a case is for. A pattern's expression counts one in depth.
use Rattle.std.specs.Prelude.{ℕ, List, [], ◌∷◌, Option, Some, None, if◌then◌else◌}
use Rattle.vf_lexer.specs.declared.punctuator.Punctuator.TheVariants as punctuators
use Rattle.vf_syntax.specs.declared.side.Side.TheVariants.{Ghost}
use Rattle.vf_syntax.specs.declared.written.Name.{Name}
use Rattle.vf_syntax.specs.declared.pattern.Pattern.{Pattern}
use Rattle.vf_syntax.specs.declared.pattern.Pattern.TheVariants as patterns
use Rattle.vf_syntax.specs.declared.pattern.CasePattern.{CasePattern}
use Rattle.vf_syntax.specs.GhostExprTree.{GhostExprTree}
use Rattle.vf_syntax.specs.Walks.{head_has, is_mark, is_wild}
use Rattle.vf_cursor.specs.Parsing.{Parser, ok, ◌>>=◌, mark_at, wild_at, name_at}
use Rattle.vf_parse_term.specs.Pieces.{any_at}
use Rattle.vf_parse_term.specs.Terms.{term_at}

-- a pattern
unfoldable pub pattern_at : ℕ → Parser Pattern
pattern_at d ts = if head_has (is_mark Ghost punctuators.Question) ts then (mark_at Ghost punctuators.Question ts >>= λ q. name_at Ghost q.1 >>= λ n. ok (patterns.Binds q.0 n.0) n.1)
    else (if head_has is_wild ts then (wild_at ts >>= λ p. ok (patterns.Wild p.0) p.1) else (term_at d ts >>= λ e. ok (patterns.Is e.0) e.1))

-- patterns between parentheses
unfoldable pub patterns_at : ℕ → Parser (List Pattern)
patterns_at d ts = mark_at Ghost punctuators.OpenParenthesis ts >>= λ a. any_at (is_mark Ghost punctuators.CloseParenthesis) (pattern_at d) a.1 >>= λ xs. mark_at Ghost punctuators.CloseParenthesis xs.1 >>= λ z. ok xs.0 z.1

-- patterns between parentheses, or none
unfoldable pub any_patterns_at : ℕ → Parser (Option (List Pattern))
any_patterns_at d ts = if head_has (is_mark Ghost punctuators.OpenParenthesis) ts then (patterns_at d ts >>= λ xs. ok (Some xs.0) xs.1) else ok None ts

-- names between parentheses
unfoldable pub names_at : Parser (List Name)
names_at ts = mark_at Ghost punctuators.OpenParenthesis ts >>= λ a. any_at (is_mark Ghost punctuators.CloseParenthesis) (name_at Ghost) a.1 >>= λ xs. mark_at Ghost punctuators.CloseParenthesis xs.1 >>= λ z. ok xs.0 z.1

-- names between parentheses, or none
unfoldable pub any_names_at : Parser (Option (List Name))
any_names_at ts = if head_has (is_mark Ghost punctuators.OpenParenthesis) ts then (names_at ts >>= λ xs. ok (Some xs.0) xs.1) else ok None ts

-- what a case is for
unfoldable pub case_pattern_at : Parser CasePattern
case_pattern_at ts = name_at Ghost ts >>= λ n. any_names_at n.1 >>= λ xs. ok (record { constructor = n.0; names = xs.0 }) xs.1

-- the expressions among patterns
abbrev pub terms_of : List Pattern → List GhostExprTree
terms_of [] = []
terms_of (patterns.Is e ∷ xs) = e ∷ terms_of xs
terms_of (x ∷ xs) = terms_of xs
