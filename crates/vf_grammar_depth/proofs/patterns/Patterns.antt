-- Patterns go past what was too deep, where more may nest; nothing nests in what a case is for.
use Rattle.std.proofs.Common.{ℕ, List, Option, Some, None}
use Rattle.vf_lexer.specs.declared.punctuator.Punctuator.TheVariants as punctuators
use Rattle.vf_syntax.specs.declared.side.Side.TheVariants.{Ghost}
use Rattle.vf_syntax.specs.declared.written.Name.{Name}
use Rattle.vf_syntax.specs.declared.pattern.Pattern.TheVariants as patterns
use Rattle.vf_syntax.specs.declared.pattern.CasePattern.{CasePattern}
use Rattle.vf_syntax.specs.Walks.{is_mark, is_wild}
use Rattle.vf_cursor.specs.Parsing.{wild_at}
use Rattle.vf_parse_term.specs.Terms.{term_at}
use Rattle.vf_parse_pattern.specs.Patterns.{pattern_at, patterns_at, any_patterns_at, names_at, any_names_at, case_pattern_at}
use Rattle.vf_grammar_depth.proofs.expressions.Deeper.{Deeper, then_deep, done_deep, take_deep, mark_deep, name_deep, head_deep}
use Rattle.vf_grammar_depth.proofs.terms.Pieces.{any_deep}

-- what a case is for
abbrev case_of : Name → Option (List Name) → CasePattern
case_of n xs = record { constructor = n; names = xs }

wild_deep : {j : ℕ} → Deeper j wild_at wild_at
unfolding wild_at
wild_deep = then_deep (take_deep is_wild) (λ t. done_deep t.place)

pub pattern_deep : {j : ℕ} (d m : ℕ) → Deeper j (term_at d) (term_at m) → Deeper j (pattern_at d) (pattern_at m)
unfolding pattern_at
pattern_deep d m h =
    head_deep (is_mark Ghost punctuators.Question) (then_deep (mark_deep Ghost punctuators.Question) (λ q. then_deep (name_deep Ghost) (λ n. done_deep (patterns.Binds q n))))
    (head_deep is_wild (then_deep wild_deep (λ p. done_deep (patterns.Wild p))) (then_deep h (λ e. done_deep (patterns.Is e))))

pub patterns_deep : {j : ℕ} (d m : ℕ) → Deeper j (term_at d) (term_at m) → Deeper j (patterns_at d) (patterns_at m)
unfolding patterns_at
patterns_deep d m h =
    then_deep (mark_deep Ghost punctuators.OpenParenthesis) (λ a. then_deep (any_deep (is_mark Ghost punctuators.CloseParenthesis) (pattern_deep d m h)) (λ xs. then_deep (mark_deep Ghost punctuators.CloseParenthesis) (λ z. done_deep xs)))

pub any_patterns_deep : {j : ℕ} (d m : ℕ) → Deeper j (term_at d) (term_at m) → Deeper j (any_patterns_at d) (any_patterns_at m)
unfolding any_patterns_at
any_patterns_deep d m h = head_deep (is_mark Ghost punctuators.OpenParenthesis) (then_deep (patterns_deep d m h) (λ xs. done_deep (Some xs))) (done_deep None)

names_deep : {j : ℕ} → Deeper j names_at names_at
unfolding names_at
names_deep =
    then_deep (mark_deep Ghost punctuators.OpenParenthesis) (λ a. then_deep (any_deep (is_mark Ghost punctuators.CloseParenthesis) (name_deep Ghost)) (λ xs. then_deep (mark_deep Ghost punctuators.CloseParenthesis) (λ z. done_deep xs)))

any_names_deep : {j : ℕ} → Deeper j any_names_at any_names_at
unfolding any_names_at
any_names_deep = head_deep (is_mark Ghost punctuators.OpenParenthesis) (then_deep names_deep (λ xs. done_deep (Some xs))) (done_deep None)

pub case_pattern_deep : {j : ℕ} → Deeper j case_pattern_at case_pattern_at
unfolding case_pattern_at
case_pattern_deep = then_deep (name_deep Ghost) (λ n. then_deep any_names_deep (λ xs. done_deep (case_of n xs)))
