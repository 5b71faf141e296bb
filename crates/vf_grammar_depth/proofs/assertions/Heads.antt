-- What stands in front of the cases of a `switch`, and of what each case is.
use Rattle.std.proofs.Common.{ℕ}
use Rattle.vf_lexer.specs.declared.punctuator.Punctuator.TheVariants as punctuators
use Rattle.vf_syntax.specs.declared.keyword.Keyword.TheVariants as keywords
use Rattle.vf_syntax.specs.declared.side.Side.TheVariants.{Ghost}
use Rattle.vf_syntax.specs.GhostExprTree.{GhostExprTree}
use Rattle.vf_syntax.specs.Walks.{head_has, is_word}
use Rattle.vf_cursor.specs.Parsing.{Parser, ok, ◌>>=◌, mark_at}
use Rattle.vf_parse_term.specs.Terms.{term_at}
use Rattle.vf_parse_assertion.specs.Parsers.{switch_head_at, case_head_at, return_head_at}
use Rattle.vf_grammar_depth.proofs.expressions.Deeper.{Deeper, keeps, then_deep, done_deep, mark_deep, word_deep}
use Rattle.vf_grammar_depth.proofs.expressions.Begun.{Begun, then_begun, word_begun}
use Rattle.vf_grammar_depth.proofs.terms.Whole.{term_same}
use Rattle.vf_grammar_depth.proofs.patterns.Patterns.{case_pattern_deep}

-- "(" expression ")" "{"
abbrev tested_at : Parser GhostExprTree → Parser GhostExprTree
tested_at e ts = mark_at Ghost punctuators.OpenParenthesis ts >>= λ o. e o.1 >>= λ x. mark_at Ghost punctuators.CloseParenthesis x.1 >>= λ z. mark_at Ghost punctuators.OpenBrace z.1 >>= λ b. ok x.0 b.1

tested_deep : {j : ℕ} {e g : Parser GhostExprTree} → Deeper j e g → Deeper j (tested_at e) (tested_at g)
tested_deep he = then_deep (mark_deep Ghost punctuators.OpenParenthesis) (λ o. then_deep he (λ x. then_deep (mark_deep Ghost punctuators.CloseParenthesis) (λ z. then_deep (mark_deep Ghost punctuators.OpenBrace) (λ b. done_deep x))))

pub switch_head_deep : {j : ℕ} (d m : ℕ) → Deeper j (term_at d) (term_at m) → Deeper j (switch_head_at d) (switch_head_at m)
unfolding switch_head_at
switch_head_deep d m h = then_deep (word_deep Ghost keywords.Switch) (λ w. tested_deep h)

pub switch_head_starts : (d : ℕ) → Begun (head_has (is_word Ghost keywords.Switch)) (switch_head_at d)
unfolding switch_head_at
switch_head_starts d = then_begun (word_begun Ghost keywords.Switch) (λ w. keeps (tested_deep (term_same d)))

pub case_head_deep : {j : ℕ} → Deeper j case_head_at case_head_at
unfolding case_head_at
case_head_deep = then_deep (word_deep Ghost keywords.Case) (λ w. then_deep case_pattern_deep (λ c. then_deep (mark_deep Ghost punctuators.Colon) (λ k. done_deep (w, c))))

pub return_head_deep : {j : ℕ} → Deeper j return_head_at return_head_at
unfolding return_head_at
return_head_deep = then_deep case_head_deep (λ h. then_deep (word_deep Ghost keywords.Return) (λ w. done_deep h))
