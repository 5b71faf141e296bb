-- Parsers of what stands between the braces of a fixpoint. An expression nests at most d deep, itself counted.
use Rattle.std.specs.Prelude.{ℕ, Bool, List, [], if◌then◌else◌}
use Rattle.vf_lexer.specs.declared.punctuator.Punctuator.TheVariants as punctuators
use Rattle.vf_syntax.specs.declared.keyword.Keyword.TheVariants as keywords
use Rattle.vf_syntax.specs.declared.side.Side.TheVariants.{Ghost}
use Rattle.vf_syntax.specs.declared.written.Name.{Name}
use Rattle.vf_syntax.specs.declared.item.FixpointCase.{FixpointCase}
use Rattle.vf_syntax.specs.declared.item.FixpointBody.{FixpointBody}
use Rattle.vf_syntax.specs.declared.item.FixpointBody.TheVariants as bodies
use Rattle.vf_syntax.specs.Walks.{head_has, is_word}
use Rattle.vf_cursor.specs.Parsing.{Parser, ok, ◌>>=◌, mark_at, word_at, name_at, many, item_step}
use Rattle.vf_parse_term.specs.Terms.{term_at}
use Rattle.vf_parse_assertion.specs.Parsers.{return_head_at}

-- "case" pattern ":" "return" expression ";"
unfoldable pub case_at : ℕ → Parser FixpointCase
case_at d ts = return_head_at ts >>= λ h. term_at d h.1 >>= λ e. mark_at Ghost punctuators.Semicolon e.1 >>= λ z. ok (record { place = h.0.0; pattern = h.0.1; value = e.0 }) z.1

-- one more case
unfoldable pub case_step : ℕ → List FixpointCase → Parser (List FixpointCase)
case_step d xs ts = item_step (case_at d) xs ts

-- cases, one after another
abbrev pub cases_at : ℕ → Parser (List FixpointCase)
cases_at d = many (is_word Ghost keywords.Case) (case_step d) []

-- "return" expression ";"
unfoldable pub value_at : ℕ → Parser FixpointBody
value_at d ts = word_at Ghost keywords.Return ts >>= λ w. term_at d w.1 >>= λ e. mark_at Ghost punctuators.Semicolon e.1 >>= λ z. ok (bodies.Value e.0) z.1

-- "switch" "(" NAME ")" "{": the name
unfoldable pub switch_head_at : Parser Name
switch_head_at ts = word_at Ghost keywords.Switch ts >>= λ w. mark_at Ghost punctuators.OpenParenthesis w.1 >>= λ o. name_at Ghost o.1 >>= λ n. mark_at Ghost punctuators.CloseParenthesis n.1
    >>= λ z. mark_at Ghost punctuators.OpenBrace z.1 >>= λ b. ok n.0 b.1

-- "switch" "(" NAME ")" "{" cases "}"
unfoldable pub switch_at : ℕ → Parser FixpointBody
switch_at d ts = switch_head_at ts >>= λ n. cases_at d n.1 >>= λ xs. mark_at Ghost punctuators.CloseBrace xs.1 >>= λ z. ok (bodies.Switch n.0 xs.0) z.1

-- what stands between the braces
unfoldable pub fixpoint_body_at : ℕ → Parser FixpointBody
fixpoint_body_at d ts = if head_has (is_word Ghost keywords.Switch) ts then switch_at d ts else value_at d ts
