-- Parsers of ghost parameters and type parameters. The sort of a parameter nests at most d deep, itself counted.
use Rattle.std.specs.Prelude.{ℕ, Bool, true, false, ◌||◌, List, [], ◌∷◌, if◌then◌else◌}
use Rattle.vf_lexer.specs.declared.punctuator.Punctuator.TheVariants as punctuators
use Rattle.vf_lexer.specs.declared.token.Token.{Token}
use Rattle.vf_syntax.specs.declared.side.Side.TheVariants.{Ghost}
use Rattle.vf_syntax.specs.declared.written.Name.{Name}
use Rattle.vf_syntax.specs.declared.item.GhostParameter.{GhostParameter}
use Rattle.vf_syntax.specs.Walks.{head_has, is_mark}
use Rattle.vf_cursor.specs.Parsing.{Parser, ok, ◌>>=◌, mark_at, name_at, many, item_step}
use Rattle.vf_parse_term.specs.Pieces.{some_at}
use Rattle.vf_parse_term.specs.Sorts.{sort_at}
use Rattle.vf_parse_ghost.specs.declared.parameters.Heading.{Heading}

-- sort NAME, behind a `;` or not
unfoldable pub parameter_at : Bool → ℕ → Parser GhostParameter
parameter_at b d ts = sort_at d ts >>= λ s. name_at Ghost s.1 >>= λ n. ok (record { after_semicolon = b; sort = s.0; name = n.0 }) n.1

-- `,` or `;`
unfoldable pub is_separator : Token → Bool
is_separator t = is_mark Ghost punctuators.Comma t || is_mark Ghost punctuators.Semicolon t

-- ("," | ";") sort NAME
unfoldable pub next_parameter_at : ℕ → Parser GhostParameter
next_parameter_at d ts = if head_has (is_mark Ghost punctuators.Semicolon) ts then (mark_at Ghost punctuators.Semicolon ts >>= λ m. parameter_at true d m.1) else (mark_at Ghost punctuators.Comma ts >>= λ m. parameter_at false d m.1)

-- one more parameter
unfoldable pub parameter_step : ℕ → List GhostParameter → Parser (List GhostParameter)
parameter_step d xs ts = item_step (next_parameter_at d) xs ts

-- the parameters behind some
abbrev pub more_parameters_at : ℕ → List GhostParameter → Parser (List GhostParameter)
more_parameters_at d = many is_separator (parameter_step d)

-- parameters with commas or semicolons between them, or none where ")" comes next
unfoldable pub parameters_inside_at : ℕ → Parser (List GhostParameter)
parameters_inside_at d ts = if head_has (is_mark Ghost punctuators.CloseParenthesis) ts then ok [] ts else (parameter_at false d ts >>= λ x. more_parameters_at d (x.0 ∷ []) x.1)

-- parameters between parentheses
unfoldable pub parameters_at : ℕ → Parser (List GhostParameter)
parameters_at d ts = mark_at Ghost punctuators.OpenParenthesis ts >>= λ o. parameters_inside_at d o.1 >>= λ xs. mark_at Ghost punctuators.CloseParenthesis xs.1 >>= λ z. ok xs.0 z.1

-- type parameters between "<" and ">", or nothing
unfoldable pub type_parameters_at : Parser (List Name)
type_parameters_at ts = if head_has (is_mark Ghost punctuators.Less) ts then (mark_at Ghost punctuators.Less ts >>= λ o. some_at (name_at Ghost) o.1 >>= λ xs. mark_at Ghost punctuators.Greater xs.1 >>= λ z. ok xs.0 z.1) else ok [] ts

-- NAME [type parameters] parameters
unfoldable pub head_at : ℕ → Parser Heading
head_at d ts = name_at Ghost ts >>= λ n. type_parameters_at n.1 >>= λ xs. parameters_at d xs.1 >>= λ ps. ok (record { name = n.0; type_parameters = xs.0; parameters = ps.0 }) ps.1
