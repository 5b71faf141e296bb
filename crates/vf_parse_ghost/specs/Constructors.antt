-- Parsers of the constructors of datatypes. The sort of an argument nests at most d deep, itself counted.
use Rattle.std.specs.Prelude.{ℕ, Bool, true, false, List, [], ◌∷◌, Option, Some, None, if◌then◌else◌}
use Rattle.vf_lexer.specs.declared.punctuator.Punctuator.TheVariants as punctuators
use Rattle.vf_syntax.specs.declared.side.Side.TheVariants.{Ghost}
use Rattle.vf_syntax.specs.declared.written.Name.{Name}
use Rattle.vf_syntax.specs.declared.item.Constructor.{Constructor}
use Rattle.vf_syntax.specs.declared.item.ConstructorArgument.{ConstructorArgument}
use Rattle.vf_syntax.specs.Walks.{head_has, is_mark, is_name}
use Rattle.vf_cursor.specs.Parsing.{Parser, ok, ◌>>=◌, mark_at, name_at, many, item_step}
use Rattle.vf_parse_term.specs.Pieces.{comma_step, some_at, any_at}
use Rattle.vf_parse_term.specs.Sorts.{sort_at}

-- a name, or none where no name comes next
unfoldable pub any_name_at : Parser (Option Name)
any_name_at ts = if head_has (is_name Ghost) ts then (name_at Ghost ts >>= λ n. ok (Some n.0) n.1) else ok None ts

-- sort [NAME]
unfoldable pub argument_at : ℕ → Parser ConstructorArgument
argument_at d ts = sort_at d ts >>= λ s. any_name_at s.1 >>= λ n. ok (record { sort = s.0; name = n.0 }) n.1

-- arguments between parentheses
unfoldable pub arguments_at : ℕ → Parser (List ConstructorArgument)
arguments_at d ts = mark_at Ghost punctuators.OpenParenthesis ts >>= λ o. any_at (is_mark Ghost punctuators.CloseParenthesis) (argument_at d) o.1 >>= λ xs. mark_at Ghost punctuators.CloseParenthesis xs.1 >>= λ z. ok xs.0 z.1

-- arguments between parentheses, or none
unfoldable pub any_arguments_at : ℕ → Parser (Option (List ConstructorArgument))
any_arguments_at d ts = if head_has (is_mark Ghost punctuators.OpenParenthesis) ts then (arguments_at d ts >>= λ xs. ok (Some xs.0) xs.1) else ok None ts

-- NAME [arguments]
unfoldable pub constructor_at : ℕ → Parser Constructor
constructor_at d ts = name_at Ghost ts >>= λ n. any_arguments_at d n.1 >>= λ xs. ok (record { name = n.0; arguments = xs.0 }) xs.1

-- "|" NAME [arguments]
unfoldable pub other_constructor_at : ℕ → Parser Constructor
other_constructor_at d ts = mark_at Ghost punctuators.Bar ts >>= λ m. constructor_at d m.1

-- one more constructor
unfoldable pub constructor_step : ℕ → List Constructor → Parser (List Constructor)
constructor_step d xs ts = item_step (other_constructor_at d) xs ts

-- the constructors behind some
abbrev pub more_constructors_at : ℕ → List Constructor → Parser (List Constructor)
more_constructors_at d = many (is_mark Ghost punctuators.Bar) (constructor_step d)

-- constructors with "|" between them
unfoldable pub constructors_at : ℕ → Parser (List Constructor)
constructors_at d ts = constructor_at d ts >>= λ x. more_constructors_at d (x.0 ∷ []) x.1

-- whether a "|" stands in front of the first constructor
unfoldable pub bar_at : Parser Bool
bar_at ts = if head_has (is_mark Ghost punctuators.Bar) ts then (mark_at Ghost punctuators.Bar ts >>= λ m. ok true m.1) else ok false ts
